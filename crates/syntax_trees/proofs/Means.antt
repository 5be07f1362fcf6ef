-- What the tokens of a part stand for.
use Rattle.std.specs.Prelude.{◌≡◌, ℕ, List, [], ◌∷◌, ◌++◌, Option}
use Rattle.source_tokens.specs.declared.terminal.Terminal.{Terminal}
use Rattle.source_tokens.specs.declared.terminal.Terminal.TheVariants as t
use Rattle.source_tokens.specs.declared.token.Token.{Token}
use Rattle.source_tokens.specs.declared.token.Token.TheVariants.{Name, Number, Text, Fixed}
use Rattle.source_tree.specs.Expressions.{Operates, Spells, SpellsPlace, SpellsKeys}
use Rattle.source_tree.specs.Programs.{SpellsCell, SpellsKeyType, SpellsKey, SpellsKeyList, SpellsEntityKeys, SpellsProperty, SpellsPropertyList, SpellsProperties, SpellsDeclaration, SpellsDeclarations, SpellsFate, SpellsItem, SpellsItems, SpellsClient, SpellsClients, SpellsProgram}
use Rattle.source_tree.specs.Statements.{SpellsOperation, SpellsChange, SpellsNewKeys, SpellsStatement, SpellsBlock, SpellsBody, SpellsElse, SpellsEach}
use Rattle.source_tree.specs.declared.expression.Expression.{Expression}
use Rattle.source_tree.specs.declared.expression.Level.{Level}
use Rattle.source_tree.specs.declared.expression.Level.TheVariants as l
use Rattle.source_tree.specs.declared.expression.Operator.{Operator}
use Rattle.source_tree.specs.declared.program.Client.{Client}
use Rattle.source_tree.specs.declared.program.Item.{Item}
use Rattle.source_tree.specs.declared.program.Key.{Key}
use Rattle.source_tree.specs.declared.program.Property.{Property}
use Rattle.source_tree.specs.declared.statement.Operation.{Operation}
use Rattle.source_tree.specs.declared.statement.Statement.{Statement}
use Rattle.syntax_judge.specs.declared.kind.Kind.TheVariants as k
use Rattle.syntax_judge.specs.declared.symbol.Part.{Part}
use Rattle.syntax_judge.specs.declared.symbol.Part.TheVariants as p
use Rattle.syntax_judge.specs.declared.symbol.Symbol.{Symbol}
use Rattle.syntax_judge.specs.declared.symbol.Symbol.TheVariants as s
use Rattle.syntax_judge.specs.declared.symbol.Symbol.TheVariants.{Open}

-- something is spelled so
abbrev pub Some_tree : {A : Type 0} → (A → List Token → Type 0) → List Token → Type 0
Some_tree {A} spells u = (x : A) × spells x u

abbrev pub Some_expression : Level → List Token → Type 0
Some_expression level = Some_tree (Spells level)

abbrev pub Some_statement : List Token → Type 0
Some_statement = Some_tree SpellsStatement

-- names of a foreach, with all that stands behind them
abbrev pub Some_each : List Token → Type 0
Some_each v = (xs : List (List ℕ)) × (n : List ℕ) × (f : List ℕ) × (body : List Statement) × SpellsEach xs n f body v

-- what goes on with an expression of this level: with each, it gives one of the level above
abbrev pub Goes_on : Level → Level → List Token → Type 0
Goes_on level above v = (a : Expression) (u : List Token) → Spells level a u → Some_expression above (u ++ v)

abbrev pub Some_operator : Level → List Token → Type 0
Some_operator level u = (w : Terminal) × (op : Operator) × Operates level w op × (u ≡ Fixed w ∷ [])

-- a part with a tree of its own has one; a tail gives one with what may stand before it
abbrev pub Means : Part → List Token → Type 0
Means p.Program = Some_tree SpellsProgram
Means p.DeclarationTail = Some_tree SpellsDeclarations
Means p.Declaration = Some_tree SpellsDeclaration
Means p.EntityKeys = Some_tree SpellsEntityKeys
Means p.Key = Some_tree SpellsKey
Means p.KeyType = Some_tree SpellsKeyType
Means p.KeyTail = λ v. (x : Key) (u : List Token) → SpellsKey x u → Some_tree SpellsKeyList (u ++ v)
Means p.Properties = Some_tree SpellsProperties
Means p.PropertiesInside = Some_tree SpellsPropertyList
Means p.PropertyTail = λ v. (x : Property) (u : List Token) → SpellsProperty x u → Some_tree SpellsPropertyList (u ++ v)
Means p.Property = Some_tree SpellsProperty
Means p.CellType = Some_tree SpellsCell
Means p.Client = Some_tree SpellsClient
Means p.ClientTail = λ v. (xs : List Client) × (plan : Option (List Item)) × SpellsClients xs plan v
Means p.Block = Some_tree SpellsBlock
Means p.StatementTail = Some_tree SpellsBody
Means p.Statement = Some_statement
Means p.Initializer = λ v. (x : List ℕ) → Some_statement (Fixed t.Var ∷ Name x ∷ Fixed t.Assign ∷ v)
Means p.NewKeys = Some_tree SpellsNewKeys
Means p.AfterName = λ v. (x : List ℕ) → Some_statement (Name x ∷ v)
Means p.AfterDot = λ v. (x : List ℕ) → Some_statement (Name x ∷ Fixed t.Dot ∷ v)
Means p.Change = λ v. (op : Operation) × (e : Expression) × SpellsChange op e v
Means p.Operation = Some_tree SpellsOperation
Means p.ForeachTail = λ v. (x : List ℕ) → Some_statement (Fixed t.Foreach ∷ Name x ∷ v)
Means p.ForeachIn = λ v. (x : List ℕ) → Some_statement (Fixed t.Foreach ∷ Name x ∷ Fixed t.In ∷ v)
Means p.NameTail = λ v. (x : List ℕ) → Some_each (Name x ∷ v)
Means p.Entries = λ v. (x : List ℕ) → Some_each (Name x ∷ Fixed t.In ∷ v)
Means p.Else = Some_tree SpellsElse
Means p.Expression = Some_expression l.Choice
Means p.OrTail = Goes_on l.Choice l.Choice
Means p.Conjunction = Some_expression l.Conjunction
Means p.AndTail = Goes_on l.Conjunction l.Conjunction
Means p.Negation = Some_expression l.Negation
Means p.Comparison = Some_expression l.Comparison
Means p.ComparisonTail = Goes_on l.Sum l.Comparison
Means p.Comparator = Some_operator l.Comparison
Means p.Sum = Some_expression l.Sum
Means p.SumTail = Goes_on l.Sum l.Sum
Means p.SumOperator = Some_operator l.Sum
Means p.Term = Some_expression l.Term
Means p.TermTail = Goes_on l.Term l.Term
Means p.TermOperator = Some_operator l.Term
Means p.Factor = Some_expression l.Factor
Means p.PlaceTail = λ v. (n : List ℕ) → Some_tree SpellsPlace (Name n ∷ v)
Means p.ExpressionTail = λ v. (a : Expression) (u : List Token) → Spells l.Choice a u → Some_tree SpellsKeys (u ++ v)
Means p.ItemTail = Some_tree SpellsItems
Means p.Item = Some_tree SpellsItem
Means p.Fate = Some_tree SpellsFate

-- the tokens of a way, one symbol after the other, give what P says of them together
abbrev pub Takes : List Symbol → (List Token → Type 0) → Type 0
Takes [] P = P []
Takes (s.Token k.Name ∷ st) P = (n : List ℕ) → Takes st (λ v. P (Name n ∷ v))
Takes (s.Token k.Number ∷ st) P = (n : ℕ) → Takes st (λ v. P (Number n ∷ v))
Takes (s.Token k.Text ∷ st) P = (bytes : List ℕ) → Takes st (λ v. P (Text bytes ∷ v))
Takes (s.Token (k.Fixed w) ∷ st) P = Takes st (λ v. P (Fixed w ∷ v))
Takes (s.Open q ∷ st) P = (u : List Token) → Means q u → Takes st (λ v. P (u ++ v))

-- the same, where the last part's tokens have nothing behind them
abbrev pub Gives : List Symbol → (List Token → Type 0) → Type 0
Gives [] P = P []
Gives (s.Token k.Name ∷ st) P = (n : List ℕ) → Gives st (λ v. P (Name n ∷ v))
Gives (s.Token k.Number ∷ st) P = (n : ℕ) → Gives st (λ v. P (Number n ∷ v))
Gives (s.Token k.Text ∷ st) P = (bytes : List ℕ) → Gives st (λ v. P (Text bytes ∷ v))
Gives (s.Token (k.Fixed w) ∷ st) P = Gives st (λ v. P (Fixed w ∷ v))
Gives (s.Open q ∷ []) P = (u : List Token) → Means q u → P u
Gives (s.Open q ∷ x ∷ st) P = (u : List Token) → Means q u → Gives (x ∷ st) (λ v. P (u ++ v))

-- each of these ways gives the part
abbrev pub AllGive : Part → List (List Symbol) → Type 0
AllGive q [] = Unit {0}
AllGive q (way ∷ ways) = Gives way (Means q) × AllGive q ways
