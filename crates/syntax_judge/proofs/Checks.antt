-- One test for each part: that its table holds all of its ways, and that no token can both go on with a part and
-- follow it.
use Rattle.std.specs.Prelude.{Bool, true, false, not, ◌&&◌, ◌||◌, List, [], ◌∷◌, Option, Some, None, is_some, map}
use Rattle.std.specs.List.{list_all, list_any}
use denote.Enum.Bare.{sameb}
use Rattle.source_tokens.specs.declared.terminal.Terminal.{Terminal}
use Rattle.source_tokens.specs.declared.terminal.Terminal.TheVariants as t
use Rattle.syntax_judge.specs.Grammar.{productions}
use Rattle.syntax_judge.specs.Tables.{is_same_kind, is_nullable, are_nullable, table, advance}
use Rattle.syntax_judge.specs.contracts.symbol.Part.{the_type}
use Rattle.syntax_judge.specs.declared.kind.Kind.{Kind}
use Rattle.syntax_judge.specs.declared.kind.Kind.TheVariants as k
use Rattle.syntax_judge.specs.declared.symbol.Part.{Part}
use Rattle.syntax_judge.specs.declared.symbol.Part.TheVariants as p
use Rattle.syntax_judge.specs.declared.symbol.Symbol.{Symbol}
use Rattle.syntax_judge.specs.declared.symbol.Symbol.TheVariants as s
use Rattle.syntax_judge.specs.declared.symbol.Symbol.TheVariants.{Open}

-- every kind of token
abbrev terminals : List Terminal
terminals = t.Add ∷ t.Alive ∷ t.All ∷ t.And ∷ t.Array ∷ t.CInt ∷ t.CString ∷ t.Client ∷ t.Delete ∷ t.Else ∷ t.Entity ∷ t.Entries ∷ t.False ∷ t.Flush ∷ t.Foreach ∷ t.Global ∷ t.Hold ∷ t.If ∷ t.In ∷ t.Int ∷ t.LosePush ∷ t.LoseReply ∷ t.New ∷ t.Not ∷ t.Or ∷ t.Pass ∷ t.Print ∷ t.Schedule ∷ t.Schema ∷ t.Serve ∷ t.Set ∷ t.SetIfEmpty ∷ t.String ∷ t.True ∷ t.Twice ∷ t.Var ∷ t.While ∷ t.Yield ∷ t.OpenBrace ∷ t.CloseBrace ∷ t.OpenBracket ∷ t.CloseBracket ∷ t.OpenParen ∷ t.CloseParen ∷ t.Colon ∷ t.Semicolon ∷ t.Comma ∷ t.Dot ∷ t.Assign ∷ t.Equal ∷ t.NotEqual ∷ t.Less ∷ t.LessOrEqual ∷ t.Greater ∷ t.GreaterOrEqual ∷ t.Plus ∷ t.Concat ∷ t.Minus ∷ t.Times ∷ t.Divide ∷ t.Remainder ∷ []

abbrev pub kinds : List Kind
kinds = k.Name ∷ k.Number ∷ k.Text ∷ map k.Fixed terminals

-- the tokens that go on with a part that could have ended
abbrev place_goes_on : List Terminal
place_goes_on = t.Dot ∷ t.OpenBracket ∷ []

abbrev term_goes_on : List Terminal
term_goes_on = t.Times ∷ t.Divide ∷ t.Remainder ∷ place_goes_on

abbrev sum_goes_on : List Terminal
sum_goes_on = t.Plus ∷ t.Minus ∷ t.Concat ∷ term_goes_on

abbrev comparison_goes_on : List Terminal
comparison_goes_on = t.Equal ∷ t.NotEqual ∷ t.Less ∷ t.LessOrEqual ∷ t.Greater ∷ t.GreaterOrEqual ∷ sum_goes_on

abbrev conjunction_goes_on : List Terminal
conjunction_goes_on = t.And ∷ comparison_goes_on

abbrev expression_goes_on : List Terminal
expression_goes_on = t.Or ∷ conjunction_goes_on

abbrev pub goes_on : Part → List Terminal
goes_on p.EntityKeys = t.OpenBracket ∷ []
goes_on p.ClientTail = t.Client ∷ t.Schedule ∷ []
goes_on p.Program = t.Client ∷ t.Schedule ∷ []
goes_on p.NewKeys = t.OpenBracket ∷ []
goes_on p.Else = t.Else ∷ []
goes_on p.Statement = t.Else ∷ []
goes_on p.PlaceTail = place_goes_on
goes_on p.Factor = place_goes_on
goes_on p.TermTail = term_goes_on
goes_on p.Term = term_goes_on
goes_on p.SumTail = sum_goes_on
goes_on p.Sum = sum_goes_on
goes_on p.ComparisonTail = comparison_goes_on
goes_on p.Comparison = comparison_goes_on
goes_on p.Negation = comparison_goes_on
goes_on p.AndTail = conjunction_goes_on
goes_on p.Conjunction = conjunction_goes_on
goes_on p.OrTail = expression_goes_on
goes_on p.Expression = expression_goes_on
goes_on _ = []

abbrev pub clash : Symbol → List Kind
clash (s.Token k) = []
clash (s.Open p) = map k.Fixed (goes_on p)

abbrev pub has : List Kind → Kind → Bool
has ks k = list_any (is_same_kind k) ks

abbrev pub starts : List Symbol → Kind → Bool
starts st k = is_some (advance st k)

-- what goes on with a part on the stack can't begin what is below it
abbrev pub fine : List Symbol → Bool
fine [] = true
fine (s ∷ st) = list_all (λ k. not (starts st k)) (clash s) && fine st

abbrev pub same_symbols : List Symbol → List Symbol → Bool
same_symbols [] [] = true
same_symbols (s.Token j ∷ a) (s.Token k ∷ b) = is_same_kind j k && same_symbols a b
same_symbols (s.Open p ∷ a) (s.Open q ∷ b) = sameb the_type p q && same_symbols a b
same_symbols _ _ = false

abbrev pub agrees : Option (List Symbol) → Option (List Symbol) → Bool
agrees None r = true
agrees (Some q) None = false
agrees (Some q) (Some r) = same_symbols q r

abbrev pub implies : Bool → Bool → Bool
implies a b = not a || b

-- the way is fine above all that may follow the part
abbrev pub way_fits : List Kind → List Symbol → Bool
way_fits outer [] = true
way_fits outer (s ∷ st) = list_all (λ k. not (starts st k) && implies (are_nullable st) (has outer k)) (clash s) && way_fits outer st

abbrev pub way_passes : Part → List Symbol → Bool
way_passes p way = list_all (λ k. agrees (advance way k) (table (s.Open p) k)) kinds && (way_fits (clash (s.Open p)) way && implies (are_nullable way) (is_nullable (s.Open p)))

abbrev pub passes : Part → Bool
passes p = list_all (way_passes p) (productions p) && implies (is_nullable (s.Open p)) (list_all (λ k. implies (is_some (table (s.Open p) k)) (has (clash (s.Open p)) k)) kinds)
