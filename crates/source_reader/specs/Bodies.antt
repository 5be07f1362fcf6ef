-- How statements and bodies are read from tokens.
use Rattle.std.specs.Prelude.{ℕ, zero, suc, ◌+◌, ◌-◌, max, List, [], ◌∷◌, ◌++◌, length, Option, Some, None}
use Rattle.source_tokens.specs.declared.terminal.Terminal.TheVariants as t
use Rattle.source_tokens.specs.declared.token.Token.{Token}
use Rattle.source_tokens.specs.declared.token.Token.TheVariants.{Name, Fixed}
use Rattle.source_tree.specs.declared.expression.Level.TheVariants as l
use Rattle.source_tree.specs.declared.expression.Expression.{Expression}
use Rattle.source_tree.specs.declared.expression.Place.{Place}
use Rattle.source_tree.specs.declared.expression.Place.TheVariants as place
use Rattle.source_tree.specs.declared.statement.Operation.{Operation}
use Rattle.source_tree.specs.declared.statement.Operation.TheVariants as o
use Rattle.source_tree.specs.declared.statement.Statement.{Statement}
use Rattle.source_tree.specs.declared.statement.Statement.TheVariants as s
use Rattle.source_reader.specs.Reading.{Reads, ReadsHigh, Reader, ◌>>=◌, within, behind, name_at, keys_by, entry_by, level_at}

-- what reads blocks of at most a height
abbrev pub Blocks : Type 0
Blocks = ℕ → List Token → ReadsHigh (List Statement)

unfoldable pub operation_at : List Token → Reads Operation
operation_at (Fixed t.Add ∷ rest) = Some (o.Add, rest)
operation_at (Fixed t.Set ∷ rest) = Some (o.Set, rest)
operation_at (Fixed t.SetIfEmpty ∷ rest) = Some (o.SetIfEmpty, rest)
operation_at tokens = None

-- an expression lower than the statement that it ends, and its semicolon
unfoldable pub ended_by : Reader → Reader
ended_by inner high tokens = inner (high - 1) tokens >>= λ a. behind t.Semicolon a.2 >>= λ rest. Some (a.0, a.1, rest)

-- an expression in parentheses lower than its statement, and a semicolon
unfoldable pub argument_by : Reader → Reader
argument_by inner high tokens = behind t.OpenParen tokens >>= λ ts. inner (high - 1) ts >>= λ a. behind t.CloseParen a.2 >>= λ ts. behind t.Semicolon ts >>= λ rest. Some (a.0, a.1, rest)

-- an update of a place of this height, behind the dot
unfoldable pub change_by : Reader → ℕ → Place Expression → ℕ → List Token → ReadsHigh Statement
change_by inner high p height tokens = operation_at tokens >>= λ op. argument_by inner high op.1 >>= λ a. within high (s.Update p op.0 a.0) (max height a.1 + 1) a.2

-- what stands behind a name and a dot
unfoldable pub dotted_by : Reader → ℕ → List ℕ → List Token → ReadsHigh Statement
dotted_by inner high x tokens = elim (name_at tokens) [
  | Some p ↦ behind t.Dot p.1 >>= λ ts. change_by inner high (place.Field x p.0) 2 ts
  | None ↦ change_by inner high (place.Name x) 1 tokens
]

-- an update of an entry
unfoldable pub entered_by : Reader → ℕ → List ℕ → List Token → ReadsHigh Statement
entered_by inner high x tokens = entry_by inner (high - 1) x tokens >>= λ p. behind t.Dot p.2 >>= λ ts. change_by inner high p.0 p.1 ts

unfoldable pub assign_by : Reader → ℕ → List ℕ → List Token → ReadsHigh Statement
assign_by inner high x tokens = ended_by inner high tokens >>= λ a. within high (s.Assign x a.0) (a.1 + 1) a.2

-- a statement that begins with this name
unfoldable pub named_by : Reader → ℕ → List ℕ → List Token → ReadsHigh Statement
named_by inner high x (Fixed t.Assign ∷ rest) = assign_by inner high x rest
named_by inner high x (Fixed t.Dot ∷ rest) = dotted_by inner high x rest
named_by inner high x (Fixed t.OpenBracket ∷ rest) = entered_by inner high x rest
named_by inner high x tokens = None

-- keys in brackets, if there are any
unfoldable pub new_keys_by : Reader → ℕ → List Token → ReadsHigh (List Expression)
new_keys_by inner high tokens = elim (behind t.OpenBracket tokens) [
  | Some rest ↦ keys_by (length rest) inner (high - 1) [] 0 rest
  | None ↦ Some ([], 0, tokens)
]

unfoldable pub create_by : Reader → ℕ → List ℕ → List Token → ReadsHigh Statement
create_by inner high x tokens = name_at tokens >>= λ n. new_keys_by inner high n.1 >>= λ keys. behind t.Semicolon keys.2 >>= λ rest. within high (s.Create x n.0 keys.0) (keys.1 + 1) rest

-- what a variable of this name is
unfoldable pub initial_by : Reader → ℕ → List ℕ → List Token → ReadsHigh Statement
initial_by inner high x tokens = elim (behind t.New tokens) [
  | Some rest ↦ create_by inner high x rest
  | None ↦ ended_by inner high tokens >>= λ a. within high (s.Define x a.0) (a.1 + 1) a.2
]

unfoldable pub define_by : Reader → ℕ → List Token → ReadsHigh Statement
define_by inner high tokens = name_at tokens >>= λ x. behind t.Assign x.1 >>= λ ts. initial_by inner high x.0 ts

unfoldable pub delete_at : ℕ → List Token → ReadsHigh Statement
delete_at high tokens = name_at tokens >>= λ x. behind t.Semicolon x.1 >>= λ rest. within high (s.Delete x.0) 1 rest

unfoldable pub print_by : Reader → ℕ → List Token → ReadsHigh Statement
print_by inner high tokens = ended_by inner high tokens >>= λ a. within high (s.Print a.0) (a.1 + 1) a.2

-- a statement of one word
unfoldable pub word_at : Statement → ℕ → List Token → ReadsHigh Statement
word_at statement high tokens = behind t.Semicolon tokens >>= λ rest. within high statement 1 rest

unfoldable pub else_by : Blocks → ℕ → List Token → ReadsHigh (Option (List Statement))
else_by block high tokens = elim (behind t.Else tokens) [
  | Some ts ↦ block (high - 1) ts >>= λ b. Some (Some b.0, b.1, b.2)
  | None ↦ Some (None, 0, tokens)
]

unfoldable pub if_by : Reader → Blocks → ℕ → List Token → ReadsHigh Statement
if_by inner block high tokens = inner (high - 1) tokens >>= λ a. block (high - 1) a.2 >>= λ first. else_by block high first.2
    >>= λ second. within high (s.If a.0 first.0 second.0) (max a.1 (max first.1 second.1) + 1) second.2

unfoldable pub while_by : Reader → Blocks → ℕ → List Token → ReadsHigh Statement
while_by inner block high tokens = inner (high - 1) tokens >>= λ a. block (high - 1) a.2 >>= λ body. within high (s.While a.0 body.0) (max a.1 body.1 + 1) body.2

-- NAME in all
unfoldable pub all_at : List Token → Reads (List ℕ)
all_at tokens = name_at tokens >>= λ x. behind t.In x.1 >>= λ ts. behind t.All ts >>= λ rest. Some (x.0, rest)

unfoldable pub for_all_by : Blocks → ℕ → List ℕ → List Token → ReadsHigh Statement
for_all_by block high x tokens = name_at tokens >>= λ n. block (high - 1) n.1 >>= λ body. within high (s.ForAll x n.0 body.0) (body.1 + 1) body.2

-- further names, at most so many, behind those that are there, up to `in`
unfoldable pub names_by : ℕ → List (List ℕ) → List Token → Reads (List (List ℕ))
names_by zero names tokens = None
names_by (suc n) names tokens = name_at tokens >>= λ x. elim (behind t.Comma x.1) [
  | Some rest ↦ names_by n (names ++ x.0 ∷ []) rest
  | None ↦ behind t.In x.1 >>= λ rest. Some (names ++ x.0 ∷ [], rest)
]

-- entries NAME . NAME
unfoldable pub entries_at : List Token → Option (List ℕ × List ℕ × List Token)
entries_at tokens = behind t.Entries tokens >>= λ ts. name_at ts >>= λ n. behind t.Dot n.1 >>= λ ts. name_at ts >>= λ p. Some (n.0, p.0, p.1)

unfoldable pub for_entries_by : Blocks → ℕ → List Token → ReadsHigh Statement
for_entries_by block high tokens = names_by (length tokens) [] tokens >>= λ xs. entries_at xs.1 >>= λ p. block (high - 1) p.2
    >>= λ body. within high (s.ForEntries xs.0 p.0 p.1 body.0) (body.1 + 1) body.2

unfoldable pub foreach_by : Blocks → ℕ → List Token → ReadsHigh Statement
foreach_by block high tokens = elim (all_at tokens) [
  | Some x ↦ for_all_by block high x.0 x.1
  | None ↦ for_entries_by block high tokens
]

unfoldable pub statement_by : Reader → Blocks → ℕ → List Token → ReadsHigh Statement
statement_by inner block high (Name x ∷ rest) = named_by inner high x rest
statement_by inner block high (Fixed t.Var ∷ rest) = define_by inner high rest
statement_by inner block high (Fixed t.Delete ∷ rest) = delete_at high rest
statement_by inner block high (Fixed t.If ∷ rest) = if_by inner block high rest
statement_by inner block high (Fixed t.While ∷ rest) = while_by inner block high rest
statement_by inner block high (Fixed t.Foreach ∷ rest) = foreach_by block high rest
statement_by inner block high (Fixed t.Print ∷ rest) = print_by inner high rest
statement_by inner block high (Fixed t.Yield ∷ rest) = word_at s.Yield high rest
statement_by inner block high (Fixed t.Flush ∷ rest) = word_at s.Flush high rest
statement_by inner block high tokens = None

-- further statements, at most so many, behind those that are there, up to the closing brace
unfoldable pub body_by : ℕ → (ℕ → List Token → ReadsHigh Statement) → ℕ → List Statement → ℕ → List Token → ReadsHigh (List Statement)
body_by zero statement high body height tokens = None
body_by (suc n) statement high body height tokens = elim (behind t.CloseBrace tokens) [
  | Some rest ↦ Some (body, height, rest)
  | None ↦ statement high tokens >>= λ next. body_by n statement high (body ++ next.0 ∷ []) (max height next.1) next.2
]

-- a block, with at most so many blocks, brackets and prefix operators round its parts
unfoldable pub block_at : ℕ → Blocks
block_at zero high tokens = None
block_at (suc depth) high tokens = behind t.OpenBrace tokens >>= λ ts. body_by (length ts) (statement_by (level_at depth l.Choice) (block_at depth)) high [] 0 ts
