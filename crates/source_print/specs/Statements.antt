-- How statements are printed: a line each, behind the margin that they stand at, and a block two blanks deeper.
use Rattle.std.specs.Prelude.{◌≡◌, refl, ℕ, List, [], ◌∷◌, ◌++◌, Option, Some, None, codes}
use Rattle.std.specs.List.{flat_map}
use Rattle.source_tree.specs.declared.expression.Expression.{Expression}
use Rattle.source_tree.specs.declared.expression.Expression.TheVariants as e
use Rattle.source_tree.specs.declared.expression.Place.{Place}
use Rattle.source_tree.specs.declared.statement.Operation.{Operation}
use Rattle.source_tree.specs.declared.statement.Operation.TheVariants as o
use Rattle.source_tree.specs.declared.statement.Statement.{Statement}
use Rattle.source_tree.specs.declared.statement.Statement.TheFolds.{fold-Statement}
use Rattle.source_tree.specs.declared.statement.Statement.TheOpen.{Statement-F}
use Rattle.source_print.specs.Expressions.{separated, expression_text, keys_text}

abbrev pub place_text : Place Expression → List ℕ
place_text p = expression_text (e.Place p)

abbrev pub operation_text : Operation → List ℕ
operation_text o.Add = codes ".add("
operation_text o.Set = codes ".set("
operation_text o.SetIfEmpty = codes ".setIfEmpty("

-- nothing, or `[e1, e2]`
abbrev pub new_keys_text : List Expression → List ℕ
new_keys_text [] = []
new_keys_text (key ∷ keys) = codes "[" ++ keys_text (key ∷ keys)

-- the margin of what stands in a block
abbrev pub deeper : List ℕ → List ℕ
deeper margin = margin ++ codes "  "

-- a block of statements that are printed behind a margin, up to its closing brace
abbrev pub block : List ℕ → List (List ℕ → List ℕ) → List ℕ
block margin body = codes "{\n" ++ flat_map (λ (s : List ℕ → List ℕ). s (deeper margin)) body ++ margin ++ codes "}"

abbrev pub else_block : List ℕ → Option (List (List ℕ → List ℕ)) → List ℕ
else_block margin None = []
else_block margin (Some body) = codes " else " ++ block margin body

-- what stands before the block of a `foreach`
abbrev pub all_head : List ℕ → List ℕ → List ℕ
all_head x n = codes "foreach " ++ x ++ codes " in all " ++ n ++ codes " "

abbrev pub entries_head : List (List ℕ) → List ℕ → List ℕ → List ℕ
entries_head xs n p = codes "foreach " ++ separated [] xs ++ codes " in entries " ++ (n ++ codes "." ++ p ++ codes " ")

-- a statement behind a margin, from the statements in its blocks
abbrev pub statement_step : Statement-F (List ℕ → List ℕ) → List ℕ → List ℕ
statement_step (Statement-F.Define x a) margin = margin ++ codes "var " ++ x ++ codes " = " ++ expression_text a ++ codes ";\n"
statement_step (Statement-F.Create x n keys) margin = margin ++ codes "var " ++ x ++ codes " = new " ++ n ++ new_keys_text keys ++ codes ";\n"
statement_step (Statement-F.Assign x a) margin = margin ++ x ++ codes " = " ++ expression_text a ++ codes ";\n"
statement_step (Statement-F.Update p op a) margin = margin ++ place_text p ++ operation_text op ++ expression_text a ++ codes ");\n"
statement_step (Statement-F.Delete x) margin = margin ++ codes "delete " ++ x ++ codes ";\n"
statement_step (Statement-F.If a first second) margin = margin ++ codes "if " ++ expression_text a ++ codes " " ++ block margin first ++ else_block margin second ++ codes "\n"
statement_step (Statement-F.While a body) margin = margin ++ codes "while " ++ expression_text a ++ codes " " ++ block margin body ++ codes "\n"
statement_step (Statement-F.ForAll x n body) margin = margin ++ all_head x n ++ block margin body ++ codes "\n"
statement_step (Statement-F.ForEntries xs n p body) margin = margin ++ entries_head xs n p ++ block margin body ++ codes "\n"
statement_step (Statement-F.Print a) margin = margin ++ codes "print " ++ expression_text a ++ codes ";\n"
statement_step Statement-F.Yield margin = margin ++ codes "yield;\n"
statement_step Statement-F.Flush margin = margin ++ codes "flush;\n"

unfoldable pub statement_text : Statement → List ℕ → List ℕ
statement_text = fold-Statement (List ℕ → List ℕ) statement_step

-- the lines of statements behind a margin
abbrev pub body_text : List ℕ → List Statement → List ℕ
body_text margin body = flat_map (λ s. statement_text s margin) body

-- a block that stands at a margin, up to its closing brace
unfoldable pub block_text : List ℕ → List Statement → List ℕ
block_text margin body = codes "{\n" ++ body_text (deeper margin) body ++ margin ++ codes "}"

-- what stands before the block of `foreach k, l in entries A.p`, and an empty block that is two blanks deep
pub example_heads : (entries_head (codes "k" ∷ codes "l" ∷ []) (codes "A") (codes "p") ≡ codes "foreach k, l in entries A.p ") × (block (codes "  ") [] ≡ codes "{\n  }")
example_heads = (refl, refl)
