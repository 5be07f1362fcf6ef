-- The height of expressions, statements and bodies.
use Rattle.std.specs.Prelude.{ℕ, ◌+◌, max, List, [], ◌∷◌, map, Option, Some, None}
use Rattle.source_tree.specs.declared.expression.Expression.{Expression}
use Rattle.source_tree.specs.declared.expression.Expression.TheFolds.{fold-Expression}
use Rattle.source_tree.specs.declared.expression.Expression.TheOpen.{Expression-F}
use Rattle.source_tree.specs.declared.expression.Expression.TheVariants as e
use Rattle.source_tree.specs.declared.expression.Place.{Place}
use Rattle.source_tree.specs.declared.expression.Place.TheVariants as place
use Rattle.source_tree.specs.declared.statement.Statement.{Statement}
use Rattle.source_tree.specs.declared.statement.Statement.TheFolds.{fold-Statement}
use Rattle.source_tree.specs.declared.statement.Statement.TheOpen.{Statement-F}

-- the greatest, 0 where there is none
abbrev pub highest : List ℕ → ℕ
highest [] = 0
highest (n ∷ ns) = max n (highest ns)

abbrev pub highest_of : Option (List ℕ) → ℕ
highest_of None = 0
highest_of (Some ns) = highest ns

-- of a place, from the heights of its keys
abbrev pub place_height : Place ℕ → ℕ
place_height (place.Name x) = 1
place_height (place.Field x p) = 2
place_height (place.Entry x keys p) = highest keys + 1

-- of an expression, from the heights of its parts
abbrev pub expression_step : Expression-F ℕ → ℕ
expression_step (Expression-F.Number n) = 1
expression_step (Expression-F.Text bytes) = 1
expression_step (Expression-F.Truth b) = 1
expression_step (Expression-F.Alive x) = 1
expression_step (Expression-F.Place p) = place_height p
expression_step (Expression-F.Minus a) = a + 1
expression_step (Expression-F.Not a) = a + 1
expression_step (Expression-F.Binary op a b) = max a b + 1

abbrev pub height : Expression → ℕ
height = fold-Expression ℕ expression_step

-- of a statement, from the heights of the statements in its blocks: one more than the greatest of its
-- expressions, its place and those, 1 where it has none
abbrev pub statement_step : Statement-F ℕ → ℕ
statement_step (Statement-F.Define x a) = height a + 1
statement_step (Statement-F.Create x n keys) = highest (map height keys) + 1
statement_step (Statement-F.Assign x a) = height a + 1
statement_step (Statement-F.Update p op a) = max (height (e.Place p)) (height a) + 1
statement_step (Statement-F.Delete x) = 1
statement_step (Statement-F.If a first second) = max (height a) (max (highest first) (highest_of second)) + 1
statement_step (Statement-F.While a body) = max (height a) (highest body) + 1
statement_step (Statement-F.ForAll x n body) = highest body + 1
statement_step (Statement-F.ForEntries xs n p body) = highest body + 1
statement_step (Statement-F.Print a) = height a + 1
statement_step Statement-F.Yield = 1
statement_step Statement-F.Flush = 1

abbrev pub statement_height : Statement → ℕ
statement_height = fold-Statement ℕ statement_step

abbrev pub body_height : List Statement → ℕ
body_height body = highest (map statement_height body)
