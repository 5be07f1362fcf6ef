-- How many events a body has at most.
use Rattle.std.specs.Prelude.{ℕ, ◌+◌, ◌*◌, max, List, [], ◌∷◌, map, Option, None, Some}
use Rattle.typed_program.specs.declared.expression.Expression.{Expression}
use Rattle.typed_program.specs.declared.expression.Expression.TheFolds.{fold-Expression}
use Rattle.typed_program.specs.declared.expression.Expression.TheOpen.{Expression-F}
use Rattle.typed_program.specs.declared.statement.Statement.{Statement}
use Rattle.typed_program.specs.declared.statement.Statement.TheFolds.{fold-Statement}
use Rattle.typed_program.specs.declared.statement.Statement.TheOpen.{Statement-F}
use Rattle.typed_program.specs.Trace.{budget}

abbrev pub total : List ℕ → ℕ
total [] = 0
total (n ∷ ns) = n + total ns

-- from how many queries the parts of an expression ask
abbrev pub queries_step : Expression-F ℕ → ℕ
queries_step (Expression-F.Int n) = 0
queries_step (Expression-F.Text bytes) = 0
queries_step (Expression-F.Truth b) = 0
queries_step (Expression-F.Slot n kind) = 0
queries_step (Expression-F.Get property keys) = total keys + 1
queries_step (Expression-F.Alive n entity) = 1
queries_step (Expression-F.Minus a) = a
queries_step (Expression-F.Not a) = a
queries_step (Expression-F.Binary operator a b) = a + b
queries_step (Expression-F.And a b) = a + b
queries_step (Expression-F.Or a b) = a + b

-- how many queries an expression asks at most
abbrev pub queries : Expression → ℕ
queries = fold-Expression ℕ queries_step

-- the greatest, 0 where there is none
abbrev pub greatest : List ℕ → ℕ
greatest [] = 0
greatest (n ∷ ns) = max n (greatest ns)

abbrev pub greatest_of : Option (List ℕ) → ℕ
greatest_of None = 0
greatest_of (Some ns) = greatest ns

-- how many events a statement has by itself, or if that is more, one of the statements in its blocks
abbrev pub width_step : Statement-F ℕ → ℕ
width_step (Statement-F.Store line n a) = queries a
width_step (Statement-F.Create line n entity keys) = total (map queries keys) + 1
width_step (Statement-F.Update line property keys operator a) = total (map queries keys) + (queries a + 1)
width_step (Statement-F.Delete line n entity) = 1
width_step (Statement-F.If line a first second) = max (queries a) (max (greatest first) (greatest_of second))
width_step (Statement-F.While line a block) = max (queries a) (greatest block)
width_step (Statement-F.ForAll line n entity block) = max 1 (greatest block)
width_step (Statement-F.ForEntries line n property block) = max 1 (greatest block)
width_step (Statement-F.Print line a) = queries a + 1
width_step (Statement-F.Yield line) = 1
width_step (Statement-F.Flush line) = 1

abbrev pub width : Statement → ℕ
width = fold-Statement ℕ width_step

-- each turn that is left begins at most one statement
abbrev pub most_events : List Statement → ℕ
most_events body = budget * greatest (map width body)
