-- Up to which slot the loops of a statement store.
use Rattle.std.specs.Prelude.{ℕ, ◌+◌, max, List, map}
use Rattle.cloud_base.specs.Shaped.{property_at}
use Rattle.cloud_base.specs.declared.schema.Schema.{Schema}
use Rattle.typed_program.specs.Widths.{greatest, greatest_of}
use Rattle.typed_program.specs.declared.statement.Statement.{Statement}
use Rattle.typed_program.specs.declared.statement.Statement.TheFolds.{fold-Statement}
use Rattle.typed_program.specs.declared.statement.Statement.TheOpen.{Statement-F}
use Rattle.code_gen.specs.Compile.{key_count}

-- from that of the statements in its blocks
abbrev pub reach_step : Schema → Statement-F ℕ → ℕ
reach_step schema (Statement-F.If line a first second) = max (greatest first) (greatest_of second)
reach_step schema (Statement-F.While line a block) = greatest block
reach_step schema (Statement-F.ForAll line n entity block) = max (n + 1) (greatest block)
reach_step schema (Statement-F.ForEntries line n property block) = max (n + key_count (property_at schema property)) (greatest block)
reach_step schema other = 0

-- one more than the last slot that a loop in a statement stores to, 0 where there is none
abbrev pub reach : Schema → Statement → ℕ
reach schema = fold-Statement ℕ (reach_step schema)

abbrev pub block_reach : Schema → List Statement → ℕ
block_reach schema block = greatest (map (reach schema) block)
