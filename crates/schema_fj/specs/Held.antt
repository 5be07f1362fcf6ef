-- What a state keeps.
use Rattle.std.specs.Prelude.{List}
use Rattle.cloud_base.specs.Values.{Id}
use Rattle.cloud_base.specs.declared.schema.CellType.{CellType}
use Rattle.fj_core.specs.declared.int_cell.IntCell.{IntCell}
use Rattle.fj_core.specs.declared.text_cell.TextCell.{TextCell}
use Rattle.fj_array.specs.declared.cell.Cell.{Cell}
use Rattle.fj_entity.specs.Fates.{Fate}

-- the types of its properties, the kept cells of each type, what became of the ids, and of these
-- the ones that were created since the fork and live, and that died since the fork
pub record Held : Type 0 where
  pub types : List CellType
  pub numbers : List (Cell × IntCell)
  pub texts : List (Cell × TextCell)
  pub fates : List (Id × Fate)
  pub born : List Id
  pub died : List Id
