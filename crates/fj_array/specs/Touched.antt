-- What a grid knows of its cells besides their states.
use Rattle.std.specs.Prelude.{◌≡◌, Bool, true, false, List, Option, Some, None}
use Rattle.std.specs.Ordering.{is_lt}
use Rattle.fj_core.specs.declared.effect.Effect.{Effect}
use Rattle.cloud_base.specs.Values.{Id}
use Rattle.fj_array.specs.declared.cell.Cell.{Cell}
use Rattle.fj_array.specs.Cells.{cell_order, has_id}
use Rattle.fj_array.specs.Grids.{kept_at}

-- nothing was done to a cell with this state, whatever it stands for
abbrev pub IsUntouched : {S C : Type 0} → (List C → Option Effect) → (S → List C → List C → Type 0) → S → Type 0
IsUntouched {S} {C} effect_of stands state = (base delta : List C) → stands state base delta → effect_of delta ≡ None

-- each kept cell that isn't among the touched is untouched
pub record IsTold {S C T : Type 0} (effect_of : List C → Option Effect) (stands : S → List C → List C → Type 0) (cells : List (Cell × S)) (touched : List (Cell × T)) : Type 0 where
  pub untouched : (q : Cell) (state : S) → kept_at cells q ≡ Some state → kept_at touched q ≡ None → IsUntouched effect_of stands state

-- a cell that is kept and has the id, and is the first such from a cell on
pub record IsHolder {S : Type 0} (id : Id) (cells : List (Cell × S)) (from cell : Cell) : Type 0 where
  pub has : has_id id cell.keys ≡ true
  pub kept : kept_at cells cell ≡ None → ⊥
  pub first : (q : Cell) → is_lt (cell_order q from) ≡ false → is_lt (cell_order q cell) ≡ true → has_id id q.keys ≡ true → kept_at cells q ≡ None

-- no cell from one on is kept that has the id
abbrev pub HasNone : {S : Type 0} → Id → List (Cell × S) → Cell → Type 0
HasNone id cells from = (q : Cell) → is_lt (cell_order q from) ≡ false → has_id id q.keys ≡ true → kept_at cells q ≡ None
