-- Logs of cells without the cells that some ids are keys of.
use Rattle.std.specs.Prelude.{◌≡◌, refl, ℕ, Bool, true, false, List, [], ◌∷◌, Option}
use Rattle.std.specs.List.{list_any}
use Rattle.cloud_base.specs.Values.{Id}
use Rattle.cloud_base.specs.declared.key.Key.{Key}
use Rattle.cloud_base.specs.declared.key.Key.TheVariants.{Ref}
use Rattle.fj_core.specs.declared.effect.Effect.{Effect}
use Rattle.fj_array.specs.declared.cell.Cell.{Cell}
use Rattle.fj_array.specs.Cells.{At, has_id, without}
use Rattle.fj_array.specs.Grids.{GridStands}

-- without each of the ids, one by one
abbrev pub without_all : {C : Type 0} → List Id → List (At C) → List (At C)
without_all [] log = log
without_all (id ∷ ids) log = without_all ids (without id log)

abbrev pub has_any : List Id → List Key → Bool
has_any ids keys = list_any (λ id. has_id id keys) ids

-- the new grid stands for what the old one does, without the cells of the ids
abbrev pub Purges : {S C V : Type 0} → (List C → V) → (List C → Option Effect) → (S → List C → List C → Type 0) → List Id → List (Cell × S) → List (Cell × S) → Type 0
Purges {C = C} plain effect_of stands ids old new = (base delta : List (At C)) → GridStands plain effect_of stands old base delta → GridStands plain effect_of stands new (without_all ids base) (without_all ids delta)

module _ where
  abbrev order : Id
  order = record { client = 1; serial = 2 }

  pub example_without_all : (without_all {C = ℕ} (order ∷ []) (record { cell = record { property = 0; keys = Ref order ∷ [] }; change = 4 } ∷ []) ≡ []) × (has_any (order ∷ []) (Ref order ∷ []) ≡ true) × (has_any [] (Ref order ∷ []) ≡ false)
  example_without_all = (refl, refl, refl)
