-- A grid of a joiner after the effects of a child's grid.
use Rattle.std.proofs.Common.{◌≡◌, refl, sym, ◌∙◌, ap, subst, Bool, true, false, cond, List, [], ◌∷◌, ◌++◌}
use Rattle.std.specs.Prelude.{Option, not, ◌||◌}
use Rattle.std.specs.List.{flat_map}
use Rattle.cloud_base.specs.Log as plain_log
use Rattle.std.specs.Cmp.{IsTotalOrder}
use Rattle.cloud_base.specs.Values.{Id}
use Rattle.cloud_base.specs.declared.schema.Schema.{Schema}
use Rattle.cloud_base.specs.declared.schema.CellType.{CellType}
use Rattle.cloud_base.specs.declared.update.CellChange.{CellChange}
use Rattle.cloud_base.specs.declared.update.Update.{Update}
use Rattle.fj_core.specs.declared.effect.Effect.{Effect}
use Rattle.fj_array.specs.declared.cell.Cell.{Cell}
use Rattle.fj_array.specs.declared.effect.CellEffect.{CellEffect}
use Rattle.fj_array.specs.Cells.{At, of_cell, cell_order, has_id, without}
use Rattle.fj_array.specs.Effects.{cell_of}
use Rattle.fj_array.specs.Grids.{GridStands}
use Rattle.schema_fj.proofs.CellFacts.{IsLawful, of_cell-append}
use Rattle.schema_fj.proofs.CellFacts.{Apart, of_cell-without}
use Rattle.schema_fj.specs.States.{changes_in, left_out}
use Rattle.schema_fj.specs.Purged.{without_all, has_any, Purges}
use Rattle.schema_fj.proofs.Changes.{ByParts, KeysApart, changes_in-append}
use Rattle.schema_fj.proofs.CellLaws.{no_changes, of_changes, grid_same}
use Rattle.schema_fj.specs.Joined.{joined}
use Rattle.schema_fj.proofs.JoinLaws.{Tells, effects_do}

-- whether a cell is left out
abbrev pub out : Schema → CellType → List Update → Cell → Bool
out schema type whole x = left_out schema type whole x.property x.keys

-- ---- ids that are purged one by one

cut : {C : Type 0} (a b : Bool) (l : List C) → cond b [] (cond (not a) l []) ≡ cond (a || b) [] l
cut true true l = refl
cut true false l = refl
cut false b l = refl

cut_twice : {C : Type 0} (a b : Bool) (l : List C) → cond b [] (cond a [] l) ≡ cond (a || b) [] l
cut_twice true true l = refl
cut_twice true false l = refl
cut_twice false b l = refl

pub of_cell-without_all : {C : Type 0} → Apart → (ids : List Id) (x : Cell) (log : List (At C)) → of_cell x (without_all ids log) ≡ cond (has_any ids x.keys) [] (of_cell x log)
of_cell-without_all apart [] x log = refl
of_cell-without_all apart (id ∷ ids) x log =
    of_cell-without_all apart ids x (without id log)
    ∙ ap (λ l. cond (has_any ids x.keys) [] l) (of_cell-without apart id x log)
    ∙ cut (has_id id x.keys) (has_any ids x.keys) (of_cell x log)

module _ {S C V : Type 0} {plain : List C → V} {effect_of : List C → Option Effect} {stands : S → List C → List C → Type 0} (laws : IsLawful plain effect_of stands)
    (parts : ByParts) (keys_apart : KeysApart) (apart : Apart) (total : IsTotalOrder cell_order)
    (schema : Schema) (type : CellType) (of : CellChange → List C) where
  abbrev cells_in : List Update → List Update → List (At C)
  cells_in whole log = changes_in schema type of whole log

  -- a grid without the cells of the newly dead stands for what the longer log leaves in
  pub purged_stands : (cells : List (Cell × S)) (before after base delta : List Update) (ids : List Id)
      → ((x : Cell) → out schema type after x ≡ (out schema type before x || has_any ids x.keys))
      → GridStands plain effect_of stands cells (without_all ids (changes_in schema type of before base)) (without_all ids (changes_in schema type of before delta))
      → GridStands plain effect_of stands cells (changes_in schema type of after base) (changes_in schema type of after delta)
  purged_stands cells before after base delta ids kills h =
      grid_same laws cells (without_all ids (changes_in schema type of before base)) (without_all ids (changes_in schema type of before delta)) (changes_in schema type of after base) (changes_in schema type of after delta)
      (at base) (λ x. ap effect_of (at delta x)) h
    where
      at : (log : List Update) (x : Cell) → of_cell x (without_all ids (changes_in schema type of before log)) ≡ of_cell x (changes_in schema type of after log)
      at log x =
          of_cell-without_all apart ids x (changes_in schema type of before log)
          ∙ ap (λ l. cond (has_any ids x.keys) [] l) (of_changes parts keys_apart schema type of before x.property x.keys log)
          ∙ cut_twice (out schema type before x) (has_any ids x.keys) (flat_map of (plain_log.of_cell x.property x.keys log))
          ∙ sym (of_changes parts keys_apart schema type of after x.property x.keys log ∙ ap (λ b. cond b [] (flat_map of (plain_log.of_cell x.property x.keys log))) (kills x))

  -- told effects, put into a grid that stands for a log without what the whole kills
  pub joined_stands : (cells : List (Cell × S)) (whole base delta after : List Update) (items : List CellEffect)
      → Tells effect_of (out schema type whole) (changes_in schema type of whole after) items
      → GridStands plain effect_of stands cells (changes_in schema type of whole base)
      (changes_in schema type of whole delta ++ joined (λ it. not (out schema type whole (cell_of it))) (changes_in schema type of whole after) items)
      → GridStands plain effect_of stands cells (changes_in schema type of whole base) (changes_in schema type of whole (delta ++ after))
  joined_stands cells whole base delta after items tells h =
      grid_same laws cells (cells_in whole base) (cells_in whole delta ++ (joined (λ it. not (out schema type whole (cell_of it))) (cells_in whole after) items)) (cells_in whole base) (cells_in whole (delta ++ after)) (λ x. refl) same h
    where
      same : (x : Cell) → effect_of (of_cell x (cells_in whole delta ++ (joined (λ it. not (out schema type whole (cell_of it))) (cells_in whole after) items))) ≡ effect_of (of_cell x (cells_in whole (delta ++ after)))
      same x =
          ap effect_of (of_cell-append x (cells_in whole delta) (joined (λ it. not (out schema type whole (cell_of it))) (cells_in whole after) items))
          ∙ laws.effect_append (of_cell x (cells_in whole delta)) (of_cell x (joined (λ it. not (out schema type whole (cell_of it))) (cells_in whole after) items))
          ∙ ap (laws.combined (effect_of (of_cell x (cells_in whole delta))))
          (effects_do apart total effect_of (out schema type whole) (cells_in whole after)
          (λ y e. no_changes parts keys_apart schema type of whole y.property y.keys after e) items tells laws.effect_empty x)
          ∙ sym (laws.effect_append (of_cell x (cells_in whole delta)) (of_cell x (cells_in whole after)))
          ∙ sym (ap effect_of (ap (of_cell x) (changes_in-append schema type of whole delta after) ∙ of_cell-append x (cells_in whole delta) (cells_in whole after)))

pub without_more : {C : Type 0} (ids : List Id) (id : Id) (log : List (At C)) → without_all (ids ++ id ∷ []) log ≡ without id (without_all ids log)
without_more [] id log = refl
without_more (x ∷ ids) id log = without_more ids id (without x log)

-- one id more
pub purges_more : {S C V : Type 0} (plain : List C → V) (effect_of : List C → Option Effect) (stands : S → List C → List C → Type 0) (ids more : List Id) (id : Id) (old mid new : List (Cell × S)) → more ≡ ids ++ id ∷ []
    → ((base delta : List (At C)) → GridStands plain effect_of stands mid base delta → GridStands plain effect_of stands new (without id base) (without id delta))
    → Purges plain effect_of stands ids old mid → Purges plain effect_of stands more old new
purges_more {C = C} plain effect_of stands ids more id old mid new e step h base delta held =
    subst (λ (l : List Id). GridStands plain effect_of stands new (without_all l base) (without_all l delta)) (sym e)
    (subst (λ (l : List (At C)). GridStands plain effect_of stands new l (without_all (ids ++ id ∷ []) delta)) (sym (without_more ids id base))
    (subst (λ (l : List (At C)). GridStands plain effect_of stands new (without id (without_all ids base)) l) (sym (without_more ids id delta))
    (step (without_all ids base) (without_all ids delta) (h base delta held))))
