-- A grid after one update more.
use Rattle.std.proofs.Common.{◌≡◌, refl, sym, ◌∙◌, ap, subst, Bool, true, false, ℕ, List, [], ◌∷◌, ◌++◌}
use Rattle.std.specs.Prelude.{Option, not, ◌||◌}
use Rattle.std.proofs.lemmas.List.{append-nil}
use Rattle.cloud_base.specs.Values.{Id}
use Rattle.cloud_base.specs.Order.{id_order}
use Rattle.cloud_base.specs.Dead.{is_dead, has_dead}
use Rattle.cloud_base.specs.Shaped.{cell_type}
use Rattle.cloud_base.specs.Sorted.{Lists}
use Rattle.cloud_base.specs.declared.key.Key.{Key}
use Rattle.cloud_base.specs.declared.schema.Schema.{Schema}
use Rattle.cloud_base.specs.declared.schema.CellType.{CellType}
use Rattle.cloud_base.specs.declared.update.CellChange.{CellChange}
use Rattle.cloud_base.specs.declared.update.Update.{Update}
use Rattle.cloud_base.specs.declared.update.Update.TheVariants.{Cell}
use Rattle.cloud_base.proofs.DeadLemmas.{has_dead_same}
use Rattle.fj_core.specs.declared.effect.Effect.{Effect}
use Rattle.fj_array.specs.declared.cell.Cell.{Cell as At_cell}
use Rattle.fj_array.specs.Cells.{At, of_cell}
use Rattle.fj_array.specs.Grids.{GridStands}
use Rattle.schema_fj.proofs.CellFacts.{IsLawful, of_cell-append}
use Rattle.schema_fj.proofs.CellFacts.{Apart}
use Rattle.fj_array.specs.Cells.{cell_order}
use Rattle.std.specs.Cmp.{IsTotalOrder}
use Rattle.schema_fj.specs.States.{changes_in, same_type}
use Rattle.schema_fj.specs.Purged.{without_all, has_any}
use Rattle.schema_fj.proofs.Changes.{ByParts, KeysApart, changes_in-append}
use Rattle.schema_fj.proofs.CellLaws.{same_changes, grid_same}
use Rattle.cloud_base.proofs.DeadLemmas.{dead_after_cell}
use Rattle.schema_fj.proofs.GridJoin.{out, purged_stands}
use Rattle.schema_fj.proofs.StateLaws.{keys_die}

-- a change of a cell leaves in what was left in
pub cell_out : (schema : Schema) (type : CellType) (log : List Update) (p : ℕ) (ks : List Key) (c : CellChange) (x : At_cell) → out schema type (log ++ Cell p ks c ∷ []) x ≡ out schema type log x
cell_out schema type log p ks c x =
    ap (λ b. not (same_type (cell_type schema x.property) type) || b) (has_dead_same (log ++ Cell p ks c ∷ []) log x.keys (λ id m. dead_after_cell log p ks c id))

-- and what newly dead ids take out is what purge takes out
pub killed_out : (schema : Schema) (type : CellType) (before after : List Update) (died : List Id) → ((x : Id) → is_dead before x ≡ true → is_dead after x ≡ true)
    → Lists id_order died (λ x. (is_dead after x ≡ true) × (is_dead before x ≡ false)) → (x : At_cell) → out schema type after x ≡ (out schema type before x || has_any died x.keys)
killed_out schema type before after died grows lists x =
    ap (λ b. not (same_type (cell_type schema x.property) type) || b) (keys_die before after died x.keys grows lists)
    ∙ assoc (not (same_type (cell_type schema x.property) type)) (has_dead before x.keys) (has_any died x.keys)
  where
    assoc : (a b c : Bool) → (a || (b || c)) ≡ ((a || b) || c)
    assoc true b c = refl
    assoc false b c = refl

module _ {S C V : Type 0} {plain : List C → V} {effect_of : List C → Option Effect} {stands : S → List C → List C → Type 0} (laws : IsLawful plain effect_of stands)
    (parts : ByParts) (keys_apart : KeysApart) (schema : Schema) (type : CellType) (of : CellChange → List C) where
  -- more that kills nothing: the grid is to have its changes
  pub quiet_stands : (cells : List (At_cell × S)) (before after base delta more : List Update) → ((x : At_cell) → out schema type after x ≡ out schema type before x)
      → GridStands plain effect_of stands cells (changes_in schema type of before base) (changes_in schema type of before delta ++ changes_in schema type of after more)
      → GridStands plain effect_of stands cells (changes_in schema type of after base) (changes_in schema type of after (delta ++ more))
  quiet_stands cells before after base delta more quiet h =
      grid_same laws cells (changes_in schema type of before base) (changes_in schema type of before delta ++ changes_in schema type of after more) (changes_in schema type of after base) (changes_in schema type of after (delta ++ more))
      (λ x. same_changes parts keys_apart schema type of before after x.property x.keys base (sym (quiet x)))
      (λ x. ap effect_of (of_cell-append x (changes_in schema type of before delta) (changes_in schema type of after more)
      ∙ ap (λ l. l ++ of_cell x (changes_in schema type of after more)) (same_changes parts keys_apart schema type of before after x.property x.keys delta (sym (quiet x)))
      ∙ sym (ap (of_cell x) (changes_in-append schema type of after delta more) ∙ of_cell-append x (changes_in schema type of after delta) (changes_in schema type of after more)))) h

  -- an update without changes of cells that kills some ids: the grid is to be purged of them
  pub killed_stands : (apart : Apart) (total : IsTotalOrder cell_order) (cells : List (At_cell × S)) (before after base delta more : List Update) (died : List Id) → changes_in schema type of after more ≡ []
      → ((x : Id) → is_dead before x ≡ true → is_dead after x ≡ true) → Lists id_order died (λ x. (is_dead after x ≡ true) × (is_dead before x ≡ false))
      → GridStands plain effect_of stands cells (without_all died (changes_in schema type of before base)) (without_all died (changes_in schema type of before delta))
      → GridStands plain effect_of stands cells (changes_in schema type of after base) (changes_in schema type of after (delta ++ more))
  killed_stands apart total cells before after base delta more died none grows lists h =
      subst (λ (l : List (At C)). GridStands plain effect_of stands cells (changes_in schema type of after base) l)
      (sym (changes_in-append schema type of after delta more ∙ ap (λ l. changes_in schema type of after delta ++ l) none ∙ append-nil (changes_in schema type of after delta)))
      (purged_stands laws parts keys_apart apart total schema type of cells before after base delta died (killed_out schema type before after died grows lists) h)
