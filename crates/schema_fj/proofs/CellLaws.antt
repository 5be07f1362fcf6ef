-- The changes of one cell, where cells with a dead key are left out, and what a grid stands for.
use Rattle.std.proofs.Common.{◌≡◌, sym, ◌∙◌, ap, true, cond, ℕ, List, [], ◌∷◌, ◌++◌}
use Rattle.std.specs.Prelude.{Option, Some, None, map, ◌&&◌, ◌==◌}
use Rattle.std.specs.List.{flat_map}
use Rattle.std.specs.Ordering.{is_eq, nat_cmp}
use Rattle.cloud_base.specs.Log as log
use Rattle.cloud_base.specs.Order.{same_keys, keys_order}
use Rattle.cloud_base.specs.declared.key.Key.{Key}
use Rattle.cloud_base.specs.declared.schema.Schema.{Schema}
use Rattle.cloud_base.specs.declared.schema.CellType.{CellType}
use Rattle.cloud_base.specs.declared.update.CellChange.{CellChange}
use Rattle.cloud_base.specs.declared.update.Update.{Update}
use Rattle.cloud_base.specs.declared.update.Update.TheVariants as update
use Rattle.fj_core.specs.declared.effect.Effect.{Effect}
use Rattle.fj_array.specs.declared.cell.Cell.{Cell}
use Rattle.fj_array.specs.Cells.{At, of_cell, same_cell}
use Rattle.fj_array.specs.Grids.{kept_at, IsIdle, CellStands, GridStands}
use Rattle.schema_fj.proofs.CellFacts.{IsLawful, of_cell-append}
use Rattle.schema_fj.specs.States.{changes_in, left_out}
use Rattle.schema_fj.proofs.Changes.{ByParts, KeysApart, eq_parts, nat_test, own, dead_piece, join, pick, first_of, second_of, none, nat_same}

-- the changes of any cell among those of one type: none where it is left out
pub of_changes : {C : Type 0} (parts : ByParts) (apart : KeysApart) (schema : Schema) (type : CellType) (of : CellChange → List C) (whole : List Update) (p : ℕ) (ks : List Key) (l : List Update)
    → of_cell (record { property = p; keys = ks }) (changes_in schema type of whole l) ≡ cond (left_out schema type whole p ks) [] (flat_map of (log.of_cell p ks l))
of_changes {C = C} parts apart schema type of whole p ks [] = none {C = C} (left_out schema type whole p ks)
of_changes parts apart schema type of whole p ks (update.Create id e keys ∷ l) = of_changes parts apart schema type of whole p ks l
of_changes parts apart schema type of whole p ks (update.Delete id ∷ l) = of_changes parts apart schema type of whole p ks l
of_changes parts apart schema type of whole p ks (update.Cell q keys c ∷ l) =
    let cell : Cell = record { property = p; keys = ks } in
    let at : Cell = record { property = q; keys = keys } in
    let same : same_cell at cell ≡ ((q == p) && same_keys keys ks) = ap is_eq (parts at cell) ∙ eq_parts (nat_cmp q p) (keys_order keys ks) ∙ ap (λ b. b && same_keys keys ks) (nat_test q p) in
    of_cell-append cell (cond (left_out schema type whole q keys) [] (map (λ x. record { cell = at; change = x }) (of c))) (changes_in schema type of whole l)
    ∙ ap (λ x. x ++ of_cell cell (changes_in schema type of whole l)) (dead_piece cell (left_out schema type whole q keys) (map (λ x. record { cell = at; change = x }) (of c)) (cond ((q == p) && same_keys keys ks) (of c) []) (own cell at ((q == p) && same_keys keys ks) same (of c)))
    ∙ join (left_out schema type whole q keys) (left_out schema type whole p ks) ((q == p) && same_keys keys ks) (of c) (of_cell cell (changes_in schema type of whole l)) (flat_map of (log.of_cell p ks l))
    (λ e. ap (λ x. left_out schema type whole x keys) (nat_same q p (first_of (q == p) (same_keys keys ks) e)) ∙ ap (left_out schema type whole p) (apart keys ks (second_of (q == p) (same_keys keys ks) e))) (of_changes parts apart schema type of whole p ks l)
    ∙ ap (λ x. cond (left_out schema type whole p ks) [] x) (sym (pick of ((q == p) && same_keys keys ks) c (log.of_cell p ks l)))

-- a cell that is left out of both has no changes in either, and one that is in both has the same
pub same_changes : {C : Type 0} (parts : ByParts) (apart : KeysApart) (schema : Schema) (type : CellType) (of : CellChange → List C) (whole other : List Update) (p : ℕ) (ks : List Key) (l : List Update)
    → left_out schema type whole p ks ≡ left_out schema type other p ks → of_cell (record { property = p; keys = ks }) (changes_in schema type of whole l) ≡ of_cell (record { property = p; keys = ks }) (changes_in schema type of other l)
same_changes parts apart schema type of whole other p ks l e =
    of_changes parts apart schema type of whole p ks l ∙ ap (λ b. cond b [] (flat_map of (log.of_cell p ks l))) e ∙ sym (of_changes parts apart schema type of other p ks l)

pub no_changes : {C : Type 0} (parts : ByParts) (apart : KeysApart) (schema : Schema) (type : CellType) (of : CellChange → List C) (whole : List Update) (p : ℕ) (ks : List Key) (l : List Update)
    → left_out schema type whole p ks ≡ true → of_cell (record { property = p; keys = ks }) (changes_in schema type of whole l) ≡ []
no_changes parts apart schema type of whole p ks l e = of_changes parts apart schema type of whole p ks l ∙ ap (λ b. cond b [] (flat_map of (log.of_cell p ks l))) e

-- ---- a grid stands for all logs with the same values before and the same effects since

module _ {S C V : Type 0} {plain : List C → V} {effect_of : List C → Option Effect} {stands : S → List C → List C → Type 0} (laws : IsLawful plain effect_of stands) where
  same_idle : (base delta base' delta' : List C) → plain base ≡ plain base' → effect_of delta ≡ effect_of delta' → IsIdle plain effect_of base delta → IsIdle plain effect_of base' delta'
  same_idle base delta base' delta' e f idle =
      (laws.plain_append base' delta' ∙ ap (λ x. laws.applied x (plain base')) (sym f) ∙ ap (laws.applied (effect_of delta)) (sym e) ∙ sym (laws.plain_append base delta) ∙ idle.0, sym f ∙ idle.1)

  pub cell_same : (o : Option S) (base delta base' delta' : List C) → plain base ≡ plain base' → effect_of delta ≡ effect_of delta' → CellStands plain effect_of stands o base delta → CellStands plain effect_of stands o base' delta'
  cell_same None base delta base' delta' e f idle = same_idle base delta base' delta' e f idle
  cell_same (Some s) base delta base' delta' e f h =
      (laws.by_effect s base delta base' delta' e f h.0, λ idle. h.1 (same_idle base' delta' base delta (sym e) (sym f) idle))

  pub grid_same : (cells : List (Cell × S)) (base delta base' delta' : List (At C))
      → ((x : Cell) → of_cell x base ≡ of_cell x base') → ((x : Cell) → effect_of (of_cell x delta) ≡ effect_of (of_cell x delta'))
      → GridStands plain effect_of stands cells base delta → GridStands plain effect_of stands cells base' delta'
  grid_same cells base delta base' delta' e f h x =
      cell_same (kept_at cells x) (of_cell x base) (of_cell x delta) (of_cell x base') (of_cell x delta') (ap plain (e x)) (f x) (h x)
