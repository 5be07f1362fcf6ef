-- The law of a join for one grid, from what `join_cells` ensures.
use Rattle.std.proofs.Common.{◌≡◌, refl, sym, ◌∙◌, ap, subst, Bool, true, false, cond, ℕ, List, [], ◌++◌}
use Rattle.std.specs.Prelude.{Option, Some, None, not, ◌||◌, ◌&&◌, Contains}
use Rattle.std.specs.List.{flat_map}
use Rattle.std.specs.Cmp.{IsTotalOrder}
use Rattle.std.proofs.lemmas.Bool.{or_parts}
use Rattle.cloud_base.specs.Values.{Id}
use Rattle.cloud_base.specs.Alike.{IsPart}
use Rattle.cloud_base.specs.Dead.{has_dead}
use Rattle.cloud_base.specs.Log as plain_log
use Rattle.cloud_base.specs.Shaped.{CreatedOnce, cell_type}
use Rattle.cloud_base.specs.Sorted.{Lists}
use Rattle.cloud_base.specs.declared.schema.Schema.{Schema}
use Rattle.cloud_base.specs.declared.schema.CellType.{CellType}
use Rattle.cloud_base.specs.declared.schema.CellType.TheVariants as cell
use Rattle.cloud_base.specs.declared.update.CellChange.{CellChange}
use Rattle.cloud_base.specs.declared.update.Update.{Update}
use Rattle.cloud_base.proofs.LogLemmas.{part_joined}
use Rattle.cloud_base.proofs.DeadLemmas.{keys_live}
use Rattle.fj_core.specs.Changes.{ints, texts}
use Rattle.fj_core.specs.IntCells.{IsIntEffect}
use Rattle.fj_core.specs.IntLaws.{int_effect_is_own}
use Rattle.fj_core.specs.TextCells.{IsTextEffect}
use Rattle.fj_core.specs.TextLaws.{text_effect_is_own}
use Rattle.fj_core.specs.declared.effect.Effect.{Effect}
use Rattle.fj_core.specs.declared.effect.Effect.TheVariants.{Add, SetInt, SetText, IfEmpty}
use Rattle.fj_array.specs.declared.cell.Cell.{Cell}
use Rattle.fj_array.specs.declared.effect.CellEffect.{CellEffect}
use Rattle.fj_array.specs.Cells.{At, of_cell, cell_order}
use Rattle.fj_array.specs.Effects.{cell_of, effect_order}
use Rattle.fj_array.specs.Grids.{GridStands}
use Rattle.fj_entity.specs.Fates.{Fate}
use Rattle.fj_entity.specs.Rosters.{RosterStands}
use Rattle.fj_entity.proofs.FateLemmas.{has_gone_means}
use Rattle.change_lists.specs.Effects.{effect_of as effect_in, IsDone}
use Rattle.schema_fj.specs.Joined.{is_of, lives, JoinsAll}
use Rattle.schema_fj.specs.Sets.{type_at}
use Rattle.schema_fj.specs.States.{changes_in, same_type}
use Rattle.schema_fj.proofs.CellFacts.{IsLawful, Apart}
use Rattle.schema_fj.proofs.Changes.{ByParts, KeysApart}
use Rattle.schema_fj.proofs.CellLaws.{of_changes, no_changes}
use Rattle.schema_fj.proofs.GridJoin.{out, joined_stands}
use Rattle.schema_fj.proofs.JoinLaws.{Tells, joined_same}

pub not_true : (b : Bool) → not b ≡ true → b ≡ false
not_true true e = sym e
not_true false e = refl

not_false : (b : Bool) → not b ≡ false → b ≡ true
not_false true e = refl
not_false false e = sym e

pub type_same : (a b : CellType) → same_type a b ≡ true → a ≡ b
type_same cell.Int cell.Int e = refl
type_same cell.Int cell.Text e = cc
type_same cell.Text cell.Int e = cc
type_same cell.Text cell.Text e = refl

pub type_itself : (a : CellType) → same_type a a ≡ true
type_itself cell.Int = refl
type_itself cell.Text = refl

-- a cell that isn't left out is of the type
pub typed_as_told : (schema : Schema) (type : CellType) (whole : List Update) (x : Cell) → out schema type whole x ≡ false → cell_type schema x.property ≡ type
typed_as_told schema type whole x live = type_same (cell_type schema x.property) type (not_false (same_type (cell_type schema x.property) type) (or_parts (not (same_type (cell_type schema x.property) type)) (has_dead whole x.keys) live).0)

-- ---- effects of a type

pub int_own : (e : Effect) → is_of cell.Int e ≡ true → IsIntEffect e
int_own (Add n) h = tt
int_own (SetInt n) h = tt
int_own (SetText text) h = cc
int_own (IfEmpty text) h = cc

pub text_own : (e : Effect) → is_of cell.Text e ≡ true → IsTextEffect e
text_own (Add n) h = cc
text_own (SetInt n) h = cc
text_own (SetText text) h = tt
text_own (IfEmpty text) h = tt

own_int : (e : Effect) → IsIntEffect e → is_of cell.Int e ≡ true
own_int (Add n) h = refl
own_int (SetInt n) h = refl
own_int (SetText text) h = absurd h
own_int (IfEmpty text) h = absurd h

own_text : (e : Effect) → IsTextEffect e → is_of cell.Text e ≡ true
own_text (Add n) h = absurd h
own_text (SetInt n) h = absurd h
own_text (SetText text) h = refl
own_text (IfEmpty text) h = refl

-- what changes of a cell come to is an effect of its type
pub effect_is_of : (type : CellType) (changes : List CellChange) (e : Effect) → effect_in type changes ≡ Some e → is_of type e ≡ true
effect_is_of cell.Int changes e h = own_int e (int_effect_is_own (flat_map ints changes) e h)
effect_is_of cell.Text changes e h = own_text e (text_effect_is_own (flat_map texts changes) e h)

-- ---- one type's part of what is told

module _ {C : Type 0} (effect_of : List C → Option Effect) (of : CellChange → List C) (type : CellType) (parts : ByParts) (keys_apart : KeysApart) (schema : Schema)
    (fits : (changes : List CellChange) → effect_in type changes ≡ effect_of (flat_map of changes)) where
  -- the changes of a cell that isn't left out
  seen : (whole log : List Update) (x : Cell) → out schema type whole x ≡ false → of_cell x (changes_in schema type of whole log) ≡ flat_map of (plain_log.of_cell x.property x.keys log)
  seen whole log x live =
      of_changes parts keys_apart schema type of whole x.property x.keys log
      ∙ ap (λ b. cond b [] (flat_map of (plain_log.of_cell x.property x.keys log))) live

  alive : (whole : List Update) (x : Cell) → out schema type whole x ≡ false → has_dead whole x.keys ≡ false
  alive whole x live = (or_parts (not (same_type (cell_type schema x.property) type)) (has_dead whole x.keys) live).1

  pub told_of : (whole base delta before after : List Update) (items : List CellEffect) → whole ≡ base ++ (delta ++ after) → IsPart before (base ++ delta) → CreatedOnce whole
      → Lists effect_order items (IsDone schema before after) → Tells effect_of (out schema type whole) (changes_in schema type of whole after) items
  told_of whole base delta before after items is part once lists = record {
    ascends = lists.ascends;
    only = λ it m live.
        ap effect_of (seen whole after (cell_of it) live) ∙ sym (fits (plain_log.of_cell it.property it.keys after))
        ∙ ap (λ t. effect_in t (plain_log.of_cell it.property it.keys after)) (sym (typed_as_told schema type whole (cell_of it) live)) ∙ (lists.only it m).1;
    every = λ it live e. lists.every it (
      keys_live (before ++ after) whole it.keys (subst (IsPart (before ++ after)) (sym is) (part_joined base delta before after part)) once (alive whole (cell_of it) live),
      ap (λ t. effect_in t (plain_log.of_cell it.property it.keys after)) (typed_as_told schema type whole (cell_of it) live) ∙ fits (plain_log.of_cell it.property it.keys after)
          ∙ sym (ap effect_of (seen whole after (cell_of it) live)) ∙ e,
    );
  }

  -- what a grid tells of a cell, in the words of the log, and back
  pub grid_tells : (base delta : List Update) (it : CellEffect) → effect_of [] ≡ None → effect_of (of_cell (cell_of it) (changes_in schema type of (base ++ delta) delta)) ≡ Some it.effect
      → (cell_type schema it.property ≡ type) × IsDone schema base delta it
  grid_tells base delta it empty e = at (out schema type (base ++ delta) (cell_of it)) refl
    where
      at : (b : Bool) → out schema type (base ++ delta) (cell_of it) ≡ b → (cell_type schema it.property ≡ type) × IsDone schema base delta it
      at true left =
          let clash : None ≡ Some it.effect = sym empty ∙ sym (ap effect_of (no_changes parts keys_apart schema type of (base ++ delta) it.property it.keys delta left)) ∙ e in cc
      at false live = (
        typed_as_told schema type (base ++ delta) (cell_of it) live,
        (
          alive (base ++ delta) (cell_of it) live,
          ap (λ t. effect_in t (plain_log.of_cell it.property it.keys delta)) (typed_as_told schema type (base ++ delta) (cell_of it) live) ∙ fits (plain_log.of_cell it.property it.keys delta)
              ∙ sym (ap effect_of (seen (base ++ delta) delta (cell_of it) live)) ∙ e,
        ),
      )

  pub told_grid : (base delta : List Update) (it : CellEffect) → cell_type schema it.property ≡ type → IsDone schema base delta it
      → effect_of (of_cell (cell_of it) (changes_in schema type of (base ++ delta) delta)) ≡ Some it.effect
  told_grid base delta it is done =
      let live : out schema type (base ++ delta) (cell_of it) ≡ false =
      (λ i. not (same_type (is i) type) || done.0 i) ∙ ap (λ b. not b || false) (type_itself type) in
      ap effect_of (seen (base ++ delta) delta (cell_of it) live) ∙ sym (fits (plain_log.of_cell it.property it.keys delta))
      ∙ ap (λ t. effect_in t (plain_log.of_cell it.property it.keys delta)) (sym is) ∙ done.1

-- ---- what `join_cells` made of a purged grid

module _ {S C V : Type 0} {plain : List C → V} {effect_of : List C → Option Effect} {stands : S → List C → List C → Type 0} (laws : IsLawful plain effect_of stands)
    (parts : ByParts) (keys_apart : KeysApart) (apart : Apart) (total : IsTotalOrder cell_order)
    (schema : Schema) (type : CellType) (of : CellChange → List C) (whole base delta after : List Update) (items : List CellEffect) (types : List CellType) (fates : List (Id × Fate))
    (tells : Tells effect_of (out schema type whole) (changes_in schema type of whole after) items)
    (typed_as : (p : ℕ) → type_at types p ≡ cell_type schema p)
    (own : (it : CellEffect) → Contains items it → is_of (cell_type schema it.property) it.effect ≡ true)
    (stands_for : RosterStands fates whole) where
  -- the roster and the types tell whether a listed cell is left out
  pub lives_in : (it : CellEffect) → Contains items it → lives types fates type it ≡ not (out schema type whole (cell_of it))
  lives_in it m =
      (λ i. not (has_gone_means fates whole it.keys stands_for i) && same_type (typed_as it.property i) type && is_of type it.effect)
      ∙ at (same_type (cell_type schema it.property) type) refl (has_dead whole it.keys)
    where
      at : (s : Bool) → same_type (cell_type schema it.property) type ≡ s → (d : Bool) → (not d && s && is_of type it.effect) ≡ not (not s || d)
      at true e true = refl
      at true e false = ap (λ t. is_of t it.effect) (sym (type_same (cell_type schema it.property) type e)) ∙ own it m
      at false e true = refl
      at false e false = refl

  pub join_stands : (old new : List (Cell × S)) → JoinsAll plain effect_of stands (lives types fates type) items old new
      → GridStands plain effect_of stands old (changes_in schema type of whole base) (changes_in schema type of whole delta)
      → GridStands plain effect_of stands new (changes_in schema type of whole base) (changes_in schema type of whole (delta ++ after))
  join_stands old new joins held =
      let told : (it : CellEffect) → Contains items it → lives types fates type it ≡ true → effect_of (of_cell (cell_of it) (changes_in schema type of whole after)) ≡ Some it.effect =
      λ it m l. tells.only it m (not_true (out schema type whole (cell_of it)) (sym (lives_in it m) ∙ l)) in
      let now = joins (changes_in schema type of whole base) (changes_in schema type of whole delta) (changes_in schema type of whole after) told held in
      joined_stands laws parts keys_apart apart total schema type of new whole base delta after items tells
      (subst (λ (l : List (At C)). GridStands plain effect_of stands new (changes_in schema type of whole base) (changes_in schema type of whole delta ++ l))
      (joined_same (lives types fates type) (λ it. not (out schema type whole (cell_of it))) (changes_in schema type of whole after) items lives_in) now)
