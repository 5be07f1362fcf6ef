-- What a state stands for after a join.
use Rattle.std.proofs.Common.{◌≡◌, refl, sym, ◌∙◌, ap, subst, Bool, true, false, List, [], ◌∷◌, ◌++◌, inl, inr, Option, Some, None}
use Rattle.std.specs.Prelude.{Contains, filter_map, not, ◌||◌, is_some}
use Rattle.std.specs.Option.{option_or}
use Rattle.std.specs.List.{cons_option, AllByRecursion}
use Rattle.std.specs.List.Sorted.{IsStrictlySortedBy}
use Rattle.std.specs.Ordering.{is_eq}
use Rattle.std.specs.declared.cmp.Ordering.TheVariants.{Less}
use Rattle.std.proofs.lemmas.List.{append_assoc, append-nil}
use Rattle.std.proofs.lemmas.List.Elements.{All-contains, All-from_recursion}
use Rattle.std.proofs.lemmas.Map.Keys.{sorted_head, sorted_tail}
use Rattle.cloud_base.specs.Values.{Id}
use Rattle.cloud_base.specs.Order.{id_order}
use Rattle.cloud_base.specs.Alike.{IsPart}
use Rattle.cloud_base.specs.Dead.{is_dead}
use Rattle.cloud_base.specs.Log as plain_log
use Rattle.cloud_base.specs.Log.{Creation, creation, is_created}
use Rattle.cloud_base.specs.Shaped.{Fit, CreatedOnce, cell_type}
use Rattle.cloud_base.specs.Sorted.{Lists}
use Rattle.cloud_base.specs.declared.schema.Schema.{Schema}
use Rattle.cloud_base.specs.declared.schema.CellType.{CellType}
use Rattle.cloud_base.specs.declared.schema.CellType.TheVariants as cell
use Rattle.cloud_base.specs.declared.update.CellChange.{CellChange}
use Rattle.cloud_base.specs.declared.update.Update.{Update}
use Rattle.cloud_base.specs.declared.update.Update.TheVariants.{Create, Delete}
use Rattle.cloud_base.proofs.SortedLemmas.{here, there, none_in, split_member}
use Rattle.cloud_base.proofs.LogLemmas.{creation_parts, created_member, created_contains, created_once_parts, is_created_decides}
use Rattle.cloud_base.proofs.DeadLemmas.{has_dead_same, created_then}
use Rattle.fj_core.specs.declared.effect.Effect.{Effect}
use Rattle.fj_core.specs.Changes.{ints, texts}
use Rattle.fj_core.specs.IntCells.{int_effect}
use Rattle.fj_core.specs.TextCells.{text_effect}
use Rattle.fj_array.specs.declared.cell.Cell.{Cell}
use Rattle.fj_array.specs.declared.effect.CellEffect.{CellEffect}
use Rattle.fj_array.specs.Cells.{of_cell}
use Rattle.fj_array.specs.Effects.{effect_order}
use Rattle.fj_array.specs.Grids.{GridStands}
use Rattle.fj_entity.specs.declared.created.Created.{Created}
use Rattle.fj_entity.specs.Fates.{Fate, Living, Dead, fate_at, created_at, found}
use Rattle.fj_entity.specs.Rosters.{RosterStands, IsLiving, created_order}
use Rattle.fj_entity.proofs.WalkLemmas.{living_made, made_living}
use Rattle.schema_fj.specs.Held.{Held}
use Rattle.schema_fj.specs.Joined.{JoinsCells, is_of}
use Rattle.change_lists.specs.Lists.{ChangeLists}
use Rattle.change_lists.specs.Effects.{IsBorn, IsDone, IsEffect}
use Rattle.schema_fj.specs.States.{same_type, changes_in, StateHolds}
use Rattle.schema_fj.specs.Told.{AreNew, SameFates, creates, deletes}
use Rattle.schema_fj.proofs.CellFacts.{IsLawful, ints_lawful, texts_lawful}
use Rattle.schema_fj.proofs.Changes.{changes_in-append}
use Rattle.schema_fj.proofs.CellLaws.{same_changes, grid_same}
use Rattle.schema_fj.proofs.FateLaws.{told_fates, born_same, roster_same}
use Rattle.schema_fj.proofs.JoinOne.{join_stands, told_of, effect_is_of}
use Rattle.schema_fj.proofs.StateSteps.{Orders, keys_apart, lists_as, type_is}

-- ---- what is told of ids

living_of : (fates : List (Id × Fate)) (log : List Update) (x : Id) (c : Created) → RosterStands fates log → found fates x ≡ Some c → (c.id ≡ x) × IsLiving log c
living_of fates log x c h e = at (fate_at fates x) refl e
  where
    at : (o : Option Fate) → fate_at fates x ≡ o → created_at x o ≡ Some c → (c.id ≡ x) × IsLiving log c
    at None k f = cc
    at (Some Dead) k f = cc
    at (Some (Living en ks)) k f =
        let same : record { id = x; entity = en; keys = ks } ≡ c = cc in
        let m = living_made log x en ks (sym (h.kept x) ∙ k) in
        subst (λ (d : Created). (d.id ≡ x) × IsLiving log d) same (refl, (m.1 ∙ ap Some (λ i. record { entity = m.3 i; keys = m.2 i }), m.4))

found_of : (fates : List (Id × Fate)) (log : List Update) (c : Created) → RosterStands fates log → IsLiving log c → found fates c.id ≡ Some c
found_of fates log c h l = ap (created_at c.id) (h.kept c.id ∙ made_living log c.id (record { entity = c.entity; keys = c.keys }) l.0 l.1)

module _ (fates : List (Id × Fate)) where
  told_only : (ids : List Id) (c : Created) → Contains (filter_map (found fates) ids) c → (x : Id) × Contains ids x × (found fates x ≡ Some c)
  told_only [] c m = absurd (none_in c m)
  told_only (x ∷ ids) c m = at (found fates x) refl m (told_only ids c)
    where
      further : (y : Id) × Contains ids y × (found fates y ≡ Some c) → (y : Id) × Contains (x ∷ ids) y × (found fates y ≡ Some c)
      further w = (w.0, there x w.0 ids w.1, w.2)

      at : (o : Option Created) → found fates x ≡ o → Contains (cons_option o (filter_map (found fates) ids)) c → (Contains (filter_map (found fates) ids) c → (y : Id) × Contains ids y × (found fates y ≡ Some c))
          → (y : Id) × Contains (x ∷ ids) y × (found fates y ≡ Some c)
      at None e k rest = further (rest k)
      at (Some d) e k rest = elim (split_member d c (filter_map (found fates) ids) k) [
        | inl same ↦ (x, here x ids, e ∙ ap Some same)
        | inr n ↦ further (rest n)
      ]

  told_every : (ids : List Id) (x : Id) (c : Created) → Contains ids x → found fates x ≡ Some c → Contains (filter_map (found fates) ids) c
  told_every [] x c m e = absurd (none_in x m)
  told_every (y ∷ ids) x c m e = elim (split_member y x ids m) [
    | inl same ↦ subst (λ o. Contains (cons_option o (filter_map (found fates) ids)) c) (sym (ap (found fates) same ∙ e)) (here c (filter_map (found fates) ids))
    | inr n ↦ pass (found fates y) (told_every ids x c n e)
  ]
    where
      pass : (o : Option Created) → Contains (filter_map (found fates) ids) c → Contains (cons_option o (filter_map (found fates) ids)) c
      pass None k = k
      pass (Some d) k = there d c (filter_map (found fates) ids) k

  module _ (log : List Update) (stands : RosterStands fates log) where
    above : (x : Id) (ids : List Id) (c : Created) → c.id ≡ x → AllByRecursion (λ y. id_order x y ≡ Less) ids → AllByRecursion (λ d. created_order c d ≡ Less) (filter_map (found fates) ids)
    above x [] c is h = tt
    above x (y ∷ ids) c is h = at (found fates y) refl (above x ids c is h.1)
      where
        at : (o : Option Created) → found fates y ≡ o → AllByRecursion (λ d. created_order c d ≡ Less) (filter_map (found fates) ids) → AllByRecursion (λ d. created_order c d ≡ Less) (cons_option o (filter_map (found fates) ids))
        at None e r = r
        at (Some d) e r = ((λ i. id_order (is i) ((living_of fates log y d stands e).0 i)) ∙ h.0, r)

    told_ascends : (ids : List Id) → IsStrictlySortedBy id_order ids → IsStrictlySortedBy created_order (filter_map (found fates) ids)
    unfolding IsStrictlySortedBy
    told_ascends [] s = tt
    told_ascends (x ∷ ids) s = at (found fates x) refl (told_ascends ids (sorted_tail id_order x ids s))
      where
        at : (o : Option Created) → found fates x ≡ o → IsStrictlySortedBy created_order (filter_map (found fates) ids) → IsStrictlySortedBy created_order (cons_option o (filter_map (found fates) ids))
        at None e r = r
        at (Some d) e r = (above x ids d (living_of fates log x d stands e).0 (sorted_head id_order x ids s), r)

-- a creation in the later log is the first of its id
later : (before after : List Update) (id : Id) → CreatedOnce (before ++ after) → is_created id after ≡ true → creation id (before ++ after) ≡ creation id after
later before after id once t = creation_parts id before after ∙ at (creation id before) refl
  where
    at : (o : Option Creation) → creation id before ≡ o → option_or o (creation id after) ≡ creation id after
    at None e = refl
    at (Some d) e = absurd ((created_once_parts before after once).2 id (created_contains id d.entity d.keys before (created_member id before d e)) ((is_created_decides id after).0 t))

-- what a state tells of its creations
pub told_born : (fates : List (Id × Fate)) (before after : List Update) (born : List Id) (list : List Created) → CreatedOnce (before ++ after) → RosterStands fates (before ++ after) → list ≡ filter_map (found fates) born
    → Lists id_order born (λ x. (is_created x after ≡ true) × (is_dead (before ++ after) x ≡ false)) → Lists created_order list (IsBorn before after)
told_born fates before after born list once stands is h = subst (λ (l : List Created). Lists created_order l (IsBorn before after)) (sym is) (record {
  ascends = told_ascends fates (before ++ after) stands born h.ascends;
  only = λ c m.
      let w = told_only fates born c m in
      let l = living_of fates (before ++ after) w.0 c stands w.2 in
      (sym (later before after c.id once (ap (λ x. is_created x after) l.0 ∙ (h.only w.0 w.1).0)) ∙ l.1.0, l.1.1);
  every = λ c b.
      let t : is_created c.id after ≡ true = ap is_some b.0 in
      told_every fates born c.id c (h.every c.id (t, b.1)) (found_of fates (before ++ after) c stands (later before after c.id once t ∙ b.0, b.1));
})

-- each told creation is new when its turn comes
pub are_new : (list : List Created) (log : List Update) → IsStrictlySortedBy created_order list → ((c : Created) → Contains list c → creation c.id log ≡ None) → AreNew list log
are_new [] log s f = tt
are_new (c ∷ list) log s f = (
  f c (here c list),
  are_new list (log ++ Create c.id c.entity c.keys ∷ []) (sorted_tail created_order c list s)
      (λ d m. created_then log c.id c.entity c.keys d.id (ap is_eq (All-contains (λ e. created_order c e ≡ Less) list d (All-from_recursion (λ e. created_order c e ≡ Less) list (sorted_head created_order c list s)) m)) ∙ f d (there c d list m)),
)

-- ---- the join

told_no_cells : {C : Type 0} (schema : Schema) (type : CellType) (of : CellChange → List C) (whole : List Update) (list : List Created) (ids : List Id) → changes_in schema type of whole (creates list ++ deletes ids) ≡ []
told_no_cells schema type of whole [] [] = refl
told_no_cells schema type of whole [] (id ∷ ids) = told_no_cells schema type of whole [] ids
told_no_cells schema type of whole (c ∷ list) ids = told_no_cells schema type of whole list ids

deletes_make_nothing : (ids : List Id) (x : Id) → is_created x (deletes ids) ≡ false
deletes_make_nothing [] x = refl
deletes_make_nothing (id ∷ ids) x = deletes_make_nothing ids x

made_parts : (log more : List Update) (x : Id) → is_created x (log ++ more) ≡ (is_created x log || is_created x more)
made_parts log more x = ap is_some (creation_parts x log more) ∙ at (creation x log)
  where
    at : (o : Option Creation) → is_some (option_or o (creation x more)) ≡ (is_some o || is_some (creation x more))
    at None = refl
    at (Some c) = refl

or_false : (b : Bool) → (b || false) ≡ b
or_false true = refl
or_false false = refl

-- a grid that stands for what is told of ids stands for the whole without the child's changes
retold : {S C V : Type 0} {plain : List C → V} {effect_of : List C → Option Effect} {stands : S → List C → List C → Type 0} (laws : IsLawful plain effect_of stands) (orders : Orders)
    (schema : Schema) (type : CellType) (of : CellChange → List C) (now whole base delta : List Update) (list : List Created) (ids : List Id) (grid : List (Cell × S)) → ((x : Id) → is_dead now x ≡ is_dead whole x)
    → GridStands plain effect_of stands grid (changes_in schema type of now base) (changes_in schema type of now (delta ++ (creates list ++ deletes ids)))
    → GridStands plain effect_of stands grid (changes_in schema type of whole base) (changes_in schema type of whole delta)
retold {C = C} {effect_of = effect_of} laws orders schema type of now whole base delta list ids grid dead h =
    grid_same laws grid (changes_in schema type of now base) (changes_in schema type of now (delta ++ (creates list ++ deletes ids))) (changes_in schema type of whole base) (changes_in schema type of whole delta)
    (λ x. same x base)
    (λ x. ap effect_of (ap (of_cell x) (changes_in-append schema type of now delta (creates list ++ deletes ids) ∙ ap (λ l. changes_in schema type of now delta ++ l) (told_no_cells schema type of now list ids) ∙ append-nil (changes_in schema type of now delta)) ∙ same x delta)) h
  where
    same : (x : Cell) (log : List Update) → of_cell x (changes_in schema type of now log) ≡ of_cell x (changes_in schema type of whole log)
    same x log = same_changes orders.parts keys_apart schema type of now whole x.property x.keys log
        (ap (λ b. not (same_type (cell_type schema x.property) type) || b) (has_dead_same now whole x.keys (λ id m. dead id)))

pub new_to_joiner : (joiner before after : List Update) (list : List Created) → CreatedOnce (joiner ++ after) → Lists created_order list (IsBorn before after) → (c : Created) → Contains list c → creation c.id joiner ≡ None
new_to_joiner joiner before after list once lists c m = at (creation c.id joiner) refl
  where
    at : (o : Option Creation) → creation c.id joiner ≡ o → creation c.id joiner ≡ None
    at None e = e
    at (Some d) e = absurd ((created_once_parts joiner after once).2 c.id (created_contains c.id d.entity d.keys joiner (created_member c.id joiner d e)) (created_contains c.id c.entity c.keys after (created_member c.id after (record { entity = c.entity; keys = c.keys }) (lists.only c m).0)))

-- what is told of the cells is of the types of their properties
told_own : (schema : Schema) (before after : List Update) (items : List CellEffect) → Lists effect_order items (IsDone schema before after) → (it : CellEffect) → Contains items it → is_of (cell_type schema it.property) it.effect ≡ true
told_own schema before after items lists it m = effect_is_of (cell_type schema it.property) (plain_log.of_cell it.property it.keys after) it.effect (lists.only it m).1

pub joined_holds : (schema : Schema) (s new : Held) (base delta before after : List Update) (orders : Orders) (change : ChangeLists)
    → IsPart before (base ++ delta) → Fit schema (base ++ (delta ++ after)) → IsEffect schema before after change
    → StateHolds schema s base (delta ++ (creates change.created ++ deletes change.dead))
    → JoinsCells change.cells s new → StateHolds schema new base (delta ++ after)
joined_holds schema s new base delta before after orders change part fit told h joins = record {
  types = joins.kept.types ∙ h.types;
  numbers = join_stands ints_lawful orders.parts keys_apart orders.apart orders.total schema cell.Int ints whole base delta after change.cells s.types s.fates
      (told_of int_effect ints cell.Int orders.parts keys_apart schema (λ l. refl) whole base delta before after change.cells refl part fit.once told.cells)
      (λ p. type_is schema s.types p h.types) (told_own schema before after change.cells told.cells) roster s.numbers new.numbers joins.numbers
      (retold ints_lawful orders schema cell.Int ints (base ++ (delta ++ (creates list ++ deletes ids))) whole base delta list ids s.numbers same.dead h.numbers);
  texts = join_stands texts_lawful orders.parts keys_apart orders.apart orders.total schema cell.Text texts whole base delta after change.cells s.types s.fates
      (told_of text_effect texts cell.Text orders.parts keys_apart schema (λ l. refl) whole base delta before after change.cells refl part fit.once told.cells)
      (λ p. type_is schema s.types p h.types) (told_own schema before after change.cells told.cells) roster s.texts new.texts joins.texts
      (retold texts_lawful orders schema cell.Text texts (base ++ (delta ++ (creates list ++ deletes ids))) whole base delta list ids s.texts same.dead h.texts);
  roster = subst (λ f. RosterStands f whole) (sym joins.kept.fates) roster;
  born = subst (λ (l : List Id). Lists id_order l (λ x. (is_created x (delta ++ after) ≡ true) × (is_dead whole x ≡ false))) (sym joins.kept.born)
      (lists_as s.born (λ x. (is_created x (delta ++ (creates list ++ deletes ids)) ≡ true) × (is_dead (base ++ (delta ++ (creates list ++ deletes ids))) x ≡ false))
      (λ x. (is_created x (delta ++ after) ≡ true) × (is_dead whole x ≡ false))
      (λ x b. let live = sym (same.dead x) ∙ b.1 in (sym (made x live) ∙ b.0, live)) (λ x b. (made x b.1 ∙ b.0, same.dead x ∙ b.1)) h.born);
  died = subst (λ (l : List Id). Lists id_order l (λ x. (is_dead whole x ≡ true) × (is_dead base x ≡ false))) (sym joins.kept.died)
      (lists_as s.died (λ x. (is_dead (base ++ (delta ++ (creates list ++ deletes ids))) x ≡ true) × (is_dead base x ≡ false))
      (λ x. (is_dead whole x ≡ true) × (is_dead base x ≡ false))
      (λ x d. (sym (same.dead x) ∙ d.0, d.1)) (λ x d. (same.dead x ∙ d.0, d.1)) h.died);
}
  where
    list : List Created
    list = change.created

    ids : List Id
    ids = change.dead

    whole : List Update
    whole = base ++ (delta ++ after)

    once : CreatedOnce (base ++ delta ++ after)
    once = subst CreatedOnce (sym (append_assoc base delta after)) fit.once

    same : SameFates (base ++ (delta ++ (creates list ++ deletes ids))) (base ++ (delta ++ after))
    same = subst (λ l. SameFates l (base ++ (delta ++ after))) (append_assoc base delta (creates list ++ deletes ids))
        (subst (SameFates (base ++ delta ++ (creates list ++ deletes ids))) (append_assoc base delta after) (told_fates (base ++ delta) before after list ids part once told.created told.dead))

    roster : RosterStands s.fates (base ++ (delta ++ after))
    roster = roster_same s.fates (base ++ (delta ++ (creates list ++ deletes ids))) (base ++ (delta ++ after)) same h.roster

    made : (x : Id) → is_dead (base ++ (delta ++ after)) x ≡ false → is_created x (delta ++ (creates list ++ deletes ids)) ≡ is_created x (delta ++ after)
    made x live =
        made_parts delta (creates list ++ deletes ids) x
        ∙ ap (λ b. is_created x delta || b) (made_parts (creates list) (deletes ids) x ∙ ap (λ b. is_created x (creates list) || b) (deletes_make_nothing ids x) ∙ or_false (is_created x (creates list))
        ∙ born_same (base ++ delta) before after list ids part once told.created told.dead x (ap (λ l. is_dead l x) (append_assoc base delta after) ∙ live))
        ∙ sym (made_parts delta after x)

-- ---- the loops

pub creates-push : (list : List Created) (c : Created) → creates (list ++ c ∷ []) ≡ creates list ++ Create c.id c.entity c.keys ∷ []
creates-push [] c = refl
creates-push (d ∷ list) c = ap (λ l. Create d.id d.entity d.keys ∷ l) (creates-push list c)

pub deletes-push : (ids : List Id) (id : Id) → deletes (ids ++ id ∷ []) ≡ deletes ids ++ Delete id ∷ []
deletes-push [] id = refl
deletes-push (x ∷ ids) id = ap (λ l. Delete x ∷ l) (deletes-push ids id)

-- the first of the created ids are done, and the others are new
pub record SoFar (schema : Schema) (s : Held) (base delta : List Update) (done rest : List Created) : Type 0 where
  pub holds : StateHolds schema s base (delta ++ creates done)
  pub new : AreNew rest (base ++ (delta ++ creates done))

pub so_far_start : (schema : Schema) (s : Held) (base delta : List Update) (list : List Created) → StateHolds schema s base delta → AreNew list (base ++ delta) → SoFar schema s base delta [] list
so_far_start schema s base delta list h new = record {
  holds = subst (StateHolds schema s base) (sym (append-nil delta)) h;
  new = subst (λ l. AreNew list (base ++ l)) (sym (append-nil delta)) new;
}

pub so_far_more : (schema : Schema) (old s : Held) (base delta : List Update) (done done' rest rest' : List Created) (c : Created) → done' ≡ done ++ c ∷ [] → rest ≡ c ∷ rest'
    → ((base' delta' : List Update) → StateHolds schema old base' delta' → creation c.id (base' ++ delta') ≡ None → StateHolds schema s base' (delta' ++ Create c.id c.entity c.keys ∷ []))
    → SoFar schema old base delta done rest → SoFar schema s base delta done' rest'
so_far_more schema old s base delta done done' rest rest' c d r step h =
    let new : AreNew (c ∷ rest') (base ++ (delta ++ creates done)) = subst (λ l. AreNew l (base ++ (delta ++ creates done))) r h.new in
    let same : delta ++ creates done ++ Create c.id c.entity c.keys ∷ [] ≡ delta ++ creates done' =
    append_assoc delta (creates done) (Create c.id c.entity c.keys ∷ []) ∙ ap (λ l. delta ++ l) (sym (creates-push done c) ∙ ap creates (sym d)) in
    record {
      holds = subst (StateHolds schema s base) same (step base (delta ++ creates done) h.holds new.0);
      new = subst (AreNew rest') (append_assoc base (delta ++ creates done) (Create c.id c.entity c.keys ∷ []) ∙ ap (λ l. base ++ l) same) new.1;
    }

pub deleted_more : (schema : Schema) (s : Held) (base delta : List Update) (ids ids' : List Id) (id : Id) → ids' ≡ ids ++ id ∷ [] → StateHolds schema s base (delta ++ deletes ids ++ Delete id ∷ []) → StateHolds schema s base (delta ++ deletes ids')
deleted_more schema s base delta ids ids' id e h =
    subst (StateHolds schema s base) (append_assoc delta (deletes ids) (Delete id ∷ []) ∙ ap (λ l. delta ++ l) (sym (deletes-push ids id) ∙ ap deletes (sym e))) h
