-- What a state stands for after one update more.
use Rattle.std.proofs.Common.{◌≡◌, refl, sym, ◌∙◌, ap, subst, ℕ, Bool, true, false, cond, List, [], ◌∷◌, ◌++◌, inl, inr, Option, Some, None}
use Rattle.std.specs.Prelude.{Contains, map, filter, not, ◌||◌, is_some, slice_get, unwrap_or}
use Rattle.std.specs.Option.{option_map, option_map_or, option_or}
use Rattle.std.specs.List.{fold}
use Rattle.std.specs.Cmp.{IsTotalOrder}
use Rattle.std.specs.List.Sorted.{IsStrictlySortedBy}
use Rattle.std.specs.BTreeSet.{insert_key}
use Rattle.std.specs.declared.cmp.Ordering.{Ordering}
use Rattle.std.proofs.lemmas.Bool.{cases_Bool, false≢true}
use Rattle.std.proofs.lemmas.List.{append_assoc, append-nil}
use Rattle.std.proofs.lemmas.Option.{slice_get-map}
use Rattle.std.proofs.lemmas.List.Kept.{IsStrictlySortedBy-filter}
use Rattle.cloud_base.specs.Values.{Id}
use Rattle.cloud_base.specs.Order.{id_order, same_id}
use Rattle.cloud_base.specs.Log.{Creation, creation, is_created}
use Rattle.cloud_base.specs.Dead.{is_dead, has_dead}
use Rattle.cloud_base.specs.Shaped.{Fit, CreatedOnce, cell_type}
use Rattle.cloud_base.specs.Sorted.{Lists}
use Rattle.cloud_base.specs.declared.key.Key.{Key}
use Rattle.cloud_base.specs.declared.schema.Property.{Property}
use Rattle.cloud_base.specs.declared.schema.Schema.{Schema}
use Rattle.cloud_base.specs.declared.schema.CellType.{CellType}
use Rattle.cloud_base.specs.declared.schema.CellType.TheVariants as cell
use Rattle.cloud_base.specs.declared.update.CellChange.{CellChange}
use Rattle.cloud_base.specs.declared.update.Update.{Update}
use Rattle.cloud_base.specs.declared.update.Update.TheVariants.{Cell, Create, Delete}
use Rattle.cloud_base.proofs.OrderLemmas.{id_order_total, id_same, same_id_decides, same_keys_decides}
use Rattle.cloud_base.proofs.SortedLemmas.{here, none_in, kept, kept_member, kept_passes, fold_sorted, fold_keeps, fold_from, fold_puts, insert_sorted, inserted, inserted_from, stays}
use Rattle.cloud_base.proofs.LogLemmas.{creation_parts, created_member, created_contains, created_once_parts}
use Rattle.cloud_base.proofs.DeadLemmas.{is_dead_decides, dead_stays, dead_after_cell, has_dead_same, created_then, created_itself, deleted_creates}
use Rattle.fj_core.specs.Changes.{ints, texts}
use Rattle.fj_core.specs.IntCells.{int_plain, int_effect, IntStands}
use Rattle.fj_core.specs.TextCells.{text_plain, text_effect, TextStands}
use Rattle.fj_core.specs.declared.int_cell.IntCell.{IntCell}
use Rattle.fj_core.specs.declared.text_cell.TextCell.{TextCell}
use Rattle.fj_array.specs.declared.cell.Cell.{Cell as CellAt}
use Rattle.fj_array.specs.Cells.{cell_order}
use Rattle.fj_array.specs.Grids.{GridStands}
use Rattle.fj_entity.specs.Fates.{Fate, fate_at, is_gone}
use Rattle.fj_entity.specs.Rosters.{RosterStands, IsNewlyDead}
use Rattle.fj_entity.proofs.FateLemmas.{gone_means}
use Rattle.fj_entity.proofs.RosterLemmas.{creation_kills, creation_quiet, born_dead as of_dead}
use Rattle.schema_fj.specs.Held.{Held}
use Rattle.schema_fj.specs.Purged.{Purges}
use Rattle.schema_fj.specs.Sets.{type_at}
use Rattle.schema_fj.specs.States.{same_type, left_out, changes_in, StateHolds, StateStands}
use Rattle.schema_fj.specs.Told.{SameFates}
use Rattle.schema_fj.proofs.CellFacts.{Apart, ints_lawful, texts_lawful}
use Rattle.schema_fj.proofs.Changes.{ByParts, KeysApart, changes_in-append}
use Rattle.schema_fj.proofs.FateLaws.{roster_same}
use Rattle.schema_fj.proofs.GridJoin.{out}
use Rattle.schema_fj.proofs.UpdateLaws.{cell_out, quiet_stands, killed_stands}

-- what is known of the order of cells
pub record Orders : Type 0 where
  pub parts : ByParts
  pub total : IsTotalOrder cell_order
  pub apart : Apart

pub keys_apart : KeysApart
keys_apart a b = (same_keys_decides a b).0

pub lists_as : {A : Type 0} {order : A → A → Ordering} (xs : List A) (P Q : A → Type 0) → ((a : A) → P a → Q a) → ((a : A) → Q a → P a) → Lists order xs P → Lists order xs Q
lists_as xs P Q f g l = record { ascends = l.ascends; only = λ a m. f a (l.only a m); every = λ a q. l.every a (g a q) }

untrue : (b : Bool) → not b ≡ true → b ≡ false
untrue true e = sym e
untrue false e = refl

or_none : {A : Type 0} (o : Option A) → option_or o None ≡ o
or_none None = refl
or_none (Some x) = refl

-- ---- types

pub type_is : (schema : Schema) (types : List CellType) (p : ℕ) → types ≡ map (λ (q : Property). q.cell) schema.properties → type_at types p ≡ cell_type schema p
type_is schema types p e = ap (λ l. type_at l p) e ∙ ap (λ o. unwrap_or o cell.Int) (slice_get-map (λ (q : Property). q.cell) schema.properties p) ∙ at (slice_get schema.properties p)
  where
    at : (o : Option Property) → unwrap_or (option_map (λ (q : Property). q.cell) o) cell.Int ≡ option_map_or (λ (q : Property). q.cell) o cell.Int
    at None = refl
    at (Some q) = refl

-- ---- one change of a cell

pub in_piece : {C : Type 0} (schema : Schema) (type : CellType) (of : CellChange → List C) (whole : List Update) (p : ℕ) (ks : List Key) (c : CellChange) → left_out schema type whole p ks ≡ false
    → map (λ x. record { cell = record { property = p; keys = ks }; change = x }) (of c) ≡ changes_in schema type of whole (Cell p ks c ∷ [])
in_piece schema type of whole p ks c e = sym (append-nil (map (λ x. record { cell = record { property = p; keys = ks }; change = x }) (of c))) ∙ sym (ap (λ b. cond b [] (map (λ x. record { cell = record { property = p; keys = ks }; change = x }) (of c)) ++ []) e)

pub out_piece : {C : Type 0} (schema : Schema) (type : CellType) (of : CellChange → List C) (whole : List Update) (p : ℕ) (ks : List Key) (c : CellChange) → left_out schema type whole p ks ≡ true
    → changes_in schema type of whole (Cell p ks c ∷ []) ≡ []
out_piece schema type of whole p ks c e = ap (λ b. cond b [] (map (λ x. record { cell = record { property = p; keys = ks }; change = x }) (of c)) ++ []) e

pub cell_fates : (log : List Update) (p : ℕ) (ks : List Key) (c : CellChange) → SameFates log (log ++ Cell p ks c ∷ [])
cell_fates log p ks c = record {
  dead = λ x. sym (dead_after_cell log p ks c x);
  made = λ x live. sym (creation_parts x log (Cell p ks c ∷ []) ∙ or_none (creation x log));
}

pub cell_holds : (schema : Schema) (s : Held) (base delta : List Update) (p : ℕ) (ks : List Key) (c : CellChange) (orders : Orders) (numbers : List (CellAt × IntCell)) (words : List (CellAt × TextCell))
    → StateHolds schema s base delta
    → GridStands int_plain int_effect IntStands numbers (changes_in schema cell.Int ints (base ++ delta) base) (changes_in schema cell.Int ints (base ++ delta) delta ++ changes_in schema cell.Int ints (base ++ (delta ++ Cell p ks c ∷ [])) (Cell p ks c ∷ []))
    → GridStands text_plain text_effect TextStands words (changes_in schema cell.Text texts (base ++ delta) base) (changes_in schema cell.Text texts (base ++ delta) delta ++ changes_in schema cell.Text texts (base ++ (delta ++ Cell p ks c ∷ [])) (Cell p ks c ∷ []))
    → StateHolds schema (record { types = s.types; numbers = numbers; texts = words; fates = s.fates; born = s.born; died = s.died }) base (delta ++ Cell p ks c ∷ [])
cell_holds schema s base delta p ks c orders numbers words h hn ht = record {
  types = h.types;
  numbers = quiet_stands ints_lawful orders.parts keys_apart schema cell.Int ints numbers old whole base delta (Cell p ks c ∷ []) (quiet cell.Int) hn;
  texts = quiet_stands texts_lawful orders.parts keys_apart schema cell.Text texts words old whole base delta (Cell p ks c ∷ []) (quiet cell.Text) ht;
  roster = subst (RosterStands s.fates) assoc (roster_same s.fates old (old ++ Cell p ks c ∷ []) (cell_fates old p ks c) h.roster);
  born = lists_as s.born (λ x. (is_created x delta ≡ true) × (is_dead old x ≡ false)) (λ x. (is_created x (delta ++ Cell p ks c ∷ []) ≡ true) × (is_dead whole x ≡ false))
      (λ x b. (made x ∙ b.0, dead x ∙ b.1)) (λ x b. (sym (made x) ∙ b.0, sym (dead x) ∙ b.1)) h.born;
  died = lists_as s.died (λ x. (is_dead old x ≡ true) × (is_dead base x ≡ false)) (λ x. (is_dead whole x ≡ true) × (is_dead base x ≡ false))
      (λ x d. (dead x ∙ d.0, d.1)) (λ x d. (sym (dead x) ∙ d.0, d.1)) h.died;
}
  where
    old : List Update
    old = base ++ delta

    whole : List Update
    whole = base ++ (delta ++ Cell p ks c ∷ [])

    assoc : base ++ delta ++ Cell p ks c ∷ [] ≡ base ++ (delta ++ Cell p ks c ∷ [])
    assoc = append_assoc base delta (Cell p ks c ∷ [])

    dead : (x : Id) → is_dead (base ++ (delta ++ Cell p ks c ∷ [])) x ≡ is_dead (base ++ delta) x
    dead x = ap (λ l. is_dead l x) (sym assoc) ∙ dead_after_cell (base ++ delta) p ks c x

    made : (x : Id) → is_created x (delta ++ Cell p ks c ∷ []) ≡ is_created x delta
    made x = ap is_some (creation_parts x delta (Cell p ks c ∷ []) ∙ or_none (creation x delta))

    quiet : (type : CellType) (x : CellAt) → out schema type (base ++ (delta ++ Cell p ks c ∷ [])) x ≡ out schema type (base ++ delta) x
    quiet type x = ap (λ l. out schema type l x) (sym assoc) ∙ cell_out schema type (base ++ delta) p ks c x

-- whether a cell with a dead key or of another type is left out of the longer log
pub left_after : (schema : Schema) (type : CellType) (base delta : List Update) (p : ℕ) (ks : List Key) (c : CellChange) → left_out schema type (base ++ (delta ++ Cell p ks c ∷ [])) p ks ≡ left_out schema type (base ++ delta) p ks
left_after schema type base delta p ks c = ap (λ l. left_out schema type l p ks) (sym (append_assoc base delta (Cell p ks c ∷ []))) ∙ cell_out schema type (base ++ delta) p ks c (record { property = p; keys = ks })

-- ---- ids that die

-- a creation or a deletion, which changes no cell
pub data ChangesNoCell : Update → Type 0 where
  creates_id : (id : Id) (e : ℕ) (ks : List Key) → ChangesNoCell (Create id e ks)
  deletes_id : (id : Id) → ChangesNoCell (Delete id)

no_cells : {C : Type 0} (schema : Schema) (type : CellType) (of : CellChange → List C) (whole : List Update) (u : Update) → ChangesNoCell u → changes_in schema type of whole (u ∷ []) ≡ []
no_cells schema type of whole (Create id e ks) n = refl
no_cells schema type of whole (Delete id) n = refl
no_cells schema type of whole (Cell p ks c) n = elim n [ ]

pub still_dead : (log more : List Update) (x : Id) → is_dead log x ≡ true → is_dead (log ++ more) x ≡ true
still_dead log more x h = (is_dead_decides (log ++ more) x).1 (dead_stays log more x ((is_dead_decides log x).0 h))

pub lived : (log more : List Update) (x : Id) → is_dead (log ++ more) x ≡ false → is_dead log x ≡ false
lived log more x h = elim (cases_Bool (is_dead log x)) [ inr f ↦ f | inl t ↦ absurd (false≢true (sym h ∙ still_dead log more x t)) ]

pub killed_holds : (schema : Schema) (s : Held) (base delta : List Update) (u : Update) (orders : Orders) (new died born : List Id) (fates : List (Id × Fate)) (numbers : List (CellAt × IntCell)) (words : List (CellAt × TextCell))
    → ChangesNoCell u → StateHolds schema s base delta → RosterStands fates (base ++ delta ++ u ∷ []) → Lists id_order new (IsNewlyDead (base ++ delta) (base ++ delta ++ u ∷ []))
    → ((x : Id) → is_dead (base ++ delta ++ u ∷ []) x ≡ false → is_created x (delta ++ u ∷ []) ≡ is_created x delta)
    → died ≡ fold (insert_key id_order) s.died new → born ≡ filter (λ x. not (is_gone (fate_at fates x))) s.born
    → Purges int_plain int_effect IntStands new s.numbers numbers → Purges text_plain text_effect TextStands new s.texts words
    → StateHolds schema (record { types = s.types; numbers = numbers; texts = words; fates = fates; born = born; died = died }) base (delta ++ u ∷ [])
killed_holds schema s base delta u orders new died born fates numbers words none h stands newly made d b pn pt =
    subst (λ l. RosterStands fates l → Lists id_order new (IsNewlyDead old l) → ((x : Id) → is_dead l x ≡ false → is_created x (delta ++ u ∷ []) ≡ is_created x delta) → ((x : Id) → is_dead old x ≡ true → is_dead l x ≡ true)
    → StateHolds schema (record { types = s.types; numbers = numbers; texts = words; fates = fates; born = born; died = died }) base (delta ++ u ∷ [])) (sym (append_assoc base delta (u ∷ [])))
    after stands newly made (still_dead old (u ∷ []))
  where
    old : List Update
    old = base ++ delta

    whole : List Update
    whole = base ++ (delta ++ u ∷ [])

    after : RosterStands fates (base ++ (delta ++ u ∷ [])) → Lists id_order new (IsNewlyDead (base ++ delta) (base ++ (delta ++ u ∷ [])))
        → ((x : Id) → is_dead (base ++ (delta ++ u ∷ [])) x ≡ false → is_created x (delta ++ u ∷ []) ≡ is_created x delta) → ((x : Id) → is_dead (base ++ delta) x ≡ true → is_dead (base ++ (delta ++ u ∷ [])) x ≡ true)
        → StateHolds schema (record { types = s.types; numbers = numbers; texts = words; fates = fates; born = born; died = died }) base (delta ++ u ∷ [])
    after stands newly made grows = record {
      types = h.types;
      numbers = killed_stands ints_lawful orders.parts keys_apart schema cell.Int ints orders.apart orders.total numbers (base ++ delta) (base ++ (delta ++ u ∷ [])) base delta (u ∷ []) new (no_cells schema cell.Int ints (base ++ (delta ++ u ∷ [])) u none) grows newly (pn _ _ h.numbers);
      texts = killed_stands texts_lawful orders.parts keys_apart schema cell.Text texts orders.apart orders.total words (base ++ delta) (base ++ (delta ++ u ∷ [])) base delta (u ∷ []) new (no_cells schema cell.Text texts (base ++ (delta ++ u ∷ [])) u none) grows newly (pt _ _ h.texts);
      roster = stands;
      born = subst (λ (l : List Id). Lists id_order l (λ x. (is_created x (delta ++ u ∷ []) ≡ true) × (is_dead (base ++ (delta ++ u ∷ [])) x ≡ false))) (sym b) (record {
        ascends = IsStrictlySortedBy-filter id_order test s.born h.born.ascends;
        only = λ x m. let live = gone x ∙ untrue (is_gone (fate_at fates x)) (kept_passes test s.born x m) in (made x live ∙ (h.born.only x (kept_member test s.born x m)).0, live);
        every = λ x p. kept test s.born x (h.born.every x (sym (made x p.1) ∙ p.0, was x p.1)) (ap not (sym (gone x) ∙ p.1));
      });
      died = subst (λ (l : List Id). Lists id_order l (λ x. (is_dead (base ++ (delta ++ u ∷ [])) x ≡ true) × (is_dead base x ≡ false))) (sym d) (record {
        ascends = fold_sorted id_order_total s.died new h.died.ascends;
        only = λ x m. elim (fold_from id_order_total new s.died x m) [
          | inl k ↦ let e = h.died.only x k in (grows x e.0, e.1)
          | inr k ↦ let e = newly.only x k in (e.0, lived base delta x e.1)
        ];
        every = λ x p. elim (cases_Bool (is_dead (base ++ delta) x)) [
          | inl t ↦ fold_keeps id_order_total new s.died x (h.died.every x (t, p.1))
          | inr f ↦ fold_puts id_order_total id_same new s.died x (newly.every x (p.0, f))
        ];
      });
    }
      where
        test : Id → Bool
        test x = not (is_gone (fate_at fates x))

        gone : (x : Id) → is_dead (base ++ (delta ++ u ∷ [])) x ≡ is_gone (fate_at fates x)
        gone x = sym (gone_means fates (base ++ (delta ++ u ∷ [])) x stands)

        was : (x : Id) → is_dead (base ++ (delta ++ u ∷ [])) x ≡ false → is_dead (base ++ delta) x ≡ false
        was x e = elim (cases_Bool (is_dead (base ++ delta) x)) [ inr f ↦ f | inl t ↦ absurd (false≢true (sym e ∙ grows x t)) ]

-- ---- creations and deletions

-- what a deletion leaves created
pub deleted_made : (delta : List Update) (id x : Id) → is_created x (delta ++ Delete id ∷ []) ≡ is_created x delta
deleted_made delta id x = ap is_some (deleted_creates delta id x)

pub created_made : (log : List Update) (id : Id) (e : ℕ) (ks : List Key) (x : Id) → same_id id x ≡ false → is_created x (log ++ Create id e ks ∷ []) ≡ is_created x log
created_made log id e ks x n = ap is_some (created_then log id e ks x n)

-- a creation that kills nothing
pub quiet_holds : (schema : Schema) (s : Held) (base delta : List Update) (id : Id) (e : ℕ) (ks : List Key) (orders : Orders) (born : List Id) (fates : List (Id × Fate)) → StateHolds schema s base delta
    → ((x : Id) → is_dead (base ++ delta ++ Create id e ks ∷ []) x ≡ is_dead (base ++ delta) x) → RosterStands fates (base ++ delta ++ Create id e ks ∷ [])
    → Lists id_order born (λ x. (is_created x (delta ++ Create id e ks ∷ []) ≡ true) × (is_dead (base ++ delta) x ≡ false))
    → StateHolds schema (record { types = s.types; numbers = s.numbers; texts = s.texts; fates = fates; born = born; died = s.died }) base (delta ++ Create id e ks ∷ [])
quiet_holds schema s base delta id e ks orders born fates h quiet stands lists = record {
  types = h.types;
  numbers = quiet_stands ints_lawful orders.parts keys_apart schema cell.Int ints s.numbers (base ++ delta) (base ++ (delta ++ Create id e ks ∷ [])) base delta (Create id e ks ∷ []) (same cell.Int)
      (subst (GridStands int_plain int_effect IntStands s.numbers (changes_in schema cell.Int ints (base ++ delta) base)) (sym (append-nil (changes_in schema cell.Int ints (base ++ delta) delta))) h.numbers);
  texts = quiet_stands texts_lawful orders.parts keys_apart schema cell.Text texts s.texts (base ++ delta) (base ++ (delta ++ Create id e ks ∷ [])) base delta (Create id e ks ∷ []) (same cell.Text)
      (subst (GridStands text_plain text_effect TextStands s.texts (changes_in schema cell.Text texts (base ++ delta) base)) (sym (append-nil (changes_in schema cell.Text texts (base ++ delta) delta))) h.texts);
  roster = subst (RosterStands fates) assoc stands;
  born = lists_as born (λ x. (is_created x (delta ++ Create id e ks ∷ []) ≡ true) × (is_dead (base ++ delta) x ≡ false)) (λ x. (is_created x (delta ++ Create id e ks ∷ []) ≡ true) × (is_dead (base ++ (delta ++ Create id e ks ∷ [])) x ≡ false))
      (λ x b. (b.0, dead x ∙ b.1)) (λ x b. (b.0, sym (dead x) ∙ b.1)) lists;
  died = lists_as s.died (λ x. (is_dead (base ++ delta) x ≡ true) × (is_dead base x ≡ false)) (λ x. (is_dead (base ++ (delta ++ Create id e ks ∷ [])) x ≡ true) × (is_dead base x ≡ false))
      (λ x d. (dead x ∙ d.0, d.1)) (λ x d. (sym (dead x) ∙ d.0, d.1)) h.died;
}
  where
    assoc : base ++ delta ++ Create id e ks ∷ [] ≡ base ++ (delta ++ Create id e ks ∷ [])
    assoc = append_assoc base delta (Create id e ks ∷ [])

    dead : (x : Id) → is_dead (base ++ (delta ++ Create id e ks ∷ [])) x ≡ is_dead (base ++ delta) x
    dead x = ap (λ l. is_dead l x) (sym assoc) ∙ quiet x

    same : (type : CellType) (x : CellAt) → out schema type (base ++ (delta ++ Create id e ks ∷ [])) x ≡ out schema type (base ++ delta) x
    same type x = ap (λ b. not (same_type (cell_type schema x.property) type) || b) (has_dead_same (base ++ (delta ++ Create id e ks ∷ [])) (base ++ delta) x.keys (λ v m. dead v))

-- the created ids with one more, which lives
pub born_more : (joiner delta : List Update) (id : Id) (e : ℕ) (ks : List Key) (born new : List Id) → creation id delta ≡ None → is_dead joiner id ≡ false → new ≡ insert_key id_order born id
    → Lists id_order born (λ x. (is_created x delta ≡ true) × (is_dead joiner x ≡ false)) → Lists id_order new (λ x. (is_created x (delta ++ Create id e ks ∷ []) ≡ true) × (is_dead joiner x ≡ false))
born_more joiner delta id e ks born new fresh live is h = subst (λ (l : List Id). Lists id_order l (λ x. (is_created x (delta ++ Create id e ks ∷ []) ≡ true) × (is_dead joiner x ≡ false))) (sym is) (record {
  ascends = insert_sorted id_order_total born id h.ascends;
  only = λ x m. elim (inserted_from id_order_total born id x m) [
    | inl same ↦ subst (λ v. (is_created v (delta ++ Create id e ks ∷ []) ≡ true) × (is_dead joiner v ≡ false)) same (ap is_some (created_itself delta id e ks fresh), live)
    | inr old ↦ let o = h.only x old in (more x o.0, o.1)
  ];
  every = λ x p. elim (cases_Bool (same_id id x)) [
    | inl t ↦ subst (Contains (insert_key id_order born id)) ((same_id_decides id x).0 t) (inserted id_order_total id_same born id)
    | inr f ↦ stays id_order_total born id x (h.every x (sym (created_made delta id e ks x f) ∙ p.0, p.1))
  ];
})
  where
    some_left : {A : Type 0} (o p : Option A) → is_some o ≡ true → is_some (option_or o p) ≡ true
    some_left None p t = absurd (false≢true t)
    some_left (Some y) p t = refl

    more : (x : Id) → is_created x delta ≡ true → is_created x (delta ++ Create id e ks ∷ []) ≡ true
    more x t = ap is_some (creation_parts x delta (Create id e ks ∷ [])) ∙ some_left (creation x delta) (creation x (Create id e ks ∷ [])) t

-- one that is dead is none of them
pub born_dead : (joiner delta : List Update) (id : Id) (e : ℕ) (ks : List Key) (born : List Id) → is_dead joiner id ≡ true
    → Lists id_order born (λ x. (is_created x delta ≡ true) × (is_dead joiner x ≡ false)) → Lists id_order born (λ x. (is_created x (delta ++ Create id e ks ∷ []) ≡ true) × (is_dead joiner x ≡ false))
born_dead joiner delta id e ks born dead h = lists_as born (λ x. (is_created x delta ≡ true) × (is_dead joiner x ≡ false)) (λ x. (is_created x (delta ++ Create id e ks ∷ []) ≡ true) × (is_dead joiner x ≡ false))
    (λ x b. (created_made delta id e ks x (other x b.1) ∙ b.0, b.1)) (λ x b. (sym (created_made delta id e ks x (other x b.1)) ∙ b.0, b.1)) h
  where
    other : (x : Id) → is_dead joiner x ≡ false → same_id id x ≡ false
    other x live = elim (cases_Bool (same_id id x)) [ inr f ↦ f | inl t ↦ absurd (false≢true (sym live ∙ ap (is_dead joiner) (sym ((same_id_decides id x).0 t)) ∙ dead)) ]

-- ---- the steps as the code makes them

or_true : (b : Bool) → (b || true) ≡ true
or_true true = refl
or_true false = refl

-- a change of a cell with a dead key
pub dead_cell : (schema : Schema) (s : Held) (base delta : List Update) (p : ℕ) (ks : List Key) (c : CellChange) → Orders → StateHolds schema s base delta → has_dead (base ++ delta) ks ≡ true
    → StateHolds schema s base (delta ++ Cell p ks c ∷ [])
dead_cell schema s base delta p ks c orders h dead =
    cell_holds schema s base delta p ks c orders s.numbers s.texts h
    (subst (GridStands int_plain int_effect IntStands s.numbers (changes_in schema cell.Int ints (base ++ delta) base))
    (sym (ap (λ l. changes_in schema cell.Int ints (base ++ delta) delta ++ l) (out_piece schema cell.Int ints (base ++ (delta ++ Cell p ks c ∷ [])) p ks c (left cell.Int)) ∙ append-nil (changes_in schema cell.Int ints (base ++ delta) delta))) h.numbers)
    (subst (GridStands text_plain text_effect TextStands s.texts (changes_in schema cell.Text texts (base ++ delta) base))
    (sym (ap (λ l. changes_in schema cell.Text texts (base ++ delta) delta ++ l) (out_piece schema cell.Text texts (base ++ (delta ++ Cell p ks c ∷ [])) p ks c (left cell.Text)) ∙ append-nil (changes_in schema cell.Text texts (base ++ delta) delta))) h.texts)
  where
    left : (type : CellType) → left_out schema type (base ++ (delta ++ Cell p ks c ∷ [])) p ks ≡ true
    left type = left_after schema type base delta p ks c ∙ ap (λ b. not (same_type (cell_type schema p) type) || b) dead ∙ or_true (not (same_type (cell_type schema p) type))

-- a change of a number
pub number_cell : (schema : Schema) (s : Held) (base delta : List Update) (p : ℕ) (ks : List Key) (c : CellChange) → Orders → (numbers : List (CellAt × IntCell)) → StateHolds schema s base delta → has_dead (base ++ delta) ks ≡ false
    → cell_type schema p ≡ cell.Int
    → GridStands int_plain int_effect IntStands numbers (changes_in schema cell.Int ints (base ++ delta) base) (changes_in schema cell.Int ints (base ++ delta) delta ++ map (λ x. record { cell = record { property = p; keys = ks }; change = x }) (ints c))
    → StateHolds schema (record { types = s.types; numbers = numbers; texts = s.texts; fates = s.fates; born = s.born; died = s.died }) base (delta ++ Cell p ks c ∷ [])
number_cell schema s base delta p ks c orders numbers h live type held =
    cell_holds schema s base delta p ks c orders numbers s.texts h
    (subst (λ l. GridStands int_plain int_effect IntStands numbers (changes_in schema cell.Int ints (base ++ delta) base) (changes_in schema cell.Int ints (base ++ delta) delta ++ l))
    (in_piece schema cell.Int ints (base ++ (delta ++ Cell p ks c ∷ [])) p ks c (left_after schema cell.Int base delta p ks c ∙ (λ i. not (same_type (type i) cell.Int) || live i))) held)
    (subst (GridStands text_plain text_effect TextStands s.texts (changes_in schema cell.Text texts (base ++ delta) base))
    (sym (ap (λ l. changes_in schema cell.Text texts (base ++ delta) delta ++ l) (out_piece schema cell.Text texts (base ++ (delta ++ Cell p ks c ∷ [])) p ks c (left_after schema cell.Text base delta p ks c ∙ ap (λ t. not (same_type t cell.Text) || has_dead (base ++ delta) ks) type)) ∙ append-nil (changes_in schema cell.Text texts (base ++ delta) delta))) h.texts)

-- a change of a text
pub text_cell : (schema : Schema) (s : Held) (base delta : List Update) (p : ℕ) (ks : List Key) (c : CellChange) → Orders → (words : List (CellAt × TextCell)) → StateHolds schema s base delta → has_dead (base ++ delta) ks ≡ false
    → cell_type schema p ≡ cell.Text
    → GridStands text_plain text_effect TextStands words (changes_in schema cell.Text texts (base ++ delta) base) (changes_in schema cell.Text texts (base ++ delta) delta ++ map (λ x. record { cell = record { property = p; keys = ks }; change = x }) (texts c))
    → StateHolds schema (record { types = s.types; numbers = s.numbers; texts = words; fates = s.fates; born = s.born; died = s.died }) base (delta ++ Cell p ks c ∷ [])
text_cell schema s base delta p ks c orders words h live type held =
    cell_holds schema s base delta p ks c orders s.numbers words h
    (subst (GridStands int_plain int_effect IntStands s.numbers (changes_in schema cell.Int ints (base ++ delta) base))
    (sym (ap (λ l. changes_in schema cell.Int ints (base ++ delta) delta ++ l) (out_piece schema cell.Int ints (base ++ (delta ++ Cell p ks c ∷ [])) p ks c (left_after schema cell.Int base delta p ks c ∙ ap (λ t. not (same_type t cell.Int) || has_dead (base ++ delta) ks) type)) ∙ append-nil (changes_in schema cell.Int ints (base ++ delta) delta))) h.numbers)
    (subst (λ l. GridStands text_plain text_effect TextStands words (changes_in schema cell.Text texts (base ++ delta) base) (changes_in schema cell.Text texts (base ++ delta) delta ++ l))
    (in_piece schema cell.Text texts (base ++ (delta ++ Cell p ks c ∷ [])) p ks c (left_after schema cell.Text base delta p ks c ∙ (λ i. not (same_type (type i) cell.Text) || live i))) held)

-- what is left once the doomed are buried
pub buried_holds : (schema : Schema) (s s' : Held) (base delta : List Update) (u : Update) (orders : Orders) (new : List Id) → ChangesNoCell u → StateHolds schema s base delta
    → RosterStands s'.fates (base ++ delta ++ u ∷ []) → Lists id_order new (IsNewlyDead (base ++ delta) (base ++ delta ++ u ∷ []))
    → ((x : Id) → is_dead (base ++ delta ++ u ∷ []) x ≡ false → is_created x (delta ++ u ∷ []) ≡ is_created x delta)
    → s'.types ≡ s.types → s'.died ≡ fold (insert_key id_order) s.died new → s'.born ≡ filter (λ x. not (is_gone (fate_at s'.fates x))) s.born
    → Purges int_plain int_effect IntStands new s.numbers s'.numbers → Purges text_plain text_effect TextStands new s.texts s'.texts
    → StateHolds schema s' base (delta ++ u ∷ [])
buried_holds schema s s' base delta u orders new none h stands newly made types d b pn pt =
    subst (λ (t : List CellType). StateHolds schema (record { types = t; numbers = s'.numbers; texts = s'.texts; fates = s'.fates; born = s'.born; died = s'.died }) base (delta ++ u ∷ [])) (sym types)
    (killed_holds schema s base delta u orders new s'.died s'.born s'.fates s'.numbers s'.texts none h stands newly made d b pn pt)

pub none_right : (log more : List Update) (id : Id) → creation id (log ++ more) ≡ None → creation id more ≡ None
none_right log more id e = at (creation id log) (creation id more) (sym (creation_parts id log more) ∙ e)
  where
    at : {A : Type 0} (o p : Option A) → option_or o p ≡ None → p ≡ None
    at None p f = f
    at (Some x) p f = cc

-- a creation with a dead key, buried
pub created_dead : (schema : Schema) (s s' : Held) (base delta : List Update) (id : Id) (e : ℕ) (ks : List Key) (orders : Orders) (new : List Id) → StateHolds schema s base delta
    → creation id (base ++ delta) ≡ None → has_dead (base ++ delta) ks ≡ true
    → RosterStands s'.fates (base ++ delta ++ Create id e ks ∷ []) → Lists id_order new (IsNewlyDead (base ++ delta) (base ++ delta ++ Create id e ks ∷ []))
    → s'.types ≡ s.types → s'.died ≡ fold (insert_key id_order) s.died new → s'.born ≡ filter (λ x. not (is_gone (fate_at s'.fates x))) s.born
    → Purges int_plain int_effect IntStands new s.numbers s'.numbers → Purges text_plain text_effect TextStands new s.texts s'.texts
    → StateHolds schema s' base (delta ++ Create id e ks ∷ [])
created_dead schema s s' base delta id e ks orders new h fresh dead stands newly =
    buried_holds schema s s' base delta (Create id e ks) orders new (creates_id id e ks) h stands newly made
  where
    dies : is_dead (base ++ delta ++ Create id e ks ∷ []) id ≡ true
    dies = (creation_kills (base ++ delta) id e ks fresh dead).led id (0, refl)

    made : (x : Id) → is_dead (base ++ delta ++ Create id e ks ∷ []) x ≡ false → is_created x (delta ++ Create id e ks ∷ []) ≡ is_created x delta
    made x live = created_made delta id e ks x (elim (cases_Bool (same_id id x)) [
      | inr f ↦ f
      | inl t ↦ absurd (false≢true (sym live ∙ ap (is_dead (base ++ delta ++ Create id e ks ∷ [])) (sym ((same_id_decides id x).0 t)) ∙ dies))
    ])

-- a creation of a dead id
pub created_again : (schema : Schema) (s : Held) (base delta : List Update) (id : Id) (e : ℕ) (ks : List Key) (orders : Orders) → StateHolds schema s base delta
    → creation id (base ++ delta) ≡ None → is_dead (base ++ delta) id ≡ true → StateHolds schema s base (delta ++ Create id e ks ∷ [])
created_again schema s base delta id e ks orders h fresh dead =
    quiet_holds schema s base delta id e ks orders s.born s.fates h (creation_quiet (base ++ delta) id e ks fresh (inl dead))
    (of_dead (base ++ delta) id e ks s.fates [] refl fresh dead h.roster).0 (born_dead (base ++ delta) delta id e ks s.born dead h.born)

-- a creation of an id that lives
pub created_living : (schema : Schema) (s : Held) (base delta : List Update) (id : Id) (e : ℕ) (ks : List Key) (orders : Orders) (born : List Id) (fates : List (Id × Fate)) → StateHolds schema s base delta
    → creation id (base ++ delta) ≡ None → has_dead (base ++ delta) ks ≡ false → is_dead (base ++ delta) id ≡ false → RosterStands fates (base ++ delta ++ Create id e ks ∷ []) → born ≡ insert_key id_order s.born id
    → StateHolds schema (record { types = s.types; numbers = s.numbers; texts = s.texts; fates = fates; born = born; died = s.died }) base (delta ++ Create id e ks ∷ [])
created_living schema s base delta id e ks orders born fates h fresh keys live stands is =
    quiet_holds schema s base delta id e ks orders born fates h (creation_quiet (base ++ delta) id e ks fresh (inr keys)) stands
    (born_more (base ++ delta) delta id e ks s.born born (none_right base delta id fresh) live is h.born)

-- an id that a fit log creates is new in the front
pub fresh_id : (schema : Schema) (base delta : List Update) (id : Id) (e : ℕ) (ks : List Key) → Fit schema (base ++ (delta ++ Create id e ks ∷ [])) → creation id (base ++ delta) ≡ None
fresh_id schema base delta id e ks fit = at (creation id (base ++ delta)) refl
  where
    once : CreatedOnce (base ++ delta ++ Create id e ks ∷ [])
    once = subst CreatedOnce (sym (append_assoc base delta (Create id e ks ∷ []))) fit.once

    at : (o : Option Creation) → creation id (base ++ delta) ≡ o → creation id (base ++ delta) ≡ None
    at None k = k
    at (Some c) k = absurd ((created_once_parts (base ++ delta) (Create id e ks ∷ []) once).2 id (created_contains id c.entity c.keys (base ++ delta) (created_member id (base ++ delta) c k)) (here id []))

-- ---- a fork, and a copy

nil : IsStrictlySortedBy id_order []
unfolding IsStrictlySortedBy
nil = tt

pub forked_stands : (schema : Schema) (s s' : Held) (base delta : List Update) → StateStands schema s base delta → s'.types ≡ s.types → s'.fates ≡ s.fates → s'.born ≡ [] → s'.died ≡ []
    → GridStands int_plain int_effect IntStands s'.numbers (changes_in schema cell.Int ints (base ++ delta) base ++ changes_in schema cell.Int ints (base ++ delta) delta) []
    → GridStands text_plain text_effect TextStands s'.texts (changes_in schema cell.Text texts (base ++ delta) base ++ changes_in schema cell.Text texts (base ++ delta) delta) []
    → StateStands schema s' (base ++ delta) []
forked_stands schema s s' base delta h types fates born died hn ht = record {
  fit = subst (Fit schema) (sym same) h.fit;
  holds = record {
    types = types ∙ h.holds.types;
    numbers = subst (λ w. GridStands int_plain int_effect IntStands s'.numbers (changes_in schema cell.Int ints w (base ++ delta)) []) (sym same)
        (subst (λ l. GridStands int_plain int_effect IntStands s'.numbers l []) (sym (changes_in-append schema cell.Int ints (base ++ delta) base delta)) hn);
    texts = subst (λ w. GridStands text_plain text_effect TextStands s'.texts (changes_in schema cell.Text texts w (base ++ delta)) []) (sym same)
        (subst (λ l. GridStands text_plain text_effect TextStands s'.texts l []) (sym (changes_in-append schema cell.Text texts (base ++ delta) base delta)) ht);
    roster = subst (RosterStands s'.fates) (sym same) (subst (λ f. RosterStands f (base ++ delta)) (sym fates) h.holds.roster);
    born = subst (λ (l : List Id). Lists id_order l (λ x. (is_created x [] ≡ true) × (is_dead (base ++ delta ++ []) x ≡ false))) (sym born)
        (record { ascends = nil; only = λ x m. absurd (none_in x m); every = λ x b. absurd (false≢true b.0) });
    died = subst (λ (l : List Id). Lists id_order l (λ x. (is_dead (base ++ delta ++ []) x ≡ true) × (is_dead (base ++ delta) x ≡ false))) (sym died)
        (record { ascends = nil; only = λ x m. absurd (none_in x m); every = λ x d. absurd (false≢true (sym d.1 ∙ ap (λ l. is_dead l x) (sym same) ∙ d.0)) });
  };
}
  where
    same : base ++ delta ++ [] ≡ base ++ delta
    same = append-nil (base ++ delta)

pub copied_holds : (schema : Schema) (s s' : Held) (base delta : List Update) → StateHolds schema s base delta → s'.types ≡ s.types → s'.fates ≡ s.fates → s'.born ≡ s.born → s'.died ≡ s.died
    → GridStands int_plain int_effect IntStands s'.numbers (changes_in schema cell.Int ints (base ++ delta) base) (changes_in schema cell.Int ints (base ++ delta) delta)
    → GridStands text_plain text_effect TextStands s'.texts (changes_in schema cell.Text texts (base ++ delta) base) (changes_in schema cell.Text texts (base ++ delta) delta)
    → StateHolds schema s' base delta
copied_holds schema s s' base delta h types fates born died hn ht = record {
  types = types ∙ h.types;
  numbers = hn;
  texts = ht;
  roster = subst (λ f. RosterStands f (base ++ delta)) (sym fates) h.roster;
  born = subst (λ (l : List Id). Lists id_order l (λ x. (is_created x delta ≡ true) × (is_dead (base ++ delta) x ≡ false))) (sym born) h.born;
  died = subst (λ (l : List Id). Lists id_order l (λ x. (is_dead (base ++ delta) x ≡ true) × (is_dead base x ≡ false))) (sym died) h.died;
}
