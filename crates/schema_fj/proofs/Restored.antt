-- A state made of an image stands for the image's log.
use Rattle.std.proofs.Common.{◌≡◌, refl, sym, ◌∙◌, ap, subst, ℕ, ℤ, Bool, true, false, cond, List, [], ◌∷◌, ◌++◌, inl, inr, arith}
use Rattle.std.specs.Prelude.{◌||◌, ◌&&◌, Contains, Option, Some, None, is_some, pos, negsuc}
use Rattle.std.specs.Cmp.{IsTotalOrder}
use Rattle.std.specs.Ordering.{is_eq}
use Rattle.std.proofs.lemmas.Bool.{and_parts, false≢true}
use Rattle.std.proofs.lemmas.Bool.Decides.{nat_tests}
use Rattle.std.proofs.lemmas.Cmp.{tied_itself}
use Rattle.std.proofs.lemmas.List.{append-nil, append_assoc}
use Rattle.std.proofs.lemmas.List.Elements.{Contains-append_left, Contains-append_right, filter_agree}
use Rattle.std.proofs.lemmas.List.Folds.{list_any-append}
use Rattle.cloud_base.specs.Values.{Id}
use Rattle.cloud_base.specs.Order.{id_order}
use Rattle.cloud_base.specs.Answer.{answer}
use Rattle.cloud_base.specs.Dead.{is_dead}
use Rattle.cloud_base.specs.Log.{creation, is_created}
use Rattle.cloud_base.specs.PlainCell.{is_default, plain_text}
use Rattle.cloud_base.specs.Shaped.{Fit, cell_type}
use Rattle.cloud_base.specs.Sorted.{Lists}
use Rattle.cloud_base.specs.declared.schema.Schema.{Schema}
use Rattle.cloud_base.specs.declared.schema.CellType.{CellType}
use Rattle.cloud_base.specs.declared.schema.CellType.TheVariants as cell
use Rattle.cloud_base.specs.declared.update.Answer.TheVariants as answers
use Rattle.cloud_base.specs.declared.update.CellChange.{CellChange}
use Rattle.cloud_base.specs.declared.update.Query.TheVariants.{Get}
use Rattle.cloud_base.specs.declared.update.Update.{Update}
use Rattle.cloud_base.specs.declared.update.Update.TheVariants.{Create, Delete}
use Rattle.cloud_base.proofs.SortedLemmas.{here, none_in, split_member}
use Rattle.cloud_base.proofs.DeadLemmas.{member_some}
use Rattle.fj_core.specs.declared.effect.Effect.{Effect}
use Rattle.fj_core.specs.Changes.{ints, texts}
use Rattle.fj_core.specs.IntCells.{int_plain, int_effect, IntStands}
use Rattle.fj_core.specs.IntLaws.{int_plain-empty}
use Rattle.fj_core.specs.TextCells.{text_plain, text_effect, TextStands}
use Rattle.fj_array.specs.declared.cell.Cell.{Cell}
use Rattle.fj_array.specs.Cells.{At, of_cell, same_cell, cell_order}
use Rattle.fj_array.specs.Grids.{kept_at, GridStands, AgreeElsewhere}
use Rattle.fj_entity.specs.Fates.{Fate}
use Rattle.fj_entity.specs.declared.created.Created.{Created}
use Rattle.fj_entity.specs.Rosters.{RosterStands, IsNewlyDead}
use Rattle.change_lists.specs.declared.value.Content.{Content}
use Rattle.change_lists.specs.declared.value.Content.TheVariants as content
use Rattle.change_lists.specs.declared.value.CellValue.{CellValue}
use Rattle.change_lists.specs.Lists.{ImageLists, place_of, value_order}
use Rattle.change_lists.specs.Images.{answer_of, IsHeld, IsImage}
use Rattle.schema_fj.specs.Held.{Held}
use Rattle.schema_fj.specs.Placed.{number_in, text_in, counts, is_place, placed, PutsAll, PutsOne, PutsCells}
use Rattle.schema_fj.specs.Sets.{type_at}
use Rattle.schema_fj.specs.States.{same_type, changes_in, StateStands}
use Rattle.schema_fj.specs.Told.{AreNew, SameFates, creates, deletes}
use Rattle.schema_fj.specs.Valued.{content_of}
use Rattle.schema_fj.proofs.CellFacts.{IsLawful, Apart, of_cell-kept, ints_lawful, texts_lawful}
use Rattle.schema_fj.proofs.CellLaws.{no_changes, cell_same}
use Rattle.schema_fj.proofs.FateLaws.{told_fates, roster_same}
use Rattle.schema_fj.proofs.GridJoin.{out}
use Rattle.schema_fj.proofs.Images.{content_back, get_is}
use Rattle.schema_fj.proofs.JoinOne.{type_same, type_itself, typed_as_told}
use Rattle.schema_fj.proofs.StateJoin.{are_new, creates-push, deletes-push}
use Rattle.schema_fj.proofs.StateSteps.{Orders, keys_apart, lists_as, type_is}
use Rattle.schema_fj.proofs.ValueLemmas.{value_int, value_text}

-- ---- the loop over the values

is_the : {A : Type 0} (x y : A) → Some x ≡ Some y → x ≡ y
is_the x y e = cc

or_none : (b : Bool) → (b || false) ≡ b
or_none true = refl
or_none false = refl

or_some : (b : Bool) → (b || true) ≡ true
or_some true = refl
or_some false = refl

and_false : (b : Bool) → (b && false) ≡ false
and_false true = refl
and_false false = refl

module _ (live : CellValue → Bool) (done : List CellValue) (it : CellValue) where
  -- one value more places its cell and no other
  place_more : (x : Cell) → is_place live (done ++ it ∷ []) x ≡ (is_place live done x || (live it && same_cell (place_of it) x))
  place_more x =
      list_any-append (λ v. live v && same_cell (place_of v) x) done (it ∷ [])
      ∙ ap (λ b. is_place live done x || b) (or_none (live it && same_cell (place_of it) x))

  place_idle : live it ≡ false → (x : Cell) → is_place live (done ++ it ∷ []) x ≡ is_place live done x
  place_idle e x = place_more x ∙ ap (λ b. is_place live done x || (b && same_cell (place_of it) x)) e ∙ or_none (is_place live done x)

  place_other : (x : Cell) → same_cell (place_of it) x ≡ false → is_place live (done ++ it ∷ []) x ≡ is_place live done x
  place_other x e = place_more x ∙ ap (λ b. is_place live done x || (live it && b)) e ∙ ap (λ b. is_place live done x || b) (and_false (live it)) ∙ or_none (is_place live done x)

  place_here : IsTotalOrder cell_order → live it ≡ true → is_place live (done ++ it ∷ []) (place_of it) ≡ true
  place_here total e =
      place_more (place_of it) ∙ ap (λ b. is_place live done (place_of it) || (b && same_cell (place_of it) (place_of it))) e
      ∙ ap (λ o. is_place live done (place_of it) || is_eq o) (tied_itself total (place_of it)) ∙ or_some (is_place live done (place_of it))

module _ {S C V : Type 0} (plain : List C → V) (effect_of : List C → Option Effect) (stands : S → List C → List C → Type 0) where
  pub puts_skip : (part : Content → Option V) (live : CellValue → Bool) (it : CellValue) (grid : List (Cell × S)) → live it ≡ false → PutsAll plain effect_of stands part live (it ∷ []) grid grid
  puts_skip part live it grid e done log due held =
      subst (λ (l : List (At C)). GridStands plain effect_of stands grid l [])
      (filter_agree (λ (u : At C). is_place live done u.cell) (λ (u : At C). is_place live (done ++ it ∷ []) u.cell) (λ u. sym (place_idle live done it e u.cell)) log) held

  pub puts_then : (part : Content → Option V) (live : CellValue → Bool) (items more : List CellValue) (old mid new : List (Cell × S))
      → PutsAll plain effect_of stands part live items old mid → PutsAll plain effect_of stands part live more mid new → PutsAll plain effect_of stands part live (items ++ more) old new
  puts_then part live items more old mid new f g done log due held =
      subst (λ (l : List CellValue). GridStands plain effect_of stands new (placed live l log) []) (append_assoc done items more)
      (g (done ++ items) log (λ it m l. due it (Contains-append_right items more it m) l) (f done log (λ it m l. due it (Contains-append_left items more it m) l) held))

  -- a grid that took no value
  pub puts_nothing : (it : CellValue) (grid : List (Cell × S)) (value : Option V) → value ≡ None → PutsOne plain effect_of stands value it grid grid
  puts_nothing it grid value is live lives = puts_skip (λ x. value) live it grid (lives ∙ ap is_some is)

  -- and one that took a value
  pub puts_one : Apart → IsTotalOrder cell_order → (it : CellValue) (old new : List (Cell × S)) (value : Option V) (v : V) → value ≡ Some v
      → ((base delta before after : List (At C)) → GridStands plain effect_of stands old base delta → plain (of_cell (place_of it) before) ≡ v → of_cell (place_of it) after ≡ []
      → AgreeElsewhere (place_of it) base before → AgreeElsewhere (place_of it) delta after → GridStands plain effect_of stands new before after)
      → PutsOne plain effect_of stands value it old new
  puts_one apart total it old new value v is step live lives done log due held =
      let alive : live it ≡ true = lives ∙ ap is_some is in
      let more : List CellValue = done ++ it ∷ [] in
      let own : of_cell (place_of it) (placed live (done ++ it ∷ []) log) ≡ of_cell (place_of it) log =
      of_cell-kept apart (is_place live (done ++ it ∷ [])) (place_of it) log ∙ ap (λ b. cond b (of_cell (place_of it) log) []) (place_here live done it total alive) in
      step (placed live done log) [] (placed live (done ++ it ∷ []) log) [] held
      (ap plain own ∙ is_the (plain (of_cell (place_of it) log)) v (due it (here it []) alive ∙ is)) refl
      (λ q n. of_cell-kept apart (is_place live done) q log ∙ ap (λ b. cond b (of_cell q log) []) (sym (place_other live done it q n)) ∙ sym (of_cell-kept apart (is_place live (done ++ it ∷ [])) q log))
      (λ q n. refl)

  pub puts_of : (part : Content → Option V) (live : CellValue → Bool) (it : CellValue) (old new : List (Cell × S)) (value : Option V) → value ≡ part it.value → live it ≡ is_some value
      → PutsOne plain effect_of stands value it old new → PutsAll plain effect_of stands part live (it ∷ []) old new
  puts_of part live it old new value is lives h done log due held =
      h live lives done log (λ x m l. due x m l ∙ ap (λ (y : CellValue). part y.value) (sym (only x m)) ∙ sym is) held
    where
      only : (x : CellValue) → Contains (it ∷ []) x → it ≡ x
      only x m = elim (split_member it x [] m) [ inl e ↦ e | inr n ↦ absurd (none_in x n) ]

pub values_then : (items more : List CellValue) (old mid new : Held) → PutsCells items old mid → PutsCells more mid new → PutsCells (items ++ more) old new
values_then items more old mid new f g = record {
  kept = record {
    types = g.kept.types ∙ f.kept.types;
    fates = g.kept.fates ∙ f.kept.fates;
    born = g.kept.born ∙ f.kept.born;
    died = g.kept.died ∙ f.kept.died;
  };
  numbers = puts_then int_plain int_effect IntStands number_in (counts old.types cell.Int number_in) items more old.numbers mid.numbers new.numbers f.numbers
      (subst (λ (t : List CellType). PutsAll int_plain int_effect IntStands number_in (counts t cell.Int number_in) more mid.numbers new.numbers) f.kept.types g.numbers);
  texts = puts_then text_plain text_effect TextStands text_in (counts old.types cell.Text text_in) items more old.texts mid.texts new.texts f.texts
      (subst (λ (t : List CellType). PutsAll text_plain text_effect TextStands text_in (counts t cell.Text text_in) more mid.texts new.texts) f.kept.types g.texts);
}

-- ---- a grid that has all values of its type

module _ {S C V : Type 0} {plain : List C → V} {effect_of : List C → Option Effect} {stands : S → List C → List C → Type 0} (laws : IsLawful plain effect_of stands) (orders : Orders)
    (schema : Schema) (type : CellType) (of : CellChange → List C) (log : List Update) (part : Content → Option V) (wrap : V → Content)
    (part_wrap : (v : V) → part (wrap v) ≡ Some v) (default : (v : V) → is_default (answer_of (wrap v)) ≡ true → v ≡ plain [])
    (value : (x : Cell) → cell_type schema x.property ≡ type → answer schema log (Get x.property x.keys) ≡ answer_of (wrap (plain (of_cell x (changes_in schema type of log log)))))
    (types : List CellType) (typed : (p : ℕ) → type_at types p ≡ cell_type schema p) (cells : List CellValue) (lists : Lists value_order cells (IsHeld schema log)) where
  abbrev full : List (At C)
  full = changes_in schema type of log log

  abbrev live : CellValue → Bool
  live = counts types type part

  due : (it : CellValue) → Contains cells it → counts types type part it ≡ true → Some (plain (of_cell (place_of it) (changes_in schema type of log log))) ≡ part it.value
  due it m l =
      let t = (and_parts (same_type (type_at types it.property) type) (is_some (part it.value)) l).0 in
      let is : cell_type schema it.property ≡ type = sym (typed it.property) ∙ type_same (type_at types it.property) type t in
      let same : answer_of (wrap (plain (of_cell (place_of it) full))) ≡ answer_of it.value = sym (value (place_of it) is) ∙ (lists.only it m).0 in
      let held : wrap (plain (of_cell (place_of it) full)) ≡ it.value = sym (content_back (wrap (plain (of_cell (place_of it) full)))) ∙ ap content_of same ∙ content_back it.value in
      sym (part_wrap (plain (of_cell (place_of it) full))) ∙ ap part held

  -- a cell that isn't placed has its default
  unplaced : (x : Cell) → is_place (counts types type part) cells x ≡ false → plain [] ≡ plain (of_cell x (changes_in schema type of log log))
  unplaced x none = at (out schema type log x) refl
    where
      set : (b : Bool) → is_default (answer_of (wrap (plain (of_cell x full)))) ≡ b → cell_type schema x.property ≡ type → plain [] ≡ plain (of_cell x full)
      set true e is = sym (default (plain (of_cell x full)) e)
      set false e is =
          let it : CellValue = record { property = x.property; keys = x.keys; value = wrap (plain (of_cell x full)) } in
          let m : Contains cells it = lists.every it (value x is, e) in
          let counted : counts types type part it ≡ true =
          (λ i. same_type ((typed x.property ∙ is) i) type && is_some (part_wrap (plain (of_cell x full)) i)) ∙ ap (λ b. b && true) (type_itself type) in
          let found : is_place (counts types type part) cells x ≡ true =
          member_some (λ v. counts types type part v && same_cell (place_of v) x) cells it m (ap (λ b. b && same_cell x x) counted ∙ ap is_eq (tied_itself orders.total x)) in
          absurd (false≢true (sym none ∙ found))

      at : (b : Bool) → out schema type log x ≡ b → plain [] ≡ plain (of_cell x full)
      at true e = ap plain (sym (no_changes orders.parts keys_apart schema type of log x.property x.keys log e))
      at false e = set (is_default (answer_of (wrap (plain (of_cell x full))))) refl (typed_as_told schema type log x e)

  pub filled : (old new : List (Cell × S)) → GridStands plain effect_of stands old [] [] → PutsAll plain effect_of stands part (counts types type part) cells old new
      → GridStands plain effect_of stands new (changes_in schema type of log log) []
  filled old new h puts x = cell_same laws (kept_at new x) (of_cell x (placed live cells full)) [] (of_cell x full) [] (same x) refl (now x)
    where
      empty : GridStands plain effect_of stands old (placed (counts types type part) [] (changes_in schema type of log log)) []
      empty q = cell_same laws (kept_at old q) [] [] (of_cell q (placed live [] full)) [] (ap plain (sym (of_cell-kept orders.apart (is_place live []) q full))) refl (h q)

      now : GridStands plain effect_of stands new (placed (counts types type part) cells (changes_in schema type of log log)) []
      now = puts [] full due empty

      same : (q : Cell) → plain (of_cell q (placed (counts types type part) cells (changes_in schema type of log log))) ≡ plain (of_cell q (changes_in schema type of log log))
      same q = ap plain (of_cell-kept orders.apart (is_place live cells) q full) ∙ by (is_place live cells q) refl
        where
          by : (b : Bool) → is_place (counts types type part) cells q ≡ b → plain (cond b (of_cell q (changes_in schema type of log log)) []) ≡ plain (of_cell q (changes_in schema type of log log))
          by true e = refl
          by false e = unplaced q e

-- ---- the ids

nothing_dead : (id : Id) → is_dead [] id ≡ false
unfolding is_dead
nothing_dead id = refl

pub image_new : (schema : Schema) (log : List Update) (image : ImageLists) → IsImage schema log image → AreNew image.created []
image_new schema log image told = are_new image.created [] told.created.ascends (λ c m. refl)

image_fates : (schema : Schema) (log : List Update) (image : ImageLists) → Fit schema log → IsImage schema log image → SameFates (creates image.created ++ deletes image.dead) log
image_fates schema log image fit told =
    told_fates [] [] log image.created image.dead (λ u m. m) fit.once told.created
    (lists_as image.dead (λ (id : Id). is_dead log id ≡ true) (IsNewlyDead [] log) (λ id d. (d, nothing_dead id)) (λ id d. d.0) told.dead)

pub created_roster : (old new : List (Id × Fate)) (log : List Update) (done done' rest rest' : List Created) (c : Created) → done' ≡ done ++ c ∷ [] → rest ≡ c ∷ rest'
    → ((front : List Update) → RosterStands old front → creation c.id front ≡ None → RosterStands new (front ++ Create c.id c.entity c.keys ∷ []))
    → RosterStands old (log ++ creates done) × AreNew rest (log ++ creates done) → RosterStands new (log ++ creates done') × AreNew rest' (log ++ creates done')
created_roster old new log done done' rest rest' c d r step h =
    let news : AreNew (c ∷ rest') (log ++ creates done) = subst (λ (l : List Created). AreNew l (log ++ creates done)) r h.1 in
    let same : log ++ creates done ++ Create c.id c.entity c.keys ∷ [] ≡ log ++ creates done' =
    append_assoc log (creates done) (Create c.id c.entity c.keys ∷ []) ∙ ap (λ l. log ++ l) (sym (creates-push done c) ∙ ap creates (sym d)) in
    (subst (RosterStands new) same (step (log ++ creates done) h.0 news.0), subst (AreNew rest') same news.1)

pub deleted_roster : (new : List (Id × Fate)) (log : List Update) (ids ids' : List Id) (id : Id) → ids' ≡ ids ++ id ∷ [] → RosterStands new (log ++ deletes ids ++ Delete id ∷ []) → RosterStands new (log ++ deletes ids')
deleted_roster new log ids ids' id e h =
    subst (RosterStands new) (append_assoc log (deletes ids) (Delete id ∷ []) ∙ ap (λ l. log ++ l) (sym (deletes-push ids id) ∙ ap deletes (sym e))) h

-- ---- the state

zero_default : (n : ℤ) → is_default (answers.Int n) ≡ true → n ≡ pos 0
zero_default (pos n) e = let z : n ≡ 0 = grind (arith, nat_tests, e) in ap pos z
zero_default (negsuc n) e = absurd (false≢true e)

number_default : (n : ℤ) → is_default (answers.Int n) ≡ true → n ≡ int_plain []
number_default n e = zero_default n e ∙ sym int_plain-empty

text_default : (t : List ℕ) → is_default (answers.Text t) ≡ true → t ≡ text_plain []
unfolding plain_text
text_default [] e = refl
text_default (b ∷ t) e = absurd (false≢true e)

pub image_stands : (schema : Schema) (s new : Held) (fates : List (Id × Fate)) (log : List Update) (orders : Orders) (image : ImageLists) → Fit schema log → IsImage schema log image → StateStands schema s [] []
    → (AreNew image.created [] → RosterStands fates (creates image.created ++ deletes image.dead))
    → PutsCells image.cells (record { types = s.types; numbers = s.numbers; texts = s.texts; fates = fates; born = s.born; died = s.died }) new → StateStands schema new log []
image_stands schema s new fates log orders image fit told fresh roster puts = record {
  fit = subst (Fit schema) (sym (append-nil log)) fit;
  holds = record {
    types = puts.kept.types ∙ fresh.holds.types;
    numbers = subst (λ (w : List Update). GridStands int_plain int_effect IntStands new.numbers (changes_in schema cell.Int ints w log) []) (sym (append-nil log))
        (filled ints_lawful orders schema cell.Int ints log number_in content.Int (λ v. refl) number_default
        (λ x is. get_is schema log x.property x.keys ∙ value_int orders.parts schema [] log x.property x.keys (int_plain (of_cell x (changes_in schema cell.Int ints log log))) is refl)
        s.types typed image.cells told.cells s.numbers new.numbers fresh.holds.numbers puts.numbers);
    texts = subst (λ (w : List Update). GridStands text_plain text_effect TextStands new.texts (changes_in schema cell.Text texts w log) []) (sym (append-nil log))
        (filled texts_lawful orders schema cell.Text texts log text_in content.Text (λ v. refl) text_default
        (λ x is. get_is schema log x.property x.keys ∙ value_text orders.parts schema [] log x.property x.keys (text_plain (of_cell x (changes_in schema cell.Text texts log log))) is refl)
        s.types typed image.cells told.cells s.texts new.texts fresh.holds.texts puts.texts);
    roster = subst (λ f. RosterStands f (log ++ [])) (sym puts.kept.fates) (subst (RosterStands fates) (sym (append-nil log))
        (roster_same fates (creates image.created ++ deletes image.dead) log (image_fates schema log image fit told) (roster (image_new schema log image told))));
    born = subst (λ (l : List Id). Lists id_order l (λ id. (is_created id [] ≡ true) × (is_dead (log ++ []) id ≡ false))) (sym puts.kept.born)
        (lists_as s.born (λ (id : Id). (is_created id [] ≡ true) × (is_dead [] id ≡ false)) (λ (id : Id). (is_created id [] ≡ true) × (is_dead (log ++ []) id ≡ false))
        (λ id b. absurd (false≢true b.0)) (λ id b. absurd (false≢true b.0)) fresh.holds.born);
    died = subst (λ (l : List Id). Lists id_order l (λ id. (is_dead (log ++ []) id ≡ true) × (is_dead log id ≡ false))) (sym puts.kept.died)
        (lists_as s.died (λ (id : Id). (is_dead [] id ≡ true) × (is_dead [] id ≡ false)) (λ (id : Id). (is_dead (log ++ []) id ≡ true) × (is_dead log id ≡ false))
        (λ id d. absurd (false≢true (sym d.1 ∙ d.0))) (λ id d. absurd (false≢true (sym d.1 ∙ ap (λ l. is_dead l id) (sym (append-nil log)) ∙ d.0))) fresh.holds.died);
  };
}
  where
    typed : (p : ℕ) → type_at s.types p ≡ cell_type schema p
    typed p = type_is schema s.types p fresh.holds.types
