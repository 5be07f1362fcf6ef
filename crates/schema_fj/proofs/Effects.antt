-- What a state tells of its cells: the effects of both grids, in one order.
use Rattle.std.proofs.Common.{◌≡◌, refl, sym, ◌∙◌, ap, subst, ◌+◌, Bool, false, List, [], ◌∷◌, ◌++◌, get_or, inl, inr, arith}
use Rattle.std.specs.Prelude.{◌⊎◌, Contains, Some, pos}
use Rattle.std.specs.List.{IsDistinct}
use Rattle.std.specs.List.Sorted.{IsStrictlySortedBy, IsPermutation, IsSortedBy}
use Rattle.std.specs.Ordering.{is_lt, is_eq, eq_by_cmp, ordering_reverse}
use Rattle.std.specs.Cmp.{IsTotalOrder}
use Rattle.std.specs.declared.cmp.Ordering.{Ordering}
use Rattle.std.specs.declared.cmp.Ordering.TheVariants.{Less, Equal, Greater}
use Rattle.std.proofs.lemmas.Bool.{cases_Bool, false≢true}
use Rattle.std.proofs.lemmas.List.Elements.{All-nil, All-from_recursion, recursion_from_All, All-append, All-weaker, All-contains_itself, Contains-append_left, Contains-append_right, Contains-append_cases}
use Rattle.std.proofs.lemmas.List.Sorted.{Contains-permutation, IsPermutation-sym}
use Rattle.std.proofs.lemmas.Map.Keys.{IsDistinct-from_sorted, IsDistinct-head, IsDistinct-tail, IsDistinct-cons, IsDistinct-IsPermutation, apart_from_distinct, sorted_from_all_adjacent}
use Rattle.cloud_base.specs.Values.{Id}
use Rattle.cloud_base.specs.Order.{id_order}
use Rattle.cloud_base.specs.Shaped.{cell_type}
use Rattle.cloud_base.specs.Sorted.{Lists}
use Rattle.cloud_base.specs.declared.schema.Schema.{Schema}
use Rattle.cloud_base.specs.declared.schema.CellType.{CellType}
use Rattle.cloud_base.specs.declared.schema.CellType.TheVariants as cell
use Rattle.cloud_base.specs.declared.update.Update.{Update}
use Rattle.cloud_base.proofs.SortedLemmas.{here, there}
use Rattle.fj_core.specs.Changes.{ints, texts}
use Rattle.fj_core.specs.IntCells.{int_plain, int_effect, IntStands}
use Rattle.fj_core.specs.IntLaws.{int_effect-empty}
use Rattle.fj_core.specs.TextCells.{text_plain, text_effect, TextStands}
use Rattle.fj_core.specs.TextLaws.{text_effect-empty}
use Rattle.fj_core.specs.declared.effect.Effect.TheVariants.{SetInt}
use Rattle.fj_array.specs.declared.cell.Cell.{Cell}
use Rattle.fj_array.specs.declared.effect.CellEffect.{CellEffect}
use Rattle.fj_array.specs.Cells.{of_cell, same_cell}
use Rattle.fj_array.specs.Effects.{cell_of, effect_order}
use Rattle.fj_entity.specs.declared.created.Created.{Created}
use Rattle.fj_entity.specs.Rosters.{created_order}
use Rattle.change_lists.specs.Effects.{IsDone}
use Rattle.change_lists.specs.Lists.{IsChangeLists, IsEffective}
use Rattle.schema_fj.specs.Held.{Held}
use Rattle.schema_fj.specs.Joined.{IsMerge, JoinsCells, lives}
use Rattle.schema_fj.specs.States.{changes_in}
use Rattle.schema_fj.proofs.CellFacts.{Apart}
use Rattle.schema_fj.proofs.Changes.{ByParts}
use Rattle.schema_fj.proofs.JoinLaws.{joins_then, joins_same}
use Rattle.schema_fj.proofs.JoinOne.{grid_tells, told_grid}
use Rattle.schema_fj.proofs.StateSteps.{keys_apart, lists_as}

-- ---- two lists without an item in common, sorted together

distinct_both : {A : Type 0} (e : A → A → Bool) (xs ys : List A) → IsDistinct e xs → IsDistinct e ys → ((x y : A) → Contains xs x → Contains ys y → e x y ≡ false) → IsDistinct e (xs ++ ys)
distinct_both e [] ys d f apart = f
distinct_both {A = A} e (x ∷ xs) ys d f apart =
    let P : A → Type 0 = λ y. e x y ≡ false in
    IsDistinct-cons e x (xs ++ ys)
    (recursion_from_All P (xs ++ ys) (All-append P xs ys (All-from_recursion P xs (IsDistinct-head e x xs d)) (All-weaker (Contains ys) P (λ y m. apart x y (here x xs) m) ys (All-contains_itself ys))))
    (distinct_both e xs ys (IsDistinct-tail e x xs d) f (λ z y m n. apart z y (there x z xs m) n))

module _ (total : IsTotalOrder effect_order) where
  equal_flips : (a b : Ordering) → a ≡ ordering_reverse b → is_eq a ≡ is_eq b
  equal_flips Less Less e = refl
  equal_flips Less Equal e = cc
  equal_flips Less Greater e = refl
  equal_flips Equal Less e = cc
  equal_flips Equal Equal e = refl
  equal_flips Equal Greater e = cc
  equal_flips Greater Less e = refl
  equal_flips Greater Equal e = cc
  equal_flips Greater Greater e = refl

  flips : (x y : CellEffect) → eq_by_cmp effect_order x y ≡ eq_by_cmp effect_order y x
  flips x y = equal_flips (effect_order x y) (effect_order y x) (total.antisymm x y)

  -- one that isn't above and isn't equal is below
  below : (o p : Ordering) → p ≡ ordering_reverse o → is_lt p ≡ false → is_eq o ≡ false → o ≡ Less
  below Less p e f g = refl
  below Equal p e f g = cc
  below Greater p e f g = absurd (false≢true (sym f ∙ ap is_lt e))

  none : CellEffect
  none = record { property = 0; keys = []; effect = SetInt (pos 0) }

  strictly : (xs ys : List CellEffect) → IsPermutation xs ys → IsDistinct (eq_by_cmp effect_order) xs → IsSortedBy (λ x y. is_lt (effect_order x y)) ys → IsStrictlySortedBy effect_order ys
  strictly xs ys moved distinct sorted = sorted_from_all_adjacent total ys none
      (λ k h. below (effect_order (get_or ys k none) (get_or ys (k + 1) none)) (effect_order (get_or ys (k + 1) none) (get_or ys k none)) (total.antisymm (get_or ys (k + 1) none) (get_or ys k none))
      (sorted k none (omega arith) h)
      (apart_from_distinct (eq_by_cmp effect_order) ys k (k + 1) none (IsDistinct-IsPermutation (eq_by_cmp effect_order) flips xs ys moved distinct) (omega arith) h))

  pub sorted_merge : (first second list : List CellEffect) → IsPermutation (first ++ second) list → IsSortedBy (λ x y. is_lt (effect_order x y)) list → IsMerge first second list
  sorted_merge first second list moved sorted ups downs apart = record {
    ascends = strictly (first ++ second) list moved (distinct_both (eq_by_cmp effect_order) first second (IsDistinct-from_sorted effect_order first ups) (IsDistinct-from_sorted effect_order second downs) apart) sorted;
    only = λ it m. Contains-append_cases first second it (Contains-permutation list (first ++ second) it (IsPermutation-sym (first ++ second) list moved) m);
    every = λ it e. Contains-permutation (first ++ second) list it moved (elim e [ inl m ↦ Contains-append_left first second it m | inr m ↦ Contains-append_right first second it m ]);
  }

-- ---- the effects of both grids are what is done to the cells

types_apart : cell.Int ≡ cell.Text → ⊥
types_apart e = cc

pub told_cells : (parts : ByParts) (apart : Apart) (schema : Schema) (base delta : List Update) (nums words list : List CellEffect)
    → Lists effect_order nums (λ it. int_effect (of_cell (cell_of it) (changes_in schema cell.Int ints (base ++ delta) delta)) ≡ Some it.effect)
    → Lists effect_order words (λ it. text_effect (of_cell (cell_of it) (changes_in schema cell.Text texts (base ++ delta) delta)) ≡ Some it.effect)
    → IsMerge nums words list → Lists effect_order list (IsDone schema base delta)
told_cells parts apart schema base delta nums words list ln lt merge =
    lists_as list (λ it. Contains nums it ⊎ Contains words it) (IsDone schema base delta)
    (λ it e. elim e [ inl m ↦ (number it m).1 | inr m ↦ (word it m).1 ])
    (λ it done. by (cell_type schema it.property) it refl done)
    (merge ln.ascends lt.ascends (λ a b m n. elim (cases_Bool (same_cell (cell_of a) (cell_of b))) [
      | inr f ↦ f
      | inl t ↦
          let same : cell_of a ≡ cell_of b = apart (cell_of a) (cell_of b) t in
          absurd (types_apart (sym (number a m).0 ∙ ap (λ (c : Cell). cell_type schema c.property) same ∙ (word b n).0))
    ]))
  where
    number : (it : CellEffect) → Contains nums it → (cell_type schema it.property ≡ cell.Int) × IsDone schema base delta it
    number it m = grid_tells int_effect ints cell.Int parts keys_apart schema (λ l. refl) base delta it int_effect-empty (ln.only it m)

    word : (it : CellEffect) → Contains words it → (cell_type schema it.property ≡ cell.Text) × IsDone schema base delta it
    word it m = grid_tells text_effect texts cell.Text parts keys_apart schema (λ l. refl) base delta it text_effect-empty (lt.only it m)

    by : (t : CellType) (it : CellEffect) → cell_type schema it.property ≡ t → IsDone schema base delta it → Contains nums it ⊎ Contains words it
    by cell.Int it is done = inl (ln.every it (told_grid int_effect ints cell.Int parts keys_apart schema (λ l. refl) base delta it is done))
    by cell.Text it is done = inr (lt.every it (told_grid text_effect texts cell.Text parts keys_apart schema (λ l. refl) base delta it is done))

-- ---- the lists of no change

pub nothing : {A : Type 0} (R : A → A → Ordering) → IsStrictlySortedBy R []
unfolding IsStrictlySortedBy
nothing R = tt

pub no_lists : (created : List Created) (dead : List Id) (cells : List CellEffect) → created ≡ [] → dead ≡ [] → cells ≡ [] → IsChangeLists (record { created = created; dead = dead; cells = cells })
no_lists created dead cells a b d =
    subst (λ (l : List Created). IsChangeLists (record { created = l; dead = dead; cells = cells })) (sym a)
    (subst (λ (l : List Id). IsChangeLists (record { created = []; dead = l; cells = cells })) (sym b)
    (subst (λ (l : List CellEffect). IsChangeLists (record { created = []; dead = []; cells = l })) (sym d)
    (record { created = nothing created_order; dead = nothing id_order; cells = nothing effect_order; effects = All-nil (λ it. IsEffective it.effect) })))

-- ---- one effect after another

pub cells_then : (items more : List CellEffect) (old mid new : Held) → JoinsCells items old mid → JoinsCells more mid new → JoinsCells (items ++ more) old new
cells_then items more old mid new f g = record {
  kept = record {
    types = g.kept.types ∙ f.kept.types;
    fates = g.kept.fates ∙ f.kept.fates;
    born = g.kept.born ∙ f.kept.born;
    died = g.kept.died ∙ f.kept.died;
  };
  numbers = joins_then int_plain int_effect IntStands (lives old.types old.fates cell.Int) items more old.numbers mid.numbers new.numbers f.numbers
      (joins_same int_plain int_effect IntStands (lives mid.types mid.fates cell.Int) (lives old.types old.fates cell.Int) more mid.numbers new.numbers (same cell.Int) g.numbers);
  texts = joins_then text_plain text_effect TextStands (lives old.types old.fates cell.Text) items more old.texts mid.texts new.texts f.texts
      (joins_same text_plain text_effect TextStands (lives mid.types mid.fates cell.Text) (lives old.types old.fates cell.Text) more mid.texts new.texts (same cell.Text) g.texts);
}
  where
    same : (type : CellType) (it : CellEffect) → Contains more it → lives mid.types mid.fates type it ≡ lives old.types old.fates type it
    same type it m = λ i. lives (f.kept.types i) (f.kept.fates i) type it
