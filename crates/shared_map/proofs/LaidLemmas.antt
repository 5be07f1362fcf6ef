-- Laws of entries laid over those of a shelf.
use Rattle.std.proofs.Common.{◌≡◌, Bool, true, false, cond, List, [], ◌∷◌, refl, sym, ◌∙◌, ap, ℕ, zero, suc}
use Rattle.std.specs.Prelude.{Option, Some, None}
use lib.ListN.{replicate}
use Rattle.std.specs.Prelude.{Result, OnOk, OnErr}
use Rattle.std.specs.declared.result.Result.TheVariants.{Ok, Err}
use Rattle.std.specs.Option.{option_map, option_or}
use Rattle.std.specs.List.{filter}
use Rattle.std.specs.Ordering.{is_eq}
use Rattle.std.specs.BTreeMap.{is_at}
use Rattle.std.specs.Cmp.{IsTotalOrder, eq_by_cmp_equiv}
use Rattle.std.specs.declared.cmp.Ordering.{Ordering}
use Rattle.std.specs.declared.cmp.Ordering.TheVariants.{Less, Equal, Greater}
use Rattle.shared_map.specs.Entries.{with_entry, value_at}
use Rattle.shared_map.specs.Shelves.{unflagged, laid_over}
use Rattle.shared_map.proofs.EntryLemmas.{found, Ascends, Below, IsFair, is_eq_equal, greater_back, value_is, ascends_cons, head_below, tail_ascends, less_less, equal_less, found_with, ascends_with, with_first, with_equal, with_later, below_with, same_entries, ascends_filter, found_filter}

either_cond : {E : Type 0} (b : Bool) (e : E) (p q r : Option E) → r ≡ option_or p q → cond b (Some e) r ≡ option_or (cond b (Some e) p) q
either_cond true e p q r h = refl
either_cond false e p q r h = h

kept_or : {E : Type 0} (b : Bool) (p q : Option E) → cond b (option_or p q) None ≡ option_or (cond b p None) (cond b q None)
kept_or true p q = refl
kept_or false p q = refl

first_or : {E V : Type 0} (f : E → V) (p q : Option E) → option_map f (option_or p q) ≡ option_or (option_map f p) (option_map f q)
first_or f None q = refl
first_or f (Some x) q = refl

-- where no flag is set, all are left
pub none_flagged : {E : Type 0} (n : ℕ) (entries : List E) → unflagged (replicate n false) entries ≡ entries
none_flagged n [] = refl
none_flagged zero (e ∷ entries) = ap (λ l. e ∷ l) (none_flagged zero entries)
none_flagged (suc n) (e ∷ entries) = ap (λ l. e ∷ l) (none_flagged n entries)

-- either way that a call may end
pub by_result : {T E A B P : Type 0} (r : Result T E) → OnOk r A → OnErr r B → (A → P) → (B → P) → P
by_result (Ok x) a b f h = f a
by_result (Err e) a b f h = h b

pub on_ok : {T E P Q : Type 0} (r : Result T E) → (P → Q) → OnOk r P → OnOk r Q
on_ok (Ok x) f h = f h
on_ok (Err e) f h = h

module _ {K V : Type 0} {cmp : K → K → Ordering} (o : IsTotalOrder cmp) where
  pub found_laid : (own shelf : List (K × V)) (q : K) → found cmp (laid_over cmp own shelf) q ≡ option_or (found cmp own q) (found cmp shelf q)
  found_laid [] shelf q = refl
  found_laid (e ∷ own) shelf q =
      found_with o (laid_over cmp own shelf) e q ∙ either_cond (is_at (cmp q) e.0) e (found cmp own q) (found cmp shelf q) (found cmp (laid_over cmp own shelf) q) (found_laid own shelf q)

  pub value_laid : (own shelf : List (K × V)) (q : K) → value_at cmp (laid_over cmp own shelf) q ≡ option_or (value_at cmp own q) (value_at cmp shelf q)
  value_laid own shelf q =
      value_is cmp (laid_over cmp own shelf) q ∙ ap (option_map (λ (e : K × V). e.1)) (found_laid own shelf q)
      ∙ first_or (λ (e : K × V). e.1) (found cmp own q) (found cmp shelf q)
      ∙ ap (λ p. option_or p (option_map (λ (e : K × V). e.1) (found cmp shelf q))) (sym (value_is cmp own q))
      ∙ ap (λ p. option_or (value_at cmp own q) p) (sym (value_is cmp shelf q))

  pub ascends_laid : (own shelf : List (K × V)) → Ascends cmp shelf → Ascends cmp (laid_over cmp own shelf)
  ascends_laid [] shelf up = up
  ascends_laid (e ∷ own) shelf up = ascends_with o (laid_over cmp own shelf) e (ascends_laid own shelf up)

  pub below_laid : (key : K) (own shelf : List (K × V)) → Below cmp key own → Below cmp key shelf → Below cmp key (laid_over cmp own shelf)
  below_laid key [] shelf low below = below
  below_laid key (e ∷ own) shelf low below = below_with o key (laid_over cmp own shelf) e low.0 (below_laid key own shelf low.1 below)

  -- one more of the map's own is one more of all
  pub with_laid : (own shelf : List (K × V)) (entry : K × V) → Ascends cmp shelf → laid_over cmp (with_entry cmp own entry) shelf ≡ with_entry cmp (laid_over cmp own shelf) entry
  with_laid own shelf entry up =
      same_entries o (laid_over cmp (with_entry cmp own entry) shelf) (with_entry cmp (laid_over cmp own shelf) entry) (ascends_laid (with_entry cmp own entry) shelf up)
      (ascends_with o (laid_over cmp own shelf) entry (ascends_laid own shelf up))
      (λ q.
      found_laid (with_entry cmp own entry) shelf q
      ∙ ap (λ p. option_or p (found cmp shelf q)) (found_with o own entry q)
      ∙ sym (found_with o (laid_over cmp own shelf) entry q
      ∙ either_cond (is_at (cmp q) entry.0) entry (found cmp own q) (found cmp shelf q) (found cmp (laid_over cmp own shelf) q) (found_laid own shelf q)))

  -- what is left out of both is left out of all
  pub filter_laid : (test : K → Bool) → IsFair cmp test → (own shelf : List (K × V)) → Ascends cmp shelf
      → laid_over cmp (filter (λ e. test e.0) own) (filter (λ e. test e.0) shelf) ≡ filter (λ e. test e.0) (laid_over cmp own shelf)
  filter_laid test fair own shelf up =
      let passed : List (K × V) → List (K × V) = λ l. filter (λ e. test e.0) l in
      same_entries o (laid_over cmp (passed own) (passed shelf)) (passed (laid_over cmp own shelf)) (ascends_laid (passed own) (passed shelf) (ascends_filter o test shelf up))
      (ascends_filter o test (laid_over cmp own shelf) (ascends_laid own shelf up))
      (λ q.
      found_laid (passed own) (passed shelf) q
      ∙ ap (λ p. option_or p (found cmp (passed shelf) q)) (found_filter o test fair own q)
      ∙ ap (λ p. option_or (cond (test q) (found cmp own q) None) p) (found_filter o test fair shelf q)
      ∙ sym (found_filter o test fair (laid_over cmp own shelf) q ∙ ap (λ p. cond (test q) p None) (found_laid own shelf q)
      ∙ kept_or (test q) (found cmp own q) (found cmp shelf q)))

  -- ---- the first of all
  pub laid_first : (e : K × V) (own shelf : List (K × V)) → Ascends cmp (e ∷ own) → Below cmp e.0 shelf → laid_over cmp (e ∷ own) shelf ≡ e ∷ laid_over cmp own shelf
  laid_first e own shelf up below = with_first o (laid_over cmp own shelf) e (below_laid e.0 own shelf (head_below cmp e own up) below)

  pub shelf_first : (own : List (K × V)) (f : K × V) (shelf : List (K × V)) → Below cmp f.0 own → laid_over cmp own (f ∷ shelf) ≡ f ∷ laid_over cmp own shelf
  shelf_first [] f shelf below = refl
  shelf_first (e ∷ own) f shelf below =
      ap (λ l. with_entry cmp l e) (shelf_first own f shelf below.1) ∙ with_later o (laid_over cmp own shelf) e f below.0

  pub both_first : (e : K × V) (own : List (K × V)) (f : K × V) (shelf : List (K × V)) → cmp e.0 f.0 ≡ Equal → Ascends cmp (e ∷ own)
      → laid_over cmp (e ∷ own) (f ∷ shelf) ≡ e ∷ laid_over cmp own shelf
  both_first e own f shelf is up =
      ap (λ l. with_entry cmp l e) (shelf_first own f shelf (equal_less o f.0 e.0 own (turned e.0 f.0 is) (head_below cmp e own up))) ∙ with_equal o (laid_over cmp own shelf) e f is
    where
      turned : (a b : K) → cmp a b ≡ Equal → cmp b a ≡ Equal
      turned a b h = is_eq_equal (cmp b a) ((eq_by_cmp_equiv o).symm b a ∙ ap is_eq h)

  pub shelf_before : (e : K × V) (own : List (K × V)) (f : K × V) (shelf : List (K × V)) → cmp e.0 f.0 ≡ Greater → Ascends cmp (e ∷ own)
      → laid_over cmp (e ∷ own) (f ∷ shelf) ≡ f ∷ laid_over cmp (e ∷ own) shelf
  shelf_before e own f shelf is up =
      let less = greater_back o e.0 f.0 is in
      shelf_first (e ∷ own) f shelf (less, less_less o f.0 e.0 own less (head_below cmp e own up))

  -- ---- flags
  below_kept : (flag : Bool) (key : K) (e : K × V) (more : List (K × V)) → cmp key e.0 ≡ Less → Below cmp key more → Below cmp key (cond flag more (e ∷ more))
  below_kept true key e more h below = below
  below_kept false key e more h below = (h, below)

  pub below_unflagged : (key : K) (gone : List Bool) (entries : List (K × V)) → Below cmp key entries → Below cmp key (unflagged gone entries)
  below_unflagged key gone [] below = tt
  below_unflagged key [] (e ∷ entries) below = (below.0, below_unflagged key [] entries below.1)
  below_unflagged key (flag ∷ gone) (e ∷ entries) below = below_kept flag key e (unflagged gone entries) below.0 (below_unflagged key gone entries below.1)

  ascends_kept : (flag : Bool) (e : K × V) (more : List (K × V)) → Below cmp e.0 more → Ascends cmp more → Ascends cmp (cond flag more (e ∷ more))
  ascends_kept true e more below up = up
  ascends_kept false e more below up = ascends_cons cmp e more below up

  pub ascends_unflagged : (gone : List Bool) (entries : List (K × V)) → Ascends cmp entries → Ascends cmp (unflagged gone entries)
  ascends_unflagged gone [] up = up
  ascends_unflagged [] (e ∷ entries) up =
      ascends_cons cmp e (unflagged [] entries) (below_unflagged e.0 [] entries (head_below cmp e entries up)) (ascends_unflagged [] entries (tail_ascends cmp e entries up))
  ascends_unflagged (flag ∷ gone) (e ∷ entries) up =
      ascends_kept flag e (unflagged gone entries) (below_unflagged e.0 gone entries (head_below cmp e entries up)) (ascends_unflagged gone entries (tail_ascends cmp e entries up))
