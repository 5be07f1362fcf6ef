-- A walk over the entries of a map.
use Rattle.std.proofs.Common.{◌≡◌, Bool, true, false, cond, List, [], ◌∷◌, refl, sym, ◌∙◌, ap, subst, ℕ, zero, suc, ◌<◌, ◌≤◌, ◌+◌, length, drop, get_or, arith, add-one, drop-cons}
use Rattle.std.specs.Cmp.{IsTotalOrder}
use Rattle.std.specs.declared.cmp.Ordering.{Ordering}
use Rattle.std.specs.declared.cmp.Ordering.TheVariants.{Less, Equal, Greater}
use Rattle.std.proofs.Math.ListN.{drop_of_length-le}
use Rattle.shared_map.specs.Shelves.{unflagged, laid_over, to_walk}
use Rattle.shared_map.proofs.EntryLemmas.{Ascends, Below, head_below, tail_ascends, less_less}
use Rattle.shared_map.proofs.LaidLemmas.{laid_first, shelf_first, both_first, shelf_before, below_unflagged}

-- what has a flag is not to walk
skip_flagged : {E : Type 0} (gone : List Bool) (entries : List E) (from to : ℕ) → length gone ≡ length entries → from ≤ to → to ≤ length entries
    → ((k : ℕ) → from ≤ k → k < to → get_or gone k false ≡ true) → unflagged (drop from gone) (drop from entries) ≡ unflagged (drop to gone) (drop to entries)
skip_flagged gone entries zero zero long low high set = refl
skip_flagged gone entries (suc from) zero long low high set = let no : ⊥ = omega (arith, low) in absurd no
skip_flagged gone [] from (suc to) long low high set = let no : ⊥ = omega (arith, high) in absurd no
skip_flagged [] (e ∷ entries) from (suc to) long low high set = let no : ⊥ = omega (arith, long) in absurd no
skip_flagged (flag ∷ gone) (e ∷ entries) zero (suc to) long low high set =
    ap (λ b. cond b (unflagged gone entries) (e ∷ unflagged gone entries)) (set zero (omega arith) (omega arith))
    ∙ skip_flagged gone entries zero to (omega (arith, long)) (omega arith) (omega (arith, high)) (λ k over under. set (suc k) (omega arith) (omega (arith, under)))
skip_flagged (flag ∷ gone) (e ∷ entries) (suc from) (suc to) long low high set =
    skip_flagged gone entries from to (omega (arith, long)) (omega (arith, low)) (omega (arith, high)) (λ k over under. set (suc k) (omega (arith, over)) (omega (arith, under)))

ascends_drop : {K V : Type 0} (cmp : K → K → Ordering) (i : ℕ) (entries : List (K × V)) → Ascends cmp entries → Ascends cmp (drop i entries)
ascends_drop cmp zero entries up = up
ascends_drop cmp (suc i) [] up = up
ascends_drop cmp (suc i) (e ∷ entries) up = ascends_drop cmp i entries (tail_ascends cmp e entries up)

next_in : {E : Type 0} (xs : List E) (i : ℕ) (x : E) → i < length xs → drop i xs ≡ get_or xs i x ∷ drop (i + 1) xs
next_in xs i x low = drop-cons xs i x low ∙ ap (λ n. get_or xs i x ∷ drop n xs) (sym (add-one i))

-- the first that has no flag
next_unflagged : {E : Type 0} (gone : List Bool) (entries : List E) (i : ℕ) (e : E) → length gone ≡ length entries → i < length entries → get_or gone i false ≡ false
    → unflagged (drop i gone) (drop i entries) ≡ get_or entries i e ∷ unflagged (drop (i + 1) gone) (drop (i + 1) entries)
next_unflagged gone entries i e long low unset =
    ap (λ l. unflagged (drop i gone) l) (next_in entries i e low)
    ∙ ap (λ l. unflagged l (get_or entries i e ∷ drop (i + 1) entries)) (next_in gone i false (omega (arith, long)))
    ∙ ap (λ b. cond b (unflagged (drop (i + 1) gone) (drop (i + 1) entries)) (get_or entries i e ∷ unflagged (drop (i + 1) gone) (drop (i + 1) entries))) unset

none_unflagged : {E : Type 0} (gone : List Bool) (entries : List E) (i : ℕ) → length entries ≤ i → unflagged (drop i gone) (drop i entries) ≡ []
none_unflagged gone entries i over = ap (λ l. unflagged (drop i gone) l) (drop_of_length-le entries over)

module _ {K V : Type 0} {cmp : K → K → Ordering} (o : IsTotalOrder cmp) (own shelf : List (K × V)) (gone : List Bool) where
  pub walk_over : (i j : ℕ) → length own ≤ i → length shelf ≤ j → to_walk cmp own shelf gone i j ≡ []
  walk_over i j own_over shelf_over =
      ap (λ l. laid_over cmp l (unflagged (drop j gone) (drop j shelf))) (drop_of_length-le own own_over) ∙ none_unflagged gone shelf j shelf_over

  pub walk_own : (i j : ℕ) (e : K × V) → Ascends cmp own → i < length own → length shelf ≤ j → to_walk cmp own shelf gone i j ≡ get_or own i e ∷ to_walk cmp own shelf gone (i + 1) j
  walk_own i j e up low over =
      let left = unflagged (drop j gone) (drop j shelf) in
      let first = next_in own i e low in
      ap (λ l. laid_over cmp l left) first
      ∙ laid_first o (get_or own i e) (drop (i + 1) own) left (subst (λ (l : List (K × V)). Ascends cmp l) first (ascends_drop cmp i own up))
      (subst (λ (l : List (K × V)). Below cmp (get_or own i e).0 l) (sym (none_unflagged gone shelf j over)) tt)

  pub walk_shelf : (i j : ℕ) (f : K × V) → length gone ≡ length shelf → length own ≤ i → j < length shelf → get_or gone j false ≡ false
      → to_walk cmp own shelf gone i j ≡ get_or shelf j f ∷ to_walk cmp own shelf gone i (j + 1)
  walk_shelf i j f long over low unset =
      let after = unflagged (drop (j + 1) gone) (drop (j + 1) shelf) in
      ap (λ l. laid_over cmp (drop i own) l) (next_unflagged gone shelf j f long low unset)
      ∙ shelf_first o (drop i own) (get_or shelf j f) after (subst (λ (l : List (K × V)). Below cmp (get_or shelf j f).0 l) (sym (drop_of_length-le own over)) tt)

  pub walk_skipped : (i from to : ℕ) → length gone ≡ length shelf → from ≤ to → to ≤ length shelf → ((k : ℕ) → from ≤ k → k < to → get_or gone k false ≡ true)
      → to_walk cmp own shelf gone i from ≡ to_walk cmp own shelf gone i to
  walk_skipped i from to long low high set = ap (λ l. laid_over cmp (drop i own) l) (skip_flagged gone shelf from to long low high set)

  module _ (i j : ℕ) (e f : K × V) (up : Ascends cmp own) (shelf_up : Ascends cmp shelf) (long : length gone ≡ length shelf) (own_low : i < length own) (low : j < length shelf)
      (unset : get_or gone j false ≡ false) where
    both : to_walk cmp own shelf gone i j
        ≡ laid_over cmp (get_or own i e ∷ drop (i + 1) own) (get_or shelf j f ∷ unflagged (drop (j + 1) gone) (drop (j + 1) shelf))
    both =
        ap (λ l. laid_over cmp l (unflagged (drop j gone) (drop j shelf))) (next_in own i e own_low)
        ∙ ap (λ l. laid_over cmp (get_or own i e ∷ drop (i + 1) own) l) (next_unflagged gone shelf j f long low unset)

    own_rises : Ascends cmp (get_or own i e ∷ drop (i + 1) own)
    own_rises = subst (λ (l : List (K × V)). Ascends cmp l) (next_in own i e own_low) (ascends_drop cmp i own up)

    shelf_rises : Ascends cmp (get_or shelf j f ∷ drop (j + 1) shelf)
    shelf_rises = subst (λ (l : List (K × V)). Ascends cmp l) (next_in shelf j f low) (ascends_drop cmp j shelf shelf_up)

    pub walk_less : cmp (get_or own i e).0 (get_or shelf j f).0 ≡ Less → to_walk cmp own shelf gone i j ≡ get_or own i e ∷ to_walk cmp own shelf gone (i + 1) j
    walk_less is =
        both
        ∙ laid_first o (get_or own i e) (drop (i + 1) own) (get_or shelf j f ∷ unflagged (drop (j + 1) gone) (drop (j + 1) shelf)) own_rises (
          is,
          below_unflagged o (get_or own i e).0 (drop (j + 1) gone) (drop (j + 1) shelf)
              (less_less o (get_or own i e).0 (get_or shelf j f).0 (drop (j + 1) shelf) is (head_below cmp (get_or shelf j f) (drop (j + 1) shelf) shelf_rises)),
        )
        ∙ sym (ap (λ l. get_or own i e ∷ laid_over cmp (drop (i + 1) own) l) (next_unflagged gone shelf j f long low unset))

    pub walk_equal : cmp (get_or own i e).0 (get_or shelf j f).0 ≡ Equal → to_walk cmp own shelf gone i j ≡ get_or own i e ∷ to_walk cmp own shelf gone (i + 1) (j + 1)
    walk_equal is =
        both ∙ both_first o (get_or own i e) (drop (i + 1) own) (get_or shelf j f) (unflagged (drop (j + 1) gone) (drop (j + 1) shelf)) is own_rises

    pub walk_greater : cmp (get_or own i e).0 (get_or shelf j f).0 ≡ Greater → to_walk cmp own shelf gone i j ≡ get_or shelf j f ∷ to_walk cmp own shelf gone i (j + 1)
    walk_greater is =
        both ∙ shelf_before o (get_or own i e) (drop (i + 1) own) (get_or shelf j f) (unflagged (drop (j + 1) gone) (drop (j + 1) shelf)) is own_rises
        ∙ sym (ap (λ l. get_or shelf j f ∷ laid_over cmp l (unflagged (drop (j + 1) gone) (drop (j + 1) shelf))) (next_in own i e own_low))
