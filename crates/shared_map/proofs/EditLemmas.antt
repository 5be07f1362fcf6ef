-- What an edit at a key's place makes of the entries.
use Rattle.std.proofs.Common.{◌≡◌, Bool, true, false, cond, List, [], ◌∷◌, refl, sym, ◌∙◌, ap, ℕ, zero, suc, ◌<◌, length, drop, get_or, arith, slice_set}
use Rattle.std.specs.Prelude.{Option, Some, None, not}
use Rattle.std.specs.Option.{option_map}
use Rattle.std.specs.List.{AllByRecursion, insert, remove}
use Rattle.std.specs.Ordering.{is_eq, is_lt}
use Rattle.std.specs.Map.{keys_of}
use Rattle.std.specs.BTreeMap.{is_at}
use Rattle.std.specs.Cmp.{IsTotalOrder, eq_by_cmp_equiv}
use Rattle.std.specs.declared.cmp.Ordering.{Ordering}
use Rattle.std.specs.declared.cmp.Ordering.TheVariants.{Less}
use Rattle.shared_map.specs.Entries.{with_entry, value_at, without_key, entries_from, Updates}
use Rattle.shared_map.specs.Places.{IsPlaceOf, IsGapFor, IsStartOf}
use Rattle.shared_map.specs.Shelves.{unflagged}
use Rattle.shared_map.proofs.EntryLemmas.{Below, IsFair, greater_back, same_at, with_first, with_equal, with_later, is_self, found, found_with, found_filter, value_is}

first_or_none : {V : Type 0} (flag b : Bool) (v : V) (p : Option V) → b ≡ true → p ≡ None → cond flag p (cond b (Some v) p) ≡ cond flag None (Some v)
first_or_none true b v p h none = none
first_or_none false true v p h none = refl
first_or_none false false v p h none = let no : false ≡ true = h in cc

skip_or : {V : Type 0} (flag b : Bool) (v : V) (p : Option V) → b ≡ false → cond flag p (cond b (Some v) p) ≡ p
skip_or true b v p h = refl
skip_or false true v p h = let no : true ≡ false = h in cc
skip_or false false v p h = refl

module _ {K V : Type 0} (cmp : K → K → Ordering) where
  -- ---- one entry less to look at
  next_place : (e : K × V) (entries : List (K × V)) (key : K) (i : ℕ) → IsPlaceOf cmp (e ∷ entries) key (suc i) → IsPlaceOf cmp entries key i
  next_place e entries key i at = record {
    within = omega (arith, at.within);
    here = at.here;
    before = λ k d under. at.before (suc k) d (omega (arith, under));
    after = λ k d over low. at.after (suc k) d (omega (arith, over)) (omega (arith, low));
  }

  next_gap : (e : K × V) (entries : List (K × V)) (key : K) (i : ℕ) → IsGapFor cmp (e ∷ entries) key (suc i) → IsGapFor cmp entries key i
  next_gap e entries key i at = record {
    within = omega (arith, at.within);
    before = λ k d under. at.before (suc k) d (omega (arith, under));
    after = λ k d over low. at.after (suc k) d (omega (arith, over)) (omega (arith, low));
  }

  next_start : (e : K × V) (entries : List (K × V)) (key : K) (i : ℕ) → IsStartOf cmp (e ∷ entries) key (suc i) → IsStartOf cmp entries key i
  next_start e entries key i at = record {
    within = omega (arith, at.within);
    before = λ k d under. at.before (suc k) d (omega (arith, under));
    after = λ k d over low. at.after (suc k) d (omega (arith, over)) (omega (arith, low));
  }

  all_below : (key : K) (entries : List (K × V)) → ((k : ℕ) (d : K × V) → k < length entries → cmp key (get_or entries k d).0 ≡ Less) → Below cmp key entries
  all_below key [] h = tt
  all_below key (e ∷ entries) h = (h zero e (omega arith), all_below key entries (λ k d low. h (suc k) d (omega (arith, low))))

  below_place : (e : K × V) (entries : List (K × V)) (key : K) → IsPlaceOf cmp (e ∷ entries) key zero → Below cmp key entries
  below_place e entries key at = all_below key entries (λ k d low. at.after (suc k) d (omega arith) (omega (arith, low)))

  below_gap : (entries : List (K × V)) (key : K) → IsGapFor cmp entries key zero → Below cmp key entries
  below_gap entries key at = all_below key entries (λ k d low. at.after k d (omega arith) low)

  -- ---- a key that no entry has
  abbrev pub Misses : K → List (K × V) → Type 0
  Misses key entries = AllByRecursion (λ k. is_at (cmp key) k ≡ false) (keys_of entries)

  misses_below : (key : K) (entries : List (K × V)) → Below cmp key entries → Misses key entries
  misses_below key [] below = tt
  misses_below key (e ∷ entries) below = (ap is_eq below.0, misses_below key entries below.1)

  pub misses_gap : (entries : List (K × V)) (key : K) (i : ℕ) → IsGapFor cmp entries key i → Misses key entries
  misses_gap [] key i at = tt
  misses_gap (e ∷ entries) key zero at = misses_below key (e ∷ entries) (below_gap (e ∷ entries) key at)
  misses_gap (e ∷ entries) key (suc i) at = (ap is_eq (at.before zero e (omega arith)), misses_gap entries key i (next_gap e entries key i at))

  misses_kept : (flag : Bool) (key : K) (e : K × V) (more : List (K × V)) → is_at (cmp key) e.0 ≡ false → Misses key more → Misses key (cond flag more (e ∷ more))
  misses_kept true key e more h rest = rest
  misses_kept false key e more h rest = (h, rest)

  pub misses_unflagged : (key : K) (gone : List Bool) (entries : List (K × V)) → Misses key entries → Misses key (unflagged gone entries)
  misses_unflagged key gone [] h = tt
  misses_unflagged key [] (e ∷ entries) h = (h.0, misses_unflagged key [] entries h.1)
  misses_unflagged key (flag ∷ gone) (e ∷ entries) h = misses_kept flag key e (unflagged gone entries) h.0 (misses_unflagged key gone entries h.1)

  pub value_missed : (entries : List (K × V)) (key : K) → Misses key entries → value_at cmp entries key ≡ None
  value_missed [] key h = refl
  value_missed (e ∷ entries) key h = ap (λ b. cond b (Some e.1) (value_at cmp entries key)) h.0 ∙ value_missed entries key h.1

  pub without_missed : (entries : List (K × V)) (key : K) → Misses key entries → without_key cmp entries key ≡ entries
  without_missed [] key h = refl
  without_missed (e ∷ entries) key h =
      ap (λ b. cond (not b) (e ∷ without_key cmp entries key) (without_key cmp entries key)) h.0 ∙ ap (λ (l : List (K × V)). e ∷ l) (without_missed entries key h.1)

  without_next : (e : K × V) (entries : List (K × V)) (key : K) → is_at (cmp key) e.0 ≡ false → without_key cmp (e ∷ entries) key ≡ e ∷ without_key cmp entries key
  without_next e entries key h = ap (λ b. cond (not b) (e ∷ without_key cmp entries key) (without_key cmp entries key)) h

  without_first : (e : K × V) (entries : List (K × V)) (key : K) → is_at (cmp key) e.0 ≡ true → Misses key entries → without_key cmp (e ∷ entries) key ≡ entries
  without_first e entries key h rest =
      ap (λ b. cond (not b) (e ∷ without_key cmp entries key) (without_key cmp entries key)) h ∙ without_missed entries key rest

  -- ---- a key that is among them
  pub value_placed : (entries : List (K × V)) (key : K) (i : ℕ) (d : K × V) → IsPlaceOf cmp entries key i → value_at cmp entries key ≡ Some (get_or entries i d).1
  value_placed [] key i d at = let no : ⊥ = omega (arith, at.within) in absurd no
  value_placed (e ∷ entries) key zero d at = ap (λ r. cond (is_eq r) (Some e.1) (value_at cmp entries key)) (at.here d)
  value_placed (e ∷ entries) key (suc i) d at =
      ap (λ r. cond (is_eq r) (Some e.1) (value_at cmp entries key)) (at.before zero d (omega arith)) ∙ value_placed entries key i d (next_place e entries key i at)

  value_cond : (flag : Bool) (e : K × V) (more : List (K × V)) (key : K) → value_at cmp (cond flag more (e ∷ more)) key ≡ cond flag (value_at cmp more key) (cond (is_at (cmp key) e.0) (Some e.1) (value_at cmp more key))
  value_cond true e more key = refl
  value_cond false e more key = refl

  pub value_unflagged : (gone : List Bool) (entries : List (K × V)) (key : K) (i : ℕ) (d : K × V) (f : Bool) → length gone ≡ length entries → IsPlaceOf cmp entries key i
      → value_at cmp (unflagged gone entries) key ≡ cond (get_or gone i f) None (Some (get_or entries i d).1)
  value_unflagged gone [] key i d f long at = let no : ⊥ = omega (arith, at.within) in absurd no
  value_unflagged [] (e ∷ entries) key i d f long at = let no : ⊥ = omega (arith, long) in absurd no
  value_unflagged (flag ∷ gone) (e ∷ entries) key zero d f long at =
      value_cond flag e (unflagged gone entries) key
      ∙ first_or_none flag (is_at (cmp key) e.0) e.1 (value_at cmp (unflagged gone entries) key) (ap is_eq (at.here d))
      (value_missed (unflagged gone entries) key (misses_unflagged key gone entries (misses_below key entries (below_place e entries key at))))
  value_unflagged (flag ∷ gone) (e ∷ entries) key (suc i) d f long at =
      value_cond flag e (unflagged gone entries) key
      ∙ skip_or flag (is_at (cmp key) e.0) e.1 (value_at cmp (unflagged gone entries) key) (ap is_eq (at.before zero d (omega arith)))
      ∙ value_unflagged gone entries key i d f (omega (arith, long)) (next_place e entries key i at)

  pub value_gone : (gone : List Bool) (entries : List (K × V)) (key : K) (i : ℕ) → length gone ≡ length entries → IsPlaceOf cmp entries key i
      → get_or gone i false ≡ true → value_at cmp (unflagged gone entries) key ≡ None
  value_gone gone [] key i long at flag = refl
  value_gone gone (e ∷ entries) key i long at flag =
      value_unflagged gone (e ∷ entries) key i e false long at ∙ ap (λ b. cond b None (Some (get_or (e ∷ entries) i e).1)) flag

  -- ---- edits
  pub remove_placed : (entries : List (K × V)) (key : K) (i : ℕ) → IsPlaceOf cmp entries key i → remove entries i ≡ without_key cmp entries key
  remove_placed [] key i at = let no : ⊥ = omega (arith, at.within) in absurd no
  remove_placed (e ∷ entries) key zero at = sym (without_first e entries key (ap is_eq (at.here e)) (misses_below key entries (below_place e entries key at)))
  remove_placed (e ∷ entries) key (suc i) at =
      ap (λ (l : List (K × V)). e ∷ l) (remove_placed entries key i (next_place e entries key i at)) ∙ sym (without_next e entries key (ap is_eq (at.before zero e (omega arith))))

  flagged_first : (flag : Bool) (e : K × V) (more : List (K × V)) (key : K) → is_at (cmp key) e.0 ≡ true → Misses key more → more ≡ without_key cmp (cond flag more (e ∷ more)) key
  flagged_first true e more key h rest = sym (without_missed more key rest)
  flagged_first false e more key h rest = sym (without_first e more key h rest)

  flagged_next : (flag : Bool) (e : K × V) (more more' : List (K × V)) (key : K) → is_at (cmp key) e.0 ≡ false → more' ≡ without_key cmp more key
      → cond flag more' (e ∷ more') ≡ without_key cmp (cond flag more (e ∷ more)) key
  flagged_next true e more more' key h is = is
  flagged_next false e more more' key h is = ap (λ (l : List (K × V)). e ∷ l) is ∙ sym (without_next e more key h)

  pub flag_placed : (gone : List Bool) (entries : List (K × V)) (key : K) (i : ℕ) → length gone ≡ length entries → IsPlaceOf cmp entries key i
      → unflagged (slice_set gone i true) entries ≡ without_key cmp (unflagged gone entries) key
  flag_placed gone [] key i long at = let no : ⊥ = omega (arith, at.within) in absurd no
  flag_placed [] (e ∷ entries) key i long at = let no : ⊥ = omega (arith, long) in absurd no
  flag_placed (flag ∷ gone) (e ∷ entries) key zero long at =
      flagged_first flag e (unflagged gone entries) key (ap is_eq (at.here e)) (misses_unflagged key gone entries (misses_below key entries (below_place e entries key at)))
  flag_placed (flag ∷ gone) (e ∷ entries) key (suc i) long at =
      flagged_next flag e (unflagged gone entries) (unflagged (slice_set gone i true) entries) key (ap is_eq (at.before zero e (omega arith)))
      (flag_placed gone entries key i (omega (arith, long)) (next_place e entries key i at))

  pub flag_missed : (gone : List Bool) (entries : List (K × V)) (key : K) → Misses key entries → unflagged gone entries ≡ without_key cmp (unflagged gone entries) key
  flag_missed gone entries key h = sym (without_missed (unflagged gone entries) key (misses_unflagged key gone entries h))

  -- ---- what is left from a key on
  from_cond : (flag : Bool) (e : K × V) (more : List (K × V)) (key : K) → is_lt (cmp e.0 key) ≡ true → entries_from cmp (cond flag more (e ∷ more)) key ≡ entries_from cmp more key
  from_cond true e more key h = refl
  from_cond false e more key h = ap (λ b. cond (not b) (e ∷ entries_from cmp more key) (entries_from cmp more key)) h

  kept_cond : (flag : Bool) (e : K × V) (more : List (K × V)) (key : K) → is_lt (cmp e.0 key) ≡ false → entries_from cmp more key ≡ more
      → entries_from cmp (cond flag more (e ∷ more)) key ≡ cond flag more (e ∷ more)
  kept_cond true e more key h rest = rest
  kept_cond false e more key h rest =
      ap (λ b. cond (not b) (e ∷ entries_from cmp more key) (entries_from cmp more key)) h ∙ ap (λ (l : List (K × V)). e ∷ l) rest

  pub from_start : (entries : List (K × V)) (key : K) (i : ℕ) → IsStartOf cmp entries key i → drop i entries ≡ entries_from cmp entries key
  from_start [] key zero at = refl
  from_start [] key (suc i) at = refl
  from_start (e ∷ entries) key zero at =
      sym (kept_cond false e entries key (at.after zero e (omega arith) (omega arith)) (sym (from_start entries key zero (record {
        within = omega arith;
        before = λ k d under. absurd (omega (arith, under));
        after = λ k d over low. at.after (suc k) d (omega arith) (omega (arith, low));
      }))))
  from_start (e ∷ entries) key (suc i) at =
      from_start entries key i (next_start e entries key i at) ∙ sym (from_cond false e entries key (at.before zero e (omega arith)))

  pub from_unflagged : (gone : List Bool) (entries : List (K × V)) (key : K) (i : ℕ) → length gone ≡ length entries → IsStartOf cmp entries key i
      → unflagged (drop i gone) (drop i entries) ≡ entries_from cmp (unflagged gone entries) key
  from_unflagged gone [] key zero long at = refl
  from_unflagged [] [] key (suc i) long at = refl
  from_unflagged (flag ∷ gone) [] key (suc i) long at = let no : ⊥ = omega (arith, long) in absurd no
  from_unflagged [] (e ∷ entries) key i long at = let no : ⊥ = omega (arith, long) in absurd no
  from_unflagged (flag ∷ gone) (e ∷ entries) key zero long at =
      sym (kept_cond flag e (unflagged gone entries) key (at.after zero e (omega arith) (omega arith)) (sym (from_unflagged gone entries key zero (omega (arith, long)) (record {
        within = omega arith;
        before = λ k d under. absurd (omega (arith, under));
        after = λ k d over low. at.after (suc k) d (omega arith) (omega (arith, low));
      }))))
  from_unflagged (flag ∷ gone) (e ∷ entries) key (suc i) long at =
      from_unflagged gone entries key i (omega (arith, long)) (next_start e entries key i at)
      ∙ sym (from_cond flag e (unflagged gone entries) key (at.before zero e (omega arith)))

-- ---- the tests are fair
pub without_fair : {K : Type 0} {cmp : K → K → Ordering} → IsTotalOrder cmp → (key : K) → IsFair cmp (λ k. not (is_at (cmp key) k))
without_fair o key a b h = ap not (same_at o a b key h)

pub from_fair : {K : Type 0} {cmp : K → K → Ordering} → IsTotalOrder cmp → (key : K) → IsFair cmp (λ k. not (is_lt (cmp k key)))
from_fair o key a b h = ap (λ r. not (is_lt r)) (o.congr a b key h)

module _ {K V : Type 0} {cmp : K → K → Ordering} (o : IsTotalOrder cmp) where
  pub set_placed : (entries : List (K × V)) (entry : K × V) (i : ℕ) → IsPlaceOf cmp entries entry.0 i → slice_set entries i entry ≡ with_entry cmp entries entry
  set_placed [] entry i at = let no : ⊥ = omega (arith, at.within) in absurd no
  set_placed (e ∷ entries) entry zero at = sym (with_equal o entries entry e (at.here e))
  set_placed (e ∷ entries) entry (suc i) at =
      ap (λ (l : List (K × V)). e ∷ l) (set_placed entries entry i (next_place cmp e entries entry.0 i at))
      ∙ sym (with_later o entries entry e (greater_back o entry.0 e.0 (at.before zero e (omega arith))))

  pub insert_gap : (entries : List (K × V)) (entry : K × V) (i : ℕ) → IsGapFor cmp entries entry.0 i → insert entries i entry ≡ with_entry cmp entries entry
  insert_gap entries entry zero at = sym (with_first o entries entry (below_gap cmp entries entry.0 at))
  insert_gap [] entry (suc i) at = let no : ⊥ = omega (arith, at.within) in absurd no
  insert_gap (e ∷ entries) entry (suc i) at =
      ap (λ (l : List (K × V)). e ∷ l) (insert_gap entries entry i (next_gap cmp e entries entry.0 i at))
      ∙ sym (with_later o entries entry e (greater_back o entry.0 e.0 (at.before zero e (omega arith))))

  -- ---- what a look-up finds after an edit
  pub updates_with : (entries : List (K × V)) (key : K) (value : V) → Updates cmp entries (with_entry cmp entries (key, value)) key (Some value)
  updates_with entries key value = record {
    here = value_is cmp (with_entry cmp entries (key, value)) key
        ∙ ap (option_map (λ (e : K × V). e.1)) (found_with o entries (key, value) key ∙ ap (λ b. cond b (Some (key, value)) (found cmp entries key)) (is_self o key));
    elsewhere = λ q other. value_is cmp (with_entry cmp entries (key, value)) q
        ∙ ap (option_map (λ (e : K × V). e.1)) (found_with o entries (key, value) q ∙ ap (λ b. cond b (Some (key, value)) (found cmp entries q)) (turned_at q other))
        ∙ sym (value_is cmp entries q);
  }
    where
      turned_at : (q : K) → is_at (cmp key) q ≡ false → is_at (cmp q) key ≡ false
      turned_at q h = (eq_by_cmp_equiv o).symm q key ∙ h

  pub updates_without : (entries : List (K × V)) (key : K) → Updates cmp entries (without_key cmp entries key) key None
  updates_without entries key = record {
    here = value_is cmp (without_key cmp entries key) key
        ∙ ap (option_map (λ (e : K × V). e.1)) (found_filter o (λ k. not (is_at (cmp key) k)) (without_fair o key) entries key
        ∙ ap (λ b. cond (not b) (found cmp entries key) None) (is_self o key));
    elsewhere = λ q other. value_is cmp (without_key cmp entries key) q
        ∙ ap (option_map (λ (e : K × V). e.1)) (found_filter o (λ k. not (is_at (cmp key) k)) (without_fair o key) entries q
        ∙ ap (λ b. cond (not b) (found cmp entries q) None) other)
        ∙ sym (value_is cmp entries q);
  }
