-- Laws of flags in words.
use Rattle.std.proofs.Common.{◌≡◌, ◌≢◌, Bool, true, false, List, zero, suc, refl, sym, ◌∙◌, ap, subst, ℕ, ◌<◌, ◌/◌, ◌%◌, ◌==◌, length, get_or, arith, IsTrue, ◌↔◌}
use lib.ListN.{replicate, set}
use Rattle.std.specs.Int.{bit_at}
use Rattle.std.proofs.lemmas.Bool.Decides.{nat_tests}
use Rattle.std.proofs.lemmas.List.{get_or-replicate, length-replicate, same_lists, get_or-set_same, get_or-set_other, length-set, get_or_default}
use Rattle.std.proofs.lemmas.List.FromFn.{length-map-range_with_len, get_or-map-range_with_len}
use Rattle.std.proofs.lemmas.Nat.Bits.{bit_at-zero}
use Rattle.shared_map.specs.Flags.{flag_at, flags_in}
use Rattle.shared_map.proofs.EntryLemmas.{by_cases}

pub length_flags : (words : List ℕ) (count : ℕ) → length (flags_in words count) ≡ count
length_flags words count = length-map-range_with_len (flag_at words) 0 count

pub get_flag : (words : List ℕ) (count at : ℕ) (d : Bool) → at < count → get_or (flags_in words count) at d ≡ flag_at words at
get_flag words count at d within = get_or-map-range_with_len (flag_at words) 0 count at at d within (omega arith)

is_one : (n : ℕ) → n ≡ 1 → (n == 1) ≡ true
is_one n e = subst (λ m. (m == 1) ≡ true) (sym e) refl

pub none_set : (words : List ℕ) (count : ℕ) → ((k : ℕ) → get_or words k 0 ≡ 0) → flags_in words count ≡ replicate count false
none_set words count zeros =
    same_lists (flags_in words count) (replicate count false) (length_flags words count ∙ sym (length-replicate count false)) (λ k d within.
    let inside : k < count = subst (λ n. k < n) (length_flags words count) within in
    get_flag words count k d inside
    ∙ ap (λ word. bit_at word (k % 64) == 1) (zeros (k / 64))
    ∙ ap (λ bit. bit == 1) (bit_at-zero (k % 64))
    ∙ sym (get_or-replicate count k false d inside))

-- a flag other than the one that is set
other_flag : (words : List ℕ) (at w k : ℕ) → k ≢ at → at / 64 < length words
    → ((i : ℕ) → i ≢ at % 64 → bit_at w i ≡ bit_at (get_or words (at / 64) 0) i)
    → flag_at (set words (at / 64) w) k ≡ flag_at words k
other_flag words at w k apart within others =
    by_cases (k / 64 == at / 64)
    (λ yes.
    let here : k / 64 ≡ at / 64 = grind (arith, nat_tests) in
    let bits_apart : k % 64 ≢ at % 64 = λ same. apart (omega arith) in
    let new_word : get_or (set words (at / 64) w) (k / 64) 0 ≡ w = subst (λ i. get_or (set words (at / 64) w) i 0 ≡ w) (sym here) (get_or-set_same words (at / 64) w 0 within) in
    ap (λ word. bit_at word (k % 64) == 1) new_word
    ∙ ap (λ bit. bit == 1) (others (k % 64) bits_apart)
    ∙ ap (λ i. bit_at (get_or words i 0) (k % 64) == 1) (sym here))
    (λ no.
    let elsewhere : k / 64 ≢ at / 64 = grind (arith, nat_tests) in
    ap (λ word. bit_at word (k % 64) == 1) (get_or-set_other words (at / 64) (k / 64) w 0 elsewhere))

pub set_flag : (words : List ℕ) (count at w : ℕ) → at < count → at / 64 < length words → bit_at w (at % 64) ≡ 1
    → ((i : ℕ) → i ≢ at % 64 → bit_at w i ≡ bit_at (get_or words (at / 64) 0) i)
    → flags_in (set words (at / 64) w) count ≡ set (flags_in words count) at true
set_flag words count at w inside within one others =
    let now : List Bool = flags_in (set words (at / 64) w) count in
    let old : List Bool = flags_in words count in
    same_lists now (set old at true) (length_flags (set words (at / 64) w) count ∙ sym (length-set old at true ∙ length_flags words count)) (λ k d below.
    let k_inside : k < count = subst (λ n. k < n) (length_flags (set words (at / 64) w) count) below in
    let at_inside : at < length old = subst (λ n. at < n) (sym (length_flags words count)) inside in
    get_flag (set words (at / 64) w) count k d k_inside
    ∙ by_cases (k == at)
    (λ yes.
    let here : k ≡ at = grind (arith, nat_tests) in
    subst (λ i. flag_at (set words (at / 64) w) i ≡ get_or (set old at true) i d) (sym here)
    (is_one _ (ap (λ word. bit_at word (at % 64)) (get_or-set_same words (at / 64) w 0 within) ∙ one)
    ∙ sym (get_or-set_same old at true d at_inside)))
    (λ no.
    let elsewhere : k ≢ at = grind (arith, nat_tests) in
    other_flag words at w k elsewhere within others
    ∙ sym (get_flag words count k d k_inside)
    ∙ sym (get_or-set_other old at k true d elsewhere)))

pub test_is : (r : Bool) (n : ℕ) → (IsTrue r ↔ (n ≡ 1)) → r ≡ (n == 1)
test_is r n h = grind (arith, nat_tests)

pub zeros_at : (n k : ℕ) → get_or {A = ℕ} (replicate n 0) k 0 ≡ 0
zeros_at zero k = refl
zeros_at (suc n) zero = refl
zeros_at (suc n) (suc k) = zeros_at n k

pub word_is : (words : List ℕ) (k w : ℕ) → w ≡ get_or words k w → k < length words → w ≡ get_or words k 0
word_is words k w e within = e ∙ get_or_default words k w 0 within

pub flag_within : (words : List ℕ) (count at : ℕ) (l : List Bool) → flags_in words count ≡ l → at < length l → at < count
flag_within words count at l e h = subst (λ n. at < n) (length_flags words count) (subst (λ (m : List Bool). at < length m) (sym e) h)
