-- A word is sought among those that begin with its first byte.
use Rattle.std.proofs.Common.{arith, ◌≡◌, ℕ, Bool, true, false, List, [], ◌∷◌, length, slice_index, refl, ap, ◌∙◌, None}
use Rattle.std.specs.Prelude.{find, filter, ◌==◌}
use Rattle.std.specs.Str.{bytes_eq}
use Rattle.std.proofs.lemmas.Slice.Eq.{bytes_eq-Decides}
use Rattle.std.proofs.lemmas.Bool.Decides.{nat_tests}
use Rattle.source_tokens.specs.Terminals.{terminal_text, words, words_from, written_so, reserved}
use Rattle.source_tokens.specs.declared.terminal.Terminal.{Terminal}

eq_self : (n : ℕ) → (n == n) ≡ true
eq_self n = grind (arith, nat_tests)

one_by : {X : Type 0} (p q : X → Bool) (x : X) (xs : List X) (a b : Bool) → p x ≡ a → q x ≡ b → (a ≡ true → b ≡ true)
    → find p (filter q xs) ≡ find p xs → find p (filter q (x ∷ xs)) ≡ find p (x ∷ xs)
one_by p q x xs true true e f h rest = simp (e, f)
one_by p q x xs true false e f h rest = absurd (cc (h refl))
one_by p q x xs false true e f h rest = simp (e, f, rest)
one_by p q x xs false false e f h rest = simp (e, f, rest)

-- what passes one test passes the other too, so it is found among those
found_among : {X : Type 0} (p q : X → Bool) → ((x : X) → p x ≡ true → q x ≡ true) → (xs : List X) → find p (filter q xs) ≡ find p xs
found_among p q h [] = refl
found_among p q h (x ∷ xs) = one_by p q x xs (p x) (q x) refl refl (h x) (found_among p q h xs)

begins : (word : List ℕ) (t : Terminal) → bytes_eq (terminal_text t) word ≡ true → (slice_index (terminal_text t) 0 == slice_index word 0) ≡ true
begins word t h =
    let same : terminal_text t ≡ word = (bytes_eq-Decides (terminal_text t) word).0 h in
    ap (λ text. slice_index text 0 == slice_index word 0) same ∙ eq_self (slice_index word 0)

pub found_from : (word : List ℕ) → written_so (words_from (slice_index word 0)) word ≡ reserved word
unfolding reserved words_from
found_from word = found_among (λ t. bytes_eq (terminal_text t) word) (λ t. slice_index (terminal_text t) 0 == slice_index word 0) (begins word) words

pub nothing_written : (word : List ℕ) → length word ≡ 0 → reserved word ≡ None
unfolding reserved words
nothing_written [] h = refl
nothing_written (b ∷ word) h = absurd (omega arith)
