-- Printable bytes, read one by one, are those of a text that is read at once.
use Rattle.std.proofs.Common.{◌≡◌, refl, sym, ◌∙◌, ap, subst, ℕ, zero, suc, ◌+◌, ◌<◌, ◌≤◌, Bool, true, false, cond, List, [], ◌∷◌, length, take, drop, get_or, Result, Ok, Err, arith}
use Rattle.std.specs.Prelude.{All, min, ◌&&◌, nat_le, nat_lt}
use Rattle.std.proofs.lemmas.Bool.Decides.{nat_tests}
use Rattle.std.proofs.lemmas.List.{take-take, take_all, length-take, get_or-take}
use Rattle.cloud_base.specs.Texts.{HasFault}
use Rattle.cloud_base.specs.declared.text.TextFault.TheVariants.{BadByte}
use Rattle.std.proofs.lemmas.List.Elements.{All-nil, All-head, All-tail}
use Rattle.cloud_base.specs.Values.{IsPrintable}
use Rattle.packet_bytes.specs.declared.fault.WireFault.{WireFault}
use Rattle.packet_bytes.specs.declared.fault.WireFault.TheVariants.{Short, NotCanonical}
use Rattle.packet_bytes.specs.Left.{Left, Field, Read, Reader, then_read, ◌>>=◌, give, check, byte_at}
use Rattle.packet_bytes.specs.Reading.{is_printable, printable_at, printables_at}

pub test_of_printable : (b : ℕ) → IsPrintable b → is_printable b ≡ true
test_of_printable b h = grind (arith, nat_tests, h.0, h.1)

pub printable_of_test : (b : ℕ) → is_printable b ≡ true → IsPrintable b
printable_of_test b h = grind (arith, nat_tests, h)

test_fails : (b : Bool) (P : Type 0) → (b ≡ true → P) → ¬ P → b ≡ false
test_fails true P f other = absurd (other (f refl))
test_fails false P f other = refl

pub test_of_other : (b : ℕ) → ¬ IsPrintable b → is_printable b ≡ false
test_of_other b other = test_fails (is_printable b) (IsPrintable b) (printable_of_test b) other

-- one printable byte, and the next ones
next_ones : ℕ → ℕ → Left → Read (List ℕ)
next_ones n b left = then_read left.at (printables_at n left) (λ bytes. give (b ∷ bytes.value))

one_read : (at b : ℕ) (bytes : List ℕ) → is_printable b ≡ true → printable_at (record { at = at; bytes = b ∷ bytes }) ≡ Ok (b, record { at = at + 1; bytes = bytes })
unfolding printable_at byte_at
one_read at b bytes e = ap (λ (t : Bool). then_read (at + 1) (check t (NotCanonical at) (record { at = at + 1; bytes = bytes })) (λ printable. give b)) e

one_bad : (at b : ℕ) (bytes : List ℕ) → is_printable b ≡ false → printable_at (record { at = at; bytes = b ∷ bytes }) ≡ Err (NotCanonical at)
unfolding printable_at byte_at
one_bad at b bytes e = ap (λ (t : Bool). then_read (at + 1) (check t (NotCanonical at) (record { at = at + 1; bytes = bytes })) (λ printable. give b)) e

one_cut : (at : ℕ) → printable_at (record { at = at; bytes = [] }) ≡ Err (Short at)
unfolding printable_at byte_at
one_cut at = refl

one_more : (n at b : ℕ) (bytes : List ℕ) → is_printable b ≡ true → printables_at (suc n) (record { at = at; bytes = b ∷ bytes }) ≡ next_ones n b (record { at = at + 1; bytes = bytes })
unfolding printables_at next_ones
one_more n at b bytes e = ap (λ (r : Read ℕ). then_read at r (λ byte. printables_at n >>= λ bytes. give (byte.value ∷ bytes.value))) (one_read at b bytes e)

none_more : (n : ℕ) (left : Left) (fault : WireFault) → printable_at left ≡ Err fault → printables_at (suc n) left ≡ Err fault
unfolding printables_at
none_more n left fault e = ap (λ (r : Read ℕ). then_read left.at r (λ byte. printables_at n >>= λ bytes. give (byte.value ∷ bytes.value))) e

pub all_read : (n at : ℕ) (bytes : List ℕ) → n ≤ length bytes → All IsPrintable (take n bytes) → printables_at n (record { at = at; bytes = bytes }) ≡ Ok (take n bytes, record { at = at + n; bytes = drop n bytes })
unfolding printables_at next_ones
all_read zero at bytes le a = let e : at ≡ at + 0 = omega arith in ap (λ (k : ℕ). Ok ([], record { at = k; bytes = bytes })) e
all_read (suc n) at [] le a = absurd (omega arith)
all_read (suc n) at (b ∷ bytes) le a =
    let rest = all_read n (at + 1) bytes (omega arith) (All-tail IsPrintable b (take n bytes) a) in
    let e : at + 1 + n ≡ at + suc n = omega arith in
    one_more n at b bytes (test_of_printable b (All-head IsPrintable b (take n bytes) a))
    ∙ ap (λ (r : Read (List ℕ)). then_read (at + 1) r (λ bytes. give (b ∷ bytes.value))) rest
    ∙ ap (λ (k : ℕ). Ok (b ∷ take n bytes, record { at = k; bytes = drop n bytes })) e

pub cut_read : (n at : ℕ) (bytes : List ℕ) → length bytes < n → All IsPrintable bytes → printables_at n (record { at = at; bytes = bytes }) ≡ Err (Short (at + length bytes))
unfolding printables_at next_ones
cut_read zero at bytes lt a = absurd (omega arith)
cut_read (suc n) at [] lt a = let e : at ≡ at + 0 = omega arith in none_more n (record { at = at; bytes = [] }) (Short at) (one_cut at) ∙ ap (λ (k : ℕ). Err (Short k)) e
cut_read (suc n) at (b ∷ bytes) lt a =
    let rest = cut_read n (at + 1) bytes (omega arith) (All-tail IsPrintable b bytes a) in
    let e : at + 1 + length bytes ≡ at + suc (length bytes) = omega arith in
    one_more n at b bytes (test_of_printable b (All-head IsPrintable b bytes a))
    ∙ ap (λ (r : Read (List ℕ)). then_read (at + 1) r (λ bytes. give (b ∷ bytes.value))) rest
    ∙ ap (λ (k : ℕ). Err (Short k)) e

pub bad_read : (n at k : ℕ) (bytes : List ℕ) → k < n → k < length bytes → All IsPrintable (take k bytes) → ¬ IsPrintable (get_or bytes k 0) → printables_at n (record { at = at; bytes = bytes }) ≡ Err (NotCanonical (at + k))
unfolding printables_at next_ones
bad_read zero at k bytes lt short a other = absurd (omega arith)
bad_read (suc n) at k [] lt short a other = absurd (omega arith)
bad_read (suc n) at zero (b ∷ bytes) lt short a other =
    let e : at ≡ at + 0 = omega arith in
    none_more n (record { at = at; bytes = b ∷ bytes }) (NotCanonical at) (one_bad at b bytes (test_of_other b other))
    ∙ ap (λ (k : ℕ). Err (NotCanonical k)) e
bad_read (suc n) at (suc k) (b ∷ bytes) lt short a other =
    let rest = bad_read n (at + 1) k bytes (omega arith) (omega arith) (All-tail IsPrintable b (take k bytes) a) other in
    let e : at + 1 + k ≡ at + suc k = omega arith in
    one_more n at b bytes (test_of_printable b (All-head IsPrintable b (take k bytes) a))
    ∙ ap (λ (r : Read (List ℕ)). then_read (at + 1) r (λ bytes. give (b ∷ bytes.value))) rest
    ∙ ap (λ (k : ℕ). Err (NotCanonical k)) e

-- ---- a text of the bytes that are there, up to a length

pub text_read : (size given at : ℕ) (bytes front back text : List ℕ) → given ≡ min size (length bytes) → front ≡ take given bytes → back ≡ drop given bytes → text ≡ front → All IsPrintable front → size ≤ given → printables_at size (record { at = at; bytes = bytes }) ≡ Ok (text, record { at = at + size; bytes = back })
text_read size given at bytes front back text g f b t a le =
    let same : given ≡ size = omega arith in
    let enough : size ≤ length bytes = omega arith in
    let front_is : front ≡ take size bytes = f ∙ ap (λ (n : ℕ). take n bytes) same in
    let back_is : back ≡ drop size bytes = b ∙ ap (λ (n : ℕ). drop n bytes) same in
    all_read size at bytes enough (subst (All IsPrintable) front_is a)
    ∙ (λ i. Ok (sym (t ∙ front_is) i, record { at = at + size; bytes = sym back_is i }))

pub text_cut : (size given at : ℕ) (bytes front : List ℕ) → given ≡ min size (length bytes) → front ≡ take given bytes → All IsPrintable front → given < size → printables_at size (record { at = at; bytes = bytes }) ≡ Err (Short (at + length bytes))
text_cut size given at bytes front g f a lt =
    let all : length bytes ≤ given = omega arith in
    let less : length bytes < size = omega arith in
    cut_read size at bytes less (subst (All IsPrintable) (f ∙ take_all given bytes all) a)

pub text_bad : (size given at k : ℕ) (bytes front : List ℕ) → given ≡ min size (length bytes) → front ≡ take given bytes → HasFault front (BadByte k) → printables_at size (record { at = at; bytes = bytes }) ≡ Err (NotCanonical (at + k))
text_bad size given at k bytes front g f h =
    let few : length (take given bytes) ≤ given = omega (arith, length-take given bytes) in
    let within : k < length front = h.1 in
    let below : k < given = omega (arith, ap length f) in
    let short : k < length bytes = omega (arith, ap length f, length-take given bytes) in
    let same : take k front ≡ take k bytes = ap (take k) f ∙ take-take k given bytes (omega arith) in
    let this : get_or front k 0 ≡ get_or bytes k 0 = ap (λ (xs : List ℕ). get_or xs k 0) f ∙ get_or-take given bytes k 0 below in
    bad_read size at k bytes (omega arith) short (subst (All IsPrintable) same h.3) (subst (λ (b : ℕ). ¬ IsPrintable b) this h.2)
