-- The texts of values tell the values, and where they end.
use Rattle.std.proofs.Common.{◌≡◌, ◌≢◌, nat_eq, get_or, eq-eqb, codes, ℕ, ◌<◌, ◌^◌, suc, Bool, true, false, ◌||◌, cond, List, [], ◌∷◌, ◌++◌, length, drop, ℤ, pos, negsuc, FitsSigned, refl, ap, sym, subst, ◌∙◌, arith, append_assoc}
use Rattle.std.specs.Prelude.{⊤, IsTrue, All, decimal, nat_le, ◌==◌}
use Rattle.std.specs.Fmt.{signed_decimal}
use Rattle.std.specs.Int.{w64}
use Rattle.std.specs.List.{join_by, flat_map}
use Rattle.std.specs.Str.Parse.{AllDigits}
use Rattle.std.proofs.lemmas.Bool.{and_parts, and_from, or_right, false≢true, le-leb}
use Rattle.std.proofs.lemmas.Fmt.{decimal_is_IsNumeral, decimal_injective}
use Rattle.std.proofs.lemmas.List.Elements.{All-head, All-tail}
use Rattle.std.proofs.lemmas.Str.Parse.{digit_from_value}
use Rattle.cloud_base.specs.Values.{Id, is_letter, is_digit, is_name_byte, all_name_bytes}
use Rattle.cloud_base.specs.Shaped.{IsId}
use Rattle.cloud_base.specs.declared.key.Key.{Key}
use Rattle.cloud_base.specs.declared.key.Key.TheVariants as key
use Rattle.step_text.specs.Values.{escaped, quoted, id_text, key_text, keys_text, tuple_text}

-- neither a letter nor a digit comes next
abbrev pub Stops : List ℕ → Type 0
Stops [] = ⊤
Stops (b ∷ bytes) = is_name_byte b ≡ false

-- a key whose number fits, as its type has it
abbrev pub IsWritten : Key → Type 0
IsWritten (key.Int number) = FitsSigned w64 number
IsWritten (key.Text text) = ⊤
IsWritten (key.Ref id) = IsId id

-- two lists with different bytes at a place
pub differ : (n : ℕ) (k l : List ℕ) → k ≡ l → nat_eq (get_or k n 0) (get_or l n 0) ≡ false → ⊥
differ n k l h apart = false≢true (sym apart ∙ eq-eqb (get_or k n 0) (get_or l n 0) (ap (λ (m : List ℕ). get_or m n 0) h))

-- what is no letter or digit begins no word
pub word_first : (c : ℕ) (w r s : List ℕ) → is_name_byte c ≡ false → IsTrue (all_name_bytes w) → 0 < length w → w ++ r ≡ c ∷ s → ⊥
word_first c [] r s stop is some h = absurd (omega arith)
word_first c (b ∷ bytes) r s stop is some h =
    let letter = (and_parts (is_name_byte b) (all_name_bytes bytes) is).0 in
    false≢true (sym stop ∙ sym (ap (λ (m : List ℕ). is_name_byte (get_or m 0 0)) h) ∙ letter)

-- what stops a word doesn't begin with a letter or a digit
not_stopped : (y : ℕ) (ys r : List ℕ) → IsTrue (is_name_byte y) → Stops r → r ≢ y ∷ ys
not_stopped y ys r h stops e = false≢true (sym (subst Stops e stops) ∙ h)

pub words_tell : (a b r s : List ℕ) → IsTrue (all_name_bytes a) → IsTrue (all_name_bytes b) → Stops r → Stops s → a ++ r ≡ b ++ s → (a ≡ b) × (r ≡ s)
words_tell [] [] r s p q h k e = (refl, e)
words_tell [] (y ∷ ys) r s p q h k e = absurd (not_stopped y (ys ++ s) r (and_parts (is_name_byte y) (all_name_bytes ys) q).0 h e)
words_tell (x ∷ xs) [] r s p q h k e = absurd (not_stopped x (xs ++ r) s (and_parts (is_name_byte x) (all_name_bytes xs) p).0 k (sym e))
words_tell (x ∷ xs) (y ∷ ys) r s p q h k e =
    let first : x ≡ y = cc e in
    let more = words_tell xs ys r s (and_parts (is_name_byte x) (all_name_bytes xs) p).1 (and_parts (is_name_byte y) (all_name_bytes ys) q).1 h k (ap (drop 1) e) in
    let rest : xs ≡ ys = more.0 in
    (cc, more.1)

digits_are_word : (digits : List ℕ) → AllDigits 10 digits → IsTrue (all_name_bytes digits)
digits_are_word [] d = refl
digits_are_word (c ∷ digits) d =
    let range = digit_from_value c d.0 in
    and_from (is_name_byte c) (all_name_bytes digits) (or_right (is_letter c) (is_digit c) (and_from (nat_le 48 c) (nat_le c 57) (le-leb 48 c (omega arith)) (le-leb c 57 (omega arith)))) (digits_are_word digits d.1)

pub decimal_is_word : (n : ℕ) → n < 2 ^ 64 → IsTrue (all_name_bytes (decimal n))
decimal_is_word n h = digits_are_word (decimal n) (decimal_is_IsNumeral n h).0.1

pub decimals_tell : (m n : ℕ) (r s : List ℕ) → m < 2 ^ 64 → n < 2 ^ 64 → Stops r → Stops s → decimal m ++ r ≡ decimal n ++ s → (m ≡ n) × (r ≡ s)
decimals_tell m n r s p q h k e =
    let both = words_tell (decimal m) (decimal n) r s (decimal_is_word m p) (decimal_is_word n q) h k e in
    (decimal_injective m n p q both.0, both.1)

decimal_begins : (n : ℕ) (r s : List ℕ) (b : ℕ) → n < 2 ^ 64 → is_name_byte b ≡ false → decimal n ++ r ≢ b ∷ s
decimal_begins n r s b h stops e = word_first b (decimal n) r s stops (decimal_is_word n h) (decimal_is_IsNumeral n h).0.0 e

-- and an integer, or with a minus
pub integer_begins : (z : ℤ) (r s : List ℕ) (b : ℕ) → FitsSigned w64 z → is_name_byte b ≡ false → b ≢ 45 → signed_decimal z ++ r ≢ b ∷ s
integer_begins (pos n) r s b fits stops other e = decimal_begins n r s b (omega arith) stops e
integer_begins (negsuc n) r s b fits stops other e = other (cc e)

pub integers_tell : (y z : ℤ) (r s : List ℕ) → FitsSigned w64 y → FitsSigned w64 z → Stops r → Stops s → signed_decimal y ++ r ≡ signed_decimal z ++ s → (y ≡ z) × (r ≡ s)
integers_tell (pos m) (pos n) r s p q h k e =
    let both = decimals_tell m n r s (omega arith) (omega arith) h k e in
    (ap pos both.0, both.1)
integers_tell (pos m) (negsuc n) r s p q h k e = absurd (decimal_begins m r (decimal (suc n) ++ s) 45 (omega arith) refl e)
integers_tell (negsuc m) (pos n) r s p q h k e = absurd (decimal_begins n s (decimal (suc m) ++ r) 45 (omega arith) refl (sym e))
integers_tell (negsuc m) (negsuc n) r s p q h k e =
    let both = decimals_tell (suc m) (suc n) r s (omega arith) (omega arith) h k (ap (drop 1) e) in
    let same : m ≡ n = omega (arith, both.0) in
    (ap negsuc same, both.1)

abbrev is_special : ℕ → Bool
is_special byte = (byte == 34) || (byte == 92)

abbrev escaped_by : Bool → ℕ → List ℕ
escaped_by special byte = cond special (92 ∷ byte ∷ []) (byte ∷ [])

-- one byte of a text, by whether a backslash stands before it
bytes_by : (x y : ℕ) (r s : List ℕ) (t u : Bool) → is_special x ≡ t → is_special y ≡ u → escaped_by t x ++ r ≡ escaped_by u y ++ s → (x ≡ y) × (r ≡ s)
bytes_by x y r s true true h k e = (cc e, ap (drop 2) e)
bytes_by x y r s true false h k e = let is : y ≡ 92 = cc e in absurd (false≢true (sym k ∙ ap is_special is))
bytes_by x y r s false true h k e = let is : x ≡ 92 = cc e in absurd (false≢true (sym h ∙ ap is_special is))
bytes_by x y r s false false h k e = (cc e, ap (drop 1) e)

-- no byte of a text begins as the quote that ends it does
begins_by : (x : ℕ) (r s : List ℕ) (t : Bool) → is_special x ≡ t → escaped_by t x ++ r ≢ 34 ∷ s
begins_by x r s true h e = differ 0 (92 ∷ x ∷ r) (34 ∷ s) e refl
begins_by x r s false h e = let is : x ≡ 34 = cc e in false≢true (sym h ∙ ap is_special is)

-- up to the quote that ends a text
escapes_tell : (a b r s : List ℕ) → flat_map escaped a ++ (34 ∷ r) ≡ flat_map escaped b ++ (34 ∷ s) → (a ≡ b) × (r ≡ s)
escapes_tell [] [] r s e = (refl, ap (drop 1) e)
escapes_tell [] (y ∷ ys) r s e = absurd (begins_by y (flat_map escaped ys ++ (34 ∷ s)) r _ refl (sym (append_assoc (escaped y) (flat_map escaped ys) (34 ∷ s)) ∙ sym e))
escapes_tell (x ∷ xs) [] r s e = absurd (begins_by x (flat_map escaped xs ++ (34 ∷ r)) s _ refl (sym (append_assoc (escaped x) (flat_map escaped xs) (34 ∷ r)) ∙ e))
escapes_tell (x ∷ xs) (y ∷ ys) r s e =
    let first = bytes_by x y (flat_map escaped xs ++ (34 ∷ r)) (flat_map escaped ys ++ (34 ∷ s)) _ _ refl refl (sym (append_assoc (escaped x) (flat_map escaped xs) (34 ∷ r)) ∙ e ∙ append_assoc (escaped y) (flat_map escaped ys) (34 ∷ s)) in
    let more = escapes_tell xs ys r s first.1 in
    (λ i. first.0 i ∷ more.0 i, more.1)

pub quoted_tell : (a b r s : List ℕ) → quoted a ++ r ≡ quoted b ++ s → (a ≡ b) × (r ≡ s)
quoted_tell a b r s e = escapes_tell a b r s (sym (append_assoc (flat_map escaped a) (34 ∷ []) r) ∙ ap (drop 1) e ∙ append_assoc (flat_map escaped b) (34 ∷ []) s)

id_parts : (id : Id) (r : List ℕ) → id_text id ++ r ≡ 64 ∷ (decimal id.client ++ (46 ∷ (decimal id.serial ++ r)))
id_parts id r = ap (λ l. 64 ∷ l) (append_assoc (decimal id.client ++ codes ".") (decimal id.serial) r ∙ append_assoc (decimal id.client) (codes ".") (decimal id.serial ++ r))

pub ids_tell : (a b : Id) (r s : List ℕ) → IsId a → IsId b → Stops r → Stops s → id_text a ++ r ≡ id_text b ++ s → (a ≡ b) × (r ≡ s)
ids_tell a b r s p q h k e =
    let clients = decimals_tell a.client b.client (46 ∷ (decimal a.serial ++ r)) (46 ∷ (decimal b.serial ++ s)) (omega arith) (omega arith) refl refl (ap (drop 1) (sym (id_parts a r) ∙ e ∙ id_parts b s)) in
    let serials = decimals_tell a.serial b.serial r s (omega arith) (omega arith) h k (ap (drop 1) clients.1) in
    ((λ i. record { client = clients.0 i; serial = serials.0 i }), serials.1)

-- no key begins with a byte that stops a word, but for a minus, a quote and an at sign
key_begins : (a : Key) (r s : List ℕ) (b : ℕ) → IsWritten a → is_name_byte b ≡ false → b ≢ 45 → b ≢ 34 → b ≢ 64 → key_text a ++ r ≢ b ∷ s
key_begins (key.Int number) r s b h stops minus quote at e = integer_begins number r s b h stops minus e
key_begins (key.Text text) r s b h stops minus quote at e = quote (cc e)
key_begins (key.Ref id) r s b h stops minus quote at e = at (cc e)

pub keys_tell : (a b : Key) (r s : List ℕ) → IsWritten a → IsWritten b → Stops r → Stops s → key_text a ++ r ≡ key_text b ++ s → (a ≡ b) × (r ≡ s)
keys_tell (key.Int y) (key.Int z) r s p q h k e = let both = integers_tell y z r s p q h k e in (ap key.Int both.0, both.1)
keys_tell (key.Int y) (key.Text b) r s p q h k e = absurd (integer_begins y r _ 34 p refl (λ e. omega arith) e)
keys_tell (key.Int y) (key.Ref b) r s p q h k e = absurd (integer_begins y r _ 64 p refl (λ e. omega arith) e)
keys_tell (key.Text a) (key.Int z) r s p q h k e = absurd (integer_begins z s _ 34 q refl (λ e. omega arith) (sym e))
keys_tell (key.Text a) (key.Text b) r s p q h k e = let both = quoted_tell a b r s e in (ap key.Text both.0, both.1)
keys_tell (key.Text a) (key.Ref b) r s p q h k e = absurd (differ 0 _ _ e refl)
keys_tell (key.Ref a) (key.Int z) r s p q h k e = absurd (integer_begins z s _ 64 q refl (λ e. omega arith) (sym e))
keys_tell (key.Ref a) (key.Text b) r s p q h k e = absurd (differ 0 _ _ e refl)
keys_tell (key.Ref a) (key.Ref b) r s p q h k e = let both = ids_tell a b r s p q h k e in (ap key.Ref both.0, both.1)

module _ {X : Type 0} (text : X → List ℕ) (Fits : X → Type 0) (close : ℕ)
    (tells : (a b : X) (r s : List ℕ) → Fits a → Fits b → Stops r → Stops s → text a ++ r ≡ text b ++ s → (a ≡ b) × (r ≡ s))
    (stops : is_name_byte close ≡ false) (other : close ≢ 44) where
  -- what is behind the first item
  abbrev behind : List X → List ℕ
  behind = flat_map (λ y. codes ", " ++ text y)

  behind_stops : (xs : List X) (r : List ℕ) → Stops (behind xs ++ (close ∷ r))
  behind_stops [] r = stops
  behind_stops (x ∷ xs) r = refl

  -- the first items and what is behind them
  first_tells : (x y : X) (xs ys : List X) (r s : List ℕ) → Fits x → Fits y → (text x ++ behind xs) ++ (close ∷ r) ≡ (text y ++ behind ys) ++ (close ∷ s)
      → (behind xs ++ (close ∷ r) ≡ behind ys ++ (close ∷ s) → (xs ≡ ys) × (r ≡ s)) → (x ∷ xs ≡ y ∷ ys) × (r ≡ s)
  first_tells x y xs ys r s p q e rest =
      let item = tells x y (behind xs ++ (close ∷ r)) (behind ys ++ (close ∷ s)) p q (behind_stops xs r) (behind_stops ys s) (sym (append_assoc (text x) (behind xs) (close ∷ r)) ∙ e ∙ append_assoc (text y) (behind ys) (close ∷ s)) in
      let more = rest item.1 in
      ((λ i. item.0 i ∷ more.0 i), more.1)

  behind_tells : (a b : List X) (r s : List ℕ) → All Fits a → All Fits b → behind a ++ (close ∷ r) ≡ behind b ++ (close ∷ s) → (a ≡ b) × (r ≡ s)
  behind_tells [] [] r s p q e = (refl, ap (drop 1) e)
  behind_tells [] (y ∷ ys) r s p q e = absurd (other (cc e))
  behind_tells (x ∷ xs) [] r s p q e = absurd (other (cc e))
  behind_tells (x ∷ xs) (y ∷ ys) r s p q e =
      first_tells x y xs ys r s (All-head Fits x xs p) (All-head Fits y ys q) (ap (drop 2) e) (behind_tells xs ys r s (All-tail Fits x xs p) (All-tail Fits y ys q))

-- items with a comma and a space between them, up to a closing byte that begins none of them
pub joined_tell : {X : Type 0} (text : X → List ℕ) (Fits : X → Type 0) (close : ℕ)
    → ((a b : X) (r s : List ℕ) → Fits a → Fits b → Stops r → Stops s → text a ++ r ≡ text b ++ s → (a ≡ b) × (r ≡ s))
    → ((a : X) (r s : List ℕ) → Fits a → text a ++ r ≡ close ∷ s → ⊥)
    → is_name_byte close ≡ false → close ≢ 44
    → (a b : List X) (r s : List ℕ) → All Fits a → All Fits b → join_by text (codes ", ") a ++ (close ∷ r) ≡ join_by text (codes ", ") b ++ (close ∷ s) → (a ≡ b) × (r ≡ s)
joined_tell text Fits close tells apart stops other [] [] r s p q e = (refl, ap (drop 1) e)
joined_tell text Fits close tells apart stops other [] (y ∷ ys) r s p q e =
    absurd (apart y _ r (All-head Fits y ys q) (sym (append_assoc (text y) _ (close ∷ s)) ∙ sym e))
joined_tell text Fits close tells apart stops other (x ∷ xs) [] r s p q e =
    absurd (apart x _ s (All-head Fits x xs p) (sym (append_assoc (text x) _ (close ∷ r)) ∙ e))
joined_tell text Fits close tells apart stops other (x ∷ xs) (y ∷ ys) r s p q e =
    first_tells text Fits close tells stops other x y xs ys r s (All-head Fits x xs p) (All-head Fits y ys q) e (behind_tells text Fits close tells stops other xs ys r s (All-tail Fits x xs p) (All-tail Fits y ys q))

keys_up_to : (close : ℕ) → is_name_byte close ≡ false → close ≢ 44 → close ≢ 45 → close ≢ 34 → close ≢ 64
    → (a b : List Key) (r s : List ℕ) → All IsWritten a → All IsWritten b → keys_text a ++ (close ∷ r) ≡ keys_text b ++ (close ∷ s) → (a ≡ b) × (r ≡ s)
keys_up_to close stops comma minus quote at = joined_tell key_text IsWritten close keys_tell (λ a r s h. key_begins a r s close h stops minus quote at) stops comma

-- a list of keys up to a closing bracket
pub key_lists_tell : (a b : List Key) (r s : List ℕ) → All IsWritten a → All IsWritten b → keys_text a ++ (93 ∷ r) ≡ keys_text b ++ (93 ∷ s) → (a ≡ b) × (r ≡ s)
key_lists_tell = keys_up_to 93 refl (λ e. omega arith) (λ e. omega arith) (λ e. omega arith) (λ e. omega arith)

-- key lists in parentheses
pub tuples_tell : (a b : List Key) (r s : List ℕ) → All IsWritten a → All IsWritten b → tuple_text a ++ r ≡ tuple_text b ++ s → (a ≡ b) × (r ≡ s)
tuples_tell a b r s p q e =
    keys_up_to 41 refl (λ e. omega arith) (λ e. omega arith) (λ e. omega arith) (λ e. omega arith) a b r s p q
    (sym (append_assoc (keys_text a) (41 ∷ []) r) ∙ ap (drop 1) e ∙ append_assoc (keys_text b) (41 ∷ []) s)
