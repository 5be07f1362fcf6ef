-- Numbers, texts, ids and keys: what is read is spelled so, and what is spelled so is read.
use Rattle.std.proofs.Common.{◌≡◌, refl, sym, ◌∙◌, ap, subst, ℕ, zero, suc, ◌+◌, ◌^◌, ◌<◌, ◌≤◌, Bool, true, false, cond, ltb, List, [], ◌∷◌, ◌++◌, length, get_or, take, drop, Result, Ok, Err, inl, inr, append_assoc, length-append, arith, ℤ, pos, negsuc}
use Rattle.std.specs.Prelude.{◌⊎◌, ◌≢◌, ◌&&◌, ◌==◌, nat_lt, nat_le, not, Option, Some, None, All, FitsSigned}
use Rattle.std.specs.List.{AllByRecursion, flat_map}
use Rattle.std.specs.Int.{Width, w16, w32, w64, byte_len, from_be_bytes, to_be_bytes, cast_signed, cast_unsigned}
use Rattle.std.proofs.lemmas.Bool.{ltb-false, le-ltb, cases_lt, eqb-true, and_parts}
use Rattle.std.proofs.lemmas.Bool.Decides.{nat_tests}
use Rattle.std.proofs.lemmas.List.{append-nil, take_at, drop_at, take-append-drop, length-take, length-drop, get_or-drop, get_or-take, get_or_past}
use Rattle.std.proofs.lemmas.List.Elements.{All-from_recursion, recursion_from_All}
use Rattle.std.proofs.lemmas.List.Concat.{flat_map-cons}
use Rattle.std.proofs.lemmas.Nat.{be_bytes_2, be_bytes_4, be_bytes_8, from_be_bytes-to_be_bytes_2, from_be_bytes-to_be_bytes_4, from_be_bytes-to_be_bytes_8}
use Rattle.std.proofs.lemmas.Int.{to_z-of_z, of_z-to_z}
use Rattle.std.proofs.Math.Facts.{sfits_to_z, Fits-of_z}
use Rattle.cloud_base.specs.Values.{Id, IsPrintable, IsText}
use Rattle.cloud_base.specs.Shaped.{IsId, IsKey, MatchTypes, AreKeys}
use Rattle.cloud_base.specs.declared.key.Key.{Key}
use Rattle.cloud_base.specs.declared.key.Key.TheVariants as key
use Rattle.cloud_base.specs.declared.schema.KeyType.{KeyType}
use Rattle.cloud_base.specs.declared.schema.KeyType.TheVariants as type
use Rattle.packet_bytes.specs.declared.fault.WireFault.{WireFault}
use Rattle.packet_bytes.specs.declared.fault.WireFault.TheVariants.{Short, BadTag, OutOfOrder, NotCanonical, Unknown}
use Rattle.packet_bytes.specs.Left.{Left, Field, Read, Reader, end_of, after, then_read, ◌>>=◌, give, check, known, next_byte, byte_at, number_at, IsBytes}
use Rattle.packet_bytes.specs.Reading.{int_at, is_zero, filled_int_at, is_printable, printable_at, printables_at, text_at, client_at, id_at, key_tag, key_content_at, key_at, keys_at}
use Rattle.packet_bytes.specs.Spelling.{int_bytes, text_bytes, id_bytes, key_bytes}
use Rattle.packet_bytes.proofs.Printables.{test_of_printable, printable_of_test}
use Rattle.packet_bytes.proofs.Spells.{Spells, Takes, ok_is, longer, spells_seq, spells_then, spells_give, spells_same, spells_made, spells_check, spells_checked, spells_cons, tail}

-- ---- bytes

byte_takes : (at : ℕ) (bytes : List ℕ) (x : ℕ) (rest : Left) → IsBytes bytes → next_byte at bytes ≡ Ok (x, rest) → (x < 256) × Takes (record { at = at; bytes = bytes }) (x ∷ []) rest
byte_takes at [] x rest fits e = cc
byte_takes at (b ∷ bytes) x rest fits e =
    let left : Left = record { at = at + 1; bytes = bytes } in
    subst (λ (p : ℕ × Left). (p.0 < 256) × Takes (record { at = at; bytes = b ∷ bytes }) (p.0 ∷ []) p.1) (ok_is (b, left) (x, rest) e) (fits 0, record { parts = refl; place = refl; fits = λ i. fits (suc i) })

byte_faults : (at : ℕ) (bytes : List ℕ) (fault : WireFault) → next_byte at bytes ≡ Err fault → (fault ≡ Short (at + length bytes)) ⊎ ((more : List ℕ) → next_byte at (bytes ++ more) ≡ Err fault)
byte_faults at [] fault e = let inner : Short at ≡ fault = cc in let place : at ≡ at + 0 = omega arith in inl (sym inner ∙ ap Short place)
byte_faults at (b ∷ bytes) fault e = cc

pub byte_spells : Spells byte_at (λ b. b < 256) (λ b. b ∷ [])
unfolding byte_at
byte_spells = record {
  takes = λ left x rest fits e. byte_takes left.at left.bytes x rest fits e;
  again = λ x at more f. refl;
  faults = λ left fault fits e. byte_faults left.at left.bytes fault e;
}

-- ---- numbers

IsBytes-drop : (n : ℕ) (bytes : List ℕ) → IsBytes bytes → IsBytes (drop n bytes)
IsBytes-drop n bytes h i = rw get_or-drop (h (n + i))

IsBytes-take : (n : ℕ) (bytes : List ℕ) → IsBytes bytes → IsBytes (take n bytes)
IsBytes-take n bytes h i =
    elim (cases_lt i n) [
      | inl lt ↦ rw (get_or-take n bytes i 0 lt) (h i)
      | inr le ↦ rw (get_or_past (take n bytes) i 0 (omega (arith, length-take n bytes))) (omega arith)
    ]

pub record IsWide (w : Width) (limit : ℕ) : Type 0 where
  pub len : (n : ℕ) → length (to_be_bytes w n) ≡ byte_len w
  pub back : (bytes : List ℕ) → length bytes ≡ byte_len w → IsBytes bytes → to_be_bytes w (from_be_bytes w bytes) ≡ bytes
  pub again : (n : ℕ) → n < limit → from_be_bytes w (to_be_bytes w n) ≡ n
  pub below : (bytes : List ℕ) → IsBytes bytes → from_be_bytes w bytes < limit

pub wide16 : IsWide w16 (2 ^ 16)
wide16 = record { len = λ n. refl; back = λ bytes len fits. be_bytes_2 bytes _ len fits refl; again = λ n lt. from_be_bytes-to_be_bytes_2 n lt; below = λ bytes fits. omega (arith, fits 0, fits 1) }

pub wide32 : IsWide w32 (2 ^ 32)
wide32 = record { len = λ n. refl; back = λ bytes len fits. be_bytes_4 bytes _ len fits refl; again = λ n lt. from_be_bytes-to_be_bytes_4 n lt; below = λ bytes fits. omega (arith, fits 0, fits 1, fits 2, fits 3) }

pub wide64 : IsWide w64 (2 ^ 64)
wide64 = record { len = λ n. refl; back = λ bytes len fits. be_bytes_8 bytes _ len fits refl; again = λ n lt. from_be_bytes-to_be_bytes_8 n lt; below = λ bytes fits. omega (arith, fits 0, fits 1, fits 2, fits 3, fits 4, fits 5, fits 6, fits 7) }

choose_ok : {A : Type 0} (b : Bool) (f : WireFault) (p q : A × Left) → cond b (Err f) (Ok p) ≡ Ok q → (b ≡ false) × (p ≡ q)
choose_ok true f p q e = cc
choose_ok false f p q e = (refl, ok_is p q e)

choose_err : {A : Type 0} (b : Bool) (f g : WireFault) (p : A × Left) (r : Read A) → r ≡ cond b (Err f) (Ok p) → r ≡ Err g → g ≡ f
choose_err true f g p r s e = cc
choose_err false f g p r s e = cc

module _ (w : Width) (limit : ℕ) (wide : IsWide w limit) where
  number_takes : (left : Left) (n : ℕ) (rest : Left) → IsBytes left.bytes → number_at w left ≡ Ok (n, rest) → (n < limit) × Takes left (to_be_bytes w n) rest
  unfolding number_at
  number_takes left n rest fits e =
      let bytes = left.bytes in
      let k = byte_len w in
      let g = choose_ok (nat_lt (length bytes) k) (Short (end_of left)) (from_be_bytes w (take k bytes), after k left) (n, rest) e in
      let long : k ≤ length bytes = ltb-false _ _ g.0 in
      let front : to_be_bytes w (from_be_bytes w (take k bytes)) ≡ take k bytes = wide.back (take k bytes) (omega (arith, length-take k bytes)) (IsBytes-take k bytes fits) in
      let len : length (to_be_bytes w (from_be_bytes w (take k bytes))) ≡ k = wide.len (from_be_bytes w (take k bytes)) in
      subst (λ (p : ℕ × Left). (p.0 < limit) × Takes left (to_be_bytes w p.0) p.1) g.1 (
        wide.below (take k bytes) (IsBytes-take k bytes fits),
        record { parts = sym (ap (λ (f : List ℕ). f ++ drop k bytes) front ∙ take-append-drop k bytes); place = ap (λ (m : ℕ). left.at + m) (sym len); fits = IsBytes-drop k bytes fits },
      )

  number_again : (n at : ℕ) (more : List ℕ) → n < limit → number_at w (record { at = at; bytes = to_be_bytes w n ++ more }) ≡ Ok (n, record { at = at + length (to_be_bytes w n); bytes = more })
  unfolding number_at
  number_again n at more lt =
      let len = wide.len n in
      let long : ltb (length (to_be_bytes w n ++ more)) (byte_len w) ≡ false = le-ltb _ _ (omega (arith, length-append (to_be_bytes w n) more)) in
      rw (long, take_at (to_be_bytes w n) more (byte_len w) len, drop_at (to_be_bytes w n) more (byte_len w) len, wide.again n lt, len) refl

  pub number_spells : Spells (number_at w) (λ n. n < limit) (to_be_bytes w)
  unfolding number_at
  number_spells = record {
    takes = number_takes;
    again = number_again;
    faults = λ left fault fits e. inl (choose_err (nat_lt (length left.bytes) (byte_len w)) (Short (end_of left)) fault (from_be_bytes w (take (byte_len w) left.bytes), after (byte_len w) left) (number_at w left) refl e);
  }

-- ---- integers

pub int_spells : Spells int_at (FitsSigned w64) int_bytes
unfolding int_at
int_spells = spells_made (number_at w64) (cast_signed w64) (cast_unsigned w64) (λ n. n < 2 ^ 64) (to_be_bytes w64) (FitsSigned w64) (number_spells w64 (2 ^ 64) wide64)
    (λ n lt. (sfits_to_z (record { fits = lt }), of_z-to_z w64 n lt))
    (λ z f. ((Fits-of_z f).fits, to_z-of_z w64 z f))

not_zero : (z : ℤ) → not (is_zero z) ≡ true → z ≢ pos 0
not_zero z t = λ e. let u : not (is_zero z) ≡ false = ap (λ y. not (is_zero y)) e in cc

zero_test : (z : ℤ) → z ≢ pos 0 → not (is_zero z) ≡ true
zero_test (pos zero) h = absurd (h refl)
zero_test (pos (suc n)) h = let e : (suc n == 0) ≡ false = grind (arith, nat_tests) in ap not e
zero_test (negsuc n) h = refl

pub filled_int_spells : Spells filled_int_at (λ z. FitsSigned w64 z × (z ≢ pos 0)) int_bytes
unfolding filled_int_at
filled_int_spells = spells_same filled_int_at (λ z. FitsSigned w64 z × (not (is_zero z) ≡ true)) int_bytes (λ z. FitsSigned w64 z × (z ≢ pos 0)) int_bytes
    (spells_checked int_at (λ z. not (is_zero z)) NotCanonical (FitsSigned w64) int_bytes int_spells)
    (λ z h. (h.0, not_zero z h.1)) (λ z h. (h.0, zero_test z h.1)) (λ z h. refl)

-- ---- texts

printable_spells : Spells printable_at IsPrintable (λ b. b ∷ [])
unfolding printable_at
printable_spells = spells_same printable_at (λ b. (b < 256) × (is_printable b ≡ true)) (λ b. b ∷ []) IsPrintable (λ b. b ∷ [])
    (spells_checked byte_at is_printable NotCanonical (λ b. b < 256) (λ b. b ∷ []) byte_spells)
    (λ b h. printable_of_test b h.1) (λ b h. (omega arith, test_of_printable b h)) (λ b h. refl)

abbrev AreMany : ℕ → List ℕ → Type 0
AreMany n bytes = (length bytes ≡ n) × AllByRecursion IsPrintable bytes

none_of : {A : Type 0} (xs : List A) → length xs ≡ 0 → xs ≡ []
none_of [] e = refl
none_of (x ∷ xs) e = absurd (omega (arith, e))

first_of_many : (n : ℕ) (bytes : List ℕ) → AreMany (suc n) bytes → (b : ℕ) × (rest : List ℕ) × (bytes ≡ b ∷ rest) × IsPrintable b × AreMany n rest
first_of_many n [] h = absurd (omega (arith, h.0))
first_of_many n (b ∷ bytes) h = (b, bytes, refl, h.1.0, (omega (arith, h.0), h.1.1))

-- the bytes stand for themselves
spelled_itself : (bytes : List ℕ) → flat_map (λ b. b ∷ []) bytes ≡ bytes
spelled_itself [] = refl
spelled_itself (b ∷ bytes) = flat_map-cons (λ b. b ∷ []) b bytes ∙ ap (λ xs. b ∷ xs) (spelled_itself bytes)

many_spells : (n : ℕ) → Spells (printables_at n) (AreMany n) (flat_map (λ b. b ∷ []))
unfolding printables_at
many_spells zero = spells_same (printables_at zero) (AreMany zero) (λ xs. []) (AreMany zero) (flat_map (λ b. b ∷ [])) (spells_give [] (AreMany zero) (refl, tt) (λ xs h. none_of xs h.0)) (λ xs h. h) (λ xs h. h) (λ xs h. ap (flat_map (λ b. b ∷ [])) (sym (none_of xs h.0)))
many_spells (suc n) = spells_cons printable_at (λ byte. printables_at n) IsPrintable (λ b. b ∷ []) (λ b. AreMany n) (AreMany (suc n)) printable_spells (λ at b f. many_spells n) (first_of_many n) (λ b bytes f h. (ap suc h.0, (f, h.1)))

printables_spells : (n : ℕ) → Spells (printables_at n) (AreMany n) (λ text. text)
printables_spells n = spells_same (printables_at n) (AreMany n) (flat_map (λ b. b ∷ [])) (AreMany n) (λ text. text) (many_spells n) (λ xs h. h) (λ xs h. h) (λ xs h. spelled_itself xs)

-- a text of at least so many bytes
abbrev pub IsLong : ℕ → List ℕ → Type 0
IsLong least text = (least ≤ length text) × IsText text

size_test : (least n : ℕ) → (nat_le least n && nat_le n 128) ≡ true → (least ≤ n) × (n ≤ 128)
size_test least n t = let h = and_parts (nat_le least n) (nat_le n 128) t in (grind (arith, nat_tests, h.0), grind (arith, nat_tests, h.1))

size_fits : (least n : ℕ) → least ≤ n → n ≤ 128 → (nat_le least n && nat_le n 128) ≡ true
size_fits least n low high = grind (arith, nat_tests, low, high)

pub text_spells : (least : ℕ) → Spells (text_at least) (IsLong least) text_bytes
unfolding text_at
text_spells least =
    spells_then byte_at (λ size. check (nat_le least size.value && nat_le size.value 128) (NotCanonical size.at) >>= λ right. printables_at size.value) length (λ b. b < 256) (λ b. b ∷ []) (IsLong least) (λ text. text) byte_spells
    (λ text f. omega (arith, f.1.0))
    (λ at n lt. spells_check (nat_le least n && nat_le n 128) (NotCanonical at) (printables_at n) (λ text. IsLong least text × (length text ≡ n)) (λ text. text)
    (λ t. let sizes = size_test least n t in
    spells_same (printables_at n) (AreMany n) (λ text. text) (λ text. IsLong least text × (length text ≡ n)) (λ text. text) (printables_spells n)
    (λ text h. ((subst (λ m. least ≤ m) (sym h.0) sizes.0, (subst (λ m. m ≤ 128) (sym h.0) sizes.1, All-from_recursion IsPrintable text h.1)), h.0))
    (λ text h. (h.1, recursion_from_All IsPrintable text h.0.1.1))
    (λ text h. refl))
    (λ text h. size_fits least n (subst (λ m. least ≤ m) h.1 h.0.0) (subst (λ m. m ≤ 128) h.1 h.0.1.0)))

-- ---- ids

lt_test : (a b : ℕ) → nat_lt a b ≡ true → a < b
lt_test a b t = grind (arith, nat_tests, t)

lt_fits : (a b : ℕ) → a < b → nat_lt a b ≡ true
lt_fits a b h = grind (arith, nat_tests, h)

pub client_spells : Spells client_at (λ c. c < 8) (λ c. c ∷ [])
unfolding client_at
client_spells = spells_same client_at (λ c. (c < 256) × (nat_lt c 8 ≡ true)) (λ c. c ∷ []) (λ c. c < 8) (λ c. c ∷ [])
    (spells_checked byte_at (λ c. nat_lt c 8) NotCanonical (λ b. b < 256) (λ b. b ∷ []) byte_spells)
    (λ c h. lt_test c 8 h.1) (λ c h. (omega arith, lt_fits c 8 h)) (λ c h. refl)

pub id_spells : Spells id_at IsId id_bytes
unfolding id_at
id_spells =
    spells_then client_at (λ client. number_at w32 >>= λ serial. give (record { client = client.value; serial = serial.value })) (λ (id : Id). id.client) (λ c. c < 8) (λ c. c ∷ []) IsId (λ id. to_be_bytes w32 id.serial) client_spells
    (λ id f. f.0)
    (λ at client lt. spells_made (number_at w32) (λ serial. record { client = client; serial = serial }) (λ (id : Id). id.serial) (λ n. n < 2 ^ 32) (to_be_bytes w32) (λ id. IsId id × (id.client ≡ client)) (number_spells w32 (2 ^ 32) wide32)
    (λ serial f. (((lt, f), refl), refl))
    (λ id h. (h.0.1, λ i. record { client = sym h.1 i; serial = id.serial })))

-- ---- keys

-- what follows the tag
abbrev pub key_content : Key → List ℕ
key_content (key.Int n) = int_bytes n
key_content (key.Text text) = text_bytes text
key_content (key.Ref id) = id_bytes id

int_in : Key → ℤ
int_in (key.Int n) = n
int_in (key.Text text) = pos 0
int_in (key.Ref id) = pos 0

text_in : Key → List ℕ
text_in (key.Int n) = []
text_in (key.Text text) = text
text_in (key.Ref id) = []

id_in : Key → Id
id_in (key.Int n) = record { client = 0; serial = 0 }
id_in (key.Text text) = record { client = 0; serial = 0 }
id_in (key.Ref id) = id

int_key : (k : Key) → IsKey type.Int k → FitsSigned w64 (int_in k) × (key.Int (int_in k) ≡ k)
unfolding int_in
int_key (key.Int n) h = (h, refl)
int_key (key.Text text) h = absurd h
int_key (key.Ref id) h = absurd h

text_key : (k : Key) → IsKey type.Text k → IsLong 0 (text_in k) × (key.Text (text_in k) ≡ k)
unfolding text_in
text_key (key.Int n) h = absurd h
text_key (key.Text text) h = ((omega arith, h), refl)
text_key (key.Ref id) h = absurd h

id_key : (entity : ℕ) (k : Key) → IsKey (type.Id entity) k → IsId (id_in k) × (key.Ref (id_in k) ≡ k)
unfolding id_in
id_key entity (key.Int n) h = absurd h
id_key entity (key.Text text) h = absurd h
id_key entity (key.Ref id) h = (h, refl)

content_spells : (t : KeyType) → Spells (key_content_at t) (IsKey t) key_content
unfolding key_content_at int_in text_in id_in
content_spells type.Int = spells_same (key_content_at type.Int) (IsKey type.Int) (λ k. int_bytes (int_in k)) (IsKey type.Int) key_content
    (spells_made int_at key.Int int_in (FitsSigned w64) int_bytes (IsKey type.Int) int_spells (λ n f. (f, refl)) int_key)
    (λ k h. h) (λ k h. h) (λ k h. ap key_content (int_key k h).1)
content_spells type.Text = spells_same (key_content_at type.Text) (IsKey type.Text) (λ k. text_bytes (text_in k)) (IsKey type.Text) key_content
    (spells_made (text_at 0) key.Text text_in (IsLong 0) text_bytes (IsKey type.Text) (text_spells 0) (λ text f. (f.1, refl)) text_key)
    (λ k h. h) (λ k h. h) (λ k h. ap key_content (text_key k h).1)
content_spells (type.Id entity) = spells_same (key_content_at (type.Id entity)) (IsKey (type.Id entity)) (λ k. id_bytes (id_in k)) (IsKey (type.Id entity)) key_content
    (spells_made id_at key.Ref id_in IsId id_bytes (IsKey (type.Id entity)) id_spells (λ id f. (f, refl)) (id_key entity))
    (λ k h. h) (λ k h. h) (λ k h. ap key_content (id_key entity k h).1)

tag_below : (t : KeyType) → (nat_lt (key_tag t) 3 ≡ true) × (key_tag t < 256)
tag_below type.Int = (refl, omega arith)
tag_below type.Text = (refl, omega arith)
tag_below (type.Id entity) = (refl, omega arith)

tagged : (t : KeyType) (k : Key) → IsKey t k → key_bytes k ≡ key_tag t ∷ key_content k
tagged type.Int (key.Int n) h = refl
tagged type.Text (key.Text text) h = refl
tagged (type.Id entity) (key.Ref id) h = refl
tagged type.Int (key.Text text) h = absurd h
tagged type.Int (key.Ref id) h = absurd h
tagged type.Text (key.Int n) h = absurd h
tagged type.Text (key.Ref id) h = absurd h
tagged (type.Id entity) (key.Int n) h = absurd h
tagged (type.Id entity) (key.Text text) h = absurd h

pub same_test : (a b : ℕ) → a ≡ b → (a == b) ≡ true
same_test a b e = grind (arith, nat_tests, e)

pub key_spells : (t : KeyType) → Spells (key_at t) (IsKey t) key_bytes
unfolding key_at
key_spells t =
    spells_seq byte_at (λ tag. check (nat_lt tag.value 3) (BadTag tag.at) >>= λ right. check (tag.value == key_tag t) (Unknown tag.at) >>= λ own. key_content_at t) (λ b. b < 256) (λ b. b ∷ []) (λ tag k. (tag ≡ key_tag t) × IsKey t k) (λ tag k. key_content k) (IsKey t) key_bytes byte_spells
    (λ at tag lt. spells_check (nat_lt tag 3) (BadTag at) (check (tag == key_tag t) (Unknown at) >>= λ own. key_content_at t) (λ k. (tag ≡ key_tag t) × IsKey t k) key_content
    (λ below. spells_check (tag == key_tag t) (Unknown at) (key_content_at t) (λ k. (tag ≡ key_tag t) × IsKey t k) key_content
    (λ own. spells_same (key_content_at t) (IsKey t) key_content (λ k. (tag ≡ key_tag t) × IsKey t k) key_content (content_spells t) (λ k h. (eqb-true tag (key_tag t) own, h)) (λ k h. h.1) (λ k h. refl))
    (λ k h. same_test tag (key_tag t) h.0))
    (λ k h. ap (λ n. nat_lt n 3) h.0 ∙ (tag_below t).0))
    (λ k h. (key_tag t, (tag_below t).1, (refl, h), tagged t k h))
    (λ tag k lt h. (h.1, tagged t k h.1 ∙ ap (λ n. n ∷ key_content k) (sym h.0)))

first_key : (t : KeyType) (types : List KeyType) (keys : List Key) → MatchTypes (t ∷ types) keys → (k : Key) × (rest : List Key) × (keys ≡ k ∷ rest) × IsKey t k × MatchTypes types rest
first_key t types [] h = absurd h
first_key t types (k ∷ keys) h = (k, keys, refl, h.0, h.1)

no_keys : (keys : List Key) → MatchTypes [] keys → keys ≡ []
no_keys [] h = refl
no_keys (k ∷ keys) h = absurd h

pub keys_spells : (types : List KeyType) → Spells (keys_at types) (MatchTypes types) (flat_map key_bytes)
unfolding keys_at
keys_spells [] = spells_same (keys_at []) (MatchTypes []) (λ keys. []) (MatchTypes []) (flat_map key_bytes) (spells_give [] (MatchTypes []) tt no_keys) (λ keys h. h) (λ keys h. h) (λ keys h. ap (flat_map key_bytes) (sym (no_keys keys h)))
keys_spells (t ∷ types) = spells_cons (key_at t) (λ k. keys_at types) (IsKey t) key_bytes (λ k. MatchTypes types) (MatchTypes (t ∷ types)) (key_spells t) (λ at k f. keys_spells types) (first_key t types) (λ k keys f h. (f, h))
