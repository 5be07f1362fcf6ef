-- Values: texts, names and ids.
use Rattle.std.specs.Prelude.{◌≡◌, refl, codes, ℕ, ◌≤◌, ◌<◌, List, [], ◌∷◌, length, All, Bool, true, false, ◌&&◌, ◌||◌, nat_le, ◌==◌, IsTrue}
use Rattle.std.proofs.Common.{lit<, lit≤, le→leb, lt→ltb}
use Rattle.std.proofs.lemmas.List.Elements.{All-nil, All-cons, All-head}

-- a printable byte
abbrev pub IsPrintable : ℕ → Type 0
IsPrintable b = (32 ≤ b) × (b < 127)

-- the most bytes of a text
abbrev pub most_text_bytes : ℕ
most_text_bytes = 128

-- a text
abbrev pub IsText : List ℕ → Type 0
IsText bytes = (length bytes ≤ most_text_bytes) × All IsPrintable bytes

-- an id: the client that created it, and how many it had created before
pub record Id : Type 0 where
  pub client : ℕ
  pub serial : ℕ

-- the most clients
abbrev pub most_clients : ℕ
most_clients = 8

-- the most keys of a cell or an entity
abbrev pub most_keys : ℕ
most_keys = 3

-- a letter, or the low line
abbrev pub is_letter : ℕ → Bool
is_letter b = (nat_le 65 b && nat_le b 90) || (nat_le 97 b && nat_le b 122) || (b == 95)

abbrev pub is_digit : ℕ → Bool
is_digit b = nat_le 48 b && nat_le b 57

-- what may follow in a name
abbrev pub is_name_byte : ℕ → Bool
is_name_byte b = is_letter b || is_digit b

abbrev pub all_name_bytes : List ℕ → Bool
all_name_bytes [] = true
all_name_bytes (b ∷ bytes) = is_name_byte b && all_name_bytes bytes

-- a name: a letter, and then letters and digits
abbrev pub is_name : List ℕ → Bool
is_name [] = false
is_name (b ∷ bytes) = is_letter b && all_name_bytes bytes

abbrev pub IsName : List ℕ → Type 0
IsName bytes = IsTrue (is_name bytes)

-- a space and a tilde are printable, and the bytes just beyond them aren't
pub example_printable : IsPrintable 32 × IsPrintable 126 × (¬ IsPrintable 31) × (¬ IsPrintable 127)
example_printable = ((lit≤ tt, lit< tt), (lit≤ tt, lit< tt), λ h. le→leb 32 31 h.0, λ h. lt→ltb 127 127 h.1)

-- one letter is a text, and a line feed isn't
pub example_text : IsText (97 ∷ []) × ¬ IsText (10 ∷ [])
example_text = ((lit≤ tt, All-cons IsPrintable 97 [] (lit≤ tt, lit< tt) (All-nil IsPrintable)), λ h. le→leb 32 10 (All-head IsPrintable 10 [] h.1).0)

pub example_names : (is_name (codes "_a1") ≡ true) × (is_name (codes "1a") ≡ false) × (is_name (codes "a-b") ≡ false) × (is_name [] ≡ false)
example_names = (refl, refl, refl, refl)
