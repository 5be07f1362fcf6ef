-- Readers: functions of what is left of the bytes and of its place. The first fault ends the reading.
use Rattle.std.specs.Prelude.{◌≡◌, ⊤, refl, ℕ, ◌+◌, ◌<◌, slice_index, Bool, true, false, ◌==◌, nat_lt, if◌then◌else◌, List, [], ◌∷◌, length, take, drop, Option, Some, None, Result, Ok, Err}
use Rattle.std.specs.Int.{Width, w16, byte_len, from_be_bytes}
use Rattle.packet_bytes.specs.declared.fault.WireFault.{WireFault}
use Rattle.packet_bytes.specs.declared.fault.WireFault.TheVariants.{Short, BadTag}
use Rattle.packet_bytes.specs.declared.fault.ReadFault.{ReadFault}
use Rattle.packet_bytes.specs.declared.fault.ReadFault.TheVariants.{Wire, Memory}
use Rattle.packet_bytes.specs.declared.cursor.Cursor.{Cursor}

-- the bytes that are left, and the place of the first of them in the whole
pub record Left : Type 0 where
  pub at : ℕ
  pub bytes : List ℕ

-- the length of the whole
abbrev pub end_of : Left → ℕ
end_of left = left.at + length left.bytes

-- what is left behind n bytes
abbrev pub after : ℕ → Left → Left
after n left = record { at = left.at + n; bytes = drop n left.bytes }

-- a value that was read, and the place of its first byte
pub record Field (A : Type 0) : Type 0 where
  pub at : ℕ
  pub value : A

-- a value and what is left behind it, or the first fault
abbrev pub Read : Type 0 → Type 0
Read A = Result (A × Left) WireFault

abbrev pub Reader : Type 0 → Type 0
Reader A = Left → Read A

-- what comes of a value that was read at a place
abbrev pub then_read : {A B : Type 0} → ℕ → Read A → (Field A → Reader B) → Read B
then_read at (Ok x) next = next (record { at = at; value = x.0 }) x.1
then_read at (Err fault) next = Err fault

-- one reader, and then the next, which knows the field that was read
infixl 10 ◌>>=◌
abbrev pub ◌>>=◌ : {A B : Type 0} → Reader A → (Field A → Reader B) → Left → Read B
(reader >>= next) left = then_read left.at (reader left) next

-- no byte is read
abbrev pub give : {A : Type 0} → A → Reader A
give x left = Ok (x, left)

-- a fault where the test fails
abbrev pub check : Bool → WireFault → Reader (Unit {0})
check b fault left = if b then Ok (tt, left) else Err fault

-- a fault where there is nothing
abbrev pub known : {A : Type 0} → Option A → WireFault → Reader A
known None fault left = Err fault
known (Some x) fault left = Ok (x, left)

-- the first byte
abbrev pub next_byte : ℕ → List ℕ → Read ℕ
next_byte at [] = Err (Short at)
next_byte at (b ∷ bytes) = Ok (b, record { at = at + 1; bytes = bytes })

unfoldable pub byte_at : Reader ℕ
byte_at left = next_byte left.at left.bytes

-- a number of so many bytes, the highest first. It is short where a byte of it is missing
unfoldable pub number_at : Width → Reader ℕ
number_at w left =
    if nat_lt (length left.bytes) (byte_len w)
    then Err (Short (end_of left))
    else Ok (from_be_bytes w (take (byte_len w) left.bytes), after (byte_len w) left)

-- what a cursor has left
abbrev pub left_of : Cursor → Left
left_of cursor = record { at = cursor.at; bytes = cursor.bytes.now }

-- what a function returned is what the reader answers
abbrev pub Gives : {A : Type 0} → Result (A × Cursor) WireFault → Read A → Type 0
Gives (Ok x) read = read ≡ Ok (x.0, left_of x.1)
Gives (Err fault) read = read ≡ Err fault

-- what a function returned is what the reader answers, unless memory was wanting
abbrev pub GivesOrStarves : {A : Type 0} → Result (A × Cursor) ReadFault → Read A → Type 0
GivesOrStarves (Ok x) read = read ≡ Ok (x.0, left_of x.1)
GivesOrStarves (Err (Wire fault)) read = read ≡ Err fault
GivesOrStarves (Err Memory) read = ⊤

-- each is a byte
abbrev pub IsBytes : List ℕ → Type 0
IsBytes bytes = (i : ℕ) → slice_index bytes i < 256

-- the two numbers of three bytes: the second is cut
pub example_cut : (number_at w16 >>= λ first. number_at w16 >>= λ second. give (second.value)) (record { at = 4; bytes = 1 ∷ 2 ∷ 3 ∷ [] }) ≡ Err (Short 7)
unfolding number_at
example_cut = refl

-- a test of the first byte, which is at place 4
pub example_place : (byte_at >>= λ tag. check (tag.value == 2) (BadTag tag.at) >>= λ right. give tag.value) (record { at = 4; bytes = 1 ∷ [] }) ≡ Err (BadTag 4)
unfolding byte_at
example_place = refl
