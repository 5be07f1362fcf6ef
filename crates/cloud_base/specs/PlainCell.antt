-- The plain value of a cell over a list of its changes.
use Rattle.std.specs.Prelude.{◌≡◌, refl, ℕ, ◌==◌, Bool, true, false, if◌then◌else◌, List, [], ◌∷◌, ℤ, pos, negsuc, ◌+ℤ◌}
use Rattle.std.specs.Int.{w64, int_wrap}
use Rattle.cloud_base.specs.declared.schema.CellType.{CellType}
use Rattle.cloud_base.specs.declared.schema.CellType.TheVariants.{Int as IntCell, Text as TextCell}
use Rattle.cloud_base.specs.declared.update.CellChange.{CellChange}
use Rattle.cloud_base.specs.declared.update.CellChange.TheVariants.{Add, SetInt, SetText, SetIfEmpty}
use Rattle.cloud_base.specs.declared.update.Answer.{Answer}
use Rattle.cloud_base.specs.declared.update.Answer.TheVariants.{Int, Text}

-- whether some change sets the integer
abbrev pub has_set : List CellChange → Bool
has_set [] = false
has_set (Add n ∷ changes) = has_set changes
has_set (SetInt n ∷ changes) = true
has_set (SetText t ∷ changes) = has_set changes
has_set (SetIfEmpty t ∷ changes) = has_set changes

-- what the last set of the integer sets it to, or 0 where there is none
abbrev pub last_set : List CellChange → ℤ
last_set [] = pos 0
last_set (Add n ∷ changes) = last_set changes
last_set (SetInt n ∷ changes) = if has_set changes then last_set changes else n
last_set (SetText t ∷ changes) = last_set changes
last_set (SetIfEmpty t ∷ changes) = last_set changes

-- the sum of the adds after the last set, or of all adds where there is none
abbrev pub adds_after : List CellChange → ℤ
adds_after [] = pos 0
adds_after (Add n ∷ changes) = if has_set changes then adds_after changes else n +ℤ adds_after changes
adds_after (SetInt n ∷ changes) = adds_after changes
adds_after (SetText t ∷ changes) = adds_after changes
adds_after (SetIfEmpty t ∷ changes) = adds_after changes

-- the value of an integer cell: the last set, or 0, plus all adds after it, modulo 2 ^ 64 as a signed number of 64 bits
unfoldable pub plain_int : List CellChange → ℤ
plain_int changes = int_wrap w64 (last_set changes +ℤ adds_after changes)

-- a set-if-empty
abbrev pub if_empty : List ℕ → List ℕ → List ℕ
if_empty [] text = text
if_empty (b ∷ now) text = b ∷ now

-- the text after the changes, from a text on: a set replaces it, and a set-if-empty replaces it where it is empty at that point
abbrev pub walk_text : List ℕ → List CellChange → List ℕ
walk_text now [] = now
walk_text now (Add n ∷ changes) = walk_text now changes
walk_text now (SetInt n ∷ changes) = walk_text now changes
walk_text now (SetText text ∷ changes) = walk_text text changes
walk_text now (SetIfEmpty text ∷ changes) = walk_text (if_empty now text) changes

-- the value of a text cell: the walk from the empty text
unfoldable pub plain_text : List CellChange → List ℕ
plain_text changes = walk_text [] changes

-- the value of a cell of a type
unfoldable pub plain_value : CellType → List CellChange → Answer
plain_value IntCell changes = Int (plain_int changes)
plain_value TextCell changes = Text (plain_text changes)

-- what the value of a cell is: a number or a text
pub data ValueKind : Type 0 where
  Number : ValueKind
  Words : ValueKind

abbrev pub value_kind : CellType → ValueKind
value_kind IntCell = Number
value_kind TextCell = Words

-- the default of a kind of value: 0 or the empty text
abbrev pub kind_default : ValueKind → Answer
kind_default Number = Int (pos 0)
kind_default Words = Text []

-- the default of a type of cell
abbrev pub default_of : CellType → Answer
default_of type = kind_default (value_kind type)

-- whether a value is the default of its kind
abbrev pub is_default : Answer → Bool
is_default (Int (pos n)) = n == 0
is_default (Text []) = true
is_default _ = false

-- three adds, of which the set in between leaves the last two
pub example_adds_after_a_set : plain_int (Add (pos 7) ∷ SetInt (pos 5) ∷ Add (pos 3) ∷ Add (negsuc 0) ∷ []) ≡ pos 7
unfolding plain_int int_wrap
example_adds_after_a_set = refl

pub example_adds_alone : plain_int (Add (pos 2) ∷ Add (pos 1) ∷ []) ≡ pos 3
unfolding plain_int int_wrap
example_adds_alone = refl

-- the greatest number plus 1 is the least, and the least minus 1 the greatest
pub example_wraps_up : plain_int (SetInt (pos 9223372036854775807) ∷ Add (pos 1) ∷ []) ≡ negsuc 9223372036854775807
unfolding plain_int int_wrap
example_wraps_up = refl

pub example_wraps_down : plain_int (SetInt (negsuc 9223372036854775807) ∷ Add (negsuc 0) ∷ []) ≡ pos 9223372036854775807
unfolding plain_int int_wrap
example_wraps_down = refl

-- of two that want a seat, the first has it, and a set to the empty text frees it
pub example_first_has_the_seat : plain_text (SetIfEmpty (97 ∷ []) ∷ SetIfEmpty (98 ∷ []) ∷ []) ≡ 97 ∷ []
unfolding plain_text
example_first_has_the_seat = refl

pub example_free_again : plain_text (SetIfEmpty (97 ∷ []) ∷ SetText [] ∷ SetIfEmpty [] ∷ SetIfEmpty (98 ∷ []) ∷ []) ≡ 98 ∷ []
unfolding plain_text
example_free_again = refl

-- no changes leave the default
pub example_defaults : (default_of IntCell ≡ Int (pos 0)) × (default_of TextCell ≡ Text []) × (plain_value IntCell [] ≡ Int (pos 0)) × (plain_value TextCell [] ≡ Text [])
unfolding plain_value plain_int plain_text int_wrap
example_defaults = (refl, refl, refl, refl)

-- 0 is a default, and neither -1 nor a text of one letter is
pub example_is_default : (is_default (Int (pos 0)) ≡ true) × (is_default (Int (negsuc 0)) ≡ false) × (is_default (Text []) ≡ true) × (is_default (Text (97 ∷ [])) ≡ false)
example_is_default = (refl, refl, refl, refl)
