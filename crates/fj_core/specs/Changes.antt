-- A change of a cell with a number or a text, as a change of any cell, and back.
use Rattle.std.specs.Prelude.{◌≡◌, refl, pos, List, [], ◌∷◌, map}
use Rattle.std.specs.List.{flat_map}
use Rattle.cloud_base.specs.declared.update.CellChange.{CellChange}
use Rattle.cloud_base.specs.declared.update.CellChange.TheVariants.{Add, SetInt, SetText, SetIfEmpty}
use Rattle.fj_core.specs.declared.int_cell.IntChange.{IntChange}
use Rattle.fj_core.specs.declared.int_cell.IntChange.TheVariants as int
use Rattle.fj_core.specs.declared.text_cell.TextChange.{TextChange}
use Rattle.fj_core.specs.declared.text_cell.TextChange.TheVariants as text

-- a change of a number, as a change of any cell
abbrev pub of_int : IntChange → CellChange
of_int (int.Add n) = Add n
of_int (int.Set n) = SetInt n

-- a change of a text, as a change of any cell
abbrev pub of_text : TextChange → CellChange
of_text (text.Set t) = SetText t
of_text (text.IfEmpty t) = SetIfEmpty t

-- a change of any cell as one of a number, or none where it is one of a text
abbrev pub ints : CellChange → List IntChange
ints (Add n) = int.Add n ∷ []
ints (SetInt n) = int.Set n ∷ []
ints (SetText t) = []
ints (SetIfEmpty t) = []

-- a change of any cell as one of a text, or none where it is one of a number
abbrev pub texts : CellChange → List TextChange
texts (Add n) = []
texts (SetInt n) = []
texts (SetText t) = text.Set t ∷ []
texts (SetIfEmpty t) = text.IfEmpty t ∷ []

-- of changes of both types, those of the number stay in their order
pub example_ints : flat_map ints (Add (pos 2) ∷ SetText [] ∷ SetInt (pos 3) ∷ []) ≡ int.Add (pos 2) ∷ int.Set (pos 3) ∷ []
example_ints = refl

-- and those of the text in theirs
pub example_texts : flat_map texts (SetIfEmpty (97 ∷ []) ∷ Add (pos 2) ∷ SetText [] ∷ []) ≡ text.IfEmpty (97 ∷ []) ∷ text.Set [] ∷ []
example_texts = refl

-- a change goes to a change of any cell and comes back
pub example_back : flat_map ints (map of_int (int.Set (pos 3) ∷ int.Add (pos 2) ∷ [])) ≡ int.Set (pos 3) ∷ int.Add (pos 2) ∷ []
example_back = refl
