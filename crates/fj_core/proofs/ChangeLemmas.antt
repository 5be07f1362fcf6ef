-- Changes of a number and of a text among the changes of any cell.
use Rattle.std.proofs.Common.{◌≡◌, refl, sym, ◌∙◌, ap, ℕ, ℤ, ◌+ℤ◌, cond, List, [], ◌∷◌, ◌++◌}
use Rattle.std.specs.Prelude.{map}
use Rattle.std.specs.List.{flat_map}
use Rattle.std.specs.Int.{w64, int_wrap}
use Rattle.cloud_base.specs.PlainCell.{has_set, last_set, adds_after, plain_int, if_empty, walk_text, plain_text}
use Rattle.cloud_base.specs.declared.update.CellChange.{CellChange}
use Rattle.cloud_base.specs.declared.update.CellChange.TheVariants.{Add, SetInt, SetText, SetIfEmpty}
use Rattle.fj_core.specs.declared.int_cell.IntChange.{IntChange}
use Rattle.fj_core.specs.declared.int_cell.IntChange.TheVariants as int
use Rattle.fj_core.specs.declared.text_cell.TextChange.{TextChange}
use Rattle.fj_core.specs.declared.text_cell.TextChange.TheVariants as text
use Rattle.fj_core.specs.Changes.{of_int, of_text, ints, texts}
use Rattle.fj_core.specs.IntCells.{int_plain, has_int_set, added}
use Rattle.fj_core.specs.TextCells.{text_plain}

-- ---- numbers
has_set-ints : (changes : List CellChange) → has_set changes ≡ has_int_set (flat_map ints changes)
has_set-ints [] = refl
has_set-ints (Add n ∷ changes) = has_set-ints changes
has_set-ints (SetInt n ∷ changes) = refl
has_set-ints (SetText t ∷ changes) = has_set-ints changes
has_set-ints (SetIfEmpty t ∷ changes) = has_set-ints changes

last_set-ints : (changes : List CellChange) → last_set changes ≡ last_set (map of_int (flat_map ints changes))
last_set-ints [] = refl
last_set-ints (Add n ∷ changes) = last_set-ints changes
last_set-ints (SetInt n ∷ changes) = λ i. cond (has_set-ints changes i) (last_set-ints changes i) n
last_set-ints (SetText t ∷ changes) = last_set-ints changes
last_set-ints (SetIfEmpty t ∷ changes) = last_set-ints changes

added-ints : (changes : List CellChange) → adds_after changes ≡ added (flat_map ints changes)
added-ints [] = refl
added-ints (Add n ∷ changes) = λ i. cond (has_set-ints changes i) (added-ints changes i) (n +ℤ added-ints changes i)
added-ints (SetInt n ∷ changes) = added-ints changes
added-ints (SetText t ∷ changes) = added-ints changes
added-ints (SetIfEmpty t ∷ changes) = added-ints changes

-- the changes of the number alone make its value
pub plain_int-ints : (changes : List CellChange) → plain_int changes ≡ int_plain (flat_map ints changes)
unfolding plain_int
plain_int-ints changes = λ i. int_wrap w64 (last_set-ints changes i +ℤ added-ints changes i)

-- changes of a number come back as they were
pub ints_back : (changes : List IntChange) → flat_map ints (map of_int changes) ≡ changes
ints_back [] = refl
ints_back (int.Add n ∷ changes) = ap (λ l. int.Add n ∷ l) (ints_back changes)
ints_back (int.Set n ∷ changes) = ap (λ l. int.Set n ∷ l) (ints_back changes)

-- ---- texts
walk_text-texts : (now : List ℕ) (changes : List CellChange) → walk_text now changes ≡ walk_text now (map of_text (flat_map texts changes))
walk_text-texts now [] = refl
walk_text-texts now (Add n ∷ changes) = walk_text-texts now changes
walk_text-texts now (SetInt n ∷ changes) = walk_text-texts now changes
walk_text-texts now (SetText t ∷ changes) = walk_text-texts t changes
walk_text-texts now (SetIfEmpty t ∷ changes) = walk_text-texts (if_empty now t) changes

-- the changes of the text alone make its value
pub plain_text-texts : (changes : List CellChange) → plain_text changes ≡ text_plain (flat_map texts changes)
unfolding plain_text
plain_text-texts changes = walk_text-texts [] changes

-- changes of a text come back as they were
pub texts_back : (changes : List TextChange) → flat_map texts (map of_text changes) ≡ changes
texts_back [] = refl
texts_back (text.Set t ∷ changes) = ap (λ l. text.Set t ∷ l) (texts_back changes)
texts_back (text.IfEmpty t ∷ changes) = ap (λ l. text.IfEmpty t ∷ l) (texts_back changes)
