-- The texts of changes tell the changes.
use Rattle.std.proofs.Common.{◌≡◌, ℕ, List, ◌∷◌, ◌++◌, drop, codes, ℤ, FitsSigned, refl, sym, ap, ◌∙◌, arith, append_assoc}
use Rattle.std.specs.Fmt.{signed_decimal}
use Rattle.std.specs.Int.{w64}
use Rattle.cloud_base.specs.Shaped.{IsChange}
use Rattle.cloud_base.specs.declared.schema.CellType.{CellType}
use Rattle.cloud_base.specs.declared.update.CellChange.{CellChange}
use Rattle.step_text.specs.Values.{quoted}
use Rattle.step_text.specs.Cells.{change_text}
use Rattle.step_text.proofs.TellValues.{differ, integer_begins, integers_tell, quoted_tell}

-- a value and a closing parenthesis
numbers_tell : (y z : ℤ) (r s : List ℕ) → FitsSigned w64 y → FitsSigned w64 z → (signed_decimal y ++ codes ")") ++ r ≡ (signed_decimal z ++ codes ")") ++ s → (y ≡ z) × (r ≡ s)
numbers_tell y z r s fits other h =
    let both = integers_tell y z (41 ∷ r) (41 ∷ s) fits other refl refl (sym (append_assoc (signed_decimal y) (codes ")") r) ∙ h ∙ append_assoc (signed_decimal z) (codes ")") s) in
    (both.0, ap (drop 1) both.1)

texts_tell : (a b r s : List ℕ) → (quoted a ++ codes ")") ++ r ≡ (quoted b ++ codes ")") ++ s → (a ≡ b) × (r ≡ s)
texts_tell a b r s h =
    let both = quoted_tell a b (41 ∷ r) (41 ∷ s) (sym (append_assoc (quoted a) (codes ")") r) ∙ h ∙ append_assoc (quoted b) (codes ")") s) in
    (both.0, ap (drop 1) both.1)

number_no_text : (y : ℤ) (b r s : List ℕ) → FitsSigned w64 y → (signed_decimal y ++ codes ")") ++ r ≡ (quoted b ++ codes ")") ++ s → ⊥
number_no_text y b r s fits h = integer_begins y (41 ∷ r) _ 34 fits refl (λ e. omega arith) (sym (append_assoc (signed_decimal y) (codes ")") r) ∙ h)

-- a number that is added or set fits
number_added : (type : CellType) (n : ℤ) → IsChange type (CellChange.Add n) → FitsSigned w64 n
number_added CellType.Int n h = h
number_added CellType.Text n h = absurd h

number_set : (type : CellType) (n : ℤ) → IsChange type (CellChange.SetInt n) → FitsSigned w64 n
number_set CellType.Int n h = h
number_set CellType.Text n h = absurd h

pub changes_tell : (type other : CellType) (a b : CellChange) (r s : List ℕ) → IsChange type a → IsChange other b → change_text a ++ r ≡ change_text b ++ s → (a ≡ b) × (r ≡ s)
changes_tell type other (CellChange.Add y) (CellChange.Add z) r s is also h = let both = numbers_tell y z r s (number_added type y is) (number_added other z also) (ap (drop 5) h) in (ap CellChange.Add both.0, both.1)
changes_tell type other (CellChange.Add y) (CellChange.SetInt z) r s is also h = absurd (differ 1 _ _ h refl)
changes_tell type other (CellChange.Add y) (CellChange.SetText b) r s is also h = absurd (differ 1 _ _ h refl)
changes_tell type other (CellChange.Add y) (CellChange.SetIfEmpty b) r s is also h = absurd (differ 1 _ _ h refl)
changes_tell type other (CellChange.SetInt y) (CellChange.Add z) r s is also h = absurd (differ 1 _ _ h refl)
changes_tell type other (CellChange.SetInt y) (CellChange.SetInt z) r s is also h = let both = numbers_tell y z r s (number_set type y is) (number_set other z also) (ap (drop 5) h) in (ap CellChange.SetInt both.0, both.1)
changes_tell type other (CellChange.SetInt y) (CellChange.SetText b) r s is also h = absurd (number_no_text y b r s (number_set type y is) (ap (drop 5) h))
changes_tell type other (CellChange.SetInt y) (CellChange.SetIfEmpty b) r s is also h = absurd (differ 4 _ _ h refl)
changes_tell type other (CellChange.SetText a) (CellChange.Add z) r s is also h = absurd (differ 1 _ _ h refl)
changes_tell type other (CellChange.SetText a) (CellChange.SetInt z) r s is also h = absurd (number_no_text z a s r (number_set other z also) (sym (ap (drop 5) h)))
changes_tell type other (CellChange.SetText a) (CellChange.SetText b) r s is also h = let both = texts_tell a b r s (ap (drop 5) h) in (ap CellChange.SetText both.0, both.1)
changes_tell type other (CellChange.SetText a) (CellChange.SetIfEmpty b) r s is also h = absurd (differ 4 _ _ h refl)
changes_tell type other (CellChange.SetIfEmpty a) (CellChange.Add z) r s is also h = absurd (differ 1 _ _ h refl)
changes_tell type other (CellChange.SetIfEmpty a) (CellChange.SetInt z) r s is also h = absurd (differ 4 _ _ h refl)
changes_tell type other (CellChange.SetIfEmpty a) (CellChange.SetText b) r s is also h = absurd (differ 4 _ _ h refl)
changes_tell type other (CellChange.SetIfEmpty a) (CellChange.SetIfEmpty b) r s is also h = let both = texts_tell a b r s (ap (drop 12) h) in (ap CellChange.SetIfEmpty both.0, both.1)
