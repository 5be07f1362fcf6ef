-- Cells with a number, modulo 2^64: their plain value, and what a state stands for.
use Rattle.std.specs.Prelude.{◌≡◌, zero, suc, ℤ, pos, negsuc, ◌+ℤ◌, Bool, true, false, List, [], ◌∷◌, Option, Some, None, if◌then◌else◌, map, refl}
use Rattle.std.specs.Int.{w64, int_wrap}
use Rattle.cloud_base.specs.PlainCell.{has_set, adds_after, plain_int}
use Rattle.fj_core.specs.Changes.{of_int}
use Rattle.fj_core.specs.declared.effect.Effect.{Effect}
use Rattle.fj_core.specs.declared.effect.Effect.TheVariants as effects
use Rattle.fj_core.specs.declared.int_cell.IntChange.{IntChange}
use Rattle.fj_core.specs.declared.int_cell.IntChange.TheVariants.{Add, Set}
use Rattle.fj_core.specs.declared.int_cell.IntCell.{IntCell}

-- the value of a cell with a number, over changes of numbers: the last set, or 0, plus all adds after it
abbrev pub int_plain : List IntChange → ℤ
int_plain changes = plain_int (map of_int changes)

-- whether some change sets the number
abbrev pub has_int_set : List IntChange → Bool
has_int_set changes = has_set (map of_int changes)

-- the sum of the adds after the last set, or of all adds where there is none
abbrev pub added : List IntChange → ℤ
added changes = adds_after (map of_int changes)

-- an add of a number, which is nothing at 0
abbrev pub add_effect : ℤ → Option Effect
add_effect (pos zero) = None
add_effect (pos (suc n)) = Some (effects.Add (pos (suc n)))
add_effect (negsuc n) = Some (effects.Add (negsuc n))

-- a set to the plain value where something was set, else an add of all that was added
abbrev pub int_effect : List IntChange → Option Effect
int_effect changes = if has_int_set changes then Some (effects.SetInt (int_plain changes)) else add_effect (int_wrap w64 (added changes))

-- the effects of cells with a number
abbrev pub IsIntEffect : Effect → Type 0
IsIntEffect (effects.Add n) = Unit {0}
IsIntEffect (effects.SetInt n) = Unit {0}
IsIntEffect (effects.SetText text) = ⊥
IsIntEffect (effects.IfEmpty text) = ⊥

-- what an effect makes of a number: an add adds to it, a set replaces it, and no effect leaves it
abbrev pub int_applied : Option Effect → ℤ → ℤ
int_applied (Some (effects.Add n)) value = int_wrap w64 (value +ℤ n)
int_applied (Some (effects.SetInt n)) value = n
int_applied _ value = value

-- How effects join: the one effect that does what the first does and then the second, whatever number they meet. A set
-- makes all that came before it vain. An add after a set changes the number that is set, and two adds are one add of
-- their sum, which is nothing where the sum is 0
abbrev pub int_combined : Option Effect → Option Effect → Option Effect
int_combined first None = first
int_combined first (Some (effects.SetInt n)) = Some (effects.SetInt n)
int_combined first (Some (effects.SetText text)) = first
int_combined first (Some (effects.IfEmpty text)) = first
int_combined None (Some (effects.Add n)) = Some (effects.Add n)
int_combined (Some (effects.Add m)) (Some (effects.Add n)) = add_effect (int_wrap w64 (m +ℤ n))
int_combined (Some (effects.SetInt m)) (Some (effects.Add n)) = Some (effects.SetInt (int_wrap w64 (m +ℤ n)))
int_combined (Some first) (Some (effects.Add n)) = Some first

-- where the cell was set, something was set since, and the base and the difference make the plain value of what was done since.
-- Else nothing was set since, the base is the plain value before, and the difference is the sum of what was added since
abbrev pub StandsWith : Bool → ℤ → ℤ → List IntChange → List IntChange → Type 0
StandsWith true set difference base delta = (has_int_set delta ≡ true) × (int_wrap w64 (set +ℤ difference) ≡ int_plain delta)
StandsWith false start difference base delta = (has_int_set delta ≡ false) × (start ≡ int_plain base) × (difference ≡ int_wrap w64 (added delta))

-- a state stands for what was done since after what was done before
abbrev pub IntStands : IntCell → List IntChange → List IntChange → Type 0
IntStands cell base delta = StandsWith cell.was_set cell.base cell.difference base delta

-- a set forgets what was added before it
pub example_plain : int_plain (Add (pos 4) ∷ Set (pos 7) ∷ Add (negsuc 1) ∷ []) ≡ pos 5
unfolding plain_int int_wrap
example_plain = refl

-- one more than the greatest number is the least
pub example_wraps : int_plain (Set (pos 9223372036854775807) ∷ Add (pos 1) ∷ []) ≡ negsuc 9223372036854775807
unfolding plain_int int_wrap
example_wraps = refl

-- adds that cancel are nothing, and a set is something, also to the value that was there
pub example_effects : (int_effect (Add (pos 2) ∷ Add (negsuc 1) ∷ []) ≡ None) × (int_effect (Set (pos 0) ∷ []) ≡ Some (effects.SetInt (pos 0)))
unfolding plain_int int_wrap
example_effects = (refl, refl)

-- a state that began at 5 and added 3 since stands for an add of 3 after a set to 5
pub example_stands : StandsWith false (pos 5) (pos 3) (Set (pos 5) ∷ []) (Add (pos 1) ∷ Add (pos 2) ∷ [])
unfolding plain_int int_wrap
example_stands = (refl, refl, refl)

-- an add after a set makes another set, and adds that cancel join to nothing
pub example_joined : (int_combined (Some (effects.SetInt (pos 7))) (Some (effects.Add (pos 2))) ≡ Some (effects.SetInt (pos 9))) × (int_combined (Some (effects.Add (pos 2))) (Some (effects.Add (negsuc 1))) ≡ None)
unfolding int_wrap
example_joined = (refl, refl)
