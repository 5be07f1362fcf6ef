-- Cells with a text: their plain value, and what a state stands for.
use Rattle.std.specs.Prelude.{◌≡◌, ℕ, Bool, true, false, List, [], ◌∷◌, Option, Some, None, if◌then◌else◌, map, refl}
use Rattle.cloud_base.specs.PlainCell.{if_empty, plain_text}
use Rattle.fj_core.specs.Changes.{of_text}
use Rattle.fj_core.specs.declared.effect.Effect.{Effect}
use Rattle.fj_core.specs.declared.effect.Effect.TheVariants as effects
use Rattle.fj_core.specs.declared.text_cell.TextChange.{TextChange}
use Rattle.fj_core.specs.declared.text_cell.TextChange.TheVariants.{Set, IfEmpty}
use Rattle.fj_core.specs.declared.text_cell.Done.{Done}
use Rattle.fj_core.specs.declared.text_cell.Done.TheVariants as done
use Rattle.fj_core.specs.declared.text_cell.TextCell.{TextCell}

-- the value of a cell with a text, over changes of texts: a set replaces the text, and a set-if-empty replaces it where it
-- is empty at that point
abbrev pub text_plain : List TextChange → List ℕ
text_plain changes = plain_text (map of_text changes)

-- whether some change sets the text
abbrev pub has_text_set : List TextChange → Bool
has_text_set [] = false
has_text_set (Set set ∷ changes) = true
has_text_set (IfEmpty offered ∷ changes) = has_text_set changes

-- an offer of a text, which is nothing at the empty text, or else another
abbrev pub offer_or : List ℕ → Option (List ℕ) → Option (List ℕ)
offer_or [] other = other
offer_or (b ∷ text) other = Some (b ∷ text)

-- the first text of a set-if-empty that isn't empty
abbrev pub first_offer : List TextChange → Option (List ℕ)
first_offer [] = None
first_offer (Set set ∷ changes) = first_offer changes
first_offer (IfEmpty offered ∷ changes) = offer_or offered (first_offer changes)

abbrev pub offer_effect : Option (List ℕ) → Option Effect
offer_effect None = None
offer_effect (Some text) = Some (effects.IfEmpty text)

-- a set to the plain value where something was set, else the first offer
abbrev pub text_effect : List TextChange → Option Effect
text_effect changes = if has_text_set changes then Some (effects.SetText (text_plain changes)) else offer_effect (first_offer changes)

-- the effects of cells with a text
abbrev pub IsTextEffect : Effect → Type 0
IsTextEffect (effects.Add n) = ⊥
IsTextEffect (effects.SetInt n) = ⊥
IsTextEffect (effects.SetText text) = Unit {0}
IsTextEffect (effects.IfEmpty text) = Unit {0}

-- what an effect makes of a text: a set replaces it, a set-if-empty replaces it where it is empty, and no effect leaves it
abbrev pub text_applied : Option Effect → List ℕ → List ℕ
text_applied (Some (effects.SetText set)) text = set
text_applied (Some (effects.IfEmpty offered)) text = if_empty text offered
text_applied _ text = text

-- How effects join: the one effect that does what the first does and then the second, whatever text they meet. A set makes
-- all that came before it vain. A set-if-empty after a set counts only where that set left the text empty, and of two
-- sets-if-empty the first alone counts, since it leaves no empty text to the second
abbrev pub text_combined : Option Effect → Option Effect → Option Effect
text_combined first None = first
text_combined first (Some (effects.SetText set)) = Some (effects.SetText set)
text_combined first (Some (effects.Add n)) = first
text_combined first (Some (effects.SetInt n)) = first
text_combined None (Some (effects.IfEmpty offered)) = Some (effects.IfEmpty offered)
text_combined (Some (effects.SetText set)) (Some (effects.IfEmpty offered)) = Some (effects.SetText (if_empty set offered))
text_combined (Some first) (Some (effects.IfEmpty offered)) = Some first

-- what was done, as an effect
abbrev pub done_effect : Done → Option Effect
done_effect done.Keep = None
done_effect (done.IfEmpty text) = Some (effects.IfEmpty text)
done_effect (done.Set text) = Some (effects.SetText text)

-- a state stands for what was done since after what was done before: its base is the plain value before, and what it
-- says was done is the effect since
abbrev pub TextStands : TextCell → List TextChange → List TextChange → Type 0
TextStands cell base delta = (cell.base ≡ text_plain base) × (done_effect cell.done ≡ text_effect delta)

-- a set-if-empty counts only where the text is empty
pub example_first_wins : text_plain (IfEmpty (98 ∷ []) ∷ IfEmpty (97 ∷ []) ∷ []) ≡ 98 ∷ []
unfolding plain_text
example_first_wins = refl

-- a set to the empty text lets the next offer in
pub example_set_empty : text_plain (Set (97 ∷ []) ∷ Set [] ∷ IfEmpty (120 ∷ []) ∷ []) ≡ 120 ∷ []
unfolding plain_text
example_set_empty = refl

-- an offer of the empty text does nothing
pub example_empty_offer : text_effect (IfEmpty [] ∷ IfEmpty (120 ∷ []) ∷ []) ≡ Some (effects.IfEmpty (120 ∷ []))
example_empty_offer = refl

-- an offer after a set to the empty text is let in, and of two offers the first counts
pub example_joined : (text_combined (Some (effects.SetText [])) (Some (effects.IfEmpty (120 ∷ []))) ≡ Some (effects.SetText (120 ∷ []))) × (text_combined (Some (effects.IfEmpty (98 ∷ []))) (Some (effects.IfEmpty (120 ∷ []))) ≡ Some (effects.IfEmpty (98 ∷ [])))
example_joined = (refl, refl)
