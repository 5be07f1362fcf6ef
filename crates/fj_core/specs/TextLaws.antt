-- Laws of cells with a text.
use Rattle.std.proofs.Common.{◌≡◌, ℕ, Bool, true, false, List, [], ◌∷◌, ◌++◌, cond, refl, sym, ◌∙◌, ap, subst, length, ◌==◌, arith}
use Rattle.std.proofs.lemmas.Bool.Decides.{nat_tests}
use Rattle.std.specs.Prelude.{Option, Some, None, map}
use Rattle.cloud_base.specs.PlainCell.{if_empty, walk_text, plain_text}
use Rattle.fj_core.specs.Changes.{of_text}
use Rattle.fj_core.specs.declared.effect.Effect.{Effect}
use Rattle.fj_core.specs.declared.effect.Effect.TheVariants as effects
use Rattle.fj_core.specs.declared.text_cell.TextChange.{TextChange}
use Rattle.fj_core.specs.declared.text_cell.TextChange.TheVariants.{Set, IfEmpty}
use Rattle.fj_core.specs.declared.text_cell.TextCell.{TextCell}
use Rattle.fj_core.specs.TextCells.{text_plain, has_text_set, offer_or, first_offer, offer_effect, text_effect, IsTextEffect, text_applied, text_combined, done_effect, TextStands}

-- the text after the changes, from a text on
abbrev walk : List ℕ → List TextChange → List ℕ
walk text changes = walk_text text (map of_text changes)

-- ---- a list after a list
walk-append : (text : List ℕ) (xs ys : List TextChange) → walk text (xs ++ ys) ≡ walk (walk text xs) ys
walk-append text [] ys = refl
walk-append text (Set set ∷ xs) ys = walk-append set xs ys
walk-append text (IfEmpty offered ∷ xs) ys = walk-append (if_empty text offered) xs ys

has_text_set-append : (xs ys : List TextChange) → has_text_set (xs ++ ys) ≡ cond (has_text_set xs) true (has_text_set ys)
has_text_set-append [] ys = refl
has_text_set-append (Set set ∷ xs) ys = refl
has_text_set-append (IfEmpty offered ∷ xs) ys = has_text_set-append xs ys

-- the first of two offers
sooner : Option (List ℕ) → Option (List ℕ) → Option (List ℕ)
sooner None second = second
sooner (Some text) second = Some text

sooner_offer : (offered : List ℕ) (a b c : Option (List ℕ)) → c ≡ sooner a b → offer_or offered c ≡ sooner (offer_or offered a) b
unfolding sooner
sooner_offer [] a b c e = e
sooner_offer (x ∷ text) a b c e = refl

first_offer-append : (xs ys : List TextChange) → first_offer (xs ++ ys) ≡ sooner (first_offer xs) (first_offer ys)
unfolding sooner
first_offer-append [] ys = refl
first_offer-append (Set set ∷ xs) ys = first_offer-append xs ys
first_offer-append (IfEmpty offered ∷ xs) ys = sooner_offer offered (first_offer xs) (first_offer ys) (first_offer (xs ++ ys)) (first_offer-append xs ys)

-- ---- the value of a list after a list
-- a set forgets what was there
walk_forgets : (text other : List ℕ) (changes : List TextChange) → has_text_set changes ≡ true → walk text changes ≡ walk other changes
walk_forgets text other [] e = cc
walk_forgets text other (Set set ∷ changes) e = refl
walk_forgets text other (IfEmpty offered ∷ changes) e = walk_forgets (if_empty text offered) (if_empty other offered) changes e

-- without a set a text that isn't empty stays
walk_keeps : (b : ℕ) (text : List ℕ) (changes : List TextChange) → has_text_set changes ≡ false → walk (b ∷ text) changes ≡ b ∷ text
walk_keeps b text [] e = refl
walk_keeps b text (Set set ∷ changes) e = cc
walk_keeps b text (IfEmpty offered ∷ changes) e = walk_keeps b text changes e

empty_offer : (text : List ℕ) → if_empty text [] ≡ text
empty_offer [] = refl
empty_offer (b ∷ text) = refl

-- without a set the first offer counts, where the text is empty
walk_offers : (text : List ℕ) (changes : List TextChange) → has_text_set changes ≡ false → walk text changes ≡ text_applied (offer_effect (first_offer changes)) text
walk_offers text [] e = refl
walk_offers text (Set set ∷ changes) e = cc
walk_offers text (IfEmpty [] ∷ changes) e =
    ap (λ t. walk t changes) (empty_offer text) ∙ walk_offers text changes e
walk_offers [] (IfEmpty (b ∷ offered) ∷ changes) e = walk_keeps b offered changes e
walk_offers (c ∷ text) (IfEmpty (b ∷ offered) ∷ changes) e = walk_keeps c text changes e

effect_with : Bool → List ℕ → Option (List ℕ) → Option Effect
effect_with b set offer = cond b (Some (effects.SetText set)) (offer_effect offer)

walk_applied : (b : Bool) (text : List ℕ) (changes : List TextChange) → has_text_set changes ≡ b → walk text changes ≡ text_applied (effect_with b (walk [] changes) (first_offer changes)) text
unfolding effect_with
walk_applied true text changes e = walk_forgets text [] changes e
walk_applied false text changes e = walk_offers text changes e

pub text_plain-append : (base delta : List TextChange) → text_plain (base ++ delta) ≡ text_applied (text_effect delta) (text_plain base)
unfolding effect_with plain_text
text_plain-append base delta = walk-append [] base delta ∙ walk_applied (has_text_set delta) (walk [] base) delta refl

-- ---- the effect of a list after a list
combined_set : (set : List ℕ) (offer : Option (List ℕ)) → text_combined (Some (effects.SetText set)) (offer_effect offer) ≡ Some (effects.SetText (text_applied (offer_effect offer) set))
combined_set set None = refl
combined_set set (Some text) = refl

combined_offers : (a b : Option (List ℕ)) → text_combined (offer_effect a) (offer_effect b) ≡ offer_effect (sooner a b)
unfolding sooner
combined_offers None None = refl
combined_offers (Some text) None = refl
combined_offers None (Some other) = refl
combined_offers (Some text) (Some other) = refl

effect_by_parts : (b c : Bool) (xs ys : List TextChange) → has_text_set xs ≡ b → has_text_set ys ≡ c
    → effect_with (cond b true c) (walk (walk [] xs) ys) (sooner (first_offer xs) (first_offer ys))
    ≡ text_combined (effect_with b (walk [] xs) (first_offer xs)) (effect_with c (walk [] ys) (first_offer ys))
unfolding effect_with
effect_by_parts true true xs ys e f = ap (λ t. Some (effects.SetText t)) (walk_forgets (walk [] xs) [] ys f)
effect_by_parts false true xs ys e f = ap (λ t. Some (effects.SetText t)) (walk_forgets (walk [] xs) [] ys f)
effect_by_parts true false xs ys e f =
    ap (λ t. Some (effects.SetText t)) (walk_offers (walk [] xs) ys f) ∙ sym (combined_set (walk [] xs) (first_offer ys))
effect_by_parts false false xs ys e f = sym (combined_offers (first_offer xs) (first_offer ys))

pub text_effect-append : (delta more : List TextChange) → text_effect (delta ++ more) ≡ text_combined (text_effect delta) (text_effect more)
unfolding effect_with plain_text
text_effect-append delta more =
    ap (λ b. effect_with b (walk [] (delta ++ more)) (first_offer (delta ++ more))) (has_text_set-append delta more)
    ∙ ap (λ t. effect_with (cond (has_text_set delta) true (has_text_set more)) t (first_offer (delta ++ more))) (walk-append [] delta more)
    ∙ ap (λ o. effect_with (cond (has_text_set delta) true (has_text_set more)) (walk (walk [] delta) more) o) (first_offer-append delta more)
    ∙ effect_by_parts (has_text_set delta) (has_text_set more) delta more refl refl

pub text_effect-empty : text_effect [] ≡ None
text_effect-empty = refl

pub text_stands_by_effect : (state : TextCell) (base delta base' delta' : List TextChange)
    → text_plain base ≡ text_plain base' → text_effect delta ≡ text_effect delta' → TextStands state base delta → TextStands state base' delta'
text_stands_by_effect state base delta base' delta' e f h = (h.0 ∙ e, h.1 ∙ f)

-- an effect, if it is one, is of this type
NoneOrOwn : Option Effect → Type 0
NoneOrOwn None = Unit {0}
NoneOrOwn (Some effect) = IsTextEffect effect

own_offer : (offer : Option (List ℕ)) → NoneOrOwn (offer_effect offer)
unfolding NoneOrOwn
own_offer None = tt
own_offer (Some text) = tt

own_with : (b : Bool) (set : List ℕ) (offer : Option (List ℕ)) → NoneOrOwn (effect_with b set offer)
unfolding effect_with NoneOrOwn
own_with true set offer = tt
own_with false set offer = own_offer offer

pub text_effect_is_own : (delta : List TextChange) (effect : Effect) → text_effect delta ≡ Some effect → IsTextEffect effect
unfolding effect_with NoneOrOwn
text_effect_is_own delta effect e = subst NoneOrOwn e (own_with (has_text_set delta) (text_plain delta) (first_offer delta))

-- ---- lists that do the same have the same effect
-- a first offer isn't empty
IsOffer : Option (List ℕ) → Type 0
IsOffer None = Unit {0}
IsOffer (Some text) = text ≡ [] → ⊥

offer_or_is : (offered : List ℕ) (o : Option (List ℕ)) → IsOffer o → IsOffer (offer_or offered o)
unfolding IsOffer
offer_or_is [] o h = h
offer_or_is (b ∷ text) o h = λ (e : b ∷ text ≡ []). cc

first_offer_is : (changes : List TextChange) → IsOffer (first_offer changes)
unfolding IsOffer
first_offer_is [] = tt
first_offer_is (Set set ∷ changes) = first_offer_is changes
first_offer_is (IfEmpty offered ∷ changes) = offer_or_is offered (first_offer changes) (first_offer_is changes)

same_offers : (a b : Option (List ℕ)) → IsOffer a → IsOffer b → text_applied (offer_effect a) [] ≡ text_applied (offer_effect b) [] → offer_effect a ≡ offer_effect b
unfolding IsOffer
same_offers None None h k e = refl
same_offers None (Some text) h k e = absurd (k (sym e))
same_offers (Some text) None h k e = absurd (h e)
same_offers (Some text) (Some other) h k e = ap (λ t. Some (effects.IfEmpty t)) e

-- an offer leaves a text that isn't empty
offer_leaves : (b : ℕ) (text : List ℕ) (offer : Option (List ℕ)) → text_applied (offer_effect offer) (b ∷ text) ≡ b ∷ text
offer_leaves b text None = refl
offer_leaves b text (Some offered) = refl

texts_apart : ◌≡◌ {A = List ℕ} (97 ∷ []) (97 ∷ 97 ∷ []) → ⊥
texts_apart e = cc

set_apart : (set : List ℕ) (offer : Option (List ℕ)) → set ≡ text_applied (offer_effect offer) (97 ∷ []) → set ≡ text_applied (offer_effect offer) (97 ∷ 97 ∷ []) → ⊥
set_apart set offer at_one at_two = texts_apart (sym (offer_leaves 97 [] offer) ∙ sym at_one ∙ at_two ∙ offer_leaves 97 (97 ∷ []) offer)

same_with : (b c : Bool) (set set' : List ℕ) (offer offer' : Option (List ℕ)) → IsOffer offer → IsOffer offer'
    → ((text : List ℕ) → text_applied (effect_with b set offer) text ≡ text_applied (effect_with c set' offer') text)
    → effect_with b set offer ≡ effect_with c set' offer'
unfolding effect_with
same_with true true set set' offer offer' h k same = ap (λ t. Some (effects.SetText t)) (same [])
same_with true false set set' offer offer' h k same = absurd (set_apart set offer' (same (97 ∷ [])) (same (97 ∷ 97 ∷ [])))
same_with false true set set' offer offer' h k same = absurd (set_apart set' offer (sym (same (97 ∷ []))) (sym (same (97 ∷ 97 ∷ []))))
same_with false false set set' offer offer' h k same = same_offers offer offer' h k (same [])

pub text_canonical : (delta delta' : List TextChange)
    → ((base : List TextChange) → text_plain (base ++ delta) ≡ text_plain (base ++ delta')) → text_effect delta ≡ text_effect delta'
unfolding effect_with plain_text
text_canonical delta delta' same =
    same_with (has_text_set delta) (has_text_set delta') (text_plain delta) (text_plain delta') (first_offer delta) (first_offer delta') (first_offer_is delta) (first_offer_is delta')
    (λ text. sym (text_plain-append (Set text ∷ []) delta) ∙ same (Set text ∷ []) ∙ text_plain-append (Set text ∷ []) delta')

-- ---- what a state stands for, call by call
pub TextStands-ask : (cell : TextCell) (base delta : List TextChange) → TextStands cell base delta → text_applied (done_effect cell.done) cell.base ≡ text_plain (base ++ delta)
TextStands-ask cell base delta h =
    ap (λ e. text_applied e cell.base) h.1 ∙ ap (λ t. text_applied (text_effect delta) t) h.0 ∙ sym (text_plain-append base delta)

pub if_empty-filled : (text offered : List ℕ) → (text ≡ [] → ⊥) → if_empty text offered ≡ text
if_empty-filled [] offered ne = absurd (ne refl)
if_empty-filled (b ∷ text) offered ne = refl

pub empty_by_length : (text : List ℕ) → true ≡ (length text == 0) → text ≡ []
empty_by_length [] e = refl
empty_by_length (b ∷ text) e = absurd (grind (arith, nat_tests))

pub filled_by_length : (text : List ℕ) → false ≡ (length text == 0) → text ≡ [] → ⊥
filled_by_length [] e is = cc
filled_by_length (b ∷ text) e is = cc

-- changes more, by their effect
pub TextStands-more : (cell new : TextCell) (base delta more : List TextChange) (effect : Option Effect) → effect ≡ text_effect more
    → new.base ≡ cell.base → done_effect new.done ≡ text_combined (done_effect cell.done) effect → TextStands cell base delta → TextStands new base (delta ++ more)
TextStands-more cell new base delta more effect is e f h = (
  e ∙ h.0,
  f ∙ ap (λ x. text_combined x effect) h.1 ∙ ap (λ x. text_combined (text_effect delta) x) is ∙ sym (text_effect-append delta more),
)

pub effect_of_offer : (text : List ℕ) → (text ≡ [] → ⊥) → text_effect (IfEmpty text ∷ []) ≡ Some (effects.IfEmpty text)
effect_of_offer [] ne = absurd (ne refl)
effect_of_offer (b ∷ text) ne = refl

pub effect_of_set : (text : List ℕ) → text_effect (Set text ∷ []) ≡ Some (effects.SetText text)
unfolding plain_text
effect_of_set text = refl

pub effect_of_no_offer : (text : List ℕ) → text ≡ [] → text_effect (IfEmpty text ∷ []) ≡ None
effect_of_no_offer [] e = refl
effect_of_no_offer (b ∷ text) e = cc
