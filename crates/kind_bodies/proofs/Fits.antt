-- Which parts of an expression fit.
use Rattle.std.proofs.Common.{◌≡◌, ℕ, List, [], ◌∷◌, ◌++◌, map, sym, ap, ◌∙◌, subst, ◌<◌, length, get_or, drop, drop-cons}
use Rattle.std.specs.List.{AllByRecursion}
use Rattle.cloud_base.specs.Values.{IsText}
use Rattle.source_tokens.specs.declared.token.Token.{Token}
use Rattle.source_tokens.specs.declared.token.Token.TheVariants.{Name}
use Rattle.source_tree.specs.Limits.{IsNumber}
use Rattle.source_tree.specs.Words.{words, expression_words, joined}
use Rattle.source_tree.specs.declared.expression.Expression.{Expression as Written}
use Rattle.source_tree.specs.declared.expression.Expression.TheFolds.{fold-roll-Expression}
use Rattle.source_tree.specs.declared.expression.Expression.TheOpen.{Expression-F}
use Rattle.source_tree.specs.declared.expression.Expression.TheVariants as e
use Rattle.source_tree.specs.declared.expression.Operator.{Operator}
use Rattle.source_tree.specs.declared.expression.Place.{Place}
use Rattle.source_tree.specs.declared.expression.Place.TheVariants as place
use Rattle.kind_rules.specs.Words.{IsFitWord}
use Rattle.kind_bodies.specs.Found.{IsFit, AreFit, FitPlace}

pub parts : {A : Type 0} (P : A → Type 0) (xs ys : List A) → AllByRecursion P (xs ++ ys) → AllByRecursion P xs × AllByRecursion P ys
parts P [] ys h = (tt, h)
parts P (x ∷ xs) ys h = let rest = parts P xs ys h.1 in ((h.0, rest.0), rest.1)

pub fit_number : (n : ℕ) → IsFit (e.Number n) → IsNumber n
unfolding IsFit
fit_number n h = (subst (AllByRecursion IsFitWord) (ap (λ x. words x) (sym (e.rolls-Number n)) ∙ fold-roll-Expression (List Token) expression_words (Expression-F.Number n)) h).0

pub fit_text : (bytes : List ℕ) → IsFit (e.Text bytes) → IsText bytes
unfolding IsFit
fit_text bytes h = (subst (AllByRecursion IsFitWord) (ap (λ x. words x) (sym (e.rolls-Text bytes)) ∙ fold-roll-Expression (List Token) expression_words (Expression-F.Text bytes)) h).0

fit_minus : (a : Written) → IsFit (e.Minus a) → IsFit a
unfolding IsFit
fit_minus a h = subst (AllByRecursion IsFitWord) (ap (λ x. words x) (sym (e.rolls-Minus a)) ∙ fold-roll-Expression (List Token) expression_words (Expression-F.Minus a)) h

fit_not : (a : Written) → IsFit (e.Not a) → IsFit a
unfolding IsFit
fit_not a h = subst (AllByRecursion IsFitWord) (ap (λ x. words x) (sym (e.rolls-Not a)) ∙ fold-roll-Expression (List Token) expression_words (Expression-F.Not a)) h

fit_both : (op : Operator) (a b : Written) → IsFit (e.Binary op a b) → IsFit a × IsFit b
unfolding IsFit
fit_both op a b h = parts IsFitWord (words a) (words b) (subst (AllByRecursion IsFitWord) (ap (λ x. words x) (sym (e.rolls-Binary op a b)) ∙ fold-roll-Expression (List Token) expression_words (Expression-F.Binary op a b)) h)

pub fit_joined : (keys : List Written) → AllByRecursion IsFitWord (joined (map words keys)) → AreFit keys
unfolding IsFit AreFit
fit_joined [] h = tt
fit_joined (key ∷ keys) h = let both = parts IsFitWord (words key) (joined (map words keys)) h in (both.0, fit_joined keys both.1)

fit_entry : (a : List ℕ) (keys : List Written) (p : List ℕ) → IsFit (e.Place (place.Entry a keys p)) → AreFit keys
unfolding IsFit
fit_entry a keys p h =
    let all = subst (AllByRecursion IsFitWord) (ap (λ x. words x) (sym (e.rolls-Place (place.Entry a keys p))) ∙ fold-roll-Expression (List Token) expression_words (Expression-F.Place (place.Entry a keys p))) h in
    fit_joined keys (parts IsFitWord (joined (map words keys)) (Name p ∷ []) all.1).0

pub fit_place : (p : Place Written) → IsFit (e.Place p) → FitPlace p
fit_place (place.Name x) h = tt
fit_place (place.Field x p) h = tt
fit_place (place.Entry a keys p) h = fit_entry a keys p h

-- the same, as the code comes to them
pub keys_at : (s : Written) (q : Place Written) (a : List ℕ) (keys : List Written) (p : List ℕ) (slice : List Written) → IsFit s → s ≡ e.Place q → q ≡ place.Entry a keys p → slice ≡ keys → AreFit slice
keys_at s q a keys p slice h is entry same = subst AreFit (sym same) (fit_entry a keys p (subst IsFit (is ∙ ap (λ x. e.Place x) entry) h))

pub minus_at : (s a b : Written) → IsFit s → s ≡ e.Minus a → b ≡ a → IsFit b
minus_at s a b h is same = subst IsFit (sym same) (fit_minus a (subst IsFit is h))

pub not_at : (s a b : Written) → IsFit s → s ≡ e.Not a → b ≡ a → IsFit b
not_at s a b h is same = subst IsFit (sym same) (fit_not a (subst IsFit is h))

pub left_at : (op : Operator) (s a b c : Written) → IsFit s → s ≡ e.Binary op a b → c ≡ a → IsFit c
left_at op s a b c h is same = subst IsFit (sym same) (fit_both op a b (subst IsFit is h)).0

pub right_at : (op : Operator) (s a b c : Written) → IsFit s → s ≡ e.Binary op a b → c ≡ b → IsFit c
right_at op s a b c h is same = subst IsFit (sym same) (fit_both op a b (subst IsFit is h)).1

pub entry_at : (q : Place Written) (a : List ℕ) (keys : List Written) (p : List ℕ) (slice : List Written) → FitPlace q → q ≡ place.Entry a keys p → slice ≡ keys → AreFit slice
entry_at q a keys p slice h is same = subst AreFit (sym same) (subst FitPlace is h)

-- each of several keys
pub key_fits : (keys : List Written) (at : ℕ) (key : Written) → at < length keys → key ≡ get_or keys at key → AreFit (drop at keys) → IsFit key
unfolding AreFit
key_fits keys at key more is h = subst IsFit (sym is) (subst AreFit (drop-cons keys at key more) h).0

-- the numbers and texts among expressions that fit
pub ruleset fits = (fit_number, fit_text)
