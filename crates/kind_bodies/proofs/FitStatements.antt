-- Which parts of a statement fit.
use Rattle.std.proofs.Common.{◌≡◌, ℕ, ◌<◌, ◌+◌, List, [], ◌∷◌, ◌++◌, Option, Some, None, sym, ap, ◌∙◌, subst, length, get_or, drop, drop-cons}
use Rattle.std.proofs.lemmas.List.{drop_more}
use Rattle.std.specs.Prelude.{⊤}
use Rattle.std.specs.List.{AllByRecursion}
use Rattle.source_tokens.specs.declared.token.Token.{Token}
use Rattle.source_tree.specs.Words.{words, names, body_words, statement_words, statement_words_step}
use Rattle.source_tree.specs.declared.expression.Expression.{Expression as Source}
use Rattle.source_tree.specs.declared.expression.Expression.TheVariants as e
use Rattle.source_tree.specs.declared.expression.Place.{Place}
use Rattle.source_tree.specs.declared.statement.Operation.{Operation}
use Rattle.source_tree.specs.declared.statement.Statement.{Statement as Written}
use Rattle.source_tree.specs.declared.statement.Statement.TheFolds.{fold-roll-Statement}
use Rattle.source_tree.specs.declared.statement.Statement.TheOpen.{Statement-F}
use Rattle.source_tree.specs.declared.statement.Statement.TheVariants as s
use Rattle.kind_rules.specs.Words.{IsFitWord}
use Rattle.kind_bodies.specs.Found.{IsFit, AreFit, FitPlace}
use Rattle.kind_bodies.specs.Settles.{IsFitStatement, AreFitStatements}
use Rattle.kind_bodies.proofs.Fits.{parts, fit_joined, fit_place}

pub fit_body : (body : List Written) → AllByRecursion IsFitWord (body_words body) → AreFitStatements body
unfolding IsFitStatement AreFitStatements
fit_body [] h = tt
fit_body (st ∷ body) h = let both = parts IsFitWord (statement_words st) (body_words body) h in (both.0, fit_body body both.1)

-- the words of a statement, opened
opened : (st : Written) (ts : List Token) → statement_words st ≡ ts → IsFitStatement st → AllByRecursion IsFitWord ts
unfolding IsFitStatement
opened st ts is h = subst (AllByRecursion IsFitWord) is h

pub define_at : (st : Written) (x : List ℕ) (a : Source) → IsFitStatement st → st ≡ s.Define x a → IsFit a
unfolding IsFit
define_at st x a h is = (opened st _ (ap (λ x. statement_words x) (is ∙ sym (s.rolls-Define x a)) ∙ fold-roll-Statement (List Token) statement_words_step (Statement-F.Define x a)) h).1

pub create_at : (st : Written) (x n : List ℕ) (keys slice : List Source) → IsFitStatement st → st ≡ s.Create x n keys → slice ≡ keys → AreFit slice
create_at st x n keys slice h is same = subst AreFit (sym same)
    (fit_joined keys (opened st _ (ap (λ x. statement_words x) (is ∙ sym (s.rolls-Create x n keys)) ∙ fold-roll-Statement (List Token) statement_words_step (Statement-F.Create x n keys)) h).1.1)

pub assign_at : (st : Written) (x : List ℕ) (a : Source) → IsFitStatement st → st ≡ s.Assign x a → IsFit a
unfolding IsFit
assign_at st x a h is = (opened st _ (ap (λ x. statement_words x) (is ∙ sym (s.rolls-Assign x a)) ∙ fold-roll-Statement (List Token) statement_words_step (Statement-F.Assign x a)) h).1

update_parts : (st : Written) (p : Place Source) (op : Operation) (a : Source) → IsFitStatement st → st ≡ s.Update p op a → IsFit (e.Place p) × IsFit a
unfolding IsFit
update_parts st p op a h is = parts IsFitWord (words (e.Place p)) (words a)
    (opened st _ (ap (λ x. statement_words x) (is ∙ sym (s.rolls-Update p op a)) ∙ fold-roll-Statement (List Token) statement_words_step (Statement-F.Update p op a)) h)

pub update_place_at : (st : Written) (p : Place Source) (op : Operation) (a : Source) → IsFitStatement st → st ≡ s.Update p op a → FitPlace p
update_place_at st p op a h is = fit_place p (update_parts st p op a h is).0

pub update_argument_at : (st : Written) (p : Place Source) (op : Operation) (a : Source) → IsFitStatement st → st ≡ s.Update p op a → IsFit a
update_argument_at st p op a h is = (update_parts st p op a h is).1

pub print_at : (st : Written) (a : Source) → IsFitStatement st → st ≡ s.Print a → IsFit a
unfolding IsFit
print_at st a h is = opened st _ (ap (λ x. statement_words x) (is ∙ sym (s.rolls-Print a)) ∙ fold-roll-Statement (List Token) statement_words_step (Statement-F.Print a)) h

while_parts : (st : Written) (a : Source) (body : List Written) → IsFitStatement st → st ≡ s.While a body → IsFit a × AreFitStatements body
unfolding IsFit
while_parts st a body h is =
    let both = parts IsFitWord (words a) (body_words body) (opened st _ (ap (λ x. statement_words x) (is ∙ sym (s.rolls-While a body)) ∙ fold-roll-Statement (List Token) statement_words_step (Statement-F.While a body)) h) in
    (both.0, fit_body body both.1)

pub while_at : (st : Written) (a : Source) (body slice : List Written) → IsFitStatement st → st ≡ s.While a body → slice ≡ body → IsFit a × AreFitStatements slice
while_at st a body slice h is same = let both = while_parts st a body h is in (both.0, subst AreFitStatements (sym same) both.1)

pub all_at : (st : Written) (x n : List ℕ) (body slice : List Written) → IsFitStatement st → st ≡ s.ForAll x n body → slice ≡ body → AreFitStatements slice
all_at st x n body slice h is same = subst AreFitStatements (sym same)
    (fit_body body (opened st _ (ap (λ x. statement_words x) (is ∙ sym (s.rolls-ForAll x n body)) ∙ fold-roll-Statement (List Token) statement_words_step (Statement-F.ForAll x n body)) h).1.1)

pub entries_at : (st : Written) (xs : List (List ℕ)) (n p : List ℕ) (body slice : List Written) → IsFitStatement st → st ≡ s.ForEntries xs n p body → slice ≡ body → AreFitStatements slice
entries_at st xs n p body slice h is same = subst AreFitStatements (sym same)
    (fit_body body (parts IsFitWord (names xs) _ (opened st _ (ap (λ x. statement_words x) (is ∙ sym (s.rolls-ForEntries xs n p body)) ∙ fold-roll-Statement (List Token) statement_words_step (Statement-F.ForEntries xs n p body)) h)).1.1.1)

abbrev FitSecond : Option (List Written) → Type 0
FitSecond None = ⊤
FitSecond (Some second) = AreFitStatements second

if_parts : (a : Source) (first : List Written) (second : Option (List Written)) → IsFitStatement (s.If a first second) → IsFit a × (AreFitStatements first × FitSecond second)
unfolding IsFit
if_parts a first None h =
    let both = parts IsFitWord (words a) (body_words first ++ []) (opened (s.If a first None) _ (ap (λ x. statement_words x) (sym (s.rolls-If a first None)) ∙ fold-roll-Statement (List Token) statement_words_step (Statement-F.If a first None)) h) in
    let blocks = parts IsFitWord (body_words first) [] both.1 in
    (both.0, (fit_body first blocks.0, tt))
if_parts a first (Some second) h =
    let both = parts IsFitWord (words a) (body_words first ++ body_words second)
    (opened (s.If a first (Some second)) _ (ap (λ x. statement_words x) (sym (s.rolls-If a first (Some second))) ∙ fold-roll-Statement (List Token) statement_words_step (Statement-F.If a first (Some second))) h) in
    let blocks = parts IsFitWord (body_words first) (body_words second) both.1 in
    (both.0, (fit_body first blocks.0, fit_body second blocks.1))

pub test_at : (st : Written) (a : Source) (first : List Written) (second : Option (List Written)) → IsFitStatement st → st ≡ s.If a first second → IsFit a
test_at st a first second h is = (if_parts a first second (subst IsFitStatement is h)).0

pub first_at : (st : Written) (a : Source) (first slice : List Written) (second : Option (List Written)) → IsFitStatement st → st ≡ s.If a first second → slice ≡ first → AreFitStatements slice
first_at st a first slice second h is same = subst AreFitStatements (sym same) (if_parts a first second (subst IsFitStatement is h)).1.0

pub second_at : (st : Written) (a : Source) (first other slice : List Written) (second : Option (List Written)) → IsFitStatement st → st ≡ s.If a first second → second ≡ Some other → slice ≡ other → AreFitStatements slice
second_at st a first other slice second h is some same =
    subst AreFitStatements (sym same) (if_parts a first (Some other) (subst IsFitStatement (is ∙ ap (λ (o : Option (List Written)). s.If a first o) some) h)).1.1

-- each of several statements
pub statement_fits : (body : List Written) (at : ℕ) (st : Written) → at < length body → st ≡ get_or body at st → AreFitStatements (drop at body) → IsFitStatement st
unfolding AreFitStatements
statement_fits body at st more is h = subst IsFitStatement (sym is) (subst AreFitStatements (drop-cons body at st more) h).0

pub rest_fits : (body : List Written) (at : ℕ) (st : Written) → at < length body → AreFitStatements (drop at body) → AreFitStatements (drop (at + 1) body)
unfolding AreFitStatements
rest_fits body at st more h = (subst AreFitStatements (drop_more body at st more) h).1
