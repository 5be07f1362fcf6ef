-- What is told of a client is what it did.
use Rattle.std.proofs.Common.{arith, ◌≡◌, ℕ, zero, suc, ◌+◌, ◌<◌, ◌≤◌, Bool, true, false, cond, List, [], ◌∷◌, ◌++◌, length, refl, sym, ap, subst, ◌∙◌, Option, Some, None, inl, inr, append-nil}
use Rattle.std.specs.Prelude.{◌==◌, map, slice_get}
use Rattle.std.specs.List.{AllByRecursion}
use Rattle.std.proofs.lemmas.Bool.{cases_eq, eq-eqb, ne_eqb}
use Rattle.std.proofs.lemmas.List.{append_assoc}
use Rattle.cloud_base.specs.declared.batch.Batch.{Batch}
use Rattle.cloud_base.specs.declared.batch.Stretch.{Stretch}
use Rattle.cloud_base.specs.declared.batch.Tail.{Tail}
use Rattle.cloud_base.specs.declared.end.End.{End}
use Rattle.cloud_base.specs.declared.update.Answer.{Answer}
use Rattle.cloud_base.specs.declared.update.Event.{Event}
use Rattle.cloud_base.specs.Events.{Outcome, ended, answers_in}
use Rattle.revision_diagram.specs.Story.{events, ProgramLaw}
use Rattle.batch_history.specs.Flushed.{Traced}
use Rattle.record_diagram.specs.Steps.{steps_of}
use Rattle.record_diagram.proofs.ToldAll.{events_of_record}
use Rattle.batch_history.specs.Batches.{of_client, unjoined, stretch_of, events_in, all_events, did_by, did}
use Rattle.batch_history.proofs.Clients.{of_client-here, of_client-else}
use Rattle.record_diagram.proofs.Did.{did_in, tail_events, did_last, told}
use Rattle.record_diagram.proofs.Fitting.{FittingRecord}

all_events-append : (xs ys : List Stretch) → all_events (xs ++ ys) ≡ all_events xs ++ all_events ys
all_events-append [] ys = refl
all_events-append (s ∷ xs) ys = ap (λ (l : List Event). events_in s ++ l) (all_events-append xs ys) ∙ sym (append_assoc (events_in s) (all_events xs) (all_events ys))

batches_told : (x : ℕ) (batches : List Batch) → did_in x batches ≡ all_events (map stretch_of (of_client x batches))
batches_told x [] = refl
batches_told x (b ∷ batches) = elim (cases_eq b.client x) [
  | inl mine ↦
      ap (λ (t : Bool). cond t (b.before ++ b.rest) [] ++ did_in x batches) (eq-eqb b.client x mine)
      ∙ ap (λ (l : List Event). (b.before ++ b.rest) ++ l) (batches_told x batches)
      ∙ sym (ap (λ (l : List Batch). all_events (map stretch_of l)) (of_client-here x b batches mine))
  | inr other ↦
      ap (λ (t : Bool). cond t (b.before ++ b.rest) [] ++ did_in x batches) (ne_eqb b.client x other)
      ∙ batches_told x batches
      ∙ sym (ap (λ (l : List Batch). all_events (map stretch_of l)) (of_client-else x b batches other))
]

tail_by : (is_next : Bool) (b : Batch) (now : Stretch) → tail_events (cond is_next (b ∷ []) []) now ≡ all_events (map stretch_of (cond is_next (b ∷ []) []) ++ now ∷ [])
tail_by true b now = ap (λ (l : List Event). (b.before ++ b.rest) ++ l) (sym (append-nil (now.before ++ now.rest)))
tail_by false b now = sym (append-nil (now.before ++ now.rest))

tail_told : (own : List Batch) (sent : Option Batch) (now : Stretch) → tail_events (unjoined own sent) now ≡ all_events (map stretch_of (unjoined own sent) ++ now ∷ [])
tail_told own None now = sym (append-nil (now.before ++ now.rest))
tail_told own (Some b) now = tail_by (b.round == length own + 1) b now

none_before : (batches : List Batch) (x c : ℕ) (tails : List Tail) → x < c → did_last batches x c tails ≡ []
none_before batches x c [] l = refl
none_before batches x c (tail ∷ tails) l =
    ap (λ (t : Bool). cond t (tail_events (unjoined (of_client c batches) tail.sent) tail.now) [] ++ did_last batches x (c + 1) tails) (ne_eqb c x (λ e. omega arith))
    ∙ none_before batches x (c + 1) tails (omega arith)

abbrev last_did : List Batch → ℕ → Option Tail → List Event
last_did batches x None = []
last_did batches x (Some tail) = tail_events (unjoined (of_client x batches) tail.sent) tail.now

last_told : (batches : List Batch) (x c k : ℕ) (tails : List Tail) → x ≡ c + k → did_last batches x c tails ≡ last_did batches x (slice_get tails k)
last_told batches x c k [] e = refl
last_told batches x c zero (tail ∷ tails) e =
    let same : c ≡ x = omega arith in
    ap (λ (t : Bool). cond t (tail_events (unjoined (of_client c batches) tail.sent) tail.now) [] ++ did_last batches x (c + 1) tails) (eq-eqb c x same)
    ∙ ap (λ (l : List Event). tail_events (unjoined (of_client c batches) tail.sent) tail.now ++ l) (none_before batches x (c + 1) tails (omega arith))
    ∙ append-nil (tail_events (unjoined (of_client c batches) tail.sent) tail.now)
    ∙ ap (λ (y : ℕ). tail_events (unjoined (of_client y batches) tail.sent) tail.now) same
last_told batches x c (suc k) (tail ∷ tails) e =
    ap (λ (t : Bool). cond t (tail_events (unjoined (of_client c batches) tail.sent) tail.now) [] ++ did_last batches x (c + 1) tails) (ne_eqb c x (λ same. omega arith))
    ∙ last_told batches x (c + 1) k tails (omega arith)

none_of : (x n : ℕ) (batches : List Batch) → AllByRecursion (λ (b : Batch). b.client < n) batches → n ≤ x → did_in x batches ≡ []
none_of x n [] h l = refl
none_of x n (b ∷ batches) h l =
    let less : b.client < n = h.0 in
    ap (λ (t : Bool). cond t (b.before ++ b.rest) [] ++ did_in x batches) (ne_eqb b.client x (λ e. omega arith)) ∙ none_of x n batches h.1 l

past_end : (tails : List Tail) (x : ℕ) → slice_get tails x ≡ None → length tails ≤ x
past_end [] x e = omega arith
past_end (tail ∷ tails) zero e = let no : Some tail ≡ None = e in absurd cc
past_end (tail ∷ tails) (suc x) e = let l : length tails ≤ x = past_end tails x e in omega arith

by_tail : (batches : List Batch) (tails : List Tail) (x : ℕ) (o : Option Tail) → slice_get tails x ≡ o → FittingRecord batches tails → did_in x batches ++ last_did batches x o ≡ did_by batches x o
by_tail batches tails x None e fits = append-nil (did_in x batches) ∙ none_of x (length tails) batches fits.clients (past_end tails x e)
by_tail batches tails x (Some tail) e fits =
    let own : List Stretch = map stretch_of (of_client x batches) in
    let more : List Stretch = map stretch_of (unjoined (of_client x batches) tail.sent) ++ tail.now ∷ [] in
    ap (λ (l : List Event). l ++ tail_events (unjoined (of_client x batches) tail.sent) tail.now) (batches_told x batches)
    ∙ ap (λ (l : List Event). all_events own ++ l) (tail_told (of_client x batches) tail.sent tail.now)
    ∙ sym (all_events-append own more)

pub told_did : (batches : List Batch) (tails : List Tail) → FittingRecord batches tails → (x : ℕ) → told batches tails x ≡ did batches tails x
told_did batches tails fits x =
    let here : x ≡ 0 + x = omega arith in
    ap (λ (l : List Event). did_in x batches ++ l) (last_told batches x 0 x tails here) ∙ by_tail batches tails x (slice_get tails x) refl fits

-- a client's program did what the steps tell
pub program_of : (trace : ℕ → List Answer → List Event × Outcome) (batches : List Batch) (tails : List Tail) (ends : List End) → FittingRecord batches tails → Traced trace batches tails ends → (c : ℕ) (end : End) → slice_get ends c ≡ Some end → ProgramLaw (trace c) (ended end) (steps_of batches tails) c
program_of trace batches tails ends fits traced c end e =
    let same : events (steps_of batches tails) c ≡ did batches tails c = events_of_record batches tails fits c ∙ told_did batches tails fits c in
    subst (λ (l : List Event). trace c (answers_in l) ≡ (l, ended end)) (sym same) (traced c end e)
