-- Each fork of a record's steps is for one of its clients.
use Rattle.std.proofs.Common.{arith, ℕ, ◌+◌, ◌≤◌, ◌<◌, Bool, true, false, List, [], ◌∷◌, ◌++◌, length, refl, sym, subst}
use Rattle.std.specs.Prelude.{IsTrue, map}
use Rattle.std.specs.List.{AllByRecursion}
use Rattle.std.proofs.lemmas.Bool.{lt-ltb}
use Rattle.std.proofs.lemmas.List.{append_assoc}
use Rattle.std.proofs.Common.{append-nil}
use Rattle.cloud_base.specs.declared.batch.Batch.{Batch}
use Rattle.cloud_base.specs.declared.batch.Stretch.{Stretch}
use Rattle.cloud_base.specs.declared.batch.Tail.{Tail}
use Rattle.cloud_base.specs.declared.update.Event.{Event}
use Rattle.cloud_base.specs.declared.update.Event.TheVariants as event
use Rattle.revision_diagram.specs.declared.step.Step.{Step}
use Rattle.revision_diagram.specs.Headline.{is_for_node, AllOwned}
use Rattle.revision_diagram.specs.Meeting.{below_server}
use Rattle.revision_diagram.proofs.Owners.{AllOwned-more}
use Rattle.batch_history.specs.Batches.{of_client, unjoined, stretch_of}
use Rattle.record_diagram.specs.Steps.{Drawing, Draws, ◌then◌, event_step, events_on, pull_if, not_opening, run_stretch, push, send, fork_if, same_base, next_base, is_zero, forks_at, batches_from, run_sent, tails_from, first_drawing, steps_of}
use Rattle.record_diagram.proofs.Fitting.{FittingRecord}

-- of n clients
abbrev pub ForClients : ℕ → List Step → Type 0
ForClients n steps = AllByRecursion (λ (s : Step). IsTrue (is_for_node below_server n s)) steps

all_append : (n : ℕ) (xs ys : List Step) → ForClients n xs → ForClients n ys → ForClients n (xs ++ ys)
all_append n [] ys h k = k
all_append n (x ∷ xs) ys h k = (h.0, all_append n xs ys h.1 k)

owned_more : (n : ℕ) (front more : List Step) → AllOwned below_server n front → ForClients n more → AllOwned below_server n (front ++ more)
owned_more n front [] h k = subst (AllOwned below_server n) (sym (append-nil front)) h
owned_more n front (s ∷ more) h k = subst (AllOwned below_server n) (append_assoc front (s ∷ []) more) (owned_more n (front ++ s ∷ []) more ((AllOwned-more below_server n front s).1 (h, k.0)) k.1)

-- whatever is drawn forks for clients alone
abbrev Owns : ℕ → Draws → Type 0
Owns n draw = (d : Drawing) → ForClients n (draw d).0

owns_then : (n : ℕ) (first second : Draws) → Owns n first → Owns n second → Owns n (first then second)
owns_then n first second h k d = all_append n (first d).0 (second (first d).1).0 (h d) (k (first d).1)

one_event : (n s : ℕ) (e : Event) → IsTrue (is_for_node below_server n (event_step s e))
one_event n s (event.Do u) = refl
one_event n s (event.Ask q a) = refl
one_event n s (event.Say v) = refl
one_event n s event.Yield = refl
one_event n s event.Flush = refl

all_events_own : (n s : ℕ) (events : List Event) → ForClients n (map (event_step s) events)
all_events_own n s [] = tt
all_events_own n s (e ∷ events) = (one_event n s e, all_events_own n s events)

owns_pull : (n c : ℕ) (pulls : Bool) → Owns n (pull_if pulls c)
owns_pull n c true d = (refl, tt)
owns_pull n c false d = tt

owns_stretch : (n c : ℕ) (opening : Bool) (s : Stretch) → Owns n (run_stretch c opening s)
owns_stretch n c opening s = owns_then n (events_on c s.before then pull_if (not_opening opening s.base) c) (events_on c s.rest)
    (owns_then n (events_on c s.before) (pull_if (not_opening opening s.base) c) (λ d. all_events_own n (d.standing c) s.before) (owns_pull n c (not_opening opening s.base)))
    (λ d. all_events_own n (d.standing c) s.rest)

owns_fork : (n c : ℕ) (is_due opening : Bool) → c < n → Owns n (fork_if is_due c opening)
owns_fork n c false opening l d = tt
owns_fork n c true true l d = (lt-ltb c n l, tt)
owns_fork n c true false l d = (lt-ltb c n l, tt)

owns_forks : (n : ℕ) (batches joined : List Batch) (i : ℕ) (tails : List Tail) (c : ℕ) → c + length tails ≤ n → Owns n (forks_at batches joined i tails c)
owns_forks n batches joined i [] c l = λ d. tt
owns_forks n batches joined i (tail ∷ tails) c l =
    owns_then n (fork_if (same_base i (next_base batches joined tail c)) c (is_zero (length (of_client c joined)))) (forks_at batches joined i tails (c + 1))
    (owns_fork n c (same_base i (next_base batches joined tail c)) (is_zero (length (of_client c joined))) (omega arith))
    (owns_forks n batches joined i tails (c + 1) (omega arith))

owns_batches : (batches : List Batch) (tails : List Tail) (joined rest : List Batch) → AllByRecursion (λ (b : Batch). b.client < length tails) rest → Owns (length tails) (batches_from batches tails joined rest)
owns_batches batches tails joined [] h = λ d. tt
owns_batches batches tails joined (b ∷ rest) h =
    let n : ℕ = length tails in
    let run : Draws = run_stretch b.client (is_zero (length (of_client b.client joined))) (stretch_of b) in
    let forks : Draws = forks_at batches (joined ++ b ∷ []) (length joined + 1) tails 0 in
    owns_then n (run then push b.client then forks) (batches_from batches tails (joined ++ b ∷ []) rest)
    (owns_then n (run then push b.client) forks
    (owns_then n run (push b.client) (owns_stretch n b.client (is_zero (length (of_client b.client joined))) (stretch_of b)) (λ d. (lt-ltb b.client n h.0, (refl, tt))))
    (owns_forks n batches (joined ++ b ∷ []) (length joined + 1) tails 0 (omega arith)))
    (owns_batches batches tails (joined ++ b ∷ []) rest h.1)

owns_sent : (n c : ℕ) (opening : Bool) (more : List Batch) → c < n → Owns n (run_sent c opening more)
owns_sent n c opening [] l = λ d. tt
owns_sent n c opening (b ∷ more) l = owns_then n (run_stretch c opening (stretch_of b)) (send c) (owns_stretch n c opening (stretch_of b)) (λ d. (lt-ltb c n l, tt))

owns_tails : (n : ℕ) (batches : List Batch) (tails : List Tail) (c : ℕ) → c + length tails ≤ n → Owns n (tails_from batches tails c)
owns_tails n batches [] c l = λ d. tt
owns_tails n batches (tail ∷ tails) c l =
    let sent : List Batch = unjoined (of_client c batches) tail.sent in
    let first : Draws = run_sent c (is_zero (length (of_client c batches))) sent in
    let last : Draws = run_stretch c (is_zero (length (of_client c batches) + length sent)) tail.now in
    owns_then n (first then last) (tails_from batches tails (c + 1))
    (owns_then n first last (owns_sent n c (is_zero (length (of_client c batches))) sent (omega arith)) (owns_stretch n c (is_zero (length (of_client c batches) + length sent)) tail.now))
    (owns_tails n batches tails (c + 1) (omega arith))

pub owned_record : (batches : List Batch) (tails : List Tail) → FittingRecord batches tails → AllOwned below_server (length tails) (steps_of batches tails)
owned_record batches tails fits =
    let n : ℕ = length tails in
    let forks : Draws = forks_at batches [] 0 tails 0 in
    let runs : Draws = batches_from batches tails [] batches in
    owned_more n [] (steps_of batches tails) (λ r m e. absurd cc)
    (owns_then n (forks then runs) (tails_from batches tails 0)
    (owns_then n forks runs (owns_forks n batches [] 0 tails 0 (omega arith)) (owns_batches batches tails [] batches fits.clients))
    (owns_tails n batches tails 0 (omega arith)) first_drawing)
