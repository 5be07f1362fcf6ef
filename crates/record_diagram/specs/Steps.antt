-- The steps of a record.
use Rattle.std.specs.Prelude.{◌≡◌, refl, ℕ, zero, suc, ◌+◌, ◌==◌, Bool, true, false, List, [], ◌∷◌, ◌++◌, length, map, Option, Some, None, is_some, slice_get, pos}
use Rattle.cloud_base.specs.declared.batch.Batch.{Batch}
use Rattle.cloud_base.specs.declared.batch.Stretch.{Stretch}
use Rattle.cloud_base.specs.declared.batch.Tail.{Tail}
use Rattle.cloud_base.specs.declared.update.Answer.TheVariants.{Int}
use Rattle.cloud_base.specs.declared.update.CellChange.TheVariants.{Add}
use Rattle.cloud_base.specs.declared.update.Event.{Event}
use Rattle.cloud_base.specs.declared.update.Event.TheVariants as event
use Rattle.cloud_base.specs.declared.update.Query.TheVariants.{Get}
use Rattle.cloud_base.specs.declared.update.Update.TheVariants.{Cell}
use Rattle.revision_diagram.specs.declared.step.Step.{Step}
use Rattle.revision_diagram.specs.declared.step.Step.TheVariants as step
use Rattle.revision_diagram.specs.Diagram.{put}
use Rattle.batch_history.specs.Batches.{of_client, unjoined, stretch_of, stretches}

-- where the drawing is: the next free number, and of each client the standing revision and the received one
pub record Drawing : Type 0 where
  pub next : ℕ
  pub standing : ℕ → ℕ
  pub received : ℕ → ℕ

-- steps, and where they lead
abbrev pub Draws : Type 0
Draws = Drawing → List Step × Drawing

abbrev pub idle : Draws
idle d = ([], d)

infixl 10 ◌then◌
abbrev pub ◌then◌ : Draws → Draws → Draws
first then second = λ d. ((first d).0 ++ (second (first d).1).0, (second (first d).1).1)

abbrev pub event_step : ℕ → Event → Step
event_step r (event.Do u) = step.Do r u
event_step r (event.Ask q a) = step.Ask r q a
event_step r (event.Say v) = step.Say r v
event_step r event.Yield = step.Mark r false
event_step r event.Flush = step.Mark r true

-- events of c, on its standing revision
abbrev pub events_on : ℕ → List Event → Draws
events_on c events d = (map (event_step (d.standing c)) events, d)

-- c's standing revision is joined into the received one, which stands from then on
abbrev pub pull : ℕ → Draws
pull c d = (step.Join (d.received c) (d.standing c) ∷ [], record d { standing = put c (d.received c) d.standing })

-- a fork of c's standing revision stands, and the old one is sent
abbrev pub send : ℕ → Draws
send c d = (step.Fork (d.standing c) c ∷ [], record d { next = d.next + 1; standing = put c d.next d.standing })

-- a fork of c's standing revision stands, and the old one is joined into the server
abbrev pub push : ℕ → Draws
push c d = (step.Fork (d.standing c) c ∷ step.Join 0 (d.standing c) ∷ [], record d { next = d.next + 1; standing = put c d.next d.standing })

-- a fork of the server for c: an opening one stands, and another one is received
abbrev pub fork_for : ℕ → Bool → Draws
fork_for c true d = (step.Fork 0 c ∷ [], record d { next = d.next + 1; standing = put c d.next d.standing })
fork_for c false d = (step.Fork 0 c ∷ [], record d { next = d.next + 1; received = put c d.next d.received })

abbrev pub pull_if : Bool → ℕ → Draws
pull_if true c = pull c
pull_if false c = idle

-- a pull is made in a stretch that has a base, and isn't the client's opening one
abbrev pub not_opening : Bool → Option ℕ → Bool
not_opening true base = false
not_opening false base = is_some base

-- a stretch of c: what ran before the pull, the pull, and what ran since
abbrev pub run_stretch : ℕ → Bool → Stretch → Draws
run_stretch c opening s = events_on c s.before then pull_if (not_opening opening s.base) c then events_on c s.rest

abbrev pub base_of : Option Stretch → Option ℕ
base_of (Some s) = s.base
base_of None = None

-- with these batches joined: the base of the next stretch of client c
abbrev pub next_base : List Batch → List Batch → Tail → ℕ → Option ℕ
next_base batches joined tail c = base_of (slice_get (stretches batches tail c) (length (of_client c joined)))

abbrev pub same_base : ℕ → Option ℕ → Bool
same_base i (Some n) = n == i
same_base i None = false

abbrev pub is_zero : ℕ → Bool
is_zero zero = true
is_zero (suc n) = false

abbrev pub fork_if : Bool → ℕ → Bool → Draws
fork_if true c opening = fork_for c opening
fork_if false c opening = idle

-- with i batches joined: a fork of the server for each client in order, from client c on, whose next stretch
-- has base i
abbrev pub forks_at : List Batch → List Batch → ℕ → List Tail → ℕ → Draws
forks_at batches joined i [] c = idle
forks_at batches joined i (tail ∷ tails) c =
    fork_if (same_base i (next_base batches joined tail c)) c (is_zero (length (of_client c joined)))
    then forks_at batches joined i tails (c + 1)

-- the batches that are left: each runs and is pushed, and then come the forks that have it
abbrev pub batches_from : List Batch → List Tail → List Batch → List Batch → Draws
batches_from batches tails joined [] = idle
batches_from batches tails joined (b ∷ rest) =
    run_stretch b.client (is_zero (length (of_client b.client joined))) (stretch_of b) then push b.client
    then forks_at batches (joined ++ b ∷ []) (length joined + 1) tails 0
    then batches_from batches tails (joined ++ b ∷ []) rest

abbrev pub run_sent : ℕ → Bool → List Batch → Draws
run_sent c opening [] = idle
run_sent c opening (b ∷ more) = run_stretch c opening (stretch_of b) then send c

-- what is left of the clients from client c on: what was sent and isn't joined, and what ran since
abbrev pub tails_from : List Batch → List Tail → ℕ → Draws
tails_from batches [] c = idle
tails_from batches (tail ∷ tails) c =
    run_sent c (is_zero (length (of_client c batches))) (unjoined (of_client c batches) tail.sent)
    then run_stretch c (is_zero (length (of_client c batches) + length (unjoined (of_client c batches) tail.sent))) tail.now
    then tails_from batches tails (c + 1)

-- the server alone
abbrev pub first_drawing : Drawing
first_drawing = record { next = 1; standing = λ c. 0; received = λ c. 0 }

-- the forks of the clients that open at the start, the batches in order, and what is left of each client
abbrev pub steps_of : List Batch → List Tail → List Step
steps_of batches tails = ((forks_at batches [] 0 tails 0 then batches_from batches tails [] batches then tails_from batches tails 0) first_drawing).0

module _ where
  abbrev one : Event
  one = event.Do (Cell 0 [] (Add (pos 1)))

  abbrev two : Event
  two = event.Do (Cell 0 [] (Add (pos 2)))

  abbrev asks : Event
  asks = event.Ask (Get 0 []) (Int (pos 3))

  -- a push whose copy is lost on its way back, and a flush that pulls the reply to the push again
  abbrev first : Batch
  first = record { client = 0; round = 1; base = 0; before = []; rest = one ∷ event.Yield ∷ [] }

  abbrev second : Batch
  second = record { client = 0; round = 2; base = 1; before = two ∷ event.Yield ∷ event.Flush ∷ []; rest = [] }

  abbrev tail : Tail
  tail = record { sent = None; now = record { base = Some 2; before = []; rest = asks ∷ event.Say (Int (pos 3)) ∷ [] } }

  pub example_lost_reply : steps_of (first ∷ second ∷ []) (tail ∷ []) ≡
      step.Fork 0 0 ∷ step.Do 1 (Cell 0 [] (Add (pos 1))) ∷ step.Mark 1 false ∷ step.Fork 1 0 ∷ step.Join 0 1 ∷ step.Fork 0 0
      ∷ step.Do 2 (Cell 0 [] (Add (pos 2))) ∷ step.Mark 2 false ∷ step.Mark 2 true ∷ step.Join 3 2 ∷ step.Fork 3 0 ∷ step.Join 0 3 ∷ step.Fork 0 0
      ∷ step.Join 5 4 ∷ step.Ask 5 (Get 0 []) (Int (pos 3)) ∷ step.Say 5 (Int (pos 3)) ∷ []
  example_lost_reply = refl

  -- the second push is outstanding: its fork stands, and it isn't joined into the server
  abbrev outstanding : Tail
  outstanding = record { sent = Some second; now = record { base = None; before = event.Say (Int (pos 3)) ∷ []; rest = [] } }

  pub example_outstanding : steps_of (first ∷ []) (outstanding ∷ []) ≡
      step.Fork 0 0 ∷ step.Do 1 (Cell 0 [] (Add (pos 1))) ∷ step.Mark 1 false ∷ step.Fork 1 0 ∷ step.Join 0 1 ∷ step.Fork 0 0
      ∷ step.Do 2 (Cell 0 [] (Add (pos 2))) ∷ step.Mark 2 false ∷ step.Mark 2 true ∷ step.Join 3 2 ∷ step.Fork 3 0
      ∷ step.Say 4 (Int (pos 3)) ∷ []
  example_outstanding = refl

  -- where the record has it, it is drawn once, as a batch
  pub example_joined_already : steps_of (first ∷ second ∷ []) (outstanding ∷ []) ≡
      step.Fork 0 0 ∷ step.Do 1 (Cell 0 [] (Add (pos 1))) ∷ step.Mark 1 false ∷ step.Fork 1 0 ∷ step.Join 0 1 ∷ step.Fork 0 0
      ∷ step.Do 2 (Cell 0 [] (Add (pos 2))) ∷ step.Mark 2 false ∷ step.Mark 2 true ∷ step.Join 3 2 ∷ step.Fork 3 0 ∷ step.Join 0 3
      ∷ step.Say 4 (Int (pos 3)) ∷ []
  example_joined_already = refl

module _ where
  abbrev say : ℕ → Event
  say n = event.Say (Int (pos n))

  abbrev cy1 : Batch
  cy1 = record { client = 2; round = 1; base = 0; before = []; rest = event.Yield ∷ [] }

  abbrev ann1 : Batch
  ann1 = record { client = 0; round = 1; base = 0; before = []; rest = say 1 ∷ event.Flush ∷ [] }

  abbrev cy2 : Batch
  cy2 = record { client = 2; round = 2; base = 1; before = event.Flush ∷ []; rest = [] }

  abbrev bob1 : Batch
  bob1 = record { client = 1; round = 1; base = 0; before = []; rest = say 2 ∷ event.Flush ∷ [] }

  abbrev at_end : ℕ → ℕ → Tail
  at_end n v = record { sent = None; now = record { base = Some n; before = []; rest = say v ∷ [] } }

  -- three clients: the first two flush, the third yields and flushes
  pub example_three : steps_of (cy1 ∷ ann1 ∷ cy2 ∷ bob1 ∷ []) (at_end 2 3 ∷ at_end 4 4 ∷ at_end 3 5 ∷ []) ≡
      step.Fork 0 0 ∷ step.Fork 0 1 ∷ step.Fork 0 2 ∷ step.Mark 3 false ∷ step.Fork 3 2 ∷ step.Join 0 3 ∷ step.Fork 0 2
      ∷ step.Say 1 (Int (pos 1)) ∷ step.Mark 1 true ∷ step.Fork 1 0 ∷ step.Join 0 1 ∷ step.Fork 0 0
      ∷ step.Mark 4 true ∷ step.Join 5 4 ∷ step.Fork 5 2 ∷ step.Join 0 5 ∷ step.Fork 0 2
      ∷ step.Say 2 (Int (pos 2)) ∷ step.Mark 2 true ∷ step.Fork 2 1 ∷ step.Join 0 2 ∷ step.Fork 0 1
      ∷ step.Join 7 6 ∷ step.Say 7 (Int (pos 3)) ∷ step.Join 11 10 ∷ step.Say 11 (Int (pos 4)) ∷ step.Join 9 8 ∷ step.Say 9 (Int (pos 5)) ∷ []
  example_three = refl
