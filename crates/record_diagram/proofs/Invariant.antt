-- What the building of steps keeps: of each client its standing revision and the one received for it.
use Rattle.record_diagram.specs.SeenAt.{AnswerAt}
use Rattle.cloud_base.specs.declared.update.Answer.{Answer}
use Rattle.cloud_base.specs.declared.update.Event.{Event}
use Rattle.cloud_base.specs.declared.update.Query.{Query}
use Rattle.cloud_base.specs.declared.update.Update.{Update}
use Rattle.record_diagram.specs.Steps.{Drawing}
use Rattle.revision_diagram.specs.Diagram.{EachStep, fork, fork_length, live, owner, past, path, revisions}
use Rattle.revision_diagram.specs.Lawful.{Lawful}
use Rattle.revision_diagram.specs.Meeting.{AtMarks, Placed, below_server, client_at, is_mark_at}
use Rattle.revision_diagram.specs.Once.{Once, stands_on}
use Rattle.revision_diagram.specs.Right.{log}
use Rattle.revision_diagram.specs.Story.{LineLaw, has_seen, story}
use Rattle.revision_diagram.specs.declared.step.Step.{Step}
use Rattle.std.specs.List.{last_or}
use Rattle.std.specs.Prelude.{Bool, IsTrue, List, None, Option, Some, [], drop, false, length, take, true, ℕ, ⊤, ◌++◌, ◌∷◌, ◌≡◌, ◌≢◌}
use Rattle.cloud_base.specs.declared.update.Event.TheVariants as event

-- the places on r's path that it had at its fork, and those past it
abbrev pub shared_part : List Step → ℕ → List ℕ
shared_part front r = take (fork_length front r) (path front r)

abbrev pub own_part : List Step → ℕ → List ℕ
own_part front r = drop (fork_length front r) (path front r)

-- the last that the client did is in s's past
abbrev pub Remembers : List Step → ℕ → ℕ → Type 0
Remembers front c s = IsTrue (has_seen front s (last_or None (story front c)))

-- s is a live revision of c: it logs `seen`, of which `own` is past its fork and is all of c; the last that c did
-- is in its past
pub record Stands (front : List Step) (c s : ℕ) (seen own : List Update) : Type 0 where
  pub live : IsTrue (live front s)
  pub owner : owner front s ≡ Some c
  pub sees : log front s ≡ seen
  pub owns : drop (fork_length front s) (log front s) ≡ own
  pub remembers : Remembers front c s
  pub mine : (i : ℕ) → IsTrue (stands_on (own_part front s) i) → client_at front i ≡ Some c

-- s may be joined into r: r knows its fork and what it had there, and nothing that it has past that
pub record Joinable (front : List Step) (r s : ℕ) : Type 0 where
  pub knows : IsTrue (past front r (fork front s))
  pub shared : (i : ℕ) → IsTrue (stands_on (shared_part front s) i) → IsTrue (stands_on (path front r) i)
  pub fresh : (i : ℕ) → IsTrue (stands_on (own_part front s) i) → stands_on (path front r) i ≡ false

-- q was forked from the server for c, with this log, and nothing was done on it
pub record Received (front : List Step) (c q : ℕ) (base : List Update) : Type 0 where
  pub live : IsTrue (live front q)
  pub owner : owner front q ≡ Some c
  pub logs : log front q ≡ base
  pub whole : fork_length front q ≡ length (path front q)
  pub knows : IsTrue (past front 0 (fork front q))
  pub within : (i : ℕ) → IsTrue (stands_on (path front q) i) → IsTrue (stands_on (path front 0) i)

-- the last that the client did is a mark
abbrev pub Marked : List Step → ℕ → Type 0
Marked front c = IsTrue (is_mark_at front (last_or None (story front c)))

-- how far a client is
pub data Status : Type 0 where
  -- it has no revision and did nothing
  idle : Status
  -- it sees this, of which this is its own since the fork; what was received for it; whether it is at a mark
  stands : List Update → List Update → Option (List Update) → Bool → Status
  -- the same of a revision that is never joined again
  parted : List Update → Status

abbrev pub MarkedIf : Bool → List Step → ℕ → Type 0
MarkedIf true front c = Marked front c
MarkedIf false front c = ⊤

pub record Awaits (front : List Step) (c s q : ℕ) (base : List Update) : Type 0 where
  pub received : Received front c q base
  pub joins : Joinable front q s
  pub other : s ≢ q

abbrev pub AwaitsIf : List Step → ℕ → ℕ → ℕ → Option (List Update) → Type 0
AwaitsIf front c s q None = ⊤
AwaitsIf front c s q (Some base) = Awaits front c s q base

pub record Standing (front : List Step) (c s q : ℕ) (seen own : List Update) (base : Option (List Update)) (marked : Bool) : Type 0 where
  pub stands : Stands front c s seen own
  pub joins : Joinable front 0 s
  pub awaits : AwaitsIf front c s q base
  pub at_mark : MarkedIf marked front c

abbrev pub IsAt : List Step → ℕ → ℕ → ℕ → Status → Type 0
IsAt front c s q idle = story front c ≡ []
IsAt front c s q (stands seen own base marked) = Standing front c s q seen own base marked
IsAt front c s q (parted seen) = (own : List Update) × Stands front c s seen own

-- the laws, so far
pub record Laws (is_answer : List Update → Query → Answer → Type 0) (front : List Step) : Type 0 where
  pub lawful : Lawful front
  pub once : Once front
  pub placed : Placed below_server front
  pub at_marks : AtMarks below_server front
  pub line : (c : ℕ) → LineLaw front c
  pub right : EachStep (AnswerAt is_answer) front

-- THE INVARIANT: the laws hold, the server logs `log`, and each client is where its status says.
pub record Drawn (is_answer : List Update → Query → Answer → Type 0) (front : List Step) (d : Drawing) (joined : List Update) (status : ℕ → Status) : Type 0 where
  pub laws : Laws is_answer front
  pub next : d.next ≡ revisions front
  pub server : IsTrue (live front 0)
  pub logs : log front 0 ≡ joined
  pub client : (c : ℕ) → IsAt front c (d.standing c) (d.received c) (status c)

-- the updates with what an event adds
abbrev pub noted : List Update → Event → List Update
noted seen (event.Do u) = seen ++ u ∷ []
noted seen (event.Ask q a) = seen
noted seen (event.Say v) = seen
noted seen event.Yield = seen
noted seen event.Flush = seen

abbrev pub is_mark_event : Event → Bool
is_mark_event (event.Do u) = false
is_mark_event (event.Ask q a) = false
is_mark_event (event.Say v) = false
is_mark_event event.Yield = true
is_mark_event event.Flush = true

-- an answer is what is seen is_answer
abbrev pub RightAt : (List Update → Query → Answer → Type 0) → List Update → Event → Type 0
RightAt is_answer seen (event.Ask q a) = is_answer seen q a
RightAt is_answer seen (event.Do u) = ⊤
RightAt is_answer seen (event.Say v) = ⊤
RightAt is_answer seen event.Yield = ⊤
RightAt is_answer seen event.Flush = ⊤
