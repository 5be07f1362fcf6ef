-- Clients meet the server, or the node above them, only at their marks.
use Rattle.std.specs.Prelude.{ℕ, zero, suc, ◌<◌, Bool, true, false, cond, ◌&&◌, ◌||◌, not, nat_lt, ◌==◌, List, [], ◌∷◌, take, slice_get, Option, Some, None, MatchOption, IsTrue, ⊤}
use Rattle.std.specs.List.{last_or, AllByRecursion}
use Rattle.revision_diagram.specs.declared.step.Step.{Step}
use Rattle.revision_diagram.specs.declared.step.Step.TheVariants.{Fork, Join, Do, Ask, Say, Mark}
use Rattle.revision_diagram.specs.Diagram.{EachStep, places_of, acts_on, is_of, owner, past, revisions}
use Rattle.revision_diagram.specs.Story.{story}

-- Nodes below the server: which of them are clients and which are relays, and the node above each, None for
-- the server. A revision is of a node or of the server, as its owner says.
pub record Tree : Type 0 where
  pub is_client : ℕ → Bool
  pub is_relay : ℕ → Bool
  pub parent : ℕ → Option ℕ

-- clients directly below the server
abbrev pub below_server : Tree
below_server = record { is_client = λ c. true; is_relay = λ c. false; parent = λ c. None }

abbrev pub is_client : Tree → Option ℕ → Bool
is_client tree (Some c) = tree.is_client c
is_client tree None = false

-- the same node, or the server both
abbrev pub same_node : Option ℕ → Option ℕ → Bool
same_node (Some m) (Some n) = m == n
same_node (Some m) None = false
same_node None (Some n) = false
same_node None None = true

-- is it node m or the one above it?
abbrev pub is_at_or_above : Tree → Option ℕ → Option ℕ → Bool
is_at_or_above tree whose (Some m) = same_node whose (Some m) || same_node whose (tree.parent m)
is_at_or_above tree whose None = false

-- Each Do, Ask, Say and Mark is on a revision of a client. A fork is of a revision of the same node or of
-- the one above it. A joined revision is joined into one of its own node or of the one above it.
abbrev pub is_placed : Tree → List Step → Step → Bool
is_placed tree front (Fork r m) = is_at_or_above tree (owner front r) (Some m)
is_placed tree front (Join r s) = is_at_or_above tree (owner front r) (owner front s)
is_placed tree front (Do r u) = is_client tree (owner front r)
is_placed tree front (Ask r q a) = is_client tree (owner front r)
is_placed tree front (Say r v) = is_client tree (owner front r)
is_placed tree front (Mark r flush) = is_client tree (owner front r)

abbrev pub is_mark : Option Step → Bool
is_mark (Some (Mark r flush)) = true
is_mark (Some (Fork r c)) = false
is_mark (Some (Join r s)) = false
is_mark (Some (Do r u)) = false
is_mark (Some (Ask r q a)) = false
is_mark (Some (Say r v)) = false
is_mark None = false

abbrev pub is_mark_at : List Step → Option ℕ → Bool
is_mark_at front (Some i) = is_mark (slice_get front i)
is_mark_at front None = false

-- if it is a client: its last story step is a mark
abbrev pub has_marked : Tree → List Step → Option ℕ → Bool
has_marked tree front (Some c) = not (tree.is_client c) || is_mark_at front (last_or None (story front c))
has_marked tree front None = true

-- A fork of a client's revision, and a join of one into any, come where the client's last story step is a
-- mark.
abbrev pub is_at_mark : Tree → List Step → Step → Bool
is_at_mark tree front (Fork r m) = has_marked tree front (owner front r)
is_at_mark tree front (Join r s) = has_marked tree front (owner front s)
is_at_mark tree front (Do r u) = true
is_at_mark tree front (Ask r q a) = true
is_at_mark tree front (Say r v) = true
is_at_mark tree front (Mark r flush) = true

abbrev pub Placed : Tree → List Step → Type 0
Placed tree steps = EachStep (λ front s. IsTrue (is_placed tree front s)) steps

abbrev pub AtMarks : Tree → List Step → Type 0
AtMarks tree steps = EachStep (λ front s. IsTrue (is_at_mark tree front s)) steps

abbrev pub is_flush : Step → Bool
is_flush (Mark r flush) = flush
is_flush (Fork r c) = false
is_flush (Join r s) = false
is_flush (Do r u) = false
is_flush (Ask r q a) = false
is_flush (Say r v) = false

-- the places of the flush marks
abbrev pub flushes : List Step → List ℕ
flushes steps = places_of (λ front s. is_flush s) steps

abbrev pub acts_at : Option Step → Option ℕ
acts_at (Some s) = acts_on s
acts_at None = None

abbrev pub owner_of : List Step → Option ℕ → Option ℕ
owner_of front (Some r) = owner front r
owner_of front None = None

-- the client of the Do, Ask, Say or Mark step at place i
abbrev pub client_at : List Step → ℕ → Option ℕ
client_at steps i = owner_of (take i steps) (acts_at (slice_get steps i))

-- the first of the places above i
abbrev pub first_above : ℕ → List ℕ → Option ℕ
first_above i [] = None
first_above i (j ∷ places) = cond (nat_lt i j) (Some j) (first_above i places)

-- the highest of c's revisions below n
abbrev pub newest_below : List Step → ℕ → ℕ → Option ℕ
newest_below steps c zero = None
newest_below steps c (suc n) = cond (is_of c (owner steps n)) (Some n) (newest_below steps c n)

-- the highest-numbered revision of c
abbrev pub newest : List Step → ℕ → Option ℕ
newest steps c = newest_below steps c (revisions steps)

abbrev pub past_of : List Step → Option ℕ → ℕ → Bool
past_of front (Some r) i = past front r i
past_of front None i = false

abbrev pub sees_by : List Step → ℕ → Option ℕ → ℕ → Bool
sees_by steps c (Some n) k = past_of (take n steps) (acts_at (slice_get steps n)) k
sees_by steps c None k = past_of steps (newest steps c) k

-- is place k in the past of the revision of c's first story step after i, just before that step, or, where
-- there is none, in the past of c's newest revision?
abbrev pub sees_after : List Step → ℕ → ℕ → ℕ → Bool
sees_after steps c i k = sees_by steps c (first_above i (story steps c)) k

abbrev pub is_join_up : Tree → List Step → ℕ → ℕ → Option Step → Bool
is_join_up tree front c i (Some (Join r s)) = same_node (owner front s) (Some c) && same_node (owner front r) (tree.parent c) && past front s i
is_join_up tree front c i (Some (Fork r m)) = false
is_join_up tree front c i (Some (Do r u)) = false
is_join_up tree front c i (Some (Ask r q a)) = false
is_join_up tree front c i (Some (Say r v)) = false
is_join_up tree front c i (Some (Mark r flush)) = false
is_join_up tree front c i None = false

-- is there at place j a join, into a revision of the node above c, of a revision of c whose past has i?
abbrev pub joins_up : Tree → List Step → ℕ → ℕ → ℕ → Bool
joins_up tree steps c i j = is_join_up tree (take j steps) c i (slice_get steps j)

abbrev pub is_fork_down : Tree → List Step → ℕ → Option Step → Bool
is_fork_down tree front c (Some (Fork r m)) = (m == c) && same_node (owner front r) (tree.parent c)
is_fork_down tree front c (Some (Join r s)) = false
is_fork_down tree front c (Some (Do r u)) = false
is_fork_down tree front c (Some (Ask r q a)) = false
is_fork_down tree front c (Some (Say r v)) = false
is_fork_down tree front c (Some (Mark r flush)) = false
is_fork_down tree front c None = false

-- is there at place k a fork, for c, of a revision of the node above it?
abbrev pub forks_down : Tree → List Step → ℕ → ℕ → Bool
forks_down tree steps c k = is_fork_down tree (take k steps) c (slice_get steps k)

-- what c did up to its flush mark at i was joined above it, and then it got a fork from there, which it
-- sees before it goes on
pub record Flushed (tree : Tree) (steps : List Step) (i : ℕ) (c : ℕ) : Type 0 where
  pub join : ℕ
  pub fork : ℕ
  pub joined : IsTrue (joins_up tree steps c i join)
  pub forked : IsTrue (forks_down tree steps c fork)
  pub later : join < fork
  pub seen : IsTrue (sees_after steps c i fork)

abbrev pub FlushLaw : Tree → List Step → Type 0
FlushLaw tree steps = AllByRecursion (λ i. MatchOption (client_at steps i) ⊤ (λ c. Flushed tree steps i c)) (flushes steps)

pub record Meeting (tree : Tree) (steps : List Step) : Type 0 where
  pub placed : Placed tree steps
  pub at_marks : AtMarks tree steps
  pub flushed : FlushLaw tree steps
