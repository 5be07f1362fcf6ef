-- What some steps have drawn: the revisions that there are, their pasts and their paths.
-- A place is the number of a step, from 0. Revision 0 is the server, and is there at the start.
use Rattle.std.specs.Prelude.{ℕ, ◌+◌, Bool, true, false, cond, ◌||◌, ◌==◌, List, [], ◌∷◌, ◌++◌, length, drop, Option, Some, None}
use Rattle.revision_diagram.specs.declared.step.Step.{Step}
use Rattle.revision_diagram.specs.declared.step.Step.TheVariants.{Fork, Join, Do, Ask, Say, Mark}

pub record Diagram : Type 0 where
  -- how many steps there are, and so the place of the next one
  pub places : ℕ
  -- how many revisions there are, and so the number of the next one
  pub revisions : ℕ
  -- of a revision: whether it is live
  pub live : ℕ → Bool
  -- whose it is, and None for the server
  pub owner : ℕ → Option ℕ
  -- which places are in its past
  pub past : ℕ → ℕ → Bool
  -- its path, a list of places of Do steps
  pub path : ℕ → List ℕ
  -- the place of its fork
  pub fork : ℕ → ℕ
  -- the length that its path had at its fork
  pub fork_length : ℕ → ℕ

-- f, but v at r
abbrev pub put : {A : Type 0} → ℕ → A → (ℕ → A) → ℕ → A
put r v f x = cond (x == r) v (f x)

-- the places of a past, and place i
abbrev pub with_place : (ℕ → Bool) → ℕ → ℕ → Bool
with_place past i j = past j || (j == i)

-- the places of two pasts
abbrev pub with_past : (ℕ → Bool) → (ℕ → Bool) → ℕ → Bool
with_past past joined j = past j || joined j

-- the new revision has the next number
abbrev pub revisions_after : Diagram → Step → ℕ
revisions_after d (Fork r c) = d.revisions + 1
revisions_after d (Join r s) = d.revisions
revisions_after d (Do r u) = d.revisions
revisions_after d (Ask r q a) = d.revisions
revisions_after d (Say r v) = d.revisions
revisions_after d (Mark r flush) = d.revisions

-- a joined revision is not live afterwards
abbrev pub live_after : Diagram → Step → ℕ → Bool
live_after d (Fork r c) = put d.revisions true d.live
live_after d (Join r s) = put s false d.live
live_after d (Do r u) = d.live
live_after d (Ask r q a) = d.live
live_after d (Say r v) = d.live
live_after d (Mark r flush) = d.live

-- a fork's new revision is its client's
abbrev pub owner_after : Diagram → Step → ℕ → Option ℕ
owner_after d (Fork r c) = put d.revisions (Some c) d.owner
owner_after d (Join r s) = d.owner
owner_after d (Do r u) = d.owner
owner_after d (Ask r q a) = d.owner
owner_after d (Say r v) = d.owner
owner_after d (Mark r flush) = d.owner

-- A step on r adds its own place. A fork adds its place to r's past, and gives the new revision that
-- past. A join adds to r's past s's past and its own place.
abbrev pub past_after : Diagram → Step → ℕ → ℕ → Bool
past_after d (Fork r c) = put d.revisions (with_place (d.past r) d.places) (put r (with_place (d.past r) d.places) d.past)
past_after d (Join r s) = put r (with_place (with_past (d.past r) (d.past s)) d.places) d.past
past_after d (Do r u) = put r (with_place (d.past r) d.places) d.past
past_after d (Ask r q a) = put r (with_place (d.past r) d.places) d.past
past_after d (Say r v) = put r (with_place (d.past r) d.places) d.past
past_after d (Mark r flush) = put r (with_place (d.past r) d.places) d.past

-- A Do appends its place. A fork gives the new revision the path of r. A join appends to r's path what
-- s's path has past the length that it had at s's fork.
abbrev pub path_after : Diagram → Step → ℕ → List ℕ
path_after d (Fork r c) = put d.revisions (d.path r) d.path
path_after d (Join r s) = put r (d.path r ++ drop (d.fork_length s) (d.path s)) d.path
path_after d (Do r u) = put r (d.path r ++ d.places ∷ []) d.path
path_after d (Ask r q a) = d.path
path_after d (Say r v) = d.path
path_after d (Mark r flush) = d.path

abbrev pub fork_after : Diagram → Step → ℕ → ℕ
fork_after d (Fork r c) = put d.revisions d.places d.fork
fork_after d (Join r s) = d.fork
fork_after d (Do r u) = d.fork
fork_after d (Ask r q a) = d.fork
fork_after d (Say r v) = d.fork
fork_after d (Mark r flush) = d.fork

abbrev pub fork_length_after : Diagram → Step → ℕ → ℕ
fork_length_after d (Fork r c) = put d.revisions (length (d.path r)) d.fork_length
fork_length_after d (Join r s) = d.fork_length
fork_length_after d (Do r u) = d.fork_length
fork_length_after d (Ask r q a) = d.fork_length
fork_length_after d (Say r v) = d.fork_length
fork_length_after d (Mark r flush) = d.fork_length

-- the diagram with one step more
abbrev pub after : Diagram → Step → Diagram
after d s = record {
  places = d.places + 1;
  revisions = revisions_after d s;
  live = live_after d s;
  owner = owner_after d s;
  past = past_after d s;
  path = path_after d s;
  fork = fork_after d s;
  fork_length = fork_length_after d s;
}

-- the server alone
abbrev pub start : Diagram
start = record {
  places = 0;
  revisions = 1;
  live = λ r. r == 0;
  owner = λ r. None;
  past = λ r i. false;
  path = λ r. [];
  fork = λ r. 0;
  fork_length = λ r. 0;
}

abbrev pub diagram_from : Diagram → List Step → Diagram
diagram_from d [] = d
diagram_from d (s ∷ steps) = diagram_from (after d s) steps

-- what the steps have drawn
abbrev pub diagram : List Step → Diagram
diagram steps = diagram_from start steps

-- how many revisions there are after the steps
abbrev pub revisions : List Step → ℕ
revisions steps = (diagram steps).revisions

abbrev pub live : List Step → ℕ → Bool
live steps r = (diagram steps).live r

abbrev pub owner : List Step → ℕ → Option ℕ
owner steps r = (diagram steps).owner r

-- is place i in the past of r?
abbrev pub past : List Step → ℕ → ℕ → Bool
past steps r i = (diagram steps).past r i

abbrev pub path : List Step → ℕ → List ℕ
path steps r = (diagram steps).path r

-- the place of r's fork
abbrev pub fork : List Step → ℕ → ℕ
fork steps r = (diagram steps).fork r

-- the length of r's path at its fork
abbrev pub fork_length : List Step → ℕ → ℕ
fork_length steps r = (diagram steps).fork_length r

-- is it of c?
abbrev pub is_of : ℕ → Option ℕ → Bool
is_of c (Some m) = m == c
is_of c None = false

-- the revision on which a client acts
abbrev pub acts_on : Step → Option ℕ
acts_on (Fork r c) = None
acts_on (Join r s) = None
acts_on (Do r u) = Some r
acts_on (Ask r q a) = Some r
acts_on (Say r v) = Some r
acts_on (Mark r flush) = Some r

-- P at each step, told the steps before it
abbrev pub EachFrom : (List Step → Step → Type 0) → List Step → List Step → Type 0
EachFrom P front [] = Unit {0}
EachFrom P front (s ∷ rest) = P front s × EachFrom P (front ++ s ∷ []) rest

abbrev pub EachStep : (List Step → Step → Type 0) → List Step → Type 0
EachStep P steps = EachFrom P [] steps

-- P of each prefix
abbrev pub PrefixesFrom : (List Step → Type 0) → List Step → List Step → Type 0
PrefixesFrom P front [] = P front
PrefixesFrom P front (s ∷ rest) = P front × PrefixesFrom P (front ++ s ∷ []) rest

abbrev pub EachPrefix : (List Step → Type 0) → List Step → Type 0
EachPrefix P steps = PrefixesFrom P [] steps

-- the places of the steps that pass, told the steps before it
abbrev pub places_from : (List Step → Step → Bool) → List Step → List Step → List ℕ
places_from test front [] = []
places_from test front (s ∷ rest) = cond (test front s) (length front ∷ []) [] ++ places_from test (front ++ s ∷ []) rest

abbrev pub places_of : (List Step → Step → Bool) → List Step → List ℕ
places_of test steps = places_from test [] steps
