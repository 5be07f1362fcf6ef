-- Every update stands once on each path that reaches it, after all that its revision had seen.
use Rattle.std.specs.Prelude.{◌≡◌, ℕ, Bool, true, false, cond, ◌&&◌, not, ◌==◌, List, [], ◌∷◌, ◌++◌, take, drop, slice_get, Option, Some, None, IsTrue}
use Rattle.std.specs.List.{count_by, list_any, list_all}
use Rattle.revision_diagram.specs.declared.step.Step.{Step}
use Rattle.revision_diagram.specs.declared.step.Step.TheVariants.{Fork, Join, Do, Ask, Say, Mark}
use Rattle.revision_diagram.specs.Diagram.{EachPrefix, live, past, path, fork_length}

-- is place i on the path?
abbrev pub stands_on : List ℕ → ℕ → Bool
stands_on places i = list_any (λ j. j == i) places

-- how often place i stands on the path
abbrev pub times_on : List ℕ → ℕ → ℕ
times_on places i = count_by (λ j. j == i) places

-- the revision of a Do step
abbrev pub does_on : Option Step → Option ℕ
does_on (Some (Do r u)) = Some r
does_on (Some (Fork r c)) = None
does_on (Some (Join r s)) = None
does_on (Some (Ask r q a)) = None
does_on (Some (Say r v)) = None
does_on (Some (Mark r flush)) = None
does_on None = None

abbrev pub is_some_revision : Option ℕ → Bool
is_some_revision (Some r) = true
is_some_revision None = false

-- does the step at place i update?
abbrev pub is_do : List Step → ℕ → Bool
is_do steps i = is_some_revision (does_on (slice_get steps i))

-- each Do place in r's past stands once on its path, and no other place stands there
abbrev pub StandsOnce : List Step → ℕ → Type 0
StandsOnce steps r = (i : ℕ) → times_on (path steps r) i ≡ cond (past steps r i && is_do steps i) 1 0

abbrev pub path_of : List Step → Option ℕ → List ℕ
path_of front (Some r) = path front r
path_of front None = []

-- the path of the revision of the Do step at place i, just before it
abbrev pub seen_at : List Step → ℕ → List ℕ
seen_at steps i = path_of (take i steps) (does_on (slice_get steps i))

-- on the rest of a path, behind what is before it: each place comes after all that its revision had seen
abbrev pub follows_seen : List Step → List ℕ → List ℕ → Bool
follows_seen steps before [] = true
follows_seen steps before (i ∷ places) = list_all (stands_on before) (seen_at steps i) && follows_seen steps (before ++ i ∷ []) places

-- each place on r's path comes after all that its own revision's path had just before it
abbrev pub AfterSeen : List Step → ℕ → Type 0
AfterSeen steps r = IsTrue (follows_seen steps [] (path steps r))

abbrev pub AllStandOnce : List Step → Type 0
AllStandOnce steps = (r : ℕ) → IsTrue (live steps r) → StandsOnce steps r × AfterSeen steps r

abbrev pub Once : List Step → Type 0
Once steps = EachPrefix AllStandOnce steps

-- What s's path had at its fork stands on r's path, and nothing that it has past that does. It is said of
-- a join, and is what a join needs to keep each place once.
abbrev pub joins_apart : List Step → Step → Bool
joins_apart front (Join r s) = list_all (stands_on (path front r)) (take (fork_length front s) (path front s)) && list_all (λ i. not (stands_on (path front r) i)) (drop (fork_length front s) (path front s))
joins_apart front (Fork r c) = true
joins_apart front (Do r u) = true
joins_apart front (Ask r q a) = true
joins_apart front (Say r v) = true
joins_apart front (Mark r flush) = true
