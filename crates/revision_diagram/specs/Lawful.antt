-- Which steps may come after which.
use Rattle.std.specs.Prelude.{Bool, ◌&&◌, not, ◌==◌, List, IsTrue}
use Rattle.revision_diagram.specs.declared.step.Step.{Step}
use Rattle.revision_diagram.specs.declared.step.Step.TheVariants.{Fork, Join, Do, Ask, Say, Mark}
use Rattle.revision_diagram.specs.Diagram.{EachStep, live, past, fork}

-- The revisions that a step names are live. A joined one is neither the server nor the joiner, and the
-- place of its fork is in the joiner's past.
abbrev pub is_lawful : List Step → Step → Bool
is_lawful front (Fork r c) = live front r
is_lawful front (Join r s) = live front r && live front s && not (s == 0) && not (s == r) && past front r (fork front s)
is_lawful front (Do r u) = live front r
is_lawful front (Ask r q a) = live front r
is_lawful front (Say r v) = live front r
is_lawful front (Mark r flush) = live front r

-- each step is lawful after those before it
abbrev pub Lawful : List Step → Type 0
Lawful steps = EachStep (λ front s. IsTrue (is_lawful front s)) steps
