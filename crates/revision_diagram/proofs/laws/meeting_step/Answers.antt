-- The law, from the lemmas on one step more.
use Rattle.std.specs.Prelude.{IsTrue}
use Rattle.revision_diagram.specs.Meeting.{is_placed, is_at_mark}
use Rattle.revision_diagram.proofs.Places.{EachStep-more}
use Rattle.revision_diagram.proofs.Stories.{flushes-step}
use Rattle.revision_diagram.proofs.Kept.{FlushLaw-none}
use Rattle.revision_diagram.proofs.Stories.{is_marked-Mark}
use Rattle.revision_diagram.proofs.Stories.{is_marked-kept}
use Rattle.revision_diagram.proofs.laws.meeting_step.Goals as goal

pub returns-clause-placed : goal.returns-clause-placed
returns-clause-placed c = λ tree steps s. EachStep-more (λ front t. IsTrue (is_placed tree front t)) steps s

pub returns-clause-at_marks : goal.returns-clause-at_marks
returns-clause-at_marks c = λ tree steps s. EachStep-more (λ front t. IsTrue (is_at_mark tree front t)) steps s

pub returns-clause-flushes : goal.returns-clause-flushes
returns-clause-flushes c = flushes-step

pub returns-clause-none : goal.returns-clause-none
returns-clause-none c = FlushLaw-none

pub returns-clause-marked : goal.returns-clause-marked
returns-clause-marked c = is_marked-Mark

pub returns-clause-unmarked : goal.returns-clause-unmarked
returns-clause-unmarked c = is_marked-kept
