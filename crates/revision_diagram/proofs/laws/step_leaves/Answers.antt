-- The law, from its lemmas.
use Rattle.revision_diagram.proofs.Frames.{untouched_Ask, untouched_Say, untouched_Mark, untouched_Do, untouched_Fork, untouched_Join, just_forked}
use Rattle.revision_diagram.proofs.laws.step_leaves.Goals as goal

pub returns-clause-asked : goal.returns-clause-asked
returns-clause-asked c = untouched_Ask

pub returns-clause-said : goal.returns-clause-said
returns-clause-said c = untouched_Say

pub returns-clause-marked : goal.returns-clause-marked
returns-clause-marked c = untouched_Mark

pub returns-clause-done : goal.returns-clause-done
returns-clause-done c = untouched_Do

pub returns-clause-forked : goal.returns-clause-forked
returns-clause-forked c = untouched_Fork

pub returns-clause-joined : goal.returns-clause-joined
returns-clause-joined c = untouched_Join

pub returns-clause-made : goal.returns-clause-made
returns-clause-made c = just_forked
