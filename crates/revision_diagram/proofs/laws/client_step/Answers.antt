-- The law, from its lemmas.
use Rattle.revision_diagram.proofs.Frames.{client_at-kept, client_at-last}
use Rattle.revision_diagram.proofs.laws.client_step.Goals as goal

pub returns-clause-kept : goal.returns-clause-kept
returns-clause-kept c = client_at-kept

pub returns-clause-last : goal.returns-clause-last
returns-clause-last c = client_at-last
