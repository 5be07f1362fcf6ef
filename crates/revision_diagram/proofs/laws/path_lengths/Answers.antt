-- The law, from its lemmas.
use Rattle.revision_diagram.proofs.Frames.{fork_length-within, log-length}
use Rattle.revision_diagram.proofs.laws.path_lengths.Goals as goal

pub returns-clause-fork : goal.returns-clause-fork
returns-clause-fork c = fork_length-within

pub returns-clause-log : goal.returns-clause-log
returns-clause-log c = log-length
