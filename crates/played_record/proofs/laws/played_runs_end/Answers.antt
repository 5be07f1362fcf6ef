-- The laws, from their lemmas.
use Rattle.std.specs.Prelude.{length}
use Rattle.cloud_base.specs.Answer.{answer}
use Rattle.played_record.specs.Programs.{trace_of, most_of}
use Rattle.played_record.proofs.Ending.{sweeps_end}
use Rattle.played_record.proofs.Least.{has_record, program_bounded}
use Rattle.played_record.proofs.Programs.{program_goes_on}
use Rattle.played_record.proofs.laws.played_runs_end.Goals as goal

pub returns-clause-ended : goal.returns-clause-ended
returns-clause-ended c = λ answers trace schedule n most goes few. sweeps_end answers trace most schedule n goes few

pub returns-clause-some : goal.returns-clause-some
returns-clause-some c = has_record

pub returns-clause-program : goal.returns-clause-program
returns-clause-program c = λ p. has_record (answer p.schema) (trace_of p) p.schedule (length p.bodies) (most_of p) (program_goes_on p) (program_bounded p)

pub returns-clause-bounded : goal.returns-clause-bounded
returns-clause-bounded c = program_bounded
