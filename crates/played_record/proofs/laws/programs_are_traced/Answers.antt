-- The laws, from their lemmas.
use Rattle.std.specs.Prelude.{length}
use Rattle.cloud_base.specs.Answer.{answer}
use Rattle.played_record.specs.Programs.{trace_of}
use Rattle.played_record.proofs.Programs.{program_goes_on}
use Rattle.played_record.proofs.Records.{played_traced}
use Rattle.played_record.proofs.laws.programs_are_traced.Goals as goal

pub returns-clause-goes_on : goal.returns-clause-goes_on
returns-clause-goes_on c = program_goes_on

pub returns-clause-traced : goal.returns-clause-traced
returns-clause-traced c = λ p batches tails ends played.
    played_traced (answer p.schema) (trace_of p) p.schedule (length p.bodies) batches tails ends (program_goes_on p) played
