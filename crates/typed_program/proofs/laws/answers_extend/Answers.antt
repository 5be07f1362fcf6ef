use Rattle.typed_program.proofs.Next.{all_asked, all_answered}
use Rattle.typed_program.proofs.Traces.{trace_extends, trace_in_order}
use Rattle.typed_program.proofs.laws.answers_extend.Goals as goal

pub returns : goal.returns
returns c = record { extends = trace_extends; in_order = trace_in_order; asked = all_asked; answered = all_answered }
