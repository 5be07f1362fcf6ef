-- What holds of each answer and the log of its revision.
use Rattle.std.specs.Prelude.{Bool, IsTrue, List, ⊤}
use Rattle.cloud_base.specs.declared.update.Answer.{Answer}
use Rattle.cloud_base.specs.declared.update.Query.{Query}
use Rattle.cloud_base.specs.declared.update.Update.{Update}
use Rattle.revision_diagram.specs.declared.step.Step.{Step}
use Rattle.revision_diagram.specs.declared.step.Step.TheVariants.{Fork, Join, Do, Ask, Say, Mark}
use Rattle.revision_diagram.specs.Right.{log}

-- an answer is one of what its revision logs
abbrev pub AnswerAt : (List Update → Query → Answer → Type 0) → List Step → Step → Type 0
AnswerAt is_answer front (Ask r q a) = is_answer (log front r) q a
AnswerAt is_answer front (Fork r c) = ⊤
AnswerAt is_answer front (Join r s) = ⊤
AnswerAt is_answer front (Do r u) = ⊤
AnswerAt is_answer front (Say r v) = ⊤
AnswerAt is_answer front (Mark r flush) = ⊤

-- of a log, a query and an answer
abbrev pub Passes : (List Update → Query → Answer → Bool) → List Update → Query → Answer → Type 0
Passes test log q a = IsTrue (test log q a)
