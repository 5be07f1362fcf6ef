use Rattle.std.proofs.Common.{subst}
use Rattle.syntax_judge.proofs.Judged.{judged_right, judged_is}
use Rattle.syntax_judge.proofs.laws.one_verdict.Goals as goal
use Rattle.syntax_judge.specs.Programs.{JudgeAnswers}

pub returns : goal.returns
returns c kinds verdict = (judged_is kinds verdict, λ e. subst (JudgeAnswers kinds) e (judged_right kinds))
