use Rattle.std.proofs.Common.{arith}
use Rattle.std.proofs.lemmas.Grind.{common_steps}
use Rattle.cloud_base.specs.Answer.{answer}
use Rattle.plain_answer.proofs.answer.Goals as goal
use Rattle.plain_answer.proofs.answer.Goals.{in-Get, in-All+in_ok-all_ids-in-All, in-Entries+in_ok-entries-in-Entries, in-Alive}

pub returns : goal.returns
unfolding answer
returns c = elim c.match-query.branch [
  | in-Get w ↦ grind (arith, common_steps)
  | in-All+in_ok-all_ids-in-All w ↦ grind (arith, common_steps)
  | in-Entries+in_ok-entries-in-Entries w ↦ grind (arith, common_steps)
  | in-Alive w ↦ grind (arith, common_steps)
]
