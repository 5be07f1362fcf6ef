use Rattle.syntax_judge.specs.Faults.{fault_place}
use Rattle.cloud_parse.proofs.OneAnswer.{one_answer}
use Rattle.cloud_parse.proofs.source.one_answer.Goals as goal

pub returns : goal.returns
returns c = one_answer (record { trees = c.one_tree.ensures.trees; place = fault_place; fault = c.one_fault.ensures.fault })
