use Rattle.code_machine.proofs.Ending.{end_once}
use Rattle.code_machine.proofs.laws.runs_end_once.Goals as goal

pub returns : goal.returns
returns c = end_once
