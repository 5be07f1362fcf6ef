use Rattle.syntax_judge.proofs.Faults.{place_exact}
use Rattle.syntax_judge.proofs.laws.one_fault.Goals as goal

pub returns : goal.returns
returns c = record {
  source = λ text. ((place_exact text).none.1, (place_exact text).none.0);
  fault = λ text place. (((place_exact text).place place).1, ((place_exact text).place place).0);
}
