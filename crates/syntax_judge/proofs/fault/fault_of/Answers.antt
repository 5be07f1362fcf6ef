use Rattle.syntax_judge.proofs.Faults.{found_exact}
use Rattle.syntax_judge.proofs.fault.fault_of.Goals as goal

pub returns : goal.returns
returns c =
    let exact = found_exact c.args.text.now c.args.found.now c.as_slice.result.now c.in_ok-verdict.verdict c.place_told.result c.requires c.as_slice.ensures c.in_ok-verdict.ensures c.place_told.ensures in
    record { none = exact.none; place = exact.place; within = exact.within }
