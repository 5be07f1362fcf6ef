use Rattle.std.proofs.Common.{FitsSigned, rules}
use Rattle.std.specs.Int.{w64}
use Rattle.std.proofs.lemmas.Int.{to_z-of_z}
use Rattle.fj_core.specs.IntLaws.{StandsWith-ask}
use Rattle.fj_core.proofs.int_cell.IntCellForkJoin.ask.Goals as goal

pub returns : goal.returns
returns c base delta h =
    let s = c.args.self.now in
    let fits : FitsSigned w64 c.sum.result = search rules in
    let start : FitsSigned w64 s.base = search rules in
    let more : FitsSigned w64 s.difference = search rules in
    let said = StandsWith-ask s.was_set s.base s.difference base delta h in
    let e = to_z-of_z w64 c.sum.result fits in
    let f = to_z-of_z w64 s.base start in
    let g = to_z-of_z w64 s.difference more in
    let k = c.sum.ensures in
    cc
