use Rattle.std.proofs.Common.{FitsSigned, rules}
use Rattle.std.specs.Int.{w64}
use Rattle.std.proofs.lemmas.Int.{to_z-of_z}
use Rattle.fj_core.specs.IntLaws.{StandsWith-effect}
use Rattle.fj_core.proofs.int_cell.IntCellForkJoin.effect.Goals as goal

pub returns-then-self : goal.returns-then-self
returns-then-self c base delta h =
    let s = c.args.self.now in
    let fits : FitsSigned w64 c.ask.result = search rules in
    let e = to_z-of_z w64 c.ask.result fits in
    let k = c.ask.ensures base delta h in
    let said = StandsWith-effect s.was_set s.base s.difference base delta c.if-self.true h in
    cc
