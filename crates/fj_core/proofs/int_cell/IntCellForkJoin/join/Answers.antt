use Rattle.std.proofs.Common.{◌≡◌, FitsSigned, rules, to_z, of_z, subst, ◌++◌, ◌+ℤ◌, ℤ}
use Rattle.std.specs.Int.{w64, int_wrap}
use Rattle.std.proofs.lemmas.Int.{to_z-of_z}
use Rattle.fj_core.specs.IntCells.{StandsWith}
use Rattle.fj_core.specs.IntLaws.{StandsWith-set, StandsWith-add}
use Rattle.fj_core.proofs.int_cell.IntCellForkJoin.join.Goals as goal

pub returns-then-child : goal.returns-then-child
returns-then-child c base delta before after h k =
    let s = c.args.child.now in
    let start : FitsSigned w64 s.base = search rules in
    let more : FitsSigned w64 s.difference = search rules in
    let e = to_z-of_z w64 s.base start in
    let f = to_z-of_z w64 s.difference more in
    let said = StandsWith-set s.was_set s.base s.difference base delta before after c.if-child.true k in
    (said.0, cc)

pub returns-else-child : goal.returns-else-child
returns-else-child c base delta before after h k =
    let s = c.args.self.now in
    let t = c.args.child.now in
    let fits : FitsSigned w64 c.sum-self.result = search rules in
    let first : FitsSigned w64 s.difference = search rules in
    let second : FitsSigned w64 t.difference = search rules in
    let e = to_z-of_z w64 c.sum-self.result fits in
    let f = to_z-of_z w64 s.difference first in
    let g = to_z-of_z w64 t.difference second in
    let sum = c.sum-self.ensures in
    let is : int_wrap w64 (s.difference +ℤ t.difference) ≡ to_z w64 (of_z w64 c.sum-self.result) = cc in
    subst (λ (z : ℤ). StandsWith s.was_set s.base z base (delta ++ after)) is
    (StandsWith-add s.was_set t.was_set s.base s.difference t.base t.difference base delta before after c.if-child.false h k)
