use Rattle.std.proofs.Common.{◌≡◌, FitsSigned, rules, to_z, of_z, subst, sym, [], ◌∷◌, ◌++◌, ◌+ℤ◌, ℤ, pos, true}
use Rattle.std.specs.Int.{w64, int_wrap}
use Rattle.std.proofs.lemmas.Int.{to_z-of_z}
use Rattle.fj_core.specs.declared.int_cell.IntChange.{IntChange}
use Rattle.fj_core.specs.declared.int_cell.IntChange.TheVariants.{Add, Set}
use Rattle.fj_core.specs.IntCells.{StandsWith}
use Rattle.fj_core.specs.IntLaws.{StandsWith-one, StandsWith-one_set}
use Rattle.fj_core.proofs.int_cell.IntCellForkJoin.update.Goals as goal

pub returns-in-Add : goal.returns-in-Add
returns-in-Add c base delta h =
    let s = c.args.self.now in
    let n = c.in-Add.number in
    let fits : FitsSigned w64 c.sum-self.result = search rules in
    let first : FitsSigned w64 s.difference = search rules in
    let second : FitsSigned w64 n = search rules in
    let e = to_z-of_z w64 c.sum-self.result fits in
    let f = to_z-of_z w64 s.difference first in
    let g = to_z-of_z w64 n second in
    let sum = c.sum-self.ensures in
    let is : int_wrap w64 (s.difference +ℤ n) ≡ to_z w64 (of_z w64 c.sum-self.result) = cc in
    subst (λ (change : IntChange). StandsWith s.was_set s.base (to_z w64 (of_z w64 c.sum-self.result)) base (delta ++ change ∷ [])) (sym c.in-Add.is)
    (subst (λ (z : ℤ). StandsWith s.was_set s.base z base (delta ++ Add n ∷ [])) is (StandsWith-one s.was_set s.base s.difference n base delta h))

pub returns-in-Set : goal.returns-in-Set
returns-in-Set c base delta h =
    let n = c.in-Set.number in
    let fits : FitsSigned w64 n = search rules in
    subst (λ (change : IntChange). StandsWith true (to_z w64 (of_z w64 n)) (pos 0) base (delta ++ change ∷ [])) (sym c.in-Set.is)
    (subst (λ (z : ℤ). StandsWith true z (pos 0) base (delta ++ Set n ∷ [])) (sym (to_z-of_z w64 n fits)) (StandsWith-one_set n base delta))
