use Rattle.std.proofs.Common.{FitsSigned, rules, sym, ◌∙◌, ap, [], ◌∷◌, to_z, of_z, ℤ}
use Rattle.std.specs.Prelude.{Some}
use Rattle.std.specs.Int.{w64}
use Rattle.std.proofs.lemmas.Int.{to_z-of_z}
use Rattle.fj_core.specs.declared.effect.Effect.TheVariants as effects
use Rattle.fj_core.specs.declared.int_cell.IntChange.TheVariants.{Add, Set}
use Rattle.fj_core.specs.IntCells.{int_effect}
use Rattle.fj_core.specs.IntLaws.{IntStands-effect, effect_of_add, effect_of_set}
use Rattle.fj_core.proofs.int_cell.IntCellForkJoin.join_effect.Goals as goal

pub returns-in-Add : goal.returns-in-Add
returns-in-Add c base delta more h e =
    let n = c.get.result in
    let fits : FitsSigned w64 n = search rules in
    let same = ap (λ (x : ℤ). int_effect (Add x ∷ [])) (to_z-of_z w64 n fits) ∙ effect_of_add n fits c.get.ensures.other
    ∙ ap (λ (x : ℤ). Some (effects.Add x)) c.get.ensures.number ∙ ap Some (sym c.in-Add.is) ∙ sym e in
    IntStands-effect c.update.new.self base delta (Add (to_z w64 (of_z w64 n)) ∷ []) more same (c.update.ensures base delta h)

pub returns-in-SetInt : goal.returns-in-SetInt
returns-in-SetInt c base delta more h e =
    let n = c.in-SetInt.number in
    let fits : FitsSigned w64 n = search rules in
    let same = ap (λ (x : ℤ). int_effect (Set x ∷ [])) (to_z-of_z w64 n fits) ∙ effect_of_set n fits
    ∙ ap Some (sym c.in-SetInt.is) ∙ sym e in
    IntStands-effect c.update-in-SetInt.new.self base delta (Set (to_z w64 (of_z w64 n)) ∷ []) more same (c.update-in-SetInt.ensures base delta h)
