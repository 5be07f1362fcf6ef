use Rattle.std.proofs.Common.{sym, ap, ◌∙◌, [], ◌∷◌, ◌++◌, rules}
use Rattle.std.specs.Prelude.{◌+ℤ◌, FitsSigned}
use Rattle.std.specs.Int.{w64, int_wrap}
use Rattle.std.proofs.lemmas.Int.{wrapping_add_is}
use Rattle.cloud_base.specs.PlainCell.{plain_int}
use Rattle.cloud_base.specs.declared.update.CellChange.{CellChange}
use Rattle.plain_answer.proofs.cells.int_after.Goals as goal

pub returns-in-Add : goal.returns-in-Add
returns-in-Add c =
    let n = c.in-Add.number in
    let fits : FitsSigned w64 c.in-Add.number = search rules in
    λ changes e.
    wrapping_add_is w64 c.args.value n c.ranges.value fits
    ∙ ap (λ v. int_wrap w64 (v +ℤ n)) e
    ∙ sym (c.plain_steps.ensures.add changes n)
    ∙ ap (λ (ch : CellChange). plain_int (changes ++ ch ∷ [])) (sym c.in-Add.is)
