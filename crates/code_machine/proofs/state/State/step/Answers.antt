use Rattle.std.proofs.Common.{refl, sym, ◌∙◌, subst}
use Rattle.code_machine.proofs.Stepping.{at_place, stepped_over, stepped_on}
use Rattle.code_machine.specs.Steps.{Steps}
use Rattle.code_machine.proofs.state.State.step.Goals as goal
use Rattle.code_machine.proofs.state.State.step.Goals.{then-is_over, else-is_over}

pub returns : goal.returns
returns c =
    let there = at_place c.args.instructions.now c.args.self.now.place c.requires.instruction c.index-instructions-place.result c.requires.is c.index-instructions-place.is in
    elim c.if-is_over.branch [
      | then-is_over w ↦ subst (λ s. Steps c.args.instructions.now c.args.self.now s c.in_ok-need.need) (sym w.self-is) (stepped_over c.args.instructions.now c.args.self.now _ _ c.in_ok-need.need c.index-instructions-place.result there refl (sym c.is_over.ensures ∙ w.if-is_over.true) c.in_ok-need.ensures)
      | else-is_over w ↦ subst (λ s. Steps c.args.instructions.now c.args.self.now s c.in_ok-need.need) (sym w.self-is) (stepped_on c.args.instructions.now c.args.self.now _ _ c.in_ok-need.need c.index-instructions-place.result there refl (sym c.is_over.ensures ∙ w.if-is_over.false) c.in_ok-need.ensures)
    ]
