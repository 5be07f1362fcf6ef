-- The text was empty before.
use Rattle.std.proofs.Common.{◌≡◌, ◌∙◌, ◌++◌, refl, sym, ap, ℕ, List, [], append-nil}
use Rattle.record_diagram.specs.Steps.{steps_of}
use Rattle.step_text.specs.Text.{steps_text}
use Rattle.diagram_text.specs.declared.sink.StepLines.{StepLines}
use Rattle.diagram_text.proofs.diagram.step_lines.Goals as goal

pub returns : goal.returns
returns c =
    let first : StepLines = record { schema = c.args.schema; names = c.args.names; text = c.new.result } in
    let steps = steps_of c.args.history.now.batches c.args.history.now.tails in
    let taken = c.in_ok-draw.ensures first (refl, refl, sym (append-nil c.new.result.items)) in
    taken.2 ∙ ap (λ (l : List ℕ). l ++ steps_text c.args.schema.now c.args.names.now 1 steps) c.new.ensures.items
