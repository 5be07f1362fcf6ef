-- One line more.
use Rattle.std.proofs.Common.{◌≡◌, ◌∙◌, ◌++◌, ap, List, ℕ}
use Rattle.step_text.specs.Text.{step_line}
use Rattle.cloud_base.specs.declared.schema.Schema.{Schema}
use Rattle.diagram_text.proofs.Drawings.{line_more}
use Rattle.diagram_text.proofs.sink.StepLinesStepSink.take.Goals as goal

pub returns : goal.returns
returns c first steps took next =
    let schema : Schema = c.args.self.now.schema.now in
    let names : List (List ℕ) = c.args.self.now.names.now in
    let text : List ℕ = c.args.self.now.text.items in
    let same : schema ≡ first.schema.now = ap (λ s. s.now) took.0 in
    let alike : names ≡ first.names.now = ap (λ n. n.now) took.1 in
    let line : c.deref.result.now ≡ step_line first.schema.now first.names.now c.args.next c.args.step =
    c.deref.ensures.value ∙ c.in_ok-line.ensures
    ∙ ap (λ (s : Schema). step_line s names c.from.result c.args.step) same
    ∙ ap (λ (n : List (List ℕ)). step_line first.schema.now n c.from.result c.args.step) alike
    ∙ ap (λ (n : ℕ). step_line first.schema.now first.names.now n c.args.step) c.from.ensures in
    (took.0, took.1, c.in_ok-extend_from_slice.ensures.items ∙ ap (λ (l : List ℕ). text ++ l) line ∙ line_more first.schema.now first.names.now c.args.next first.text.items text steps c.args.step took.2 next)
