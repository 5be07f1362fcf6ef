-- Steps and ends, one behind the other.
use Rattle.std.proofs.Common.{◌≡◌, ◌∙◌, ◌++◌, ap, ℕ, List}
use Rattle.cloud_base.specs.declared.end.End.{End}
use Rattle.step_text.specs.Text.{ends_text}
use Rattle.diagram_text.proofs.diagram.record_lines.Goals as goal

pub returns : goal.returns
returns c =
    let ends : c.deref.result.now ≡ ends_text c.args.names.now 0 c.args.history.now.ends = c.deref.ensures.value ∙ c.in_ok-ends.ensures ∙ ap (λ (l : List End). ends_text c.args.names.now 0 l) c.as_slice.ensures in
    c.in_ok-extend_from_slice.ensures.items
    ∙ ap (λ (l : List ℕ). c.in_ok-text.text.items ++ l) ends
    ∙ ap (λ (l : List ℕ). l ++ ends_text c.args.names.now 0 c.args.history.now.ends) c.in_ok-text.ensures
