-- Their steps are of the schema's shape.
use Rattle.record_diagram.specs.Steps.{steps_of}
use Rattle.diagram_text.proofs.laws.reports_tell_records.Goals as goal

pub returns : goal.returns
returns c schema names batches tails ends legible named few_clients few_batches mine is are_ends =
    c.reports_tell_steps.ensures schema names (steps_of batches tails) ends legible (c.drawings_stay_small.ensures schema names batches tails named few_clients few_batches mine is) are_ends
