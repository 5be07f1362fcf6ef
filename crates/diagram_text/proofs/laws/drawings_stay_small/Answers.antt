-- The steps are of the schema's shape.
use Rattle.cloud_base.specs.Shaped.{IsShapedEvent}
use Rattle.batch_history.specs.Batches.{did}
use Rattle.record_diagram.specs.Steps.{steps_of}
use Rattle.step_text.specs.Legible.{IsStep}
use Rattle.std.proofs.lemmas.List.Elements.{All-from_recursion, recursion_from_All}
use Rattle.diagram_text.proofs.Fits.{steps_fit}
use Rattle.diagram_text.proofs.laws.drawings_stay_small.Goals as goal

pub returns : goal.returns
returns c schema names batches tails named few_clients few_batches mine is = All-from_recursion (IsStep schema names) (steps_of batches tails)
    (steps_fit schema names batches tails named few_clients few_batches mine (λ c. recursion_from_All (IsShapedEvent schema) (did batches tails c) (is c)))
