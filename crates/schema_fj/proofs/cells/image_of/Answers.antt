use Rattle.schema_fj.proofs.Images.{no_images}
use Rattle.schema_fj.proofs.cells.image_of.Goals as goal

pub new-requires-else-are_ordered-4 : goal.new-requires-else-are_ordered-4
new-requires-else-are_ordered-4 c =
    no_images c.new-else-are_ordered.result c.new-else-are_ordered-2.result c.new-else-are_ordered-3.result c.new-else-are_ordered.ensures c.new-else-are_ordered-2.ensures c.new-else-are_ordered-3.ensures
