-- What is left of a listing.
use Rattle.std.specs.Vec.Iter.{into_iter_items}
use Rattle.cloud_base.specs.declared.update.Answer.{Answer}
use Rattle.cloud_base.specs.declared.update.Answer.TheVariants as answer
use Rattle.code_machine.specs.declared.listing.Left.{Left}
use Rattle.code_machine.specs.declared.listing.Left.TheVariants.{Ids, Tuples}

-- the answer that lists it
abbrev pub listing_of : Left → Answer
listing_of (Ids ids) = answer.Ids (into_iter_items ids)
listing_of (Tuples tuples) = answer.Tuples (into_iter_items tuples)
