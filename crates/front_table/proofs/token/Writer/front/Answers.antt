use Rattle.std.proofs.Common.{rules}
use Rattle.front_table.proofs.Steps.{looks, copies}
use Rattle.front_table.proofs.token.Writer.front.Goals as goal

pub load-count-requires : goal.load-count-requires
load-count-requires g c = (search rules, search rules, looks _ _ _ _ (search rules))

pub split_seat-seat-requires : goal.split_seat-seat-requires
split_seat-seat-requires g c = (search rules, search rules, copies _ _ (search rules))
