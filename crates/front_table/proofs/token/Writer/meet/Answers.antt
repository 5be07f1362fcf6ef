use Rattle.std.proofs.Common.{rules}
use Rattle.front_table.proofs.Steps.{looks, meets}
use Rattle.front_table.proofs.token.Writer.meet.Goals as goal

pub join_seat-requires : goal.join_seat-requires
join_seat-requires g c = (search rules, search rules, search rules, search rules, meets _ _ _ _ (search rules) (search rules))

pub load-requires : goal.load-requires
load-requires g c = (search rules, search rules, looks _ _ _ _ (search rules))
