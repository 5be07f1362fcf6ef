use Rattle.std.proofs.Common.{rules}
use Rattle.front_table.proofs.Steps.{copies}
use Rattle.front_table.proofs.token.Front.copy.Goals as goal

pub split_seat-seat-requires : goal.split_seat-seat-requires
split_seat-seat-requires g c = (search rules, search rules, copies _ _ (search rules))
