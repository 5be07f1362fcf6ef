use Rattle.shared_map.specs.Shelves.{pointed}
use Rattle.shared_map.proofs.PlaceLemmas.{start_at_place, start_at_gap}
use Rattle.shared_map.proofs.place.start.Goals as goal

pub returns-in-Ok : goal.returns-in-Ok
returns-in-Ok g c = start_at_place g.met.K.Ord.total (pointed c.args.entries.now) c.args.key.now c.in-Ok.at c.in-Ok.ensures

pub returns-in-Err : goal.returns-in-Err
returns-in-Err g c = start_at_gap g.met.K.Ord.total (pointed c.args.entries.now) c.args.key.now c.in-Err.at c.in-Err.ensures
