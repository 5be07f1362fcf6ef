use Rattle.shared_map.specs.Shelves.{pointed, on_shelf, unflagged}
use Rattle.shared_map.proofs.LaidLemmas.{ascends_laid, ascends_unflagged}
use Rattle.shared_map.proofs.map.SharedMap.in_order.Goals as goal

pub returns : goal.returns
returns g c =
    let o = g.met.K.Ord.total in
    let inside = c.self.inside in
    rw (← c.self.view_is) (ascends_laid o (pointed inside.own.items) (unflagged inside.gone (on_shelf inside.shelf))
    (ascends_unflagged o inside.gone (on_shelf inside.shelf) c.self.invariant.shelf_sorted))
