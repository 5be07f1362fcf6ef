use Rattle.std.proofs.Common.{◌∙◌, ap}
use Rattle.std.proofs.lemmas.List.{map-set}
use Rattle.std.specs.Arc.{arc_value}
use Rattle.shared_map.specs.Shelves.{pointed}
use Rattle.shared_map.proofs.PlaceLemmas.{pointed_insert}
use Rattle.shared_map.proofs.EditLemmas.{set_placed, insert_gap}
use Rattle.shared_map.proofs.own.put.Goals as goal

pub returns-in-Ok-clause-ok : goal.returns-in-Ok-clause-ok
returns-in-Ok-clause-ok g c =
    map-set arc_value c.args.own.now.items c.in-Ok.at c.args.entry
    ∙ set_placed g.met.K.Ord.total (pointed c.args.own.now.items) (arc_value c.args.entry) c.in-Ok.at
    (rw (← c.as_slice.ensures.value, ← c.deref.ensures) c.in-Ok.ensures)

pub returns-in_ok-insert-in-Err-clause-ok : goal.returns-in_ok-insert-in-Err-clause-ok
returns-in_ok-insert-in-Err-clause-ok g c =
    ap pointed c.in_ok-insert-in-Err.ensures.items ∙ pointed_insert c.args.own.now.items c.in-Err.at c.args.entry
    ∙ insert_gap g.met.K.Ord.total (pointed c.args.own.now.items) (arc_value c.args.entry) c.in-Err.at
    (rw (← c.as_slice.ensures.value, ← c.deref.ensures) c.in-Err.ensures)
