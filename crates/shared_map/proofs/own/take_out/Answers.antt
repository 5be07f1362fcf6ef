use Rattle.std.proofs.Common.{◌∙◌, ap, sym}
use Rattle.shared_map.specs.Shelves.{pointed}
use Rattle.shared_map.proofs.PlaceLemmas.{pointed_remove}
use Rattle.shared_map.proofs.EditLemmas.{remove_placed, without_missed, misses_gap}
use Rattle.shared_map.proofs.own.take_out.Goals as goal

pub returns-in-Ok : goal.returns-in-Ok
returns-in-Ok g c =
    ap pointed c.remove.ensures.items ∙ pointed_remove c.args.own.now.items c.in-Ok.at
    ∙ remove_placed g.K.Ord.cmp (pointed c.args.own.now.items) c.args.key.now c.in-Ok.at (rw (← c.as_slice.ensures.value) c.in-Ok.ensures)

pub returns-in-Err : goal.returns-in-Err
returns-in-Err g c =
    sym (without_missed g.K.Ord.cmp (pointed c.args.own.now.items) c.args.key.now
    (misses_gap g.K.Ord.cmp (pointed c.args.own.now.items) c.args.key.now c.in-Err.field-0 (rw (← c.as_slice.ensures.value) c.in-Err.ensures)))
