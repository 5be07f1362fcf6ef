use Rattle.std.proofs.Common.{sym, ◌∙◌, ap, cond, false, get_or}
use Rattle.std.specs.Prelude.{Some, None}
use Rattle.std.specs.Arc.{arc_value}
use Rattle.shared_map.specs.Shelves.{pointed, unflagged}
use Rattle.shared_map.proofs.PlaceLemmas.{pointed_at}
use Rattle.shared_map.proofs.EditLemmas.{value_unflagged, value_gone, value_missed, misses_unflagged, misses_gap}
use Rattle.shared_map.proofs.shelf.look_up.Goals as goal

pub returns-then-is_set : goal.returns-then-is_set
returns-then-is_set g c =
    sym (value_gone g.K.Ord.cmp c.args.gone.now (pointed c.args.entries.now) c.args.key.now c.in-Ok.at c.requires.flags c.in-Ok.ensures
    (sym c.is_set.ensures ∙ c.if-is_set.true))

pub returns-else-is_set : goal.returns-else-is_set
returns-else-is_set g c =
    let es = pointed c.args.entries.now in
    let e : g.row.K.Denot × g.row.V.Denot = arc_value c.index-entries-at.result in
    ap (λ (x : g.row.K.Denot × g.row.V.Denot). Some x.1)
    (c.deref.ensures ∙ sym (pointed_at c.args.entries.now c.in-Ok.at c.index-entries-at.result c.index-entries-at.is))
    ∙ sym (value_unflagged g.K.Ord.cmp c.args.gone.now es c.args.key.now c.in-Ok.at e false c.requires.flags c.in-Ok.ensures
    ∙ ap (λ b. cond b None (Some (get_or es c.in-Ok.at e).1)) (sym c.is_set.ensures ∙ c.if-is_set.false))

pub returns-in-Err : goal.returns-in-Err
returns-in-Err g c =
    let es = pointed c.args.entries.now in
    sym (value_missed g.K.Ord.cmp (unflagged c.args.gone.now es) c.args.key.now
    (misses_unflagged g.K.Ord.cmp c.args.key.now c.args.gone.now es (misses_gap g.K.Ord.cmp es c.args.key.now c.in-Err.field-0 c.in-Err.ensures)))
