use Rattle.std.proofs.Common.{◌∙◌, ap, List, drop, not}
use Rattle.std.specs.Ordering.{is_lt}
use Rattle.shared_map.specs.Entries.{entries_from}
use Rattle.shared_map.specs.Shelves.{pointed, on_shelf, unflagged, laid_over}
use Rattle.shared_map.proofs.EditLemmas.{from_start, from_unflagged, from_fair}
use Rattle.shared_map.proofs.LaidLemmas.{filter_laid, ascends_unflagged}
use Rattle.shared_map.proofs.map.SharedMap.iter_from.Goals as goal

pub returns : goal.returns
returns g c =
    let cmp = g.K.Ord.cmp in
    let o = g.met.K.Ord.total in
    let inside = c.self.inside in
    let own = pointed inside.own.items in
    let shelf = on_shelf inside.shelf in
    let left = unflagged inside.gone shelf in
    let key = c.args.key.now in
    let held = c.self.invariant in
    let E : Type 0 = g.row.K.Denot × g.row.V.Denot in
    ap (λ (l : List E). laid_over cmp (drop c.start.result l) (unflagged (drop c.start-2.result inside.gone) (drop c.start-2.result (pointed c.entries_of-shelf.result.now)))) (ap pointed c.as_slice-own.ensures.value)
    ∙ ap (λ (l : List E). laid_over cmp (drop c.start.result own) (unflagged (drop c.start-2.result inside.gone) (drop c.start-2.result l))) c.entries_of-shelf.ensures
    ∙ ap (λ (l : List E). laid_over cmp l (unflagged (drop c.start-2.result inside.gone) (drop c.start-2.result shelf)))
    (from_start cmp own key c.start.result (rw (← c.as_slice-own.ensures.value) c.start.ensures))
    ∙ ap (λ (l : List E). laid_over cmp (entries_from cmp own key) l)
    (from_unflagged cmp inside.gone shelf key c.start-2.result held.flags (rw (← c.entries_of-shelf.ensures) c.start-2.ensures))
    ∙ filter_laid o (λ k. not (is_lt (cmp k key))) (from_fair o key) own left (ascends_unflagged o inside.gone shelf held.shelf_sorted)
    ∙ ap (λ (l : List E). entries_from cmp l key) c.self.view_is
