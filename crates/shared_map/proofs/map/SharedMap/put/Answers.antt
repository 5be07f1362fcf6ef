use Rattle.std.proofs.Common.{◌∙◌, ap, List}
use Rattle.std.specs.Arc.{arc_value}
use Rattle.shared_map.specs.Entries.{with_entry}
use Rattle.shared_map.specs.Shelves.{pointed, on_shelf, unflagged, laid_over}
use Rattle.shared_map.proofs.EntryLemmas.{ascends_with}
use Rattle.shared_map.proofs.LaidLemmas.{with_laid, ascends_unflagged, by_result, on_ok}
use Rattle.shared_map.proofs.map.SharedMap.put.Goals as goal

pub invariant_of-self : goal.invariant_of-self
invariant_of-self g c =
    let o = g.met.K.Ord.total in
    let inside = c.self.inside in
    let held = c.self.invariant in
    record {
      flags = held.flags;
      shelf_sorted = held.shelf_sorted;
      own_sorted = by_result c.put.result c.put.ensures.ok c.put.ensures.err
          (λ is. rw is (ascends_with o (pointed inside.own.items) (arc_value c.args.entry) held.own_sorted))
          (λ is. rw is held.own_sorted);
    }

pub returns-clause-ok : goal.returns-clause-ok
returns-clause-ok g c =
    let o = g.met.K.Ord.total in
    let inside = c.self.inside in
    let left = unflagged inside.gone (on_shelf inside.shelf) in
    let e : g.row.K.Denot × g.row.V.Denot = arc_value c.args.entry in
    on_ok c.put.result
    (λ is.
    ap (λ (l : List (g.row.K.Denot × g.row.V.Denot)). laid_over g.K.Ord.cmp l left) is
    ∙ with_laid o (pointed inside.own.items) left e (ascends_unflagged o inside.gone (on_shelf inside.shelf) c.self.invariant.shelf_sorted)
    ∙ ap (λ (l : List (g.row.K.Denot × g.row.V.Denot)). with_entry g.K.Ord.cmp l e) c.self.view_is)
    c.put.ensures.ok
