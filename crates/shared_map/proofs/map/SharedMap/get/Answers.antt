use Rattle.std.proofs.Common.{sym, ◌∙◌, ap, List}
use Rattle.std.specs.Prelude.{Option, Some}
use Rattle.std.specs.Option.{option_or}
use Rattle.std.specs.Arc.{arc_value}
use Rattle.shared_map.specs.Entries.{value_at}
use Rattle.shared_map.specs.Shelves.{pointed, on_shelf, unflagged}
use Rattle.shared_map.proofs.PlaceLemmas.{pointed_at}
use Rattle.shared_map.proofs.EditLemmas.{value_placed, value_missed, misses_gap}
use Rattle.shared_map.proofs.LaidLemmas.{value_laid}
use Rattle.shared_map.proofs.map.SharedMap.get.Goals as goal

pub returns-in-Ok : goal.returns-in-Ok
returns-in-Ok g c =
    let cmp = g.K.Ord.cmp in
    let inside = c.self.inside in
    let own = pointed inside.own.items in
    let left = unflagged inside.gone (on_shelf inside.shelf) in
    let key = c.args.key.now in
    let E : Type 0 = g.row.K.Denot × g.row.V.Denot in
    let e : E = arc_value c.index.result.now in
    ap (λ (x : E). Some x.1) (c.deref.ensures ∙ sym (pointed_at inside.own.items c.in-Ok.at c.index.result.now c.index.ensures))
    ∙ sym (value_laid g.met.K.Ord.total own left key
    ∙ ap (λ (o : Option g.row.V.Denot). option_or o (value_at cmp left key)) (value_placed cmp own key c.in-Ok.at e (rw (← c.as_slice.ensures.value) c.in-Ok.ensures)))
    ∙ ap (λ (l : List E). value_at cmp l key) c.self.view_is

pub returns-in-Err : goal.returns-in-Err
returns-in-Err g c =
    let cmp = g.K.Ord.cmp in
    let inside = c.self.inside in
    let own = pointed inside.own.items in
    let left = unflagged inside.gone (on_shelf inside.shelf) in
    let key = c.args.key.now in
    let none = value_missed cmp own key (misses_gap cmp own key c.in-Err.field-0 (rw (← c.as_slice.ensures.value) c.in-Err.ensures)) in
    c.look_up.ensures ∙ ap (λ l. value_at cmp (unflagged inside.gone l) key) c.entries_of.ensures
    ∙ sym (value_laid g.met.K.Ord.total own left key ∙ ap (λ (o : Option g.row.V.Denot). option_or o (value_at cmp left key)) none)
    ∙ ap (λ (l : List (g.row.K.Denot × g.row.V.Denot)). value_at cmp l key) c.self.view_is
