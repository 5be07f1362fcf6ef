use Rattle.std.proofs.Common.{◌≡◌, ◌∙◌, ◌+◌, ap, sym, subst, List, [], ◌∷◌, ◌++◌, take}
use Rattle.std.proofs.lemmas.List.{take_more}
use Rattle.fj_array.specs.declared.effect.CellEffect.{CellEffect}
use Rattle.schema_fj.specs.Joined.{JoinsCells}
use Rattle.schema_fj.proofs.Effects.{cells_then}
use Rattle.schema_fj.proofs.state.State.join_cells.Goals as goal

pub loop-it-preserved : goal.loop-it-preserved
loop-it-preserved c =
    let i = c.loop-it.it-index in
    let items = c.args.items.now in
    let it : CellEffect = c.it-item.result in
    let more : take (i + 1) items ≡ take i items ++ it ∷ [] = take_more items i it c.loop-it-test.true ∙ ap (λ (x : CellEffect). take i items ++ x ∷ []) (sym c.it-item.is) in
    subst (λ (l : List CellEffect). JoinsCells l c.args.self.now c.join_cell.new.self) (sym more)
    (cells_then (take i items) (it ∷ []) c.args.self.now c.loop-it.self c.join_cell.new.self c.loop-it.invariant c.in_ok-join_cell.ensures)
