use Rattle.std.proofs.Common.{◌≡◌, ◌∙◌, ◌+◌, ap, sym, subst, List, [], ◌∷◌, ◌++◌, take}
use Rattle.std.proofs.lemmas.List.{take_more}
use Rattle.change_lists.specs.declared.value.CellValue.{CellValue}
use Rattle.schema_fj.specs.Placed.{PutsCells}
use Rattle.schema_fj.proofs.Restored.{values_then}
use Rattle.schema_fj.proofs.state.State.put_values.Goals as goal

pub loop-it-preserved : goal.loop-it-preserved
loop-it-preserved c =
    let i = c.loop-it.it-index in
    let items = c.args.items.now in
    let it : CellValue = c.it-item.result in
    let more : take (i + 1) items ≡ take i items ++ it ∷ [] = take_more items i it c.loop-it-test.true ∙ ap (λ (x : CellValue). take i items ++ x ∷ []) (sym c.it-item.is) in
    subst (λ (l : List CellValue). PutsCells l c.args.self.now c.put_value.new.self) (sym more)
    (values_then (take i items) (it ∷ []) c.args.self.now c.loop-it.self c.put_value.new.self c.loop-it.invariant c.in_ok-put_value.ensures)
