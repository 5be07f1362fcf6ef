use Rattle.std.proofs.Common.{sym, subst, List, [], ◌++◌}
use Rattle.cloud_base.specs.Values.{Id}
use Rattle.fj_entity.specs.declared.created.Created.{Created}
use Rattle.fj_entity.specs.Rosters.{RosterStands}
use Rattle.change_lists.specs.declared.value.CellValue.{CellValue}
use Rattle.schema_fj.specs.Held.{Held}
use Rattle.schema_fj.specs.Placed.{PutsCells}
use Rattle.schema_fj.specs.States.{StateStands}
use Rattle.schema_fj.specs.Told.{AreNew, creates, deletes}
use Rattle.schema_fj.proofs.Restored.{image_stands}
use Rattle.schema_fj.proofs.state.State.of_image.Goals as goal

pub returns : goal.returns
returns c log fit told =
    let held : Held = record { types = c.state.inside.types; numbers = c.state.inside.numbers; texts = c.state.inside.texts; fates = c.state.inside.roster; born = c.state.inside.born.keys; died = c.state.inside.died.keys } in
    let fresh : StateStands c.args.schema.now held [] [] = subst (λ (s : Held). StateStands c.args.schema.now s [] []) (sym c.state.view_is) c.in_ok-state.ensures in
    image_stands c.args.schema.now held c.put_values.new.self c.in_ok-state-inside.field-0 log (record { parts = c.cell_orders.ensures.by_parts; total = c.cell_orders.ensures.total; apart = c.cell_orders.ensures.apart }) c.args.image.now fit told fresh
    (λ new.
    subst (λ (l : List Created). RosterStands c.in_ok-state-inside.field-0 (creates l ++ deletes c.args.image.now.dead)) c.created.ensures.created
    (subst (λ (l : List Id). RosterStands c.in_ok-state-inside.field-0 (creates c.created.result.now ++ deletes l)) c.dead.ensures.dead
    (c.in_ok-state-inside.ensures (subst (λ (l : List Created). AreNew l []) (sym c.created.ensures.created) new))))
    (subst (λ (l : List CellValue). PutsCells l (record { types = held.types; numbers = held.numbers; texts = held.texts; fates = c.in_ok-state-inside.field-0; born = held.born; died = held.died }) c.put_values.new.self) c.cells.ensures.cells c.in_ok-put_values.ensures)
