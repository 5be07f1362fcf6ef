use Rattle.std.proofs.Common.{◌∙◌, sym, ap, subst, List, [], ◌∷◌, ◌++◌}
use Rattle.std.specs.List.{fold}
use Rattle.std.specs.BTreeSet.{insert_key}
use Rattle.cloud_base.specs.Values.{Id}
use Rattle.cloud_base.specs.Order.{id_order}
use Rattle.fj_core.specs.IntCells.{int_plain, int_effect, IntStands}
use Rattle.fj_core.specs.TextCells.{text_plain, text_effect, TextStands}
use Rattle.schema_fj.specs.Held.{Held}
use Rattle.schema_fj.specs.Purged.{Purges}
use Rattle.schema_fj.specs.States.{StateHolds}
use Rattle.std.specs.Prelude.{filter, not}
use Rattle.cloud_base.specs.declared.update.Update.TheVariants.{Delete}
use Rattle.fj_entity.specs.Fates.{fate_at, is_gone}
use Rattle.fj_entity.specs.Rosters.{RosterStands}
use Rattle.schema_fj.proofs.StateSteps.{buried_holds, deletes_id, deleted_made}
use Rattle.schema_fj.proofs.state.State.delete.Goals as goal

pub returns-clause-ok : goal.returns-clause-ok
returns-clause-ok c schema base delta stands =
    let held : Held = record { types = c.self.inside.types; numbers = c.self.inside.numbers; texts = c.self.inside.texts; fates = c.self.inside.roster; born = c.self.inside.born.keys; died = c.self.inside.died.keys } in
    let h : StateHolds schema held base delta = subst (λ (s : Held). StateHolds schema s base delta) (sym c.self.view_is) stands in
    buried_holds schema held c.bury.new.self base delta (Delete c.args.id) (record { parts = c.cell_orders.ensures.by_parts; total = c.cell_orders.ensures.total; apart = c.cell_orders.ensures.apart }) c.in_ok-doomed.doomed (deletes_id c.args.id) h
    (subst (λ f. RosterStands f (base ++ delta ++ Delete c.args.id ∷ [])) (sym c.bury.ensures.fates) (c.in_ok-delete.ensures.ok (base ++ delta) h.roster).0)
    (c.in_ok-doomed.ensures.deletion (base ++ delta) h.roster) (λ x live. deleted_made delta c.args.id x)
    c.bury.ensures.types (c.bury.ensures.died ∙ c.in_ok-died.ensures ∙ ap (fold (insert_key id_order) held.died) c.as_slice.ensures)
    (c.bury.ensures.born ∙ ap (λ f. filter (λ x. not (is_gone (fate_at f x))) held.born) (sym c.bury.ensures.fates))
    (subst (λ (l : List Id). Purges int_plain int_effect IntStands l held.numbers c.bury.new.self.numbers) c.as_slice-2.ensures c.bury.ensures.numbers)
    (subst (λ (l : List Id). Purges text_plain text_effect TextStands l held.texts c.bury.new.self.texts) c.as_slice-2.ensures c.bury.ensures.texts)
