use Rattle.std.proofs.Common.{sym, subst, ◌++◌}
use Rattle.schema_fj.specs.Held.{Held}
use Rattle.schema_fj.specs.States.{StateHolds}
use Rattle.schema_fj.proofs.StateSteps.{created_living}
use Rattle.schema_fj.proofs.state.State.create_living.Goals as goal

pub returns-in-Ok-clause-ok : goal.returns-in-Ok-clause-ok
returns-in-Ok-clause-ok c schema base delta stands fresh keys live =
    let held : Held = record { types = c.self.inside.types; numbers = c.self.inside.numbers; texts = c.self.inside.texts; fates = c.self.inside.roster; born = c.self.inside.born.keys; died = c.self.inside.died.keys } in
    let h : StateHolds schema held base delta = subst (λ (s : Held). StateHolds schema s base delta) (sym c.self.view_is) stands in
    created_living schema held base delta c.args.id c.args.entity c.args.keys.now (record { parts = c.cell_orders.ensures.by_parts; total = c.cell_orders.ensures.total; apart = c.cell_orders.ensures.apart }) c.add.new.set.keys c.create.new.self h fresh keys live
    (c.in-Ok.ensures.ok (base ++ delta) h.roster fresh).0 c.in_ok-added.ensures.keys
