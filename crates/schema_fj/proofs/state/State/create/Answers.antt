use Rattle.std.proofs.Common.{◌∙◌, sym, subst, ◌++◌}
use Rattle.fj_entity.proofs.GroupLemmas.{on_ok}
use Rattle.schema_fj.specs.Held.{Held}
use Rattle.schema_fj.specs.States.{StateHolds}
use Rattle.schema_fj.proofs.StateSteps.{created_again}
use Rattle.schema_fj.proofs.state.State.create.Goals as goal

pub returns-then-has_dead-clause-ok : goal.returns-then-has_dead-clause-ok
returns-then-has_dead-clause-ok c =
    on_ok c.create_dead.result
    (λ f schema base delta stands fresh.
    let h = subst (λ (s : Held). StateHolds schema s base delta) (sym c.self.view_is) stands in
    f schema base delta stands fresh (sym (c.has_dead.ensures.means (base ++ delta) h.roster) ∙ c.if-has_dead.true))
    c.create_dead.ensures.ok

pub returns-then-dead-clause-ok : goal.returns-then-dead-clause-ok
returns-then-dead-clause-ok c schema base delta stands fresh =
    let h = subst (λ (s : Held). StateHolds schema s base delta) (sym c.self.view_is) stands in
    created_again schema c.args.self.now base delta c.args.id c.args.entity c.args.keys.now (record { parts = c.cell_orders.ensures.by_parts; total = c.cell_orders.ensures.total; apart = c.cell_orders.ensures.apart }) stands fresh (sym (c.dead.ensures.means (base ++ delta) h.roster) ∙ c.if-dead.true)

pub returns-else-dead-clause-ok : goal.returns-else-dead-clause-ok
returns-else-dead-clause-ok c =
    on_ok c.create_living.result
    (λ f schema base delta stands fresh.
    let h = subst (λ (s : Held). StateHolds schema s base delta) (sym c.self.view_is) stands in
    f schema base delta stands fresh (sym (c.has_dead.ensures.means (base ++ delta) h.roster) ∙ c.if-has_dead.false) (sym (c.dead.ensures.means (base ++ delta) h.roster) ∙ c.if-dead.false))
    c.create_living.ensures.ok
