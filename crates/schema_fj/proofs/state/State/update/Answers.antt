use Rattle.std.proofs.Common.{◌∷◌, [], ◌++◌, List, sym, subst}
use Rattle.cloud_base.specs.Shaped.{Fit}
use Rattle.cloud_base.specs.declared.schema.Schema.{Schema}
use Rattle.cloud_base.specs.declared.update.Update.{Update}
use Rattle.fj_entity.proofs.GroupLemmas.{on_ok}
use Rattle.schema_fj.specs.Held.{Held}
use Rattle.schema_fj.specs.States.{StateStands}
use Rattle.schema_fj.proofs.StateSteps.{fresh_id}
use Rattle.schema_fj.proofs.state.State.update.Goals as goal

-- of an update, as the match finds it
abbrev Does : Held → Held → Update → Type 0
Does old new u = (schema : Schema) (base delta : List Update) → StateStands schema old base delta → Fit schema (base ++ (delta ++ u ∷ [])) → StateStands schema new base (delta ++ u ∷ [])

pub returns-in-Cell-clause-ok : goal.returns-in-Cell-clause-ok
returns-in-Cell-clause-ok c =
    on_ok c.change.result
    (λ f. subst (Does c.args.self.now c.change.new.self) (sym c.in-Cell.is) (λ schema base delta h fit. record { fit = fit; holds = f schema base delta h.holds }))
    c.change.ensures.ok

pub returns-in-Create-clause-ok : goal.returns-in-Create-clause-ok
returns-in-Create-clause-ok c =
    on_ok c.create.result
    (λ f. subst (Does c.args.self.now c.create.new.self) (sym c.in-Create.is) (λ schema base delta h fit. record { fit = fit; holds = f schema base delta h.holds (fresh_id schema base delta _ _ _ fit) }))
    c.create.ensures.ok

pub returns-in-Delete-clause-ok : goal.returns-in-Delete-clause-ok
returns-in-Delete-clause-ok c =
    on_ok c.delete.result
    (λ f. subst (Does c.args.self.now c.delete.new.self) (sym c.in-Delete.is) (λ schema base delta h fit. record { fit = fit; holds = f schema base delta h.holds }))
    c.delete.ensures.ok
