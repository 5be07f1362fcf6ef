use Rattle.std.proofs.Common.{◌∙◌, subst}
use Rattle.std.specs.Ordering.{is_eq}
use Rattle.std.specs.Set.{remove_key}
use Rattle.cloud_base.specs.Values.{Id}
use Rattle.schema_fj.specs.Sets.{WasAdded}
use Rattle.schema_fj.proofs.SetLemmas.{taken_back}
use Rattle.schema_fj.proofs.ids.take_back.Goals as goal

pub returns-then-added : goal.returns-then-added
returns-then-added c was is added =
    c.remove.ensures.keys
    ∙ (λ i. remove_key (λ (x : Id). is_eq (c.derived_orders.ensures.ids c.args.id x i)) (is i))
    ∙ taken_back was c.args.id (subst (λ b. WasAdded b c.args.id was c.args.set.now.keys) c.if-added.true added)
