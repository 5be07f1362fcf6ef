use Rattle.std.proofs.Common.{sym, subst, List}
use Rattle.std.specs.List.Sorted.{IsStrictlySortedBy}
use Rattle.std.specs.Map.{keys_of}
use Rattle.cloud_base.specs.Values.{Id}
use Rattle.cloud_base.specs.Order.{id_order}
use Rattle.fj_entity.specs.Fates.{Fate}
use Rattle.fj_entity.specs.Rosters.{Ascends}
use Rattle.fj_entity.proofs.KeptLemmas.{same_keys}
use Rattle.fj_entity.proofs.roster.Roster.in_order.Goals as goal

pub returns : goal.returns
returns c =
    let r = c.self.inside in
    subst (λ (l : List (Id × Fate)). Ascends l) c.self.view_is
    (subst (IsStrictlySortedBy id_order) (sym (same_keys r.known r.births))
    (subst (λ order. IsStrictlySortedBy order (keys_of r.known)) (λ i a b. c.derived_orders.ensures.ids a b i) c.in_order.ensures))
