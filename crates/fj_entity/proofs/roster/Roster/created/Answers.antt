use Rattle.std.proofs.Common.{sym, ◌∙◌, subst, List}
use Rattle.std.specs.List.Sorted.{IsStrictlySortedBy}
use Rattle.std.specs.Map.{keys_of}
use Rattle.cloud_base.specs.Values.{Id}
use Rattle.fj_entity.specs.Fates.{Fate}
use Rattle.fj_entity.specs.Rosters.{RosterStands}
use Rattle.fj_entity.proofs.ListLemmas.{lists_created}
use Rattle.fj_entity.proofs.roster.Roster.created.Goals as goal

pub returns : goal.returns
returns c log stands =
    let r = c.self.inside in
    lists_created r.known r.births r.groups log c.from_vec.result c.self.invariant (subst (λ (l : List (Id × Fate)). RosterStands l log) (sym c.self.view_is) stands)
    (subst (λ order. IsStrictlySortedBy order (keys_of r.births)) (λ i a b. c.derived_orders.ensures.ids a b i) c.in_order.ensures)
    (c.from_vec.ensures ∙ c.in_ok-created_of.ensures)
