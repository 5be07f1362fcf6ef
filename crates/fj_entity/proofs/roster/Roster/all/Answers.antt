use Rattle.std.proofs.Common.{sym, ◌∙◌, subst, List}
use Rattle.std.specs.Prelude.{filter}
use Rattle.cloud_base.specs.Values.{Id}
use Rattle.fj_entity.specs.Fates.{Fate, fate_at, is_member}
use Rattle.fj_entity.specs.Rosters.{RosterStands}
use Rattle.fj_entity.proofs.ListLemmas.{lists_members}
use Rattle.fj_entity.proofs.roster.Roster.all.Goals as goal

pub returns : goal.returns
returns c log stands =
    let r = c.self.inside in
    lists_members r.known r.births r.groups log c.args.entity c.in_ok-listed.listed c.from_vec.result c.self.invariant (subst (λ (l : List (Id × Fate)). RosterStands l log) (sym c.self.view_is) stands)
    c.in_ok-listed.ensures
    (c.from_vec.ensures ∙ c.in_ok-members.ensures ∙ (λ i. filter (λ id. is_member c.args.entity (fate_at (sym c.self.view_is i) id)) (c.as_slice.ensures i)))
