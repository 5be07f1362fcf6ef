use Rattle.std.proofs.Common.{◌≡◌, subst, List}
use Rattle.cloud_base.specs.Values.{Id}
use Rattle.fj_entity.specs.Fates.{fate_at, buried, is_among}
use Rattle.fj_entity.proofs.RosterLemmas.{kills_stands, newly_dead}
use Rattle.fj_entity.proofs.roster.Roster.doom.Goals as goal

pub returns-clause-ok : goal.returns-clause-ok
returns-clause-ok c log after stands kills =
    let lists = c.in_ok-died.ensures log stands in (
      kills_stands log after c.args.root c.args.self.now c.mark.new.self c.bury_all.new.self c.in_ok-died.died kills stands lists c.in_ok-mark.ensures.ok
          (subst (λ (l : List Id). (x : Id) → fate_at c.bury_all.new.self x ≡ buried (is_among x l) (fate_at c.mark.new.self x)) c.as_slice.ensures c.bury_all.ensures),
      newly_dead log after c.args.root c.in_ok-died.died kills lists,
    )
