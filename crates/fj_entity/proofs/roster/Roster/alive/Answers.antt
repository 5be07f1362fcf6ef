use Rattle.std.proofs.Common.{◌∙◌}
use Rattle.fj_entity.proofs.FateLemmas.{living_means}
use Rattle.fj_entity.proofs.roster.Roster.alive.Goals as goal

pub returns : goal.returns
returns c log h = c.is_living.ensures ∙ living_means c.args.self.now log c.args.id h
