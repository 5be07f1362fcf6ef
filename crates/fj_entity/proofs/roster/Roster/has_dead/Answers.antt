use Rattle.std.proofs.Common.{◌∙◌}
use Rattle.fj_entity.proofs.FateLemmas.{has_gone_means}
use Rattle.fj_entity.proofs.roster.Roster.has_dead.Goals as goal

pub returns-clause-means : goal.returns-clause-means
returns-clause-means c log h = c.has_gone.ensures ∙ has_gone_means c.args.self.now log c.args.keys.now h
