use Rattle.std.proofs.Common.{◌∙◌}
use Rattle.fj_entity.proofs.FateLemmas.{gone_means}
use Rattle.fj_entity.proofs.roster.Roster.dead.Goals as goal

pub returns-clause-means : goal.returns-clause-means
returns-clause-means c log h = c.is_gone.ensures ∙ gone_means c.args.self.now log c.args.id h
