use Rattle.fj_entity.proofs.ListLemmas.{found_means}
use Rattle.fj_entity.proofs.roster.Roster.find.Goals as goal

pub returns-clause-means : goal.returns-clause-means
returns-clause-means c log h = found_means c.args.self.now log c.args.id c.found.result h c.found.ensures
