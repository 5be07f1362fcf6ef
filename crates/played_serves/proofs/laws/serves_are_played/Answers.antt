-- The law, from its lemmas.
use Rattle.played_serves.proofs.Serving.{serve_played, others_stay}
use Rattle.played_serves.proofs.laws.serves_are_played.Goals as goal

pub returns-clause-own : goal.returns-clause-own
returns-clause-own g c = serve_played

pub returns-clause-others : goal.returns-clause-others
returns-clause-others g c = others_stay
