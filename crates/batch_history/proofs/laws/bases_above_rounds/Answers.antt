-- The law, from its lemmas.
use Rattle.batch_history.proofs.Above.{above_of_known, known_of_above}
use Rattle.batch_history.proofs.laws.bases_above_rounds.Goals as goal

pub returns : goal.returns
returns c = λ front client round base each next in_time. (λ known place b at mine before. above_of_known front client base known place b at mine, λ above. known_of_above front client round base each next above)
