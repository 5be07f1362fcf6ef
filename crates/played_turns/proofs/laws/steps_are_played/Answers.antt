-- The law, from its lemmas.
use Rattle.played_turns.proofs.Stepping.{goes_on_at, others_stay}
use Rattle.played_turns.proofs.laws.steps_are_played.Goals as goal

pub returns-clause-own : goal.returns-clause-own
returns-clause-own g c = λ trace k w holding old new out boxes hub hub' moment ran runs told at steps code ended.
    goes_on_at trace k w holding old boxes hub hub' moment ran runs told at new out steps ended

pub returns-clause-others : goal.returns-clause-others
returns-clause-others g c = others_stay
