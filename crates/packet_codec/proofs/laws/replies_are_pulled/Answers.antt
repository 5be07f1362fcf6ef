-- The laws, from their lemmas.
use Rattle.packet_codec.proofs.Records.{pulled_own, pulled_longer, pulled_known, pulled_fit}
use Rattle.packet_codec.proofs.laws.replies_are_pulled.Goals as goal

pub returns-clause-own : goal.returns-clause-own
returns-clause-own c = pulled_own

pub returns-clause-longer : goal.returns-clause-longer
returns-clause-longer c = pulled_longer

pub returns-clause-known : goal.returns-clause-known
returns-clause-known c = pulled_known

pub returns-clause-fit : goal.returns-clause-fit
returns-clause-fit c = pulled_fit
