-- The laws, from their lemmas.
use Rattle.packet_codec.proofs.Records.{more_updates, taken_known, taken_no_gap, taken_fit, taken_served, taken_own}
use Rattle.packet_codec.proofs.laws.pushes_are_taken.Goals as goal

pub returns-clause-known : goal.returns-clause-known
returns-clause-known c = taken_known

pub returns-clause-no_gap : goal.returns-clause-no_gap
returns-clause-no_gap c = taken_no_gap

pub returns-clause-fit : goal.returns-clause-fit
returns-clause-fit c = taken_fit

pub returns-clause-served : goal.returns-clause-served
returns-clause-served c = taken_served

pub returns-clause-own : goal.returns-clause-own
returns-clause-own c = taken_own

pub returns-clause-updates : goal.returns-clause-updates
returns-clause-updates c = more_updates
