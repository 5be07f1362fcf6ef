use Rattle.source_tokens.proofs.Literals.{ReadsOn}
use Rattle.source_tokens.proofs.lexeme.literal_behind.Given as goal

-- what was read and what the rest comes to are the literal of the whole
abbrev pub invariant-loop-at : goal.invariant-loop-at
invariant-loop-at l = ReadsOn l.text l.at l.escaped l.bytes
