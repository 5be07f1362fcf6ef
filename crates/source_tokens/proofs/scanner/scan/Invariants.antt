use Rattle.std.proofs.Common.{length}
use Rattle.source_tokens.proofs.Splits.{ScansOn}
use Rattle.source_tokens.proofs.scanner.scan.Given as goal

-- the tokens so far and what is found in the rest are those of the text
abbrev pub invariant-loop-rest : goal.invariant-loop-rest
invariant-loop-rest l = ScansOn l.text l.rest l.tokens l.line

abbrev pub decreases-loop-rest : goal.decreases-loop-rest
decreases-loop-rest l = length l.rest
