use Rattle.source_tokens.proofs.Opened.{OpenSo}
use Rattle.source_tokens.proofs.brackets.has_too_many_open.Given as goal

-- few brackets are open so far, and the tokens that are left tell of all
abbrev pub invariant-loop-placed : goal.invariant-loop-placed
invariant-loop-placed l = OpenSo l.tokens l.placed-index l.count
