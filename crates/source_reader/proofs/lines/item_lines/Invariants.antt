use Rattle.std.proofs.Common.{◌≡◌, ◌++◌, length}
use Rattle.source_reader.specs.Lines.{lines_from, item_lines}
use Rattle.source_reader.proofs.lines.item_lines.Given as goal

abbrev pub invariant-loop-placed : goal.invariant-loop-placed
invariant-loop-placed l = l.lines ++ lines_from l.inside l.opened l.rest ≡ item_lines l.fn.tokens

abbrev pub decreases-loop-placed : goal.decreases-loop-placed
decreases-loop-placed l = length l.rest
