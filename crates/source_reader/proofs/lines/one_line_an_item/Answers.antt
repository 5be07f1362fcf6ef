use Rattle.source_reader.proofs.ItemCounts.{line_each}
use Rattle.source_reader.proofs.lines.one_line_an_item.Goals as goal

pub returns : goal.returns
returns c = line_each
