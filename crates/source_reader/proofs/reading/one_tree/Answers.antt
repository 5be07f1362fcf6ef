use Rattle.source_reader.proofs.Unique.{one_program, one_reading}
use Rattle.source_reader.proofs.reading.one_tree.Goals as goal

pub returns : goal.returns
returns c = record { trees = one_program; readings = one_reading }
