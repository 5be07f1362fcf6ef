use Rattle.front_table.proofs.Steps.{starts}
use Rattle.front_table.proofs.token.Writer.new.Goals as goal

pub of_words-requires : goal.of_words-requires
of_words-requires g c = starts
