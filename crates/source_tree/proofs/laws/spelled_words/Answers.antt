use Rattle.source_tree.proofs.SpelledWords.{spelled_program, spelled_numbers, spelled_texts}
use Rattle.source_tree.proofs.laws.spelled_words.Goals as goal

pub returns : goal.returns
returns c = record { words = spelled_program; numbers = spelled_numbers; texts = spelled_texts }
