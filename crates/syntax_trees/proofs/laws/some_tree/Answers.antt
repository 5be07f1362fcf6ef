use Rattle.source_tokens.specs.Scans.{scan, tokens_of}
use Rattle.syntax_trees.proofs.BuildWhole.{program_derived}
use Rattle.syntax_trees.proofs.Ways.{program_read}
use Rattle.syntax_trees.proofs.laws.some_tree.Goals as goal

pub returns : goal.returns
returns c = record {
  tokens = λ tokens. (λ h. program_derived h.0 tokens h.1, program_read tokens);
  source = λ text. let tokens = tokens_of (scan text).tokens in (λ h. (h.0, program_read tokens h.1), λ h. (h.0, program_derived h.1.0 tokens h.1.1));
}
