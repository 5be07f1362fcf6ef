-- A text that has a tree.
use Rattle.std.specs.Prelude.{[], ◌∷◌, None, codes}
use Rattle.source_tokens.specs.Lexemes.{lexeme_at}
use Rattle.source_tokens.specs.Scans.{scan, scan_behind, tokens_of}
use Rattle.source_tokens.specs.Terminals.{reserved, words}
use Rattle.source_tree.specs.Programs.{HasTree, program, no_declarations, client, no_clients}
use Rattle.source_tree.specs.Statements.{block, no_statements}

-- a smallest program
pub example_tree : HasTree (tokens_of (scan (codes "schema {} client c {}")).tokens)
unfolding scan_behind lexeme_at reserved words
example_tree = (
  record { declarations = []; clients = record { name = codes "c"; body = [] } ∷ []; schedule = None },
  program [] (record { name = codes "c"; body = [] }) [] None _ _ _ no_declarations (client (codes "c") [] _ (block [] _ no_statements)) no_clients,
)
