-- Texts that parsing makes a program's tree of.
use Rattle.std.specs.Prelude.{◌≡◌, refl, ℕ, List, [], ◌∷◌, None, Result, Ok, Err, codes}
use Rattle.std.proofs.Common.{lit≤}
use Rattle.source_tokens.specs.Lexemes.{lexeme_at}
use Rattle.source_tokens.specs.Scans.{scan_behind}
use Rattle.source_tokens.specs.Terminals.{reserved, words}
use Rattle.source_tree.specs.Programs.{program, no_declarations, client, no_clients}
use Rattle.source_tree.specs.Statements.{block, no_statements}
use Rattle.source_tree.specs.declared.program.Program.{Program}
use Rattle.source_print.specs.Canonical.{canonical}
use Rattle.source_print.specs.Statements.{block_text}
use Rattle.cloud_parse.specs.Parse.{ParseAnswers}
use Rattle.cloud_parse.specs.declared.fault.ParseFault.{ParseFault}
use Rattle.cloud_parse.specs.declared.fault.ParseFault.TheVariants as fault
use Rattle.cloud_parse.specs.declared.fault.Which.TheVariants as which
use Rattle.cloud_parse.specs.declared.parsed.Parsed.{Parsed}

-- the answer is the program's tree, or want of memory
abbrev pub GivesTree : Program → Result Parsed ParseFault → Type 0
GivesTree p (Ok parsed) = parsed.tree ≡ p
GivesTree p (Err e) = e ≡ fault.Memory

-- parsing the text answers the program's tree, and nothing else but want of memory
pub record ParsesTo (text : List ℕ) (p : Program) : Type 0 where
  pub some : (parsed : Parsed) × ParseAnswers text (Ok parsed) × (parsed.tree ≡ p)
  pub only : (answer : Result Parsed ParseFault) → ParseAnswers text answer → GivesTree p answer

-- a program whose one client does nothing
abbrev pub idle : Program
idle = record { declarations = []; clients = record { name = codes "a"; body = [] } ∷ []; schedule = None }

-- a limit isn't its tree, and want of memory may come
pub example_gives_tree : GivesTree idle (Ok (record { tree = idle; lines = [] })) × GivesTree idle (Err fault.Memory) × ¬ GivesTree idle (Err (fault.Limit which.Bytes))
example_gives_tree = (refl, refl, λ e. cc)

-- its canonical text has its tree
pub example_idle : (canonical idle ≡ codes "schema {\n}\nclient a {\n}\n") × ((parsed : Parsed) × ParseAnswers (canonical idle) (Ok parsed) × (parsed.tree ≡ idle))
unfolding block_text scan_behind lexeme_at reserved words
example_idle = (
  refl,
  (
    record { tree = idle; lines = _ },
    (
      record { bytes = lit≤ tt; brackets = lit≤ tt },
      record { whole = refl; spelled = program [] (record { name = codes "a"; body = [] }) [] None _ _ _ no_declarations (client (codes "a") [] _ (block [] _ no_statements)) no_clients },
      record { numbers = tt; texts = tt; height = (lit≤ tt, tt); names = lit≤ tt; clients = lit≤ tt; steps = lit≤ tt },
      refl,
    ),
    refl,
  ),
)
