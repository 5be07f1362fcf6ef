use Rattle.std.proofs.Common.{◌≡◌, ◌≤◌, refl, ℕ, List, length, sym, subst, arith}
use Rattle.std.specs.Prelude.{None}
use Rattle.source_reader.specs.Lines.{item_lines}
use Rattle.source_tokens.specs.Brackets.{most_open}
use Rattle.source_tokens.specs.Scans.{scan, tokens_of}
use Rattle.source_tokens.specs.declared.token.Token.{Token}
use Rattle.source_tree.specs.Limits.{IsWithin}
use Rattle.source_tree.specs.Programs.{SpellsProgram}
use Rattle.source_tree.specs.declared.program.Program.{Program}
use Rattle.source_tokens.proofs.Lexing.{Lexes}
use Rattle.drill_text.specs.Drills.{drill_text}
use Rattle.drill_text.proofs.Lengths.{drill_short}
use Rattle.kind_rules.specs.Answers.{first_fault}
use Rattle.kind_rules.specs.Programs.{items_of}
use Rattle.cloud_parse.specs.Parse.{most_source_bytes}
use Rattle.drill_source.specs.Sources.{IsSource}
use Rattle.drill_source.proofs.Trees.{draws, drill_tokens, drill_tree}
use Rattle.drill_source.proofs.Scanned.{lexes_drill}
use Rattle.drill_source.proofs.Spelled.{spelled}
use Rattle.drill_source.proofs.Limited.{limited}
use Rattle.drill_source.proofs.Nested.{nested}
use Rattle.drill_source.proofs.Kept.{kept}
use Rattle.drill_source.proofs.laws.drills_are_sources.Goals as goal

-- a text of known tokens, which spell a tree
source : (text : List ℕ) (tokens : List Token) (tree : Program) → length text ≤ most_source_bytes → Lexes text tokens → SpellsProgram tree tokens → most_open 0 tokens ≤ 4 → IsWithin tree
    → ((lines : List ℕ) → first_fault (items_of tree lines) ≡ None) → IsSource text
source text tokens tree short lexes spells few within keeps =
    let read : tokens_of (scan text).tokens ≡ tokens = lexes.read 0 1 in
    record {
      parsed = record { tree = tree; lines = item_lines (scan text).tokens };
      answers = (
        record { bytes = short; brackets = subst (λ ts. most_open 0 ts ≤ 64) (sym read) (omega (arith, few)) },
        record { whole = lexes.whole 0 1; spelled = subst (SpellsProgram tree) (sym read) spells },
        within,
        refl,
      );
      keeps = keeps (item_lines (scan text).tokens);
    }

pub returns : goal.returns
returns c = λ n few.
    let ks = draws n 0 in let ls = draws n 1 in let ms = draws n 2 in let ns = draws n 3 in
    let spells = spelled ks ls ms ns in
    let words = c.spelled_words.ensures in
    source (drill_text n) (drill_tokens ks ls ms ns) (drill_tree ks ls ms ns) (drill_short n few) (lexes_drill n) spells (nested ks ls ms ns)
    (limited ks ls ms ns (words.numbers _ _ spells) (words.texts _ _ spells)) (kept ks ls ms ns)
