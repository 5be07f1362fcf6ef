use Rattle.std.proofs.Common.{◌≡◌, ◌≤◌, [], ◌++◌, sym, subst, None, append-nil, arith}
use Rattle.source_tokens.specs.Brackets.{most_open}
use Rattle.source_tokens.specs.Scans.{scan, tokens_of}
use Rattle.source_tree.specs.Limits.{IsSpelled, IsTree}
use Rattle.source_tree.specs.Programs.{SpellsProgram}
use Rattle.source_tree.specs.declared.program.Program.{Program}
use Rattle.source_print.specs.Canonical.{canonical}
use Rattle.source_print.proofs.Programs.{ProgramPrints, program_prints}
use Rattle.source_print.proofs.laws.printed_spells.Goals as goal

prints : (p : Program) → IsSpelled p → ProgramPrints p
prints p (tokens, h, all) = program_prints p tokens h all

whole : (p : Program) → IsSpelled p → (scan (canonical p)).fault ≡ None
whole p h = (prints p h).lexes.whole 0 1

spelled : (p : Program) → IsSpelled p → SpellsProgram p (tokens_of (scan (canonical p)).tokens)
spelled p h = subst (SpellsProgram p) (sym ((prints p h).lexes.read 0 1)) ((prints p h).spelled)

few : (p : Program) (printed : ProgramPrints p) → IsTree p → most_open 0 printed.tokens ≤ 33
few p printed tree =
    let all : most_open 0 (printed.tokens ++ []) ≤ 33 = omega (arith, (printed.nests tree.within.height).low 0 []) in
    subst (λ tokens. most_open 0 tokens ≤ 33) (append-nil printed.tokens) all

brackets : (p : Program) → IsTree p → most_open 0 (tokens_of (scan (canonical p)).tokens) ≤ 33
brackets p tree = let printed = prints p tree.spelled in subst (λ tokens. most_open 0 tokens ≤ 33) (sym (printed.lexes.read 0 1)) (few p printed tree)

pub returns : goal.returns
returns c = record { whole = whole; spelled = spelled; brackets = brackets }
