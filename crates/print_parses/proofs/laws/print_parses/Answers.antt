use Rattle.std.proofs.Common.{◌≡◌, ◌≤◌, ◌≢◌, refl, ℕ, List, length, arith}
use Rattle.std.specs.Prelude.{Result, Ok, Err}
use Rattle.source_tokens.specs.Brackets.{most_open}
use Rattle.source_tokens.specs.Scans.{scan, tokens_of}
use Rattle.source_tree.specs.Limits.{IsTree}
use Rattle.source_tree.specs.declared.program.Program.{Program}
use Rattle.source_print.specs.Canonical.{canonical}
use Rattle.source_reader.specs.Lines.{item_lines}
use Rattle.cloud_parse.specs.Parse.{ParseAnswers, IsTreeOf, most_source_bytes}
use Rattle.cloud_parse.specs.declared.fault.ParseFault.{ParseFault}
use Rattle.cloud_parse.specs.declared.fault.ParseFault.TheVariants as fault
use Rattle.cloud_parse.specs.declared.parsed.Parsed.{Parsed}
use Rattle.print_parses.specs.Parsing.{GivesTree}
use Rattle.print_parses.proofs.laws.print_parses.Goals as goal

-- an answer besides which there is only want of memory
OneAnswer : Type 0
OneAnswer = (text : List ℕ) (a b : Result Parsed ParseFault) → ParseAnswers text a → ParseAnswers text b → a ≢ Err fault.Memory → b ≢ Err fault.Memory → a ≡ b

abbrev parsed_of : List ℕ → Program → Parsed
parsed_of text p = record { tree = p; lines = item_lines (scan text).tokens }

answers : (p : Program) (text : List ℕ) → IsTree p → IsTreeOf text p → length text ≤ most_source_bytes → most_open 0 (tokens_of (scan text).tokens) ≤ 33 → ParseAnswers text (Ok (parsed_of text p))
answers p text tree of short few = (record { bytes = short; brackets = omega (arith, few) }, of, tree.within, refl)

only : (p : Program) (text : List ℕ) → OneAnswer → ParseAnswers text (Ok (parsed_of text p)) → (answer : Result Parsed ParseFault) → ParseAnswers text answer → GivesTree p answer
unfolding OneAnswer
only p text one known (Ok parsed) h = let same : Ok parsed ≡ Ok (parsed_of text p) = one text (Ok parsed) (Ok (parsed_of text p)) h known (λ e. cc) (λ e. cc) in cc
only p text one known (Err (fault.Limit w)) h = let same : Err (fault.Limit w) ≡ Ok (parsed_of text p) = one text (Err (fault.Limit w)) (Ok (parsed_of text p)) h known (λ e. cc) (λ e. cc) in cc
only p text one known (Err (fault.Syntax line column)) h = let same : Err (fault.Syntax line column) ≡ Ok (parsed_of text p) = one text (Err (fault.Syntax line column)) (Ok (parsed_of text p)) h known (λ e. cc) (λ e. cc) in cc
only p text one known (Err fault.Memory) h = refl

pub returns : goal.returns
unfolding OneAnswer
returns c = λ p tree short.
    let of : IsTreeOf (canonical p) p = record { whole = c.printed_spells.ensures.whole p tree.spelled; spelled = c.printed_spells.ensures.spelled p tree.spelled } in
    let known = answers p (canonical p) tree of short (c.printed_spells.ensures.brackets p tree) in
    record { some = (parsed_of (canonical p) p, known, refl); only = only p (canonical p) c.one_answer.ensures known }
