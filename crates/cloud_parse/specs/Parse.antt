-- What parsing a text answers.
use Rattle.std.specs.Prelude.{◌≡◌, ℕ, ◌<◌, ◌≤◌, Bool, true, false, nat_lt, ⊤, List, length, Option, Some, None, Result, Ok, Err}
use Rattle.std.specs.List.{AllByRecursion}
use Rattle.cloud_base.specs.Values.{most_clients}
use Rattle.source_tokens.specs.Brackets.{most_open}
use Rattle.source_tokens.specs.Positions.{position_of}
use Rattle.source_tokens.specs.Scans.{scan, tokens_of}
use Rattle.source_tokens.specs.declared.position.Position.{Position}
use Rattle.source_tokens.specs.declared.token.Token.{Token}
use Rattle.source_tree.specs.Limits.{IsWithin, IsNumber, IsShort, IsLow, names_count, steps_count, most_names, most_steps}
use Rattle.source_tree.specs.Programs.{SpellsProgram}
use Rattle.source_tree.specs.Words.{program_words, numbers_of, texts_of}
use Rattle.source_tree.specs.declared.program.Program.{Program}
use Rattle.syntax_judge.specs.Faults.{SyntaxFault}
use Rattle.cloud_parse.specs.declared.fault.ParseFault.{ParseFault}
use Rattle.cloud_parse.specs.declared.fault.ParseFault.TheVariants as fault
use Rattle.source_reader.specs.Lines.{item_lines}
use Rattle.cloud_parse.specs.declared.parsed.Parsed.{Parsed}
use Rattle.cloud_parse.specs.declared.fault.Which.{Which}
use Rattle.cloud_parse.specs.declared.fault.Which.TheVariants as which

-- the most bytes of a text
abbrev pub most_source_bytes : ℕ
most_source_bytes = 262144

-- the most brackets that may be open
abbrev pub most_brackets : ℕ
most_brackets = 64

-- the text is read whole, and its tokens spell the program
pub record IsTreeOf (text : List ℕ) (p : Program) : Type 0 where
  pub whole : (scan text).fault ≡ None
  pub spelled : SpellsProgram p (tokens_of (scan text).tokens)

-- the text isn't too long, and not too many brackets are open in it
pub record IsReadable (text : List ℕ) : Type 0 where
  pub bytes : length text ≤ most_source_bytes
  pub brackets : most_open 0 (tokens_of (scan text).tokens) ≤ most_brackets

-- what a limit asks of a program
abbrev pub Keeps : Which → Program → Type 0
Keeps which.Bytes p = ⊤
Keeps which.Brackets p = ⊤
Keeps which.Number p = AllByRecursion IsNumber (numbers_of (program_words p))
Keeps which.Text p = AllByRecursion IsShort (texts_of (program_words p))
Keeps which.Height p = AllByRecursion IsLow p.clients
Keeps which.Names p = names_count p.declarations ≤ most_names
Keeps which.Clients p = length p.clients ≤ most_clients
Keeps which.Steps p = steps_count p.schedule ≤ most_steps

-- the program keeps the limits that stand before this one
abbrev pub KeepsBefore : Which → Program → Type 0
KeepsBefore which.Bytes p = ⊤
KeepsBefore which.Brackets p = ⊤
KeepsBefore which.Number p = ⊤
KeepsBefore which.Text p = Keeps which.Number p
KeepsBefore which.Height p = Keeps which.Number p × Keeps which.Text p
KeepsBefore which.Names p = Keeps which.Number p × Keeps which.Text p × Keeps which.Height p
KeepsBefore which.Clients p = Keeps which.Number p × Keeps which.Text p × Keeps which.Height p × Keeps which.Names p
KeepsBefore which.Steps p = Keeps which.Number p × Keeps which.Text p × Keeps which.Height p × Keeps which.Names p × Keeps which.Clients p

-- the first limit that the text's program breaks
pub record BreaksFirst (w : Which) (text : List ℕ) : Type 0 where
  pub readable : IsReadable text
  pub program : Program
  pub tree : IsTreeOf text program
  pub before : KeepsBefore w program
  pub broken : ¬ Keeps w program

-- a limit is told: of the length, of the open brackets, or of the program
abbrev pub TellsLimit : Which → List ℕ → Type 0
TellsLimit which.Bytes text = most_source_bytes < length text
TellsLimit which.Brackets text = (length text ≤ most_source_bytes) × (most_brackets < most_open 0 (tokens_of (scan text).tokens))
TellsLimit w text = BreaksFirst w text

-- the first that is wrong with tokens that spell a program: a limit that it breaks
abbrev pub TreeFault : List Token → ParseFault → Type 0
TreeFault tokens (fault.Limit w) = (p : Program) × SpellsProgram p tokens × KeepsBefore w p × ¬ Keeps w p
TreeFault tokens (fault.Syntax line column) = ⊥
TreeFault tokens fault.Memory = ⊤

-- the position of the syntax fault of a text that no program has
pub record TellsSyntax (text : List ℕ) (position : Position) : Type 0 where
  pub readable : IsReadable text
  pub none : (p : Program) → ¬ IsTreeOf text p
  pub place : (at : ℕ) × SyntaxFault text at × (position ≡ position_of text at)

-- What parsing a text answers: its tree and the lines of its items; else the first that is wrong; and want of memory,
-- which may come at any time.
abbrev pub ParseAnswers : List ℕ → Result Parsed ParseFault → Type 0
ParseAnswers text (Ok parsed) = IsReadable text × IsTreeOf text parsed.tree × IsWithin parsed.tree × (parsed.lines ≡ item_lines (scan text).tokens)
ParseAnswers text (Err (fault.Limit w)) = TellsLimit w text
ParseAnswers text (Err (fault.Syntax line column)) = TellsSyntax text (record { line = line; column = column })
ParseAnswers text (Err fault.Memory) = ⊤
