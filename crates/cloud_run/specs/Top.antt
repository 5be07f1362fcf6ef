-- What a command reads and writes, by its status.
use Rattle.std.specs.Prelude.{◌≡◌, refl, ℕ, ◌≤◌, ⊤, List, [], ◌∷◌, length, Option, Some, None, Ok, Err, codes, slice_get}
use Rattle.std.proofs.Common.{lit≤, not-suc-le-zero}
use Rattle.cloud_base.specs.Causes.{Rose}
use Rattle.cloud_base.specs.declared.batch.Batch.{Batch}
use Rattle.cloud_base.specs.declared.batch.Tail.{Tail}
use Rattle.cloud_base.specs.declared.end.End.{End}
use Rattle.source_tokens.specs.Lexemes.{lexeme_at}
use Rattle.source_tokens.specs.Scans.{scan_behind}
use Rattle.source_tokens.specs.Terminals.{reserved, words}
use Rattle.source_tree.specs.Limits.{IsTree}
use Rattle.source_tree.specs.Programs.{program, no_declarations, client, no_clients, more_clients}
use Rattle.source_tree.specs.Statements.{block, no_statements}
use Rattle.source_tree.specs.declared.program.Client.{Client}
use Rattle.source_tree.specs.declared.program.Program.{Program}
use Rattle.cloud_parse.specs.Parse.{ParseAnswers, most_source_bytes}
use Rattle.cloud_parse.specs.declared.fault.ParseFault.TheVariants as fault
use Rattle.cloud_parse.specs.declared.fault.Which.TheVariants as which
use Rattle.cloud_parse.specs.declared.parsed.Parsed.{Parsed}
use Rattle.source_print.specs.Canonical.{canonical}
use Rattle.print_parses.specs.Parsing.{ParsesTo}
use Rattle.typed_program.specs.declared.program.Parts.{Parts}
use Rattle.kind_bodies.specs.declared.fault.KindFault.TheVariants as kind
use Rattle.kind_rules.specs.Answers.{first_fault}
use Rattle.kind_rules.specs.Programs.{items_of, typed}
use Rattle.kind_check.specs.KindAnswers.{KindAnswers}
use Rattle.typed_program.specs.declared.statement.Statement.{Statement}
use Rattle.code_gen.specs.Compile.{code_of}
use Rattle.code_gen.specs.Listings.{listing_of}
use Rattle.code_gen.specs.Meaning.{Means}
use Rattle.revision_diagram.specs.declared.step.Step.{Step}
use Rattle.step_text.specs.Legible.{Told}
use Rattle.step_text.specs.Text.{report_text}
use Rattle.revision_diagram.specs.Headline.{Headline}
use Rattle.revision_diagram.specs.Meeting.{below_server}
use Rattle.record_diagram.specs.Steps.{steps_of}
use Rattle.diagram_text.specs.Programs.{traces}
use Rattle.played_record.specs.Programs.{Played}
use Rattle.cloud_run.specs.declared.command.Command.{Command}
use Rattle.cloud_run.specs.declared.command.Command.TheVariants.{Check, Code, Play}
use Rattle.cloud_run.specs.declared.status.Status.{Status}
use Rattle.cloud_run.specs.declared.status.Status.TheVariants as status
use Rattle.cloud_run.specs.Flows.{AtEnd, Got, GotPart}

-- the typed program of a parsed source
abbrev pub program_of : Parsed → Parts
program_of source = typed source.tree source.lines

-- no rule of kinds fails in a parsed source
abbrev pub KeepsKinds : Parsed → Type 0
KeepsKinds source = first_fault (items_of source.tree source.lines) ≡ None

-- the report of a program: the text of the steps of its played run's record, and of its ends
pub record IsReport (p : Parts) (text : List ℕ) : Type 0 where
  pub batches : List Batch
  pub tails : List Tail
  pub ends : List End
  pub played : Played p batches tails ends
  pub written : text ≡ report_text p.schema p.names (steps_of batches tails) ends

-- What a command makes of a source: `check` the canonical text, `code` the listing of its clients' codes, and `play` the
-- report of its run.
abbrev pub TextOf : Command → Parsed → List ℕ → Type 0
TextOf Check source text = text ≡ canonical source.tree
TextOf Code source text = text ≡ listing_of (program_of source)
TextOf Play source text = IsReport (program_of source) text

-- what each command asks of a source: that parsing answers a tree, which keeps the rules of kinds
abbrev pub Accepts : List ℕ → Type 0
Accepts text = (parsed : Parsed) × ParseAnswers text (Ok parsed) × KeepsKinds parsed

-- What each status says of the whole text that the source had left. With success and with a write fault a command accepts
-- it; a place of a syntax fault and a limit are what parsing answers; and a rule of kinds is the first that fails in the
-- tree that parsing answers.
abbrev pub Judges : Status → List ℕ → Type 0
Judges status.Done text = Accepts text
Judges status.Words text = ⊤
Judges status.ReadFault text = ⊤
Judges status.WriteFault text = Accepts text
Judges (status.Syntax line column) text = ParseAnswers text (Err (fault.Syntax line column))
Judges (status.Kind rule line) text = (parsed : Parsed) × ParseAnswers text (Ok parsed) × KindAnswers parsed (Err (kind.Rule rule line))
Judges (status.Limit w) text = ParseAnswers text (Err (fault.Limit w))
Judges status.Memory text = ⊤

-- the same, where there is a command and the source tells what it has left
abbrev pub JudgesLeft : Option Command → Status → Option (List ℕ) → Type 0
JudgesLeft None s left = ⊤
JudgesLeft (Some command) s None = ⊤
JudgesLeft (Some command) s (Some text) = Judges s text

-- the count of ends: it rose where the whole text was judged, and stands where no end was found
abbrev pub EndSeen : Option Command → Status → ℕ → ℕ → Type 0
EndSeen None s before now = now ≡ before
EndSeen (Some command) status.Words before now = now ≡ before
EndSeen (Some command) status.ReadFault before now = now ≡ before
EndSeen (Some command) (status.Limit which.Bytes) before now = now ≡ before
EndSeen (Some command) status.Memory before now = before ≤ now
EndSeen (Some command) s before now = Rose before now

-- parsing the text that the source had left answers this, where it tells what it has left
abbrev pub LeftParsed : Option (List ℕ) → Parsed → Type 0
LeftParsed None parsed = IsTree parsed.tree
LeftParsed (Some text) parsed = ParseAnswers text (Ok parsed)

-- and that is a source that keeps the rules of kinds
abbrev pub LeftTyped : Option (List ℕ) → Parsed → Type 0
LeftTyped left parsed = LeftParsed left parsed × KeepsKinds parsed

-- What was written: the whole text that the command makes of the source, or a prefix of it that isn't the whole; of the
-- source nothing is left unread then. With every other status the sink holds what it held.
abbrev pub Writes : Option Command → Status → Option (List ℕ) → Option (List ℕ) → Option (List ℕ) → Option (List ℕ) → Type 0
Writes None s left after held now = now ≡ held
Writes (Some command) status.Done left after held now = (parsed : Parsed) × (text : List ℕ) × LeftTyped left parsed × TextOf command parsed text × AtEnd after × Got held now text
Writes (Some command) status.WriteFault left after held now = (parsed : Parsed) × (text : List ℕ) × LeftTyped left parsed × TextOf command parsed text × AtEnd after × GotPart held now text
Writes (Some command) s left after held now = now ≡ held

-- The text is that of a lawful diagram of the program: each client runs its body up to its end, and each of its queries is
-- answered as its updates make it. The text tells the steps and the ends: no others of the schema's shape have it.
pub record ReportsRun (p : Parts) (text : List ℕ) : Type 0 where
  pub steps : List Step
  pub ends : List End
  pub lawful : Headline p.schema below_server (traces p) ends steps
  pub report : text ≡ report_text p.schema p.names steps ends
  pub told : Told p.schema p.names steps ends

-- the text lists the code of each client, which asks, does and ends as the client's body does
pub record ListsCodes (p : Parts) (text : List ℕ) : Type 0 where
  pub listed : text ≡ listing_of p
  pub means : (client : ℕ) (body : List Statement) → slice_get p.bodies client ≡ Some body → Means p.schema (code_of p.schema body) body

-- the text is a source of the program, if it isn't too long to be one
abbrev pub ParsesAgain : Program → List ℕ → Type 0
ParsesAgain p text = length text ≤ most_source_bytes → ParsesTo text p

-- what is known of a text that a command made
abbrev pub IsLawfulText : Command → Parsed → List ℕ → Type 0
IsLawfulText Check source text = ParsesAgain source.tree text
IsLawfulText Code source text = ListsCodes (program_of source) text
IsLawfulText Play source text = ReportsRun (program_of source) text

-- what `check` wrote is parsed to the source's program again, what `code` wrote lists the codes of its clients, and what
-- `play` wrote reports a run of it
abbrev pub WritesLawful : Option Command → Option (List ℕ) → Option (List ℕ) → Option (List ℕ) → Type 0
WritesLawful None left held now = ⊤
WritesLawful (Some Check) left held now = (parsed : Parsed) × (text : List ℕ) × LeftTyped left parsed × ParsesAgain parsed.tree text × Got held now text
WritesLawful (Some Code) left held now = (parsed : Parsed) × (text : List ℕ) × LeftTyped left parsed × ListsCodes (program_of parsed) text × Got held now text
WritesLawful (Some Play) left held now = (parsed : Parsed) × (text : List ℕ) × LeftTyped left parsed × ReportsRun (program_of parsed) text × Got held now text

-- there is a command, and the source tells its text, which the command accepts
abbrev pub Accepted : Option Command → Option (List ℕ) → Type 0
Accepted None left = ⊥
Accepted (Some command) None = ⊥
Accepted (Some command) (Some text) = Accepts text

module _ where
  -- where memory ran out the sink holds what it held, and where the words are no command no end was looked for
  pub example_nothing_written : Writes (Some Play) status.Memory (Some (codes "schema { ")) (Some []) (Some (codes "x")) (Some (codes "x")) × EndSeen None status.Words 3 3
  example_nothing_written = (refl, refl)

  -- the empty text isn't too long
  pub example_judges : ¬ Judges (status.Limit which.Bytes) []
  example_judges = not-suc-le-zero

  abbrev idle : List ℕ → Client
  idle name = record { name = name; body = [] }

  -- a program without globals, whose clients do nothing
  abbrev idlers : List Client → Program
  idlers clients = record { declarations = []; clients = clients; schedule = None }

  -- a source of two clients is accepted, and one that tells nothing isn't
  pub example_accepted : Accepted (Some Play) (Some (codes "schema { } client a { } client b { }")) × ¬ Accepted (Some Play) None
  unfolding scan_behind lexeme_at reserved words
  example_accepted =
      let a = idle (codes "a") in
      let b = idle (codes "b") in (
        (
          record { tree = idlers (a ∷ b ∷ []); lines = _ },
          (
            record { bytes = lit≤ tt; brackets = lit≤ tt },
            record { whole = refl; spelled = program [] a (b ∷ []) None _ _ _ no_declarations (client (codes "a") [] _ (block [] _ no_statements)) (more_clients b [] None _ _ (client (codes "b") [] _ (block [] _ no_statements)) no_clients) },
            record { numbers = tt; texts = tt; height = (lit≤ tt, (lit≤ tt, tt)); names = lit≤ tt; clients = lit≤ tt; steps = lit≤ tt },
            refl,
          ),
          refl,
        ),
        λ h. h,
      )
