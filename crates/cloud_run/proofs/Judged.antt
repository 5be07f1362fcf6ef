-- Laws of what each status says of a source.
use Rattle.std.proofs.Common.{◌≡◌, ◌≢◌, ℕ, ◌<◌, ◌≤◌, List, [], ◌++◌, length, refl, sym, ap, ◌∙◌, append-nil, length-append, subst, arith, inl, inr}
use Rattle.std.specs.Prelude.{Option, Some, None, Result, Ok, Err, ◌⊎◌, IsTrue}
use Rattle.std.specs.List.{AllByRecursion}
use Rattle.cloud_base.specs.Causes.{Rose}
use Rattle.source_tokens.specs.Scans.{scan, tokens_of, IsToken}
use Rattle.source_tree.specs.Limits.{IsTree}
use Rattle.cloud_parse.specs.Parse.{most_source_bytes, TellsLimit, ParseAnswers}
use Rattle.cloud_parse.specs.declared.fault.ParseFault.{ParseFault}
use Rattle.cloud_parse.specs.declared.fault.ParseFault.TheVariants as fault
use Rattle.cloud_parse.specs.declared.fault.Which.{Which}
use Rattle.cloud_parse.specs.declared.fault.Which.TheVariants as which
use Rattle.cloud_parse.specs.declared.parsed.Parsed.{Parsed}
use Rattle.cloud_run.specs.declared.command.Command.{Command}
use Rattle.cloud_run.specs.declared.command.Command.TheVariants.{Check, Code, Play}
use Rattle.cloud_run.specs.declared.status.Status.{Status}
use Rattle.cloud_run.specs.declared.status.Status.TheVariants as status
use Rattle.cloud_run.specs.Commands.{reads_source}
use Rattle.cloud_run.specs.Flows.{Parts, AtEnd}
use Rattle.cloud_run.specs.Runs.{IsReadRefusal}
use Rattle.kind_bodies.specs.declared.fault.KindFault.TheVariants as kind
use Rattle.kind_rules.specs.Answers.{first_fault}
use Rattle.kind_rules.specs.Programs.{items_of}
use Rattle.kind_check.specs.KindAnswers.{KindAnswers}
use Rattle.cloud_run.specs.Top.{KeepsKinds, Accepts, JudgesLeft, EndSeen, LeftParsed, Writes, Accepted}

-- the law of parsing: two answers of a text other than want of memory are one
abbrev pub OneAnswer : Type 0
OneAnswer = (text : List ℕ) (a b : Result Parsed ParseFault) → ParseAnswers text a → ParseAnswers text b → a ≢ Err fault.Memory → b ≢ Err fault.Memory → a ≡ b

-- the law of scanning: what tokens of a text are
abbrev pub TokensFit : Type 0
TokensFit = (text : List ℕ) → AllByRecursion IsToken (tokens_of (scan text).tokens)

-- each command reads a source so far
pub reads : (command : Command) → IsTrue (reads_source command)
reads Check = refl
reads Code = refl
reads Play = refl

-- where nothing is left, what was taken is the whole text
pub whole : (bytes taken left : List ℕ) → bytes ≡ taken ++ left → left ≡ [] → taken ≡ bytes
whole bytes taken left p e = sym (p ∙ ap (λ l. taken ++ l) e ∙ append-nil taken)

-- what is parsed of a text is a tree
is_tree : TokensFit → (text : List ℕ) (parsed : Parsed) → ParseAnswers text (Ok parsed) → IsTree parsed.tree
is_tree fit text parsed said = record { spelled = (tokens_of (scan text).tokens, said.1.spelled, fit text); within = said.2 }

-- what is parsed of what was taken is parsed of the whole text
pub left_parsed : TokensFit → (left after : Option (List ℕ)) (taken : List ℕ) (parsed : Parsed) → Parts left after taken → AtEnd after → ParseAnswers taken (Ok parsed) → LeftParsed left parsed
left_parsed fit None after taken parsed p e said = is_tree fit taken parsed said
left_parsed fit (Some bytes) None taken parsed p e said = absurd p
left_parsed fit (Some bytes) (Some rest) taken parsed p e said = subst (λ text. ParseAnswers text (Ok parsed)) (whole bytes taken rest p e) said

-- what is parsed and keeps the rules of kinds is accepted
pub left_done : (command : Command) (left : Option (List ℕ)) (parsed : Parsed) → LeftParsed left parsed → KeepsKinds parsed → JudgesLeft (Some command) status.Done left
left_done command None parsed said keeps = tt
left_done command (Some bytes) parsed said keeps = (parsed, said, keeps)

-- what is parsed and breaks a rule of kinds
pub left_kind : (command : Command) (rule line : ℕ) (left : Option (List ℕ)) (parsed : Parsed) → LeftParsed left parsed → KindAnswers parsed (Err (kind.Rule rule line)) → JudgesLeft (Some command) (status.Kind rule line) left
left_kind command rule line None parsed said told = tt
left_kind command rule line (Some bytes) parsed said told = (parsed, said, told)

-- what breaks another limit than the length isn't too long
few : (w : Which) (text : List ℕ) → TellsLimit w text → (w ≡ which.Bytes) ⊎ (length text ≤ most_source_bytes)
few which.Bytes text said = inl refl
few which.Brackets text said = inr said.0
few which.Number text said = inr said.readable.bytes
few which.Text text said = inr said.readable.bytes
few which.Height text said = inr said.readable.bytes
few which.Names text said = inr said.readable.bytes
few which.Clients text said = inr said.readable.bytes
few which.Steps text said = inr said.readable.bytes

-- a limit that what was taken breaks is one that the whole text breaks
pub left_limit : (command : Command) (w : Which) (left after : Option (List ℕ)) (taken : List ℕ) → Parts left after taken → (length taken ≤ most_source_bytes → AtEnd after)
    → ParseAnswers taken (Err (fault.Limit w)) → JudgesLeft (Some command) (status.Limit w) left
left_limit command w None after taken p e said = tt
left_limit command w (Some bytes) None taken p e said = absurd p
left_limit command w (Some bytes) (Some rest) taken p e said = elim (few w taken said) [
  | inl is ↦
      let long : most_source_bytes < length taken = subst (λ v. TellsLimit v taken) is said in
      let told : ParseAnswers bytes (Err (fault.Limit which.Bytes)) = omega (arith, long, ap length p, length-append taken rest) in
      subst (λ v. ParseAnswers bytes (Err (fault.Limit v))) (sym is) told
  | inr short ↦ subst (λ text. ParseAnswers text (Err (fault.Limit w))) (whole bytes taken rest p (e short)) said
]

-- the place of a syntax fault is that in the whole text
pub left_syntax : (command : Command) (line column : ℕ) (left after : Option (List ℕ)) (taken : List ℕ) → Parts left after taken → (length taken ≤ most_source_bytes → AtEnd after)
    → ParseAnswers taken (Err (fault.Syntax line column)) → JudgesLeft (Some command) (status.Syntax line column) left
left_syntax command line column None after taken p e said = tt
left_syntax command line column (Some bytes) None taken p e said = absurd p
left_syntax command line column (Some bytes) (Some rest) taken p e said =
    subst (λ text. ParseAnswers text (Err (fault.Syntax line column))) (whole bytes taken rest p (e said.readable.bytes)) said

pub limit_ended : (command : Command) (w : Which) (before now : ℕ) (taken : List ℕ) → (length taken ≤ most_source_bytes → Rose before now) → (most_source_bytes < length taken → now ≡ before)
    → ParseAnswers taken (Err (fault.Limit w)) → EndSeen (Some command) (status.Limit w) before now
limit_ended command which.Bytes before now taken seen unseen said = unseen said
limit_ended command which.Brackets before now taken seen unseen said = seen said.0
limit_ended command which.Number before now taken seen unseen said = seen said.readable.bytes
limit_ended command which.Text before now taken seen unseen said = seen said.readable.bytes
limit_ended command which.Height before now taken seen unseen said = seen said.readable.bytes
limit_ended command which.Names before now taken seen unseen said = seen said.readable.bytes
limit_ended command which.Clients before now taken seen unseen said = seen said.readable.bytes
limit_ended command which.Steps before now taken seen unseen said = seen said.readable.bytes

-- a read fault and want of memory say nothing of the text
pub judges_read_fault : (command : Command) (left : Option (List ℕ)) → JudgesLeft (Some command) status.ReadFault left
judges_read_fault command None = tt
judges_read_fault command (Some text) = tt

pub judges_memory : (command : Command) (left : Option (List ℕ)) → JudgesLeft (Some command) status.Memory left
judges_memory command None = tt
judges_memory command (Some text) = tt

-- a write fault says the same of the text as success
pub judges_write_fault : (command : Command) (left : Option (List ℕ)) → JudgesLeft (Some command) status.Done left → JudgesLeft (Some command) status.WriteFault left
judges_write_fault command None j = tt
judges_write_fault command (Some text) j = j

-- what is refused before writing writes nothing
pub writes_nothing : (command : Command) (s : Status) (left after held : Option (List ℕ)) → IsReadRefusal s → Writes (Some command) s left after held held
writes_nothing command status.Done left after held r = absurd r
writes_nothing command status.Words left after held r = absurd r
writes_nothing command status.ReadFault left after held r = refl
writes_nothing command status.WriteFault left after held r = absurd r
writes_nothing command (status.Syntax line column) left after held r = refl
writes_nothing command (status.Kind rule line) left after held r = absurd r
writes_nothing command (status.Limit w) left after held r = refl
writes_nothing command status.Memory left after held r = refl

-- what is refused before writing is no other status
pub not_done : (s : Status) → IsReadRefusal s → s ≡ status.Done → ⊥
not_done s r is = subst IsReadRefusal is r

pub not_words : (s : Status) → IsReadRefusal s → s ≡ status.Words → ⊥
not_words s r is = subst IsReadRefusal is r

pub not_write_fault : (s : Status) → IsReadRefusal s → s ≡ status.WriteFault → ⊥
not_write_fault s r is = subst IsReadRefusal is r

abbrev answers : Parsed → Result Parsed ParseFault
answers parsed = Ok parsed

abbrev refuses : ParseFault → Result Parsed ParseFault
refuses f = Err f

-- a source that breaks a rule of kinds isn't accepted
pub kind_refused : OneAnswer → (command : Command) (rule line : ℕ) (left : Option (List ℕ)) → JudgesLeft (Some command) (status.Kind rule line) left → Accepted (Some command) left → ⊥
kind_refused one command rule line None j a = a
kind_refused one command rule line (Some text) (other, told, breaks) (parsed, said, keeps) =
    let same : answers other ≡ answers parsed = one text (answers other) (answers parsed) told said (λ e. cc) (λ e. cc) in
    let is : other ≡ parsed = cc same in
    let none : None ≡ Some (record { rule = rule; line = line }) = sym keeps ∙ subst (λ (p : Parsed). first_fault (items_of p.tree p.lines) ≡ Some (record { rule = rule; line = line })) is breaks in
    absurd (cc none)

-- what breaks a limit, or has no program, isn't accepted
not_told : OneAnswer → (text : List ℕ) (f : ParseFault) → Accepts text → ParseAnswers text (Err f) → f ≢ fault.Memory → ⊥
not_told one text f (parsed, said, keeps) told differs =
    let same : answers parsed ≡ refuses f = one text (answers parsed) (refuses f) said told (λ e. cc) (λ e. differs cc) in
    cc same

-- an accepted text is refused before writing only by a fault or for want of memory
pub refused_accepted : OneAnswer → (command : Command) (s : Status) (left : Option (List ℕ)) → IsReadRefusal s → JudgesLeft (Some command) s left → Accepted (Some command) left → s ≢ status.ReadFault
    → (s ≡ status.Done) ⊎ (s ≡ status.Memory)
refused_accepted one command s None r j a n = absurd a
refused_accepted one command status.Done (Some text) r j a n = absurd r
refused_accepted one command status.Words (Some text) r j a n = absurd r
refused_accepted one command status.ReadFault (Some text) r j a n = absurd (n refl)
refused_accepted one command status.WriteFault (Some text) r j a n = absurd r
refused_accepted one command (status.Syntax line column) (Some text) r j a n = absurd (not_told one text (fault.Syntax line column) a j (λ e. cc))
refused_accepted one command (status.Kind rule line) (Some text) r j a n = absurd r
refused_accepted one command (status.Limit w) (Some text) r j a n = absurd (not_told one text (fault.Limit w) a j (λ e. cc))
refused_accepted one command status.Memory (Some text) r j a n = inr refl
