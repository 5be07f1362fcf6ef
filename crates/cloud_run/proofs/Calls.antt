-- What reading a tree and what a call promise, from what their parts did.
use Rattle.std.proofs.Common.{◌≡◌, ◌∙◌, ℕ, zero, suc, ◌<◌, List, [], ◌∷◌, length, refl, sym, ap, subst, inl, inr, lit≤}
use Rattle.std.specs.Prelude.{◌^◌, Option, Some, None, Ok, Err, slice_get, slice_index_or}
use Rattle.cloud_base.specs.Causes.{Rose}
use Rattle.cloud_parse.specs.Parse.{ParseAnswers}
use Rattle.cloud_parse.specs.declared.fault.ParseFault.TheVariants as fault
use Rattle.cloud_parse.specs.declared.fault.Which.{Which}
use Rattle.cloud_parse.specs.declared.parsed.Parsed.{Parsed}
use Rattle.typed_program.specs.Programs.{IsProgram}
use Rattle.typed_program.specs.declared.program.Parts.{Parts}
use Rattle.kind_bodies.specs.declared.fault.KindFault.TheVariants as kind
use Rattle.kind_check.specs.KindAnswers.{KindAnswers}
use Rattle.step_text.specs.Text.{report_text}
use Rattle.cloud_base.specs.Shaped.{IsSchema}
use Rattle.cloud_base.specs.Answer.{answer}
use Rattle.cloud_base.specs.Events.{Outcome, answers_in}
use Rattle.cloud_base.specs.declared.batch.Batch.{Batch}
use Rattle.cloud_base.specs.declared.batch.Tail.{Tail}
use Rattle.cloud_base.specs.declared.end.End.{End}
use Rattle.cloud_base.specs.declared.schedule.ScheduleItem.{ScheduleItem}
use Rattle.cloud_base.specs.declared.update.Answer.{Answer}
use Rattle.cloud_base.specs.declared.update.Query.{Query}
use Rattle.cloud_base.specs.declared.update.Update.{Update}
use Rattle.cloud_base.specs.declared.schema.Schema.{Schema}
use Rattle.cloud_base.specs.declared.update.Event.{Event}
use Rattle.typed_program.specs.Kinds.{IsBody}
use Rattle.typed_program.specs.declared.statement.Statement.{Statement}
use Rattle.typed_program.proofs.Shaped.{all_at}
use Rattle.code_gen.specs.Compile.{code_of}
use Rattle.code_gen.specs.Listings.{listing_of}
use Rattle.code_gen.specs.Meaning.{Means}
use Rattle.typed_program.specs.Trace.{trace}
use Rattle.batch_history.specs.Batches.{did}
use Rattle.batch_history.specs.Flushed.{Flushed, Traced}
use Rattle.batch_history.specs.Right.{AnsweredRight}
use Rattle.batch_history.specs.Sound.{SoundRecord}
use Rattle.record_diagram.specs.Steps.{steps_of}
use Rattle.diagram_text.specs.Programs.{Reports}
use Rattle.diagram_text.specs.Programs as drawn
use Rattle.diagram_text.specs.declared.history.Record.{Record}
use Rattle.played_record.specs.Plays.{IsPlayed}
use Rattle.played_record.specs.Programs.{trace_by}
use Rattle.played_record.specs.Programs as played
use Rattle.cloud_play.specs.Runs.{IsRunOf}
use Rattle.cloud_run.specs.declared.command.Command.{Command}
use Rattle.cloud_run.specs.declared.command.Command.TheVariants.{Check, Code, Play}
use Rattle.cloud_run.specs.declared.flows.ReadError.TheVariants as error
use Rattle.cloud_run.specs.declared.status.Status.{Status}
use Rattle.cloud_run.specs.declared.status.Status.TheVariants as status
use Rattle.cloud_run.specs.Flows.{HandedOut, Got, GotPart, ReadsAll, most_read}
use Rattle.cloud_run.specs.Runs.{ReadsTree, Runs}
use Rattle.cloud_run.specs.Top.{program_of, KeepsKinds, LeftTyped, ReportsRun, ListsCodes, IsLawfulText, WritesLawful, IsReport, TextOf}
use Rattle.cloud_run.proofs.Judged.{OneAnswer, TokensFit, reads, left_parsed, left_done, left_kind, left_limit, left_syntax, limit_ended, judges_read_fault, judges_memory, judges_write_fault, writes_nothing, not_done, not_words, not_write_fault, kind_refused, refused_accepted}

-- where nothing was read all is left
pub handed_nothing : (left : Option (List ℕ)) → HandedOut most_read left left
handed_nothing None = refl
handed_nothing (Some bytes) = (0, lit≤ tt, refl)

-- the law of reports of records
abbrev pub ReportsTell : Type 0
ReportsTell = (p : Parts) (batches : List Batch) (tails : List Tail) (ends : List End) → IsProgram p → length p.names ≡ length tails → length batches < 2 ^ 30
    → SoundRecord batches tails ends → AnsweredRight (answer p.schema) batches tails → Flushed batches tails → Traced (drawn.trace_of p) batches tails ends
    → Reports p (steps_of batches tails) ends

-- a client that has no body does nothing
no_body : (client n : ℕ) (bodies : List (List Statement)) (given : List Answer) → trace_by client (slice_get bodies n) given ≡ trace client (slice_index_or bodies n []) given
no_body client n [] given = refl
no_body client zero (body ∷ bodies) given = refl
no_body client (suc n) (body ∷ bodies) given = no_body client n bodies given

traced : (p : Parts) (batches : List Batch) (tails : List Tail) (ends : List End) → Traced (played.trace_of p) batches tails ends → Traced (drawn.trace_of p) batches tails ends
traced p batches tails ends h c end is = sym (no_body c c p.bodies (answers_in (did batches tails c))) ∙ h c end is

-- the report of a program's run is lawful
pub reports_run : (p q : Parts) (history : Record) (text : List ℕ) → ReportsTell → p ≡ q → IsProgram p → IsRunOf p history
    → text ≡ report_text p.schema p.names (steps_of history.batches history.tails) history.ends → ReportsRun q text
reports_run p q history text tell same is run written =
    let its = tell p history.batches history.tails history.ends is run.clients run.drawable.few_batches run.sound run.right run.flushed
    (traced p history.batches history.tails history.ends run.traced) in
    subst (λ (x : Parts). ReportsRun x text) same (record {
      steps = steps_of history.batches history.tails;
      ends = history.ends;
      lawful = its.headline;
      report = written;
      told = its.told;
    })

-- the law of played runs
abbrev pub PlaysOnce : Type 0
PlaysOnce = (answers : List Update → Query → Answer) (trace : ℕ → List Answer → List Event × Outcome) (schedule : List ScheduleItem) (n : ℕ)
    (batches others : List Batch) (tails other_tails : List Tail) (ends other_ends : List End)
    → IsPlayed answers trace schedule n batches tails ends → IsPlayed answers trace schedule n others other_tails other_ends
    → (batches ≡ others) × (tails ≡ other_tails) × (ends ≡ other_ends)

-- a run is played in one way, and so a command has one text
pub one_text : PlaysOnce → (command : Command) (source : Parsed) (a b : List ℕ) → TextOf command source a → TextOf command source b → a ≡ b
one_text once Check source a b h k = h ∙ sym k
one_text once Code source a b h k = h ∙ sym k
one_text once Play source a b h k =
    let p = program_of source in
    let same = once (answer p.schema) (played.trace_of p) p.schedule (length p.bodies) h.batches k.batches h.tails k.tails h.ends k.ends h.played k.played in
    h.written
    ∙ ap (λ (l : List Batch). report_text p.schema p.names (steps_of l h.tails) h.ends) same.0
    ∙ ap (λ (l : List Tail). report_text p.schema p.names (steps_of k.batches l) h.ends) same.1
    ∙ ap (report_text p.schema p.names (steps_of k.batches k.tails)) same.2
    ∙ sym k.written

-- the law of compiled bodies
abbrev pub CodesMean : Type 0
CodesMean = (schema : Schema) (body : List Statement) → IsSchema schema → IsBody schema body → Means schema (code_of schema body) body

-- the listing of a program lists codes that mean its bodies
pub lists_codes : (p q : Parts) (text : List ℕ) → CodesMean → p ≡ q → IsProgram p → text ≡ listing_of p → ListsCodes q text
lists_codes p q text means same is listed = subst (λ (x : Parts). ListsCodes x text) same (record {
  listed = listed;
  means = λ client body there. means p.schema body is.schema (all_at (IsBody p.schema) p.bodies client body is.bodies there);
})

-- the text of a listing
pub listing_text : (source : Parsed) (p : Parts) (text : List ℕ) → p ≡ program_of source → text ≡ listing_of p → TextOf Code source text
listing_text source p text same is = is ∙ ap listing_of same

-- the text of a report
pub played_text : (source : Parsed) (p : Parts) (history : Record) (text : List ℕ) → p ≡ program_of source → IsRunOf p history
    → text ≡ report_text p.schema p.names (steps_of history.batches history.tails) history.ends → TextOf Play source text
played_text source p history text same run written =
    subst (λ (x : Parts). IsReport x text) same (record { batches = history.batches; tails = history.tails; ends = history.ends; played = run.played; written = written })

pub ruleset listed = (lists_codes, listing_text)

pub ruleset reported = (reports_run, played_text)

-- what was made lawfully is written lawfully
pub writes_lawful : (command : Command) (left held now : Option (List ℕ)) (parsed : Parsed) (text : List ℕ) → LeftTyped left parsed → IsLawfulText command parsed text → Got held now text → WritesLawful (Some command) left held now
writes_lawful Check left held now parsed text said lawful got = (parsed, text, said, lawful, got)
writes_lawful Code left held now parsed text said lawful got = (parsed, text, said, lawful, got)
writes_lawful Play left held now parsed text said lawful got = (parsed, text, said, lawful, got)

module _ {S : Type 0} (left : S → Option (List ℕ)) (faults ends : S → ℕ) (source source' : S) where
  pub reading_failed : ReadsAll left faults ends source source' (Err error.Failed) → ReadsTree left faults ends source source' (Err status.ReadFault)
  reading_failed r = record {
    tree = tt;
    end = tt;
    seen = tt;
    later = r.reads.later;
    refusal = tt;
    judged = λ command is. judges_read_fault command (left source);
    ended = λ command is. r.reads.unended;
    read_fault = λ is. r.reads.fault refl;
    no_read_fault = λ no. absurd (no refl);
    handed = r.reads.handed;
  }

  pub reading_wants : ReadsAll left faults ends source source' (Err error.Memory) → ReadsTree left faults ends source source' (Err status.Memory)
  reading_wants r = record {
    tree = tt;
    end = tt;
    seen = tt;
    later = r.reads.later;
    refusal = tt;
    judged = λ command is. judges_memory command (left source);
    ended = λ command is. r.reads.later;
    read_fault = λ is. cc;
    no_read_fault = λ no. r.reads.no_fault (λ is. cc);
    handed = r.reads.handed;
  }

  pub parsing_wants : (taken : List ℕ) → ReadsAll left faults ends source source' (Ok taken) → ReadsTree left faults ends source source' (Err status.Memory)
  parsing_wants taken r = record {
    tree = tt;
    end = tt;
    seen = tt;
    later = r.reads.later;
    refusal = tt;
    judged = λ command is. judges_memory command (left source);
    ended = λ command is. r.reads.later;
    read_fault = λ is. cc;
    no_read_fault = λ no. r.reads.no_fault (λ is. cc);
    handed = r.reads.handed;
  }

  pub parsing_limits : (taken : List ℕ) (w : Which) → ReadsAll left faults ends source source' (Ok taken) → ParseAnswers taken (Err (fault.Limit w)) → ReadsTree left faults ends source source' (Err (status.Limit w))
  parsing_limits taken w r said = record {
    tree = tt;
    end = tt;
    seen = tt;
    later = r.reads.later;
    refusal = tt;
    judged = λ command is. left_limit command w (left source) (left source') taken r.parts r.end said;
    ended = λ command is. limit_ended command w (ends source) (ends source') taken r.seen r.unseen said;
    read_fault = λ is. cc;
    no_read_fault = λ no. r.reads.no_fault (λ is. cc);
    handed = r.reads.handed;
  }

  pub parsing_places : (taken : List ℕ) (line column : ℕ) → ReadsAll left faults ends source source' (Ok taken) → ParseAnswers taken (Err (fault.Syntax line column)) → ReadsTree left faults ends source source' (Err (status.Syntax line column))
  parsing_places taken line column r said = record {
    tree = tt;
    end = tt;
    seen = tt;
    later = r.reads.later;
    refusal = tt;
    judged = λ command is. left_syntax command line column (left source) (left source') taken r.parts r.end said;
    ended = λ command is. r.seen said.readable.bytes;
    read_fault = λ is. cc;
    no_read_fault = λ no. r.reads.no_fault (λ is. cc);
    handed = r.reads.handed;
  }

  pub parsing_answers : (taken : List ℕ) (parsed : Parsed) → TokensFit → ReadsAll left faults ends source source' (Ok taken) → ParseAnswers taken (Ok parsed) → ReadsTree left faults ends source source' (Ok parsed)
  parsing_answers taken parsed fit r said = record {
    tree = left_parsed fit (left source) (left source') taken parsed r.parts (r.end said.0.bytes) said;
    end = r.end said.0.bytes;
    seen = r.seen said.0.bytes;
    later = r.reads.later;
    refusal = tt;
    judged = tt;
    ended = tt;
    read_fault = λ is. cc;
    no_read_fault = λ no. r.reads.no_fault (λ is. cc);
    handed = r.reads.handed;
  }

module _ {S K : Type 0} (left : S → Option (List ℕ)) (faults ends : S → ℕ) (holds : K → Option (List ℕ)) (sink_faults : K → ℕ) where
  -- words that are no command
  pub no_command : (command : Option Command) (source : S) (sink : K) → command ≡ None → Runs left faults ends holds sink_faults command status.Words source source sink sink
  no_command (Some command) source sink none = cc
  no_command None source sink none = record {
    words = (λ is. refl, λ is. refl);
    unread = λ is. refl;
    read_fault = λ is. cc;
    no_read_fault = λ no. refl;
    write_fault = λ is. cc;
    no_write_fault = λ no. refl;
    judged = tt;
    ended = refl;
    handed = handed_nothing (left source);
    written = refl;
    silent = λ not_done not_fault. refl;
    lawful = λ is. tt;
    complete = λ accepted. absurd accepted;
  }

  module _ (command : Command) (source source' : S) where
    -- a source that isn't read, or of which parsing answers no tree
    pub refused : (s : Status) (sink : K) → OneAnswer → ReadsTree left faults ends source source' (Err s) → Runs left faults ends holds sink_faults (Some command) s source source' sink sink
    refused s sink one r = record {
      words = (λ is. absurd (not_words s r.refusal is), λ none. cc);
      unread = λ is. absurd (not_words s r.refusal is);
      read_fault = λ is. r.read_fault (ap Err is);
      no_read_fault = λ no. r.no_read_fault (λ is. no cc);
      write_fault = λ is. absurd (not_write_fault s r.refusal is);
      no_write_fault = λ no. refl;
      judged = r.judged command (reads command);
      ended = r.ended command (reads command);
      handed = r.handed;
      written = writes_nothing command s (left source) (left source') (holds sink) r.refusal;
      silent = λ not_done not_fault. refl;
      lawful = λ is. absurd (not_done s r.refusal is);
      complete = λ accepted no_fault no_sink_fault. refused_accepted one command s (left source) r.refusal (r.judged command (reads command)) accepted (λ is. no_fault (r.read_fault (ap Err is)));
    }

    module _ (parsed : Parsed) (r : ReadsTree left faults ends source source' (Ok parsed)) where
      -- want of memory for the text
      pub text_wants : (sink : K) → Runs left faults ends holds sink_faults (Some command) status.Memory source source' sink sink
      text_wants sink = record {
        words = (λ is. cc, λ none. cc);
        unread = λ is. cc;
        read_fault = λ is. cc;
        no_read_fault = λ no. r.no_read_fault (λ is. cc);
        write_fault = λ is. cc;
        no_write_fault = λ no. refl;
        judged = judges_memory command (left source);
        ended = r.later;
        handed = r.handed;
        written = refl;
        silent = λ not_done not_fault. refl;
        lawful = λ is. cc;
        complete = λ accepted no_fault no_sink_fault. inr refl;
      }

      -- a source that breaks a rule of kinds
      pub breaks_rule : (rule line : ℕ) (sink : K) → OneAnswer → KindAnswers parsed (Err (kind.Rule rule line)) → Runs left faults ends holds sink_faults (Some command) (status.Kind rule line) source source' sink sink
      breaks_rule rule line sink one told = record {
        words = (λ is. cc, λ none. cc);
        unread = λ is. cc;
        read_fault = λ is. cc;
        no_read_fault = λ no. r.no_read_fault (λ is. cc);
        write_fault = λ is. cc;
        no_write_fault = λ no. refl;
        judged = left_kind command rule line (left source) parsed r.tree told;
        ended = r.seen;
        handed = r.handed;
        written = refl;
        silent = λ not_done not_fault. refl;
        lawful = λ is. cc;
        complete = λ accepted no_fault no_sink_fault. absurd (kind_refused one command rule line (left source) (left_kind command rule line (left source) parsed r.tree told) accepted);
      }

      -- the sink took the whole text
      pub written_whole : (text : List ℕ) (sink sink' : K) → KeepsKinds parsed → TextOf command parsed text → IsLawfulText command parsed text → sink_faults sink' ≡ sink_faults sink → Got (holds sink) (holds sink') text
          → Runs left faults ends holds sink_faults (Some command) status.Done source source' sink sink'
      written_whole text sink sink' keeps makes lawful stands got = record {
        words = (λ is. cc, λ none. cc);
        unread = λ is. cc;
        read_fault = λ is. cc;
        no_read_fault = λ no. r.no_read_fault (λ is. cc);
        write_fault = λ is. cc;
        no_write_fault = λ no. stands;
        judged = left_done command (left source) parsed r.tree keeps;
        ended = r.seen;
        handed = r.handed;
        written = (parsed, text, (r.tree, keeps), makes, r.end, got);
        silent = λ not_done not_fault. absurd (not_done refl);
        lawful = λ is. writes_lawful command (left source) (holds sink) (holds sink') parsed text (r.tree, keeps) lawful got;
        complete = λ accepted no_fault no_sink_fault. inl refl;
      }

      -- the sink failed
      pub written_part : (text : List ℕ) (sink sink' : K) → KeepsKinds parsed → TextOf command parsed text → Rose (sink_faults sink) (sink_faults sink') → GotPart (holds sink) (holds sink') text
          → Runs left faults ends holds sink_faults (Some command) status.WriteFault source source' sink sink'
      written_part text sink sink' keeps makes rose got = record {
        words = (λ is. cc, λ none. cc);
        unread = λ is. cc;
        read_fault = λ is. cc;
        no_read_fault = λ no. r.no_read_fault (λ is. cc);
        write_fault = λ is. rose;
        no_write_fault = λ no. absurd (no refl);
        judged = judges_write_fault command (left source) (left_done command (left source) parsed r.tree keeps);
        ended = r.seen;
        handed = r.handed;
        written = (parsed, text, (r.tree, keeps), makes, r.end, got);
        silent = λ not_done not_fault. absurd (not_fault refl);
        lawful = λ is. cc;
        complete = λ accepted no_fault no_sink_fault. absurd (no_sink_fault rose);
      }

pub ruleset reading = (reading_failed, reading_wants, parsing_wants, parsing_limits, parsing_places, parsing_answers)

pub ruleset ending = (text_wants, written_whole, written_part)
