-- What a call of the program promises, clause by clause.
use Rattle.std.specs.Prelude.{◌≡◌, ◌≢◌, ◌↔◌, ◌⊎◌, ℕ, ◌≤◌, ⊤, IsTrue, List, Option, Some, None, Result, IfOk, OnOk, IfErr, IsErrOf}
use Rattle.cloud_base.specs.Causes.{Rose}
use Rattle.cloud_parse.specs.declared.parsed.Parsed.{Parsed}
use Rattle.cloud_run.specs.declared.command.Command.{Command}
use Rattle.cloud_run.specs.declared.status.Status.{Status}
use Rattle.cloud_run.specs.declared.status.Status.TheVariants.{Done, Words, ReadFault, WriteFault, Kind, Memory}
use Rattle.cloud_run.specs.Commands.{reads_source}
use Rattle.cloud_run.specs.Flows.{most_read, HandedOut, AtEnd}
use Rattle.cloud_run.specs.Top.{JudgesLeft, EndSeen, LeftParsed, Writes, WritesLawful, Accepted}

-- a refusal of reading or parsing
abbrev pub IsReadRefusal : Status → Type 0
IsReadRefusal Done = ⊥
IsReadRefusal Words = ⊥
IsReadRefusal WriteFault = ⊥
IsReadRefusal (Kind rule line) = ⊥
IsReadRefusal s = ⊤

-- What reading the tree of a source did, by its answer. `left` is what the source tells that it has left, and it counts
-- faults and ends.
pub record ReadsTree {S : Type 0} (left : S → Option (List ℕ)) (faults ends : S → ℕ) (source source' : S)
    (result : Result Parsed Status) : Type 0 where
  -- the tree is that of all that was left
  pub tree : IfOk result (λ parsed. LeftParsed (left source) parsed)
  -- then nothing is left, and the count of ends rose
  pub end : OnOk result (AtEnd (left source'))
  pub seen : OnOk result (Rose (ends source) (ends source'))
  -- the count of ends doesn't fall
  pub later : ends source ≤ ends source'
  -- a refusal is of the reading, the place of a syntax fault, a limit or want of memory, and says of what was left what
  -- it says for each command that reads a source
  pub refusal : IfErr result IsReadRefusal
  pub judged : IfErr result (λ s. (command : Command) → IsTrue (reads_source command) → JudgesLeft (Some command) s (left source))
  pub ended : IfErr result (λ s. (command : Command) → IsTrue (reads_source command) → EndSeen (Some command) s (ends source) (ends source'))
  -- a read fault comes only where the count of faults rose, and with any other answer that count stands
  pub read_fault : IsErrOf result ReadFault → Rose (faults source) (faults source')
  pub no_read_fault : ¬ IsErrOf result ReadFault → faults source' ≡ faults source
  -- of what was left only first bytes were read, at most one more than a source may have
  pub handed : HandedOut most_read (left source) (left source')

-- One call of the program, by its command, None where the words are none, and its status. A source tells what it has left
-- and counts faults and ends, and a sink tells what it holds and counts faults.
pub record Runs {S K : Type 0} (left : S → Option (List ℕ)) (faults ends : S → ℕ)
    (holds : K → Option (List ℕ)) (sink_faults : K → ℕ)
    (command : Option Command) (status : Status) (source source' : S) (sink sink' : K) : Type 0 where
  -- the status is Words exactly where the words are no command
  pub words : (status ≡ Words) ↔ (command ≡ None)
  -- then the source wasn't touched
  pub unread : status ≡ Words → source' ≡ source
  -- a read fault comes only where the source's count of faults rose in this call
  pub read_fault : status ≡ ReadFault → Rose (faults source) (faults source')
  -- with every other status that count stands
  pub no_read_fault : status ≢ ReadFault → faults source' ≡ faults source
  -- a write fault comes only where the sink's count of faults rose in this call
  pub write_fault : status ≡ WriteFault → Rose (sink_faults sink) (sink_faults sink')
  -- with every other status that count stands
  pub no_write_fault : status ≢ WriteFault → sink_faults sink' ≡ sink_faults sink
  -- the status says whether the command accepts all that the source had left, and else what is wrong with that
  pub judged : JudgesLeft command status (left source)
  -- the source's end was seen wherever a text was judged, but for one that is too long
  pub ended : EndSeen command status (ends source) (ends source')
  -- of what the source had left only first bytes were read, at most one more than a source may have
  pub handed : HandedOut most_read (left source) (left source')
  -- the sink took the command's text whole with success, a prefix of it with a write fault, and else nothing
  pub written : Writes command status (left source) (left source') (holds sink) (holds sink')
  -- with every status but these two the sink wasn't touched
  pub silent : status ≢ Done → status ≢ WriteFault → sink' ≡ sink
  -- what `check` wrote with success is parsed to the source's program again, where it isn't too long; what `code` wrote
  -- lists the codes of that program's clients, and what `play` wrote is the report of a lawful diagram of it
  pub lawful : status ≡ Done → WritesLawful command (left source) (holds sink) (holds sink')
  -- where the command accepts the source and no count of faults rose, success comes, or want of memory
  pub complete : Accepted command (left source) → ¬ Rose (faults source) (faults source')
      → ¬ Rose (sink_faults sink) (sink_faults sink') → (status ≡ Done) ⊎ (status ≡ Memory)
