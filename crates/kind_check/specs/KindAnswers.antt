-- What checking a source answers.
use Rattle.std.specs.Prelude.{◌≡◌, Result, Ok, Err, None}
use Rattle.cloud_parse.specs.declared.parsed.Parsed.{Parsed}
use Rattle.typed_program.specs.declared.program.Program.{Program}
use Rattle.kind_bodies.specs.declared.fault.KindFault.{KindFault}
use Rattle.kind_rules.specs.Answers.{first_fault}
use Rattle.kind_rules.specs.Programs.{items_of, typed}
use Rattle.kind_check.specs.Faults.{TellsFault}

-- its typed program, where no rule fails at any item; else its fault; and want of memory, which may come
-- at any time
abbrev pub KindAnswers : Parsed → Result Program KindFault → Type 0
KindAnswers source (Ok program) = (first_fault (items_of source.tree source.lines) ≡ None) × (program ≡ typed source.tree source.lines)
KindAnswers source (Err fault) = TellsFault (items_of source.tree source.lines) fault
