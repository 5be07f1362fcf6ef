-- What a part of a source is answered with, by its items.
use Rattle.std.specs.Prelude.{List}
use Rattle.kind_bodies.specs.Settles.{Told}
use Rattle.kind_bodies.specs.declared.fault.KindFault.{KindFault}
use Rattle.kind_rules.specs.Answers.{first_fault}
use Rattle.kind_rules.specs.Statements.{ItemRules}

-- the fault of the items is told, or want of memory, which may come at any time
abbrev pub TellsFault : List ItemRules → KindFault → Type 0
TellsFault items fault = Told (first_fault items) fault
