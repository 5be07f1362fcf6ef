use Rattle.std.proofs.Common.{◌≡◌, take, drop}
use Rattle.kind_rules.specs.Answers.{first_fault}
use Rattle.kind_rules.specs.Declarations.{rules_from}
use Rattle.kind_rules.specs.Programs.{at_lines, lines_behind}
use Rattle.kind_declarations.specs.Checks.{declarations_fault}
use Rattle.kind_declarations.proofs.check.check_rules.Given as goal

-- the declarations that are left, behind those so far, have the fault of all
abbrev pub invariant-loop-place : goal.invariant-loop-place
invariant-loop-place l = record {
  fault : first_fault (at_lines l.rest (rules_from (take l.place l.declarations) (drop l.place l.declarations))) ≡ declarations_fault l.declarations l.fn.lines;
  behind : lines_behind (drop l.place l.declarations) l.rest ≡ lines_behind l.declarations l.fn.lines;
}
