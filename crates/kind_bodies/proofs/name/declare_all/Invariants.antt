use Rattle.std.proofs.Common.{◌≡◌, ◌+◌, ◌≤◌, ◌++◌, drop, length}
use Rattle.kind_rules.specs.Statements.{variables, most_visible}
use Rattle.kind_bodies.proofs.name.declare_all.Given as goal

-- the variables so far, and those of the names that are left, are all
abbrev pub invariant-loop-place : goal.invariant-loop-place
invariant-loop-place l =
    record {
      room : length l.visible + length (drop l.place l.names) ≤ most_visible;
      all : l.visible ++ variables (drop l.place l.names) (drop l.place l.types) ≡ l.initial.visible ++ variables l.names l.types;
    }
