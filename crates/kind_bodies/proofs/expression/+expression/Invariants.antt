use Rattle.std.proofs.Common.{◌≡◌, ◌++◌, drop}
use Rattle.kind_rules.specs.Statements.{scope_of}
use Rattle.kind_bodies.specs.Found.{judged_keys, lower, AreFit}
use Rattle.kind_bodies.proofs.expression.+expression.Given as goal

-- what comes of the keys so far, and of those that are left, makes all
abbrev pub invariant-judge_keys-loop-place : goal.invariant-judge_keys-loop-place
invariant-judge_keys-loop-place l =
    let scope = scope_of l.declared l.variables in
    let left = judged_keys scope (drop l.place l.types) (drop l.place l.keys) in
    record {
      rule : lower l.rule left.rule ≡ (judged_keys scope l.types l.keys).rule;
      typed : l.typed ++ left.typed ≡ (judged_keys scope l.types l.keys).typed;
      fit : AreFit (drop l.place l.keys);
    }
