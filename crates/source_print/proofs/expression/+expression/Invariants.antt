use Rattle.std.proofs.Common.{◌≡◌, ◌++◌, map, drop, codes}
use Rattle.source_print.specs.Expressions.{following, expression_text}
use Rattle.source_print.proofs.expression.+expression.Given as goal

-- what stands so far, and the keys that are left, make all
abbrev pub invariant-write_keys-loop-key : goal.invariant-write_keys-loop-key
invariant-write_keys-loop-key l = l.out.items ++ following (codes "]") (map expression_text (drop l.key-index l.rest)) ≡ l.initial.out.items ++ following (codes "]") (map expression_text l.rest)
