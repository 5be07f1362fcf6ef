use Rattle.std.proofs.Common.{◌≡◌, ◌++◌, map, drop, codes}
use Rattle.source_print.specs.Expressions.{following}
use Rattle.source_print.specs.Canonical.{key_text}
use Rattle.source_print.proofs.declaration.write_declared_keys.Given as goal

-- what stands so far, and the keys that are left, make all
abbrev pub invariant-loop-key : goal.invariant-loop-key
invariant-loop-key l = l.out.items ++ following (codes "]") (map key_text (drop l.key-index l.rest)) ≡ l.initial.out.items ++ following (codes "]") (map key_text l.rest)
