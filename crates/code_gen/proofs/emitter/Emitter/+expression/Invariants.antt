use Rattle.std.proofs.Common.{◌≡◌, ◌++◌, length, drop}
use Rattle.code_gen.specs.Compile.{keys_code}
use Rattle.code_gen.proofs.emitter.Emitter.+expression.Given as goal

-- what stands so far, and the keys that are left, make all
abbrev pub invariant-keys-loop-key : goal.invariant-keys-loop-key
invariant-keys-loop-key l = l.self ++ keys_code l.line (drop l.key-index l.keys) (length l.self) ≡ l.fn.self ++ keys_code l.line l.keys (length l.fn.self)
