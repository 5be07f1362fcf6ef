use Rattle.std.proofs.Common.{◌≡◌, ◌++◌, ◌-◌}
use Rattle.code_gen.specs.Compile.{stores}
use Rattle.code_gen.proofs.emitter.Emitter.stores.Given as goal

-- what stands so far, and the stores that are left, make all
abbrev pub invariant-loop-stored : goal.invariant-loop-stored
invariant-loop-stored l = l.self ++ stores l.first (l.count - l.stored) ≡ l.fn.self ++ stores l.first l.count
