-- Runs add up.
use Rattle.std.proofs.Common.{◌≡◌, refl, ap, ◌∙◌, arith}
use Rattle.std.specs.Prelude.{ℕ, zero, suc, ◌+◌, List, Option, None, Some}
use Rattle.typed_program.specs.Does.{World, Run, goes, ends, then_by}
use Rattle.plain_vm.specs.declared.instruction.Instruction.{Instruction}
use Rattle.plain_vm.specs.Exec.{Standing, Next, step, exec, from_there}

-- first the one and then the other is the same as both at once
pub run_on : (r : Run (Option Standing)) (f g h : Standing → Next) → ((s : Standing) (w : World) → h s w ≡ then_by (f s w) (from_there g)) → then_by r (from_there h) ≡ then_by (then_by r (from_there f)) (from_there g)
run_on (goes None w) f g h e = refl
run_on (goes (Some s) w) f g h e = e s w
run_on (ends outcome events) f g h e = refl

pub runs_add : (code : List Instruction) (n m : ℕ) (standing : Standing) (w : World) → exec code (n + m) standing w ≡ then_by (exec code n standing w) (from_there (exec code m))
runs_add code zero m standing w =
    let e : zero + m ≡ m = omega arith in
    ap (λ k. exec code k standing w) e
runs_add code (suc n) m standing w =
    let e : suc n + m ≡ suc (n + m) = omega arith in
    ap (λ k. exec code k standing w) e ∙ run_on (step code standing w) (exec code n) (exec code m) (exec code (n + m)) (λ s v. runs_add code n m s v)
