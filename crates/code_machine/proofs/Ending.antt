-- A run comes out in one way.
use Rattle.std.proofs.Common.{◌≡◌, sym, ap, ◌∙◌, arith}
use Rattle.std.specs.Prelude.{ℕ, ◌+◌, List, Option}
use Rattle.cloud_base.specs.Events.{Outcome}
use Rattle.cloud_base.specs.declared.update.Answer.{Answer}
use Rattle.cloud_base.specs.declared.update.Event.{Event}
use Rattle.typed_program.specs.Does.{Run, ends, then_by}
use Rattle.typed_program.specs.Trace.{start}
use Rattle.plain_vm.proofs.Runs.{runs_add}
use Rattle.plain_vm.specs.declared.instruction.Instruction.{Instruction}
use Rattle.plain_vm.specs.Exec.{Standing, exec, first, from_there, run}

-- what came out stays so
stays_out : (code : List Instruction) (n m client : ℕ) (answers : List Answer) (outcome : Outcome) (events : List Event) → run code n client answers ≡ ends outcome events → run code (n + m) client answers ≡ ends outcome events
stays_out code n m client answers outcome events e = runs_add code n m first (start client answers) ∙ ap (λ r. then_by r (from_there (exec code m))) e

abbrev out : Outcome → List Event → Run (Option Standing)
out outcome events = ends outcome events

same_end : (outcome outcome' : Outcome) (events events' : List Event) → out outcome events ≡ out outcome' events' → (outcome ≡ outcome') × (events ≡ events')
same_end outcome outcome' events events' e = (cc, cc)

pub end_once : (code : List Instruction) (n m client : ℕ) (answers : List Answer) (outcome outcome' : Outcome) (events events' : List Event) → run code n client answers ≡ ends outcome events → run code m client answers ≡ ends outcome' events'
    → (outcome ≡ outcome') × (events ≡ events')
end_once code n m client answers outcome outcome' events events' e e' =
    let k : n + m ≡ m + n = omega arith in
    same_end outcome outcome' events events' (sym (stays_out code n m client answers outcome events e) ∙ ap (λ i. run code i client answers) k ∙ stays_out code m n client answers outcome' events' e')
