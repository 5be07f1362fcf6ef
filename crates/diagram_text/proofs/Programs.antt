-- The clients of a program and their traces.
use Rattle.std.proofs.Common.{◌≡◌, ◌∙◌, refl, sym, ap, arith, ℕ, zero, suc, ◌+◌, List, [], ◌∷◌, length, Some}
use Rattle.std.specs.Prelude.{slice_get, slice_index_or}
use Rattle.cloud_base.specs.Events.{Outcome}
use Rattle.cloud_base.specs.declared.update.Answer.{Answer}
use Rattle.cloud_base.specs.declared.update.Event.{Event}
use Rattle.typed_program.specs.Trace.{trace}
use Rattle.typed_program.specs.declared.statement.Statement.{Statement}
use Rattle.diagram_text.specs.Programs.{traces_from}

pub as_many : (client : ℕ) (bodies : List (List Statement)) → length (traces_from client bodies) ≡ length bodies
as_many client [] = refl
as_many client (body ∷ bodies) = ap suc (as_many (suc client) bodies)

pub its_trace : (client k : ℕ) (bodies : List (List Statement)) (its : List Answer → List Event × Outcome) → slice_get (traces_from client bodies) k ≡ Some its → trace (client + k) (slice_index_or bodies k []) ≡ its
its_trace client k [] its there = absurd (cc there)
its_trace client zero (body ∷ bodies) its there =
    let same : trace client body ≡ its = cc there in
    let here : client + 0 ≡ client = omega arith in
    ap (λ (n : ℕ). trace n body) here ∙ same
its_trace client (suc k) (body ∷ bodies) its there =
    let next : client + suc k ≡ suc client + k = omega arith in
    ap (λ (n : ℕ). trace n (slice_index_or bodies k [])) next ∙ its_trace (suc client) k bodies its there
