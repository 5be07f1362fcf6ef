-- A batch: its stretch, and the push behind it.
use Rattle.batch_history.specs.Batches.{flat, last_seen, of_client, stretch_of, updates_in}
use Rattle.batch_history.specs.Right.{RightBehind, RightEvents}
use Rattle.batch_history.specs.Sound.{FitsBehind}
use Rattle.cloud_base.specs.Events.{updates_of}
use Rattle.cloud_base.specs.declared.batch.Batch.{Batch}
use Rattle.cloud_base.specs.declared.update.Answer.{Answer}
use Rattle.cloud_base.specs.declared.update.Event.{Event}
use Rattle.cloud_base.specs.declared.update.Query.{Query}
use Rattle.cloud_base.specs.declared.update.Update.{Update}
use Rattle.record_diagram.proofs.Draw.{leads_push, marked_after}
use Rattle.record_diagram.proofs.Invariant.{Status, idle, stands}
use Rattle.record_diagram.proofs.Statuses.{Leads, status_by}
use Rattle.record_diagram.proofs.Stretches.{leads_on, leads_opening, leads_pulling, marked_some, marked_still}
use Rattle.record_diagram.specs.Steps.{is_zero, push, run_stretch, ◌then◌}
use Rattle.revision_diagram.proofs.KeepsOnce.{put-here}
use Rattle.revision_diagram.specs.Diagram.{put}
use Rattle.std.proofs.Common.{Bool, List, None, Some, [], ap, append-nil, arith, cond, false, length, refl, subst, sym, true, ℕ, ◌++◌, ◌+◌, ◌∙◌, ◌∷◌, ◌≡◌, ◌≤◌}
use Rattle.std.proofs.lemmas.Bool.{lt-ltb}
use Rattle.std.proofs.lemmas.List.{append_assoc}

-- what the stretch of a batch leads to
pub run_batch : (is_answer : List Update → Query → Answer → Type 0) (joined : List Batch) (b : Batch) (status : ℕ → Status) (own : List Batch) → FitsBehind joined b → RightBehind is_answer joined b → of_client b.client joined ≡ own → status b.client ≡ status_by joined (length joined + 1) own (Some b.base)
    → Leads is_answer (run_stretch b.client (is_zero (length own)) (stretch_of b)) (flat joined (length joined)) status (flat joined (length joined)) (put b.client (stands (flat joined b.base ++ updates_in b) (updates_in b) None true) status)
run_batch is_answer joined b status [] fits right e at =
    let c : ℕ = b.client in
    let log : List Update = flat joined (length joined) in
    let is_first : b.round ≡ 1 = fits.round ∙ ap (λ (o : List Batch). length o + 1) e in
    let first = fits.first is_first in
    let in_time : b.base ≤ length joined = fits.base in
    let now : status b.client ≡ stands (flat joined b.base) [] None false = at ∙ ap (λ (t : Bool). cond t (stands (flat joined b.base) [] None false) idle) (lt-ltb b.base (length joined + 1) (omega arith)) in
    let no_updates : updates_of b.rest ≡ updates_in b = ap (λ (l : List Event). updates_of l ++ updates_of b.rest) (sym first.0) in
    let v : Status = stands (flat joined b.base ++ updates_of b.rest) (updates_of b.rest) None (marked_after false b.rest) in
    let w : Status = stands (flat joined b.base ++ updates_in b) (updates_in b) None true in
    let same : v ≡ w = ap (λ (l : List Update). stands (flat joined b.base ++ l) l None (marked_after false b.rest)) no_updates ∙ ap (λ (m : Bool). stands (flat joined b.base ++ updates_in b) (updates_in b) None m) (marked_some b.rest false first.1 fits.rest) in
    let right_rest : RightEvents is_answer (flat joined b.base) b.rest = subst (λ (l : List Update). RightEvents is_answer l b.rest) (ap (λ (l : List Event). flat joined b.base ++ updates_of l) first.0 ∙ append-nil (flat joined b.base)) right.rest in
    subst (λ (t : Status). Leads is_answer (run_stretch c true (stretch_of b)) log status log (put c t status)) same
    (leads_opening is_answer c (stretch_of b) log status (flat joined b.base) [] false now first.0 right_rest)
run_batch is_answer joined b status (x ∷ own) fits right e at =
    let c : ℕ = b.client in
    let log : List Update = flat joined (length joined) in
    let seen : List Update = last_seen joined [] (x ∷ own) in
    let base : List Update = flat joined b.base in
    let in_time : b.base ≤ length joined = fits.base in
    let now : status b.client ≡ stands (last_seen joined [] (x ∷ own)) [] (Some (flat joined b.base)) true = at ∙ ap (λ (t : Bool). stands seen [] (cond t (Some base) None) true) (lt-ltb b.base (length joined + 1) (omega arith)) in
    let v : Status = stands ((base ++ updates_of b.before) ++ updates_of b.rest) (updates_in b) None (marked_after true b.rest) in
    let w : Status = stands (base ++ updates_in b) (updates_in b) None true in
    let same : v ≡ w = ap (λ (l : List Update). stands l (updates_in b) None (marked_after true b.rest)) (append_assoc base (updates_of b.before) (updates_of b.rest)) ∙ ap (λ (m : Bool). stands (base ++ updates_in b) (updates_in b) None m) (marked_still b.rest fits.rest) in
    let right_before : RightEvents is_answer (last_seen joined [] (x ∷ own)) b.before = subst (λ (o : List Batch). RightEvents is_answer (last_seen joined [] o) b.before) e right.before in
    subst (λ (t : Status). Leads is_answer (run_stretch c false (stretch_of b)) log status log (put c t status)) same
    (leads_pulling is_answer c b.base b.before b.rest log status seen base now fits.before right_before right.rest)

pub leads_batch : (is_answer : List Update → Query → Answer → Type 0) (joined : List Batch) (b : Batch) (status : ℕ → Status) → FitsBehind joined b → RightBehind is_answer joined b → status b.client ≡ status_by joined (length joined + 1) (of_client b.client joined) (Some b.base)
    → Leads is_answer (run_stretch b.client (is_zero (length (of_client b.client joined))) (stretch_of b) then push b.client) (flat joined (length joined)) status (flat joined (length joined) ++ updates_in b) (put b.client (stands (flat joined b.base ++ updates_in b) [] None true) status)
leads_batch is_answer joined b status fits right at =
    let c : ℕ = b.client in
    let log : List Update = flat joined (length joined) in
    let v : Status = stands (flat joined b.base ++ updates_in b) (updates_in b) None true in
    let w : Status = stands (flat joined b.base ++ updates_in b) [] None true in
    leads_on is_answer c (run_stretch c (is_zero (length (of_client c joined))) (stretch_of b)) (push c) log log (log ++ updates_in b) status v w
    (run_batch is_answer joined b status (of_client c joined) fits right refl at)
    (leads_push is_answer c log (put c v status) (flat joined b.base ++ updates_in b) (updates_in b) (put-here c c v status refl))
