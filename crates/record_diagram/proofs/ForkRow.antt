-- The forks of the server for the clients whose next stretch has this base.
use Rattle.batch_history.specs.Batches.{flat, last_seen, of_client}
use Rattle.cloud_base.specs.declared.batch.Batch.{Batch}
use Rattle.cloud_base.specs.declared.batch.Tail.{Tail}
use Rattle.cloud_base.specs.declared.update.Answer.{Answer}
use Rattle.cloud_base.specs.declared.update.Query.{Query}
use Rattle.cloud_base.specs.declared.update.Update.{Update}
use Rattle.record_diagram.proofs.Draw.{leads_idle, leads_open, leads_receive, leads_then, leads_to, put_same}
use Rattle.record_diagram.proofs.Invariant.{Status, idle, stands}
use Rattle.record_diagram.proofs.Statuses.{Leads, status_by}
use Rattle.record_diagram.specs.Steps.{Drawing, Draws, base_of, event_step, fork_for, fork_if, forks_at, is_zero, next_base, same_base, ◌then◌}
use Rattle.revision_diagram.proofs.KeepsOnce.{put-else, put-here}
use Rattle.revision_diagram.specs.Diagram.{put}
use Rattle.std.proofs.Common.{Bool, List, None, Option, Some, [], ap, arith, cond, false, inl, inr, length, refl, subst, sym, true, ℕ, ◌+◌, ◌<◌, ◌∙◌, ◌∷◌, ◌≡◌, ◌≤◌, ◌⊎◌}
use Rattle.std.proofs.lemmas.Bool.{cases_eq, cases_lt, eq-eqb, le-ltb, lt-ltb, ne_eqb}
use Rattle.std.specs.Prelude.{nat_lt, slice_get, suc, zero, ◌≢◌}
use Rattle.record_diagram.specs.Steps as steps

pub below_more : (n i : ℕ) → n ≢ i → nat_lt n i ≡ nat_lt n (i + 1)
below_more n i other = elim (cases_lt n i) [
  | inl less ↦ lt-ltb n i less ∙ sym (lt-ltb n (i + 1) (omega arith))
  | inr more ↦ le-ltb n i more ∙ sym (le-ltb n (i + 1) (let l : i ≢ n = λ e. other (sym e) in omega arith))
]

nothing : (is_answer : List Update → Query → Answer → Type 0) (c : ℕ) (joined : List Update) (status : ℕ → Status) (v : Status) → status c ≡ v → Leads is_answer steps.idle joined status joined (put c v status)
nothing is_answer c joined status v at = leads_to is_answer steps.idle joined joined status status (put c v status) (λ x. put_same c v status x at) (leads_idle is_answer joined status)

-- another value that is the same
to_same : (is_answer : List Update → Query → Answer → Type 0) (draw : Draws) (c : ℕ) (joined joined_then : List Update) (status : ℕ → Status) (v w : Status) → v ≡ w → Leads is_answer draw joined status joined_then (put c v status) → Leads is_answer draw joined status joined_then (put c w status)
to_same is_answer draw c joined joined_then status v w e h = subst (λ (t : Status). Leads is_answer draw joined status joined_then (put c t status)) e h

-- one client's fork, if it is due
pub one_fork : (is_answer : List Update → Query → Answer → Type 0) (joined : List Batch) (c : ℕ) (status : ℕ → Status) (own : List Batch) (base : Option ℕ) → status c ≡ status_by joined (length joined) own base
    → Leads is_answer (fork_if (same_base (length joined) base) c (is_zero (length own))) (flat joined (length joined)) status (flat joined (length joined)) (put c (status_by joined (length joined + 1) own base) status)
one_fork is_answer joined c status [] None at = nothing is_answer c (flat joined (length joined)) status idle at
one_fork is_answer joined c status (b ∷ own) None at = nothing is_answer c (flat joined (length joined)) status (stands (last_seen joined [] (b ∷ own)) [] None true) at
one_fork is_answer joined c status [] (Some n) at =
    let i : ℕ = length joined in
    let log : List Update = flat joined i in
    let v : Status = status_by joined (i + 1) [] (Some n) in
    elim (cases_eq n (length joined)) [
      | inl same ↦
          let is_v : stands (flat joined (length joined)) [] None false ≡ cond (nat_lt n (length joined + 1)) (stands (flat joined n) [] None false) idle =
          ap (λ (k : ℕ). stands (flat joined k) [] None false) (sym same) ∙ ap (λ (t : Bool). cond t (stands (flat joined n) [] None false) idle) (sym (lt-ltb n (i + 1) (omega arith))) in
          subst (λ (t : Bool). Leads is_answer (fork_if t c true) log status log (put c v status)) (sym (eq-eqb n i same))
          (to_same is_answer (fork_for c true) c log log status (stands log [] None false) v is_v (leads_open is_answer c log status (at ∙ ap (λ (t : Bool). cond t (stands (flat joined n) [] None false) idle) (le-ltb n i (omega arith)))))
      | inr other ↦
          subst (λ (t : Bool). Leads is_answer (fork_if t c true) log status log (put c v status)) (sym (ne_eqb n i other))
          (nothing is_answer c log status v (at ∙ ap (λ (t : Bool). cond t (stands (flat joined n) [] None false) idle) (below_more n i other)))
    ]
one_fork is_answer joined c status (b ∷ own) (Some n) at =
    let i : ℕ = length joined in
    let log : List Update = flat joined i in
    let seen : List Update = last_seen joined [] (b ∷ own) in
    let v : Status = status_by joined (i + 1) (b ∷ own) (Some n) in
    elim (cases_eq n (length joined)) [
      | inl same ↦
          let is_v : stands (last_seen joined [] (b ∷ own)) [] (Some (flat joined (length joined))) true ≡ stands (last_seen joined [] (b ∷ own)) [] (cond (nat_lt n (length joined + 1)) (Some (flat joined n)) None) true =
          ap (λ (k : ℕ). stands seen [] (Some (flat joined k)) true) (sym same) ∙ ap (λ (t : Bool). stands seen [] (cond t (Some (flat joined n)) None) true) (sym (lt-ltb n (i + 1) (omega arith))) in
          let none_yet : status c ≡ stands (last_seen joined [] (b ∷ own)) [] None true = at ∙ ap (λ (t : Bool). stands seen [] (cond t (Some (flat joined n)) None) true) (le-ltb n i (omega arith)) in
          subst (λ (t : Bool). Leads is_answer (fork_if t c false) log status log (put c v status)) (sym (eq-eqb n i same))
          (to_same is_answer (fork_for c false) c log log status (stands seen [] (Some log) true) v is_v (leads_receive is_answer c log status seen [] true none_yet))
      | inr other ↦
          subst (λ (t : Bool). Leads is_answer (fork_if t c false) log status log (put c v status)) (sym (ne_eqb n i other))
          (nothing is_answer c log status v (at ∙ ap (λ (t : Bool). stands seen [] (cond t (Some (flat joined n)) None) true) (below_more n i other)))
    ]

-- of the clients from c on, with these tails: the forks of bases below m are made
abbrev pub AreAt : List Batch → List Batch → ℕ → ℕ → List Tail → (ℕ → Status) → Type 0
AreAt batches joined m c tails status = (k : ℕ) (tail : Tail) → slice_get tails k ≡ Some tail → status (c + k) ≡ status_by joined m (of_client (c + k) joined) (next_base batches joined tail (c + k))

abbrev pub SameBut : ℕ → ℕ → (ℕ → Status) → (ℕ → Status) → Type 0
SameBut c n f g = (x : ℕ) → (x < c) ⊎ (c + n ≤ x) → f x ≡ g x

pub slice_there : (tails : List Tail) (k : ℕ) → k < length tails → (tail : Tail) × (slice_get tails k ≡ Some tail)
slice_there [] k l = absurd (omega arith)
slice_there (tail ∷ tails) zero l = (tail, refl)
slice_there (tail ∷ tails) (suc k) l = slice_there tails k (omega arith)

pub leads_forks : (is_answer : List Update → Query → Answer → Type 0) (batches joined : List Batch) (tails : List Tail) (c : ℕ) (before later : ℕ → Status) → AreAt batches joined (length joined) c tails before → AreAt batches joined (length joined + 1) c tails later → SameBut c (length tails) before later
    → Leads is_answer (forks_at batches joined (length joined) tails c) (flat joined (length joined)) before (flat joined (length joined)) later
leads_forks is_answer batches joined [] c before later at_first at_last same =
    leads_to is_answer steps.idle (flat joined (length joined)) (flat joined (length joined)) before before later
    (λ x. elim (cases_lt x c) [ inl less ↦ same x (inl less) | inr more ↦ same x (inr (omega arith)) ])
    (leads_idle is_answer (flat joined (length joined)) before)
leads_forks is_answer batches joined (tail ∷ tails) c before later at_first at_last same =
    let i : ℕ = length joined in
    let log : List Update = flat joined i in
    let base : Option ℕ = next_base batches joined tail c in
    let v : Status = status_by joined (i + 1) (of_client c joined) base in
    let zero_here : c + 0 ≡ c = omega arith in
    let first_at : before c ≡ status_by joined (length joined) (of_client c joined) (next_base batches joined tail c) = subst (λ (x : ℕ). before x ≡ status_by joined i (of_client x joined) (next_base batches joined tail x)) zero_here (at_first 0 tail refl) in
    let last_at : later c ≡ status_by joined (length joined + 1) (of_client c joined) (next_base batches joined tail c) = subst (λ (x : ℕ). later x ≡ status_by joined (i + 1) (of_client x joined) (next_base batches joined tail x)) zero_here (at_last 0 tail refl) in
    leads_then is_answer (fork_if (same_base i base) c (is_zero (length (of_client c joined)))) (forks_at batches joined i tails (c + 1)) log log log before (put c v before) later
    (one_fork is_answer joined c before (of_client c joined) base first_at)
    (leads_forks is_answer batches joined tails (c + 1) (put c v before) later
    (λ k t e. let moved : c + suc k ≡ c + 1 + k = omega arith in let not_c : c + 1 + k ≢ c = λ w. omega arith in put-else c (c + 1 + k) v before not_c ∙ subst (λ (x : ℕ). before x ≡ status_by joined i (of_client x joined) (next_base batches joined t x)) moved (at_first (suc k) t e))
    (λ k t e. let moved : c + suc k ≡ c + 1 + k = omega arith in subst (λ (x : ℕ). later x ≡ status_by joined (i + 1) (of_client x joined) (next_base batches joined t x)) moved (at_last (suc k) t e))
    (λ x where_x. elim (cases_eq x c) [
      | inl is_c ↦ put-here c x v before is_c ∙ sym last_at ∙ ap later (sym is_c)
      | inr not_c ↦ put-else c x v before not_c ∙ same x (elim where_x [ inl less ↦ inl (omega arith) | inr more ↦ inr (omega arith) ])
    ]))
