-- Batch after batch: where each client is when one batch more is joined.
use Rattle.batch_history.proofs.Clients.{of_client-append, of_client-last, of_client-other}
use Rattle.batch_history.proofs.Fronts.{flat_front}
use Rattle.batch_history.specs.Batches.{flat, last_seen, of_client, stretch_of, updates_in}
use Rattle.batch_history.specs.Right.{RightBehind}
use Rattle.batch_history.specs.Sound.{EachFrom, FitsBehind}
use Rattle.cloud_base.specs.declared.batch.Batch.{Batch}
use Rattle.cloud_base.specs.declared.batch.Tail.{Tail}
use Rattle.cloud_base.specs.declared.update.Answer.{Answer}
use Rattle.cloud_base.specs.declared.update.Query.{Query}
use Rattle.cloud_base.specs.declared.update.Update.{Update}
use Rattle.record_diagram.proofs.BatchRun.{leads_batch}
use Rattle.record_diagram.proofs.Batches.{Bases, bases_last, bases_more, bases_of_client, flat_last, known_next, last_seen-front, last_seen-last, later_stretches, next_base-batch, next_base-later, next_base-other, tail_stretches}
use Rattle.record_diagram.proofs.Draw.{leads_idle, leads_then}
use Rattle.record_diagram.proofs.ForkRow.{leads_forks, slice_there}
use Rattle.record_diagram.proofs.Invariant.{Status, idle, stands}
use Rattle.record_diagram.proofs.Statuses.{Leads, status_at, status_by, status_of, waiting}
use Rattle.record_diagram.specs.Steps.{Drawing, Draws, base_of, batches_from, event_step, forks_at, is_zero, next_base, push, run_stretch, ◌then◌}
use Rattle.revision_diagram.proofs.KeepsOnce.{put-else, put-here}
use Rattle.revision_diagram.specs.Diagram.{put}
use Rattle.std.proofs.Common.{Bool, List, None, Option, Some, [], ap, append-nil, arith, cond, drop, false, inl, inr, length, refl, subst, sym, take, true, ℕ, ◌++◌, ◌+◌, ◌<◌, ◌∙◌, ◌∷◌, ◌≡◌, ◌≤◌}
use Rattle.std.proofs.lemmas.Bool.{cases_eq, cases_lt, le-ltb, ltb-true}
use Rattle.std.proofs.lemmas.List.{append_assoc, length-append, take-append-drop, take-append-le}
use Rattle.std.specs.List.{AllByRecursion}
use Rattle.std.specs.Prelude.{nat_lt, slice_get, suc, zero, ◌≢◌}
use Rattle.record_diagram.specs.Steps as steps

-- what a tail's next stretch knows, if it is the next one
abbrev pub TailsKnow : List Batch → List Tail → Type 0
TailsKnow batches tails = (c : ℕ) (tail : Tail) → slice_get tails c ≡ Some tail → (n : ℕ) → base_of (slice_get (tail_stretches batches tail c) 0) ≡ Some n → of_client c (take n batches) ≡ of_client c batches

-- the batches are cut here
pub record Cut (is_answer : List Update → Query → Answer → Type 0) (batches : List Batch) (tails : List Tail) (joined rest : List Batch) : Type 0 where
  pub whole : batches ≡ joined ++ rest
  pub each : EachFrom FitsBehind joined rest
  pub right : EachFrom (RightBehind is_answer) joined rest
  pub clients : AllByRecursion (λ (b : Batch). b.client < length tails) rest
  pub bases : Bases (length joined) joined
  pub know : TailsKnow batches tails

pub cut_on : (is_answer : List Update → Query → Answer → Type 0) (batches : List Batch) (tails : List Tail) (joined : List Batch) (b : Batch) (rest : List Batch) → Cut is_answer batches tails joined (b ∷ rest) → Cut is_answer batches tails (joined ++ b ∷ []) rest
cut_on is_answer batches tails joined b rest cut =
    let longer : length (joined ++ b ∷ []) ≡ length joined + 1 = length-append joined (b ∷ []) in
    let base : b.base ≤ length joined = cut.each.0.base in
    record {
      whole = cut.whole ∙ sym (append_assoc joined (b ∷ []) rest);
      each = cut.each.1;
      right = cut.right.1;
      clients = cut.clients.1;
      bases = bases_more (length joined) (length (joined ++ b ∷ [])) (joined ++ b ∷ []) (omega arith) (bases_last (length joined) joined b cut.bases base);
      know = cut.know;
    }

pub slice_none : (tails : List Tail) (k : ℕ) → length tails ≤ k → slice_get tails k ≡ None
slice_none [] k l = refl
slice_none (tail ∷ tails) zero l = absurd (omega arith)
slice_none (tail ∷ tails) (suc k) l = slice_none tails k (omega arith)

-- statuses don't change with batches that come later
waiting_front : (joined more : List Batch) (m : ℕ) (base : Option ℕ) → m ≤ length joined + 1 → waiting joined m base ≡ waiting (joined ++ more) m base
waiting_front joined more m None l = refl
waiting_front joined more m (Some n) l = elim (nat_lt n m) as (λ t. nat_lt n m ≡ t → cond t (Some (flat joined n)) None ≡ cond t (Some (flat (joined ++ more) n)) None) [
  | true ↦ λ e. let k : n < m = ltb-true n m e in ap (λ (u : List Update). Some u) (sym (flat_front joined more n (omega arith)))
  | false ↦ λ e. refl
] refl

pub status_front : (joined more : List Batch) (m : ℕ) (own : List Batch) (base : Option ℕ) → m ≤ length joined + 1 → Bases (length joined) own → status_by joined m own base ≡ status_by (joined ++ more) m own base
status_front joined more m [] None l h = refl
status_front joined more m [] (Some n) l h = elim (nat_lt n m) as (λ t. nat_lt n m ≡ t → cond t (stands (flat joined n) [] None false) idle ≡ cond t (stands (flat (joined ++ more) n) [] None false) idle) [
  | true ↦ λ e. let k : n < m = ltb-true n m e in ap (λ (u : List Update). stands u [] None false) (sym (flat_front joined more n (omega arith)))
  | false ↦ λ e. refl
] refl
status_front joined more m (b ∷ own) base l h =
    ap (λ (u : List Update). stands u [] (waiting joined m base) true) (sym (last_seen-front joined more (b ∷ own) [] h))
    ∙ ap (λ (w : Option (List Update)). stands (last_seen (joined ++ more) [] (b ∷ own)) [] w true) (waiting_front joined more m base l)

status_some : (joined : List Batch) (m : ℕ) (own : List Batch) (b : Batch) (base : Option ℕ) → status_by joined m (own ++ b ∷ []) base ≡ stands (last_seen joined [] (own ++ b ∷ [])) [] (waiting joined m base) true
status_some joined m [] b base = refl
status_some joined m (x ∷ own) b base = refl

not_waiting : (joined : List Batch) (m : ℕ) (base : Option ℕ) → ((n : ℕ) → base ≡ Some n → m ≤ n) → waiting joined m base ≡ None
not_waiting joined m None h = refl
not_waiting joined m (Some n) h = ap (λ (t : Bool). cond t (Some (flat joined n)) None) (le-ltb n m (h n refl))

-- behind a client's batch its next base comes later
pub next_later : (is_answer : List Update → Query → Answer → Type 0) (batches : List Batch) (tails : List Tail) (joined : List Batch) (b : Batch) (rest : List Batch) (tail : Tail) → Cut is_answer batches tails joined (b ∷ rest) → slice_get tails b.client ≡ Some tail → (n : ℕ) → next_base batches (joined ++ b ∷ []) tail b.client ≡ Some n → length (joined ++ b ∷ []) ≤ n
next_later is_answer batches tails joined b rest tail cut e n at =
    let c : ℕ = b.client in
    let after : List Batch = joined ++ b ∷ [] in
    let on : Cut is_answer batches tails (joined ++ b ∷ []) rest = cut_on is_answer batches tails joined b rest cut in
    elim (cases_lt n (length (joined ++ b ∷ []))) [
      | inr more ↦ more
      | inl less ↦
          let longer : length (joined ++ b ∷ []) ≡ length joined + 1 = length-append joined (b ∷ []) in
          let at_later : base_of (slice_get (later_stretches c rest (tail_stretches batches tail c)) 0) ≡ Some n = sym (next_base-later batches after rest tail c on.whole) ∙ at in
          let knows : of_client c (take n (joined ++ b ∷ [])) ≡ of_client c (joined ++ b ∷ []) = known_next c n after [] rest (tail_stretches batches tail c)
          (subst (λ (t : List Batch). EachFrom FitsBehind t rest) (sym (append-nil after)) on.each) refl
          (λ k. subst (λ (t : List Batch). of_client c (take n t) ≡ of_client c t) (on.whole ∙ ap (λ (t : List Batch). t ++ rest) (sym (append-nil after))) (cut.know c tail e n k))
          at_later (omega arith) in
          let few : take n (joined ++ b ∷ []) ≡ take n joined = take-append-le n joined (b ∷ []) (omega arith) in
          let lost : of_client c (take n joined) ≡ of_client c joined ++ b ∷ [] = ap (of_client c) (sym few) ∙ knows ∙ of_client-last joined b in
          let parts : of_client c joined ≡ of_client c (take n joined) ++ of_client c (drop n joined) = ap (of_client c) (sym (take-append-drop n joined)) ∙ of_client-append c (take n joined) (drop n joined) in
          let x : length (of_client c (take n joined)) ≡ length (of_client c joined) + 1 = ap (λ (t : List Batch). length t) lost ∙ length-append (of_client c joined) (b ∷ []) in
          let y : length (of_client c joined) ≡ length (of_client c (take n joined)) + length (of_client c (drop n joined)) = ap (λ (t : List Batch). length t) parts ∙ length-append (of_client c (take n joined)) (of_client c (drop n joined)) in
          absurd (omega arith)
    ]

-- the status of the client that pushed, in the record's words
abbrev pub pushed_status : List Batch → Batch → Status
pushed_status joined b = stands (flat joined b.base ++ updates_in b) [] None true

after_push : (is_answer : List Update → Query → Answer → Type 0) (batches : List Batch) (tails : List Tail) (joined : List Batch) (b : Batch) (rest : List Batch) (tail : Tail) → Cut is_answer batches tails joined (b ∷ rest) → slice_get tails b.client ≡ Some tail
    → pushed_status joined b ≡ status_by (joined ++ b ∷ []) (length (joined ++ b ∷ [])) (of_client b.client (joined ++ b ∷ [])) (next_base batches (joined ++ b ∷ []) tail b.client)
after_push is_answer batches tails joined b rest tail cut e =
    let c : ℕ = b.client in
    let after : List Batch = joined ++ b ∷ [] in
    let base : Option ℕ = next_base batches (joined ++ b ∷ []) tail b.client in
    let own : List Batch = of_client b.client joined in
    let seen : last_seen after [] (own ++ b ∷ []) ≡ flat joined b.base ++ updates_in b = last_seen-last after own [] b ∙ ap (λ (l : List Update). l ++ updates_in b) (flat_front joined (b ∷ []) b.base cut.each.0.base) in
    sym (ap (λ (o : List Batch). status_by after (length after) o base) (of_client-last joined b) ∙ status_some after (length after) own b base
    ∙ ap (λ (l : List Update). stands l [] (waiting after (length after) base) true) seen
    ∙ ap (λ (w : Option (List Update)). stands (flat joined b.base ++ updates_in b) [] w true) (not_waiting after (length after) base (next_later is_answer batches tails joined b rest tail cut e)))

-- every client, behind the push
moved_on : (is_answer : List Update → Query → Answer → Type 0) (batches : List Batch) (tails : List Tail) (joined : List Batch) (b : Batch) (rest : List Batch) → Cut is_answer batches tails joined (b ∷ rest) → (k : ℕ) (tail : Tail) → slice_get tails k ≡ Some tail
    → put b.client (pushed_status joined b) (status_at batches tails joined (length joined + 1)) k ≡ status_by (joined ++ b ∷ []) (length (joined ++ b ∷ [])) (of_client k (joined ++ b ∷ [])) (next_base batches (joined ++ b ∷ []) tail k)
moved_on is_answer batches tails joined b rest cut k tail e =
    let after : List Batch = joined ++ b ∷ [] in
    let m : ℕ = length joined + 1 in
    let before : ℕ → Status = status_at batches tails joined m in
    let longer : length (joined ++ b ∷ []) ≡ length joined + 1 = length-append joined (b ∷ []) in
    elim (cases_eq k b.client) [
      | inl same ↦ put-here b.client k (pushed_status joined b) before same
          ∙ after_push is_answer batches tails joined b rest tail cut (subst (λ (x : ℕ). slice_get tails x ≡ Some tail) same e)
          ∙ ap (λ (x : ℕ). status_by after (length after) (of_client x after) (next_base batches after tail x)) (sym same)
      | inr other ↦
          let not_mine : b.client ≢ k = λ w. other (sym w) in
          put-else b.client k (pushed_status joined b) before other
          ∙ ap (status_of batches joined m k) e
          ∙ status_front joined (b ∷ []) m (of_client k joined) (next_base batches joined tail k) (omega arith) (bases_of_client (length joined) k joined cut.bases)
          ∙ ap (λ (o : List Batch). status_by after m o (next_base batches joined tail k)) (sym (of_client-other k joined b not_mine))
          ∙ ap (λ (o : Option ℕ). status_by after m (of_client k after) o) (sym (next_base-other batches joined b tail k not_mine))
          ∙ ap (λ (x : ℕ). status_by after x (of_client k after) (next_base batches after tail k)) (sym longer)
    ]

-- a batch more, and the forks behind it
pub leads_one : (is_answer : List Update → Query → Answer → Type 0) (batches : List Batch) (tails : List Tail) (joined : List Batch) (b : Batch) (rest : List Batch) → Cut is_answer batches tails joined (b ∷ rest)
    → Leads is_answer (run_stretch b.client (is_zero (length (of_client b.client joined))) (stretch_of b) then push b.client then forks_at batches (joined ++ b ∷ []) (length joined + 1) tails 0) (flat joined (length joined)) (status_at batches tails joined (length joined + 1)) (flat (joined ++ b ∷ []) (length (joined ++ b ∷ []))) (status_at batches tails (joined ++ b ∷ []) (length (joined ++ b ∷ []) + 1))
leads_one is_answer batches tails joined b rest cut =
    let c : ℕ = b.client in
    let after : List Batch = joined ++ b ∷ [] in
    let log : List Update = flat joined (length joined) in
    let log_after : List Update = flat after (length after) in
    let status : ℕ → Status = status_at batches tails joined (length joined + 1) in
    let status_pushed : ℕ → Status = put c (pushed_status joined b) status in
    let status_after : ℕ → Status = status_at batches tails after (length after + 1) in
    let longer : length (joined ++ b ∷ []) ≡ length joined + 1 = length-append joined (b ∷ []) in
    let there : b.client < length tails = cut.clients.0 in
    let tail = slice_there tails b.client there in
    let at : status_at batches tails joined (length joined + 1) b.client ≡ status_by joined (length joined + 1) (of_client b.client joined) (Some b.base) =
    ap (status_of batches joined (length joined + 1) c) tail.1 ∙ ap (λ (o : Option ℕ). status_by joined (length joined + 1) (of_client c joined) o) (next_base-batch batches joined rest b tail.0 cut.whole) in
    leads_then is_answer (run_stretch c (is_zero (length (of_client c joined))) (stretch_of b) then push c) (forks_at batches after (length joined + 1) tails 0) log log_after log_after status status_pushed status_after
    (subst (λ (l : List Update). Leads is_answer (run_stretch c (is_zero (length (of_client c joined))) (stretch_of b) then push c) log status l status_pushed) (sym (flat_last joined b)) (leads_batch is_answer joined b status cut.each.0 cut.right.0 at))
    (subst (λ (n : ℕ). Leads is_answer (forks_at batches after n tails 0) log_after status_pushed log_after status_after) longer
    (leads_forks is_answer batches after tails 0 status_pushed status_after
    (λ k t e. let zero_here : k ≡ 0 + k = omega arith in subst (λ (x : ℕ). status_pushed x ≡ status_by after (length after) (of_client x after) (next_base batches after t x)) zero_here (moved_on is_answer batches tails joined b rest cut k t e))
    (λ k t e. let zero_here : k ≡ 0 + k = omega arith in subst (λ (x : ℕ). status_after x ≡ status_by after (length after + 1) (of_client x after) (next_base batches after t x)) zero_here (ap (status_of batches after (length after + 1) k) e))
    (λ x where_x.
    let past_end : length tails ≤ x = elim where_x [ inl less ↦ omega arith | inr more ↦ omega arith ] in
    let not_c : x ≢ b.client = λ w. omega arith in
    put-else c x (pushed_status joined b) status not_c ∙ ap (status_of batches joined (length joined + 1) x) (slice_none tails x past_end) ∙ sym (ap (status_of batches after (length after + 1) x) (slice_none tails x past_end)))))

pub leads_batches : (is_answer : List Update → Query → Answer → Type 0) (batches : List Batch) (tails : List Tail) (joined rest : List Batch) → Cut is_answer batches tails joined rest
    → Leads is_answer (batches_from batches tails joined rest) (flat joined (length joined)) (status_at batches tails joined (length joined + 1)) (flat batches (length batches)) (status_at batches tails batches (length batches + 1))
leads_batches is_answer batches tails joined [] cut =
    let e : joined ≡ batches = sym (append-nil joined) ∙ sym cut.whole in
    subst (λ (t : List Batch). Leads is_answer steps.idle (flat joined (length joined)) (status_at batches tails joined (length joined + 1)) (flat t (length t)) (status_at batches tails t (length t + 1))) e
    (leads_idle is_answer (flat joined (length joined)) (status_at batches tails joined (length joined + 1)))
leads_batches is_answer batches tails joined (b ∷ rest) cut =
    let c : ℕ = b.client in
    let after : List Batch = joined ++ b ∷ [] in
    let log : List Update = flat joined (length joined) in
    let log_after : List Update = flat after (length after) in
    let status : ℕ → Status = status_at batches tails joined (length joined + 1) in
    let status_pushed : ℕ → Status = put c (pushed_status joined b) status in
    let status_after : ℕ → Status = status_at batches tails after (length after + 1) in
    let longer : length (joined ++ b ∷ []) ≡ length joined + 1 = length-append joined (b ∷ []) in
    let there : b.client < length tails = cut.clients.0 in
    let tail = slice_there tails b.client there in
    let at : status_at batches tails joined (length joined + 1) b.client ≡ status_by joined (length joined + 1) (of_client b.client joined) (Some b.base) =
    ap (status_of batches joined (length joined + 1) c) tail.1 ∙ ap (λ (o : Option ℕ). status_by joined (length joined + 1) (of_client c joined) o) (next_base-batch batches joined rest b tail.0 cut.whole) in
    leads_then is_answer (run_stretch c (is_zero (length (of_client c joined))) (stretch_of b) then push c then forks_at batches after (length joined + 1) tails 0) (batches_from batches tails after rest) log log_after (flat batches (length batches)) status status_after (status_at batches tails batches (length batches + 1))
    (leads_one is_answer batches tails joined b rest cut)
    (leads_batches is_answer batches tails after rest (cut_on is_answer batches tails joined b rest cut))
