-- A part of what is to be drawn is drawn.
use Rattle.std.proofs.Common.{◌≡◌, ◌∙◌, refl, sym, ap, subst, arith, ℕ, suc, ◌+◌, ◌<◌, List, [], ◌∷◌, ◌++◌, length, drop, drop-cons, take, append-nil, append_assoc, Some, inl, inr, get_or}
use Rattle.std.specs.Prelude.{slice_get}
use Rattle.std.proofs.lemmas.List.{take_more}
use Rattle.std.proofs.lemmas.Option.{slice_get_cases}
use Rattle.cloud_base.specs.declared.batch.Batch.{Batch}
use Rattle.cloud_base.specs.declared.batch.Tail.{Tail}
use Rattle.batch_history.specs.Batches.{of_client}
use Rattle.record_diagram.specs.Steps.{Drawing, Draws, batches_from, fork_if, forks_at, idle, is_zero, next_base, same_base, tails_from, ◌then◌}
use Rattle.revision_diagram.specs.declared.step.Step.{Step}
use Rattle.diagram_text.specs.Agendas.{IsAgenda, base_at, count_at}
use Rattle.diagram_text.specs.Parts.{batch_draws, tail_draws}
use Rattle.diagram_text.specs.Taken.{Drew}
use Rattle.diagram_text.specs.declared.agenda.Agenda.{Agenda}
use Rattle.diagram_text.proofs.Drawings.{drew_as, drew_idle, drew_then}

-- of the whole a part is drawn, and the rest goes on with it
pub record Began {S : Type 0} (took : S → List Step → S → Type 0) (whole rest : Draws) (sink : S) (d : Drawing) (later : S) (after : Drawing) : Type 0 where
  pub part : Draws
  pub drew : Drew took part sink d later after
  pub goes : (x : Drawing) → (part then rest) x ≡ whole x

then_assoc : (p f r : Draws) (x : Drawing) → ((p then f) then r) x ≡ (p then (f then r)) x
then_assoc p f r x = ap (λ (l : List Step). (l, (r (f (p x).1).1).1)) (append_assoc (p x).0 (f (p x).1).0 (r (f (p x).1).1).0)

pub began_none : {S : Type 0} (took : S → List Step → S → Type 0) (whole : Draws) (sink : S) (d : Drawing) → Began took whole whole sink d sink d
began_none took whole sink d = record { part = idle; drew = drew_idle took sink d; goes = λ x. refl }

pub began_more : {S : Type 0} (took : S → List Step → S → Type 0) (whole f rest : Draws) (sink : S) (d : Drawing) (mid : S) (at : Drawing) (later : S) (after : Drawing) → Began took whole (f then rest) sink d mid at → Drew took f mid at later after → Began took whole rest sink d later after
began_more took whole f rest sink d mid at later after h drew = record {
  part = h.part then f;
  drew = drew_then took h.part f sink d mid at later after h.drew drew;
  goes = λ x. then_assoc h.part f rest x ∙ h.goes x;
}

-- the rest is drawn too
pub began_all : {S : Type 0} (took : S → List Step → S → Type 0) (whole : Draws) (sink : S) (d : Drawing) (later : S) (after : Drawing) → Began took whole idle sink d later after → Drew took whole sink d later after
began_all took whole sink d later after h = drew_as took h.part whole sink d later after (ap (λ (l : List Step). (l, (h.part d).1)) (sym (append-nil (h.part d).0)) ∙ h.goes d) h.drew

-- the forks of one client more
pub began_fork : {S : Type 0} (took : S → List Step → S → Type 0) (batches joined : List Batch) (i k : ℕ) (tails : List Tail) (agenda : Agenda) (sink : S) (d : Drawing) (mid : S) (at : Drawing) (later : S) (after : Drawing) → k < length tails → IsAgenda batches tails joined agenda
    → Began took (forks_at batches joined i tails 0) (forks_at batches joined i (drop k tails) k) sink d mid at
    → Drew took (fork_if (same_base i (base_at agenda k)) k (is_zero (count_at agenda k))) mid at later after
    → Began took (forks_at batches joined i tails 0) (forks_at batches joined i (drop (k + 1) tails) (k + 1)) sink d later after
began_fork took batches joined i k tails agenda sink d mid at later after within is began drew = elim (slice_get_cases tails k).1 [
  | inl there ↦
      let tail : Tail = there.0 in
      let next : suc k ≡ k + 1 = omega arith in
      let split : drop k tails ≡ tail ∷ drop (k + 1) tails = drop-cons tails k tail within ∙ ap (λ (t : Tail). t ∷ drop (suc k) tails) there.3 ∙ ap (λ (n : ℕ). tail ∷ drop n tails) next in
      let f : Draws = fork_if (same_base i (next_base batches joined tail k)) k (is_zero (length (of_client k joined))) in
      let rest : Draws = forks_at batches joined i (drop (k + 1) tails) (k + 1) in
      let same : fork_if (same_base i (base_at agenda k)) k (is_zero (count_at agenda k)) ≡ f =
      ap (λ o. fork_if (same_base i o) k (is_zero (count_at agenda k))) (is.bases k tail there.2)
      ∙ ap (λ (n : ℕ). fork_if (same_base i (next_base batches joined tail k)) k (is_zero n)) (is.counts k within) in
      let cut : Began took (forks_at batches joined i tails 0) (f then rest) sink d mid at = subst (λ (l : List Tail). Began took (forks_at batches joined i tails 0) (forks_at batches joined i l k) sink d mid at) split began in
      began_more took (forks_at batches joined i tails 0) f rest sink d mid at later after cut (drew_as took (fork_if (same_base i (base_at agenda k)) k (is_zero (count_at agenda k))) f mid at later after (ap (λ (g : Draws). g at) same) drew)
  | inr past ↦ absurd (omega (arith, past.0))
]

-- one batch more
pub began_batch : {S : Type 0} (took : S → List Step → S → Type 0) (batches : List Batch) (tails : List Tail) (k : ℕ) (sink : S) (d : Drawing) (mid : S) (at : Drawing) (later : S) (after : Drawing) → k < length batches
    → Began took (batches_from batches tails [] batches) (batches_from batches tails (take k batches) (drop k batches)) sink d mid at
    → ((b : Batch) → slice_get batches k ≡ Some b → Drew took (batch_draws batches tails (take k batches) b) mid at later after)
    → Began took (batches_from batches tails [] batches) (batches_from batches tails (take (k + 1) batches) (drop (k + 1) batches)) sink d later after
began_batch took batches tails k sink d mid at later after within began drew = elim (slice_get_cases batches k).1 [
  | inl there ↦
      let b : Batch = there.0 in
      let next : suc k ≡ k + 1 = omega arith in
      let split : drop k batches ≡ b ∷ drop (k + 1) batches = drop-cons batches k b within ∙ ap (λ (x : Batch). x ∷ drop (suc k) batches) there.3 ∙ ap (λ (n : ℕ). b ∷ drop n batches) next in
      let longer : take (k + 1) batches ≡ take k batches ++ b ∷ [] = take_more batches k b within ∙ ap (λ (x : Batch). take k batches ++ x ∷ []) there.3 in
      let whole : Draws = batches_from batches tails [] batches in
      let f : Draws = batch_draws batches tails (take k batches) b in
      let rest : Draws = batches_from batches tails (take k batches ++ b ∷ []) (drop (k + 1) batches) in
      let cut : Began took whole (f then rest) sink d mid at = subst (λ (l : List Batch). Began took whole (batches_from batches tails (take k batches) l) sink d mid at) split began in
      subst (λ (l : List Batch). Began took whole (batches_from batches tails l (drop (k + 1) batches)) sink d later after) (sym longer)
      (began_more took whole f rest sink d mid at later after cut (drew b there.2))
  | inr past ↦ absurd (omega (arith, past.0))
]

-- one client's tail more
pub began_tail : {S : Type 0} (took : S → List Step → S → Type 0) (batches : List Batch) (tails : List Tail) (k : ℕ) (tail : Tail) (sink : S) (d : Drawing) (mid : S) (at : Drawing) (later : S) (after : Drawing) → k < length tails → tail ≡ get_or tails k tail
    → Began took (tails_from batches tails 0) (tails_from batches (drop k tails) k) sink d mid at
    → Drew took (tail_draws (of_client k batches) tail k) mid at later after
    → Began took (tails_from batches tails 0) (tails_from batches (drop (k + 1) tails) (k + 1)) sink d later after
began_tail took batches tails k tail sink d mid at later after within is began drew =
    let next : suc k ≡ k + 1 = omega arith in
    let split : drop k tails ≡ tail ∷ drop (k + 1) tails = drop-cons tails k tail within ∙ ap (λ (t : Tail). t ∷ drop (suc k) tails) (sym is) ∙ ap (λ (n : ℕ). tail ∷ drop n tails) next in
    let whole : Draws = tails_from batches tails 0 in
    let f : Draws = tail_draws (of_client k batches) tail k in
    let rest : Draws = tails_from batches (drop (k + 1) tails) (k + 1) in
    let cut : Began took whole (f then rest) sink d mid at = subst (λ (l : List Tail). Began took whole (tails_from batches l k) sink d mid at) split began in
    began_more took whole f rest sink d mid at later after cut drew
