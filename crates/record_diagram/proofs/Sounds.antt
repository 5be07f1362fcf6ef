-- A sound record fits.
use Rattle.std.proofs.Common.{arith, ◌≡◌, ℕ, ◌+◌, List, [], ◌∷◌, ◌++◌, length, sym, ap, subst, ◌∙◌, Option, Some, None, inl, inr, append-nil}
use Rattle.std.specs.List.{last_or}
use Rattle.std.proofs.lemmas.Bool.{cases_eq}
use Rattle.std.proofs.lemmas.List.{append_assoc, length-append}
use Rattle.cloud_base.specs.declared.batch.Batch.{Batch}
use Rattle.cloud_base.specs.declared.batch.Tail.{Tail}
use Rattle.cloud_base.specs.declared.end.End.{End}
use Rattle.batch_history.specs.Batches.{of_client}
use Rattle.batch_history.specs.Sound.{EachFrom, FitsBehind, SoundTail, SoundRecord}
use Rattle.batch_history.proofs.Clients.{of_client-here, of_client-else, of_client-last, of_client-other}
use Rattle.record_diagram.proofs.Fitting.{FittingTail, FittingRecord}
use Rattle.record_diagram.proofs.Tails.{option_cases}

-- the last of a client's batches has the last of its rounds
last_round : (c : ℕ) (front rest : List Batch) (o : Option Batch) (b : Batch) → EachFrom FitsBehind front rest → (o ≡ Some b → b.round ≡ length (of_client c front)) → last_or o (of_client c rest) ≡ Some b → b.round ≡ length (of_client c (front ++ rest))
last_round c front [] o b each before at = before at ∙ ap (λ (t : List Batch). length (of_client c t)) (sym (append-nil front))
last_round c front (x ∷ rest) o b each before at = elim (cases_eq x.client c) [
  | inl mine ↦
      let longer : length (of_client c (front ++ x ∷ [])) ≡ length (of_client c front) + 1 = subst (λ (y : ℕ). length (of_client y (front ++ x ∷ [])) ≡ length (of_client y front) + 1) mine (ap (λ (t : List Batch). length t) (of_client-last front x) ∙ length-append (of_client x.client front) (x ∷ [])) in
      last_round c (front ++ x ∷ []) rest (Some x) b each.1
      (λ e. let same : x ≡ b = cc in ap (λ (y : Batch). y.round) (sym same) ∙ each.0.round ∙ ap (λ (y : ℕ). length (of_client y front) + 1) mine ∙ sym longer)
      (sym (ap (λ (t : List Batch). last_or o t) (of_client-here c x rest mine)) ∙ at)
      ∙ ap (λ (t : List Batch). length (of_client c t)) (append_assoc front (x ∷ []) rest)
  | inr other ↦
      last_round c (front ++ x ∷ []) rest o b each.1
      (λ e. before e ∙ ap (λ (t : List Batch). length t) (sym (of_client-other c front x other)))
      (sym (ap (λ (t : List Batch). last_or o t) (of_client-else c x rest other)) ∙ at)
      ∙ ap (λ (t : List Batch). length (of_client c t)) (append_assoc front (x ∷ []) rest)
]

no_last : (own : List Batch) (b : Batch) → last_or None own ≡ Some b → own ≡ [] → ⊥
no_last own b at none = let e : None ≡ Some b = sym (ap (λ (t : List Batch). last_or None t) none) ∙ at in cc

fitting_tail : (batches : List Batch) (c : ℕ) (tail : Tail) → EachFrom FitsBehind [] batches → SoundTail batches c tail → FittingTail batches c tail
fitting_tail batches c tail each h = record {
  sent = λ b e. elim (h.sent b e) [
    | inl last ↦
        let round : b.round ≡ length (of_client c batches) = last_round c [] batches None b each (λ k. let no : None ≡ Some b = k in absurd cc) last in
        inl (λ next. omega arith, no_last (of_client c batches) b last)
    | inr next ↦ inr next
  ];
  based = λ e. (h.waits.0 e, h.unpulled e);
  unsent = λ n e. elim (option_cases tail.sent) [
    | inl none ↦ none
    | inr some ↦ let is_none : tail.now.base ≡ None = h.waits.1 (λ k. let no : None ≡ Some some.0 = sym k ∙ some.1 in cc) in let no : None ≡ Some n = sym is_none ∙ e in absurd cc
  ];
  base = h.base;
  known = h.known;
  before = h.before;
  first = h.first;
}

pub fitting_record : (batches : List Batch) (tails : List Tail) (ends : List End) → SoundRecord batches tails ends → FittingRecord batches tails
fitting_record batches tails ends h = record { each = h.each; clients = h.clients; tail = λ c t e. fitting_tail batches c t h.each (h.tail c t e) }
