-- One batch more.
use Rattle.std.proofs.Common.{arith, ◌≡◌, ◌∙◌, ◌+◌, ◌-◌, ◌++◌, ◌∷◌, [], ◌<◌, ◌≤◌, refl, sym, ap, subst, ℕ, List, length, take, drop, Some, get_or}
use Rattle.std.specs.Prelude.{slice_get, slice_index_or}
use Rattle.std.proofs.lemmas.List.{length-take, take_more, take-append-drop}
use Rattle.std.proofs.lemmas.Option.{slice_get_read}
use Rattle.batch_history.specs.Batches.{of_client}
use Rattle.cloud_base.specs.declared.batch.Batch.{Batch}
use Rattle.cloud_base.specs.declared.batch.Tail.{Tail}
use Rattle.record_diagram.specs.Steps.{next_base}
use Rattle.diagram_text.specs.Agendas.{IsAgenda}
use Rattle.diagram_text.specs.declared.agenda.Agenda.{Agenda}
use Rattle.diagram_text.proofs.Upcoming.{agenda_more, client_at, count_last, few_of_client, rest_of}
use Rattle.diagram_text.proofs.agenda.Agenda.join.Goals as goal

pub overflow_add-joined : goal.overflow_add-joined
overflow_add-joined c =
    let batches : List Batch = c.args.history.now.batches in
    let tails : List Tail = c.args.history.now.tails in
    let place : ℕ = c.args.place in
    let slot : ℕ = c.from-slot.result in
    let b : Batch = c.index-batches-place.result in
    let here : b ≡ get_or batches place b = c.index-batches-place.is ∙ ap (λ (l : List Batch). get_or l place b) c.as_slice-batches.ensures in
    let mine : slot ≡ b.client = c.from-slot.ensures ∙ ap (λ (x : Batch). x.client) (sym c.index-batches-place.is) in
    let below : slot < length tails = subst (λ (n : ℕ). n < length tails) (sym mine) (client_at (length tails) batches place b c.requires.drawable.clients c.requires.within here) in
    let count : slice_index_or c.args.self.now.joined slot 0 ≡ length (of_client slot (take place batches)) = c.requires.agenda.counts slot below in
    let few : length (of_client slot (take place batches)) ≤ length (take place batches) = few_of_client slot (take place batches) in
    let short : length (take place batches) ≤ place = omega (arith, length-take place batches) in
    grind arith

pub returns : goal.returns
returns c =
    let batches : List Batch = c.args.history.now.batches in
    let tails : List Tail = c.args.history.now.tails in
    let agenda : Agenda = c.args.self.now in
    let place : ℕ = c.args.place in
    let slot : ℕ = c.from-slot.result in
    let b : Batch = c.index-batches-place.result in
    let tail : Tail = c.index-as_slice-slot.result in
    let here : b ≡ get_or batches place b = c.index-batches-place.is ∙ ap (λ (l : List Batch). get_or l place b) c.as_slice-batches.ensures in
    let mine : slot ≡ b.client = c.from-slot.ensures ∙ ap (λ (x : Batch). x.client) (sym c.index-batches-place.is) in
    let below : b.client < length tails = client_at (length tails) batches place b c.requires.drawable.clients c.requires.within here in
    let within : slot < length tails = subst (λ (n : ℕ). n < length tails) (sym mine) below in
    let few : length tails ≤ 8 = c.requires.drawable.few_clients in
    let within_joined : slot < length agenda.joined = omega arith in
    let within_bases : slot < length agenda.bases = omega arith in
    let there : slice_get tails slot ≡ Some tail = slice_get_read tails (length tails) slot tail refl within (c.index-as_slice-slot.is ∙ ap (λ (l : List Tail). get_or l slot tail) c.as_slice.ensures) in
    let longer : take (place + 1) batches ≡ take place batches ++ b ∷ [] = take_more batches place b c.requires.within ∙ ap (λ (x : Batch). take place batches ++ x ∷ []) (sym here) in
    let seen : List Batch = c.as_slice-batches.result.now in
    let whole : batches ≡ take (place + 1) batches ++ take (length seen - (place + 1)) (drop (place + 1) seen) =
    sym (ap (λ (t : List Batch). take (place + 1) batches ++ t) (rest_of seen (place + 1) ∙ ap (drop (place + 1)) c.as_slice-batches.ensures) ∙ take-append-drop (place + 1) batches) in
    let count : slice_index_or agenda.joined slot 0 + 1 ≡ length (of_client (get_or seen place b).client (take (place + 1) batches)) =
    ap (λ (n : ℕ). n + 1) (c.requires.agenda.counts slot within ∙ ap (λ (x : ℕ). length (of_client x (take place batches))) mine)
    ∙ sym (count_last (take place batches) b)
    ∙ ap (λ (l : List Batch). length (of_client b.client l)) (sym longer)
    ∙ ap (λ (x : ℕ). length (of_client x (take (place + 1) batches))) (sym mine ∙ c.from-slot.ensures) in
    let is : c.next_base.result ≡ next_base batches (take (place + 1) batches) tail slot = c.next_base.ensures batches (take (place + 1) batches) whole count ∙ ap (λ (x : ℕ). next_base batches (take (place + 1) batches) tail x) (sym c.from-slot.ensures) in
    agenda_more batches tails (take place batches) (take (place + 1) batches) b agenda slot c.next_base.result tail longer mine within_joined within_bases within there is c.requires.agenda
