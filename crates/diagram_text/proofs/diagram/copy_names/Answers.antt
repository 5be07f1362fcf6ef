-- One name more.
use Rattle.std.proofs.Common.{arith, ◌≡◌, ◌∙◌, ◌++◌, ◌∷◌, [], ◌<◌, ap, sym, ℕ, List, length, take, get_or}
use Rattle.std.proofs.lemmas.List.{take_all, take_more}
use Rattle.std.proofs.lemmas.Option.{get_or_from_slice_get}
use Rattle.diagram_text.proofs.diagram.copy_names.Goals as goal

pub loop-client-preserved : goal.loop-client-preserved
loop-client-preserved c =
    let names : List (List ℕ) = c.args.program.now.names in
    let k : ℕ = c.loop-client.client in
    let name : List ℕ = c.name.result.now in
    let within : k < length names = omega (arith, c.clients-clients.ensures.clients) in
    c.in_ok-push.ensures.ok
    ∙ ap (λ (l : List (List ℕ)). l ++ c.in_ok-new.field-0 ∷ []) c.loop-client.invariant
    ∙ ap (λ (n : List ℕ). take k names ++ n ∷ []) (c.in_ok-new.ensures ∙ c.as_bytes.ensures.value ∙ sym (get_or_from_slice_get names k name name c.name.ensures))
    ∙ sym (take_more names k name within)

pub returns : goal.returns
returns c = c.loop-client.invariant ∙ take_all c.loop-client.client c.args.program.now.names (omega (arith, c.clients-clients.ensures.clients))
