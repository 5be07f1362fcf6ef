use Rattle.std.proofs.Common.{◌≡◌, refl, sym, ◌∙◌, ap, [], ◌∷◌, List, ℕ}
use Rattle.std.specs.Prelude.{Some, None}
use Rattle.std.proofs.lemmas.Bool.{false≢true}
use Rattle.fj_core.specs.declared.effect.Effect.TheVariants as effects
use Rattle.fj_core.specs.declared.text_cell.Done.TheVariants as dones
use Rattle.fj_core.specs.declared.text_cell.TextChange.{TextChange}
use Rattle.fj_core.specs.TextCells.{text_combined, done_effect, text_effect}
use Rattle.fj_core.specs.TextLaws.{TextStands-more, effect_of_offer, effect_of_set, effect_of_no_offer}
use Rattle.fj_core.proofs.text_cell.TextCellForkJoin.update.Goals as goal

pub returns-in-Set : goal.returns-in-Set
returns-in-Set c base delta h =
    let s = c.args.self.now in
    TextStands-more s (record { base = s.base; done = dones.Set c.copied.result }) base delta (c.args.change.now ∷ []) (Some (effects.SetText c.in-Set.text))
    (sym (effect_of_set c.in-Set.text) ∙ ap (λ (x : TextChange). text_effect (x ∷ [])) (sym c.in-Set.is)) refl
    (ap (λ (t : List ℕ). Some (effects.SetText t)) c.copied.ensures) h

pub returns-in-Some : goal.returns-in-Some
returns-in-Some c base delta h =
    let s = c.args.self.now in
    let t = c.in-IfEmpty.text in
    let filled = λ (e : t ≡ []). false≢true (sym (c.in-Some.ensures.none.1 (c.copied-in-IfEmpty.ensures ∙ e))) in
    TextStands-more s c.offer.new.self base delta (c.args.change.now ∷ []) (Some (effects.IfEmpty t))
    (sym (effect_of_offer t filled) ∙ ap (λ (x : TextChange). text_effect (x ∷ [])) (sym c.in-IfEmpty.is)) c.offer.ensures.base
    (c.offer.ensures.done
    ∙ ap (λ (x : List ℕ). text_combined (done_effect s.done) (Some (effects.IfEmpty x))) (c.in-Some.ensures.some ∙ c.copied-in-IfEmpty.ensures)) h

pub returns-in_default : goal.returns-in_default
returns-in_default c base delta h =
    let s = c.args.self.now in
    let t = c.in-IfEmpty.text in
    let empty = sym c.copied-in-IfEmpty.ensures ∙ c.in_default.ensures.none.0 refl in
    TextStands-more s s base delta (c.args.change.now ∷ []) None
    (sym (effect_of_no_offer t empty) ∙ ap (λ (x : TextChange). text_effect (x ∷ [])) (sym c.in-IfEmpty.is)) refl refl h
