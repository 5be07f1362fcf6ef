use Rattle.std.proofs.Common.{refl, sym, ◌∙◌, ap, List, ℕ}
use Rattle.std.specs.Prelude.{Some}
use Rattle.fj_core.specs.declared.effect.Effect.{Effect}
use Rattle.fj_core.specs.declared.effect.Effect.TheVariants as effects
use Rattle.fj_core.specs.declared.text_cell.Done.TheVariants as dones
use Rattle.fj_core.specs.TextCells.{text_combined, done_effect}
use Rattle.fj_core.specs.TextLaws.{TextStands-more}
use Rattle.fj_core.proofs.text_cell.TextCellForkJoin.join_effect.Goals as goal

pub returns-in-SetText : goal.returns-in-SetText
returns-in-SetText c base delta more h e =
    let s = c.args.self.now in
    TextStands-more s (record { base = s.base; done = dones.Set c.copied.result }) base delta more (Some c.args.effect.now) (sym e) refl
    (ap (λ (t : List ℕ). Some (effects.SetText t)) c.copied.ensures
    ∙ ap (λ (x : Effect). text_combined (done_effect s.done) (Some x)) (sym c.in-SetText.is)) h

pub returns-in-IfEmpty : goal.returns-in-IfEmpty
returns-in-IfEmpty c base delta more h e =
    let s = c.args.self.now in
    TextStands-more s c.offer.new.self base delta more (Some c.args.effect.now) (sym e) c.offer.ensures.base
    (c.offer.ensures.done
    ∙ ap (λ (t : List ℕ). text_combined (done_effect s.done) (Some (effects.IfEmpty t))) c.copied-in-IfEmpty.ensures
    ∙ ap (λ (x : Effect). text_combined (done_effect s.done) (Some x)) (sym c.in-IfEmpty.is)) h
