use Rattle.std.proofs.Common.{refl, sym, ◌∙◌, ap, List, ℕ}
use Rattle.std.specs.Prelude.{Some}
use Rattle.fj_core.specs.declared.effect.Effect.TheVariants as effects
use Rattle.fj_core.specs.declared.text_cell.Done.{Done}
use Rattle.fj_core.specs.declared.text_cell.Done.TheVariants as dones
use Rattle.fj_core.specs.TextCells.{text_combined, done_effect}
use Rattle.fj_core.specs.TextLaws.{TextStands-more}
use Rattle.fj_core.proofs.text_cell.TextCellForkJoin.join.Goals as goal

pub returns-in-Keep : goal.returns-in-Keep
returns-in-Keep c base delta before after h k =
    let s = c.args.self.now in
    TextStands-more s s base delta after (done_effect c.args.child.now.done) k.1 refl
    (ap (λ (d : Done). text_combined (done_effect s.done) (done_effect d)) (sym c.in-Keep.is)) h

pub returns-in-IfEmpty : goal.returns-in-IfEmpty
returns-in-IfEmpty c base delta before after h k =
    let s = c.args.self.now in
    TextStands-more s c.offer.new.self base delta after (done_effect c.args.child.now.done) k.1 c.offer.ensures.base
    (c.offer.ensures.done
    ∙ ap (λ (t : List ℕ). text_combined (done_effect s.done) (Some (effects.IfEmpty t))) c.copied.ensures
    ∙ ap (λ (d : Done). text_combined (done_effect s.done) (done_effect d)) (sym c.in-IfEmpty.is)) h

pub returns-in-Set : goal.returns-in-Set
returns-in-Set c base delta before after h k =
    let s = c.args.self.now in
    TextStands-more s (record { base = s.base; done = dones.Set c.copied-in-Set.result }) base delta after (done_effect c.args.child.now.done) k.1 refl
    (ap (λ (t : List ℕ). Some (effects.SetText t)) c.copied-in-Set.ensures
    ∙ ap (λ (d : Done). text_combined (done_effect s.done) (done_effect d)) (sym c.in-Set.is)) h
