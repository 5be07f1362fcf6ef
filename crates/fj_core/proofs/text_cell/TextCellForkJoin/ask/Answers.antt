use Rattle.std.proofs.Common.{◌==◌, length, sym, ◌∙◌, ap, List, ℕ}
use Rattle.cloud_base.specs.PlainCell.{if_empty}
use Rattle.fj_core.specs.declared.text_cell.Done.{Done}
use Rattle.fj_core.specs.TextCells.{text_applied, done_effect}
use Rattle.fj_core.specs.TextLaws.{TextStands-ask, if_empty-filled, empty_by_length, filled_by_length}
use Rattle.fj_core.proofs.text_cell.TextCellForkJoin.ask.Goals as goal

pub returns-in-Set : goal.returns-in-Set
returns-in-Set c base delta h =
    let s = c.args.self.now in
    c.copied.ensures ∙ ap (λ (d : Done). text_applied (done_effect d) s.base) (sym c.in-Set.is) ∙ TextStands-ask s base delta h

pub returns-then-is_empty : goal.returns-then-is_empty
returns-then-is_empty c base delta h =
    let s = c.args.self.now in
    let empty = empty_by_length s.base (c.if-is_empty.ensures ∙ ap (λ (t : List ℕ). length t == 0) c.as_slice.ensures.bytes) in
    c.copied-then-is_empty.ensures ∙ c.as_text.ensures.text ∙ ap (λ (t : List ℕ). if_empty t c.in-IfEmpty.text) (sym empty)
    ∙ ap (λ (d : Done). text_applied (done_effect d) s.base) (sym c.in-IfEmpty.is) ∙ TextStands-ask s base delta h

pub returns-else-is_empty : goal.returns-else-is_empty
returns-else-is_empty c base delta h =
    let s = c.args.self.now in
    let filled = filled_by_length s.base (c.if-is_empty.ensures ∙ ap (λ (t : List ℕ). length t == 0) c.as_slice.ensures.bytes) in
    c.copied-else-is_empty.ensures ∙ sym (if_empty-filled s.base c.in-IfEmpty.text filled)
    ∙ ap (λ (d : Done). text_applied (done_effect d) s.base) (sym c.in-IfEmpty.is) ∙ TextStands-ask s base delta h

pub returns-in-Keep : goal.returns-in-Keep
returns-in-Keep c base delta h =
    let s = c.args.self.now in
    c.copied-in-Keep.ensures ∙ ap (λ (d : Done). text_applied (done_effect d) s.base) (sym c.in-Keep.is) ∙ TextStands-ask s base delta h
