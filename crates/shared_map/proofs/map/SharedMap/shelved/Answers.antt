use Rattle.std.proofs.Common.{sym, ◌∙◌, ap, subst, List, false}
use Rattle.std.specs.Arc.{arc_value}
use Rattle.std.proofs.lemmas.List.{length-map, length-replicate}
use Rattle.shared_map.specs.Shelves.{pointed, unflagged, laid_over}
use Rattle.shared_map.proofs.LaidLemmas.{none_flagged}
use Rattle.shared_map.proofs.EntryLemmas.{none_ascends, Ascends}
use Rattle.shared_map.proofs.map.SharedMap.shelved.Goals as goal

pub invariant_of-result : goal.invariant_of-result
invariant_of-result g c =
    let E : Type 0 = g.row.K.Denot × g.row.V.Denot in
    rw (c.new-2.ensures.items, c.in_ok-gone.ensures, c.in_ok-new.ensures.ok) (record {
      flags = length-replicate c.len.result false ∙ c.len.ensures ∙ c.in_ok-entries.entries.ok.0 ∙ sym (length-map c.in_ok-entries.entries.items arc_value);
      shelf_sorted = subst (λ (l : List E). Ascends g.K.Ord.cmp l) (sym c.in_ok-entries.ensures) c.in_order.ensures;
      own_sorted = none_ascends g.K.Ord.cmp;
    })

pub returns : goal.returns
returns g c =
    let E : Type 0 = g.row.K.Denot × g.row.V.Denot in
    ap (λ l. laid_over g.K.Ord.cmp (pointed l) (unflagged c.in_ok-gone.gone (pointed (arc_value c.in_ok-new.field-0).items))) c.new-2.ensures.items
    ∙ ap (λ l. unflagged l (pointed (arc_value c.in_ok-new.field-0).items)) c.in_ok-gone.ensures
    ∙ none_flagged c.len.result (pointed (arc_value c.in_ok-new.field-0).items)
    ∙ ap (λ v. pointed v.items) c.in_ok-new.ensures.ok ∙ c.in_ok-entries.ensures
