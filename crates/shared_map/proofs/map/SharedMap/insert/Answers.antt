use Rattle.std.proofs.Common.{◌≡◌, sym, ◌∙◌, ap, subst, List}
use Rattle.std.specs.Prelude.{Some}
use Rattle.shared_map.specs.Entries.{with_entry, Updates}
use Rattle.shared_map.proofs.EditLemmas.{updates_with}
use Rattle.shared_map.proofs.LaidLemmas.{on_ok}
use Rattle.shared_map.proofs.map.SharedMap.insert.Goals as goal
use Rattle.shared_map.proofs.map.SharedMap.insert.Goals.{then-is_wide+in_ok-settle, else-is_wide}

pub returns-clause-updates : goal.returns-clause-updates
returns-clause-updates g c =
    let E : Type 0 = g.row.K.Denot × g.row.V.Denot in
    let cmp = g.K.Ord.cmp in
    let old = c.args.self.now in
    let same : c.if-is_wide.self ≡ old =
    elim c.if-is_wide.branch [ then-is_wide+in_ok-settle w ↦ w.self-is ∙ w.settle.ensures | else-is_wide w ↦ w.self-is ] in
    on_ok c.put.result
    (λ is.
    subst (λ (l : List E). Updates cmp old l c.args.key (Some c.args.value))
    (sym (is ∙ ap (λ (l : List E). with_entry cmp l c.in_ok-entry.entry.value) same ∙ ap (λ (e : E). with_entry cmp old e) c.in_ok-entry.ensures.ok))
    (updates_with g.met.K.Ord.total old c.args.key c.args.value))
    c.put.ensures.ok
