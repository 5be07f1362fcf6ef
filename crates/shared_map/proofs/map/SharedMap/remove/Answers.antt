use Rattle.std.proofs.Common.{◌≡◌, sym, ◌∙◌, ap, subst, List}
use Rattle.std.specs.Prelude.{not, None}
use Rattle.std.specs.BTreeMap.{is_at}
use Rattle.shared_map.specs.Entries.{without_key, Updates}
use Rattle.shared_map.specs.Shelves.{pointed, on_shelf, unflagged, laid_over}
use Rattle.shared_map.proofs.EntryLemmas.{ascends_filter}
use Rattle.shared_map.proofs.EditLemmas.{without_fair, updates_without}
use Rattle.shared_map.proofs.LaidLemmas.{filter_laid, ascends_unflagged}
use Rattle.shared_map.proofs.map.SharedMap.remove.Goals as goal

pub invariant_of-self : goal.invariant_of-self
invariant_of-self g c =
    let inside = c.self.inside in
    let held = c.self.invariant in
    record {
      flags = c.take_off-was_there.ensures.flags ∙ held.flags;
      shelf_sorted = held.shelf_sorted;
      own_sorted = rw c.take_out.ensures (ascends_filter g.met.K.Ord.total (λ k. not (is_at (g.K.Ord.cmp c.args.key.now) k)) (pointed inside.own.items) held.own_sorted);
    }

pub returns-clause-is : goal.returns-clause-is
returns-clause-is g c =
    let cmp = g.K.Ord.cmp in
    let o = g.met.K.Ord.total in
    let inside = c.self.inside in
    let own = pointed inside.own.items in
    let shelf = on_shelf inside.shelf in
    let left = unflagged inside.gone shelf in
    let key = c.args.key.now in
    let E : Type 0 = g.row.K.Denot × g.row.V.Denot in
    let flagged : unflagged c.take_off-was_there.new.gone shelf ≡ without_key cmp left key =
    subst (λ (l : List E). unflagged c.take_off-was_there.new.gone l ≡ without_key cmp (unflagged inside.gone l) key) c.entries_of.ensures c.take_off-was_there.ensures.is in
    ap (λ (l : List E). laid_over cmp l (unflagged c.take_off-was_there.new.gone shelf)) c.take_out.ensures
    ∙ ap (λ (l : List E). laid_over cmp (without_key cmp own key) l) flagged
    ∙ filter_laid o (λ k. not (is_at (cmp key) k)) (without_fair o key) own left (ascends_unflagged o inside.gone shelf c.self.invariant.shelf_sorted)
    ∙ ap (λ (l : List E). without_key cmp l key) c.self.view_is

pub returns-clause-updates : goal.returns-clause-updates
returns-clause-updates g c =
    let cmp = g.K.Ord.cmp in
    let key = c.args.key.now in
    let E : Type 0 = g.row.K.Denot × g.row.V.Denot in
    subst (λ (l : List E). Updates cmp c.args.self.now l key None) (sym (returns-clause-is g c)) (updates_without g.met.K.Ord.total c.args.self.now key)
