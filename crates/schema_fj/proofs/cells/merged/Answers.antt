use Rattle.std.proofs.Common.{ap, sym, ◌∙◌, subst, ◌++◌, List}
use Rattle.std.specs.Ordering.{is_lt}
use Rattle.std.specs.List.Sorted.{IsPermutation}
use Rattle.std.proofs.lemmas.List.Sorted.{ranks_by, answers_always}
use Rattle.fj_array.specs.declared.effect.CellEffect.{CellEffect}
use Rattle.fj_array.specs.Effects.{cell_of}
use Rattle.schema_fj.specs.Joined.{IsMerge}
use Rattle.schema_fj.proofs.Effects.{sorted_merge}
use Rattle.schema_fj.proofs.cells.merged.Goals as goal

pub returns : goal.returns
returns c =
    let sorts = c.in_ok-sort_by.ensures in
    let ranks = ranks_by c.cell_orders.ensures.total cell_of in
    let both = c.in_ok-append.ensures.items ∙ (λ i. c.into_vec-effects.ensures i ++ c.into_vec-more.ensures i) in
    subst (λ (l : List CellEffect). IsMerge c.args.first c.args.second l) (sym c.from_vec.ensures)
    (sorted_merge c.total_list_orders.ensures.effects c.args.first c.args.second c.sort_by.new.self.items
    (subst (λ (l : List CellEffect). IsPermutation l c.sort_by.new.self.items) both sorts.permutation)
    (sorts.sorted _ ranks (answers_always _ _ _ (λ f a r f' k. ap is_lt k.met))))
