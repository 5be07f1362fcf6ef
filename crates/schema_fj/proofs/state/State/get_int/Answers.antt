use Rattle.std.proofs.Common.{◌≡◌, ◌∙◌, sym, subst, to_z, of_z, w64, ◌++◌, rules}
use Rattle.cloud_base.specs.Answer.{answer}
use Rattle.cloud_base.specs.declared.schema.CellType.TheVariants as cell
use Rattle.cloud_base.specs.declared.update.Answer.{Answer}
use Rattle.cloud_base.specs.declared.update.Answer.TheVariants.{Int}
use Rattle.fj_core.specs.Changes.{ints}
use Rattle.schema_fj.specs.Held.{Held}
use Rattle.schema_fj.specs.States.{changes_in, StateStands}
use Rattle.schema_fj.proofs.ValueLemmas.{value_int}
use Rattle.schema_fj.proofs.state.State.get_int.Goals as goal

pub returns : goal.returns
unfolding answer
returns c schema base delta stands type =
    let value : Answer = Int c.ask.result in
    let held : Answer = Int (to_z w64 (of_z w64 c.ask.result)) in
    let same : value ≡ held = search rules in
    let h = subst (λ (s : Held). StateStands schema s base delta) (sym c.self.view_is) stands in
    value_int c.cell_orders.ensures.by_parts schema base delta c.args.property c.args.keys.now c.ask.result type
    (c.ask.ensures (changes_in schema cell.Int ints (base ++ delta) base) (changes_in schema cell.Int ints (base ++ delta) delta) h.holds.numbers)
    ∙ same
