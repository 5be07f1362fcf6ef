use Rattle.std.proofs.Common.{◌++◌, sym, subst}
use Rattle.cloud_base.specs.Answer.{answer}
use Rattle.cloud_base.specs.declared.schema.CellType.TheVariants as cell
use Rattle.fj_core.specs.Changes.{texts}
use Rattle.schema_fj.specs.Held.{Held}
use Rattle.schema_fj.specs.States.{changes_in, StateStands}
use Rattle.schema_fj.proofs.ValueLemmas.{value_text}
use Rattle.schema_fj.proofs.state.State.get_text.Goals as goal

pub returns : goal.returns
unfolding answer
returns c schema base delta stands type =
    let h = subst (λ (s : Held). StateStands schema s base delta) (sym c.self.view_is) stands in
    value_text c.cell_orders.ensures.by_parts schema base delta c.args.property c.args.keys.now c.ask.result type
    (c.ask.ensures (changes_in schema cell.Text texts (base ++ delta) base) (changes_in schema cell.Text texts (base ++ delta) delta) h.holds.texts)
