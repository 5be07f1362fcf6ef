use Rattle.std.proofs.Common.{◌∙◌, sym, subst, List, ◌++◌}
use Rattle.cloud_base.specs.Values.{Id}
use Rattle.cloud_base.specs.Order.{id_order}
use Rattle.cloud_base.specs.Sorted.{Lists}
use Rattle.cloud_base.specs.declared.schema.CellType.TheVariants as cell
use Rattle.fj_core.specs.Changes.{ints, texts}
use Rattle.fj_entity.specs.Rosters.{IsNewlyDead}
use Rattle.change_lists.specs.Effects.{IsEffect}
use Rattle.change_lists.specs.Lists.{ChangeLists}
use Rattle.schema_fj.specs.Held.{Held}
use Rattle.schema_fj.specs.States.{changes_in, StateStands}
use Rattle.schema_fj.proofs.Effects.{told_cells}
use Rattle.schema_fj.proofs.StateJoin.{told_born}
use Rattle.schema_fj.proofs.state.State.effect.Goals as goal

pub returns : goal.returns
returns c schema base delta stands =
    let held : Held = record { types = c.self.inside.types; numbers = c.self.inside.numbers; texts = c.self.inside.texts; fates = c.self.inside.roster; born = c.self.inside.born.keys; died = c.self.inside.died.keys } in
    let h : StateStands schema held base delta = subst (λ (s : Held). StateStands schema s base delta) (sym c.self.view_is) stands in
    let lists : ChangeLists = record { created = c.from_vec-created.result; dead = c.from_vec-dead.result; cells = c.in_ok-cells.cells } in
    let told : IsEffect schema base delta lists = record {
      created = told_born c.args.self.now.fates base delta c.args.self.now.born c.from_vec-created.result stands.fit.once stands.holds.roster (c.from_vec-created.ensures ∙ c.in_ok-told_created.ensures) stands.holds.born;
      dead = subst (λ (l : List Id). Lists id_order l (IsNewlyDead base (base ++ delta))) (sym (c.from_vec-dead.ensures ∙ c.in_ok-told_dead.ensures)) stands.holds.died;
      cells = told_cells c.cell_orders.ensures.by_parts c.cell_orders.ensures.apart schema base delta c.in_ok-effects.field-0 c.in_ok-effects-2.field-0 c.in_ok-cells.cells
          (c.in_ok-effects.ensures (changes_in schema cell.Int ints (base ++ delta) base) (changes_in schema cell.Int ints (base ++ delta) delta) h.holds.numbers)
          (c.in_ok-effects-2.ensures (changes_in schema cell.Text texts (base ++ delta) base) (changes_in schema cell.Text texts (base ++ delta) delta) h.holds.texts)
          c.in_ok-cells.ensures;
    } in
    subst (IsEffect schema base delta) (sym (c.change_of.ensures (c.one_effect.ensures.ordered schema base delta lists told))) told
