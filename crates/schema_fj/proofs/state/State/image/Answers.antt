use Rattle.std.proofs.Common.{sym, subst, ◌++◌}
use Rattle.change_lists.specs.Images.{IsImage}
use Rattle.change_lists.specs.Lists.{ImageLists}
use Rattle.schema_fj.specs.Held.{Held}
use Rattle.schema_fj.specs.States.{StateStands}
use Rattle.schema_fj.proofs.state.State.image.Goals as goal

pub returns : goal.returns
returns c schema base delta stands =
    let held : Held = record { types = c.self.inside.types; numbers = c.self.inside.numbers; texts = c.self.inside.texts; fates = c.self.inside.roster; born = c.self.inside.born.keys; died = c.self.inside.died.keys } in
    let h : StateStands schema held base delta = subst (λ (s : Held). StateStands schema s base delta) (sym c.self.view_is) stands in
    let lists : ImageLists = record { created = c.in_ok-created.created; dead = c.in_ok-dead.dead; cells = c.in_ok-cells.cells } in
    let told : IsImage schema (base ++ delta) lists = record {
      created = c.in_ok-created.ensures (base ++ delta) h.holds.roster;
      dead = c.in_ok-dead.ensures (base ++ delta) h.holds.roster;
      cells = c.in_ok-cells.ensures schema base delta stands;
    } in
    subst (IsImage schema (base ++ delta)) (sym (c.image_of.ensures (c.one_image.ensures.ordered schema (base ++ delta) lists told))) told
