use Rattle.std.proofs.Common.{sym, subst, ◌++◌}
use Rattle.cloud_base.specs.declared.schema.CellType.TheVariants as cell
use Rattle.fj_core.specs.Changes.{ints, texts}
use Rattle.schema_fj.specs.Held.{Held}
use Rattle.schema_fj.specs.States.{changes_in, StateHolds}
use Rattle.schema_fj.proofs.StateSteps.{copied_holds}
use Rattle.schema_fj.proofs.state.State.copied.Goals as goal

pub returns : goal.returns
returns c schema base delta stands =
    let held : Held = record { types = c.self.inside.types; numbers = c.self.inside.numbers; texts = c.self.inside.texts; fates = c.self.inside.roster; born = c.self.inside.born.keys; died = c.self.inside.died.keys } in
    let h : StateHolds schema held base delta = subst (λ (s : Held). StateHolds schema s base delta) (sym c.self.view_is) stands in
    copied_holds schema held (record { types = c.in_ok-copy.field-0; numbers = c.in_ok-copied.field-0; texts = c.in_ok-copied-2.field-0; fates = c.in_ok-fork.field-0; born = c.in_ok-born.born.keys; died = c.in_ok-died.died.keys }) base delta h
    c.in_ok-copy.ensures c.in_ok-fork.ensures c.in_ok-born.ensures c.in_ok-died.ensures
    (c.in_ok-copied.ensures.stands (changes_in schema cell.Int ints (base ++ delta) base) (changes_in schema cell.Int ints (base ++ delta) delta) h.numbers)
    (c.in_ok-copied-2.ensures.stands (changes_in schema cell.Text texts (base ++ delta) base) (changes_in schema cell.Text texts (base ++ delta) delta) h.texts)
