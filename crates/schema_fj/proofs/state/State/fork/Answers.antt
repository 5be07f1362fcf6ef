use Rattle.std.proofs.Common.{sym, subst, ◌++◌}
use Rattle.cloud_base.specs.declared.schema.CellType.TheVariants as cell
use Rattle.fj_core.specs.Changes.{ints, texts}
use Rattle.schema_fj.specs.Held.{Held}
use Rattle.schema_fj.specs.States.{changes_in, StateStands}
use Rattle.schema_fj.proofs.StateSteps.{forked_stands}
use Rattle.schema_fj.proofs.state.State.fork.Goals as goal

pub returns : goal.returns
returns c schema base delta stands =
    let held : Held = record { types = c.self.inside.types; numbers = c.self.inside.numbers; texts = c.self.inside.texts; fates = c.self.inside.roster; born = c.self.inside.born.keys; died = c.self.inside.died.keys } in
    let h : StateStands schema held base delta = subst (λ (s : Held). StateStands schema s base delta) (sym c.self.view_is) stands in
    forked_stands schema held (record { types = c.in_ok-copy.field-0; numbers = c.in_ok-fork.field-0; texts = c.in_ok-fork-2.field-0; fates = c.in_ok-fork-3.field-0; born = c.new.result.keys; died = c.new-2.result.keys }) base delta h
    c.in_ok-copy.ensures c.in_ok-fork-3.ensures c.new.ensures.empty c.new-2.ensures.empty
    (c.in_ok-fork.ensures (changes_in schema cell.Int ints (base ++ delta) base) (changes_in schema cell.Int ints (base ++ delta) delta) h.holds.numbers)
    (c.in_ok-fork-2.ensures (changes_in schema cell.Text texts (base ++ delta) base) (changes_in schema cell.Text texts (base ++ delta) delta) h.holds.texts)
