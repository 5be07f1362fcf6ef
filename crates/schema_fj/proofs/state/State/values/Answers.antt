use Rattle.std.proofs.Common.{◌++◌, arith}
use Rattle.schema_fj.proofs.Images.{types_count, values_held}
use Rattle.schema_fj.proofs.state.State.values.Goals as goal

pub returns : goal.returns
returns c schema base delta stands =
    let long = types_count schema c.args.self.now.types stands.holds.types in
    values_held c.cell_orders.ensures.by_parts schema (base ++ delta) stands.fit c.loop-number.number c.loop-number.list (c.loop-number.invariant schema base delta stands)
    (λ p small within. omega (arith, small, within, long, c.property_count-number-end.ensures, c.loop-number-test.false))
