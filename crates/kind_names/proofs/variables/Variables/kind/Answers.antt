use Rattle.std.proofs.Common.{◌<◌, length, arith, ap, ◌∙◌}
use Rattle.kind_rules.specs.Names.{Variable}
use Rattle.kind_rules.specs.Expressions.{kind_at}
use Rattle.kind_names.proofs.Places.{kind_at_place}
use Rattle.kind_names.proofs.variables.Variables.kind.Goals as goal

pub returns : goal.returns
returns c =
    let within : c.args.slot < length c.self.inside.items.items = omega (arith, ap length c.self.view_is) in
    ap (λ (v : Variable). v.kind) c.variable.view_is
    ∙ kind_at_place c.self.inside.items.items c.args.slot c.index-variable.result.now within c.index-variable.ensures
    ∙ ap (λ vs. kind_at vs c.args.slot) c.self.view_is
