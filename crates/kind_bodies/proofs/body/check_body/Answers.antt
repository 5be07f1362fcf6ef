use Rattle.std.proofs.Common.{sym, subst}
use Rattle.kind_bodies.specs.Settles.{AreFitStatements}
use Rattle.kind_bodies.proofs.FitStatements.{fit_body}
use Rattle.kind_bodies.proofs.Tells.{body_settled}
use Rattle.kind_bodies.proofs.body.check_body.Goals as goal

pub block-requires : goal.block-requires
block-requires c = subst AreFitStatements (sym c.as_slice.ensures) (fit_body c.args.body.now c.requires)

pub returns : goal.returns
returns c = body_settled c.args.declared.now c.args.body.now _ _ _ c.args.lines.now c.block.result c.as_slice.ensures c.new-variables.ensures c.block.ensures
