use Rattle.std.proofs.Common.{◌∙◌, ap, sym, ◌++◌}
use Rattle.cloud_base.specs.Answer.{answer}
use Rattle.cloud_base.specs.declared.update.Answer.TheVariants.{Truth}
use Rattle.session_core.proofs.session.answer_one.Goals as goal

pub returns-in-Alive : goal.returns-in-Alive
unfolding answer
returns-in-Alive c base delta stands =
    let schema = c.args.schema.now in
    ap Truth (c.alive.ensures schema base delta stands) ∙ ap (answer schema (base ++ delta)) (sym c.in-Alive.is)
