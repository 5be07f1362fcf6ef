use Rattle.std.proofs.Common.{◌∙◌, ap}
use Rattle.cloud_base.specs.Dead.{is_dead, dead_within}
use Rattle.plain_answer.proofs.ids.is_dead.Goals as goal

pub returns : goal.returns
unfolding is_dead
returns c = c.dead_within.ensures ∙ ap (λ n. dead_within n c.args.log.now c.args.id) c.count_created.ensures
