use Rattle.fj_entity.proofs.GroupLemmas.{on_ok}
use Rattle.schema_fj.proofs.state.State.join.Goals as goal

pub returns-clause-ok : goal.returns-clause-ok
returns-clause-ok c =
    on_ok c.join_change.result
    (λ joins schema base delta before after stands child part fit. joins schema base delta before after stands (c.in_ok-change.ensures schema before after child) part fit)
    c.join_change.ensures.ok
