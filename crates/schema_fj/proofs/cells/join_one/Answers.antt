use Rattle.fj_entity.proofs.GroupLemmas.{on_ok}
use Rattle.schema_fj.proofs.JoinLaws.{joins_skip, joins_put}
use Rattle.schema_fj.proofs.cells.join_one.Goals as goal

pub returns-then-not-is_own : goal.returns-then-not-is_own
returns-then-not-is_own g c =
    let f = g.C.ForkJoin in
    joins_skip f.plain f.effect_of f.stands (λ x. c.args.is_own) c.args.it.now c.args.grid.now c.if-not-is_own.true

pub returns : goal.returns
returns g c =
    let f = g.C.ForkJoin in
    on_ok c.join_effect.result
    (joins_put f.plain f.effect_of f.stands (λ x. c.args.is_own) c.cell_orders.ensures.apart c.args.it.now c.args.grid.now c.join_effect.new.self c.if-not-is_own.false)
    c.join_effect.ensures.ok
