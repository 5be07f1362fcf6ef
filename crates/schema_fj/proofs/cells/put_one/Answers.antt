use Rattle.fj_entity.proofs.GroupLemmas.{on_ok}
use Rattle.schema_fj.proofs.Restored.{puts_nothing, puts_one}
use Rattle.schema_fj.proofs.cells.put_one.Goals as goal

pub returns-in-Some : goal.returns-in-Some
returns-in-Some g c =
    let f = g.C.ForkJoin in
    on_ok c.put.result
    (puts_one f.plain f.effect_of f.stands c.cell_orders.ensures.apart c.cell_orders.ensures.total c.args.it.now c.args.grid.now c.put.new.self c.args.value c.in-Some.value c.in-Some.is)
    c.put.ensures.ok

pub returns-in-None : goal.returns-in-None
returns-in-None g c =
    let f = g.C.ForkJoin in
    puts_nothing f.plain f.effect_of f.stands c.args.it.now c.args.grid.now c.args.value c.in-None.is
