use Rattle.std.proofs.Common.{take}
use Rattle.schema_fj.specs.Purged.{Purges}
use Rattle.schema_fj.proofs.cells.purge_all.Given as goal

abbrev pub invariant-loop-id : goal.invariant-loop-id
invariant-loop-id g l =
    let f = g.C.ForkJoin in
    Purges f.plain f.effect_of f.stands (take l.id-index l.ids) l.fn.grid l.grid
