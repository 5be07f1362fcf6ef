use Rattle.std.proofs.Common.{◌≡◌, ◌<◌, ◌≤◌, ◌+◌, ◌∙◌, ap, sym, subst, List, [], ◌∷◌, ◌++◌, take, length, arith}
use Rattle.std.proofs.lemmas.List.{take_more, take_all}
use Rattle.cloud_base.specs.Values.{Id}
use Rattle.schema_fj.specs.Purged.{Purges}
use Rattle.schema_fj.proofs.GridJoin.{purges_more}
use Rattle.schema_fj.proofs.cells.purge_all.Goals as goal

pub loop-id-preserved : goal.loop-id-preserved
loop-id-preserved g c =
    let f = g.C.ForkJoin in
    let i = c.loop-id.id-index in
    let ids : List Id = c.args.ids.now in
    let below : i < length ids = omega arith in
    let more : take (i + 1) ids ≡ take i ids ++ c.id-item.result ∷ [] = take_more ids i c.id-item.result below ∙ ap (λ (x : Id). take i ids ++ x ∷ []) (sym c.id-item.is) in
    purges_more f.plain f.effect_of f.stands (take i ids) (take (i + 1) ids) c.id-item.result c.args.grid.now c.loop-id.grid c.purge.new.self more c.purge.ensures c.loop-id.invariant

pub returns : goal.returns
returns g c =
    let f = g.C.ForkJoin in
    let ids : List Id = c.args.ids.now in
    let past : length ids ≤ c.loop-id.id-index = omega arith in
    subst (λ (l : List Id). Purges f.plain f.effect_of f.stands l c.args.grid.now c.loop-id.grid) (take_all c.loop-id.id-index ids past) c.loop-id.invariant
