use Rattle.std.proofs.Common.{◌≡◌, ◌+◌, ◌∷◌, [], ◌++◌, sym, ◌∙◌, ap, take}
use Rattle.std.proofs.lemmas.List.{take_more}
use Rattle.cloud_base.specs.Values.{Id}
use Rattle.schema_fj.specs.Told.{deletes}
use Rattle.schema_fj.proofs.Restored.{deleted_roster}
use Rattle.schema_fj.proofs.fates.delete_all.Goals as goal

pub loop-id-preserved : goal.loop-id-preserved
loop-id-preserved c log h =
    let i = c.loop-id.id-index in
    let xs = c.args.ids.now in
    let it : Id = c.id-item.result in
    let more : take (i + 1) xs ≡ take i xs ++ it ∷ [] = take_more xs i it c.loop-id-test.true ∙ ap (λ (x : Id). take i xs ++ x ∷ []) (sym c.id-item.is) in
    deleted_roster c.delete.new.self log (take i xs) (take (i + 1) xs) it more (c.in_ok-delete.ensures.ok (log ++ deletes (take i xs)) (c.loop-id.invariant log h)).0
