use Rattle.std.proofs.Common.{◌≡◌, ◌+◌, ◌∷◌, [], ◌++◌, sym, ◌∙◌, ap, take, drop, suc, add-one, drop-cons}
use Rattle.std.proofs.lemmas.List.{take_more}
use Rattle.fj_entity.specs.declared.created.Created.{Created}
use Rattle.schema_fj.proofs.Restored.{created_roster}
use Rattle.schema_fj.proofs.fates.create_all.Goals as goal

pub loop-created-preserved : goal.loop-created-preserved
loop-created-preserved c log h new =
    let i = c.loop-created.created-index in
    let xs = c.args.list.now in
    let it : Created = c.created-item.result in
    let more : take (i + 1) xs ≡ take i xs ++ it ∷ [] = take_more xs i it c.loop-created-test.true ∙ ap (λ (x : Created). take i xs ++ x ∷ []) (sym c.created-item.is) in
    let first : drop i xs ≡ it ∷ drop (i + 1) xs = rw add-one (drop-cons xs i it c.loop-created-test.true ∙ ap (λ (x : Created). x ∷ drop (suc i) xs) (sym c.created-item.is)) in
    created_roster c.loop-created.roster c.create.new.self log (take i xs) (take (i + 1) xs) (drop i xs) (drop (i + 1) xs) it more first
    (λ front held none. (c.in_ok-create.ensures.ok front held none).0) (c.loop-created.invariant log h new)
