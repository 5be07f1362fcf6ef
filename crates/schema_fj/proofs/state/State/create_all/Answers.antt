use Rattle.std.proofs.Common.{◌≡◌, ◌+◌, ◌∷◌, [], ◌++◌, List, sym, ◌∙◌, ap, subst, take, drop, suc, add-one, drop-cons}
use Rattle.std.proofs.lemmas.List.{take_more, take_all}
use Rattle.fj_entity.specs.declared.created.Created.{Created}
use Rattle.schema_fj.specs.States.{StateHolds}
use Rattle.schema_fj.specs.Told.{creates}
use Rattle.schema_fj.proofs.StateJoin.{so_far_start, so_far_more}
use Rattle.schema_fj.proofs.state.State.create_all.Goals as goal

pub loop-created-init : goal.loop-created-init
loop-created-init c schema base delta h new = so_far_start schema c.args.self.now base delta c.args.list.now h new

pub loop-created-preserved : goal.loop-created-preserved
loop-created-preserved c schema base delta h new =
    let i = c.loop-created.created-index in
    let xs = c.args.list.now in
    let it : Created = c.created-item.result in
    let more : take (i + 1) xs ≡ take i xs ++ it ∷ [] = take_more xs i it c.loop-created-test.true ∙ ap (λ (x : Created). take i xs ++ x ∷ []) (sym c.created-item.is) in
    let first : drop i xs ≡ it ∷ drop (i + 1) xs = rw add-one (drop-cons xs i it c.loop-created-test.true ∙ ap (λ (x : Created). x ∷ drop (suc i) xs) (sym c.created-item.is)) in
    so_far_more schema c.loop-created.self c.create.new.self base delta (take i xs) (take (i + 1) xs) (drop i xs) (drop (i + 1) xs) it more first
    (c.in_ok-create.ensures.ok schema) (c.loop-created.invariant schema base delta h new)

pub returns : goal.returns
returns c schema base delta h new =
    subst (λ (l : List Created). StateHolds schema c.loop-created.self base (delta ++ creates l)) (take_all c.loop-created.created-index c.args.list.now c.loop-created-test.false)
    (c.loop-created.invariant schema base delta h new).holds
