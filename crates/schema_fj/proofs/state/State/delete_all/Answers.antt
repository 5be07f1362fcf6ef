use Rattle.std.proofs.Common.{◌≡◌, ◌+◌, ◌∷◌, [], ◌++◌, List, sym, ◌∙◌, ap, subst, take}
use Rattle.std.proofs.lemmas.List.{take_more, take_all, append-nil}
use Rattle.cloud_base.specs.Values.{Id}
use Rattle.schema_fj.specs.States.{StateHolds}
use Rattle.schema_fj.specs.Told.{deletes}
use Rattle.schema_fj.proofs.StateJoin.{deleted_more}
use Rattle.schema_fj.proofs.state.State.delete_all.Goals as goal

pub loop-id-init : goal.loop-id-init
loop-id-init c schema base delta h = subst (StateHolds schema c.args.self.now base) (sym (append-nil delta)) h

pub loop-id-preserved : goal.loop-id-preserved
loop-id-preserved c schema base delta h =
    let i = c.loop-id.id-index in
    let xs = c.args.ids.now in
    let it : Id = c.id-item.result in
    let more : take (i + 1) xs ≡ take i xs ++ it ∷ [] = take_more xs i it c.loop-id-test.true ∙ ap (λ (x : Id). take i xs ++ x ∷ []) (sym c.id-item.is) in
    deleted_more schema c.delete.new.self base delta (take i xs) (take (i + 1) xs) it more (c.in_ok-delete.ensures.ok schema base (delta ++ deletes (take i xs)) (c.loop-id.invariant schema base delta h))

pub returns : goal.returns
returns c schema base delta h =
    subst (λ (l : List Id). StateHolds schema c.loop-id.self base (delta ++ deletes l)) (take_all c.loop-id.id-index c.args.ids.now c.loop-id-test.false) (c.loop-id.invariant schema base delta h)
