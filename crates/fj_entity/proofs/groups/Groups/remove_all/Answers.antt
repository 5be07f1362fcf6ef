use Rattle.std.proofs.Common.{◌≡◌, ◌+◌, [], ◌∷◌, ◌++◌, List, sym, ◌∙◌, ap, subst, take}
use Rattle.std.proofs.lemmas.List.{take_more, take_all}
use Rattle.cloud_base.specs.declared.key.Key.{Key}
use Rattle.fj_entity.proofs.GroupLemmas.{OutOfAll, out_more, out_entity}
use Rattle.fj_entity.proofs.groups.Groups.remove_all.Goals as goal

pub loop-key-init : goal.loop-key-init
loop-key-init c = record {
  keeps = c.remove.ensures.keeps;
  leaves = out_entity c.remove.new.self c.args.id c.args.entity c.remove.ensures.leaves;
}

pub loop-key-preserved : goal.loop-key-preserved
loop-key-preserved c =
    let i = c.loop-key.key-index in
    let xs = c.as_slice-key-items.result.now in
    let more : take (i + 1) xs ≡ take i xs ++ c.key-item.result ∷ [] = take_more xs i c.key-item.result c.loop-key-test.true ∙ ap (λ (key : Key). take i xs ++ key ∷ []) (sym c.key-item.is) in
    record {
      keeps = λ m other h. c.remove_at.ensures.keeps m other (c.loop-key.invariant.keeps m other h);
      leaves = subst (λ (l : List Key). OutOfAll c.remove_at.new.self c.args.id c.args.entity (take (i + 1) l)) c.as_slice-key-items.ensures.keys
          (subst (OutOfAll c.remove_at.new.self c.args.id c.args.entity) (sym more)
          (out_more c.loop-key.self c.remove_at.new.self c.args.id c.args.entity (take i xs) c.key-item.result c.remove_at.ensures.fewer c.remove_at.ensures.leaves
          (subst (λ (l : List Key). OutOfAll c.loop-key.self c.args.id c.args.entity (take i l)) (sym c.as_slice-key-items.ensures.keys) c.loop-key.invariant.leaves)));
    }

pub returns-clause-leaves : goal.returns-clause-leaves
returns-clause-leaves c =
    let i = c.loop-key.key-index in
    let xs = c.as_slice-key-items.result.now in
    subst (OutOfAll c.loop-key.self c.args.id c.args.entity) (take_all i xs c.loop-key-test.false ∙ c.as_slice-key-items.ensures.keys)
    (subst (λ (l : List Key). OutOfAll c.loop-key.self c.args.id c.args.entity (take i l)) (sym c.as_slice-key-items.ensures.keys) c.loop-key.invariant.leaves)
