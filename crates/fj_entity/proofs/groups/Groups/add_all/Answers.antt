use Rattle.std.proofs.Common.{◌≡◌, ◌+◌, [], ◌∷◌, ◌++◌, List, sym, ◌∙◌, ap, subst, take}
use Rattle.std.proofs.lemmas.List.{take_more, take_all}
use Rattle.cloud_base.specs.declared.key.Key.{Key}
use Rattle.fj_entity.proofs.GroupLemmas.{InAll, in_more, in_entity}
use Rattle.fj_entity.proofs.groups.Groups.add_all.Goals as goal

pub loop-key-init : goal.loop-key-init
loop-key-init c = record {
  keeps = c.add.ensures.keeps;
  adds = in_entity c.add.new.self c.args.id c.args.entity c.in_ok-add.ensures.adds;
}

pub loop-key-preserved : goal.loop-key-preserved
loop-key-preserved c =
    let i = c.loop-key.key-index in
    let xs = c.as_slice-key-items.result.now in
    let more : take (i + 1) xs ≡ take i xs ++ c.key-item.result ∷ [] = take_more xs i c.key-item.result c.loop-key-test.true ∙ ap (λ (key : Key). take i xs ++ key ∷ []) (sym c.key-item.is) in
    record {
      keeps = λ m h. c.add_at.ensures.keeps m (c.loop-key.invariant.keeps m h);
      adds = subst (λ (l : List Key). InAll c.add_at.new.self c.args.id c.args.entity (take (i + 1) l)) c.as_slice-key-items.ensures.keys
          (subst (InAll c.add_at.new.self c.args.id c.args.entity) (sym more)
          (in_more c.loop-key.self c.add_at.new.self c.args.id c.args.entity (take i xs) c.key-item.result c.add_at.ensures.keeps c.in_ok-add_at.ensures.adds
          (subst (λ (l : List Key). InAll c.loop-key.self c.args.id c.args.entity (take i l)) (sym c.as_slice-key-items.ensures.keys) c.loop-key.invariant.adds)));
    }

pub returns-clause-adds : goal.returns-clause-adds
returns-clause-adds c =
    let i = c.loop-key.key-index in
    let xs = c.as_slice-key-items.result.now in
    subst (InAll c.loop-key.self c.args.id c.args.entity) (take_all i xs c.loop-key-test.false ∙ c.as_slice-key-items.ensures.keys)
    (subst (λ (l : List Key). InAll c.loop-key.self c.args.id c.args.entity (take i l)) (sym c.as_slice-key-items.ensures.keys) c.loop-key.invariant.adds)

pub returns-in_err-add_at-clause-keeps : goal.returns-in_err-add_at-clause-keeps
returns-in_err-add_at-clause-keeps c m h = c.add_at.ensures.keeps m (c.loop-key.invariant.keeps m h)
