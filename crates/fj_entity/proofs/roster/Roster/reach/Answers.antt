use Rattle.std.proofs.Common.{◌≡◌, ◌+◌, [], ◌∷◌, ◌++◌, List, sym, ◌∙◌, ap, subst, take}
use Rattle.std.specs.Prelude.{Contains}
use Rattle.std.proofs.lemmas.List.{take_more, take_all}
use Rattle.cloud_base.specs.Values.{Id}
use Rattle.cloud_base.proofs.SortedLemmas.{none_in}
use Rattle.fj_entity.specs.Fates.{Fate}
use Rattle.fj_entity.specs.Walks.{IsChild, Reaches}
use Rattle.fj_entity.proofs.KeptLemmas.{child_listed}
use Rattle.fj_entity.proofs.WalkLemmas.{reach_start, reach_more, seen_more, reach_all}
use Rattle.fj_entity.proofs.roster.Roster.reach.Goals as goal

pub loop-child-init : goal.loop-child-init
loop-child-init c = reach_start c.args.self.now c.args.id (Contains []) c.args.dying.now.keys c.args.pending.now.items none_in

pub loop-child-preserved : goal.loop-child-preserved
loop-child-preserved c =
    let i = c.loop-child.child-index in
    let xs = c.as_slice-child-items.result.now in
    let more : take (i + 1) xs ≡ take i xs ++ c.child-item.result ∷ [] = take_more xs i c.child-item.result c.loop-child-test.true ∙ ap (λ (x : Id). take i xs ++ x ∷ []) (sym c.child-item.is) in
    reach_more c.args.self.now c.args.id (Contains (take i xs)) (λ x. c.child-item.result ≡ x) (Contains (take (i + 1) xs)) c.args.dying.now.keys c.args.pending.now.items
    c.loop-child.dying.keys c.loop-child.pending.items c.reach_one.new.dying.keys c.reach_one.new.pending.items
    (λ x m. seen_more (take i xs) c.child-item.result x (subst (λ (l : List Id). Contains l x) more m))
    c.loop-child.invariant c.in_ok-reach_one.ensures

pub returns : goal.returns
returns c =
    let i = c.loop-child.child-index in
    let xs = c.as_slice-child-items.result.now in
    let r = c.self.inside in
    reach_all c.args.self.now c.args.id c.in_ok-listed.listed c.args.dying.now.keys c.args.pending.now.items c.loop-child.dying.keys c.loop-child.pending.items
    (subst (λ (l : List (Id × Fate)). (x : Id) → IsChild l c.args.id x → Contains c.in_ok-listed.listed x) c.self.view_is
    (child_listed r.known r.births r.groups c.self.invariant c.args.id c.in_ok-listed.listed c.in_ok-listed.ensures.every))
    (subst (λ (l : List Id). Reaches c.args.self.now c.args.id (Contains l) c.args.dying.now.keys c.args.pending.now.items c.loop-child.dying.keys c.loop-child.pending.items)
    (take_all i xs c.loop-child-test.false ∙ c.as_slice-child-items.ensures) c.loop-child.invariant)
