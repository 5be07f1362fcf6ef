use Rattle.std.proofs.Common.{◌≡◌, ◌+◌, ◌∷◌, [], ◌++◌, List, sym, ◌∙◌, ap, subst, take}
use Rattle.std.proofs.lemmas.List.{take_more, take_all}
use Rattle.cloud_base.specs.Values.{Id}
use Rattle.fj_entity.specs.Fates.{fate_at, buried, is_among}
use Rattle.fj_entity.proofs.RosterLemmas.{bury_more}
use Rattle.fj_entity.proofs.roster.Roster.bury_all.Goals as goal

pub loop-id-preserved : goal.loop-id-preserved
loop-id-preserved c =
    let i = c.loop-id.id-index in
    let xs = c.args.ids.now in
    let more : take (i + 1) xs ≡ take i xs ++ c.id-item.result ∷ [] = take_more xs i c.id-item.result c.loop-id-test.true ∙ ap (λ (x : Id). take i xs ++ x ∷ []) (sym c.id-item.is) in
    subst (λ (l : List Id). (x : Id) → fate_at c.bury.new.self x ≡ buried (is_among x l) (fate_at c.args.self.now x)) (sym more)
    (bury_more (take i xs) c.id-item.result c.args.self.now c.loop-id.self c.bury.new.self c.loop-id.invariant c.bury.ensures)

pub returns : goal.returns
returns c =
    subst (λ (l : List Id). (x : Id) → fate_at c.loop-id.self x ≡ buried (is_among x l) (fate_at c.args.self.now x)) (take_all c.loop-id.id-index c.args.ids.now c.loop-id-test.false) c.loop-id.invariant
