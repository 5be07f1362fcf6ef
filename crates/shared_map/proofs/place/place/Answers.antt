use Rattle.std.proofs.Common.{rules}
use Rattle.std.proofs.lemmas.Fn.{always_returns_same}
use Rattle.shared_map.proofs.PlaceLemmas.{key_at, placed}
use Rattle.shared_map.proofs.place.place.Goals as goal

pub returns : goal.returns
returns g c =
    placed g.met.K.Ord.total c.args.entries.now c.args.key.now c.binary_search_by.result c.requires c.binary_search_by.ensures.bound
    (c.binary_search_by.ensures.position (λ p. g.K.Ord.cmp (key_at p) c.args.key.now) (always_returns_same _ _ _ (λ a r h called. search rules)))
