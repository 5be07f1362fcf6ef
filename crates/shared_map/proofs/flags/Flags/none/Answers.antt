use Rattle.std.proofs.Common.{◌≡◌, sym, subst, get_or}
use Rattle.shared_map.proofs.FlagLemmas.{none_set, zeros_at}
use Rattle.shared_map.proofs.flags.Flags.none.Goals as goal

pub returns : goal.returns
returns c =
    none_set c.in_ok-vec.field-0.items c.args.count (λ k.
    subst (λ words. get_or words k 0 ≡ 0) (sym (c.in_ok-vec.ensures.items_if_clones_equal (λ y e. e))) (zeros_at c.div_ceil.result k))
