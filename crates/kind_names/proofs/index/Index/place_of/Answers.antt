use Rattle.std.proofs.Common.{◌≡◌, true, false, subst, rules}
use Rattle.std.specs.List.Sorted.{IsPartitionPoint}
use Rattle.std.proofs.lemmas.List.Sorted.{IsPartitionPoint-from_clause}
use Rattle.kind_names.specs.Keys.{named}
use Rattle.kind_names.specs.Indexes.{is_before, Indexes}
use Rattle.kind_names.proofs.Searched.{parted}
use Rattle.kind_names.proofs.index.Index.place_of.Goals as goal

pub returns : goal.returns
returns g c =
    let same : c.args.self.now ≡ c.as_slice.result.now = cc in
    let back : c.as_slice.result.now ≡ c.args.self.now = cc in
    let index = subst (Indexes g.T.Keyed.seen c.args.items.now) same c.requires in
    let split = parted g.T.Keyed.seen c.args.items.now (named c.args.key) c.as_slice.result.now index in
    subst (λ xs. IsPartitionPoint (λ n. is_before g.T.Keyed.seen c.args.items.now (named c.args.key) n ≡ true) (λ n. is_before g.T.Keyed.seen c.args.items.now (named c.args.key) n ≡ false) xs c.partition_point.result) back
    (IsPartitionPoint-from_clause (is_before g.T.Keyed.seen c.args.items.now (named c.args.key)) _ _ c.partition_point.ensures.partitioned split (λ a r q k. search rules))
