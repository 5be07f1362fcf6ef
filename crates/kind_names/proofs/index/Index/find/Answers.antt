use Rattle.std.proofs.Common.{◌≡◌, ℕ, ◌<◌, ◌≤◌, true, false, List, length, Some, sym, ap, subst, ◌∙◌, arith}
use Rattle.std.specs.List.{HoldsAt}
use Rattle.kind_names.specs.Keys.{named}
use Rattle.kind_names.specs.Indexes.{is_at}
use Rattle.kind_names.proofs.Searched.{found, missed}
use Rattle.kind_names.proofs.index.Index.find.Goals as goal

pub returns-in_err-number : goal.returns-in_err-number
returns-in_err-number g c =
    let same : c.as_slice.result.now ≡ c.args.self.now = cc in
    let end = subst (λ (xs : List ℕ). length xs ≤ c.place_of-place.result) same c.in_err-number.ensures.lookup.3 in
    c.from_residual.ensures ∙ sym (missed g.T.Keyed.seen c.args.items.now (named c.args.key) c.args.self.now c.requires c.place_of-place.result c.place_of-place.ensures (λ lt. absurd (omega (arith, lt, end))))

pub returns-then-is_found : goal.returns-then-is_found
returns-then-is_found g c =
    let same : c.as_slice.result.now ≡ c.args.self.now = cc in
    let there = subst (λ (xs : List ℕ). (c.place_of-place.result < length xs) × HoldsAt (λ y. c.in_ok-number.field-0.now ≡ y) xs c.place_of-place.result) same c.in_ok-number.ensures.lookup.3 in
    let hit = subst (λ n. is_at g.T.Keyed.seen c.args.items.now (named c.args.key) n ≡ true) (there.1 0) (sym c.if-is_found.ensures) in
    ap Some (there.1 0) ∙ sym (found g.T.Keyed.seen c.args.items.now (named c.args.key) c.args.self.now c.requires c.place_of-place.result c.place_of-place.ensures there.0 hit)

pub returns-else-is_found : goal.returns-else-is_found
returns-else-is_found g c =
    let same : c.as_slice.result.now ≡ c.args.self.now = cc in
    let there = subst (λ (xs : List ℕ). (c.place_of-place.result < length xs) × HoldsAt (λ y. c.in_ok-number.field-0.now ≡ y) xs c.place_of-place.result) same c.in_ok-number.ensures.lookup.3 in
    let miss = subst (λ n. is_at g.T.Keyed.seen c.args.items.now (named c.args.key) n ≡ false) (there.1 0) (sym c.if-is_found.ensures) in
    sym (missed g.T.Keyed.seen c.args.items.now (named c.args.key) c.args.self.now c.requires c.place_of-place.result c.place_of-place.ensures (λ lt. miss))
