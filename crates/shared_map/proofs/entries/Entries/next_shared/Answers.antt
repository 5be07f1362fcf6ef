use Rattle.std.proofs.Common.{◌≡◌, ◌∷◌, sym, ◌∙◌, ap, subst, ◌+◌, ◌≤◌, ℕ, ◌<◌, get_or}
use Rattle.std.specs.Arc.{arc_value}
use Rattle.std.proofs.lemmas.List.{length-map}
use Rattle.shared_map.specs.Shelves.{pointed, to_walk}
use Rattle.shared_map.proofs.WalkLemmas.{walk_skipped, walk_over, walk_own, walk_shelf, walk_less, walk_equal, walk_greater}
use Rattle.shared_map.proofs.entries.Entries.next_shared.Goals as goal

pub returns-in-None-None : goal.returns-in-None-None
returns-in-None-None g c =
    let own = pointed c.self.inside.own.now in
    let shelf = pointed c.self.inside.shelf.now in
    let gone = c.self.inside.gone.now in
    let i = c.self.inside.own_at in
    let j = c.first_unflagged-self-inside.result in
    let o = g.met.K.Ord.total in
    let held = c.self.invariant.shelved in
    let first = c.first_unflagged-self-inside.ensures in
    let start : c.args.self.now ≡ to_walk g.K.Ord.cmp own shelf gone i j =
    sym c.self.view_is ∙ walk_skipped o own shelf gone i c.self.inside.shelf_at j held.flags first.within.0
    (subst (λ (n : ℕ). j ≤ n) (sym (length-map c.self.inside.shelf.now arc_value)) first.within.1) first.set in
    let over = walk_over o own shelf gone i j c.in-None-None.ensures c.in-None-None.ensures' in
    (start ∙ over, over)

pub returns-in-Some-None : goal.returns-in-Some-None
returns-in-Some-None g c =
    let own = pointed c.self.inside.own.now in
    let shelf = pointed c.self.inside.shelf.now in
    let gone = c.self.inside.gone.now in
    let i = c.self.inside.own_at in
    let j = c.first_unflagged-self-inside.result in
    let o = g.met.K.Ord.total in
    let held = c.self.invariant.shelved in
    let first = c.first_unflagged-self-inside.ensures in
    let start : c.args.self.now ≡ to_walk g.K.Ord.cmp own shelf gone i j =
    sym c.self.view_is ∙ walk_skipped o own shelf gone i c.self.inside.shelf_at j held.flags first.within.0
    (subst (λ (n : ℕ). j ≤ n) (sym (length-map c.self.inside.shelf.now arc_value)) first.within.1) first.set in
    let e : g.row.K.Denot × g.row.V.Denot = arc_value c.in-Some-None.mine.now in
    start ∙ walk_own o own shelf gone i j e held.own_sorted c.in-Some-None.ensures.0 c.in-Some-None.ensures'
    ∙ ap (λ (x : g.row.K.Denot × g.row.V.Denot). x ∷ to_walk g.K.Ord.cmp own shelf gone (i + 1) j) c.in-Some-None.ensures.1

pub returns-in-None-Some : goal.returns-in-None-Some
returns-in-None-Some g c =
    let own = pointed c.self.inside.own.now in
    let shelf = pointed c.self.inside.shelf.now in
    let gone = c.self.inside.gone.now in
    let i = c.self.inside.own_at in
    let j = c.first_unflagged-self-inside.result in
    let o = g.met.K.Ord.total in
    let held = c.self.invariant.shelved in
    let first = c.first_unflagged-self-inside.ensures in
    let start : c.args.self.now ≡ to_walk g.K.Ord.cmp own shelf gone i j =
    sym c.self.view_is ∙ walk_skipped o own shelf gone i c.self.inside.shelf_at j held.flags first.within.0
    (subst (λ (n : ℕ). j ≤ n) (sym (length-map c.self.inside.shelf.now arc_value)) first.within.1) first.set in
    let e : g.row.K.Denot × g.row.V.Denot = arc_value c.in-None-Some.kept.now in
    start ∙ walk_shelf o own shelf gone i j e held.flags c.in-None-Some.ensures c.in-None-Some.ensures'.0 (first.unset (subst (λ (n : ℕ). j < n) (length-map c.self.inside.shelf.now arc_value) c.in-None-Some.ensures'.0))
    ∙ ap (λ (x : g.row.K.Denot × g.row.V.Denot). x ∷ to_walk g.K.Ord.cmp own shelf gone i (j + 1)) c.in-None-Some.ensures'.1

pub returns-in-Less : goal.returns-in-Less
returns-in-Less g c =
    let own = pointed c.self.inside.own.now in
    let shelf = pointed c.self.inside.shelf.now in
    let gone = c.self.inside.gone.now in
    let i = c.self.inside.own_at in
    let j = c.first_unflagged-self-inside.result in
    let o = g.met.K.Ord.total in
    let held = c.self.invariant.shelved in
    let first = c.first_unflagged-self-inside.ensures in
    let start : c.args.self.now ≡ to_walk g.K.Ord.cmp own shelf gone i j =
    sym c.self.view_is ∙ walk_skipped o own shelf gone i c.self.inside.shelf_at j held.flags first.within.0
    (subst (λ (n : ℕ). j ≤ n) (sym (length-map c.self.inside.shelf.now arc_value)) first.within.1) first.set in
    let e : g.row.K.Denot × g.row.V.Denot = arc_value c.in-Some-Some.mine.now in
    let f : g.row.K.Denot × g.row.V.Denot = arc_value c.in-Some-Some.kept.now in
    let mine = c.in-Some-Some.ensures in
    let kept = c.in-Some-Some.ensures' in
    let is = ap (λ (x : g.row.K.Denot × g.row.V.Denot). g.K.Ord.cmp x.0 (get_or shelf j f).0) mine.1 ∙ ap (λ (x : g.row.K.Denot × g.row.V.Denot). g.K.Ord.cmp e.0 x.0) kept.1
    ∙ sym (c.cmp.ensures ∙ ap (λ (x : g.row.K.Denot × g.row.V.Denot). g.K.Ord.cmp x.0 c.deref-in-Some-Some.result.now.0) c.deref.ensures ∙ ap (λ (x : g.row.K.Denot × g.row.V.Denot). g.K.Ord.cmp e.0 x.0) c.deref-in-Some-Some.ensures) ∙ c.in-Less.is in
    start ∙ walk_less o own shelf gone i j e f held.own_sorted held.shelf_sorted held.flags mine.0 kept.0 (first.unset (subst (λ (n : ℕ). j < n) (length-map c.self.inside.shelf.now arc_value) kept.0)) is
    ∙ ap (λ (x : g.row.K.Denot × g.row.V.Denot). x ∷ to_walk g.K.Ord.cmp own shelf gone (i + 1) j) mine.1

pub returns-in-Equal : goal.returns-in-Equal
returns-in-Equal g c =
    let own = pointed c.self.inside.own.now in
    let shelf = pointed c.self.inside.shelf.now in
    let gone = c.self.inside.gone.now in
    let i = c.self.inside.own_at in
    let j = c.first_unflagged-self-inside.result in
    let o = g.met.K.Ord.total in
    let held = c.self.invariant.shelved in
    let first = c.first_unflagged-self-inside.ensures in
    let start : c.args.self.now ≡ to_walk g.K.Ord.cmp own shelf gone i j =
    sym c.self.view_is ∙ walk_skipped o own shelf gone i c.self.inside.shelf_at j held.flags first.within.0
    (subst (λ (n : ℕ). j ≤ n) (sym (length-map c.self.inside.shelf.now arc_value)) first.within.1) first.set in
    let e : g.row.K.Denot × g.row.V.Denot = arc_value c.in-Some-Some.mine.now in
    let f : g.row.K.Denot × g.row.V.Denot = arc_value c.in-Some-Some.kept.now in
    let mine = c.in-Some-Some.ensures in
    let kept = c.in-Some-Some.ensures' in
    let is = ap (λ (x : g.row.K.Denot × g.row.V.Denot). g.K.Ord.cmp x.0 (get_or shelf j f).0) mine.1 ∙ ap (λ (x : g.row.K.Denot × g.row.V.Denot). g.K.Ord.cmp e.0 x.0) kept.1
    ∙ sym (c.cmp.ensures ∙ ap (λ (x : g.row.K.Denot × g.row.V.Denot). g.K.Ord.cmp x.0 c.deref-in-Some-Some.result.now.0) c.deref.ensures ∙ ap (λ (x : g.row.K.Denot × g.row.V.Denot). g.K.Ord.cmp e.0 x.0) c.deref-in-Some-Some.ensures) ∙ c.in-Equal.is in
    start ∙ walk_equal o own shelf gone i j e f held.own_sorted held.shelf_sorted held.flags mine.0 kept.0 (first.unset (subst (λ (n : ℕ). j < n) (length-map c.self.inside.shelf.now arc_value) kept.0)) is
    ∙ ap (λ (x : g.row.K.Denot × g.row.V.Denot). x ∷ to_walk g.K.Ord.cmp own shelf gone (i + 1) (j + 1)) mine.1

pub returns-in-Greater : goal.returns-in-Greater
returns-in-Greater g c =
    let own = pointed c.self.inside.own.now in
    let shelf = pointed c.self.inside.shelf.now in
    let gone = c.self.inside.gone.now in
    let i = c.self.inside.own_at in
    let j = c.first_unflagged-self-inside.result in
    let o = g.met.K.Ord.total in
    let held = c.self.invariant.shelved in
    let first = c.first_unflagged-self-inside.ensures in
    let start : c.args.self.now ≡ to_walk g.K.Ord.cmp own shelf gone i j =
    sym c.self.view_is ∙ walk_skipped o own shelf gone i c.self.inside.shelf_at j held.flags first.within.0
    (subst (λ (n : ℕ). j ≤ n) (sym (length-map c.self.inside.shelf.now arc_value)) first.within.1) first.set in
    let e : g.row.K.Denot × g.row.V.Denot = arc_value c.in-Some-Some.mine.now in
    let f : g.row.K.Denot × g.row.V.Denot = arc_value c.in-Some-Some.kept.now in
    let mine = c.in-Some-Some.ensures in
    let kept = c.in-Some-Some.ensures' in
    let is = ap (λ (x : g.row.K.Denot × g.row.V.Denot). g.K.Ord.cmp x.0 (get_or shelf j f).0) mine.1 ∙ ap (λ (x : g.row.K.Denot × g.row.V.Denot). g.K.Ord.cmp e.0 x.0) kept.1
    ∙ sym (c.cmp.ensures ∙ ap (λ (x : g.row.K.Denot × g.row.V.Denot). g.K.Ord.cmp x.0 c.deref-in-Some-Some.result.now.0) c.deref.ensures ∙ ap (λ (x : g.row.K.Denot × g.row.V.Denot). g.K.Ord.cmp e.0 x.0) c.deref-in-Some-Some.ensures) ∙ c.in-Greater.is in
    start ∙ walk_greater o own shelf gone i j e f held.own_sorted held.shelf_sorted held.flags mine.0 kept.0 (first.unset (subst (λ (n : ℕ). j < n) (length-map c.self.inside.shelf.now arc_value) kept.0)) is
    ∙ ap (λ (x : g.row.K.Denot × g.row.V.Denot). x ∷ to_walk g.K.Ord.cmp own shelf gone i (j + 1)) kept.1
