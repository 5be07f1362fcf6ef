-- Laws of the touched cells of a grid, and of a walk over them.
use Rattle.std.proofs.Common.{◌≡◌, Bool, true, false, cond, List, [], ◌∷◌, ◌++◌, refl, sym, ◌∙◌, ap, subst, append-nil}
use Rattle.std.specs.Prelude.{Option, Some, None, MatchOption, not, Result}
use Rattle.std.specs.Result.{OnOk}
use Rattle.std.specs.Option.{unwrap_or}
use Rattle.std.specs.List.{filter}
use Rattle.std.specs.List.Sorted.{IsStrictlySortedBy}
use Rattle.std.specs.Map.{lookup, keys_of}
use Rattle.std.specs.BTreeMap.{is_at}
use Rattle.std.specs.Ordering.{is_eq, is_lt}
use Rattle.std.specs.Cmp.{IsTotalOrder, eq_by_cmp_equiv}
use Rattle.cloud_base.specs.Values.{Id}
use Rattle.fj_core.specs.declared.effect.Effect.{Effect}
use Rattle.shared_map.specs.Entries.{Updates}
use Rattle.fj_array.specs.declared.cell.Cell.{Cell}
use Rattle.fj_array.specs.declared.effect.CellEffect.{CellEffect}
use Rattle.fj_array.specs.Cells.{cell_order, same_cell, At, of_cell, has_id}
use Rattle.fj_array.specs.Effects.{cell_of, effect_order}
use Rattle.fj_array.specs.Grids.{kept_at, IsIdle, CellStands, GridStands, Puts}
use Rattle.fj_array.specs.Touched.{IsUntouched, IsTold, IsHolder, HasNone}
use Rattle.fj_array.proofs.CellLemmas.{IsLawful, nothing_done, nothing_more, same_effect, idle_forks, stands_idle}
use Rattle.fj_array.proofs.GridLemmas.{Apart, by_cases, same_itself, when_some, Forks, Joins}
use Rattle.fj_array.proofs.WalkLemmas.{Walked, Forked, Joined, walk_step, all_to_do}
use Rattle.fj_array.proofs.ListLemmas.{Listed, list_start, IsEffect}

none_some : {X : Type 0} {P : Type 0} (x : X) → None ≡ Some x → P
none_some x h = cc

module _ {S C T : Type 0} (effect_of : List C → Option Effect) (stands : S → List C → List C → Type 0) where
  -- one more is among the touched
  pub told_more : Apart → IsTotalOrder cell_order → (cells : List (Cell × S)) (touched touched' : List (Cell × T)) (cell : Cell) (u : T)
      → Updates cell_order touched touched' cell (Some u) → IsTold effect_of stands cells touched → IsTold effect_of stands cells touched'
  told_more apart o cells touched touched' cell u up told = record {
    untouched = λ q s some none. by_cases (same_cell cell q)
        (λ is. none_some u (sym none ∙ ap (λ (c : Cell). kept_at touched' c) (sym (apart cell q is)) ∙ up.here))
        (λ is. told.untouched q s some (sym (up.elsewhere q is) ∙ none));
  }

  -- a cell among the touched takes a state
  pub told_kept : Apart → (cells cells' : List (Cell × S)) (touched : List (Cell × T)) (cell : Cell) (s : S) (u : T) → kept_at touched cell ≡ Some u
      → Updates cell_order cells cells' cell (Some s) → IsTold effect_of stands cells touched → IsTold effect_of stands cells' touched
  told_kept apart cells cells' touched cell s u among up told = record {
    untouched = λ q t some none. by_cases (same_cell cell q)
        (λ is. none_some u (sym none ∙ ap (λ (c : Cell). kept_at touched c) (sym (apart cell q is)) ∙ among))
        (λ is. told.untouched q t (sym (up.elsewhere q is) ∙ some) none);
  }

  -- a cell takes an untouched state, and is no more among the touched
  pub told_untouched : Apart → (cells cells' : List (Cell × S)) (touched touched' : List (Cell × T)) (cell : Cell) (s : S) → IsUntouched effect_of stands s
      → Updates cell_order cells cells' cell (Some s) → Updates cell_order touched touched' cell None → IsTold effect_of stands cells touched → IsTold effect_of stands cells' touched'
  told_untouched apart cells cells' touched touched' cell s quiet up off told = record {
    untouched = λ q t some none. by_cases (same_cell cell q)
        (λ is.
        let found : Some s ≡ Some t = sym up.here ∙ ap (λ (c : Cell). kept_at cells' c) (apart cell q is) ∙ some in
        subst (λ (x : S). IsUntouched effect_of stands x) (ap (λ (x : Option S). unwrap_or x s) found) quiet)
        (λ is. told.untouched q t (sym (up.elsewhere q is) ∙ some) (sym (off.elsewhere q is) ∙ none));
  }

  -- a cell is dropped
  pub told_dropped : Apart → (cells cells' : List (Cell × S)) (touched : List (Cell × T)) (cell : Cell)
      → Updates cell_order cells cells' cell None → IsTold effect_of stands cells touched → IsTold effect_of stands cells' touched
  told_dropped apart cells cells' touched cell up told = record {
    untouched = λ q t some none. by_cases (same_cell cell q)
        (λ is. none_some t (sym up.here ∙ ap (λ (c : Cell). kept_at cells' c) (apart cell q is) ∙ some))
        (λ is. told.untouched q t (sym (up.elsewhere q is) ∙ some) none);
  }

-- to walk: two grids keep the same of a cell
abbrev pub Same : {S T : Type 0} → List (Cell × S) → List (Cell × S) → Cell → T → Type 0
Same old new q u = kept_at new q ≡ kept_at old q

module _ {S C V : Type 0} (plain : List C → V) (effect_of : List C → Option Effect) (stands : S → List C → List C → Type 0) where
  pub puts_idle : (cell : Cell) (state : S) (old new : List (Cell × S)) → Updates cell_order old new cell None
      → ((base delta : List C) → stands state base delta → IsIdle plain effect_of base delta) → Puts plain effect_of stands cell state old new
  puts_idle cell state old new up idle = record {
    here = λ base delta held. subst (λ (o : Option S). CellStands plain effect_of stands o base delta) (sym up.here) (idle base delta held);
    elsewhere = up.elsewhere;
  }

  pub puts_kept : (cell : Cell) (state : S) (old new : List (Cell × S)) → Updates cell_order old new cell (Some state)
      → ((base delta : List C) → stands state base delta → IsIdle plain effect_of base delta → ⊥) → Puts plain effect_of stands cell state old new
  puts_kept cell state old new up busy = record {
    here = λ base delta held. subst (λ (o : Option S). CellStands plain effect_of stands o base delta) (sym up.here) (held, busy base delta held);
    elsewhere = up.elsewhere;
  }

  module _ (laws : IsLawful plain effect_of stands) where
    -- an untouched cell forks into itself
    forks_untouched : (o : Option S) → ((s : S) → o ≡ Some s → IsUntouched effect_of stands s) → Forks plain effect_of stands o o
    forks_untouched None f base delta h = idle_forks laws base delta h
    forks_untouched (Some s) f base delta h =
        let nothing = f s refl base delta h.0 in
        let same = nothing_done laws base delta nothing in (
          laws.by_effect s base delta (base ++ delta) [] (sym same) (nothing ∙ sym laws.effect_empty) h.0,
          λ (idle : IsIdle plain effect_of (base ++ delta) []). h.1 (ap plain (sym (append-nil (base ++ delta))) ∙ idle.0, nothing),
        )

    -- an untouched cell of a child changes nothing
    joins_untouched : (o child : Option S) → ((s : S) → child ≡ Some s → IsUntouched effect_of stands s) → Joins plain effect_of stands o child o
    joins_untouched o None f base delta before after h k = stands_idle laws o base delta before after h k
    joins_untouched None (Some s) f base delta before after h k =
        let nothing = f s refl before after k.0 in
        (same_effect laws base (delta ++ after) delta (nothing_more laws delta after nothing) ∙ h.0, nothing_more laws delta after nothing ∙ h.1)
    joins_untouched (Some t) (Some s) f base delta before after h k =
        let nothing = nothing_more laws delta after (f s refl before after k.0) in (
          laws.by_effect t base delta base (delta ++ after) refl (sym nothing) h.0,
          λ (now : IsIdle plain effect_of base (delta ++ after)). h.1 (sym (same_effect laws base (delta ++ after) delta nothing) ∙ now.0, sym nothing ∙ now.1),
        )

    module _ {T : Type 0} where
      -- ---- a fork, from a child that keeps the same
      pub fork_start : (parent child : List (Cell × S)) (touched : List (Cell × T)) → IsTold effect_of stands parent touched → IsStrictlySortedBy cell_order (keys_of touched)
          → ((q : Cell) → kept_at child q ≡ kept_at parent q) → Walked touched (Same parent child) (Forked plain effect_of stands parent child)
      fork_start parent child touched told sorted same = (
        sorted,
        λ (q : Cell). all_to_do touched q (Forked plain effect_of stands parent child q) (Same parent child q)
            (λ none. subst (λ (x : Option S). Forks plain effect_of stands (kept_at parent q) x) (sym (same q))
            (forks_untouched (kept_at parent q) (λ s some. told.untouched q s some none)))
            (λ u some. same q),
      )

      pub fork_step : Apart → IsTotalOrder cell_order → (parent child child' : List (Cell × S)) (k : Cell) (u : T) (s made : S) (rest : List (Cell × T)) → kept_at parent k ≡ Some s
          → Puts plain effect_of stands k made child child' → ((base delta : List C) → stands s base delta → stands made (base ++ delta) [])
          → Walked ((k, u) ∷ rest) (Same parent child) (Forked plain effect_of stands parent child) → Walked rest (Same parent child') (Forked plain effect_of stands parent child')
      fork_step apart o parent child child' k u s made rest some puts forks =
          walk_step apart o k u rest (Same parent child) (Same parent child') (Forked plain effect_of stands parent child) (Forked plain effect_of stands parent child')
          (λ t base delta held. puts.here (base ++ delta) [] (forks base delta (when_some plain effect_of stands (kept_at parent k) s base delta (sym some) held).0))
          (λ q t is h. puts.elsewhere q is ∙ h)
          (λ q is h. subst (λ (x : Option S). Forks plain effect_of stands (kept_at parent q) x) (sym (puts.elsewhere q is)) h)

      -- a touched cell that isn't kept
      pub fork_pass : Apart → IsTotalOrder cell_order → (parent child : List (Cell × S)) (k : Cell) (u : T) (rest : List (Cell × T)) → kept_at parent k ≡ None
          → Walked ((k, u) ∷ rest) (Same parent child) (Forked plain effect_of stands parent child) → Walked rest (Same parent child) (Forked plain effect_of stands parent child)
      fork_pass apart o parent child k u rest none =
          walk_step apart o k u rest (Same parent child) (Same parent child) (Forked plain effect_of stands parent child) (Forked plain effect_of stands parent child)
          (λ t. subst (λ (x : Option S). Forks plain effect_of stands (kept_at parent k) x) (sym t)
          (forks_untouched (kept_at parent k) (λ s some. none_some s (sym none ∙ some))))
          (λ q t is h. h) (λ q is h. h)

      -- ---- a join, from a grid that keeps the same
      pub join_start : (old child new : List (Cell × S)) (touched : List (Cell × T)) → IsTold effect_of stands child touched → IsStrictlySortedBy cell_order (keys_of touched)
          → ((q : Cell) → kept_at new q ≡ kept_at old q) → Walked touched (Same old new) (Joined plain effect_of stands old child new)
      join_start old child new touched told sorted same = (
        sorted,
        λ (q : Cell). all_to_do touched q (Joined plain effect_of stands old child new q) (Same old new q)
            (λ none. subst (λ (x : Option S). Joins plain effect_of stands (kept_at old q) (kept_at child q) x) (sym (same q))
            (joins_untouched (kept_at old q) (kept_at child q) (λ s some. told.untouched q s some none)))
            (λ u some. same q),
      )

      pub join_step : Apart → IsTotalOrder cell_order → (old child new new' : List (Cell × S)) (k : Cell) (u : T) (s made : S) (rest : List (Cell × T)) → kept_at child k ≡ Some s
          → Puts plain effect_of stands k made new new'
          → ((base delta before after : List C) → CellStands plain effect_of stands (kept_at new k) base delta → stands s before after → stands made base (delta ++ after))
          → Walked ((k, u) ∷ rest) (Same old new) (Joined plain effect_of stands old child new) → Walked rest (Same old new') (Joined plain effect_of stands old child new')
      join_step apart o old child new new' k u s made rest some puts joins =
          walk_step apart o k u rest (Same old new) (Same old new') (Joined plain effect_of stands old child new) (Joined plain effect_of stands old child new')
          (λ t base delta before after held theirs. puts.here base (delta ++ after) (joins base delta before after
          (subst (λ (x : Option S). CellStands plain effect_of stands x base delta) (sym t) held)
          (when_some plain effect_of stands (kept_at child k) s before after (sym some) theirs).0))
          (λ q t is h. puts.elsewhere q is ∙ h)
          (λ q is h. subst (λ (x : Option S). Joins plain effect_of stands (kept_at old q) (kept_at child q) x) (sym (puts.elsewhere q is)) h)

      pub join_pass : Apart → IsTotalOrder cell_order → (old child new : List (Cell × S)) (k : Cell) (u : T) (rest : List (Cell × T)) → kept_at child k ≡ None
          → Walked ((k, u) ∷ rest) (Same old new) (Joined plain effect_of stands old child new) → Walked rest (Same old new) (Joined plain effect_of stands old child new)
      join_pass apart o old child new k u rest none =
          walk_step apart o k u rest (Same old new) (Same old new) (Joined plain effect_of stands old child new) (Joined plain effect_of stands old child new)
          (λ t. subst (λ (x : Option S). Joins plain effect_of stands (kept_at old k) (kept_at child k) x) (sym t)
          (joins_untouched (kept_at old k) (kept_at child k) (λ s some. none_some s (sym none ∙ some))))
          (λ q t is h. h) (λ q is h. h)

  quiet : (o : Option S) → ((s : S) → o ≡ Some s → IsUntouched effect_of stands s) → (base delta : List C) → CellStands plain effect_of stands o base delta → effect_of delta ≡ None
  quiet None f base delta h = h.1
  quiet (Some s) f base delta h = f s refl base delta h.0

  -- a cell that isn't kept has no effect
  pub effect_unkept : (cells : List (Cell × S)) (base delta : List (At C)) (q : Cell) → kept_at cells q ≡ None → GridStands plain effect_of stands cells base delta
      → None ≡ effect_of (of_cell q delta)
  effect_unkept cells base delta q none h = sym (subst (λ (x : Option S). CellStands plain effect_of stands x (of_cell q base) (of_cell q delta)) none (h q)).1

  module _ {T : Type 0} where
    -- ---- the effects of the touched
    pub effects_start : (cells : List (Cell × S)) (touched : List (Cell × T)) (base delta : List (At C)) → IsTold effect_of stands cells touched
        → IsStrictlySortedBy cell_order (keys_of touched) → GridStands plain effect_of stands cells base delta → Listed effect_order cell_of (IsEffect effect_of delta) touched []
    effects_start cells touched base delta told sorted h =
        list_start effect_order cell_of (IsEffect effect_of delta) touched sorted
        (λ it is none.
        let q : Cell = cell_of it in
        none_some it.effect (sym (quiet (kept_at cells q) (λ s some. told.untouched q s some none) (of_cell q base) (of_cell q delta) (h q)) ∙ is))
