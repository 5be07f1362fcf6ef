-- A walk over the kept cells of a grid, in order.
use Rattle.std.proofs.Common.{◌≡◌, Bool, true, false, List, [], ◌∷◌, ◌++◌, cond, refl, sym, ◌∙◌, subst}
use Rattle.std.specs.Prelude.{Option, Some, None, MatchOption}
use Rattle.std.specs.List.Sorted.{IsStrictlySortedBy}
use Rattle.std.specs.Map.{lookup, keys_of}
use Rattle.std.specs.BTreeMap.{is_at}
use Rattle.std.specs.Cmp.{IsTotalOrder, eq_by_cmp_equiv}
use Rattle.std.proofs.lemmas.Map.{lookup-none}
use Rattle.std.proofs.lemmas.Map.Entries.{none_past_head}
use Rattle.std.proofs.lemmas.Map.Keys.{IsDistinct-from_sorted, sorted_tail}
use Rattle.fj_array.specs.declared.cell.Cell.{Cell}
use Rattle.fj_array.specs.Cells.{cell_order, same_cell}
use Rattle.fj_core.specs.declared.effect.Effect.{Effect}
use Rattle.fj_array.specs.Grids.{kept_at, CellStands, Puts}
use Rattle.fj_array.proofs.CellLemmas.{IsLawful, idle_forks, stands_idle}
use Rattle.fj_array.proofs.GridLemmas.{Apart, by_cases, same_itself, when_some, when_none, Forks, Joins}

-- what is left of the walk is in order, and each cell is either to do, with its state, or done
abbrev pub Walked : {S : Type 0} → List (Cell × S) → (Cell → S → Type 0) → (Cell → Type 0) → Type 0
Walked {S} rest Todo Done = IsStrictlySortedBy cell_order (keys_of rest) × ((q : Cell) → MatchOption (lookup (is_at (cell_order q)) rest) (Done q) (Todo q))

module _ {S : Type 0} where
  match_option : (o : Option S) (P P' : Type 0) (Q Q' : S → Type 0) → (P → P') → ((s : S) → Q s → Q' s) → MatchOption o P Q → MatchOption o P' Q'
  match_option None P P' Q Q' f g h = f h
  match_option (Some s) P P' Q Q' f g h = g s h

  pub walk_start : (rest : List (Cell × S)) (Todo : Cell → S → Type 0) (Done : Cell → Type 0) → IsStrictlySortedBy cell_order (keys_of rest)
      → ((q : Cell) → MatchOption (lookup (is_at (cell_order q)) rest) (Done q) (Todo q)) → Walked rest Todo Done
  walk_start rest Todo Done sorted h = (sorted, h)

  -- the first that is left is found by itself alone
  pub none_after : IsTotalOrder cell_order → (k : Cell) (s : S) (rest : List (Cell × S)) → IsStrictlySortedBy cell_order (keys_of ((k, s) ∷ rest))
      → (q : Cell) → same_cell q k ≡ true → lookup (is_at (cell_order q)) rest ≡ None
  none_after o k s rest sorted q is =
      lookup-none (is_at (cell_order q)) rest (none_past_head (eq_by_cmp_equiv o) q (k, s) rest (IsDistinct-from_sorted cell_order (keys_of ((k, s) ∷ rest)) sorted) is)

  pub walk_step : Apart → IsTotalOrder cell_order → (k : Cell) (s : S) (rest : List (Cell × S)) (Todo Todo' : Cell → S → Type 0) (Done Done' : Cell → Type 0)
      → (Todo k s → Done' k) → ((q : Cell) (t : S) → same_cell k q ≡ false → Todo q t → Todo' q t) → ((q : Cell) → same_cell k q ≡ false → Done q → Done' q)
      → Walked ((k, s) ∷ rest) Todo Done → Walked rest Todo' Done'
  walk_step apart o k s rest Todo Todo' Done Done' here todo done h = (
    sorted_tail cell_order k (keys_of rest) h.0,
    λ (q : Cell). by_cases (same_cell q k)
        (λ is. subst (λ (x : Option S). MatchOption x (Done' q) (Todo' q)) (sym (none_after o k s rest h.0 q is))
        (let now : Todo q s = subst (λ (b : Bool). MatchOption (cond b (Some s) (lookup (is_at (cell_order q)) rest)) (Done q) (Todo q)) is (h.1 q) in
        let same = apart q k is in
        subst Done' (sym same) (here (subst (λ (x : Cell). Todo x s) same now))))
        (λ is. let flip = (eq_by_cmp_equiv o).symm k q ∙ is in
        match_option (lookup (is_at (cell_order q)) rest) (Done q) (Done' q) (Todo q) (Todo' q) (done q flip) (λ t. todo q t flip)
        (subst (λ (b : Bool). MatchOption (cond b (Some s) (lookup (is_at (cell_order q)) rest)) (Done q) (Todo q)) is (h.1 q))),
  )

  pub walk_end : (rest : List (Cell × S)) (Todo : Cell → S → Type 0) (Done : Cell → Type 0) → rest ≡ [] → Walked rest Todo Done → (q : Cell) → Done q
  walk_end rest Todo Done e h q = (subst (λ (l : List (Cell × S)). Walked l Todo Done) e h).1 q

  -- the first that is left is to do
  pub walk_head : IsTotalOrder cell_order → (k : Cell) (s : S) (rest : List (Cell × S)) (Todo : Cell → S → Type 0) (Done : Cell → Type 0) → Walked ((k, s) ∷ rest) Todo Done → Todo k s
  walk_head o k s rest Todo Done h =
      subst (λ (b : Bool). MatchOption (cond b (Some s) (lookup (is_at (cell_order k)) rest)) (Done k) (Todo k)) (same_itself o k) (h.1 k)

  -- what a look-up finds in the whole grid is to do at the start
  pub all_to_do : (cells : List (Cell × S)) (q : Cell) (Done : Type 0) (Todo : S → Type 0) → (kept_at cells q ≡ None → Done) → ((s : S) → kept_at cells q ≡ Some s → Todo s)
      → MatchOption (kept_at cells q) Done Todo
  all_to_do cells q Done Todo f g = at_start (kept_at cells q) f g
    where
      at_start : (o : Option S) → (o ≡ None → Done) → ((s : S) → o ≡ Some s → Todo s) → MatchOption o Done Todo
      at_start None f g = f refl
      at_start (Some s) f g = g s refl

  -- a walk that only looks
  abbrev pub Looked : List (Cell × S) → List (Cell × S) → Type 0
  Looked cells rest = Walked rest (λ q s. kept_at cells q ≡ Some s) (λ q. Unit {0})

  pub look_start : (cells : List (Cell × S)) → IsStrictlySortedBy cell_order (keys_of cells) → Looked cells cells
  look_start cells sorted = (sorted, λ (q : Cell). all_to_do cells q (Unit {0}) (λ s. kept_at cells q ≡ Some s) (λ none. tt) (λ s some. some))

  pub look_step : Apart → IsTotalOrder cell_order → (cells : List (Cell × S)) (k : Cell) (s : S) (rest : List (Cell × S)) → Looked cells ((k, s) ∷ rest) → Looked cells rest
  look_step apart o cells k s rest =
      walk_step apart o k s rest (λ q t. kept_at cells q ≡ Some t) (λ q t. kept_at cells q ≡ Some t) (λ q. Unit {0}) (λ q. Unit {0}) (λ t. tt) (λ q t is h. h) (λ q is h. h)

  pub look_here : IsTotalOrder cell_order → (cells : List (Cell × S)) (k : Cell) (s : S) (rest : List (Cell × S)) → Looked cells ((k, s) ∷ rest) → kept_at cells k ≡ Some s
  look_here o cells k s rest = walk_head o k s rest (λ q t. kept_at cells q ≡ Some t) (λ q. Unit {0})

module _ {S C V : Type 0} (plain : List C → V) (effect_of : List C → Option Effect) (stands : S → List C → List C → Type 0) where
  abbrev pub Forked : List (Cell × S) → List (Cell × S) → Cell → Type 0
  Forked parent child q = Forks plain effect_of stands (kept_at parent q) (kept_at child q)

  abbrev pub Joined : List (Cell × S) → List (Cell × S) → List (Cell × S) → Cell → Type 0
  Joined old child new q = Joins plain effect_of stands (kept_at old q) (kept_at child q) (kept_at new q)
