-- Laws of the cells that have an id among their keys, and of a stretch of cells.
use Rattle.std.proofs.Common.{◌≡◌, Bool, true, false, cond, List, [], ◌∷◌, ◌++◌, refl, sym, ◌∙◌, ap, subst, ℕ, suc, ◌<◌, ◌≤◌, length, arith}
use Rattle.std.specs.Prelude.{Option, Some, None, MatchOption, not, Contains}
use Rattle.std.specs.List.{filter, AllByRecursion}
use Rattle.std.specs.List.Sorted.{IsStrictlySortedBy}
use Rattle.std.specs.Map.{lookup, keys_of}
use Rattle.std.specs.BTreeMap.{is_at}
use Rattle.std.specs.Ordering.{is_eq, is_lt, ordering_then, ordering_reverse, nat_cmp}
use Rattle.std.specs.declared.cmp.Ordering.{Ordering}
use Rattle.std.specs.declared.cmp.Ordering.TheVariants.{Less, Equal, Greater}
use Rattle.std.specs.Cmp.{IsTotalOrder, eq_by_cmp_equiv, alike_right}
use Rattle.std.proofs.lemmas.Cmp.{nat_cmp_total, tied_itself}
use Rattle.std.proofs.lemmas.Map.Entries.{lookup-filter-keys, none_below_head}
use Rattle.std.proofs.lemmas.Map.{lookup-none}
use Rattle.std.proofs.lemmas.Map.Keys.{sorted_head, sorted_tail}
use Rattle.cloud_base.specs.Values.{Id}
use Rattle.cloud_base.specs.Order.{keys_order, key_order}
use Rattle.cloud_base.specs.declared.key.Key.{Key}
use Rattle.fj_core.specs.declared.effect.Effect.{Effect}
use Rattle.shared_map.specs.Entries.{Updates, without_key, entries_from}
use Rattle.fj_array.specs.declared.cell.Cell.{Cell}
use Rattle.fj_array.specs.Cells.{cell_order, same_cell, At, of_cell, has_id, without}
use Rattle.fj_array.specs.Grids.{kept_at, CellStands, GridStands}
use Rattle.fj_array.specs.Touched.{IsHolder, HasNone}
use Rattle.fj_array.proofs.GridLemmas.{Apart, by_cases}
use Rattle.fj_array.proofs.WalkLemmas.{none_after, Looked, all_to_do}

abbrev Total : Type 0
Total = IsTotalOrder cell_order

is_eq_equal : (r : Ordering) → is_eq r ≡ true → r ≡ Equal
is_eq_equal Less e = let no : false ≡ true = e in cc
is_eq_equal Equal e = refl
is_eq_equal Greater e = let no : false ≡ true = e in cc

is_lt_less : (r : Ordering) → is_lt r ≡ true → r ≡ Less
is_lt_less Less e = refl
is_lt_less Equal e = let no : false ≡ true = e in cc
is_lt_less Greater e = let no : false ≡ true = e in cc

-- ---- the cells of a property
first_key : (keys : List Key) → is_lt (keys_order keys []) ≡ false
first_key [] = refl
first_key (k ∷ keys) = refl

-- no cell of a property is before its first one
pub first_in : ((a b : Cell) → cell_order a b ≡ ordering_then (nat_cmp a.property b.property) (keys_order a.keys b.keys)) → (property : ℕ) (keys : List Key)
    → let cell : Cell = record { property = property; keys = keys } in let first : Cell = record { property = property; keys = [] } in is_lt (cell_order cell first) ≡ false
first_in by_parts property keys =
    let cell : Cell = record { property = property; keys = keys } in
    let first : Cell = record { property = property; keys = [] } in
    ap is_lt (by_parts cell first ∙ ap (λ r. ordering_then r (keys_order keys [])) (tied_itself nat_cmp_total property)) ∙ first_key keys

-- no cell at all is before the first one of the first property
pub first_of_all : ((a b : Cell) → cell_order a b ≡ ordering_then (nat_cmp a.property b.property) (keys_order a.keys b.keys)) → (q : Cell)
    → let first : Cell = record { property = 0; keys = [] } in is_lt (cell_order q first) ≡ false
first_of_all by_parts q =
    let first : Cell = record { property = 0; keys = [] } in
    ap is_lt (by_parts q first) ∙ by_number q.property (keys_order q.keys []) (first_key q.keys)
  where
    by_number : (n : ℕ) (r : Ordering) → is_lt r ≡ false → is_lt (ordering_then (nat_cmp n 0) r) ≡ false
    by_number n r h = grind (arith, h)

-- cells of a higher property come later
pub later : Total → ((a b : Cell) → cell_order a b ≡ ordering_then (nat_cmp a.property b.property) (keys_order a.keys b.keys)) → (a b : Cell) → a.property < b.property → cell_order a b ≡ Less
later o by_parts a b low = by_parts a b ∙ less a.property b.property (keys_order a.keys b.keys) low
  where
    less : (m n : ℕ) (r : Ordering) → m < n → ordering_then (nat_cmp m n) r ≡ Less
    less m n r h = grind (arith, h)

module _ {S : Type 0} where
  -- what is found from a cell on
  pub kept_from : Total → (cells : List (Cell × S)) (from q : Cell) → is_lt (cell_order q from) ≡ false → kept_at (entries_from cell_order cells from) q ≡ kept_at cells q
  kept_from o cells from q over =
      lookup-filter-keys (is_at (cell_order q)) (λ (k : Cell). not (is_lt (cell_order k from))) true
      (λ k is. ap (λ r. not (is_lt r)) (sym (o.congr q k from (is_eq_equal (cell_order q k) is))) ∙ ap not over) cells

  pub sorted_from : (from : Cell) (cells : List (Cell × S)) → IsStrictlySortedBy cell_order (keys_of cells) → IsStrictlySortedBy cell_order (keys_of (entries_from cell_order cells from))
  unfolding IsStrictlySortedBy
  sorted_from from [] up = up
  sorted_from from (e ∷ cells) up = keep (not (is_lt (cell_order e.0 from))) (below cells up.0) (sorted_from from cells up.1)
    where
      pass : (b : Bool) (f : Cell × S) (more : List (Cell × S)) → cell_order e.0 f.0 ≡ Less → AllByRecursion (λ k. cell_order e.0 k ≡ Less) (keys_of more)
          → AllByRecursion (λ k. cell_order e.0 k ≡ Less) (keys_of (cond b (f ∷ more) more))
      pass true f more h rest = (h, rest)
      pass false f more h rest = rest

      below : (l : List (Cell × S)) → AllByRecursion (λ k. cell_order e.0 k ≡ Less) (keys_of l) → AllByRecursion (λ k. cell_order e.0 k ≡ Less) (keys_of (entries_from cell_order l from))
      below [] h = tt
      below (f ∷ l) h = pass (not (is_lt (cell_order f.0 from))) f (entries_from cell_order l from) h.0 (below l h.1)

      keep : (b : Bool) → AllByRecursion (λ k. cell_order e.0 k ≡ Less) (keys_of (entries_from cell_order cells from)) → IsStrictlySortedBy cell_order (keys_of (entries_from cell_order cells from))
          → IsStrictlySortedBy cell_order (keys_of (cond b (e ∷ entries_from cell_order cells from) (entries_from cell_order cells from)))
      keep true low up' = (low, up')
      keep false low up' = up'

  -- nothing before a cell is found from it on
  pub none_from : Total → (cells : List (Cell × S)) (from q : Cell) → is_lt (cell_order q from) ≡ true → kept_at (entries_from cell_order cells from) q ≡ None
  none_from o cells from q under =
      lookup-filter-keys (is_at (cell_order q)) (λ (k : Cell). not (is_lt (cell_order k from))) false
      (λ k is. ap (λ r. not (is_lt r)) (sym (o.congr q k from (is_eq_equal (cell_order q k) is))) ∙ ap not under) cells

  -- a walk that looks at the cells from one on
  pub look_from : Total → (cells : List (Cell × S)) (from : Cell) → IsStrictlySortedBy cell_order (keys_of cells) → Looked cells (entries_from cell_order cells from)
  look_from o cells from up = (
    sorted_from from cells up,
    λ (q : Cell). all_to_do (entries_from cell_order cells from) q (Unit {0}) (λ s. kept_at cells q ≡ Some s) (λ none. tt) (λ s some. by_cases (is_lt (cell_order q from))
        (λ under. none_some s (sym (none_from o cells from q under) ∙ some))
        (λ over. sym (kept_from o cells from q over) ∙ some)),
  )
    where
      none_some : {P : Type 0} (s : S) → None ≡ Some s → P
      none_some s e = cc

  -- ---- a search for a cell that has an id: none before what is left has it
  pub record Sought (id : Id) (cells : List (Cell × S)) (from : Cell) (rest : List (Cell × S)) : Type 0 where
    pub sorted : IsStrictlySortedBy cell_order (keys_of rest)
    pub left : (q : Cell) → is_lt (cell_order q from) ≡ false → has_id id q.keys ≡ true → kept_at rest q ≡ kept_at cells q
    pub within : (q : Cell) → (kept_at rest q ≡ None → ⊥) → kept_at cells q ≡ None → ⊥

  pub seek_start : Total → (id : Id) (cells : List (Cell × S)) (from : Cell) → IsStrictlySortedBy cell_order (keys_of cells) → Sought id cells from (entries_from cell_order cells from)
  seek_start o id cells from up = record {
    sorted = sorted_from from cells up;
    left = λ q over has. kept_from o cells from q over;
    within = λ q some none. some (filtered q none);
  }
    where
      filtered : (q : Cell) → kept_at cells q ≡ None → kept_at (entries_from cell_order cells from) q ≡ None
      filtered q none = by_cases (is_lt (cell_order q from))
          (λ under. none_from o cells from q under)
          (λ over. kept_from o cells from q over ∙ none)

  pub seek_step : Total → Apart → (id : Id) (cells : List (Cell × S)) (from k : Cell) (s : S) (rest : List (Cell × S)) → has_id id k.keys ≡ false
      → Sought id cells from ((k, s) ∷ rest) → Sought id cells from rest
  seek_step o apart id cells from k s rest has h = record {
    sorted = sorted_tail cell_order k (keys_of rest) h.sorted;
    left = λ q over is. by_cases (same_cell q k)
        (λ at. absurd (true_false (sym is ∙ ap (λ (c : Cell). has_id id c.keys) (apart q k at) ∙ has)))
        (λ at. sym (ap (λ b. cond b (Some s) (kept_at rest q)) at) ∙ h.left q over is);
    within = λ q some none. h.within q (λ none'. some (gone q none')) none;
  }
    where
      true_false : true ≡ false → ⊥
      true_false e = cc

      gone : (q : Cell) → kept_at ((k, s) ∷ rest) q ≡ None → kept_at rest q ≡ None
      gone q none = by_cases (same_cell q k) (λ at. none_after o k s rest h.sorted q at) (λ at. sym (ap (λ b. cond b (Some s) (kept_at rest q)) at) ∙ none)

  pub seek_found : Total → (id : Id) (cells : List (Cell × S)) (from k : Cell) (s : S) (rest : List (Cell × S)) → has_id id k.keys ≡ true
      → Sought id cells from ((k, s) ∷ rest) → IsHolder id cells from k
  seek_found o id cells from k s rest has h = record {
    has = has;
    kept = λ none. h.within k (λ none'. some_none (sym (ap (λ b. cond b (Some s) (kept_at rest k)) (ap is_eq (tied_itself o k))) ∙ none')) none;
    first = λ q over under is. sym (h.left q over is)
        ∙ lookup-none (is_at (cell_order q)) ((k, s) ∷ rest) (none_below_head o q (k, s) rest h.sorted (is_lt_less (cell_order q k) under));
  }
    where
      some_none : Some s ≡ None → ⊥
      some_none e = cc

  pub seek_end : (id : Id) (cells : List (Cell × S)) (from : Cell) (rest : List (Cell × S)) → rest ≡ [] → Sought id cells from rest → HasNone id cells from
  seek_end id cells from rest over h q low has = sym (h.left q low has) ∙ ap (λ l. kept_at l q) over

  -- ---- a purge: each cell before this one that has the id is dropped, and no other
  pub record PurgedTo (id : Id) (old new : List (Cell × S)) (at : Cell) : Type 0 where
    pub others : (q : Cell) → has_id id q.keys ≡ false → kept_at new q ≡ kept_at old q
    pub dropped : (q : Cell) → is_lt (cell_order q at) ≡ true → has_id id q.keys ≡ true → kept_at new q ≡ None

  pub purge_step : Total → Apart → (id : Id) (old new new' : List (Cell × S)) (at cell : Cell) → IsHolder id new at cell → Updates cell_order new new' cell None
      → PurgedTo id old new at → PurgedTo id old new' cell
  purge_step o apart id old new new' at cell holder up h = record {
    others = λ q is. by_cases (same_cell cell q)
        (λ same. absurd (true_false (sym holder.has ∙ ap (λ (c : Cell). has_id id c.keys) (apart cell q same) ∙ is)))
        (λ other. up.elsewhere q other ∙ h.others q is);
    dropped = λ q under is. up.elsewhere q (not_same q under) ∙ by_cases (is_lt (cell_order q at)) (λ low. h.dropped q low is) (λ over. holder.first q over under is);
  }
    where
      true_false : true ≡ false → ⊥
      true_false e = cc

      not_same : (q : Cell) → is_lt (cell_order q cell) ≡ true → same_cell cell q ≡ false
      not_same q under = ap is_eq (o.antisymm cell q) ∙ ap (λ r. is_eq (ordering_reverse r)) (is_lt_less (cell_order q cell) under)

  pub purge_start : ((a b : Cell) → cell_order a b ≡ ordering_then (nat_cmp a.property b.property) (keys_order a.keys b.keys)) → (id : Id) (cells : List (Cell × S)) (at : Cell)
      → (let first : Cell = record { property = 0; keys = [] } in at ≡ first) → PurgedTo id cells cells at
  purge_start by_parts id cells at is = record {
    others = λ q has. refl;
    dropped = λ q under has. absurd (true_false (sym under ∙ ap (λ (c : Cell). is_lt (cell_order q c)) is ∙ first_of_all by_parts q));
  }
    where
      true_false : true ≡ false → ⊥
      true_false e = cc

  pub purge_end : (id : Id) (old new : List (Cell × S)) (at : Cell) → HasNone id new at → PurgedTo id old new at → (q : Cell)
      → kept_at new q ≡ cond (not (has_id id q.keys)) (kept_at old q) None
  purge_end id old new at none h q = by_cases (has_id id q.keys)
      (λ has. by_cases (is_lt (cell_order q at)) (λ under. h.dropped q under has) (λ over. none q over has) ∙ sym (ap (λ b. cond (not b) (kept_at old q) None) has))
      (λ has. h.others q has ∙ sym (ap (λ b. cond (not b) (kept_at old q) None) has))

  -- a key that is found is one less
  one_more : (b : Bool) (e : Cell × S) (more cells : List (Cell × S)) → length more ≤ length cells → length (cond b (e ∷ more) more) ≤ suc (length cells)
  one_more true e more cells h = omega (arith, h)
  one_more false e more cells h = omega (arith, h)

  no_more : (cells : List (Cell × S)) (cell : Cell) → length (without_key cell_order cells cell) ≤ length cells
  no_more [] cell = omega arith
  no_more (e ∷ cells) cell = one_more (not (same_cell cell e.0)) e (without_key cell_order cells cell) cells (no_more cells cell)

  fewer_by : (b : Bool) (e : Cell × S) (more cells : List (Cell × S)) → length more ≤ length cells → (b ≡ false → length more < length cells)
      → length (cond (not b) (e ∷ more) more) < suc (length cells)
  fewer_by true e more cells h f = omega (arith, h)
  fewer_by false e more cells h f = omega (arith, f refl)

  pub fewer : (cells : List (Cell × S)) (cell : Cell) → (kept_at cells cell ≡ None → ⊥) → length (without_key cell_order cells cell) < length cells
  fewer [] cell some = absurd (some refl)
  fewer (e ∷ cells) cell some =
      fewer_by (same_cell cell e.0) e (without_key cell_order cells cell) cells (no_more cells cell)
      (λ is. fewer cells cell (λ none. some (ap (λ (x : Bool). cond x (Some e.1) (kept_at cells cell)) is ∙ none)))
