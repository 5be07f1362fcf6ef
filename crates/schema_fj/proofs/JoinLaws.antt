-- The effects of a joined state, put one by one into a grid: what is left out in the whole is passed over, and of
-- each other cell the effect is listed.
use Rattle.std.proofs.Common.{◌≡◌, refl, sym, ◌∙◌, ap, subst, Bool, true, false, cond, List, [], ◌∷◌, ◌++◌, inl, inr}
use Rattle.std.specs.Prelude.{Contains, Option, Some, None, not}
use Rattle.std.specs.List.Sorted.{IsStrictlySortedBy}
use Rattle.std.specs.Cmp.{IsTotalOrder}
use Rattle.std.specs.declared.cmp.Ordering.TheVariants.{Less, Equal}
use Rattle.std.proofs.lemmas.Bool.{cases_Bool, false≢true}
use Rattle.std.proofs.lemmas.Cmp.{tied_itself}
use Rattle.std.proofs.lemmas.List.{append-nil, append_assoc}
use Rattle.std.proofs.lemmas.List.Elements.{All-from_recursion, All-contains, Contains-append_left, Contains-append_right}
use Rattle.std.proofs.lemmas.Map.Keys.{sorted_head, sorted_tail}
use Rattle.cloud_base.proofs.SortedLemmas.{here, there, none_in, split_member}
use Rattle.fj_core.specs.declared.effect.Effect.{Effect}
use Rattle.fj_array.specs.declared.cell.Cell.{Cell}
use Rattle.fj_array.specs.declared.effect.CellEffect.{CellEffect}
use Rattle.fj_array.specs.Cells.{At, of_cell, same_cell, cell_order}
use Rattle.fj_array.specs.Effects.{cell_of, effect_order}
use Rattle.schema_fj.specs.Joined.{only, joined, JoinsAll}
use Rattle.fj_array.specs.Grids.{GridStands, AgreeElsewhere}
use Rattle.schema_fj.proofs.CellFacts.{of_cell-append}
use Rattle.schema_fj.proofs.CellFacts.{Apart}

-- ---- the changes of one cell alone

only_step : {C : Type 0} (b : Bool) (cell : Cell) (u : At C) (r l : List (At C)) → same_cell u.cell cell ≡ b → of_cell cell r ≡ of_cell cell l → of_cell cell (cond b (u ∷ r) r) ≡ of_cell cell (u ∷ l)
only_step true cell u r l e ih = λ i. cond (same_cell u.cell cell) (u.change ∷ ih i) (ih i)
only_step false cell u r l e ih = ih ∙ sym (ap (λ b. cond b (u.change ∷ of_cell cell l) (of_cell cell l)) e)

pub only_own : {C : Type 0} (cell : Cell) (log : List (At C)) → of_cell cell (only cell log) ≡ of_cell cell log
only_own cell [] = refl
only_own cell (u ∷ log) = only_step (same_cell u.cell cell) cell u (only cell log) log refl (only_own cell log)

other_step : {C : Type 0} (apart : Apart) (b : Bool) (cell q : Cell) (u : At C) (r : List (At C)) → same_cell u.cell cell ≡ b → same_cell cell q ≡ false → of_cell q r ≡ [] → of_cell q (cond b (u ∷ r) r) ≡ []
other_step apart true cell q u r e n ih =
    ap (λ b. cond b (u.change ∷ of_cell q r) (of_cell q r)) (ap (λ (x : Cell). same_cell x q) (apart u.cell cell e) ∙ n) ∙ ih
other_step apart false cell q u r e n ih = ih

-- nothing of another cell is among them
pub only_other : {C : Type 0} (apart : Apart) (cell q : Cell) (log : List (At C)) → same_cell cell q ≡ false → of_cell q (only cell log) ≡ []
only_other apart cell q [] n = refl
only_other apart cell q (u ∷ log) n = other_step apart (same_cell u.cell cell) cell q u (only cell log) refl n (only_other apart cell q log n)

-- ---- the changes that a list of effects stands for

pub joined-append : {C : Type 0} (live : CellEffect → Bool) (log : List (At C)) (items more : List CellEffect) → joined live log (items ++ more) ≡ joined live log items ++ joined live log more
joined-append live log [] more = refl
joined-append live log (x ∷ items) more =
    ap (λ l. cond (live x) (only (cell_of x) log) [] ++ l) (joined-append live log items more)
    ∙ sym (append_assoc (cond (live x) (only (cell_of x) log) []) (joined live log items) (joined live log more))

pub joined_same : {C : Type 0} (live live' : CellEffect → Bool) (log : List (At C)) (items : List CellEffect) → ((it : CellEffect) → Contains items it → live it ≡ live' it) → joined live log items ≡ joined live' log items
joined_same live live' log [] f = refl
joined_same live live' log (it ∷ items) f =
    let a = f it (here it items) in
    let b = joined_same live live' log items (λ x m. f x (there it x items m)) in
    λ i. cond (a i) (only (cell_of it) log) [] ++ b i

module _ {C : Type 0} (apart : Apart) (total : IsTotalOrder cell_order) (live : CellEffect → Bool) (log : List (At C)) where
  piece_other : (b : Bool) (cell x : Cell) → (b ≡ true → same_cell cell x ≡ true → ⊥) → of_cell x (cond b (only cell log) []) ≡ []
  piece_other true cell x never = elim (cases_Bool (same_cell cell x)) [ inl t ↦ absurd (never refl t) | inr f ↦ only_other apart cell x log f ]
  piece_other false cell x never = refl

  piece_own : (b : Bool) (cell : Cell) → b ≡ true → of_cell cell (cond b (only cell log) []) ≡ of_cell cell log
  piece_own true cell e = only_own cell log
  piece_own false cell e = absurd (false≢true e)

  joined_none : (x : Cell) (items : List CellEffect) → ((it : CellEffect) → Contains items it → live it ≡ true → same_cell (cell_of it) x ≡ true → ⊥) → of_cell x (joined live log items) ≡ []
  joined_none x [] never = refl
  joined_none x (y ∷ items) never =
      of_cell-append x (cond (live y) (only (cell_of y) log) []) (joined live log items)
      ∙ ap (λ l. l ++ of_cell x (joined live log items)) (piece_other (live y) (cell_of y) x (never y (here y items)))
      ∙ joined_none x items (λ it m. never it (there y it items m))

  -- a cell that comes before another is another
  distinct : (a b : Cell) → cell_order a b ≡ Less → a ≡ b → ⊥
  distinct a b less e = let tied : cell_order a b ≡ Equal = ap (λ (c : Cell). cell_order a c) (sym e) ∙ tied_itself total a in cc

  later : (y it : CellEffect) (items : List CellEffect) → IsStrictlySortedBy effect_order (y ∷ items) → Contains items it → effect_order y it ≡ Less
  later y it items sorted m = All-contains (λ z. effect_order y z ≡ Less) items it (All-from_recursion (λ z. effect_order y z ≡ Less) items (sorted_head effect_order y items sorted)) m

  joined_one : (it : CellEffect) (items : List CellEffect) → IsStrictlySortedBy effect_order items → Contains items it → live it ≡ true → of_cell (cell_of it) (joined live log items) ≡ of_cell (cell_of it) log
  joined_one it [] sorted m e = absurd (none_in it m)
  joined_one it (y ∷ items) sorted m e =
      let x : Cell = cell_of it in
      let split = of_cell-append x (cond (live y) (only (cell_of y) log) []) (joined live log items) in
      elim (split_member y it items m) [
        | inl same ↦
            let rest : of_cell x (joined live log items) ≡ [] = joined_none x items (λ z k l t. distinct (cell_of y) (cell_of z) (later y z items sorted k) (ap cell_of same ∙ sym (apart (cell_of z) x t))) in
            let own : of_cell x (cond (live y) (only (cell_of y) log) []) ≡ of_cell x log =
            subst (λ (z : CellEffect). of_cell x (cond (live z) (only (cell_of z) log) []) ≡ of_cell x log) (sym same) (piece_own (live it) x e) in
            split ∙ (λ i. own i ++ rest i) ∙ append-nil (of_cell x log)
        | inr k ↦
            split ∙ ap (λ l. l ++ of_cell x (joined live log items)) (piece_other (live y) (cell_of y) x (λ l t. distinct (cell_of y) x (later y it items sorted k) (apart (cell_of y) x t)))
            ∙ joined_one it items (sorted_tail effect_order y items sorted) k e
      ]

-- ---- the listed effects do what the changes do

-- the items ascend, and tell what is done in the log to each cell that isn't left out
pub record Tells {C : Type 0} (effect_of : List C → Option Effect) (left : Cell → Bool) (log : List (At C)) (items : List CellEffect) : Type 0 where
  pub ascends : IsStrictlySortedBy effect_order items
  pub only : (it : CellEffect) → Contains items it → left (cell_of it) ≡ false → effect_of (of_cell (cell_of it) log) ≡ Some it.effect
  pub every : (it : CellEffect) → left (cell_of it) ≡ false → effect_of (of_cell (cell_of it) log) ≡ Some it.effect → Contains items it

-- The effect of a cell that is left out is passed over, and such a cell has no changes.
module _ {C : Type 0} (apart : Apart) (total : IsTotalOrder cell_order) (effect_of : List C → Option Effect) (left : Cell → Bool) (log : List (At C))
    (gone : (x : Cell) → left x ≡ true → of_cell x log ≡ []) (items : List CellEffect) (tells : Tells effect_of left log items) where
  absent : (x : Cell) (o : Option Effect) → effect_of (of_cell x log) ≡ o → left x ≡ false → effect_of [] ≡ None → effect_of (of_cell x (joined (λ it. not (left (cell_of it))) log items)) ≡ effect_of (of_cell x log)
  absent x None e live empty =
      let none : of_cell x (joined (λ it. not (left (cell_of it))) log items) ≡ [] =
      joined_none apart total (λ it. not (left (cell_of it))) log x items
      (λ it m l t. let at : effect_of (of_cell x log) ≡ Some it.effect = subst (λ (c : Cell). effect_of (of_cell c log) ≡ Some it.effect) (apart (cell_of it) x t) (tells.only it m (ap left (apart (cell_of it) x t) ∙ live)) in
      let never : None ≡ Some it.effect = sym e ∙ at in cc) in
      ap effect_of none ∙ empty ∙ sym e
  absent x (Some effect) e live empty =
      let it : CellEffect = record { property = x.property; keys = x.keys; effect = effect } in
      ap effect_of (joined_one apart total (λ it. not (left (cell_of it))) log it items tells.ascends (tells.every it live e) (ap not live))

  pub effects_do : effect_of [] ≡ None → (x : Cell) → effect_of (of_cell x (joined (λ it. not (left (cell_of it))) log items)) ≡ effect_of (of_cell x log)
  effects_do empty x = elim (cases_Bool (left x)) [
    | inr live ↦ absent x (effect_of (of_cell x log)) refl live empty
    | inl out ↦
        let none : of_cell x (joined (λ it. not (left (cell_of it))) log items) ≡ [] =
        joined_none apart total (λ it. not (left (cell_of it))) log x items
        (λ it m l t. let at : left (cell_of it) ≡ true = ap left (apart (cell_of it) x t) ∙ out in false≢true (ap not (sym at) ∙ l)) in
        ap effect_of (none ∙ sym (gone x out))
  ]

-- ---- the loop that puts the effects in

module _ {S C V : Type 0} (plain : List C → V) (effect_of : List C → Option Effect) (stands : S → List C → List C → Type 0) (live : CellEffect → Bool) where
  pub joins_none : (grid : List (Cell × S)) → JoinsAll plain effect_of stands live [] grid grid
  joins_none grid base delta log due held = subst (λ (l : List (At C)). GridStands plain effect_of stands grid base l) (sym (append-nil delta)) held

  -- an item that doesn't live is passed over
  pub joins_skip : (it : CellEffect) (grid : List (Cell × S)) → live it ≡ false → JoinsAll plain effect_of stands live (it ∷ []) grid grid
  joins_skip it grid dead base delta log due held =
      subst (λ (l : List (At C)). GridStands plain effect_of stands grid base l) (sym (ap (λ b. delta ++ (cond b (only (cell_of it) log) [] ++ [])) dead ∙ append-nil delta)) held

  -- and the effect of a living one is put in
  pub joins_put : Apart → (it : CellEffect) (old new : List (Cell × S)) → live it ≡ true
      → ((base delta done : List (At C)) → GridStands plain effect_of stands old base delta → effect_of (of_cell (cell_of it) done) ≡ Some it.effect → AgreeElsewhere (cell_of it) done [] → GridStands plain effect_of stands new base (delta ++ done))
      → JoinsAll plain effect_of stands live (it ∷ []) old new
  joins_put apart it old new alive step base delta log due held =
      let cell : Cell = cell_of it in
      let same : joined live log (it ∷ []) ≡ only cell log = ap (λ b. cond b (only cell log) [] ++ []) alive ∙ append-nil (only cell log) in
      let effect : effect_of (of_cell cell (only cell log)) ≡ Some it.effect = ap effect_of (only_own cell log) ∙ due it (here it []) alive in
      subst (λ (l : List (At C)). GridStands plain effect_of stands new base (delta ++ l)) (sym same)
      (step base delta (only cell log) held effect (λ q n. only_other apart cell q log n))

  pub joins_then : (items more : List CellEffect) (old mid new : List (Cell × S)) → JoinsAll plain effect_of stands live items old mid → JoinsAll plain effect_of stands live more mid new → JoinsAll plain effect_of stands live (items ++ more) old new
  joins_then items more old mid new f g base delta log due held =
      subst (λ (l : List (At C)). GridStands plain effect_of stands new base (delta ++ l)) (sym (joined-append live log items more))
      (subst (λ (l : List (At C)). GridStands plain effect_of stands new base l) (append_assoc delta (joined live log items) (joined live log more))
      (g base (delta ++ joined live log items) log (λ it m l. due it (Contains-append_right items more it m) l)
      (f base delta log (λ it m l. due it (Contains-append_left items more it m) l) held)))

  pub joins_same : (live' : CellEffect → Bool) (items : List CellEffect) (old new : List (Cell × S)) → ((it : CellEffect) → Contains items it → live it ≡ live' it)
      → JoinsAll plain effect_of stands live items old new → JoinsAll plain effect_of stands live' items old new
  joins_same live' items old new f h base delta log due held =
      subst (λ (l : List (At C)). GridStands plain effect_of stands new base (delta ++ l)) (joined_same live live' log items f)
      (h base delta log (λ it m l. due it m (sym (f it m) ∙ l)) held)
