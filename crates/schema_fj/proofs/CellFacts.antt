-- The changes of one cell in a log of cells, and what is used of the laws of cells.
use Rattle.std.proofs.Common.{◌≡◌, refl, ◌∙◌, ap, Bool, true, false, cond, List, [], ◌∷◌, ◌++◌}
use Rattle.std.specs.Prelude.{Option, None, not, filter}
use Rattle.cloud_base.specs.Values.{Id}
use Rattle.fj_core.specs.declared.effect.Effect.{Effect}
use Rattle.fj_core.specs.IntCells.{int_plain, int_effect, IntStands, int_applied, int_combined}
use Rattle.fj_core.specs.IntLaws.{int_stands_by_effect, int_plain-append, int_effect-append, int_effect-empty}
use Rattle.fj_core.specs.TextCells.{text_plain, text_effect, TextStands, text_applied, text_combined}
use Rattle.fj_core.specs.TextLaws.{text_stands_by_effect, text_plain-append, text_effect-append, text_effect-empty}
use Rattle.fj_array.specs.declared.cell.Cell.{Cell}
use Rattle.fj_array.specs.Cells.{At, of_cell, same_cell, has_id, without}

-- what is used of the laws of cells
pub record IsLawful {S C V : Type 0} (plain : List C → V) (effect_of : List C → Option Effect) (stands : S → List C → List C → Type 0) : Type 0 where
  pub applied : Option Effect → V → V
  pub combined : Option Effect → Option Effect → Option Effect
  pub by_effect : (s : S) (base delta base' delta' : List C) → plain base ≡ plain base' → effect_of delta ≡ effect_of delta' → stands s base delta → stands s base' delta'
  pub plain_append : (base delta : List C) → plain (base ++ delta) ≡ applied (effect_of delta) (plain base)
  pub effect_append : (delta more : List C) → effect_of (delta ++ more) ≡ combined (effect_of delta) (effect_of more)
  pub effect_empty : effect_of [] ≡ None

pub ints_lawful : IsLawful int_plain int_effect IntStands
ints_lawful = record { applied = int_applied; combined = int_combined; by_effect = int_stands_by_effect; plain_append = int_plain-append; effect_append = int_effect-append; effect_empty = int_effect-empty }

pub texts_lawful : IsLawful text_plain text_effect TextStands
texts_lawful = record { applied = text_applied; combined = text_combined; by_effect = text_stands_by_effect; plain_append = text_plain-append; effect_append = text_effect-append; effect_empty = text_effect-empty }

-- no two cells stand at one place
abbrev pub Apart : Type 0
Apart = (a b : Cell) → same_cell a b ≡ true → a ≡ b

front : {C : Type 0} (b : Bool) (x : C) (xs ys zs : List C) → xs ≡ ys ++ zs → cond b (x ∷ xs) xs ≡ (cond b (x ∷ ys) ys) ++ zs
front true x xs ys zs e = ap (λ l. x ∷ l) e
front false x xs ys zs e = e

pub of_cell-append : {C : Type 0} (cell : Cell) (log more : List (At C)) → of_cell cell (log ++ more) ≡ of_cell cell log ++ of_cell cell more
of_cell-append cell [] more = refl
of_cell-append cell (u ∷ log) more = front (same_cell u.cell cell) u.change _ _ _ (of_cell-append cell log more)

of_cell-cond : {C : Type 0} (q : Cell) (keep : Bool) (u : At C) (log : List (At C))
    → of_cell q (cond keep (u ∷ log) log) ≡ cond keep (cond (same_cell u.cell q) (u.change ∷ of_cell q log) (of_cell q log)) (of_cell q log)
of_cell-cond q true u log = refl
of_cell-cond q false u log = refl

without_step : {C : Type 0} (b keep h : Bool) (x : C) (xs ys : List C) → (b ≡ true → keep ≡ h) → ys ≡ cond h xs [] → cond keep (cond b (x ∷ ys) ys) ys ≡ cond h (cond b (x ∷ xs) xs) []
without_step true true true x xs ys e is = ap (λ l. x ∷ l) is
without_step true true false x xs ys e is = let never : true ≡ false = e refl in cc
without_step true false true x xs ys e is = let never : false ≡ true = e refl in cc
without_step true false false x xs ys e is = is
without_step false true true x xs ys e is = is
without_step false true false x xs ys e is = is
without_step false false true x xs ys e is = is
without_step false false false x xs ys e is = is

nothing : {C : Type 0} (b : Bool) → ◌≡◌ {A = List C} [] (cond b [] [])
nothing true = refl
nothing false = refl

-- the changes of one cell in a log of those cells alone that pass a test
pub of_cell-kept : {C : Type 0} → Apart → (test : Cell → Bool) (q : Cell) (log : List (At C)) → of_cell q (filter (λ u. test u.cell) log) ≡ cond (test q) (of_cell q log) []
of_cell-kept apart test q [] = nothing (test q)
of_cell-kept apart test q (u ∷ log) =
    of_cell-cond q (test u.cell) u (filter (λ v. test v.cell) log)
    ∙ without_step (same_cell u.cell q) (test u.cell) (test q) u.change (of_cell q log) (of_cell q (filter (λ v. test v.cell) log))
    (λ is. ap test (apart u.cell q is)) (of_cell-kept apart test q log)

-- and without those of the cells that have an id
pub of_cell-without : {C : Type 0} → Apart → (id : Id) (q : Cell) (log : List (At C)) → of_cell q (without id log) ≡ cond (not (has_id id q.keys)) (of_cell q log) []
of_cell-without apart id q log = of_cell-kept apart (λ (c : Cell). not (has_id id c.keys)) q log
