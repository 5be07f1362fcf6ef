-- The changes of one cell among those of one type.
use Rattle.std.proofs.Common.{arith, ◌≡◌, refl, ap, sym, ◌∙◌, true≢false}
use Rattle.std.proofs.lemmas.List.{append_assoc}
use Rattle.std.proofs.lemmas.Bool.Decides.{nat_tests}
use Rattle.std.specs.Prelude.{ℕ, Bool, true, false, ◌&&◌, List, [], ◌∷◌, ◌++◌, map, if◌then◌else◌, nat_eq, IsTrue}
use Rattle.std.specs.List.{flat_map}
use Rattle.std.specs.Ordering.{is_eq, ordering_then, nat_cmp}
use Rattle.std.specs.declared.cmp.Ordering.{Ordering}
use Rattle.std.specs.declared.cmp.Ordering.TheVariants.{Less, Equal, Greater}
use Rattle.cloud_base.specs.Order.{same_keys, keys_order}
use Rattle.cloud_base.specs.declared.key.Key.{Key}
use Rattle.cloud_base.specs.declared.update.CellChange.{CellChange}
use Rattle.cloud_base.specs.declared.update.Update.{Update}
use Rattle.cloud_base.specs.declared.update.Update.TheVariants as update
use Rattle.fj_array.specs.declared.cell.Cell.{Cell}
use Rattle.fj_array.specs.Cells.{At, of_cell, same_cell, cell_order}
use mathlib.Core.Path.{Path}
use Rattle.cloud_base.specs.declared.schema.Schema.{Schema}
use Rattle.cloud_base.specs.declared.schema.CellType.{CellType}
use Rattle.schema_fj.specs.States.{changes_in, left_out}

pub changes_in-append : {C : Type 0} (schema : Schema) (type : CellType) (of : CellChange → List C) (whole first more : List Update) → changes_in schema type of whole (first ++ more) ≡ changes_in schema type of whole first ++ changes_in schema type of whole more
changes_in-append schema type of whole [] more = refl
changes_in-append schema type of whole (update.Cell p ks c ∷ first) more = ap (λ l. (if left_out schema type whole p ks then [] else map (λ x. record { cell = record { property = p; keys = ks }; change = x }) (of c)) ++ l) (changes_in-append schema type of whole first more) ∙ sym (append_assoc _ (changes_in schema type of whole first) (changes_in schema type of whole more))
changes_in-append schema type of whole (update.Create id e ks ∷ first) more = changes_in-append schema type of whole first more
changes_in-append schema type of whole (update.Delete id ∷ first) more = changes_in-append schema type of whole first more

pub eq_parts : (a b : Ordering) → is_eq (ordering_then a b) ≡ (is_eq a && is_eq b)
eq_parts Less b = refl
eq_parts Equal b = refl
eq_parts Greater b = refl

pub nat_test : (q p : ℕ) → is_eq (nat_cmp q p) ≡ nat_eq q p
nat_test q p = grind (arith, nat_tests)

-- one cell's change among those of all
pub own : {C : Type 0} (cell at : Cell) (b : Bool) → same_cell at cell ≡ b → (xs : List C) → of_cell cell (map (λ x. record { cell = at; change = x }) xs) ≡ (if b then xs else [])
own cell at true e [] = refl
own cell at false e [] = refl
own cell at true e (x ∷ xs) = ap (λ b. if b then x ∷ of_cell cell (map (λ x. record { cell = at; change = x }) xs) else of_cell cell (map (λ x. record { cell = at; change = x }) xs)) e ∙ ap (λ l. x ∷ l) (own cell at true e xs)
own cell at false e (x ∷ xs) = ap (λ b. if b then x ∷ of_cell cell (map (λ x. record { cell = at; change = x }) xs) else of_cell cell (map (λ x. record { cell = at; change = x }) xs)) e ∙ own cell at false e xs

pub join : {C : Type 0} (dead' dead same : Bool) (x tail all : List C) → (same ≡ true → dead' ≡ dead) → tail ≡ (if dead then [] else all) → (if dead' then [] else (if same then x else [])) ++ tail ≡ (if dead then [] else (if same then x ++ all else all))
join true true true x tail all h e = e
join true false true x tail all h e = absurd (true≢false (h refl))
join true true false x tail all h e = e
join true false false x tail all h e = e
join false false true x tail all h e = ap (λ l. x ++ l) e
join false true true x tail all h e = absurd (true≢false (sym (h refl)))
join false dead false x tail all h e = e ∙ at dead
  where
    at : (d : Bool) → (if d then [] else all) ≡ (if d then [] else all)
    at d = refl

pub pick : {C : Type 0} (of : CellChange → List C) (b : Bool) (c : CellChange) (l : List CellChange) → flat_map of (if b then c ∷ l else l) ≡ (if b then of c ++ flat_map of l else flat_map of l)
pick of true c l = refl
pick of false c l = refl

abbrev pub ByParts : Type 0
ByParts = (a b : Cell) → cell_order a b ≡ ordering_then (nat_cmp a.property b.property) (keys_order a.keys b.keys)

abbrev pub KeysApart : Type 0
KeysApart = (a b : List Key) → IsTrue (same_keys a b) → a ≡ b

pub dead_piece : {C : Type 0} (cell : Cell) (d : Bool) (xs : List (At C)) (ys : List C) → of_cell cell xs ≡ ys → of_cell cell (if d then [] else xs) ≡ (if d then [] else ys)
dead_piece cell true xs ys e = refl
dead_piece cell false xs ys e = e

pub second_of : (a b : Bool) → (a && b) ≡ true → b ≡ true
second_of true b e = e
second_of false b e = absurd (true≢false (sym e))

pub none : {C : Type 0} (d : Bool) → Path (List C) [] (if d then [] else [])
none true = refl
none false = refl

pub first_of : (a b : Bool) → (a && b) ≡ true → a ≡ true
first_of true b e = refl
first_of false b e = e

pub nat_same : (q p : ℕ) → nat_eq q p ≡ true → q ≡ p
nat_same q p e = grind (arith, nat_tests, e)
