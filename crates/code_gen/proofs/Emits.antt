-- Instructions that are written once their place is known.
use Rattle.std.proofs.Common.{◌≡◌, refl, sym, ap, ◌∙◌, append_assoc, arith}
use Rattle.std.proofs.lemmas.List.{length-append}
use Rattle.std.specs.Prelude.{ℕ, ◌+◌, true, false, List, [], ◌∷◌, ◌++◌, length, slice_set}
use Rattle.plain_vm.specs.declared.instruction.Instruction.{Instruction}
use Rattle.plain_vm.specs.declared.instruction.Instruction.TheVariants as i
use Rattle.plain_vm.specs.declared.instruction.Literal.TheVariants as literal
use Rattle.typed_program.specs.declared.expression.Expression.{Expression}
use Rattle.typed_program.specs.declared.expression.Expression.TheVariants as e
use Rattle.code_gen.specs.Compile.{Part, behind, in_turn, and_code, or_code, expression_code}
use Rattle.code_gen.proofs.Codes.{code_and, code_or}

set_behind : {A : Type 0} (xs : List A) (x y : A) (ys : List A) → slice_set (xs ++ x ∷ ys) (length xs) y ≡ xs ++ y ∷ ys
set_behind [] x y ys = refl
set_behind (z ∷ xs) x y ys = ap (λ l. z ∷ l) (set_behind xs x y ys)

-- what is written at a place keeps what stands before and behind it
pub set_amid : {A : Type 0} (all xs : List A) (x y : A) (ys : List A) (at : ℕ) → all ≡ xs ++ x ∷ ys → at ≡ length xs → slice_set all at y ≡ xs ++ y ∷ ys
set_amid all xs x y ys at e f = ap (λ l. slice_set l at y) e ∙ ap (λ n. slice_set (xs ++ x ∷ ys) n y) f ∙ set_behind xs x y ys

-- one part behind another
pub behind_emitted : (m m' all first : List Instruction) (next : Part) → m' ≡ m ++ first → all ≡ m' ++ next (length m') → all ≡ m ++ behind first next (length m)
behind_emitted m m' all first next e f =
    let n : length m' ≡ length m + length first = ap length e ∙ length-append m first in
    f ∙ ap (λ k. m' ++ next k) n ∙ ap (λ l. l ++ next (length m + length first)) e ∙ append_assoc m first (next (length m + length first))

-- a part, and those behind it
pub next_emitted : (m m' : List Instruction) (part : Part) (parts : List Part) → m' ≡ m ++ part (length m) → m' ++ in_turn parts (length m') ≡ m ++ in_turn (part ∷ parts) (length m)
next_emitted m m' part parts e = behind_emitted m m' (m' ++ in_turn parts (length m')) (part (length m)) (in_turn parts) e refl

-- a jump over a part, written behind it
pub one_hole : (m m1 m2 m3 first : List Instruction) (part : Part) (hole : Instruction) (jump : ℕ → Instruction) (at place : ℕ)
    → m1 ≡ m ++ first → at ≡ length m1 → m2 ≡ m1 ++ hole ∷ [] → m3 ≡ m2 ++ part (length m2) → place ≡ length m3
    → slice_set m3 at (jump place) ≡ m ++ (first ++ jump (length m + (length first + (length (part (length m + (length first + 1))) + 1))) ∷ part (length m + (length first + 1)))
one_hole m m1 m2 m3 first part hole jump at place e1 t e2 e3 p =
    let n1 : length m1 ≡ length m + length first = ap length e1 ∙ length-append m first in
    let n2 : length m2 ≡ length m1 + 1 = ap length e2 ∙ length-append m1 (hole ∷ []) in
    let start : ℕ = length m + (length first + 1) in
    let then : List Instruction = part start in
    let n : length m2 ≡ start = omega (arith, n1, n2) in
    let f3 : m3 ≡ m1 ++ hole ∷ then = e3 ∙ ap (λ k. m2 ++ part k) n ∙ ap (λ l. l ++ then) e2 ∙ append_assoc m1 (hole ∷ []) then in
    let n3 : length m3 ≡ length m1 + (length then + 1) = ap length f3 ∙ length-append m1 (hole ∷ then) ∙ omega arith in
    let to : place ≡ length m + (length first + (length then + 1)) = omega (arith, p, n1, n3) in
    set_amid m3 m1 hole (jump place) then at f3 t ∙ ap (λ l. l ++ jump place ∷ then) e1 ∙ append_assoc m first (jump place ∷ then) ∙ ap (λ k. m ++ (first ++ jump k ∷ then)) to

-- a jump over a part, written behind it, and in front of that place a jump over the next part
pub two_holes : (m m1 m2 m3 m4 m5 m6 first : List Instruction) (one two : Part) (hole : Instruction) (jump leap : ℕ → Instruction) (at next place end : ℕ)
    → m1 ≡ m ++ first → at ≡ length m1 → m2 ≡ m1 ++ hole ∷ [] → m3 ≡ m2 ++ one (length m2) → next ≡ length m3 → m4 ≡ m3 ++ hole ∷ [] → place ≡ length m4
    → m5 ≡ slice_set m4 at (jump place) → m6 ≡ m5 ++ two (length m5) → end ≡ length m6
    → slice_set m6 next (leap end) ≡ m ++ (first ++ jump (length m + (length first + (length (one (length m + (length first + 1))) + 2)))
    ∷ (one (length m + (length first + 1)) ++ leap (length m + (length first + (length (one (length m + (length first + 1))) + (length (two (length m + (length first + (length (one (length m + (length first + 1))) + 2)))) + 2))))
    ∷ two (length m + (length first + (length (one (length m + (length first + 1))) + 2)))))
two_holes m m1 m2 m3 m4 m5 m6 first one two hole jump leap at next place end e1 t e2 e3 u e4 p e5 e6 q =
    let n1 : length m1 ≡ length m + length first = ap length e1 ∙ length-append m first in
    let n2 : length m2 ≡ length m1 + 1 = ap length e2 ∙ length-append m1 (hole ∷ []) in
    let xs : List Instruction = one (length m + (length first + 1)) in
    let other : ℕ = length m + (length first + (length xs + 2)) in
    let ys : List Instruction = two other in
    let n : length m2 ≡ length m + (length first + 1) = omega (arith, n1, n2) in
    let f3 : m3 ≡ m2 ++ xs = e3 ∙ ap (λ k. m2 ++ one k) n in
    let n3 : length m3 ≡ length m2 + length xs = ap length f3 ∙ length-append m2 xs in
    let n4 : length m4 ≡ length m3 + 1 = ap length e4 ∙ length-append m3 (hole ∷ []) in
    let to : place ≡ other = omega (arith, p, n1, n2, n3, n4) in
    let f4 : m4 ≡ m1 ++ hole ∷ (xs ++ hole ∷ []) = e4 ∙ ap (λ l. l ++ hole ∷ []) (f3 ∙ ap (λ l. l ++ xs) e2 ∙ append_assoc m1 (hole ∷ []) xs) ∙ append_assoc m1 (hole ∷ xs) (hole ∷ []) in
    let f5 : m5 ≡ m1 ++ jump other ∷ (xs ++ hole ∷ []) = e5 ∙ set_amid m4 m1 hole (jump place) (xs ++ hole ∷ []) at f4 t ∙ ap (λ k. m1 ++ jump k ∷ (xs ++ hole ∷ [])) to in
    let n5 : length m5 ≡ other = ap length f5 ∙ length-append m1 (jump other ∷ (xs ++ hole ∷ [])) ∙ omega (arith, n1, length-append xs (hole ∷ [])) in
    let front : List Instruction = m1 ++ jump other ∷ xs in
    let f6 : m6 ≡ front ++ hole ∷ ys = e6 ∙ ap (λ k. m5 ++ two k) n5 ∙ ap (λ l. l ++ ys) (f5 ∙ sym (append_assoc m1 (jump other ∷ xs) (hole ∷ []))) ∙ append_assoc front (hole ∷ []) ys in
    let nf : length front ≡ length m1 + (length xs + 1) = length-append m1 (jump other ∷ xs) ∙ omega arith in
    let n6 : length m6 ≡ length front + (length ys + 1) = ap length f6 ∙ length-append front (hole ∷ ys) ∙ omega arith in
    let there : next ≡ length front = omega (arith, u, n2, n3, nf) in
    let last : end ≡ length m + (length first + (length xs + (length ys + 2))) = omega (arith, q, n1, nf, n6) in
    set_amid m6 front hole (leap end) ys next f6 there ∙ append_assoc m1 (jump other ∷ xs) (leap end ∷ ys) ∙ ap (λ l. l ++ jump other ∷ (xs ++ leap end ∷ ys)) e1
    ∙ append_assoc m first (jump other ∷ (xs ++ leap end ∷ ys)) ∙ ap (λ k. m ++ (first ++ jump other ∷ (xs ++ leap k ∷ ys))) last

-- the sides of an `and`
pub and_emitted : (m m' all first : List Instruction) (second : Part) → m' ≡ m ++ first → all ≡ m' ++ and_code (length m') [] (second (length m' + 1))
    → all ≡ m ++ and_code (length m) first (second (length m + (length first + 1)))
and_emitted m m' all first second e f = f ∙ ap (λ k. m' ++ and_code k [] (second (k + 1))) n ∙ ap (λ l. l ++ and_code (length m + length first) [] (second (length m + length first + 1))) e
    ∙ append_assoc m first (and_code (length m + length first) [] (second (length m + length first + 1))) ∙ moved (length m) (length first)
  where
    n : length m' ≡ length m + length first
    n = ap length e ∙ length-append m first

    moved : (at a : ℕ) → m ++ (first ++ and_code (at + a) [] (second (at + a + 1))) ≡ m ++ (first ++ i.JumpIfFalse (at + (a + (length (second (at + (a + 1))) + 2))) ∷ (second (at + (a + 1)) ++ i.Jump (at + (a + (length (second (at + (a + 1))) + 3))) ∷ i.Push (literal.Truth false) ∷ []))
    moved at a =
        let s : at + a + 1 ≡ at + (a + 1) = omega arith in
        let xs : List Instruction = second (at + (a + 1)) in
        let to : at + a + (0 + (length xs + 2)) ≡ at + (a + (length xs + 2)) = omega arith in
        let end : at + a + (0 + (length xs + 3)) ≡ at + (a + (length xs + 3)) = omega arith in
        ap (λ k. m ++ (first ++ and_code (at + a) [] (second k))) s ∙ ap (λ k. m ++ (first ++ i.JumpIfFalse k ∷ (xs ++ i.Jump (at + a + (0 + (length xs + 3))) ∷ i.Push (literal.Truth false) ∷ []))) to
        ∙ ap (λ k. m ++ (first ++ i.JumpIfFalse (at + (a + (length xs + 2))) ∷ (xs ++ i.Jump k ∷ i.Push (literal.Truth false) ∷ []))) end

-- the sides of an `or`
pub or_emitted : (m m' all first : List Instruction) (second : Part) → m' ≡ m ++ first → all ≡ m' ++ or_code (length m') [] (second (length m' + 3))
    → all ≡ m ++ or_code (length m) first (second (length m + (length first + 3)))
or_emitted m m' all first second e f = f ∙ ap (λ k. m' ++ or_code k [] (second (k + 3))) n ∙ ap (λ l. l ++ or_code (length m + length first) [] (second (length m + length first + 3))) e
    ∙ append_assoc m first (or_code (length m + length first) [] (second (length m + length first + 3))) ∙ moved (length m) (length first)
  where
    n : length m' ≡ length m + length first
    n = ap length e ∙ length-append m first

    moved : (at a : ℕ) → m ++ (first ++ or_code (at + a) [] (second (at + a + 3))) ≡ m ++ (first ++ i.JumpIfFalse (at + (a + 3)) ∷ i.Push (literal.Truth true) ∷ i.Jump (at + (a + (length (second (at + (a + 3))) + 3))) ∷ second (at + (a + 3)))
    moved at a =
        let s : at + a + 3 ≡ at + (a + 3) = omega arith in
        let xs : List Instruction = second (at + (a + 3)) in
        let to : at + a + (0 + 3) ≡ at + (a + 3) = omega arith in
        let end : at + a + (0 + (length xs + 3)) ≡ at + (a + (length xs + 3)) = omega arith in
        ap (λ k. m ++ (first ++ or_code (at + a) [] (second k))) s ∙ ap (λ k. m ++ (first ++ i.JumpIfFalse k ∷ i.Push (literal.Truth true) ∷ i.Jump (at + a + (0 + (length xs + 3))) ∷ xs)) to
        ∙ ap (λ k. m ++ (first ++ i.JumpIfFalse (at + (a + 3)) ∷ i.Push (literal.Truth true) ∷ i.Jump k ∷ xs)) end

pub and_line : (line : ℕ) (source left right a b : Expression) (m m' : List Instruction) → source ≡ e.And left right → a ≡ left → b ≡ right → m' ≡ m ++ expression_code line a (length m)
    → m' ++ and_code (length m') [] (expression_code line b (length m' + 1)) ≡ m ++ expression_code line source (length m)
and_line line source left right a b m m' is l r f =
    and_emitted m m' _ (expression_code line a (length m)) (expression_code line b) f refl
    ∙ ap (λ x. m ++ and_code (length m) (expression_code line x (length m)) (expression_code line b (length m + (length (expression_code line x (length m)) + 1)))) l
    ∙ ap (λ x. m ++ and_code (length m) (expression_code line left (length m)) (expression_code line x (length m + (length (expression_code line left (length m)) + 1)))) r
    ∙ ap (λ c. m ++ c) (sym (code_and line left right (length m)) ∙ ap (λ x. expression_code line x (length m)) (sym is))

pub or_line : (line : ℕ) (source left right a b : Expression) (m m' : List Instruction) → source ≡ e.Or left right → a ≡ left → b ≡ right → m' ≡ m ++ expression_code line a (length m)
    → m' ++ or_code (length m') [] (expression_code line b (length m' + 3)) ≡ m ++ expression_code line source (length m)
or_line line source left right a b m m' is l r f =
    or_emitted m m' _ (expression_code line a (length m)) (expression_code line b) f refl
    ∙ ap (λ x. m ++ or_code (length m) (expression_code line x (length m)) (expression_code line b (length m + (length (expression_code line x (length m)) + 3)))) l
    ∙ ap (λ x. m ++ or_code (length m) (expression_code line left (length m)) (expression_code line x (length m + (length (expression_code line left (length m)) + 3)))) r
    ∙ ap (λ c. m ++ c) (sym (code_or line left right (length m)) ∙ ap (λ x. expression_code line x (length m)) (sym is))
