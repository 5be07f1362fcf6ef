-- How the code of statements is emitted.
use Rattle.std.proofs.Common.{◌≡◌, sym, ap, ◌∙◌, append_assoc, drop, get_or, subst, arith}
use Rattle.std.proofs.lemmas.List.{length-append, drop_more}
use Rattle.std.specs.Prelude.{ℕ, suc, ◌+◌, ◌-◌, ◌≤◌, ◌<◌, List, [], ◌∷◌, ◌++◌, length, map, Option, None, Some, slice_set}
use Rattle.cloud_base.specs.declared.schema.Schema.{Schema}
use Rattle.typed_program.specs.Kinds.{most_slots}
use Rattle.typed_program.specs.declared.expression.Expression.{Expression}
use Rattle.typed_program.specs.declared.statement.Statement.{Statement}
use Rattle.typed_program.specs.declared.statement.Statement.TheVariants as s
use Rattle.plain_vm.specs.declared.instruction.Instruction.{Instruction}
use Rattle.plain_vm.specs.declared.instruction.Instruction.TheVariants as i
use Rattle.code_gen.specs.Compile.{Part, expression_code, if_code, loop_code, stores, statement_code, block_code}
use Rattle.code_gen.specs.Reach.{reach, block_reach}
use Rattle.code_gen.proofs.Codes.{code_if_only, code_if_else, code_while}
use Rattle.code_gen.proofs.Emits.{set_amid, next_emitted}
use Rattle.code_gen.proofs.Listings.{length_stores}

-- the statement at a place stands before those behind it
left_at : (block : List Statement) (at : ℕ) (st : Statement) → at < length block → st ≡ get_or block at st → drop at block ≡ st ∷ drop (at + 1) block
left_at block at st more is = drop_more block at st more ∙ ap (λ (x : Statement). x ∷ drop (at + 1) block) (sym is)

pub reach_at : (schema : Schema) (block : List Statement) (at : ℕ) (st : Statement) → at < length block → st ≡ get_or block at st → block_reach schema (drop at block) ≤ most_slots
    → (reach schema st ≤ most_slots) × (block_reach schema (drop (at + 1) block) ≤ most_slots)
reach_at schema block at st more is h =
    let both : block_reach schema (st ∷ drop (at + 1) block) ≤ most_slots = subst (λ b. block_reach schema b ≤ most_slots) (left_at block at st more is) h in
    (omega (arith, both), omega (arith, both))

-- a statement of a block, and those behind it
pub statement_emitted : (schema : Schema) (block : List Statement) (at : ℕ) (st : Statement) (m m' all : List Instruction) → at < length block → st ≡ get_or block at st
    → m' ≡ m ++ statement_code schema st (length m) → m ++ block_code schema (drop at block) (length m) ≡ all → m' ++ block_code schema (drop (at + 1) block) (length m') ≡ all
statement_emitted schema block at st m m' all more is e h =
    next_emitted m m' (statement_code schema st) (map (statement_code schema) (drop (at + 1) block)) e
    ∙ ap (λ b. m ++ block_code schema b (length m)) (sym (left_at block at st more is)) ∙ h

-- a store, and those of the slots before it
pub store_emitted : (n count stored : ℕ) (m m' all : List Instruction) (slot : ℕ) → stored < count → slot ≡ n + (count - 1 - stored) → m' ≡ m ++ i.Store slot ∷ [] → m ++ stores n (count - stored) ≡ all
    → m' ++ stores n (count - (stored + 1)) ≡ all
store_emitted n count stored m m' all slot more is e h =
    let left : count - 1 - stored ≡ count - (stored + 1) = omega (arith, more) in
    let next : count - stored ≡ suc (count - (stored + 1)) = omega (arith, more) in
    ap (λ l. l ++ stores n (count - (stored + 1))) e ∙ append_assoc m (i.Store slot ∷ []) (stores n (count - (stored + 1)))
    ∙ ap (λ k. m ++ i.Store k ∷ stores n (count - (stored + 1))) (is ∙ ap (λ k. n + k) left) ∙ ap (λ k. m ++ stores n k) (sym next) ∙ h

-- a loop over the newest listing
pub loop_emitted : (m m1 m2 m3 m4 : List Instruction) (n count at place : ℕ) (part : Part) (hole : Instruction) → at ≡ length m → m1 ≡ m ++ hole ∷ [] → m2 ≡ m1 ++ stores n count → m3 ≡ m2 ++ part (length m2)
    → m4 ≡ m3 ++ i.Jump at ∷ [] → place ≡ length m4 → slice_set m4 at (i.Next place count) ≡ m ++ loop_code (length m) n count (part (length m + (count + 1)))
loop_emitted m m1 m2 m3 m4 n count at place part hole t e1 e2 e3 e4 p =
    let n1 : length m1 ≡ length m + 1 = ap length e1 ∙ length-append m (hole ∷ []) in
    let n2 : length m2 ≡ length m1 + count = ap length e2 ∙ length-append m1 (stores n count) ∙ ap (λ k. length m1 + k) (length_stores n count) in
    let to : length m2 ≡ length m + (count + 1) = omega (arith, n1, n2) in
    let body : List Instruction = part (length m + (count + 1)) in
    let rest : List Instruction = stores n count ++ (body ++ i.Jump (length m) ∷ []) in
    let f3 : m3 ≡ (m1 ++ stores n count) ++ body = e3 ∙ ap (λ k. m2 ++ part k) to ∙ ap (λ l. l ++ body) e2 in
    let f4 : m4 ≡ m1 ++ rest = e4 ∙ ap (λ k. m3 ++ i.Jump k ∷ []) t ∙ ap (λ l. l ++ i.Jump (length m) ∷ []) f3 ∙ append_assoc (m1 ++ stores n count) body (i.Jump (length m) ∷ []) ∙ append_assoc m1 (stores n count) (body ++ i.Jump (length m) ∷ []) in
    let f : m4 ≡ m ++ hole ∷ rest = f4 ∙ ap (λ l. l ++ rest) e1 ∙ append_assoc m (hole ∷ []) rest in
    let n4 : length rest ≡ count + (length body + 1) = length-append (stores n count) (body ++ i.Jump (length m) ∷ []) ∙ omega (arith, length_stores n count, length-append body (i.Jump (length m) ∷ [])) in
    let end : place ≡ length m + (count + (length body + 2)) = p ∙ ap length f ∙ length-append m (hole ∷ rest) ∙ omega (arith, n4) in
    set_amid m4 m hole (i.Next place count) rest at f t ∙ ap (λ k. m ++ i.Next k count ∷ rest) end

-- a test and what stands behind it
if_emitted : (m m' first : List Instruction) (part : Part) → m' ≡ m ++ i.Begin ∷ first
    → m' ++ if_code (length m') [] (part (length m' + 1)) ≡ m ++ i.Begin ∷ if_code (length m + 1) first (part (length m + 1 + (length first + 1)))
if_emitted m m' first part e =
    let n : length m' ≡ length m + 1 + length first = ap length e ∙ length-append m (i.Begin ∷ first) ∙ omega arith in
    let start : ℕ = length m + 1 + (length first + 1) in
    let more : length m' + 1 ≡ start = omega (arith, n) in
    let to : length m' + (0 + (length (part start) + 1)) ≡ length m + 1 + (length first + (length (part start) + 1)) = omega (arith, n) in
    ap (λ k. m' ++ if_code (length m') [] (part k)) more ∙ ap (λ k. m' ++ i.JumpIfFalse k ∷ part start) to
    ∙ ap (λ l. l ++ i.JumpIfFalse (length m + 1 + (length first + (length (part start) + 1))) ∷ part start) e
    ∙ append_assoc m (i.Begin ∷ first) (i.JumpIfFalse (length m + 1 + (length first + (length (part start) + 1))) ∷ part start)

pub if_only_emitted : (schema : Schema) (line : ℕ) (st : Statement) (a : Expression) (first block : List Statement) (second : Option (List Statement)) (m m' : List Instruction) → st ≡ s.If line a first second → second ≡ None → block ≡ first
    → m' ≡ m ++ i.Begin ∷ expression_code line a (length m + 1)
    → m' ++ if_code (length m') [] (block_code schema block (length m' + 1)) ≡ m ++ statement_code schema st (length m)
if_only_emitted schema line st a first block second m m' is none same e =
    ap (λ b. m' ++ if_code (length m') [] (block_code schema b (length m' + 1))) same ∙ if_emitted m m' (expression_code line a (length m + 1)) (block_code schema first) e
    ∙ ap (λ c. m ++ c) (sym (code_if_only schema line a first (length m)) ∙ ap (λ x. statement_code schema x (length m)) (sym (is ∙ ap (λ o. s.If line a first o) none)))

pub while_emitted : (schema : Schema) (line : ℕ) (st : Statement) (a : Expression) (body block : List Statement) (start : ℕ) (m m' : List Instruction) → st ≡ s.While line a body → block ≡ body → start ≡ length m
    → m' ≡ m ++ i.Begin ∷ expression_code line a (length m + 1)
    → m' ++ if_code (length m') [] (block_code schema block (length m' + 1) ++ i.Jump start ∷ []) ≡ m ++ statement_code schema st (length m)
while_emitted schema line st a body block start m m' is same begins e =
    let at : ℕ = length m in
    let test : List Instruction = expression_code line a (at + 1) in
    let there : at + 1 + (length test + 1) ≡ at + (length test + 2) = omega arith in
    let code : List Instruction = block_code schema body (at + (length test + 2)) in
    let to : at + 1 + (length test + (length (code ++ i.Jump at ∷ []) + 1)) ≡ at + (length test + (length code + 3)) = omega (arith, length-append code (i.Jump at ∷ [])) in
    ap (λ b. m' ++ if_code (length m') [] (block_code schema b (length m' + 1) ++ i.Jump start ∷ [])) same
    ∙ ap (λ k. m' ++ if_code (length m') [] (block_code schema body (length m' + 1) ++ i.Jump k ∷ [])) begins
    ∙ if_emitted m m' test (λ k. block_code schema body k ++ i.Jump at ∷ []) e
    ∙ ap (λ k. m ++ i.Begin ∷ if_code (at + 1) test (block_code schema body k ++ i.Jump at ∷ [])) there
    ∙ ap (λ k. m ++ i.Begin ∷ (test ++ i.JumpIfFalse k ∷ (code ++ i.Jump at ∷ []))) to
    ∙ ap (λ c. m ++ c) (sym (code_while schema line a body at) ∙ ap (λ x. statement_code schema x at) (sym is))

pub if_else_emitted : (schema : Schema) (line : ℕ) (st : Statement) (a : Expression) (first second block other : List Statement) (both : Option (List Statement)) (next place : ℕ) (m m' m1 m2 : List Instruction)
    → st ≡ s.If line a first both → both ≡ Some second → block ≡ first → other ≡ second
    → m' ≡ m ++ i.Begin ∷ expression_code line a (length m + 1)
    → m1 ≡ m' ++ if_code (length m') [] (block_code schema block (length m' + 1) ++ i.End ∷ []) → next + 1 ≡ length m1
    → m2 ≡ m1 ++ block_code schema other (length m1) → place ≡ length m2
    → slice_set m2 next (i.Jump place) ≡ m ++ statement_code schema st (length m)
if_else_emitted schema line st a first second block other both next place m m' m1 m2 is some same like e e1 u e2 p =
    let start : ℕ = length m + 1 in
    let test : List Instruction = expression_code line a start in
    let xs : List Instruction = block_code schema first (start + (length test + 1)) in
    let to : ℕ = start + (length test + (length xs + 2)) in
    let ys : List Instruction = block_code schema second to in
    let jump : start + (length test + (length (xs ++ i.End ∷ []) + 1)) ≡ to = omega (arith, length-append xs (i.End ∷ [])) in
    let front : List Instruction = m ++ i.Begin ∷ (test ++ i.JumpIfFalse to ∷ xs) in
    let f1 : m1 ≡ m ++ i.Begin ∷ (test ++ i.JumpIfFalse to ∷ (xs ++ i.End ∷ [])) =
    e1 ∙ ap (λ b. m' ++ if_code (length m') [] (block_code schema b (length m' + 1) ++ i.End ∷ [])) same ∙ if_emitted m m' test (λ k. block_code schema first k ++ i.End ∷ []) e
    ∙ ap (λ k. m ++ i.Begin ∷ (test ++ i.JumpIfFalse k ∷ (xs ++ i.End ∷ []))) jump in
    let joined : m ++ i.Begin ∷ (test ++ i.JumpIfFalse to ∷ (xs ++ i.End ∷ [])) ≡ front ++ i.End ∷ [] =
    ap (λ l. m ++ i.Begin ∷ l) (sym (append_assoc test (i.JumpIfFalse to ∷ xs) (i.End ∷ []))) ∙ sym (append_assoc m (i.Begin ∷ (test ++ i.JumpIfFalse to ∷ xs)) (i.End ∷ [])) in
    let g1 : m1 ≡ front ++ i.End ∷ [] = f1 ∙ joined in
    let nt : length (test ++ i.JumpIfFalse to ∷ xs) ≡ length test + (length xs + 1) = length-append test (i.JumpIfFalse to ∷ xs) ∙ omega arith in
    let nf : length front ≡ start + (length test + (length xs + 1)) = length-append m (i.Begin ∷ (test ++ i.JumpIfFalse to ∷ xs)) ∙ omega (arith, nt) in
    let n1 : length m1 ≡ length front + 1 = ap length g1 ∙ length-append front (i.End ∷ []) in
    let here : length m1 ≡ to = omega (arith, n1, nf) in
    let there : next ≡ length front = omega (arith, u, n1) in
    let f2 : m2 ≡ front ++ i.End ∷ ys = e2 ∙ ap (λ b. m1 ++ block_code schema b (length m1)) like ∙ ap (λ k. m1 ++ block_code schema second k) here ∙ ap (λ l. l ++ ys) g1 ∙ append_assoc front (i.End ∷ []) ys in
    let end : place ≡ start + (length test + (length xs + (length ys + 2))) = p ∙ ap length f2 ∙ length-append front (i.End ∷ ys) ∙ omega (arith, nf) in
    set_amid m2 front i.End (i.Jump place) ys next f2 there ∙ append_assoc m (i.Begin ∷ (test ++ i.JumpIfFalse to ∷ xs)) (i.Jump place ∷ ys)
    ∙ ap (λ l. m ++ i.Begin ∷ l) (append_assoc test (i.JumpIfFalse to ∷ xs) (i.Jump place ∷ ys)) ∙ ap (λ k. m ++ i.Begin ∷ (test ++ i.JumpIfFalse to ∷ (xs ++ i.Jump k ∷ ys))) end
    ∙ ap (λ c. m ++ c) (sym (code_if_else schema line a first second (length m)) ∙ ap (λ x. statement_code schema x (length m)) (sym (is ∙ ap (λ o. s.If line a first o) some)))
