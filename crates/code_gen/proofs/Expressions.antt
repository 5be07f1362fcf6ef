-- The code of an expression pushes its value.
use Rattle.std.proofs.Common.{◌≡◌, refl, sym, ap, ◌∙◌, arith}
use Rattle.std.proofs.lemmas.List.{append_assoc, length-map}
use Rattle.std.specs.Prelude.{ℕ, suc, ◌+◌, false, true, neg_ℤ, not, List, [], ◌∷◌, ◌++◌, length, map}
use Rattle.cloud_base.specs.declared.schema.Schema.{Schema}
use Rattle.cloud_base.specs.declared.update.Answer.{Answer}
use Rattle.cloud_base.specs.declared.update.Answer.TheVariants as answer
use Rattle.cloud_base.specs.declared.update.Query.TheVariants as query
use Rattle.typed_program.specs.declared.expression.Expression.{Expression}
use Rattle.typed_program.specs.declared.expression.Kind.{Kind}
use Rattle.typed_program.specs.declared.expression.Operator.{Operator}
use Rattle.typed_program.specs.declared.expression.Operator.TheVariants as op
use Rattle.typed_program.specs.Does.{done, load, ask, each, ◌>>=◌}
use Rattle.typed_program.specs.Kinds as kinds
use Rattle.typed_program.specs.Kinds.{HasKind, HaveKinds}
use Rattle.typed_program.specs.Trace.{value, combine, wrapped, int_of, truth_of, id_of, key_of}
use Rattle.typed_program.proofs.Equations as eq
use Rattle.typed_program.proofs.Orderly.{orderly_done, orderly_load, orderly_ask, orderly_combine}
use Rattle.plain_vm.specs.declared.instruction.Instruction.{Instruction}
use Rattle.plain_vm.specs.declared.instruction.Instruction.TheVariants as i
use Rattle.plain_vm.specs.declared.instruction.Literal.TheVariants as literal
use Rattle.plain_vm.specs.Exec.{Next, pops, push_all, operator_of, line_of, go_to}
use Rattle.plain_vm.proofs.Pops.{pops_all}
use Rattle.code_gen.specs.Compile.{expression_code, keys_code, binary_of}
use Rattle.code_gen.proofs.Codes as code
use Rattle.code_gen.proofs.Renders.{Renders, Anything, renders_same, renders_one, renders_known, renders_then, renders_moved, renders_map, renders_none, renders_either}

combine_is : (line : ℕ) (operator : Operator) (a b : Answer) → combine (line_of (binary_of line operator)) (operator_of (binary_of line operator)) a b ≡ combine line operator a b
combine_is line op.Add a b = refl
combine_is line op.Subtract a b = refl
combine_is line op.Multiply a b = refl
combine_is line op.Divide a b = refl
combine_is line op.Remainder a b = refl
combine_is line op.Concat a b = refl
combine_is line op.Equal a b = refl
combine_is line op.NotEqual a b = refl
combine_is line op.Less a b = refl
combine_is line op.LessOrEqual a b = refl
combine_is line op.Greater a b = refl
combine_is line op.GreaterOrEqual a b = refl

-- as many are popped as were pushed
pub pops_these : (n : ℕ) (values below : List Answer) (next : List Answer → List Answer → Next) → length values ≡ n → pops n [] (push_all values below) next ≡ next values below
pops_these n values below next e = ap (λ x. pops x [] (push_all values below) next) (sym e) ∙ pops_all values below next

mutual
  pub value_renders : (schema : Schema) (all : List Instruction) (seen : List Kind) (line : ℕ) (a : Expression) (kind : Kind) → HasKind schema seen a kind → (place : ℕ) (stack : List Answer)
      → Renders schema all place (expression_code line a place) stack (value line a) Anything (λ v. v ∷ stack)
  value_renders schema all seen line a kind (kinds.int n fits) place stack = renders_same (code.code_int line n place) (eq.value_int line n)
      (renders_one (i.Push (literal.Int n)) (done (answer.Int n)) (λ v. v ∷ stack) (orderly_done _) (λ ls. refl))
  value_renders schema all seen line a kind (kinds.text bytes fits) place stack = renders_same (code.code_text line bytes place) (eq.value_text line bytes)
      (renders_one (i.Push (literal.Text bytes)) (done (answer.Text bytes)) (λ v. v ∷ stack) (orderly_done _) (λ ls. refl))
  value_renders schema all seen line a kind (kinds.truth b) place stack = renders_same (code.code_truth line b place) (eq.value_truth line b)
      (renders_one (i.Push (literal.Truth b)) (done (answer.Truth b)) (λ v. v ∷ stack) (orderly_done _) (λ ls. refl))
  value_renders schema all seen line a kind (kinds.slot n k there) place stack = renders_same (code.code_slot line n k place) (eq.value_slot line n k)
      (renders_one (i.Load n) (load n) (λ v. v ∷ stack) (orderly_load n) (λ ls. refl))
  value_renders schema all seen line a kind (kinds.get number property keys there hs) place stack = renders_same (code.code_get line number keys place) (eq.value_get line number keys)
      (renders_known (keys_code line keys place) (i.Get number (length (map (expression_code line) keys)) ∷ []) (each (map (value line) keys)) (λ values. ask (query.Get number (map key_of values))) (λ values. orderly_ask _)
      (values_render schema all seen line keys _ hs place stack)
      (λ values many. renders_one (i.Get number (length (map (expression_code line) keys))) (ask (query.Get number (map key_of values))) (λ v. v ∷ stack) (orderly_ask _)
      (λ ls. pops_these (length (map (expression_code line) keys)) values stack (λ ks rest. ask (query.Get number (map key_of ks)) >>= λ v. go_to (suc (place + length (keys_code line keys place))) (v ∷ rest) ls) (many ∙ sym (length-map keys (expression_code line))))))
  value_renders schema all seen line a kind (kinds.alive n entity there) place stack = renders_same (code.code_alive line n entity place) (eq.value_alive line n entity)
      (renders_then (i.Load n ∷ []) (i.Alive ∷ []) (load n) (λ v. ask (query.Alive (id_of v))) (renders_one (i.Load n) (load n) (λ v. v ∷ stack) (orderly_load n) (λ ls. refl))
      (λ v. renders_one i.Alive (ask (query.Alive (id_of v))) (λ b. b ∷ stack) (orderly_ask _) (λ ls. refl)))
  value_renders schema all seen line a kind (kinds.minus b h) place stack = renders_same (code.code_minus line b place) (eq.value_minus line b)
      (renders_then (expression_code line b place) (i.Negate ∷ []) (value line b) (λ v. done (wrapped (neg_ℤ (int_of v)))) (value_renders schema all seen line b _ h place stack)
      (λ v. renders_one i.Negate (done (wrapped (neg_ℤ (int_of v)))) (λ x. x ∷ stack) (orderly_done _) (λ ls. refl)))
  value_renders schema all seen line a kind (kinds.not b h) place stack = renders_same (code.code_not line b place) (eq.value_not line b)
      (renders_then (expression_code line b place) (i.Not ∷ []) (value line b) (λ v. done (answer.Truth (not (truth_of v)))) (value_renders schema all seen line b _ h place stack)
      (λ v. renders_one i.Not (done (answer.Truth (not (truth_of v)))) (λ x. x ∷ stack) (orderly_done _) (λ ls. refl)))
  value_renders schema all seen line a kind (kinds.binary operator k x y t hx hy) place stack =
      let first : List Instruction = expression_code line x place in
      let second : List Instruction = expression_code line y (place + length first) in
      renders_same (code.code_binary line operator x y place ∙ append_assoc first second (i.Binary (binary_of line operator) ∷ [])) (eq.value_binary line operator x y)
      (renders_then first (second ++ i.Binary (binary_of line operator) ∷ []) (value line x) (λ u. value line y >>= λ v. combine line operator u v) (value_renders schema all seen line x k hx place stack)
      (λ u. renders_then second (i.Binary (binary_of line operator) ∷ []) (value line y) (λ v. combine line operator u v) (value_renders schema all seen line y k hy (place + length first) (u ∷ stack))
      (λ v. renders_one (i.Binary (binary_of line operator)) (combine line operator u v) (λ r. r ∷ stack) (orderly_combine line operator u v)
      (λ ls. ap (λ m. m >>= λ r. go_to (suc (place + length first + length second)) (r ∷ stack) ls) (combine_is line operator u v)))))
  value_renders schema all seen line a kind (kinds.and x y hx hy) place stack =
      let first : List Instruction = expression_code line x place in
      let second : List Instruction = expression_code line y (place + (length first + 1)) in
      let to : ℕ = place + (length first + (length second + 2)) in
      let behind : ℕ = place + (length first + (length second + 3)) in
      renders_same (code.code_and line x y place) (eq.value_and line x y)
      (renders_then first (i.JumpIfFalse to ∷ (second ++ i.Jump behind ∷ i.Push (literal.Truth false) ∷ [])) (value line x) _ (value_renders schema all seen line x _ hx place stack)
      (λ u. renders_either u second (i.Push (literal.Truth false) ∷ []) (value line y) (done (answer.Truth false)) to behind (omega arith) (omega arith)
      (renders_moved (place + (length first + 1)) (place + length first + 1) (omega arith) (value_renders schema all seen line y _ hy (place + (length first + 1)) stack))
      (renders_one (i.Push (literal.Truth false)) (done (answer.Truth false)) (λ v. v ∷ stack) (orderly_done _) (λ ls. refl))))
  value_renders schema all seen line a kind (kinds.or x y hx hy) place stack =
      let first : List Instruction = expression_code line x place in
      let second : List Instruction = expression_code line y (place + (length first + 3)) in
      let to : ℕ = place + (length first + 3) in
      let behind : ℕ = place + (length first + (length second + 3)) in
      renders_same (code.code_or line x y place) (eq.value_or line x y)
      (renders_then first (i.JumpIfFalse to ∷ i.Push (literal.Truth true) ∷ i.Jump behind ∷ second) (value line x) _ (value_renders schema all seen line x _ hx place stack)
      (λ u. renders_either u (i.Push (literal.Truth true) ∷ []) second (done (answer.Truth true)) (value line y) to behind (omega arith) (omega arith)
      (renders_one (i.Push (literal.Truth true)) (done (answer.Truth true)) (λ v. v ∷ stack) (orderly_done _) (λ ls. refl))
      (value_renders schema all seen line y _ hy to stack)))

  -- the code of keys pushes their values in order
  pub values_render : (schema : Schema) (all : List Instruction) (seen : List Kind) (line : ℕ) (keys : List Expression) (ks : List Kind) → HaveKinds schema seen keys ks → (place : ℕ) (stack : List Answer)
      → Renders schema all place (keys_code line keys place) stack (each (map (value line) keys)) (λ values. length values ≡ length keys) (λ values. push_all values stack)
  values_render schema all seen line keys ks kinds.no_more place stack = renders_none
  values_render schema all seen line keys ks (kinds.one_more a k rest more h hs) place stack =
      let first : List Instruction = expression_code line a place in
      let others : List Instruction = keys_code line rest (place + length first) in
      renders_then first others (value line a) (λ v. each (map (value line) rest) >>= λ values. done (v ∷ values)) (value_renders schema all seen line a k h place stack)
      (λ v. renders_map (each (map (value line) rest)) (λ values. v ∷ values) (values_render schema all seen line rest more hs (place + length first) (v ∷ stack)) (λ values e. ap suc e) (λ values. refl))
