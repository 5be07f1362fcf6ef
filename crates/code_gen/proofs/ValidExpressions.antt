-- The code of an expression is valid.
use Rattle.std.proofs.Common.{◌≡◌, refl, ap, ◌∙◌, arith, lit<}
use Rattle.std.proofs.lemmas.List.{append_assoc, length-map}
use Rattle.std.proofs.lemmas.Option.{slice_get_within}
use Rattle.std.specs.Prelude.{ℕ, suc, ◌+◌, ◌≤◌, false, true, List, [], ◌∷◌, ◌++◌, length, map, Some, slice_get, IsTrue}
use Rattle.cloud_base.specs.declared.schema.Schema.{Schema}
use Rattle.typed_program.specs.declared.expression.Expression.{Expression}
use Rattle.typed_program.specs.declared.expression.Kind.{Kind}
use Rattle.typed_program.specs.declared.expression.Kind.TheVariants.{Int, Truth, Id}
use Rattle.typed_program.specs.declared.expression.Operator.{Operator}
use Rattle.typed_program.specs.declared.expression.Operator.TheVariants as op
use Rattle.typed_program.specs.Kinds as kinds
use Rattle.typed_program.specs.Kinds.{HasKind, HaveKinds, IsLine, key_kind, cell_kind, takes, result_kind}
use Rattle.plain_vm.specs.Exec.{push_all}
use Rattle.plain_vm.specs.declared.instruction.Instruction.{Instruction}
use Rattle.plain_vm.specs.declared.instruction.Instruction.TheVariants as i
use Rattle.plain_vm.specs.declared.instruction.Literal.TheVariants as literal
use Rattle.plain_vm.specs.Valid.{Shape, Leads, IsFine}
use Rattle.code_gen.specs.Compile.{expression_code, keys_code, binary_of}
use Rattle.code_gen.proofs.Codes as code
use Rattle.code_gen.proofs.Slots.{Slots}
use Rattle.code_gen.proofs.Sound.{Sound, shape_of, sound_same, sound_moved, sound_nothing, sound_one, sound_then, sound_either}

-- where the first slots have these kinds
abbrev pub sees : List Kind → List Kind → List (List Kind) → Shape
sees seen stack listings = shape_of stack (slice_get seen) listings

no_line : IsLine 0
no_line = lit< tt

binary_fine : (schema : Schema) (place line : ℕ) (operator : Operator) (kind : Kind) (stack : List Kind) (slots : Slots) (listings : List (List Kind)) → IsLine line → IsTrue (takes operator kind) → (all : List Shape)
    → Leads all (suc place) (shape_of (result_kind operator ∷ stack) slots listings) → IsFine schema all place (i.Binary (binary_of line operator)) (shape_of (kind ∷ kind ∷ stack) slots listings)
binary_fine schema place line op.Add kind stack slots listings l t all on = (no_line, kind, stack, refl, t, on)
binary_fine schema place line op.Subtract kind stack slots listings l t all on = (no_line, kind, stack, refl, t, on)
binary_fine schema place line op.Multiply kind stack slots listings l t all on = (no_line, kind, stack, refl, t, on)
binary_fine schema place line op.Divide kind stack slots listings l t all on = (l, kind, stack, refl, t, on)
binary_fine schema place line op.Remainder kind stack slots listings l t all on = (l, kind, stack, refl, t, on)
binary_fine schema place line op.Concat kind stack slots listings l t all on = (no_line, kind, stack, refl, t, on)
binary_fine schema place line op.Equal kind stack slots listings l t all on = (no_line, kind, stack, refl, t, on)
binary_fine schema place line op.NotEqual kind stack slots listings l t all on = (no_line, kind, stack, refl, t, on)
binary_fine schema place line op.Less kind stack slots listings l t all on = (no_line, kind, stack, refl, t, on)
binary_fine schema place line op.LessOrEqual kind stack slots listings l t all on = (no_line, kind, stack, refl, t, on)
binary_fine schema place line op.Greater kind stack slots listings l t all on = (no_line, kind, stack, refl, t, on)
binary_fine schema place line op.GreaterOrEqual kind stack slots listings l t all on = (no_line, kind, stack, refl, t, on)

pub have_many : (schema : Schema) (seen : List Kind) (keys : List Expression) (ks : List Kind) → HaveKinds schema seen keys ks → length keys ≡ length ks
have_many schema seen keys ks kinds.no_more = refl
have_many schema seen keys ks (kinds.one_more a k rest more h hs) = ap suc (have_many schema seen rest more hs)

-- a slot that is seen
pub slot_sound : (schema : Schema) (seen : List Kind) → length seen ≤ 64 → (n : ℕ) (kind : Kind) → slice_get seen n ≡ Some kind → (place : ℕ) (stack : List Kind) (listings : List (List Kind))
    → Sound schema place (i.Load n ∷ []) (sees seen stack listings) (sees seen (kind ∷ stack) listings)
slot_sound schema seen few n kind there place stack listings =
    let within : suc n ≤ length seen = slice_get_within seen n kind there in
    sound_one (i.Load n) (sees seen stack listings) (sees seen (kind ∷ stack) listings) refl (λ all on. (omega (arith, few, within), kind, there, on))

mutual
  pub value_sound : (schema : Schema) (line : ℕ) → IsLine line → (seen : List Kind) → length seen ≤ 64 → (a : Expression) (kind : Kind) → HasKind schema seen a kind → (place : ℕ) (stack : List Kind) (listings : List (List Kind))
      → Sound schema place (expression_code line a place) (sees seen stack listings) (sees seen (kind ∷ stack) listings)
  value_sound schema line l seen few a kind (kinds.int n fits) place stack listings = sound_same _ _ (code.code_int line n place) (sound_one (i.Push (literal.Int n)) _ _ refl (λ all on. (fits, on)))
  value_sound schema line l seen few a kind (kinds.text bytes fits) place stack listings = sound_same _ _ (code.code_text line bytes place) (sound_one (i.Push (literal.Text bytes)) _ _ refl (λ all on. (fits, on)))
  value_sound schema line l seen few a kind (kinds.truth b) place stack listings = sound_same _ _ (code.code_truth line b place) (sound_one (i.Push (literal.Truth b)) _ _ refl (λ all on. (tt, on)))
  value_sound schema line l seen few a kind (kinds.slot n k there) place stack listings = sound_same _ _ (code.code_slot line n k place) (slot_sound schema seen few n k there place stack listings)
  value_sound schema line l seen few a kind (kinds.get number property keys there hs) place stack listings =
      let many : length (map (expression_code line) keys) ≡ length property.keys = length-map keys (expression_code line) ∙ have_many schema seen keys _ hs ∙ length-map property.keys key_kind in
      let get : Instruction = i.Get number (length (map (expression_code line) keys)) in
      sound_same _ _ (code.code_get line number keys place) (sound_then (keys_code line keys place) (get ∷ []) (sees seen stack listings) (sees seen (push_all (map key_kind property.keys) stack) listings) _
      (keys_sound schema line l seen few keys _ hs place stack listings) (sound_one get _ _ refl (λ all on. (property, stack, there, many, refl, on))))
  value_sound schema line l seen few a kind (kinds.alive n entity there) place stack listings = sound_same _ _ (code.code_alive line n entity place)
      (sound_then (i.Load n ∷ []) (i.Alive ∷ []) (sees seen stack listings) (sees seen (Id entity ∷ stack) listings) _ (slot_sound schema seen few n (Id entity) there place stack listings)
      (sound_one i.Alive _ _ refl (λ all on. (entity, stack, refl, on))))
  value_sound schema line l seen few a kind (kinds.minus b h) place stack listings = sound_same _ _ (code.code_minus line b place)
      (sound_then (expression_code line b place) (i.Negate ∷ []) (sees seen stack listings) (sees seen (Int ∷ stack) listings) _ (value_sound schema line l seen few b Int h place stack listings)
      (sound_one i.Negate _ _ refl (λ all on. (stack, refl, on))))
  value_sound schema line l seen few a kind (kinds.not b h) place stack listings = sound_same _ _ (code.code_not line b place)
      (sound_then (expression_code line b place) (i.Not ∷ []) (sees seen stack listings) (sees seen (Truth ∷ stack) listings) _ (value_sound schema line l seen few b Truth h place stack listings)
      (sound_one i.Not _ _ refl (λ all on. (stack, refl, on))))
  value_sound schema line l seen few a kind (kinds.binary operator k x y t hx hy) place stack listings =
      let first : List Instruction = expression_code line x place in
      let second : List Instruction = expression_code line y (place + length first) in
      let last : List Instruction = i.Binary (binary_of line operator) ∷ [] in
      sound_same _ _ (code.code_binary line operator x y place ∙ append_assoc first second last) (sound_then first (second ++ last) (sees seen stack listings) (sees seen (k ∷ stack) listings) _
      (value_sound schema line l seen few x k hx place stack listings) (sound_then second last (sees seen (k ∷ stack) listings) (sees seen (k ∷ k ∷ stack) listings) _
      (value_sound schema line l seen few y k hy (place + length first) (k ∷ stack) listings)
      (sound_one (i.Binary (binary_of line operator)) _ _ refl (binary_fine schema _ line operator k stack (slice_get seen) listings l t))))
  value_sound schema line l seen few a kind (kinds.and x y hx hy) place stack listings =
      let first : List Instruction = expression_code line x place in
      let second : List Instruction = expression_code line y (place + (length first + 1)) in
      let to : ℕ = place + (length first + (length second + 2)) in
      let behind : ℕ = place + (length first + (length second + 3)) in
      let third : List Instruction = i.Push (literal.Truth false) ∷ [] in
      sound_same _ _ (code.code_and line x y place) (sound_then first (i.JumpIfFalse to ∷ (second ++ i.Jump behind ∷ third)) (sees seen stack listings) (sees seen (Truth ∷ stack) listings) _
      (value_sound schema line l seen few x Truth hx place stack listings) (sound_either second third stack (slice_get seen) listings (sees seen (Truth ∷ stack) listings) to behind (omega arith) (omega arith)
      (sound_moved (place + (length first + 1)) (place + length first + 1) (omega arith) (value_sound schema line l seen few y Truth hy (place + (length first + 1)) stack listings))
      (sound_one (i.Push (literal.Truth false)) _ _ refl (λ all on. (tt, on)))))
  value_sound schema line l seen few a kind (kinds.or x y hx hy) place stack listings =
      let first : List Instruction = expression_code line x place in
      let second : List Instruction = i.Push (literal.Truth true) ∷ [] in
      let to : ℕ = place + (length first + 3) in
      let third : List Instruction = expression_code line y to in
      let behind : ℕ = place + (length first + (length third + 3)) in
      sound_same _ _ (code.code_or line x y place) (sound_then first (i.JumpIfFalse to ∷ (second ++ i.Jump behind ∷ third)) (sees seen stack listings) (sees seen (Truth ∷ stack) listings) _
      (value_sound schema line l seen few x Truth hx place stack listings) (sound_either second third stack (slice_get seen) listings (sees seen (Truth ∷ stack) listings) to behind (omega arith) (omega arith)
      (sound_one (i.Push (literal.Truth true)) _ _ refl (λ all on. (tt, on))) (value_sound schema line l seen few y Truth hy to stack listings)))

  pub keys_sound : (schema : Schema) (line : ℕ) → IsLine line → (seen : List Kind) → length seen ≤ 64 → (keys : List Expression) (ks : List Kind) → HaveKinds schema seen keys ks → (place : ℕ) (stack : List Kind) (listings : List (List Kind))
      → Sound schema place (keys_code line keys place) (sees seen stack listings) (sees seen (push_all ks stack) listings)
  keys_sound schema line l seen few keys ks kinds.no_more place stack listings = sound_nothing (sees seen stack listings)
  keys_sound schema line l seen few keys ks (kinds.one_more a k rest more h hs) place stack listings =
      let first : List Instruction = expression_code line a place in
      sound_then first (keys_code line rest (place + length first)) (sees seen stack listings) (sees seen (k ∷ stack) listings) _ (value_sound schema line l seen few a k h place stack listings)
      (keys_sound schema line l seen few rest more hs (place + length first) (k ∷ stack) listings)
