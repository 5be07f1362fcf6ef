-- The code of a statement is valid.
use Rattle.std.proofs.Common.{◌≡◌, refl, sym, ap, ◌∙◌, subst, arith}
use Rattle.std.proofs.lemmas.List.{append_assoc, append-nil, length-append, length-map}
use Rattle.std.proofs.lemmas.Option.{slice_get_within}
use Rattle.std.specs.Prelude.{ℕ, ◌+◌, ◌≤◌, ◌<◌, List, [], ◌∷◌, ◌++◌, length, map, slice_get}
use Rattle.cloud_base.specs.Shaped.{property_at}
use Rattle.cloud_base.specs.declared.schema.Schema.{Schema}
use Rattle.typed_program.specs.declared.expression.Expression.{Expression}
use Rattle.typed_program.specs.declared.expression.Kind.{Kind}
use Rattle.typed_program.specs.declared.expression.Kind.TheVariants.{Truth, Id}
use Rattle.typed_program.specs.declared.statement.Statement.{Statement}
use Rattle.typed_program.specs.Kinds as kinds
use Rattle.typed_program.specs.Kinds.{IsStatement, IsBlock, IsLine, HasKind, key_kind}
use Rattle.plain_vm.specs.Exec.{push_all}
use Rattle.plain_vm.specs.declared.instruction.Instruction.{Instruction}
use Rattle.plain_vm.specs.declared.instruction.Instruction.TheVariants as i
use Rattle.plain_vm.specs.Valid.{Shape, Serves, with_slot}
use Rattle.code_gen.specs.Compile.{expression_code, keys_code, statement_code, block_code, key_count}
use Rattle.code_gen.proofs.Codes as code
use Rattle.code_gen.proofs.Slots.{Slots, Know, know_fewer, know_assigned, know_declared}
use Rattle.code_gen.proofs.Sound.{Sound, shape_of, serves_same, serves_known, sound_same, sound_moved, sound_served, sound_nothing, sound_one, sound_then, sound_either, sound_only}
use Rattle.code_gen.proofs.SoundLoops.{sound_while, sound_loop}
use Rattle.code_gen.proofs.ValidExpressions.{sees, have_many, slot_sound, value_sound, keys_sound}

-- what is visible after a statement is what was before, with what it declares
record Declares (seen after : List Kind) : Type 0 where
  more : List Kind
  is : after ≡ seen ++ more
  few : length after ≤ 64

declares_none : (seen : List Kind) → length seen ≤ 64 → Declares seen seen
declares_none seen few = record { more = []; is = sym (append-nil seen); few = few }

declares_one : (seen : List Kind) (n : ℕ) (kind : Kind) → n ≡ length seen → n < 64 → Declares seen (seen ++ kind ∷ [])
declares_one seen n kind at below = record { more = kind ∷ []; is = refl; few = omega (arith, at, below, length-append seen (kind ∷ [])) }

declares : (schema : Schema) (seen : List Kind) (statement : Statement) (after : List Kind) → length seen ≤ 64 → IsStatement schema seen statement after → Declares seen after
declares schema seen statement after few (kinds.declare vs n slot a kind l at below h) = declares_one vs slot kind at below
declares schema seen statement after few (kinds.assign vs n slot a kind l there h) = declares_none vs few
declares schema seen statement after few (kinds.create vs n slot number entity keys l at below there hs) = declares_one vs slot (Id number) at below
declares schema seen statement after few (kinds.update vs n number property keys operator a kind l there hs t h) = declares_none vs few
declares schema seen statement after few (kinds.delete vs n slot entity l there) = declares_none vs few
declares schema seen statement after few (kinds.if_only vs n a first l h b) = declares_none vs few
declares schema seen statement after few (kinds.if_else vs n a first second l h b d) = declares_none vs few
declares schema seen statement after few (kinds.while vs n a block l h b) = declares_none vs few
declares schema seen statement after few (kinds.for_all vs n slot number entity block l at below there b) = declares_none vs few
declares schema seen statement after few (kinds.for_entries vs n slot number property block l at below there b) = declares_none vs few
declares schema seen statement after few (kinds.print vs n a kind l h) = declares_none vs few
declares schema seen statement after few (kinds.yield vs n l) = declares_none vs few
declares schema seen statement after few (kinds.flush vs n l) = declares_none vs few

-- more is visible
sees_fewer : (seen after stack : List Kind) (listings : List (List Kind)) → Declares seen after → Serves (sees after stack listings) (sees seen stack listings)
sees_fewer seen after stack listings d = subst (λ l. Serves (sees l stack listings) (sees seen stack listings)) (sym d.is) (serves_known stack (slice_get (seen ++ d.more)) (slice_get seen) listings (know_fewer seen d.more))

-- `begin`, and what a statement does
sound_begun : {schema : Schema} {place : ℕ} (rest : List Instruction) (before after : Shape) → Sound schema (place + 1) rest before after → Sound schema place (i.Begin ∷ rest) before after
sound_begun rest before after s = sound_then (i.Begin ∷ []) rest before before after (sound_one i.Begin before before refl (λ all on. on)) s

-- a store, from which less is wanted
sound_store : {schema : Schema} {place : ℕ} (n : ℕ) (kind : Kind) (stack : List Kind) (slots wanted : Slots) (listings : List (List Kind)) → n < 64 → Know (with_slot slots n kind) wanted
    → Sound schema place (i.Store n ∷ []) (shape_of (kind ∷ stack) slots listings) (shape_of stack wanted listings)
sound_store n kind stack slots wanted listings below know =
    let stored : Shape = shape_of stack (with_slot slots n kind) listings in
    let before : Shape = shape_of (kind ∷ stack) slots listings in
    sound_served before (shape_of stack wanted listings) before stored (serves_same before) (serves_known stack (with_slot slots n kind) wanted listings know)
    (sound_one (i.Store n) before stored refl (λ all on. (below, kind, stack, refl, on)))

store_sound : (schema : Schema) (seen after : List Kind) → length seen ≤ 64 → (line : ℕ) → IsLine line → (n : ℕ) (a : Expression) (kind : Kind) → n < 64 → Know (with_slot (slice_get seen) n kind) (slice_get after) → HasKind schema seen a kind
    → (place : ℕ) (stack : List Kind) (listings : List (List Kind)) → Sound schema place (i.Begin ∷ (expression_code line a (place + 1) ++ i.Store n ∷ [])) (sees seen stack listings) (sees after stack listings)
store_sound schema seen after few line l n a kind below know h place stack listings =
    let first : List Instruction = expression_code line a (place + 1) in
    sound_begun (first ++ i.Store n ∷ []) (sees seen stack listings) (sees after stack listings)
    (sound_then first (i.Store n ∷ []) (sees seen stack listings) (sees seen (kind ∷ stack) listings) (sees after stack listings) (value_sound schema line l seen few a kind h (place + 1) stack listings)
    (sound_store n kind stack (slice_get seen) (slice_get after) listings below know))

mutual
  pub statement_sound : (schema : Schema) (seen : List Kind) → length seen ≤ 64 → (statement : Statement) (after : List Kind) → IsStatement schema seen statement after → (place : ℕ) (stack : List Kind) (listings : List (List Kind))
      → Sound schema place (statement_code schema statement place) (sees seen stack listings) (sees after stack listings)
  statement_sound schema seen few statement after (kinds.declare vs line n a kind l at below h) place stack listings = sound_same _ _ (code.code_store schema line n a place)
      (store_sound schema vs (vs ++ kind ∷ []) few line l n a kind below (know_declared vs (kind ∷ []) n at) h place stack listings)
  statement_sound schema seen few statement after (kinds.assign vs line n a kind l there h) place stack listings =
      let within : n < length vs = slice_get_within vs n kind there in
      sound_same _ _ (code.code_store schema line n a place) (store_sound schema vs vs few line l n a kind (omega (arith, few, within)) (know_assigned vs n kind there) h place stack listings)
  statement_sound schema seen few statement after (kinds.create vs line n number entity keys l at below there hs) place stack listings =
      let first : List Instruction = keys_code line keys (place + 1) in
      let many : length keys ≡ length entity.keys = have_many schema vs keys _ hs ∙ length-map entity.keys key_kind in
      let made : Instruction = i.New number (length keys) in
      sound_same _ _ (code.code_create schema line n number keys place) (sound_begun (first ++ made ∷ i.Store n ∷ []) (sees vs stack listings) _
      (sound_then first (made ∷ i.Store n ∷ []) (sees vs stack listings) (sees vs (push_all (map key_kind entity.keys) stack) listings) _ (keys_sound schema line l vs few keys _ hs (place + 1) stack listings)
      (sound_then (made ∷ []) (i.Store n ∷ []) (sees vs (push_all (map key_kind entity.keys) stack) listings) (sees vs (Id number ∷ stack) listings) _ (sound_one made _ _ refl (λ all on. (entity, stack, there, many, refl, on)))
      (sound_store n (Id number) stack (slice_get vs) (slice_get (vs ++ Id number ∷ [])) listings below (know_declared vs (Id number ∷ []) n at)))))
  statement_sound schema seen few statement after (kinds.update vs line number property keys operator a kind l there hs t h) place stack listings =
      let first : List Instruction = keys_code line keys (place + 1) in
      let second : List Instruction = expression_code line a (place + 1 + length first) in
      let put : Instruction = i.Put operator number (length keys) in
      let many : length keys ≡ length property.keys = have_many schema vs keys _ hs ∙ length-map property.keys key_kind in
      let pushed : List Kind = push_all (map key_kind property.keys) stack in
      sound_same _ _ (code.code_update schema line number keys operator a place ∙ ap (λ x. i.Begin ∷ x) (append_assoc first second (put ∷ []))) (sound_begun (first ++ (second ++ put ∷ [])) (sees vs stack listings) (sees vs stack listings)
      (sound_then first (second ++ put ∷ []) (sees vs stack listings) (sees vs pushed listings) (sees vs stack listings) (keys_sound schema line l vs few keys _ hs (place + 1) stack listings)
      (sound_then second (put ∷ []) (sees vs pushed listings) (sees vs (kind ∷ pushed) listings) (sees vs stack listings) (value_sound schema line l vs few a kind h (place + 1 + length first) pushed listings)
      (sound_one put _ _ refl (λ all on. (property, kind, stack, there, many, refl, t, on))))))
  statement_sound schema seen few statement after (kinds.delete vs line n entity l there) place stack listings = sound_same _ _ (code.code_delete schema line n entity place)
      (sound_begun (i.Load n ∷ i.Delete ∷ []) (sees vs stack listings) (sees vs stack listings)
      (sound_then (i.Load n ∷ []) (i.Delete ∷ []) (sees vs stack listings) (sees vs (Id entity ∷ stack) listings) (sees vs stack listings) (slot_sound schema vs few n (Id entity) there (place + 1) stack listings)
      (sound_one i.Delete _ _ refl (λ all on. (entity, stack, refl, on)))))
  statement_sound schema seen few statement after (kinds.if_only vs line a block l h b) place stack listings =
      let first : List Instruction = expression_code line a (place + 1) in
      let second : List Instruction = block_code schema block (place + 1 + (length first + 1)) in
      let to : ℕ = place + 1 + (length first + (length second + 1)) in
      sound_same _ _ (code.code_if_only schema line a block place) (sound_begun (first ++ i.JumpIfFalse to ∷ second) (sees vs stack listings) (sees vs stack listings)
      (sound_then first (i.JumpIfFalse to ∷ second) (sees vs stack listings) (sees vs (Truth ∷ stack) listings) (sees vs stack listings) (value_sound schema line l vs few a Truth h (place + 1) stack listings)
      (sound_only second stack (slice_get vs) listings to (omega arith) (sound_moved (place + 1 + (length first + 1)) (place + 1 + length first + 1) (omega arith) (block_sound schema vs few block b (place + 1 + (length first + 1)) stack listings)))))
  statement_sound schema seen few statement after (kinds.if_else vs line a yea nay l h b d) place stack listings =
      let first : List Instruction = expression_code line a (place + 1) in
      let second : List Instruction = block_code schema yea (place + 1 + (length first + 1)) in
      let third : List Instruction = block_code schema nay (place + 1 + (length first + (length second + 2))) in
      let to : ℕ = place + 1 + (length first + (length second + 2)) in
      let behind : ℕ = place + 1 + (length first + (length second + (length third + 2))) in
      sound_same _ _ (code.code_if_else schema line a yea nay place) (sound_begun (first ++ i.JumpIfFalse to ∷ (second ++ i.Jump behind ∷ third)) (sees vs stack listings) (sees vs stack listings)
      (sound_then first (i.JumpIfFalse to ∷ (second ++ i.Jump behind ∷ third)) (sees vs stack listings) (sees vs (Truth ∷ stack) listings) (sees vs stack listings) (value_sound schema line l vs few a Truth h (place + 1) stack listings)
      (sound_either second third stack (slice_get vs) listings (sees vs stack listings) to behind (omega arith) (omega arith)
      (sound_moved (place + 1 + (length first + 1)) (place + 1 + length first + 1) (omega arith) (block_sound schema vs few yea b (place + 1 + (length first + 1)) stack listings)) (block_sound schema vs few nay d to stack listings))))
  statement_sound schema seen few statement after (kinds.while vs line a block l h b) place stack listings =
      let first : List Instruction = expression_code line a (place + 1) in
      let second : List Instruction = block_code schema block (place + (length first + 2)) in
      sound_same _ _ (code.code_while schema line a block place) (sound_while first second stack (slice_get vs) listings (value_sound schema line l vs few a Truth h (place + 1) stack listings)
      (block_sound schema vs few block b (place + (length first + 2)) stack listings))
  statement_sound schema seen few statement after (kinds.for_all vs line n number entity block l at below there b) place stack listings =
      let kind : List Kind = Id number ∷ [] in
      let part : List Instruction = block_code schema block (place + 1 + 3) in
      sound_same _ _ (code.code_for_all schema line n number block place) (sound_begun _ (sees vs stack listings) (sees vs stack listings)
      (sound_then (i.All number ∷ []) _ (sees vs stack listings) (sees vs stack (kind ∷ listings)) (sees vs stack listings) (sound_one (i.All number) _ _ refl (λ all on. (entity, there, on)))
      (sound_loop vs kind n 1 part stack listings at (omega (arith, below)) refl
      (sound_moved (place + 1 + 3) (place + 1 + 1 + (1 + 1)) (omega arith) (block_sound schema (vs ++ kind) (omega (arith, at, below, length-append vs kind)) block b (place + 1 + 3) stack (kind ∷ listings))))))
  statement_sound schema seen few statement after (kinds.for_entries vs line n number property block l at below there b) place stack listings =
      let types : List Kind = map key_kind property.keys in
      let count : ℕ = key_count (property_at schema number) in
      let part : List Instruction = block_code schema block (place + 1 + (count + 2)) in
      let as_many : length types ≡ length property.keys = length-map property.keys key_kind in
      let many : count ≡ length types = ap key_count there ∙ sym as_many in
      sound_same _ _ (code.code_for_entries schema line n number block place) (sound_begun _ (sees vs stack listings) (sees vs stack listings)
      (sound_then (i.Entries number ∷ []) _ (sees vs stack listings) (sees vs stack (types ∷ listings)) (sees vs stack listings) (sound_one (i.Entries number) _ _ refl (λ all on. (property, there, on)))
      (sound_loop vs types n count part stack listings at (omega (arith, below, as_many)) many
      (sound_moved (place + 1 + (count + 2)) (place + 1 + 1 + (count + 1)) (omega arith) (block_sound schema (vs ++ types) (omega (arith, at, below, as_many, length-append vs types)) block b (place + 1 + (count + 2)) stack (types ∷ listings))))))
  statement_sound schema seen few statement after (kinds.print vs line a kind l h) place stack listings =
      let first : List Instruction = expression_code line a (place + 1) in
      sound_same _ _ (code.code_print schema line a place) (sound_begun (first ++ i.Say ∷ []) (sees vs stack listings) (sees vs stack listings)
      (sound_then first (i.Say ∷ []) (sees vs stack listings) (sees vs (kind ∷ stack) listings) (sees vs stack listings) (value_sound schema line l vs few a kind h (place + 1) stack listings)
      (sound_one i.Say _ _ refl (λ all on. (kind, stack, refl, on)))))
  statement_sound schema seen few statement after (kinds.yield vs line l) place stack listings = sound_same _ _ (code.code_yield schema line place)
      (sound_begun (i.Yield ∷ []) (sees vs stack listings) (sees vs stack listings) (sound_one i.Yield _ _ refl (λ all on. on)))
  statement_sound schema seen few statement after (kinds.flush vs line l) place stack listings = sound_same _ _ (code.code_flush schema line place)
      (sound_begun (i.Flush ∷ []) (sees vs stack listings) (sees vs stack listings) (sound_one i.Flush _ _ refl (λ all on. on)))

  pub block_sound : (schema : Schema) (seen : List Kind) → length seen ≤ 64 → (block : List Statement) → IsBlock schema seen block → (place : ℕ) (stack : List Kind) (listings : List (List Kind))
      → Sound schema place (block_code schema block place) (sees seen stack listings) (sees seen stack listings)
  block_sound schema seen few block (kinds.end vs) place stack listings = sound_nothing (sees vs stack listings)
  block_sound schema seen few block (kinds.next vs after statement rest h hs) place stack listings =
      let first : List Instruction = statement_code schema statement place in
      let d : Declares vs after = declares schema vs statement after few h in
      let before : Shape = sees vs stack listings in
      let later : Shape = sees after stack listings in
      sound_then first (block_code schema rest (place + length first)) before later before (statement_sound schema vs few statement after h place stack listings)
      (sound_served later before later later (serves_same later) (sees_fewer vs after stack listings d) (block_sound schema after d.few rest hs (place + length first) stack listings))
