-- The code of a statement does what the statement does.
use Rattle.std.proofs.Common.{◌≡◌, refl, sym, ap, ◌∙◌, arith}
use Rattle.std.proofs.Math.Nat.{not-suc-le-zero}
use Rattle.std.proofs.lemmas.List.{append_assoc, length-append}
use Rattle.std.specs.Prelude.{ℕ, zero, suc, ◌+◌, ◌<◌, List, [], ◌∷◌, ◌++◌, length, map, if◌then◌else◌}
use Rattle.cloud_base.specs.Shaped.{property_at}
use Rattle.cloud_base.specs.declared.schema.Schema.{Schema}
use Rattle.cloud_base.specs.declared.update.Answer.{Answer}
use Rattle.cloud_base.specs.declared.update.Answer.TheVariants as answer
use Rattle.cloud_base.specs.declared.update.Event.TheVariants as event
use Rattle.cloud_base.specs.declared.update.Update.TheVariants as update
use Rattle.cloud_base.specs.Values.{Id}
use Rattle.typed_program.specs.declared.expression.Expression.{Expression}
use Rattle.typed_program.specs.declared.expression.Kind.{Kind}
use Rattle.typed_program.specs.declared.statement.Statement.{Statement}
use Rattle.typed_program.specs.declared.statement.Statement.TheVariants as s
use Rattle.typed_program.specs.Does.{Does, done, begin, load, store, tell, next_id, each, ◌>>=◌, then_by}
use Rattle.typed_program.specs.Kinds as kinds
use Rattle.typed_program.specs.Kinds.{HasKind, IsStatement, IsBlock}
use Rattle.typed_program.specs.Trace.{value, truth_of, id_of, key_of, change_of, does, does_body}
use Rattle.typed_program.proofs.Equations as eq
use Rattle.typed_program.proofs.Orderly.{Orderly, orderly_bind, orderly_done, orderly_load, orderly_store, orderly_tell, orderly_id, value_orderly, does_orderly}
use Rattle.typed_program.proofs.Traces.{while_again}
use Rattle.plain_vm.specs.declared.instruction.Instruction.{Instruction}
use Rattle.plain_vm.specs.declared.instruction.Instruction.TheVariants as i
use Rattle.plain_vm.specs.Exec.{Next, push_all, go_to}
use Rattle.code_gen.specs.Compile.{expression_code, keys_code, statement_code, block_code, while_code, key_count}
use Rattle.code_gen.proofs.Codes as code
use Rattle.code_gen.proofs.Expressions.{value_renders, values_render, pops_these}
use Rattle.code_gen.proofs.Listings.{ids_render, tuples_render}
use Rattle.code_gen.proofs.Parts.{Has, has_front, has_back, has_moved}
use Rattle.code_gen.proofs.Performs.{Performs, at_place, performs_assoc, performs_same, performs_moved, performs_weaker, silently, begins, forks}
use Rattle.code_gen.proofs.Renders.{Renders, Anything, if_orderly, renders_same, renders_one, renders_known, renders_then, renders_moved, renders_done, renders_begun, renders_either, renders_only}

-- `while` begins anew before each test
turns_perform : {schema : Schema} {code : List Instruction} {place : ℕ} {stack listings : List Answer} (line : ℕ) (a : Expression) (block : List Statement) (first second : List Instruction) (to : ℕ) (k : Unit {0} → Next)
    → Has code place (while_code place first second) → place + (length first + (length second + 3)) ≡ to → Renders schema code (place + 1) first stack (value line a) Anything (λ v. v ∷ stack)
    → Renders schema code (place + (length first + 2)) second stack (does_body block) Anything (λ u. stack) → ((u : Unit {0}) → Orderly (k u)) → (bound turns : ℕ) → turns < bound
    → Performs schema code turns to stack listings (k tt) → Performs schema code turns place stack listings (does (s.While line a block) >>= k)
turns_perform line a block first second to k h e test body ok zero turns less next = absurd (not-suc-le-zero less)
turns_perform {schema = schema} {code = code} {place = place} {stack = stack} {listings = listings} line a block first second to k h e test body ok (suc bound) turns less next =
    performs_same ((begin >>= λ u. value line a >>= λ v. if truth_of v then (does_body block >>= λ u. again) else done tt) >>= k) (again >>= k) (λ w. ap (λ r. then_by r k) (sym (while_again line a block w)))
    (performs_assoc begin (λ u. value line a >>= λ v. if truth_of v then (does_body block >>= λ u. again) else done tt) k (begins ((value line a >>= λ v. if truth_of v then (does_body block >>= λ u. again) else done tt) >>= k) h.0 (λ t fewer. once t fewer (turns_perform line a block first second to k h e test body ok bound t (omega (arith, fewer, less))))))
  where
    again : Does (Unit {0})
    again = does (s.While line a block)

    orderly_again : Orderly again
    orderly_again = does_orderly (s.While line a block)

    tail : List Instruction
    tail = second ++ i.Jump place ∷ []

    jump : Has code (suc place + length first) (i.JumpIfFalse (place + (length first + (length second + 3))) ∷ tail)
    jump = has_back code (suc place) first (i.JumpIfFalse (place + (length first + (length second + 3))) ∷ tail) h.1

    back : Has code (suc (suc place + length first) + length second) (i.Jump place ∷ [])
    back = has_back code (suc (suc place + length first)) second (i.Jump place ∷ []) jump.1

    once : (t : ℕ) → t < turns → (Performs schema code t to stack listings (k tt) → Performs schema code t place stack listings (again >>= k)) → Performs schema code t (suc place) stack listings ((value line a >>= λ v. if truth_of v then (does_body block >>= λ u. again) else done tt) >>= k)
    once t fewer same =
        let exit : Performs schema code t to stack listings (k tt) = performs_weaker t turns (omega (arith, fewer)) next in
        performs_assoc (value line a) (λ v. if truth_of v then (does_body block >>= λ u. again) else done tt) k
        (performs_moved (place + 1) (suc place) (omega arith) (test.by (has_moved code (suc place) (place + 1) first (omega arith) (has_front code (suc place) first (i.JumpIfFalse (place + (length first + (length second + 3))) ∷ tail) h.1))
        t (suc place + length first) (omega arith) listings (λ v. (if truth_of v then (does_body block >>= λ u. again) else done tt) >>= k)
        (λ v. orderly_bind (if truth_of v then (does_body block >>= λ u. again) else done tt) k (if_orderly (truth_of v) (orderly_bind (does_body block) (λ u. again) body.orderly (λ u. orderly_again)) (orderly_done tt)) ok)
        (λ v known. forks (place + (length first + (length second + 3))) v (does_body block >>= λ u. again) (done tt) k jump.0
        (performs_assoc (does_body block) (λ u. again) k
        (performs_moved (place + (length first + 2)) (suc (suc place + length first)) (omega arith) (body.by (has_moved code (suc (suc place + length first)) (place + (length first + 2)) second (omega arith)
        (has_front code (suc (suc place + length first)) second (i.Jump place ∷ []) jump.1)) t (suc (suc place + length first) + length second) (omega arith) listings (λ u. again >>= k) (λ u. orderly_bind again k orderly_again ok)
        (λ u known. silently (i.Jump place) (at_place place stack listings) (again >>= k) back.0 refl (same exit)))))
        (performs_moved to (place + (length first + (length second + 3))) (sym e) exit))))

turns_render : {schema : Schema} {code : List Instruction} {place : ℕ} {stack : List Answer} (line : ℕ) (a : Expression) (block : List Statement) (first second : List Instruction)
    → Renders schema code (place + 1) first stack (value line a) Anything (λ v. v ∷ stack) → Renders schema code (place + (length first + 2)) second stack (does_body block) Anything (λ u. stack)
    → Renders schema code place (while_code place first second) stack (does (s.While line a block)) Anything (λ u. stack)
turns_render {place = place} line a block first second test body = record {
  orderly = does_orderly (s.While line a block);
  by = λ h turns to e ls k ok next. turns_perform line a block first second to k h
      (omega (arith, e, length-append first (i.JumpIfFalse (place + (length first + (length second + 3))) ∷ (second ++ i.Jump place ∷ [])), length-append second (i.Jump place ∷ []))) test body ok (suc turns) turns (omega arith) (next tt tt);
}

store_renders : (schema : Schema) (whole : List Instruction) (seen : List Kind) (line n : ℕ) (a : Expression) (kind : Kind) → HasKind schema seen a kind → (place : ℕ) (stack : List Answer)
    → Renders schema whole place (statement_code schema (s.Store line n a) place) stack (does (s.Store line n a)) Anything (λ u. stack)
store_renders schema whole seen line n a kind h place stack =
    let first : List Instruction = expression_code line a (place + 1) in
    renders_same (code.code_store schema line n a place) (eq.does_store line n a)
    (renders_begun (first ++ i.Store n ∷ []) (value line a >>= λ v. store n v)
    (renders_then first (i.Store n ∷ []) (value line a) (λ v. store n v) (value_renders schema whole seen line a kind h (place + 1) stack)
    (λ v. renders_one (i.Store n) (store n v) (λ u. stack) (orderly_store n v) (λ ls. refl))))

mutual
  pub statement_renders : (schema : Schema) (whole : List Instruction) (seen : List Kind) (statement : Statement) (after : List Kind) → IsStatement schema seen statement after → (place : ℕ) (stack : List Answer)
      → Renders schema whole place (statement_code schema statement place) stack (does statement) Anything (λ u. stack)
  statement_renders schema whole seen statement after (kinds.declare vs line n a kind l at few h) place stack = store_renders schema whole vs line n a kind h place stack
  statement_renders schema whole seen statement after (kinds.assign vs line n a kind l there h) place stack = store_renders schema whole vs line n a kind h place stack
  statement_renders schema whole seen statement after (kinds.create vs line n number entity keys l at few there hs) place stack = renders_same (code.code_create schema line n number keys place) (eq.does_create line n number keys)
      (renders_begun (keys_code line keys (place + 1) ++ i.New number (length keys) ∷ i.Store n ∷ []) (each (map (value line) keys) >>= λ values. create values)
      (renders_known (keys_code line keys (place + 1)) (i.New number (length keys) ∷ i.Store n ∷ []) (each (map (value line) keys)) create orderly_create (values_render schema whole vs line keys _ hs (place + 1) stack)
      (λ values many. renders_then (i.New number (length keys) ∷ []) (i.Store n ∷ []) (made values) (λ id. store n (answer.Id id))
      (renders_one (i.New number (length keys)) (made values) (λ id. answer.Id id ∷ stack) (orderly_made values)
      (λ ls. pops_these (length keys) values stack (λ ks rest. next_id >>= λ id. tell (event.Do (update.Create id number (map key_of ks))) >>= λ u. go_to (suc (place + 1 + length (keys_code line keys (place + 1)))) (answer.Id id ∷ rest) ls) many))
      (λ id. renders_one (i.Store n) (store n (answer.Id id)) (λ u. stack) (orderly_store n (answer.Id id)) (λ ls. refl)))))
    where
      made : List Answer → Does Id
      made values = next_id >>= λ id. tell (event.Do (update.Create id number (map key_of values))) >>= λ u. done id

      orderly_made : (values : List Answer) → Orderly (made values)
      orderly_made values = orderly_bind next_id _ orderly_id (λ id. orderly_bind (tell (event.Do (update.Create id number (map key_of values)))) (λ u. done id) (orderly_tell _ refl) (λ u. orderly_done id))

      create : List Answer → Does (Unit {0})
      create values = next_id >>= λ id. tell (event.Do (update.Create id number (map key_of values))) >>= λ u. store n (answer.Id id)

      orderly_create : (values : List Answer) → Orderly (create values)
      orderly_create values = orderly_bind next_id _ orderly_id (λ id. orderly_bind (tell (event.Do (update.Create id number (map key_of values)))) (λ u. store n (answer.Id id)) (orderly_tell _ refl) (λ u. orderly_store n (answer.Id id)))
  statement_renders schema whole seen statement after (kinds.update vs line number property keys operator a kind l there hs t h) place stack =
      let first : List Instruction = keys_code line keys (place + 1) in
      let second : List Instruction = expression_code line a (place + 1 + length first) in
      renders_same (code.code_update schema line number keys operator a place ∙ ap (λ x. i.Begin ∷ x) (append_assoc first second (i.Put operator number (length keys) ∷ []))) (eq.does_update line number keys operator a)
      (renders_begun (first ++ (second ++ i.Put operator number (length keys) ∷ [])) (each (map (value line) keys) >>= λ values. value line a >>= λ v. put values v)
      (renders_known first (second ++ i.Put operator number (length keys) ∷ []) (each (map (value line) keys)) (λ values. value line a >>= λ v. put values v)
      (λ values. orderly_bind (value line a) (put values) (value_orderly line a) (λ v. orderly_tell _ refl)) (values_render schema whole vs line keys _ hs (place + 1) stack)
      (λ values many. renders_then second (i.Put operator number (length keys) ∷ []) (value line a) (put values) (value_renders schema whole vs line a kind h (place + 1 + length first) (push_all values stack))
      (λ v. renders_one (i.Put operator number (length keys)) (put values v) (λ u. stack) (orderly_tell _ refl)
      (λ ls. pops_these (length keys) values stack (λ ks below. tell (event.Do (update.Cell number (map key_of ks) (change_of operator v))) >>= λ u. go_to (suc (place + 1 + length first + length second)) below ls) many)))))
    where
      put : List Answer → Answer → Does (Unit {0})
      put values v = tell (event.Do (update.Cell number (map key_of values) (change_of operator v)))
  statement_renders schema whole seen statement after (kinds.delete vs line n entity l there) place stack = renders_same (code.code_delete schema line n entity place) (eq.does_delete line n entity)
      (renders_begun (i.Load n ∷ i.Delete ∷ []) (load n >>= λ v. tell (event.Do (update.Delete (id_of v))))
      (renders_then (i.Load n ∷ []) (i.Delete ∷ []) (load n) (λ v. tell (event.Do (update.Delete (id_of v)))) (renders_one (i.Load n) (load n) (λ v. v ∷ stack) (orderly_load n) (λ ls. refl))
      (λ v. renders_one i.Delete (tell (event.Do (update.Delete (id_of v)))) (λ u. stack) (orderly_tell _ refl) (λ ls. refl))))
  statement_renders schema whole seen statement after (kinds.if_only vs line a block l h b) place stack =
      let first : List Instruction = expression_code line a (place + 1) in
      let second : List Instruction = block_code schema block (place + 1 + (length first + 1)) in
      let to : ℕ = place + 1 + (length first + (length second + 1)) in
      renders_same (code.code_if_only schema line a block place) (eq.does_if_only line a block)
      (renders_begun (first ++ i.JumpIfFalse to ∷ second) (value line a >>= λ v. if truth_of v then does_body block else done tt)
      (renders_then first (i.JumpIfFalse to ∷ second) (value line a) (λ v. if truth_of v then does_body block else done tt) (value_renders schema whole vs line a _ h (place + 1) stack)
      (λ v. renders_only v second (does_body block) to (omega arith) (renders_moved (place + 1 + (length first + 1)) (place + 1 + length first + 1) (omega arith) (block_renders schema whole vs block b (place + 1 + (length first + 1)) stack)))))
  statement_renders schema whole seen statement after (kinds.if_else vs line a yea nay l h b d) place stack =
      let first : List Instruction = expression_code line a (place + 1) in
      let second : List Instruction = block_code schema yea (place + 1 + (length first + 1)) in
      let third : List Instruction = block_code schema nay (place + 1 + (length first + (length second + 2))) in
      let to : ℕ = place + 1 + (length first + (length second + 2)) in
      let behind : ℕ = place + 1 + (length first + (length second + (length third + 2))) in
      renders_same (code.code_if_else schema line a yea nay place) (eq.does_if_else line a yea nay)
      (renders_begun (first ++ i.JumpIfFalse to ∷ (second ++ i.Jump behind ∷ third)) (value line a >>= λ v. if truth_of v then does_body yea else does_body nay)
      (renders_then first (i.JumpIfFalse to ∷ (second ++ i.Jump behind ∷ third)) (value line a) (λ v. if truth_of v then does_body yea else does_body nay) (value_renders schema whole vs line a _ h (place + 1) stack)
      (λ v. renders_either v second third (does_body yea) (does_body nay) to behind (omega arith) (omega arith)
      (renders_moved (place + 1 + (length first + 1)) (place + 1 + length first + 1) (omega arith) (block_renders schema whole vs yea b (place + 1 + (length first + 1)) stack)) (block_renders schema whole vs nay d to stack))))
  statement_renders schema whole seen statement after (kinds.while vs line a block l h b) place stack =
      let first : List Instruction = expression_code line a (place + 1) in
      let second : List Instruction = block_code schema block (place + (length first + 2)) in
      renders_same (code.code_while schema line a block place) refl
      (turns_render line a block first second (value_renders schema whole vs line a _ h (place + 1) stack) (block_renders schema whole vs block b (place + (length first + 2)) stack))
  statement_renders schema whole seen statement after (kinds.for_all vs line n number entity block l at few there b) place stack =
      let part : List Instruction = block_code schema block (place + 1 + 3) in
      renders_same (code.code_for_all schema line n number block place) (eq.does_for_all line n number block)
      (renders_begun _ _ (ids_render n number part (does_body block) (block_renders schema whole _ block b (place + 1 + 3) stack)))
  statement_renders schema whole seen statement after (kinds.for_entries vs line n number property block l at few there b) place stack =
      let count : ℕ = key_count (property_at schema number) in
      let part : List Instruction = block_code schema block (place + 1 + (count + 2)) in
      renders_same (code.code_for_entries schema line n number block place) (eq.does_for_entries line n number block)
      (renders_begun _ _ (tuples_render n number part (does_body block) (block_renders schema whole _ block b (place + 1 + (count + 2)) stack)))
  statement_renders schema whole seen statement after (kinds.print vs line a kind l h) place stack =
      let first : List Instruction = expression_code line a (place + 1) in
      renders_same (code.code_print schema line a place) (eq.does_print line a)
      (renders_begun (first ++ i.Say ∷ []) (value line a >>= λ v. tell (event.Say v))
      (renders_then first (i.Say ∷ []) (value line a) (λ v. tell (event.Say v)) (value_renders schema whole vs line a kind h (place + 1) stack)
      (λ v. renders_one i.Say (tell (event.Say v)) (λ u. stack) (orderly_tell _ refl) (λ ls. refl))))
  statement_renders schema whole seen statement after (kinds.yield vs line l) place stack = renders_same (code.code_yield schema line place) (eq.does_yield line)
      (renders_begun (i.Yield ∷ []) (tell event.Yield) (renders_one i.Yield (tell event.Yield) (λ u. stack) (orderly_tell _ refl) (λ ls. refl)))
  statement_renders schema whole seen statement after (kinds.flush vs line l) place stack = renders_same (code.code_flush schema line place) (eq.does_flush line)
      (renders_begun (i.Flush ∷ []) (tell event.Flush) (renders_one i.Flush (tell event.Flush) (λ u. stack) (orderly_tell _ refl) (λ ls. refl)))

  pub block_renders : (schema : Schema) (whole : List Instruction) (seen : List Kind) (block : List Statement) → IsBlock schema seen block → (place : ℕ) (stack : List Answer)
      → Renders schema whole place (block_code schema block place) stack (does_body block) Anything (λ u. stack)
  block_renders schema whole seen block (kinds.end vs) place stack = renders_done tt
  block_renders schema whole seen block (kinds.next vs after statement rest h hs) place stack =
      let first : List Instruction = statement_code schema statement place in
      renders_then first (block_code schema rest (place + length first)) (does statement) (λ u. does_body rest) (statement_renders schema whole vs statement after h place stack)
      (λ u. block_renders schema whole after rest hs (place + length first) stack)
