-- An instruction that tells and asks nothing leaves less to do.
use Rattle.std.proofs.Common.{◌≡◌, refl, sym, ap, ◌∙◌, subst, arith, length-append}
use Rattle.std.proofs.Math.Nat.{suc-mul}
use Rattle.std.proofs.lemmas.Option.{slice_get_within}
use Rattle.std.specs.Prelude.{ℕ, zero, suc, pos, not, neg_ℤ, ◌+◌, ◌*◌, ◌-◌, ◌<◌, ◌≤◌, ◌⊎◌, Bool, true, false, List, [], ◌∷◌, ◌++◌, length, map, Option, None, Some, slice_get, slice_set, slice_index_or, if◌then◌else◌}
use mathlib.Core.Logic.{inl, inr}
use Rattle.cloud_base.specs.declared.schema.Schema.{Schema}
use Rattle.cloud_base.specs.declared.update.Answer.{Answer}
use Rattle.cloud_base.specs.declared.update.Answer.TheVariants as answer
use Rattle.cloud_base.specs.declared.update.Event.{Event}
use Rattle.cloud_base.specs.declared.update.Event.TheVariants as event
use Rattle.cloud_base.specs.declared.update.Query.{Query}
use Rattle.cloud_base.specs.declared.update.Query.TheVariants as query
use Rattle.cloud_base.specs.declared.update.Update.TheVariants as update
use Rattle.cloud_base.specs.Values.{Id}
use Rattle.typed_program.specs.declared.expression.Operator.{Operator}
use Rattle.typed_program.specs.declared.expression.Operator.TheVariants as op
use Rattle.typed_program.specs.Does.{World, Does, ◌>>=◌, then_by, ask, tell, next_id, ask_next, begin_with, listed}
use Rattle.typed_program.specs.Trace.{int_of, id_of, key_of, value_of, wrapped, change_of, is_zero, truth_of, combine}
use Rattle.plain_vm.specs.declared.instruction.Instruction.{Instruction}
use Rattle.plain_vm.specs.Exec.{Standing, Next, go_to, pops, push_all, literal_value, operator_of, line_of, first_item, take_item, act, act_at, step}
use Rattle.plain_vm.specs.Left.{open_items, unless_head, distance, left_to_do, Falls}
use Rattle.plain_vm.specs.Valid.{Shape, LandsWell, IsHead, IsValid, jump_of}
use Rattle.plain_vm.proofs.Well.{fine_at}

bounded : (o : Option Instruction) (n : ℕ) → unless_head o n ≤ n
bounded None n = omega arith
bounded (Some Instruction.Begin) n = omega arith
bounded (Some (Instruction.Next to parts)) n = omega arith
bounded (Some other) n = omega arith

at_head : (o : Option Instruction) (n : ℕ) → IsHead o → unless_head o n ≡ 0
at_head None n h = absurd h
at_head (Some Instruction.Begin) n h = refl
at_head (Some (Instruction.Next to parts)) n h = refl
at_head (Some other) n h = absurd h

further : (x a b : ℕ) → a < b → x + a < x + b
further x a b h = omega arith

-- a turn or an item is more than any distance
one_less : (x s d e : ℕ) → d < s → x * s + d < suc x * s + e
one_less x s d e h = let k : suc x * s ≡ x * s + s = suc-mul x s in omega arith

not_longer : {A : Type 0} (xs : List A) (x : A) → ¬ (xs ++ x ∷ [] ≡ xs)
not_longer xs x e = omega (arith, length-append xs (x ∷ []), ap length e)

module _ (code : List Instruction) where
  near : (place : ℕ) → distance code place < suc (length code)
  near place = omega (arith, bounded (slice_get code place) (length code - place))

  -- to the next place, or where a jump may land
  on : (place : ℕ) (i : Instruction) (to : ℕ) → slice_get code place ≡ Some i → unless_head (Some i) (length code - place) ≡ length code - place → place < to → distance code to < distance code place
  on place i to e plain h =
      let here : distance code place ≡ length code - place = ap (λ o. unless_head o (length code - place)) e ∙ plain in
      let within : place < length code = slice_get_within code place i e in
      let there : distance code to ≤ length code - to = bounded (slice_get code to) (length code - to) in
      omega arith

  landed : (place : ℕ) (i : Instruction) (to : ℕ) → slice_get code place ≡ Some i → unless_head (Some i) (length code - place) ≡ length code - place → (place < to) ⊎ IsHead (slice_get code to) → distance code to < distance code place
  landed place i to e plain (inl h) = on place i to e plain h
  landed place i to e plain (inr h) =
      let here : distance code place ≡ length code - place = ap (λ o. unless_head o (length code - place)) e ∙ plain in
      let within : place < length code = slice_get_within code place i e in
      let there : distance code to ≡ 0 = at_head (slice_get code to) (length code - to) h in
      omega arith

  gone : (place to : ℕ) (st st' ls : List Answer) (w v : World) → v.turns ≡ w.turns → distance code to < distance code place
      → Falls code w.events (left_to_do code (record { place = place; stack = st; listings = ls }) w) (go_to to st' ls v)
  gone place to st st' ls w v same h events =
      let k : (v.turns + open_items ls) * suc (length code) ≡ (w.turns + open_items ls) * suc (length code) = ap (λ t. (t + open_items ls) * suc (length code)) same in
      let f = further ((w.turns + open_items ls) * suc (length code)) (distance code to) (distance code place) h in
      subst (λ x. x + distance code to < (w.turns + open_items ls) * suc (length code) + distance code place) (sym k) f

  told : (to n : ℕ) (st ls : List Answer) (w : World) (turns serial : ℕ) (answers : List Answer) (e : Event) → Falls code w.events n (go_to to st ls (record w { turns = turns; serial = serial; answers = answers; events = w.events ++ e ∷ [] }))
  told to n st ls w turns serial answers e same = absurd (not_longer w.events e same)

  asked : (q : Query) (to n : ℕ) (stack listings : Answer → List Answer) (w : World) (answers : List Answer) → Falls code w.events n (then_by (ask_next q answers w) (λ a. go_to to (stack a) (listings a)))
  asked q to n stack listings w [] = tt
  asked q to n stack listings w (a ∷ rest) = told to n (stack a) (listings a) w (w.turns - (1 + listed a)) w.serial rest (event.Ask q a)

  -- popping falls where what follows does
  popped : (n : ℕ) (taken stack : List Answer) (next : List Answer → List Answer → Next) (w : World) (m : ℕ) → ((values below : List Answer) → Falls code w.events m (next values below w)) → Falls code w.events m (pops n taken stack next w)
  popped zero taken stack next w m k = k taken stack
  popped (suc n) taken [] next w m k = tt
  popped (suc n) taken (a ∷ stack) next w m k = popped n (a ∷ taken) stack next w m k

  chosen : (b : Bool) (m n : Next) (w : World) (events : List Event) (k : ℕ) → Falls code events k (m w) → Falls code events k (n w) → Falls code events k ((if b then m else n) w)
  chosen true m n w events k p q = p
  chosen false m n w events k p q = q

  valued : (b : Bool) (m n : Does Answer) (next : Answer → Next) (w : World) (k : ℕ) → Falls code w.events k ((m >>= next) w) → Falls code w.events k ((n >>= next) w) → Falls code w.events k (((if b then m else n) >>= next) w)
  valued true m n next w k p q = p
  valued false m n next w k p q = q

  combined : (line : ℕ) (operator : Operator) (a b : Answer) (next : Answer → Next) (w : World) (n : ℕ) → ((v : Answer) → Falls code w.events n (next v w)) → Falls code w.events n ((combine line operator a b >>= next) w)
  combined line op.Add a b next w n k = k _
  combined line op.Subtract a b next w n k = k _
  combined line op.Multiply a b next w n k = k _
  combined line op.Divide a b next w n k = valued (is_zero b) _ _ next w n tt (k _)
  combined line op.Remainder a b next w n k = valued (is_zero b) _ _ next w n tt (k _)
  combined line op.Concat a b next w n k = k _
  combined line op.Equal a b next w n k = k _
  combined line op.NotEqual a b next w n k = k _
  combined line op.Less a b next w n k = k _
  combined line op.LessOrEqual a b next w n k = k _
  combined line op.Greater a b next w n k = k _
  combined line op.GreaterOrEqual a b next w n k = k _

  begun : (turns place : ℕ) (st ls : List Answer) (w : World) → w.turns ≡ turns → Falls code w.events (left_to_do code (record { place = place; stack = st; listings = ls }) w) (then_by (begin_with turns w) (λ u. go_to (suc place) st ls))
  begun zero place st ls w e = tt
  begun (suc turns) place st ls w e = λ same.
      let f = one_less (turns + open_items ls) (suc (length code)) (distance code (suc place)) (distance code place) (near (suc place)) in
      let k : w.turns + open_items ls ≡ suc (turns + open_items ls) = omega (arith, e) in
      subst (λ x. (turns + open_items ls) * suc (length code) + distance code (suc place) < x * suc (length code) + distance code place) (sym k) f

  -- an item less, or an open listing less
  fewer : (place to : ℕ) (st st' ls ls' : List Answer) (w : World) → open_items ls ≡ suc (open_items ls') → Falls code w.events (left_to_do code (record { place = place; stack = st; listings = ls }) w) (go_to to st' ls' w)
  fewer place to st st' ls ls' w e same =
      let f = one_less (w.turns + open_items ls') (suc (length code)) (distance code to) (distance code place) (near to) in
      let k : w.turns + open_items ls ≡ suc (w.turns + open_items ls') = omega (arith, e) in
      subst (λ x. (w.turns + open_items ls') * suc (length code) + distance code to < x * suc (length code) + distance code place) (sym k) f

  taken : (listing : Answer) (to place : ℕ) (st ls : List Answer) (w : World)
      → Falls code w.events (left_to_do code (record { place = place; stack = st; listings = listing ∷ ls }) w) (take_item (first_item listing) to place st ls w)
  taken (answer.Int n) to place st ls w = fewer place to st st (answer.Int n ∷ ls) ls w (omega arith)
  taken (answer.Text bytes) to place st ls w = fewer place to st st (answer.Text bytes ∷ ls) ls w (omega arith)
  taken (answer.Truth b) to place st ls w = fewer place to st st (answer.Truth b ∷ ls) ls w (omega arith)
  taken (answer.Id id) to place st ls w = fewer place to st st (answer.Id id ∷ ls) ls w (omega arith)
  taken (answer.Ids []) to place st ls w = fewer place to st st (answer.Ids [] ∷ ls) ls w (omega arith)
  taken (answer.Ids (id ∷ ids)) to place st ls w = fewer place (suc place) st (answer.Id id ∷ st) (answer.Ids (id ∷ ids) ∷ ls) (answer.Ids ids ∷ ls) w (omega arith)
  taken (answer.Tuples []) to place st ls w = fewer place to st st (answer.Tuples [] ∷ ls) ls w (omega arith)
  taken (answer.Tuples (keys ∷ tuples)) to place st ls w = fewer place (suc place) st (push_all (map value_of keys) st) (answer.Tuples (keys ∷ tuples) ∷ ls) (answer.Tuples tuples ∷ ls) w (omega arith)

  falls : (i : Instruction) (place : ℕ) (st ls : List Answer) (w : World) → slice_get code place ≡ Some i → LandsWell code place (jump_of i)
      → Falls code w.events (left_to_do code (record { place = place; stack = st; listings = ls }) w) (act i place st ls w)
  falls Instruction.Begin place st ls w e l = begun w.turns place st ls w refl
  falls (Instruction.Push literal) place st ls w e l = gone place (suc place) st (literal_value literal ∷ st) ls w w refl (on place _ (suc place) e refl (omega arith))
  falls (Instruction.Load n) place st ls w e l = gone place (suc place) st (slice_index_or w.slots n (answer.Int (pos 0)) ∷ st) ls w w refl (on place _ (suc place) e refl (omega arith))
  falls (Instruction.Store n) place [] ls w e l = tt
  falls (Instruction.Store n) place (v ∷ st) ls w e l = gone place (suc place) (v ∷ st) st ls w (record w { slots = slice_set w.slots n v }) refl (on place _ (suc place) e refl (omega arith))
  falls Instruction.Negate place [] ls w e l = tt
  falls Instruction.Negate place (v ∷ st) ls w e l = gone place (suc place) (v ∷ st) (wrapped (neg_ℤ (int_of v)) ∷ st) ls w w refl (on place _ (suc place) e refl (omega arith))
  falls Instruction.Not place [] ls w e l = tt
  falls Instruction.Not place (v ∷ st) ls w e l = gone place (suc place) (v ∷ st) (answer.Truth (not (truth_of v)) ∷ st) ls w w refl (on place _ (suc place) e refl (omega arith))
  falls (Instruction.Binary binary) place [] ls w e l = tt
  falls (Instruction.Binary binary) place (b ∷ []) ls w e l = tt
  falls (Instruction.Binary binary) place (b ∷ a ∷ st) ls w e l = combined (line_of binary) (operator_of binary) a b (λ v. go_to (suc place) (v ∷ st) ls) w (left_to_do code (record { place = place; stack = b ∷ a ∷ st; listings = ls }) w)
      (λ v. gone place (suc place) (b ∷ a ∷ st) (v ∷ st) ls w w refl (on place _ (suc place) e refl (omega arith)))
  falls (Instruction.Jump to) place st ls w e l = gone place to st st ls w w refl (landed place _ to e refl l)
  falls (Instruction.JumpIfFalse to) place [] ls w e l = tt
  falls (Instruction.JumpIfFalse to) place (v ∷ st) ls w e l = chosen (truth_of v) (go_to (suc place) st ls) (go_to to st ls) w w.events (left_to_do code (record { place = place; stack = v ∷ st; listings = ls }) w)
      (gone place (suc place) (v ∷ st) st ls w w refl (on place _ (suc place) e refl (omega arith))) (gone place to (v ∷ st) st ls w w refl (landed place _ to e refl l))
  falls (Instruction.Get number n) place st ls w e l = popped n [] st (λ keys rest. ask (query.Get number (map key_of keys)) >>= λ v. go_to (suc place) (v ∷ rest) ls) w (left_to_do code (record { place = place; stack = st; listings = ls }) w)
      (λ values below. asked (query.Get number (map key_of values)) (suc place) (left_to_do code (record { place = place; stack = st; listings = ls }) w) (λ v. v ∷ below) (λ v. ls) w w.answers)
  falls Instruction.Alive place [] ls w e l = tt
  falls Instruction.Alive place (v ∷ st) ls w e l = asked (query.Alive (id_of v)) (suc place) (left_to_do code (record { place = place; stack = v ∷ st; listings = ls }) w) (λ b. b ∷ st) (λ b. ls) w w.answers
  falls (Instruction.All number) place st ls w e l = asked (query.All number) (suc place) (left_to_do code (record { place = place; stack = st; listings = ls }) w) (λ listing. st) (λ listing. listing ∷ ls) w w.answers
  falls (Instruction.Entries number) place st ls w e l = asked (query.Entries number) (suc place) (left_to_do code (record { place = place; stack = st; listings = ls }) w) (λ listing. st) (λ listing. listing ∷ ls) w w.answers
  falls (Instruction.Next to n) place st [] w e l = tt
  falls (Instruction.Next to n) place st (listing ∷ ls) w e l = taken listing to place st ls w
  falls (Instruction.Put operation number n) place [] ls w e l = tt
  falls (Instruction.Put operation number n) place (v ∷ st) ls w e l =
      popped n [] st (λ keys below. tell (event.Do (update.Cell number (map key_of keys) (change_of operation v))) >>= λ u. go_to (suc place) below ls) w (left_to_do code (record { place = place; stack = v ∷ st; listings = ls }) w)
      (λ values below. told (suc place) (left_to_do code (record { place = place; stack = v ∷ st; listings = ls }) w) below ls w w.turns w.serial w.answers (event.Do (update.Cell number (map key_of values) (change_of operation v))))
  falls (Instruction.New number n) place st ls w e l =
      let id : Id = record { client = w.client; serial = w.serial } in
      popped n [] st (λ keys rest. next_id >>= λ id. tell (event.Do (update.Create id number (map key_of keys))) >>= λ u. go_to (suc place) (answer.Id id ∷ rest) ls) w (left_to_do code (record { place = place; stack = st; listings = ls }) w)
      (λ values below. told (suc place) (left_to_do code (record { place = place; stack = st; listings = ls }) w) (answer.Id id ∷ below) ls w w.turns (suc w.serial) w.answers (event.Do (update.Create id number (map key_of values))))
  falls Instruction.Delete place [] ls w e l = tt
  falls Instruction.Delete place (v ∷ st) ls w e l = told (suc place) (left_to_do code (record { place = place; stack = v ∷ st; listings = ls }) w) st ls w w.turns w.serial w.answers (event.Do (update.Delete (id_of v)))
  falls Instruction.Say place [] ls w e l = tt
  falls Instruction.Say place (v ∷ st) ls w e l = told (suc place) (left_to_do code (record { place = place; stack = v ∷ st; listings = ls }) w) st ls w w.turns w.serial w.answers (event.Say v)
  falls Instruction.Yield place st ls w e l = told (suc place) (left_to_do code (record { place = place; stack = st; listings = ls }) w) st ls w w.turns w.serial w.answers event.Yield
  falls Instruction.Flush place st ls w e l = told (suc place) (left_to_do code (record { place = place; stack = st; listings = ls }) w) st ls w w.turns w.serial w.answers event.Flush
  falls Instruction.End place st ls w e l = tt

pub steps_fall : (schema : Schema) (code : List Instruction) (shapes : List Shape) (shape : Shape) (standing : Standing) (w : World) → IsValid schema code shapes → slice_get shapes standing.place ≡ Some shape
    → Falls code w.events (left_to_do code standing w) (step code standing w)
steps_fall schema code shapes shape standing w valid e =
    let at = fine_at schema code shapes standing.place shape valid e in
    subst (λ o. Falls code w.events (left_to_do code standing w) (act_at o standing w)) (sym at.is) (falls code at.instruction standing.place standing.stack standing.listings w at.is at.lands_well)
