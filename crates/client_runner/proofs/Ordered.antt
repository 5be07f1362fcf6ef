-- A run of a code only adds events, so what it did so far is a front of what it comes to.
use Rattle.std.proofs.Common.{◌≡◌, refl, sym, ap, ◌∙◌, subst, arith, inl, inr}
use Rattle.std.specs.Prelude.{ℕ, zero, suc, ◌+◌, ◌-◌, ◌<◌, Bool, true, false, not, List, [], ◌∷◌, ◌++◌, map, Option, None, Some, if◌then◌else◌, slice_get, neg_ℤ}
use Rattle.std.proofs.lemmas.Bool.{cases_lt}
use mathlib.Core.List.{IsPrefix}
use Rattle.cloud_base.specs.Events.{Outcome, answers_in, asks, ended}
use Rattle.cloud_base.specs.declared.end.End.TheVariants.{Done}
use Rattle.cloud_base.specs.declared.update.Answer.{Answer}
use Rattle.cloud_base.specs.declared.update.Answer.TheVariants as answer
use Rattle.cloud_base.specs.declared.update.Event.{Event}
use Rattle.cloud_base.specs.declared.update.Event.TheVariants as event
use Rattle.cloud_base.specs.declared.update.Query.TheVariants as query
use Rattle.cloud_base.specs.declared.update.Update.TheVariants as update
use Rattle.typed_program.specs.Does.{World, Run, goes, ends, then_by}
use Rattle.typed_program.specs.Laws.{events_of}
use Rattle.typed_program.specs.Trace.{truth_of, int_of, id_of, key_of, change_of, wrapped, start}
use Rattle.typed_program.proofs.Orderly.{Orderly, orderly_bind, orderly_done, orderly_load, orderly_store, orderly_id, orderly_stop, orderly_begin, orderly_tell, orderly_ask, orderly_combine}
use Rattle.plain_vm.specs.Exec.{Standing, Next, go_to, pop, pops, push_all, literal_value, take_item, first_item, line_of, operator_of, act, act_at, step, exec, from_there, first, run}
use Rattle.plain_vm.specs.declared.instruction.Instruction.{Instruction}
use Rattle.plain_vm.proofs.Runs.{runs_add}
use Rattle.code_machine.proofs.Ending.{end_once}
use Rattle.code_machine.specs.declared.need.Need.{Need}
use Rattle.client_runner.specs.Needs.{ComesOut, IsNext, IsNextOf, Reaches}

of_pop : (values : List Answer) (next : Answer → List Answer → Next) → ((a : Answer) (rest : List Answer) → Orderly (next a rest)) → Orderly (pop values next)
of_pop [] next o = orderly_done None
of_pop (a ∷ rest) next o = o a rest

of_pops : (n : ℕ) (popped values : List Answer) (next : List Answer → List Answer → Next) → ((keys rest : List Answer) → Orderly (next keys rest)) → Orderly (pops n popped values next)
of_pops zero popped values next o = o popped values
of_pops (suc n) popped [] next o = orderly_done None
of_pops (suc n) popped (a ∷ rest) next o = of_pops n (a ∷ popped) rest next o

of_if : (b : Bool) {m n : Next} → Orderly m → Orderly n → Orderly (if b then m else n)
of_if true om on = om
of_if false om on = on

of_item : (item : Option (List Answer × Answer)) (to place : ℕ) (stack rest : List Answer) → Orderly (take_item item to place stack rest)
of_item None to place stack rest = orderly_done (Some (record { place = to; stack = stack; listings = rest }))
of_item (Some item) to place stack rest = orderly_done (Some (record { place = suc place; stack = push_all item.0 stack; listings = item.1 ∷ rest }))

goes_to : (place : ℕ) (stack listings : List Answer) → Orderly (go_to place stack listings)
goes_to place stack listings = orderly_done (Some (record { place = place; stack = stack; listings = listings }))

act_orderly : (i : Instruction) (at : ℕ) (st ls : List Answer) → Orderly (act i at st ls)
act_orderly Instruction.Begin at st ls = orderly_bind _ _ orderly_begin (λ u. goes_to (suc at) st ls)
act_orderly (Instruction.Push literal) at st ls = goes_to (suc at) (literal_value literal ∷ st) ls
act_orderly (Instruction.Load n) at st ls = orderly_bind _ _ (orderly_load n) (λ v. goes_to (suc at) (v ∷ st) ls)
act_orderly (Instruction.Store n) at st ls = of_pop st _ (λ v rest. orderly_bind _ _ (orderly_store n v) (λ u. goes_to (suc at) rest ls))
act_orderly Instruction.Negate at st ls = of_pop st _ (λ v rest. goes_to (suc at) (wrapped (neg_ℤ (int_of v)) ∷ rest) ls)
act_orderly Instruction.Not at st ls = of_pop st _ (λ v rest. goes_to (suc at) (answer.Truth (not (truth_of v)) ∷ rest) ls)
act_orderly (Instruction.Binary binary) at st ls = of_pop st _ (λ b rest. of_pop rest _ (λ a below. orderly_bind _ _ (orderly_combine (line_of binary) (operator_of binary) a b) (λ v. goes_to (suc at) (v ∷ below) ls)))
act_orderly (Instruction.Jump to) at st ls = goes_to to st ls
act_orderly (Instruction.JumpIfFalse to) at st ls = of_pop st _ (λ v rest. of_if (truth_of v) (goes_to (suc at) rest ls) (goes_to to rest ls))
act_orderly (Instruction.Get property n) at st ls = of_pops n [] st _ (λ keys rest. orderly_bind _ _ (orderly_ask (query.Get property (map key_of keys))) (λ v. goes_to (suc at) (v ∷ rest) ls))
act_orderly Instruction.Alive at st ls = of_pop st _ (λ v rest. orderly_bind _ _ (orderly_ask (query.Alive (id_of v))) (λ b. goes_to (suc at) (b ∷ rest) ls))
act_orderly (Instruction.All entity) at st ls = orderly_bind _ _ (orderly_ask (query.All entity)) (λ listing. goes_to (suc at) st (listing ∷ ls))
act_orderly (Instruction.Entries property) at st ls = orderly_bind _ _ (orderly_ask (query.Entries property)) (λ listing. goes_to (suc at) st (listing ∷ ls))
act_orderly (Instruction.Next to n) at st ls = of_pop ls _ (λ listing rest. of_item (first_item listing) to at st rest)
act_orderly (Instruction.Put operation property n) at st ls = of_pop st _ (λ v rest. of_pops n [] rest _ (λ keys below. orderly_bind _ _ (orderly_tell (event.Do (update.Cell property (map key_of keys) (change_of operation v))) refl) (λ u. goes_to (suc at) below ls)))
act_orderly (Instruction.New entity n) at st ls = of_pops n [] st _ (λ keys rest. orderly_bind _ _ orderly_id (λ id. orderly_bind _ _ (orderly_tell (event.Do (update.Create id entity (map key_of keys))) refl) (λ u. goes_to (suc at) (answer.Id id ∷ rest) ls)))
act_orderly Instruction.Delete at st ls = of_pop st _ (λ v rest. orderly_bind _ _ (orderly_tell (event.Do (update.Delete (id_of v))) refl) (λ u. goes_to (suc at) rest ls))
act_orderly Instruction.Say at st ls = of_pop st _ (λ v rest. orderly_bind _ _ (orderly_tell (event.Say v) refl) (λ u. goes_to (suc at) rest ls))
act_orderly Instruction.Yield at st ls = orderly_bind _ _ (orderly_tell event.Yield refl) (λ u. goes_to (suc at) st ls)
act_orderly Instruction.Flush at st ls = orderly_bind _ _ (orderly_tell event.Flush refl) (λ u. goes_to (suc at) st ls)
act_orderly Instruction.End at st ls = orderly_stop Done

at_orderly : (found : Option Instruction) (s : Standing) → Orderly (act_at found s)
at_orderly None s = orderly_done None
at_orderly (Some i) s = act_orderly i s.place s.stack s.listings

goes_on : (m : Standing → Next) → ((s : Standing) → Orderly (m s)) → (next : Option Standing) → Orderly (from_there m next)
goes_on m o None = orderly_done None
goes_on m o (Some s) = o s

exec_orderly : (code : List Instruction) (n : ℕ) (s : Standing) → Orderly (exec code n s)
exec_orderly code zero s = orderly_done (Some s)
exec_orderly code (suc n) s = orderly_bind (step code s) (from_there (exec code n)) (at_orderly (slice_get code s.place) s) (goes_on (exec code n) (exec_orderly code n))

abbrev gone : Standing → World → Run (Option Standing)
gone s w = goes (Some s) w

abbrev out : Outcome → List Event → Run (Option Standing)
out outcome events = ends outcome events

-- a run that goes on behind some instructions comes out later
comes_later : (code : List Instruction) (client : ℕ) (answers : List Answer) (n count : ℕ) (s : Standing) (w : World) (outcome : Outcome) (events : List Event) → run code count client answers ≡ gone s w → run code n client answers ≡ out outcome events → count < n
comes_later code client answers n count s w outcome events on off = elim (cases_lt count n) [
  | inl less ↦ less
  | inr more ↦
      let more_is : n + (count - n) ≡ count = omega arith in
      let same : out outcome events ≡ gone s w =
      sym (ap (λ r. then_by r (from_there (exec code (count - n)))) off) ∙ sym (runs_add code n (count - n) first (start client answers)) ∙ ap (λ k. run code k client answers) more_is ∙ on in
      cc same
]

-- so its events so far are a front of those that it comes to
front_of_run : (code : List Instruction) (client : ℕ) (answers : List Answer) (n count : ℕ) (s : Standing) (w : World) (outcome : Outcome) (events : List Event) → run code count client answers ≡ gone s w → run code n client answers ≡ out outcome events → IsPrefix w.events events
front_of_run code client answers n count s w outcome events on off =
    let less : count < n = comes_later code client answers n count s w outcome events on off in
    let rest : count + (n - count) ≡ n = omega arith in
    let there : exec code (n - count) s w ≡ out outcome events =
    sym (ap (λ r. then_by r (from_there (exec code (n - count)))) on) ∙ sym (runs_add code count (n - count) first (start client answers)) ∙ ap (λ k. run code k client answers) rest ∙ off in
    subst (λ (r : Run (Option Standing)). IsPrefix w.events (events_of r)) there ((exec_orderly code (n - count) s).grows w)

-- ---- what is needed next

module _ (code : List Instruction) (client count : ℕ) (answers : List Answer) (outcome : Outcome) (whole : List Event) (off : run code count client answers ≡ ends outcome whole) where
  in_front : (events : List Event) → Reaches code client answers events → IsPrefix events whole
  in_front events h =
      subst (λ (es : List Event). IsPrefix es whole) h.events_are
      (front_of_run code client answers count h.count h.standing h.world outcome whole h.goes_on off)

  same_out : (other : Outcome) (events : List Event) → ComesOut code client answers other events → (outcome ≡ other) × (whole ≡ events)
  same_out other events h = end_once code count h.count client answers outcome other whole events off h.comes_out

pub next_of_run : (code : List Instruction) (client count : ℕ) (events : List Event) (need : Need) (outcome : Outcome) (whole : List Event) → run code count client (answers_in events) ≡ ends outcome whole → IsNext code client events need → IsNextOf need outcome whole events
next_of_run code client count events (Need.Do u) outcome whole off h = in_front code client count (answers_in events) outcome whole off (events ++ event.Do u ∷ []) h
next_of_run code client count events (Need.Ask q) outcome whole off h = same_out code client count (answers_in events) outcome whole off (asks q) events h
next_of_run code client count events (Need.Say v) outcome whole off h = in_front code client count (answers_in events) outcome whole off (events ++ event.Say v ∷ []) h
next_of_run code client count events Need.Yield outcome whole off h = in_front code client count (answers_in events) outcome whole off (events ++ event.Yield ∷ []) h
next_of_run code client count events Need.Flush outcome whole off h = in_front code client count (answers_in events) outcome whole off (events ++ event.Flush ∷ []) h
next_of_run code client count events (Need.Ended end) outcome whole off h = same_out code client count (answers_in events) outcome whole off (ended end) events h
