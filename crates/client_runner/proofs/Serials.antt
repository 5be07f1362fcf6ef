-- The ids that a code creates are its client's first ones.
use Rattle.std.proofs.Common.{◌≡◌, refl, ap, ◌∙◌, subst, append-nil}
use Rattle.std.specs.Prelude.{ℕ, zero, suc, ⊤, Bool, true, false, List, [], ◌∷◌, ◌++◌, map, Option, None, Some, if◌then◌else◌, not, neg_ℤ, slice_get}
use Rattle.cloud_base.specs.Events.{updates_of}
use Rattle.cloud_base.specs.Log.{created}
use Rattle.cloud_base.specs.Values.{Id}
use Rattle.cloud_base.specs.declared.end.End.{End}
use Rattle.cloud_base.specs.declared.update.Answer.{Answer}
use Rattle.cloud_base.specs.declared.update.Answer.TheVariants as answer
use Rattle.cloud_base.specs.declared.update.Event.{Event}
use Rattle.cloud_base.specs.declared.update.Event.TheVariants as event
use Rattle.cloud_base.specs.declared.update.Query.{Query}
use Rattle.cloud_base.specs.declared.update.Query.TheVariants as query
use Rattle.cloud_base.specs.declared.update.Update.TheVariants as update
use Rattle.typed_program.specs.declared.expression.Operator.{Operator}
use Rattle.typed_program.specs.declared.expression.Operator.TheVariants as op
use Rattle.typed_program.specs.Does.{World, Run, goes, ends, Does, ◌>>=◌, done, stop, tell, ask, ask_next, begin, begin_with, load, store, next_id, then_by}
use Rattle.typed_program.specs.Shapes.{first_ids}
use Rattle.typed_program.specs.Trace.{truth_of, int_of, id_of, key_of, wrapped, combine, is_zero, change_of, start}
use Rattle.typed_program.proofs.Keeps.{created_by}
use Rattle.plain_vm.specs.declared.instruction.Instruction.{Instruction}
use Rattle.plain_vm.specs.Exec.{Standing, Next, act, act_at, step, exec, first, from_there, go_to, line_of, literal_value, operator_of, pop, pops, push_all, first_item, take_item, run}

-- ---- what a run keeps
-- the ids that were created so far are the client's first ones, up to the next serial
pub record Counted (c : ℕ) (w : World) : Type 0 where
  pub client : w.client ≡ c
  pub made : created (updates_of w.events) ≡ first_ids c w.serial

abbrev CountedRun : {A : Type 0} → ℕ → Run A → Type 0
CountedRun c (goes a w) = Counted c w
CountedRun c (ends outcome events) = ⊤

record Counts (c : ℕ) {A : Type 0} (m : Does A) : Type 0 where
  pub by : (w : World) → Counted c w → CountedRun c (m w)

then_counted : {A B : Type 0} (c : ℕ) (r : Run A) (next : A → Does B) → CountedRun c r → ((a : A) → Counts c (next a)) → CountedRun c (then_by r next)
then_counted c (goes a w) next h k = (k a).by w h
then_counted c (ends outcome events) next h k = tt

counts_bind : {A B : Type 0} (c : ℕ) (m : Does A) (next : A → Does B) → Counts c m → ((a : A) → Counts c (next a)) → Counts c (m >>= next)
counts_bind c m next h k = record { by = λ w counted. then_counted c (m w) next (h.by w counted) k }

counts_done : {A : Type 0} (c : ℕ) (a : A) → Counts c (done a)
counts_done c a = record { by = λ w h. h }

goes_to : (c place : ℕ) (stack listings : List Answer) → Counts c (go_to place stack listings)
goes_to c place stack listings = counts_done c (Some (record { place = place; stack = stack; listings = listings }))

-- ---- an event that creates nothing
told : (c : ℕ) (w : World) (e : Event) → created (updates_of (e ∷ [])) ≡ [] → Counted c w → created (updates_of (w.events ++ e ∷ [])) ≡ first_ids c w.serial
told c w e none h = created_by w.events e ∙ ap (λ (l : List Id). created (updates_of w.events) ++ l) none ∙ append-nil (created (updates_of w.events)) ∙ h.made

counts_tell : (c : ℕ) (e : Event) → created (updates_of (e ∷ [])) ≡ [] → Counts c (tell e)
counts_tell c e none = record { by = λ w h. record { client = h.client; made = told c w e none h } }

asked : (c : ℕ) (q : Query) (answers : List Answer) (w : World) → Counted c w → CountedRun c (ask_next q answers w)
asked c q [] w h = tt
asked c q (a ∷ rest) w h = record { client = h.client; made = told c w (event.Ask q a) refl h }

counts_ask : (c : ℕ) (q : Query) → Counts c (ask q)
counts_ask c q = record { by = λ w h. asked c q w.answers w h }

-- ---- what creates nothing
begun : (c turns : ℕ) (w : World) → Counted c w → CountedRun c (begin_with turns w)
begun c zero w h = tt
begun c (suc turns) w h = record { client = h.client; made = h.made }

counts_begin : (c : ℕ) → Counts c begin
counts_begin c = record { by = λ w h. begun c w.turns w h }

counts_load : (c n : ℕ) → Counts c (load n)
counts_load c n = record { by = λ w h. h }

counts_store : (c n : ℕ) (v : Answer) → Counts c (store n v)
counts_store c n v = record { by = λ w h. record { client = h.client; made = h.made } }

counts_if : {A : Type 0} (c : ℕ) (b : Bool) (m n : Does A) → Counts c m → Counts c n → Counts c (if b then m else n)
counts_if c true m n hm hn = hm
counts_if c false m n hm hn = hn

trapped : (c line : ℕ) (b : Answer) (v : Answer) → Counts c (if is_zero b then stop (End.Trap line) else done v)
trapped c line b v = counts_if c (is_zero b) (stop (End.Trap line)) (done v) (record { by = λ w h. tt }) (counts_done c v)

counts_combine : (c line : ℕ) (o : Operator) (a b : Answer) → Counts c (combine line o a b)
counts_combine c line op.Add a b = record { by = λ w h. h }
counts_combine c line op.Subtract a b = record { by = λ w h. h }
counts_combine c line op.Multiply a b = record { by = λ w h. h }
counts_combine c line op.Divide a b = trapped c line b _
counts_combine c line op.Remainder a b = trapped c line b _
counts_combine c line op.Concat a b = record { by = λ w h. h }
counts_combine c line op.Equal a b = record { by = λ w h. h }
counts_combine c line op.NotEqual a b = record { by = λ w h. h }
counts_combine c line op.Less a b = record { by = λ w h. h }
counts_combine c line op.LessOrEqual a b = record { by = λ w h. h }
counts_combine c line op.Greater a b = record { by = λ w h. h }
counts_combine c line op.GreaterOrEqual a b = record { by = λ w h. h }

of_pop : (c : ℕ) (values : List Answer) (next : Answer → List Answer → Next) → ((a : Answer) (rest : List Answer) → Counts c (next a rest)) → Counts c (pop values next)
of_pop c [] next o = counts_done c None
of_pop c (a ∷ rest) next o = o a rest

of_pops : (c n : ℕ) (popped values : List Answer) (next : List Answer → List Answer → Next) → ((keys rest : List Answer) → Counts c (next keys rest)) → Counts c (pops n popped values next)
of_pops c zero popped values next o = o popped values
of_pops c (suc n) popped [] next o = counts_done c None
of_pops c (suc n) popped (a ∷ rest) next o = of_pops c n (a ∷ popped) rest next o

of_item : (c : ℕ) (item : Option (List Answer × Answer)) (to place : ℕ) (stack rest : List Answer) → Counts c (take_item item to place stack rest)
of_item c None to place stack rest = goes_to c to stack rest
of_item c (Some item) to place stack rest = goes_to c (suc place) (push_all item.0 stack) (item.1 ∷ rest)

-- ---- a creation
abbrev creates : ℕ → List Answer → ℕ → List Answer → List Answer → Next
creates entity keys at rest ls = next_id >>= λ id. tell (event.Do (update.Create id entity (map key_of keys))) >>= λ u. go_to (suc at) (answer.Id id ∷ rest) ls

counts_create : (c entity : ℕ) (keys : List Answer) (at : ℕ) (rest ls : List Answer) → Counts c (creates entity keys at rest ls)
counts_create c entity keys at rest ls = record {
  by = λ w h. record {
    client = h.client;
    made = created_by w.events (event.Do (update.Create (record { client = w.client; serial = w.serial }) entity (map key_of keys)))
        ∙ ap (λ (l : List Id). l ++ record { client = w.client; serial = w.serial } ∷ []) h.made
        ∙ ap (λ (n : ℕ). first_ids c w.serial ++ record { client = n; serial = w.serial } ∷ []) h.client;
  };
}

-- ---- instructions
act_counts : (c : ℕ) (i : Instruction) (at : ℕ) (st ls : List Answer) → Counts c (act i at st ls)
act_counts c Instruction.Begin at st ls = counts_bind c _ _ (counts_begin c) (λ u. goes_to c (suc at) st ls)
act_counts c (Instruction.Push literal) at st ls = goes_to c (suc at) (literal_value literal ∷ st) ls
act_counts c (Instruction.Load n) at st ls = counts_bind c _ _ (counts_load c n) (λ v. goes_to c (suc at) (v ∷ st) ls)
act_counts c (Instruction.Store n) at st ls = of_pop c st _ (λ v rest. counts_bind c _ _ (counts_store c n v) (λ u. goes_to c (suc at) rest ls))
act_counts c Instruction.Negate at st ls = of_pop c st _ (λ v rest. goes_to c (suc at) (wrapped (neg_ℤ (int_of v)) ∷ rest) ls)
act_counts c Instruction.Not at st ls = of_pop c st _ (λ v rest. goes_to c (suc at) (answer.Truth (not (truth_of v)) ∷ rest) ls)
act_counts c (Instruction.Binary binary) at st ls = of_pop c st _ (λ b rest. of_pop c rest _ (λ a below. counts_bind c _ _ (counts_combine c (line_of binary) (operator_of binary) a b) (λ v. goes_to c (suc at) (v ∷ below) ls)))
act_counts c (Instruction.Jump to) at st ls = goes_to c to st ls
act_counts c (Instruction.JumpIfFalse to) at st ls = of_pop c st _ (λ v rest. counts_if c (truth_of v) _ _ (goes_to c (suc at) rest ls) (goes_to c to rest ls))
act_counts c (Instruction.Get property n) at st ls = of_pops c n [] st _ (λ keys rest. counts_bind c _ _ (counts_ask c (query.Get property (map key_of keys))) (λ v. goes_to c (suc at) (v ∷ rest) ls))
act_counts c Instruction.Alive at st ls = of_pop c st _ (λ v rest. counts_bind c _ _ (counts_ask c (query.Alive (id_of v))) (λ b. goes_to c (suc at) (b ∷ rest) ls))
act_counts c (Instruction.All entity) at st ls = counts_bind c _ _ (counts_ask c (query.All entity)) (λ listing. goes_to c (suc at) st (listing ∷ ls))
act_counts c (Instruction.Entries property) at st ls = counts_bind c _ _ (counts_ask c (query.Entries property)) (λ listing. goes_to c (suc at) st (listing ∷ ls))
act_counts c (Instruction.Next to n) at st ls = of_pop c ls _ (λ listing rest. of_item c (first_item listing) to at st rest)
act_counts c (Instruction.Put operation property n) at st ls = of_pop c st _ (λ v rest. of_pops c n [] rest _ (λ keys below. counts_bind c _ _ (counts_tell c (event.Do (update.Cell property (map key_of keys) (change_of operation v))) refl) (λ u. goes_to c (suc at) below ls)))
act_counts c (Instruction.New entity n) at st ls = of_pops c n [] st _ (λ keys rest. counts_create c entity keys at rest ls)
act_counts c Instruction.Delete at st ls = of_pop c st _ (λ v rest. counts_bind c _ _ (counts_tell c (event.Do (update.Delete (id_of v))) refl) (λ u. goes_to c (suc at) rest ls))
act_counts c Instruction.Say at st ls = of_pop c st _ (λ v rest. counts_bind c _ _ (counts_tell c (event.Say v) refl) (λ u. goes_to c (suc at) rest ls))
act_counts c Instruction.Yield at st ls = counts_bind c _ _ (counts_tell c event.Yield refl) (λ u. goes_to c (suc at) st ls)
act_counts c Instruction.Flush at st ls = counts_bind c _ _ (counts_tell c event.Flush refl) (λ u. goes_to c (suc at) st ls)
act_counts c Instruction.End at st ls = record { by = λ w h. tt }

at_counts : (c : ℕ) (found : Option Instruction) (s : Standing) → Counts c (act_at found s)
at_counts c None s = counts_done c None
at_counts c (Some i) s = act_counts c i s.place s.stack s.listings

goes_on : (c : ℕ) (m : Standing → Next) → ((s : Standing) → Counts c (m s)) → (next : Option Standing) → Counts c (from_there m next)
goes_on c m o None = counts_done c None
goes_on c m o (Some s) = o s

exec_counts : (c : ℕ) (code : List Instruction) (n : ℕ) (s : Standing) → Counts c (exec code n s)
exec_counts c code zero s = counts_done c (Some s)
exec_counts c code (suc n) s = counts_bind c (step code s) (from_there (exec code n)) (at_counts c (slice_get code s.place) s) (goes_on c (exec code n) (exec_counts c code n))

-- so far a client of a code created its first ids
pub run_counts : (code : List Instruction) (count client : ℕ) (answers : List Answer) (s : Standing) (w : World) → run code count client answers ≡ goes (Some s) w → Counted client w
run_counts code count client answers s w e = subst (CountedRun client) e ((exec_counts client code count first).by (start client answers) (record { client = refl; made = refl }))
