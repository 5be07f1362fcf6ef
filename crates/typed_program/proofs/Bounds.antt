-- A body has at most so many events.
use Rattle.std.proofs.Common.{◌≡◌, refl, ap, sym, ◌∙◌, subst, arith, mul-le-mul_left, mul-suc, mul_comm, sub-le}
use Rattle.std.proofs.lemmas.List.{length-append}
use Rattle.std.specs.Prelude.{ℕ, zero, suc, ◌+◌, ◌*◌, ◌≤◌, max, Bool, true, false, List, [], ◌∷◌, length, map, None, Some, if◌then◌else◌}
use Rattle.cloud_base.specs.Values.{Id}
use Rattle.cloud_base.specs.declared.end.End.{End}
use Rattle.cloud_base.specs.declared.end.End.TheVariants.{Spent}
use Rattle.cloud_base.specs.declared.key.Key.{Key}
use Rattle.cloud_base.specs.declared.update.Answer.{Answer}
use Rattle.cloud_base.specs.declared.update.Answer.TheVariants as answer
use Rattle.cloud_base.specs.declared.update.Query.{Query}
use Rattle.cloud_base.specs.declared.update.Query.TheVariants as query
use Rattle.cloud_base.specs.declared.update.Update.TheVariants as update
use Rattle.cloud_base.specs.declared.update.Event.{Event}
use Rattle.cloud_base.specs.declared.update.Event.TheVariants as event
use Rattle.typed_program.specs.declared.expression.Operator.{Operator}
use Rattle.typed_program.specs.declared.expression.Operator.TheVariants as op
use Rattle.typed_program.specs.declared.expression.Expression.{Expression, roll-Expression}
use Rattle.typed_program.specs.declared.expression.Expression.TheOpen.{Expression-F}
use Rattle.typed_program.specs.declared.expression.Expression.TheFolds.{fold-roll-Expression, ind-Expression, map-Expression}
use Rattle.typed_program.specs.declared.statement.Statement.{Statement}
use Rattle.typed_program.specs.declared.statement.Statement.TheOpen.{Statement-F}
use Rattle.typed_program.specs.declared.statement.Statement.TheFolds.{fold-roll-Statement, ind-Statement, map-Statement}
use Rattle.typed_program.specs.Does.{World, Run, goes, ends, Does, done, stop, tell, ask, ask_next, begin, begin_with, load, store, next_id, each, all, ◌>>=◌, then_by, listed}
use Rattle.typed_program.specs.Trace.{value, value_step, combine, is_zero, id_of, ids_of, tuples_of, key_of, value_of, truth_of, change_of, loop, for_ids, store_keys, for_tuples, statement_step, does, does_body, start, come_out, trace}
use Rattle.typed_program.specs.Widths.{total, queries_step, queries, greatest, width_step, width, most_events}

-- the events of a run, and those that the turns left may still bring, are at most so many
abbrev pub Within : {A : Type 0} → ℕ → ℕ → Run A → Type 0
Within each_turn most (goes a v) = length v.events + each_turn * v.turns ≤ most
Within each_turn most (ends o es) = length es ≤ most

-- with so many events for each turn, it has at most so many more
pub record Spends (each_turn : ℕ) (extra : ℕ) {A : Type 0} (m : Does A) : Type 0 where
  pub by : (w : World) → Within each_turn (length w.events + each_turn * w.turns + extra) (m w)

wider : {A : Type 0} (k most more : ℕ) (r : Run A) → most ≤ more → Within k most r → Within k more r
wider k most more (goes a v) le h = omega (arith, le, h)
wider k most more (ends o es) le h = omega (arith, le, h)

spends_bind : {k n p : ℕ} {A B : Type 0} {m : Does A} {f : A → Does B} → Spends k n m → ((a : A) → Spends k p (f a)) → Spends k (n + p) (m >>= f)
spends_bind {k = k} {n = n} {p = p} {A = A} {B = B} {m = m} {f = f} sm sf = record { by = λ w. at w (m w) (sm.by w) }
  where
    at : (w : World) (r : Run A) → Within k (length w.events + k * w.turns + n) r → Within k (length w.events + k * w.turns + (n + p)) (then_by {A = A} {B = B} r f)
    at w (goes a v) h = wider k (length v.events + k * v.turns + p) (length w.events + k * w.turns + (n + p)) (f a v) (omega (arith, h)) ((sf a).by v)
    at w (ends o es) h = omega (arith, h)

spends_more : {k n p : ℕ} {A : Type 0} {m : Does A} → n ≤ p → Spends k n m → Spends k p m
spends_more {k = k} {n = n} {p = p} {m = m} le sm = record { by = λ w. wider k (length w.events + k * w.turns + n) (length w.events + k * w.turns + p) (m w) (omega (arith, le)) (sm.by w) }

spends_done : {k : ℕ} {A : Type 0} (a : A) → Spends k 0 (done a)
spends_done a = record { by = λ w. omega arith }

spends_load : {k : ℕ} (n : ℕ) → Spends k 0 (load n)
spends_load n = record { by = λ w. omega arith }

spends_store : {k : ℕ} (n : ℕ) (v : Answer) → Spends k 0 (store n v)
spends_store n v = record { by = λ w. omega arith }

spends_id : {k : ℕ} → Spends k 0 next_id
spends_id = record { by = λ w. omega arith }

spends_stop : {k : ℕ} {A : Type 0} (e : End) → Spends k 0 (stop {A = A} e)
spends_stop e = record { by = λ w. omega arith }

spends_tell : {k : ℕ} (e : Event) → Spends k 1 (tell e)
spends_tell e = record { by = λ w. omega (arith, length-append w.events (e ∷ [])) }

spends_ask : {k : ℕ} (q : Query) → Spends k 1 (ask q)
spends_ask {k = k} q = record { by = λ w. at w w.answers }
  where
    at : (w : World) (answers : List Answer) → Within k (length w.events + k * w.turns + 1) (ask_next q answers w)
    at w [] = omega arith
    at w (a ∷ rest) = omega (arith, length-append w.events (event.Ask q a ∷ []), mul-le-mul_left k (sub-le w.turns (1 + listed a)))

-- a statement that begins may have as many events as a turn brings
spends_begin : {k n : ℕ} {A : Type 0} {m : Does A} → n ≤ k → Spends k n m → Spends k 0 (begin >>= λ u. m)
spends_begin {k = k} {n = n} {A = A} {m = m} le sm = record { by = λ w. at w w.turns refl }
  where
    at : (w : World) (turns : ℕ) → w.turns ≡ turns → Within k (length w.events + k * w.turns + 0) (then_by {A = Unit {0}} {B = A} (begin_with turns w) (λ u. m))
    at w zero e = omega arith
    at w (suc t) e = wider k (length w.events + k * t + n) (length w.events + k * w.turns + 0) (m (record w { turns = t })) (omega (arith, le, ap (λ x. k * x) e ∙ mul-suc k t)) (sm.by (record w { turns = t }))

spends_if : {k n : ℕ} {A : Type 0} (b : Bool) {x y : Does A} → Spends k n x → Spends k n y → Spends k n (if b then x else y)
spends_if true sx sy = sx
spends_if false sx sy = sy

spends_turns : {k n : ℕ} {A : Type 0} {f : ℕ → Does A} → ((turns : ℕ) → Spends k n (f turns)) → Spends k n (λ w. f w.turns w)
spends_turns s = record { by = λ w. (s w.turns).by w }

-- expressions: claims beside each
abbrev Claimed : ℕ → ℕ → Type 0
Claimed k line = (e : Expression) × Spends k (queries e) (value line e)

spends_each : {k : ℕ} (line : ℕ) (es : List (Claimed k line)) → Spends k (total (map queries (map (λ p. p.0) es))) (each (map (value line) (map (λ p. p.0) es)))
spends_each line [] = spends_done []
spends_each line (e ∷ es) = spends_bind e.1 (λ a. spends_more (omega arith) (spends_bind (spends_each line es) (λ rest. spends_done (a ∷ rest))))

spends_combine : {k : ℕ} (line : ℕ) (operator : Operator) (a b : Answer) → Spends k 0 (combine line operator a b)
spends_combine line op.Add a b = spends_done _
spends_combine line op.Subtract a b = spends_done _
spends_combine line op.Multiply a b = spends_done _
spends_combine line op.Divide a b = spends_if (is_zero b) (spends_stop _) (spends_done _)
spends_combine line op.Remainder a b = spends_if (is_zero b) (spends_stop _) (spends_done _)
spends_combine line op.Concat a b = spends_done _
spends_combine line op.Equal a b = spends_done _
spends_combine line op.NotEqual a b = spends_done _
spends_combine line op.Less a b = spends_done _
spends_combine line op.LessOrEqual a b = spends_done _
spends_combine line op.Greater a b = spends_done _
spends_combine line op.GreaterOrEqual a b = spends_done _

abbrev opened : {k : ℕ} (line : ℕ) → Expression-F (Claimed k line) → Expression-F (Does Answer)
opened {k = k} line y = map-Expression Expression (Does Answer) (value line) (map-Expression (Claimed k line) Expression (λ p. p.0) y)

abbrev counted : {k : ℕ} (line : ℕ) → Expression-F (Claimed k line) → Expression-F ℕ
counted {k = k} line y = map-Expression Expression ℕ queries (map-Expression (Claimed k line) Expression (λ p. p.0) y)

step_spends : {k : ℕ} (line : ℕ) (y : Expression-F (Claimed k line)) → Spends k (queries_step (counted line y)) (value_step line (opened line y))
step_spends line (Expression-F.Int n) = spends_done _
step_spends line (Expression-F.Text t) = spends_done _
step_spends line (Expression-F.Truth b) = spends_done _
step_spends line (Expression-F.Slot n kind) = spends_load n
step_spends line (Expression-F.Get p keys) = spends_bind (spends_each line keys) (λ vs. spends_ask _)
step_spends line (Expression-F.Alive n entity) = spends_more (omega arith) (spends_bind (spends_load n) (λ v. spends_ask (query.Alive (id_of v))))
step_spends line (Expression-F.Minus e) = spends_more (omega arith) (spends_bind e.1 (λ v. spends_done _))
step_spends line (Expression-F.Not e) = spends_more (omega arith) (spends_bind e.1 (λ v. spends_done _))
step_spends line (Expression-F.Binary operator a b) = spends_bind a.1 (λ x. spends_more (omega arith) (spends_bind b.1 (λ y. spends_combine line operator x y)))
step_spends line (Expression-F.And a b) = spends_bind a.1 (λ x. spends_if (truth_of x) b.1 (spends_more (omega arith) (spends_done _)))
step_spends line (Expression-F.Or a b) = spends_bind a.1 (λ x. spends_if (truth_of x) (spends_more (omega arith) (spends_done _)) b.1)

value_spends : {k : ℕ} (line : ℕ) (e : Expression) → Spends k (queries e) (value line e)
value_spends {k = k} line = ind-Expression (λ e. Spends k (queries e) (value line e)) (λ x y is.
    subst (λ m. Spends k (queries (roll-Expression x)) m) (sym (fold-roll-Expression (Does Answer) (value_step line) x))
    (subst (λ n. Spends k n (value_step line (map-Expression Expression (Does Answer) (value line) x))) (sym (fold-roll-Expression ℕ queries_step x))
    (subst (λ z. Spends k (queries_step (map-Expression Expression ℕ queries z)) (value_step line (map-Expression Expression (Does Answer) (value line) z))) is (step_spends {k = k} line y))))

spends_values : {k : ℕ} (line : ℕ) (es : List Expression) → Spends k (total (map queries es)) (each (map (value line) es))
spends_values line [] = spends_done []
spends_values line (e ∷ es) = spends_bind (value_spends line e) (λ a. spends_more (omega arith) (spends_bind (spends_values line es) (λ rest. spends_done (a ∷ rest))))

-- loops over blocks
spends_loop : {k q : ℕ} (n : ℕ) {test : Does Answer} {block : Does (Unit {0})} → q ≤ k → Spends k q test → Spends k 0 block → Spends k 0 (loop n test block)
spends_loop zero le st sb = spends_stop Spent
spends_loop {k = k} {q = q} (suc n) {test = test} {block = block} le st sb = spends_begin le (spends_more (omega arith) (spends_bind {n = q} {p = 0} st (λ v.
    spends_if (truth_of v) {x = block >>= λ u. loop n test block} {y = done tt} (spends_bind {n = 0} {p = 0} sb (λ u. spends_loop n le st sb)) (spends_done tt))))

spends_for_ids : {k : ℕ} (n : ℕ) (ids : List Id) {block : Does (Unit {0})} → Spends k 0 block → Spends k 0 (for_ids n ids block)
spends_for_ids n [] sb = spends_done tt
spends_for_ids n (id ∷ ids) sb = spends_bind {n = 0} {p = 0} (spends_store n (answer.Id id)) (λ u. spends_bind {n = 0} {p = 0} sb (λ u. spends_for_ids n ids sb))

spends_keys : {k : ℕ} (n : ℕ) (keys : List Key) → Spends k 0 (store_keys n keys)
spends_keys n [] = spends_done tt
spends_keys n (x ∷ keys) = spends_bind {n = 0} {p = 0} (spends_store n (value_of x)) (λ u. spends_keys (suc n) keys)

spends_for_tuples : {k : ℕ} (n : ℕ) (tuples : List (List Key)) {block : Does (Unit {0})} → Spends k 0 block → Spends k 0 (for_tuples n tuples block)
spends_for_tuples n [] sb = spends_done tt
spends_for_tuples n (keys ∷ tuples) sb = spends_bind {n = 0} {p = 0} (spends_keys n keys) (λ u. spends_bind {n = 0} {p = 0} sb (λ u. spends_for_tuples n tuples sb))

-- statements: claims beside each
abbrev ClaimedStatement : ℕ → Type 0
ClaimedStatement k = (s : Statement) × (width s ≤ k → Spends k 0 (does s))

first_fits : (a b k : ℕ) → max a b ≤ k → a ≤ k
first_fits a b k h = omega (arith, h)

rest_fits : (a b k : ℕ) → max a b ≤ k → b ≤ k
rest_fits a b k h = omega (arith, h)

spends_all : {k : ℕ} (ss : List (ClaimedStatement k)) → greatest (map width (map (λ p. p.0) ss)) ≤ k → Spends k 0 (all (map does (map (λ p. p.0) ss)))
spends_all [] h = spends_done tt
spends_all {k = k} (s ∷ ss) h = spends_bind {n = 0} {p = 0} (s.1 (first_fits (width s.0) (greatest (map width (map (λ p. p.0) ss))) k h)) (λ u. spends_all ss (rest_fits (width s.0) (greatest (map width (map (λ p. p.0) ss))) k h))

abbrev opened_statement : {k : ℕ} → Statement-F (ClaimedStatement k) → Statement-F (Does (Unit {0}))
opened_statement {k = k} y = map-Statement Statement (Does (Unit {0})) does (map-Statement (ClaimedStatement k) Statement (λ p. p.0) y)

abbrev counted_statement : {k : ℕ} → Statement-F (ClaimedStatement k) → Statement-F ℕ
counted_statement {k = k} y = map-Statement Statement ℕ width (map-Statement (ClaimedStatement k) Statement (λ p. p.0) y)

abbrev widths : {k : ℕ} → List (ClaimedStatement k) → ℕ
widths ss = greatest (map width (map (λ p. p.0) ss))

statement_spends : {k : ℕ} (y : Statement-F (ClaimedStatement k)) → width_step (counted_statement y) ≤ k → Spends k 0 (statement_step (opened_statement y))
statement_spends (Statement-F.Store line n e) h = spends_begin h (spends_more (omega arith) (spends_bind {n = queries e} {p = 0} (value_spends line e) (λ v. spends_store n v)))
statement_spends (Statement-F.Create line n entity keys) h = spends_begin h (spends_bind {n = total (map queries keys)} {p = 1} (spends_values line keys) (λ values.
    spends_bind {n = 0} {p = 1} spends_id (λ id. spends_bind {n = 1} {p = 0} (spends_tell (event.Do (update.Create id entity (map key_of values)))) (λ u. spends_store n (answer.Id id)))))
statement_spends (Statement-F.Update line property keys operator e) h = spends_begin h (spends_bind {n = total (map queries keys)} {p = queries e + 1} (spends_values line keys) (λ values.
    spends_bind {n = queries e} {p = 1} (value_spends line e) (λ v. spends_tell (event.Do (update.Cell property (map key_of values) (change_of operator v))))))
statement_spends (Statement-F.Delete line n entity) h = spends_begin h (spends_bind {n = 0} {p = 1} (spends_load n) (λ v. spends_tell (event.Do (update.Delete (id_of v)))))
statement_spends {k = k} (Statement-F.If line e first None) h = spends_begin (first_fits (queries e) (max (widths first) 0) k h) (spends_more (omega arith) (spends_bind {n = queries e} {p = 0} (value_spends line e) (λ v.
    spends_if (truth_of v) (spends_all first (first_fits (widths first) 0 k (rest_fits (queries e) (max (widths first) 0) k h))) (spends_done tt))))
statement_spends {k = k} (Statement-F.If line e first (Some second)) h = spends_begin (first_fits (queries e) (max (widths first) (widths second)) k h) (spends_more (omega arith) (spends_bind {n = queries e} {p = 0} (value_spends line e) (λ v.
    spends_if (truth_of v) (spends_all first (first_fits (widths first) (widths second) k (rest_fits (queries e) (max (widths first) (widths second)) k h)))
    (spends_all second (rest_fits (widths first) (widths second) k (rest_fits (queries e) (max (widths first) (widths second)) k h))))))
statement_spends {k = k} (Statement-F.While line e block) h = spends_turns (λ turns. spends_loop (suc turns) (first_fits (queries e) (widths block) k h) (value_spends line e) (spends_all block (rest_fits (queries e) (widths block) k h)))
statement_spends {k = k} (Statement-F.ForAll line n entity block) h = spends_begin (first_fits 1 (widths block) k h) (spends_bind {n = 1} {p = 0} (spends_ask (query.All entity)) (λ v. spends_for_ids n (ids_of v) (spends_all block (rest_fits 1 (widths block) k h))))
statement_spends {k = k} (Statement-F.ForEntries line n property block) h = spends_begin (first_fits 1 (widths block) k h) (spends_bind {n = 1} {p = 0} (spends_ask (query.Entries property)) (λ v. spends_for_tuples n (tuples_of v) (spends_all block (rest_fits 1 (widths block) k h))))
statement_spends (Statement-F.Print line e) h = spends_begin h (spends_bind {n = queries e} {p = 1} (value_spends line e) (λ v. spends_tell (event.Say v)))
statement_spends (Statement-F.Yield line) h = spends_begin h (spends_tell event.Yield)
statement_spends (Statement-F.Flush line) h = spends_begin h (spends_tell event.Flush)

does_spends : {k : ℕ} (s : Statement) → width s ≤ k → Spends k 0 (does s)
does_spends {k = k} = ind-Statement (λ s. width s ≤ k → Spends k 0 (does s)) (λ x y is h.
    let wide : width_step (map-Statement Statement ℕ width x) ≤ k = subst (λ n. n ≤ k) (fold-roll-Statement ℕ width_step x) h in
    subst (λ m. Spends k 0 m) (sym (fold-roll-Statement (Does (Unit {0})) statement_step x))
    (subst (λ z. width_step (map-Statement Statement ℕ width z) ≤ k → Spends k 0 (statement_step (map-Statement Statement (Does (Unit {0})) does z))) is (statement_spends {k = k} y) wide))

body_spends : {k : ℕ} (body : List Statement) → greatest (map width body) ≤ k → Spends k 0 (does_body body)
body_spends [] h = spends_done tt
body_spends {k = k} (s ∷ ss) h = spends_bind {n = 0} {p = 0} (does_spends s (first_fits (width s) (greatest (map width ss)) k h)) (λ u. body_spends ss (rest_fits (width s) (greatest (map width ss)) k h))

within_out : (k most : ℕ) (r : Run (Unit {0})) → Within k most r → length (come_out r).0 ≤ most
within_out k most (goes u v) h = omega (arith, h)
within_out k most (ends o es) h = h

pub trace_bounded : (client : ℕ) (body : List Statement) (answers : List Answer) → length (trace client body answers).0 ≤ most_events body
trace_bounded client body answers =
    let k : ℕ = greatest (map width body) in
    let h : length (trace client body answers).0 ≤ 0 + k * 16384 + 0 = within_out k (0 + k * 16384 + 0) (does_body body (start client answers)) ((body_spends body (omega arith)).by (start client answers)) in
    omega (arith, h, mul_comm k 16384)
