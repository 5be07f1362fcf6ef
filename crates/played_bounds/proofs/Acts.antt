-- A run has at most one update, yield or flush for each turn.
use Rattle.std.proofs.Common.{◌≡◌, refl, sym, subst, arith}
use Rattle.std.specs.Prelude.{ℕ, zero, suc, ◌+◌, ◌≤◌, Bool, true, false, List, [], ◌∷◌, ◌++◌, length, map, None, Some, if◌then◌else◌}
use Rattle.cloud_base.specs.Values.{Id}
use Rattle.cloud_base.specs.Events.{updates_of}
use Rattle.cloud_base.specs.declared.end.End.{End}
use Rattle.cloud_base.specs.declared.end.End.TheVariants.{Spent}
use Rattle.cloud_base.specs.declared.key.Key.{Key}
use Rattle.cloud_base.specs.declared.update.Answer.{Answer}
use Rattle.cloud_base.specs.declared.update.Answer.TheVariants as answer
use Rattle.cloud_base.specs.declared.update.Query.{Query}
use Rattle.cloud_base.specs.declared.update.Query.TheVariants as query
use Rattle.cloud_base.specs.declared.update.Update.TheVariants as update
use Rattle.cloud_base.specs.declared.update.Event.{Event}
use Rattle.cloud_base.specs.declared.update.Event.TheVariants as event
use Rattle.typed_program.specs.declared.expression.Operator.{Operator}
use Rattle.typed_program.specs.declared.expression.Operator.TheVariants as op
use Rattle.typed_program.specs.declared.expression.Expression.{Expression}
use Rattle.typed_program.specs.declared.expression.Expression.TheOpen.{Expression-F}
use Rattle.typed_program.specs.declared.expression.Expression.TheFolds.{fold-roll-Expression, ind-Expression, map-Expression}
use Rattle.typed_program.specs.declared.statement.Statement.{Statement}
use Rattle.typed_program.specs.declared.statement.Statement.TheOpen.{Statement-F}
use Rattle.typed_program.specs.declared.statement.Statement.TheFolds.{fold-roll-Statement, ind-Statement, map-Statement}
use Rattle.typed_program.specs.Does.{World, Run, goes, ends, Does, done, stop, tell, ask, ask_next, begin, begin_with, load, store, next_id, each, all, ◌>>=◌, then_by}
use Rattle.typed_program.specs.Trace.{value, value_step, combine, is_zero, id_of, ids_of, tuples_of, key_of, value_of, truth_of, change_of, loop, for_ids, store_keys, for_tuples, statement_step, does, does_body, start, come_out, trace, budget}
use Rattle.played_bounds.specs.Few.{acts_in}

-- ---- events

-- one list after another
pub acts_in-append : (es more : List Event) → acts_in (es ++ more) ≡ acts_in es + acts_in more
acts_in-append [] more = omega arith
acts_in-append (event.Do u ∷ es) more = omega (arith, acts_in-append es more)
acts_in-append (event.Ask q a ∷ es) more = acts_in-append es more
acts_in-append (event.Say v ∷ es) more = acts_in-append es more
acts_in-append (event.Yield ∷ es) more = omega (arith, acts_in-append es more)
acts_in-append (event.Flush ∷ es) more = omega (arith, acts_in-append es more)

pub updates_act : (es : List Event) → length (updates_of es) ≤ acts_in es
updates_act [] = omega arith
updates_act (event.Do u ∷ es) = omega (arith, updates_act es)
updates_act (event.Ask q a ∷ es) = updates_act es
updates_act (event.Say v ∷ es) = updates_act es
updates_act (event.Yield ∷ es) = omega (arith, updates_act es)
updates_act (event.Flush ∷ es) = omega (arith, updates_act es)

-- ---- what a step of a run does

-- the acts of a run, and those that the turns left may still bring, are at most so many
abbrev Within : {A : Type 0} → ℕ → Run A → Type 0
Within most (goes a v) = acts_in v.events + v.turns ≤ most
Within most (ends o es) = acts_in es ≤ most

-- it acts at most so often, besides once for each turn that it takes
record Acts (extra : ℕ) {A : Type 0} (m : Does A) : Type 0 where
  by : (w : World) → Within (acts_in w.events + w.turns + extra) (m w)

wider : {A : Type 0} (most more : ℕ) (r : Run A) → most ≤ more → Within most r → Within more r
wider most more (goes a v) le h = omega (arith, le, h)
wider most more (ends o es) le h = omega (arith, le, h)

bind : {n p : ℕ} {A B : Type 0} {m : Does A} {f : A → Does B} → Acts n m → ((a : A) → Acts p (f a)) → Acts (n + p) (m >>= f)
bind {n = n} {p = p} {A = A} {B = B} {m = m} {f = f} sm sf = record { by = λ w. at w (m w) (sm.by w) }
  where
    at : (w : World) (r : Run A) → Within (acts_in w.events + w.turns + n) r
        → Within (acts_in w.events + w.turns + (n + p)) (then_by {A = A} {B = B} r f)
    at w (goes a v) h =
        wider (acts_in v.events + v.turns + p) (acts_in w.events + w.turns + (n + p)) (f a v) (omega (arith, h)) ((sf a).by v)
    at w (ends o es) h = omega (arith, h)

more : {n p : ℕ} {A : Type 0} {m : Does A} → n ≤ p → Acts n m → Acts p m
more {n = n} {p = p} {m = m} le sm = record {
  by = λ w. wider (acts_in w.events + w.turns + n) (acts_in w.events + w.turns + p) (m w) (omega (arith, le)) (sm.by w);
}

-- what tells nothing
of_done : {A : Type 0} (a : A) → Acts 0 (done a)
of_done a = record { by = λ w. omega arith }

of_load : (n : ℕ) → Acts 0 (load n)
of_load n = record { by = λ w. omega arith }

of_store : (n : ℕ) (v : Answer) → Acts 0 (store n v)
of_store n v = record { by = λ w. omega arith }

of_id : Acts 0 next_id
of_id = record { by = λ w. omega arith }

of_stop : {A : Type 0} (e : End) → Acts 0 (stop {A = A} e)
of_stop e = record { by = λ w. omega arith }

-- one event more
of_tell : {n : ℕ} (e : Event) → acts_in (e ∷ []) ≡ n → Acts n (tell e)
of_tell {n = n} e one = record { by = λ w. omega (arith, acts_in-append w.events (e ∷ []), one) }

of_ask : (q : Query) → Acts 0 (ask q)
of_ask q = record { by = λ w. at w w.answers }
  where
    at : (w : World) (answers : List Answer) → Within (acts_in w.events + w.turns + 0) (ask_next q answers w)
    at w [] = omega arith
    at w (a ∷ rest) = omega (arith, acts_in-append w.events (event.Ask q a ∷ []))

-- a statement that begins takes a turn, and so may act once
of_begin : {A : Type 0} {m : Does A} → Acts 1 m → Acts 0 (begin >>= λ u. m)
of_begin {A = A} {m = m} sm = record { by = λ w. at w w.turns refl }
  where
    at : (w : World) (turns : ℕ) → w.turns ≡ turns
        → Within (acts_in w.events + w.turns + 0) (then_by {A = Unit {0}} {B = A} (begin_with turns w) (λ u. m))
    at w zero e = omega arith
    at w (suc t) e =
        let v : World = record w { turns = t } in
        wider (acts_in w.events + t + 1) (acts_in w.events + w.turns + 0) (m v) (omega (arith, e)) (sm.by v)

-- and may not
of_begun : {A : Type 0} {m : Does A} → Acts 0 m → Acts 0 (begin >>= λ u. m)
of_begun sm = of_begin (more (omega arith) sm)

of_if : {n : ℕ} {A : Type 0} (b : Bool) {x y : Does A} → Acts n x → Acts n y → Acts n (if b then x else y)
of_if true sx sy = sx
of_if false sx sy = sy

of_turns : {A : Type 0} {f : ℕ → Does A} → ((turns : ℕ) → Acts 0 (f turns)) → Acts 0 (λ w. f w.turns w)
of_turns s = record { by = λ w. (s w.turns).by w }

-- one that acts so often, after another that doesn't
after : {n : ℕ} {A B : Type 0} {m : Does A} {f : A → Does B} → Acts 0 m → ((a : A) → Acts n (f a)) → Acts n (m >>= f)
after {n = n} sm sf = more {n = 0 + n} {p = n} (omega arith) (bind {n = 0} {p = n} sm sf)

-- ---- expressions: claims beside each

abbrev Claimed : ℕ → Type 0
Claimed line = (e : Expression) × Acts 0 (value line e)

of_each : (line : ℕ) (es : List (Claimed line)) → Acts 0 (each (map (value line) (map (λ p. p.0) es)))
of_each line [] = of_done []
of_each line (e ∷ es) = after e.1 (λ a. after (of_each line es) (λ rest. of_done (a ∷ rest)))

of_combine : (line : ℕ) (operator : Operator) (a b : Answer) → Acts 0 (combine line operator a b)
of_combine line op.Add a b = of_done _
of_combine line op.Subtract a b = of_done _
of_combine line op.Multiply a b = of_done _
of_combine line op.Divide a b = of_if (is_zero b) (of_stop _) (of_done _)
of_combine line op.Remainder a b = of_if (is_zero b) (of_stop _) (of_done _)
of_combine line op.Concat a b = of_done _
of_combine line op.Equal a b = of_done _
of_combine line op.NotEqual a b = of_done _
of_combine line op.Less a b = of_done _
of_combine line op.LessOrEqual a b = of_done _
of_combine line op.Greater a b = of_done _
of_combine line op.GreaterOrEqual a b = of_done _

abbrev opened : (line : ℕ) → Expression-F (Claimed line) → Expression-F (Does Answer)
opened line y = map-Expression Expression (Does Answer) (value line) (map-Expression (Claimed line) Expression (λ p. p.0) y)

of_step : (line : ℕ) (y : Expression-F (Claimed line)) → Acts 0 (value_step line (opened line y))
of_step line (Expression-F.Int n) = of_done _
of_step line (Expression-F.Text t) = of_done _
of_step line (Expression-F.Truth b) = of_done _
of_step line (Expression-F.Slot n kind) = of_load n
of_step line (Expression-F.Get p keys) = after (of_each line keys) (λ vs. of_ask _)
of_step line (Expression-F.Alive n entity) = after (of_load n) (λ v. of_ask (query.Alive (id_of v)))
of_step line (Expression-F.Minus e) = after e.1 (λ v. of_done _)
of_step line (Expression-F.Not e) = after e.1 (λ v. of_done _)
of_step line (Expression-F.Binary operator a b) = after a.1 (λ x. after b.1 (λ y. of_combine line operator x y))
of_step line (Expression-F.And a b) = after a.1 (λ x. of_if (truth_of x) b.1 (of_done _))
of_step line (Expression-F.Or a b) = after a.1 (λ x. of_if (truth_of x) (of_done _) b.1)

of_value : (line : ℕ) (e : Expression) → Acts 0 (value line e)
of_value line = ind-Expression (λ e. Acts 0 (value line e)) (λ x y is.
    subst (λ m. Acts 0 m) (sym (fold-roll-Expression (Does Answer) (value_step line) x))
    (subst (λ z. Acts 0 (value_step line (map-Expression Expression (Does Answer) (value line) z))) is (of_step line y)))

of_values : (line : ℕ) (es : List Expression) → Acts 0 (each (map (value line) es))
of_values line [] = of_done []
of_values line (e ∷ es) = after (of_value line e) (λ a. after (of_values line es) (λ rest. of_done (a ∷ rest)))

-- ---- loops over blocks

of_loop : (n : ℕ) {test : Does Answer} {block : Does (Unit {0})} → Acts 0 test → Acts 0 block → Acts 0 (loop n test block)
of_loop zero st sb = of_stop Spent
of_loop (suc n) {test = test} {block = block} st sb = of_begun (after st (λ v.
    of_if (truth_of v) {x = block >>= λ u. loop n test block} {y = done tt} (after sb (λ u. of_loop n st sb)) (of_done tt)))

of_ids : (n : ℕ) (ids : List Id) {block : Does (Unit {0})} → Acts 0 block → Acts 0 (for_ids n ids block)
of_ids n [] sb = of_done tt
of_ids n (id ∷ ids) sb = after (of_store n (answer.Id id)) (λ u. after sb (λ u. of_ids n ids sb))

of_keys : (n : ℕ) (keys : List Key) → Acts 0 (store_keys n keys)
of_keys n [] = of_done tt
of_keys n (x ∷ keys) = after (of_store n (value_of x)) (λ u. of_keys (suc n) keys)

of_tuples : (n : ℕ) (tuples : List (List Key)) {block : Does (Unit {0})} → Acts 0 block → Acts 0 (for_tuples n tuples block)
of_tuples n [] sb = of_done tt
of_tuples n (keys ∷ tuples) sb = after (of_keys n keys) (λ u. after sb (λ u. of_tuples n tuples sb))

-- ---- statements: claims beside each

abbrev Calm : Type 0
Calm = (s : Statement) × Acts 0 (does s)

of_all : (ss : List Calm) → Acts 0 (all (map does (map (λ p. p.0) ss)))
of_all [] = of_done tt
of_all (s ∷ ss) = after s.1 (λ u. of_all ss)

abbrev opened_statement : Statement-F Calm → Statement-F (Does (Unit {0}))
opened_statement y = map-Statement Statement (Does (Unit {0})) does (map-Statement Calm Statement (λ p. p.0) y)

-- a statement that does one act at most, in the turn in which it begins
of_statement : (y : Statement-F Calm) → Acts 0 (statement_step (opened_statement y))
of_statement (Statement-F.Store line n e) = of_begun (after (of_value line e) (λ v. of_store n v))
of_statement (Statement-F.Create line n entity keys) = of_begin (after (of_values line keys) (λ values.
    after of_id (λ id. bind {n = 1} {p = 0} (of_tell (event.Do (update.Create id entity (map key_of values))) refl)
    (λ u. of_store n (answer.Id id)))))
of_statement (Statement-F.Update line property keys operator e) = of_begin (after (of_values line keys) (λ values.
    after (of_value line e) (λ v. of_tell (event.Do (update.Cell property (map key_of values) (change_of operator v))) refl)))
of_statement (Statement-F.Delete line n entity) =
    of_begin (after (of_load n) (λ v. of_tell (event.Do (update.Delete (id_of v))) refl))
of_statement (Statement-F.If line e first None) =
    of_begun (after (of_value line e) (λ v. of_if (truth_of v) (of_all first) (of_done tt)))
of_statement (Statement-F.If line e first (Some second)) =
    of_begun (after (of_value line e) (λ v. of_if (truth_of v) (of_all first) (of_all second)))
of_statement (Statement-F.While line e block) = of_turns (λ turns. of_loop (suc turns) (of_value line e) (of_all block))
of_statement (Statement-F.ForAll line n entity block) =
    of_begun (after (of_ask (query.All entity)) (λ v. of_ids n (ids_of v) (of_all block)))
of_statement (Statement-F.ForEntries line n property block) =
    of_begun (after (of_ask (query.Entries property)) (λ v. of_tuples n (tuples_of v) (of_all block)))
of_statement (Statement-F.Print line e) = of_begun (after (of_value line e) (λ v. of_tell (event.Say v) refl))
of_statement (Statement-F.Yield line) = of_begin (of_tell event.Yield refl)
of_statement (Statement-F.Flush line) = of_begin (of_tell event.Flush refl)

of_does : (s : Statement) → Acts 0 (does s)
of_does = ind-Statement (λ s. Acts 0 (does s)) (λ x y is.
    subst (λ m. Acts 0 m) (sym (fold-roll-Statement (Does (Unit {0})) statement_step x))
    (subst (λ z. Acts 0 (statement_step (map-Statement Statement (Does (Unit {0})) does z))) is (of_statement y)))

of_body : (body : List Statement) → Acts 0 (does_body body)
of_body [] = of_done tt
of_body (s ∷ ss) = after (of_does s) (λ u. of_body ss)

came_out : (most : ℕ) (r : Run (Unit {0})) → Within most r → acts_in (come_out r).0 ≤ most
came_out most (goes u v) h = omega (arith, h)
came_out most (ends o es) h = h

-- so a body acts at most once a turn
pub trace_acts : (client : ℕ) (body : List Statement) (answers : List Answer) → acts_in (trace client body answers).0 ≤ budget
trace_acts client body answers =
    let out = came_out (0 + 16384 + 0) (does_body body (start client answers)) ((of_body body).by (start client answers)) in
    omega (arith, out)
