-- Events only grow, turns only fall, and more answers only extend a run.
use Rattle.std.proofs.Common.{◌≡◌, refl, ap, sym, ◌∙◌, subst, arith}
use Rattle.std.proofs.lemmas.List.{append_assoc, append-nil}
use Rattle.std.specs.Prelude.{ℕ, zero, suc, ◌≤◌, ⊤, Bool, true, false, List, [], ◌∷◌, ◌++◌, map, None, Some, if◌then◌else◌}
use mathlib.Core.List.{IsPrefix}
use Rattle.cloud_base.specs.Values.{Id}
use Rattle.cloud_base.specs.Events.{ended, asks, answers_in}
use Rattle.cloud_base.specs.declared.end.End.{End}
use Rattle.cloud_base.specs.declared.end.End.TheVariants.{Spent}
use Rattle.cloud_base.specs.declared.key.Key.{Key}
use Rattle.cloud_base.specs.declared.update.Answer.{Answer}
use Rattle.cloud_base.specs.declared.update.Answer.TheVariants as answer
use Rattle.cloud_base.specs.declared.update.Query.{Query}
use Rattle.cloud_base.specs.declared.update.Query.TheVariants as query
use Rattle.cloud_base.specs.declared.update.Update.TheVariants as update
use Rattle.cloud_base.specs.declared.update.Event.{Event}
use Rattle.cloud_base.specs.declared.update.Event.TheVariants as event
use Rattle.typed_program.specs.declared.expression.Operator.{Operator}
use Rattle.typed_program.specs.declared.expression.Operator.TheVariants as op
use Rattle.typed_program.specs.declared.expression.Expression.{Expression}
use Rattle.typed_program.specs.declared.expression.Expression.TheOpen.{Expression-F}
use Rattle.typed_program.specs.declared.expression.Expression.TheFolds.{fold-roll-Expression, ind-Expression, map-Expression}
use Rattle.typed_program.specs.declared.statement.Statement.{Statement}
use Rattle.typed_program.specs.declared.statement.Statement.TheOpen.{Statement-F}
use Rattle.typed_program.specs.declared.statement.Statement.TheFolds.{fold-roll-Statement, ind-Statement, map-Statement}
use Rattle.typed_program.specs.Does.{World, Run, goes, ends, Does, done, stop, tell, ask, ask_next, begin, begin_with, load, store, next_id, each, all, ◌>>=◌, then_by}
use Rattle.typed_program.specs.Laws.{events_of}
use Rattle.typed_program.specs.Trace.{value, value_step, combine, is_zero, id_of, ids_of, tuples_of, key_of, value_of, truth_of, change_of, loop, repeat, for_ids, store_keys, for_tuples, statement_step, does, does_body}

pub prefix_refl : {A : Type 0} (xs : List A) → IsPrefix xs xs
prefix_refl xs = ([], append-nil xs)

pub prefix_trans : {A : Type 0} (xs ys zs : List A) → IsPrefix xs ys → IsPrefix ys zs → IsPrefix xs zs
prefix_trans xs ys zs a b = (a.0 ++ b.0, sym (append_assoc xs a.0 b.0) ∙ ap (λ l. l ++ b.0) a.1 ∙ b.1)

-- the same, with more answers behind those that are left
abbrev pub with_more : List Answer → World → World
with_more more w = record w { answers = w.answers ++ more }

abbrev pub Falls : {A : Type 0} → ℕ → Run A → Type 0
Falls turns (goes a v) = v.turns ≤ turns
Falls turns (ends outcome events) = ⊤

-- what a run is with more answers
abbrev pub Continues : {A : Type 0} → List Answer → Run A → Run A → Type 0
Continues more (goes a v) r = r ≡ goes a (with_more more v)
Continues more (ends (ended e) events) r = r ≡ ends (ended e) events
Continues more (ends (asks q) events) r = (a : Answer) (rest : List Answer) → more ≡ a ∷ rest → IsPrefix (events ++ event.Ask q a ∷ []) (events_of r)

-- the answers that were taken and those that are left
abbrev pub Takes : {A : Type 0} → List Answer → Run A → Type 0
Takes answers (goes a v) = answers_in v.events ++ v.answers ≡ answers
Takes answers (ends (ended e) events) = IsPrefix (answers_in events) answers
Takes answers (ends (asks q) events) = answers_in events ≡ answers

pub record Orderly {A : Type 0} (m : Does A) : Type 0 where
  pub grows : (w : World) → IsPrefix w.events (events_of (m w))
  pub falls : (w : World) → Falls w.turns (m w)
  pub continues : (more : List Answer) (w : World) → Continues more (m w) (m (with_more more w))
  pub takes : (w : World) → Takes (answers_in w.events ++ w.answers) (m w)

-- what is orderly and then goes on with what is orderly
pub orderly_bind : {A B : Type 0} (m : Does A) (f : A → Does B) → Orderly m → ((a : A) → Orderly (f a)) → Orderly (m >>= f)
orderly_bind {A = A} {B = B} m f om of = record {
  grows = λ w. grown w (m w) (om.grows w);
  falls = λ w. fallen w.turns (m w) (om.falls w);
  continues = λ more w. gone_on more (m w) (m (with_more more w)) (om.continues more w);
  takes = λ w. taken (answers_in w.events ++ w.answers) (m w) (om.takes w);
}
  where
    next : Run A → Run B
    next r = then_by {A = A} {B = B} r f

    grown : (w : World) (r : Run A) → IsPrefix w.events (events_of r) → IsPrefix w.events (events_of (next r))
    grown w (goes a v) p = prefix_trans w.events v.events (events_of (f a v)) p ((of a).grows v)
    grown w (ends s es) p = p

    less : (turns : ℕ) (v : World) (r : Run B) → v.turns ≤ turns → Falls v.turns r → Falls turns r
    less turns v (goes b u) p q = omega (arith, p, q)
    less turns v (ends s es) p q = tt

    fallen : (turns : ℕ) (r : Run A) → Falls turns r → Falls turns (next r)
    fallen turns (goes a v) p = less turns v (f a v) p ((of a).falls v)
    fallen turns (ends s es) p = tt

    behind : (es : List Event) (r : Run A) → IsPrefix es (events_of r) → IsPrefix es (events_of (next r))
    behind es (goes a v) p = prefix_trans es v.events (events_of (f a v)) p ((of a).grows v)
    behind es (ends s us) p = p

    gone_on : (more : List Answer) (r s : Run A) → Continues more r s → Continues more (next r) (next s)
    gone_on more (goes a v) s e = subst (λ x. Continues more (f a v) (next x)) (sym e) ((of a).continues more v)
    gone_on more (ends (ended e) es) s q = ap next q
    gone_on more (ends (asks q) es) s p = λ a rest e. behind (es ++ event.Ask q a ∷ []) s (p a rest e)

    taken : (answers : List Answer) (r : Run A) → Takes answers r → Takes answers (next r)
    taken answers (goes a v) e = subst (λ x. Takes x (f a v)) e ((of a).takes v)
    taken answers (ends (ended e) es) p = p
    taken answers (ends (asks q) es) p = p

-- what leaves events, answers and turns
pub orderly_done : {A : Type 0} (a : A) → Orderly (done a)
orderly_done a = record {
  grows = λ w. prefix_refl w.events;
  falls = λ w. omega arith;
  continues = λ more w. refl;
  takes = λ w. refl;
}

pub orderly_load : (n : ℕ) → Orderly (load n)
orderly_load n = record {
  grows = λ w. prefix_refl w.events;
  falls = λ w. omega arith;
  continues = λ more w. refl;
  takes = λ w. refl;
}

pub orderly_store : (n : ℕ) (v : Answer) → Orderly (store n v)
orderly_store n v = record {
  grows = λ w. prefix_refl w.events;
  falls = λ w. omega arith;
  continues = λ more w. refl;
  takes = λ w. refl;
}

pub orderly_id : Orderly next_id
orderly_id = record {
  grows = λ w. prefix_refl w.events;
  falls = λ w. omega arith;
  continues = λ more w. refl;
  takes = λ w. refl;
}

front : {A : Type 0} (xs ys : List A) → IsPrefix xs (xs ++ ys)
front xs ys = (ys, refl)

pub orderly_stop : {A : Type 0} (e : End) → Orderly (stop {A = A} e)
orderly_stop e = record {
  grows = λ w. prefix_refl w.events;
  falls = λ w. tt;
  continues = λ more w. refl;
  takes = λ w. front (answers_in w.events) w.answers;
}

pub orderly_begin : Orderly begin
orderly_begin = record {
  grows = λ w. grown w w.turns;
  falls = λ w. fallen w w.turns;
  continues = λ more w. gone_on more w w.turns;
  takes = λ w. taken w w.turns;
}
  where
    grown : (w : World) (turns : ℕ) → IsPrefix w.events (events_of (begin_with turns w))
    grown w zero = prefix_refl w.events
    grown w (suc n) = prefix_refl w.events

    fallen : (w : World) (turns : ℕ) → Falls turns (begin_with turns w)
    fallen w zero = tt
    fallen w (suc n) = omega arith

    gone_on : (more : List Answer) (w : World) (turns : ℕ) → Continues more (begin_with turns w) (begin_with turns (with_more more w))
    gone_on more w zero = refl
    gone_on more w (suc n) = refl

    taken : (w : World) (turns : ℕ) → Takes (answers_in w.events ++ w.answers) (begin_with turns w)
    taken w zero = front (answers_in w.events) w.answers
    taken w (suc n) = refl

-- the answers in two lists of events
pub answers_in-append : (xs ys : List Event) → answers_in (xs ++ ys) ≡ answers_in xs ++ answers_in ys
answers_in-append [] ys = refl
answers_in-append (event.Do u ∷ xs) ys = answers_in-append xs ys
answers_in-append (event.Ask q a ∷ xs) ys = ap (λ l. a ∷ l) (answers_in-append xs ys)
answers_in-append (event.Say a ∷ xs) ys = answers_in-append xs ys
answers_in-append (event.Yield ∷ xs) ys = answers_in-append xs ys
answers_in-append (event.Flush ∷ xs) ys = answers_in-append xs ys

-- an event that asks nothing
abbrev pub AsksNothing : Event → Type 0
AsksNothing e = answers_in (e ∷ []) ≡ []

pub orderly_tell : (e : Event) → AsksNothing e → Orderly (tell e)
orderly_tell e n = record {
  grows = λ w. front w.events (e ∷ []);
  falls = λ w. omega arith;
  continues = λ more w. refl;
  takes = λ w. ap (λ l. l ++ w.answers) (answers_in-append w.events (e ∷ []) ∙ ap (λ l. answers_in w.events ++ l) n ∙ append-nil (answers_in w.events));
}

pub orderly_ask : (q : Query) → Orderly (ask q)
orderly_ask q = record {
  grows = λ w. grown w w.answers;
  falls = λ w. fallen w w.answers;
  continues = λ more w. gone_on more w w.answers;
  takes = λ w. taken w w.answers;
}
  where
    grown : (w : World) (answers : List Answer) → IsPrefix w.events (events_of (ask_next q answers w))
    grown w [] = prefix_refl w.events
    grown w (a ∷ rest) = front w.events (event.Ask q a ∷ [])

    fallen : (w : World) (answers : List Answer) → Falls w.turns (ask_next q answers w)
    fallen w [] = tt
    fallen w (a ∷ rest) = omega arith

    next : (more : List Answer) (w : World) (a : Answer) (rest : List Answer) → more ≡ a ∷ rest → IsPrefix (w.events ++ event.Ask q a ∷ []) (events_of (ask_next q more (with_more more w)))
    next more w a rest e = subst (λ l. IsPrefix (w.events ++ event.Ask q a ∷ []) (events_of (ask_next q l (with_more l w)))) (sym e) (prefix_refl (w.events ++ event.Ask q a ∷ []))

    gone_on : (more : List Answer) (w : World) (answers : List Answer) → Continues more (ask_next q answers w) (ask_next q (answers ++ more) (with_more more w))
    gone_on more w [] = next more w
    gone_on more w (a ∷ rest) = refl

    taken : (w : World) (answers : List Answer) → Takes (answers_in w.events ++ answers) (ask_next q answers w)
    taken w [] = sym (append-nil (answers_in w.events))
    taken w (a ∷ rest) = ap (λ l. l ++ rest) (answers_in-append w.events (event.Ask q a ∷ [])) ∙ append_assoc (answers_in w.events) (a ∷ []) rest

orderly_if : {A : Type 0} (b : Bool) (m n : Does A) → Orderly m → Orderly n → Orderly (if b then m else n)
orderly_if true m n om on = om
orderly_if false m n om on = on

-- what goes by the turns that are left
orderly_turns : {A : Type 0} (f : ℕ → Does A) → ((n : ℕ) → Orderly (f n)) → Orderly (λ w. f w.turns w)
orderly_turns f o = record {
  grows = λ w. (o w.turns).grows w;
  falls = λ w. (o w.turns).falls w;
  continues = λ more w. (o w.turns).continues more w;
  takes = λ w. (o w.turns).takes w;
}

-- expressions: claims beside each
abbrev Claimed : ℕ → Type 0
Claimed line = (e : Expression) × Orderly (value line e)

orderly_each : (line : ℕ) (es : List (Claimed line)) → Orderly (each (map (value line) (map (λ p. p.0) es)))
orderly_each line [] = orderly_done []
orderly_each line (e ∷ es) = orderly_bind (value line e.0) _ e.1 (λ a. orderly_bind (each (map (value line) (map (λ p. p.0) es))) _ (orderly_each line es) (λ rest. orderly_done (a ∷ rest)))

pub orderly_combine : (line : ℕ) (operator : Operator) (a b : Answer) → Orderly (combine line operator a b)
orderly_combine line op.Add a b = orderly_done _
orderly_combine line op.Subtract a b = orderly_done _
orderly_combine line op.Multiply a b = orderly_done _
orderly_combine line op.Divide a b = orderly_if (is_zero b) _ _ (orderly_stop _) (orderly_done _)
orderly_combine line op.Remainder a b = orderly_if (is_zero b) _ _ (orderly_stop _) (orderly_done _)
orderly_combine line op.Concat a b = orderly_done _
orderly_combine line op.Equal a b = orderly_done _
orderly_combine line op.NotEqual a b = orderly_done _
orderly_combine line op.Less a b = orderly_done _
orderly_combine line op.LessOrEqual a b = orderly_done _
orderly_combine line op.Greater a b = orderly_done _
orderly_combine line op.GreaterOrEqual a b = orderly_done _

abbrev opened : (line : ℕ) → Expression-F (Claimed line) → Expression-F (Does Answer)
opened line y = map-Expression Expression (Does Answer) (value line) (map-Expression (Claimed line) Expression (λ p. p.0) y)

step_orderly : (line : ℕ) (y : Expression-F (Claimed line)) → Orderly (value_step line (opened line y))
step_orderly line (Expression-F.Int n) = orderly_done _
step_orderly line (Expression-F.Text t) = orderly_done _
step_orderly line (Expression-F.Truth b) = orderly_done _
step_orderly line (Expression-F.Slot n kind) = orderly_load n
step_orderly line (Expression-F.Get p keys) = orderly_bind _ _ (orderly_each line keys) (λ vs. orderly_ask _)
step_orderly line (Expression-F.Alive n entity) = orderly_bind (load n) _ (orderly_load n) (λ v. orderly_ask (query.Alive (id_of v)))
step_orderly line (Expression-F.Minus e) = orderly_bind (value line e.0) _ e.1 (λ v. orderly_done _)
step_orderly line (Expression-F.Not e) = orderly_bind (value line e.0) _ e.1 (λ v. orderly_done _)
step_orderly line (Expression-F.Binary operator a b) = orderly_bind (value line a.0) _ a.1 (λ x. orderly_bind (value line b.0) _ b.1 (λ y. orderly_combine line operator x y))
step_orderly line (Expression-F.And a b) = orderly_bind (value line a.0) _ a.1 (λ x. orderly_if (truth_of x) _ _ b.1 (orderly_done _))
step_orderly line (Expression-F.Or a b) = orderly_bind (value line a.0) _ a.1 (λ x. orderly_if (truth_of x) _ _ (orderly_done _) b.1)

pub value_orderly : (line : ℕ) (e : Expression) → Orderly (value line e)
value_orderly line = ind-Expression (λ e. Orderly (value line e)) (λ x y is.
    subst Orderly (sym (fold-roll-Expression (Does Answer) (value_step line) x)) (subst (λ z. Orderly (value_step line (map-Expression Expression (Does Answer) (value line) z))) is (step_orderly line y)))

orderly_values : (line : ℕ) (es : List Expression) → Orderly (each (map (value line) es))
orderly_values line [] = orderly_done []
orderly_values line (e ∷ es) = orderly_bind (value line e) _ (value_orderly line e) (λ a. orderly_bind (each (map (value line) es)) _ (orderly_values line es) (λ rest. orderly_done (a ∷ rest)))

-- loops over blocks
pub orderly_loop : (n : ℕ) (test : Does Answer) (block : Does (Unit {0})) → Orderly test → Orderly block → Orderly (loop n test block)
orderly_loop zero test block ot ob = orderly_stop Spent
orderly_loop (suc n) test block ot ob = orderly_bind begin _ orderly_begin (λ u. orderly_bind test _ ot (λ v.
    orderly_if (truth_of v) (block >>= λ u. loop n test block) (done tt) (orderly_bind block (λ u. loop n test block) ob (λ u. orderly_loop n test block ot ob)) (orderly_done tt)))

pub orderly_repeat : (test : Does Answer) (block : Does (Unit {0})) → Orderly test → Orderly block → Orderly (repeat test block)
orderly_repeat test block ot ob = orderly_turns (λ n. loop (suc n) test block) (λ n. orderly_loop (suc n) test block ot ob)

orderly_for_ids : (n : ℕ) (ids : List Id) (block : Does (Unit {0})) → Orderly block → Orderly (for_ids n ids block)
orderly_for_ids n [] block ob = orderly_done tt
orderly_for_ids n (id ∷ ids) block ob = orderly_bind (store n (answer.Id id)) _ (orderly_store n (answer.Id id)) (λ u. orderly_bind block _ ob (λ u. orderly_for_ids n ids block ob))

orderly_keys : (n : ℕ) (keys : List Key) → Orderly (store_keys n keys)
orderly_keys n [] = orderly_done tt
orderly_keys n (k ∷ keys) = orderly_bind (store n (value_of k)) _ (orderly_store n (value_of k)) (λ u. orderly_keys (suc n) keys)

pub orderly_for_tuples : (n : ℕ) (tuples : List (List Key)) (block : Does (Unit {0})) → Orderly block → Orderly (for_tuples n tuples block)
orderly_for_tuples n [] block ob = orderly_done tt
orderly_for_tuples n (keys ∷ tuples) block ob = orderly_bind (store_keys n keys) _ (orderly_keys n keys) (λ u. orderly_bind block _ ob (λ u. orderly_for_tuples n tuples block ob))

-- statements: claims beside each
abbrev ClaimedStatement : Type 0
ClaimedStatement = (s : Statement) × Orderly (does s)

orderly_all : (ss : List ClaimedStatement) → Orderly (all (map does (map (λ p. p.0) ss)))
orderly_all [] = orderly_done tt
orderly_all (s ∷ ss) = orderly_bind (does s.0) _ s.1 (λ u. orderly_all ss)

abbrev opened_statement : Statement-F ClaimedStatement → Statement-F (Does (Unit {0}))
opened_statement y = map-Statement Statement (Does (Unit {0})) does (map-Statement ClaimedStatement Statement (λ p. p.0) y)

statement_orderly : (y : Statement-F ClaimedStatement) → Orderly (statement_step (opened_statement y))
statement_orderly (Statement-F.Store line n e) = orderly_bind begin _ orderly_begin (λ u. orderly_bind (value line e) _ (value_orderly line e) (λ v. orderly_store n v))
statement_orderly (Statement-F.Create line n entity keys) = orderly_bind begin _ orderly_begin (λ u. orderly_bind (each (map (value line) keys)) _ (orderly_values line keys) (λ values.
    orderly_bind next_id _ orderly_id (λ id. orderly_bind (tell (event.Do (update.Create id entity (map key_of values)))) _ (orderly_tell (event.Do (update.Create id entity (map key_of values))) refl) (λ u. orderly_store n (answer.Id id)))))
statement_orderly (Statement-F.Update line property keys operator e) = orderly_bind begin _ orderly_begin (λ u. orderly_bind (each (map (value line) keys)) _ (orderly_values line keys) (λ values.
    orderly_bind (value line e) _ (value_orderly line e) (λ v. orderly_tell (event.Do (update.Cell property (map key_of values) (change_of operator v))) refl)))
statement_orderly (Statement-F.Delete line n entity) = orderly_bind begin _ orderly_begin (λ u. orderly_bind (load n) _ (orderly_load n) (λ v. orderly_tell (event.Do (update.Delete (id_of v))) refl))
statement_orderly (Statement-F.If line e first None) = orderly_bind begin _ orderly_begin (λ u. orderly_bind (value line e) _ (value_orderly line e) (λ v. orderly_if (truth_of v) _ _ (orderly_all first) (orderly_done tt)))
statement_orderly (Statement-F.If line e first (Some second)) = orderly_bind begin _ orderly_begin (λ u. orderly_bind (value line e) _ (value_orderly line e) (λ v. orderly_if (truth_of v) _ _ (orderly_all first) (orderly_all second)))
statement_orderly (Statement-F.While line e block) = orderly_repeat (value line e) _ (value_orderly line e) (orderly_all block)
statement_orderly (Statement-F.ForAll line n entity block) = orderly_bind begin _ orderly_begin (λ u. orderly_bind (ask (query.All entity)) _ (orderly_ask (query.All entity)) (λ v. orderly_for_ids n (ids_of v) _ (orderly_all block)))
statement_orderly (Statement-F.ForEntries line n property block) = orderly_bind begin _ orderly_begin (λ u. orderly_bind (ask (query.Entries property)) _ (orderly_ask (query.Entries property)) (λ v. orderly_for_tuples n (tuples_of v) _ (orderly_all block)))
statement_orderly (Statement-F.Print line e) = orderly_bind begin _ orderly_begin (λ u. orderly_bind (value line e) _ (value_orderly line e) (λ v. orderly_tell (event.Say v) refl))
statement_orderly (Statement-F.Yield line) = orderly_bind begin _ orderly_begin (λ u. orderly_tell event.Yield refl)
statement_orderly (Statement-F.Flush line) = orderly_bind begin _ orderly_begin (λ u. orderly_tell event.Flush refl)

pub does_orderly : (s : Statement) → Orderly (does s)
does_orderly = ind-Statement (λ s. Orderly (does s)) (λ x y is.
    subst Orderly (sym (fold-roll-Statement (Does (Unit {0})) statement_step x)) (subst (λ z. Orderly (statement_step (map-Statement Statement (Does (Unit {0})) does z))) is (statement_orderly y)))

pub body_orderly : (body : List Statement) → Orderly (does_body body)
body_orderly [] = orderly_done tt
body_orderly (s ∷ ss) = orderly_bind (does s) _ (does_orderly s) (λ u. body_orderly ss)
