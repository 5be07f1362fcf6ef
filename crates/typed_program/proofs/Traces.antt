-- Traces for more answers, and loops that begin anew.
use Rattle.std.proofs.Common.{◌≡◌, refl, sym, subst, arith}
use Rattle.std.proofs.lemmas.List.{append-nil}
use Rattle.std.proofs.Math.Nat.{not-suc-le-zero}
use Rattle.std.specs.Prelude.{ℕ, zero, suc, ◌≤◌, ◌<◌, ⊤, Bool, true, false, List, [], ◌∷◌, ◌++◌, if◌then◌else◌}
use mathlib.Core.List.{IsPrefix}
use Rattle.cloud_base.specs.Events.{Outcome, ended, asks, answers_in}
use Rattle.cloud_base.specs.declared.end.End.{End}
use Rattle.cloud_base.specs.declared.update.Answer.{Answer}
use Rattle.cloud_base.specs.declared.update.Event.{Event}
use Rattle.cloud_base.specs.declared.update.Event.TheVariants as event
use Rattle.cloud_base.specs.declared.update.Query.{Query}
use Rattle.typed_program.specs.declared.expression.Expression.{Expression}
use Rattle.typed_program.specs.declared.statement.Statement.{Statement}
use Rattle.typed_program.specs.declared.statement.Statement.TheVariants as s
use Rattle.typed_program.specs.Does.{World, Run, goes, ends, Does, done, begin, begin_with, ◌>>=◌, then_by}
use Rattle.typed_program.specs.Laws.{events_of, Grows, Extends, InOrder}
use Rattle.typed_program.specs.Trace.{value, truth_of, loop, repeat, does, does_body, come_out, start, trace}
use Rattle.typed_program.proofs.Equations.{does_while}
use Rattle.typed_program.proofs.Orderly.{Orderly, Falls, Continues, Takes, prefix_refl, prefix_trans, value_orderly, does_orderly, body_orderly}

pub value_grows : (line : ℕ) (e : Expression) → Grows (value line e)
value_grows line e = record { by = λ w. (value_orderly line e).grows w }

pub does_grows : (statement : Statement) → Grows (does statement)
does_grows statement = record { by = λ w. (does_orderly statement).grows w }

abbrev IsEnded : Outcome → Type 0
IsEnded (ended e) = ⊤
IsEnded (asks q) = ⊥

not_asked : {A : Type 0} (e : End) (q : Query) → ended e ≡ asks q → A
not_asked e q same = absurd (subst IsEnded same tt)

abbrev IsNothing : {A : Type 0} → List A → Type 0
IsNothing [] = ⊤
IsNothing (x ∷ xs) = ⊥

not_nothing : {A B : Type 0} (a : A) (rest : List A) → [] ≡ a ∷ rest → B
not_nothing a rest same = absurd (subst IsNothing same tt)

extends_nothing : (t : List Event × Outcome) → Extends t t []
extends_nothing t = record {
  grows = prefix_refl t.0;
  ended = λ e is. refl;
  asks = λ q a rest is more. not_nothing a rest more;
}

-- from what a run is with one more answer or several
extends_by : (a : Answer) (rest : List Answer) (r r' : Run (Unit {0})) → Continues (a ∷ rest) r r' → Extends (come_out r) (come_out r') (a ∷ rest)
extends_by a rest (goes u v) r' e = subst (λ x. Extends (v.events, ended End.Done) (come_out x) (a ∷ rest)) (sym e) (record {
  grows = prefix_refl v.events;
  ended = λ e is. refl;
  asks = λ q b more is same. not_asked End.Done q is;
})
extends_by a rest (ends (ended end) es) r' e = subst (λ x. Extends (es, ended end) (come_out x) (a ∷ rest)) (sym e) (record {
  grows = prefix_refl es;
  ended = λ e is. refl;
  asks = λ q b more is same. not_asked end q is;
})
extends_by a rest (ends (asks q) es) r' p = record {
  grows = prefix_trans es (es ++ event.Ask q a ∷ []) (come_out r').0 (event.Ask q a ∷ [], refl) (out (es ++ event.Ask q a ∷ []) r' (p a rest refl));
  ended = λ e is. not_asked e q (sym is);
  asks = λ q' b more is same. subst (λ o. IsPrefix (es ++ event.Ask (asked_of q o) b ∷ []) (come_out r').0) is (out (es ++ event.Ask q b ∷ []) r' (p b more same));
}
  where
    out : (es : List Event) (r : Run (Unit {0})) → IsPrefix es (events_of r) → IsPrefix es (come_out r).0
    out es (goes u v) h = h
    out es (ends o us) h = h

    asked_of : Query → Outcome → Query
    asked_of q (asks q') = q'
    asked_of q (ended e) = q

pub trace_extends : (client : ℕ) (body : List Statement) (answers more : List Answer) → Extends (trace client body answers) (trace client body (answers ++ more)) more
trace_extends client body answers [] = subst (λ l. Extends (trace client body answers) (trace client body l) []) (sym (append-nil answers)) (extends_nothing (trace client body answers))
trace_extends client body answers (a ∷ rest) = extends_by a rest (does_body body (start client answers)) (does_body body (start client (answers ++ a ∷ rest))) ((body_orderly body).continues (a ∷ rest) (start client answers))

in_order_by : (answers : List Answer) (r : Run (Unit {0})) → Takes answers r → InOrder (come_out r) answers
in_order_by answers (goes u v) e = record { in_order = (v.answers, e); all_taken = λ q is. not_asked End.Done q is }
in_order_by answers (ends (ended end) es) p = record { in_order = p; all_taken = λ q is. not_asked end q is }
in_order_by answers (ends (asks q) es) p = record { in_order = subst (λ l. IsPrefix (answers_in es) l) p (prefix_refl (answers_in es)); all_taken = λ q' is. p }

pub trace_in_order : (client : ℕ) (body : List Statement) (answers : List Answer) → InOrder (trace client body answers) answers
trace_in_order client body answers = in_order_by answers (does_body body (start client answers)) ((body_orderly body).takes (start client answers))

-- two loops that are the same from then on
abbrev SameBelow : ℕ → (Does (Unit {0})) → (Does (Unit {0})) → Type 0
SameBelow turns first second = (w : World) → w.turns ≤ turns → first w ≡ second w

same_once : (turns : ℕ) (test : Does Answer) (block first second : Does (Unit {0})) → Orderly test → Orderly block → SameBelow turns first second → (w : World) → w.turns ≤ turns
    → (test >>= λ v. if truth_of v then (block >>= λ u. first) else done tt) w ≡ (test >>= λ v. if truth_of v then (block >>= λ u. second) else done tt) w
same_once turns test block first second ot ob same w h = tested (test w) (ot.falls w)
  where
    blocked : (t : ℕ) (r : Run (Unit {0})) → t ≤ turns → Falls t r → then_by {A = Unit {0}} {B = Unit {0}} r (λ u. first) ≡ then_by {A = Unit {0}} {B = Unit {0}} r (λ u. second)
    blocked t (goes u v) p f = same v (omega (arith, p, f))
    blocked t (ends o es) p f = refl

    chosen : (b : Bool) (v : World) → v.turns ≤ turns → (if b then (block >>= λ u. first) else done tt) v ≡ (if b then (block >>= λ u. second) else done tt) v
    chosen true v p = blocked v.turns (block v) p (ob.falls v)
    chosen false v p = refl

    tested : (r : Run Answer) → Falls w.turns r
        → then_by {A = Answer} {B = Unit {0}} r (λ v. if truth_of v then (block >>= λ u. first) else done tt) ≡ then_by {A = Answer} {B = Unit {0}} r (λ v. if truth_of v then (block >>= λ u. second) else done tt)
    tested (goes a v) f = chosen (truth_of a) v (omega (arith, h, f))
    tested (ends o es) f = refl

-- a loop with enough turns to begin is the same loop with more
again : (n m : ℕ) (test : Does Answer) (block : Does (Unit {0})) → Orderly test → Orderly block → (w : World) → w.turns < n → w.turns < m → loop n test block w ≡ loop m test block w
again zero m test block ot ob w h k = absurd (not-suc-le-zero h)
again (suc n) zero test block ot ob w h k = absurd (not-suc-le-zero k)
again (suc n) (suc m) test block ot ob w h k = begun w.turns h k (λ t p q v le. again n m test block ot ob v (omega (arith, p, le)) (omega (arith, q, le)))
  where
    go : ℕ → Does (Unit {0})
    go times = test >>= λ v. if truth_of v then (block >>= λ u. loop times test block) else done tt

    begun : (turns : ℕ) → turns < suc n → turns < suc m → ((t : ℕ) → t < n → t < m → SameBelow t (loop n test block) (loop m test block))
        → then_by {A = Unit {0}} {B = Unit {0}} (begin_with turns w) (λ u. go n) ≡ then_by {A = Unit {0}} {B = Unit {0}} (begin_with turns w) (λ u. go m)
    begun zero p q same = refl
    begun (suc t) p q same = same_once t test block (loop n test block) (loop m test block) ot ob (same t (omega (arith, p)) (omega (arith, q))) (record w { turns = t }) (omega arith)

-- a loop begins, tests, and does its block and then the loop anew
repeat_again : (test : Does Answer) (block : Does (Unit {0})) → Orderly test → Orderly block → (w : World)
    → repeat test block w ≡ (begin >>= λ u. test >>= λ v. if truth_of v then (block >>= λ u. repeat test block) else done tt) w
repeat_again test block ot ob w = begun w.turns
  where
    begun : (turns : ℕ) → then_by {A = Unit {0}} {B = Unit {0}} (begin_with turns w) (λ u. test >>= λ v. if truth_of v then (block >>= λ u. loop turns test block) else done tt)
        ≡ then_by {A = Unit {0}} {B = Unit {0}} (begin_with turns w) (λ u. test >>= λ v. if truth_of v then (block >>= λ u. repeat test block) else done tt)
    begun zero = refl
    begun (suc t) = same_once t test block (loop (suc t) test block) (repeat test block) ot ob (λ v le. again (suc t) (suc v.turns) test block ot ob v (omega (arith, le)) (omega arith)) (record w { turns = t }) (omega arith)

pub while_again : (line : ℕ) (a : Expression) (block : List Statement) (w : World)
    → does (s.While line a block) w ≡ (begin >>= λ u. value line a >>= λ v. if truth_of v then (does_body block >>= λ u. does (s.While line a block)) else done tt) w
while_again line a block w =
    let one : does (s.While line a block) ≡ repeat (value line a) (does_body block) = does_while line a block in
    subst (λ f. f w ≡ (begin >>= λ u. value line a >>= λ v. if truth_of v then (does_body block >>= λ u. f) else done tt) w) (sym one) (repeat_again (value line a) (does_body block) (value_orderly line a) (body_orderly block) w)
