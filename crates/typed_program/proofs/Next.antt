-- One more answer.
use Rattle.std.proofs.Common.{◌≡◌, refl, sym, ap, ◌∙◌, subst, arith}
use Rattle.std.proofs.lemmas.List.{append-nil, length-append}
use Rattle.std.proofs.lemmas.List.Elements.{All-nil, All-cons, All-append}
use Rattle.std.specs.Prelude.{ℕ, List, [], ◌∷◌, ◌++◌, length, All}
use mathlib.Core.List.{IsPrefix}
use Rattle.cloud_base.specs.Events.{Outcome, asks, answers_in}
use Rattle.cloud_base.specs.Shaped.{IsShapedAnswer}
use Rattle.cloud_base.specs.declared.schema.Schema.{Schema}
use Rattle.cloud_base.specs.declared.update.Answer.{Answer}
use Rattle.cloud_base.specs.declared.update.Event.{Event}
use Rattle.cloud_base.specs.declared.update.Event.TheVariants as event
use Rattle.cloud_base.specs.declared.update.Query.{Query}
use Rattle.typed_program.specs.declared.statement.Statement.{Statement}
use Rattle.typed_program.specs.Shapes.{IsAnswered}
use Rattle.typed_program.specs.Trace.{trace}
use Rattle.typed_program.proofs.Orderly.{answers_in-append}
use Rattle.typed_program.proofs.Traces.{trace_extends, trace_in_order}

-- behind the answers that were given none is left
none_behind : (given more rest : List Answer) → (given ++ more) ++ rest ≡ given → more ≡ []
none_behind given [] rest e = refl
none_behind given (a ∷ more) rest e = absurd (too_long (ap length e))
  where
    too_long : length ((given ++ a ∷ more) ++ rest) ≡ length given → ⊥
    too_long h = omega (arith, h, length-append (given ++ a ∷ more) rest, length-append given (a ∷ more))

-- the events behind the query that was answered
record Behind (client : ℕ) (body : List Statement) (answers : List Answer) (query : Query) (a : Answer) : Type 0 where
  more : List Event
  events : ((trace client body answers).0 ++ event.Ask query a ∷ []) ++ more ≡ (trace client body (answers ++ a ∷ [])).0
  given : answers_in ((trace client body answers).0 ++ event.Ask query a ∷ []) ≡ answers ++ a ∷ []
  none : answers_in more ≡ []

behind : (client : ℕ) (body : List Statement) (answers : List Answer) (query : Query) (a : Answer) → (trace client body answers).1 ≡ asks query → Behind client body answers query a
behind client body answers query a waits =
    let t : List Event × Outcome = trace client body answers in
    let u : List Event × Outcome = trace client body (answers ++ a ∷ []) in
    let p : IsPrefix (t.0 ++ event.Ask query a ∷ []) u.0 = (trace_extends client body answers (a ∷ [])).asks query a [] waits refl in
    let g : answers_in (t.0 ++ event.Ask query a ∷ []) ≡ answers ++ a ∷ [] = answers_in-append t.0 (event.Ask query a ∷ []) ∙ ap (λ l. l ++ a ∷ []) ((trace_in_order client body answers).all_taken query waits) in
    let o : IsPrefix (answers_in u.0) (answers ++ a ∷ []) = (trace_in_order client body (answers ++ a ∷ [])).in_order in
    let both : (answers ++ a ∷ []) ++ answers_in p.0 ≡ answers_in u.0 = ap (λ l. l ++ answers_in p.0) (sym g) ∙ sym (answers_in-append (t.0 ++ event.Ask query a ∷ []) p.0) ∙ ap answers_in p.1 in
    record { more = p.0; events = p.1; given = g; none = none_behind (answers ++ a ∷ []) (answers_in p.0) o.0 (ap (λ l. l ++ o.0) both ∙ o.1) }

pub all_asked : (client : ℕ) (body : List Statement) (answers : List Answer) (query : Query) (a : Answer) → (trace client body answers).1 ≡ asks query
    → answers_in (trace client body (answers ++ a ∷ [])).0 ≡ answers ++ a ∷ []
all_asked client body answers query a waits =
    let b : Behind client body answers query a = behind client body answers query a waits in
    ap answers_in (sym b.events) ∙ answers_in-append ((trace client body answers).0 ++ event.Ask query a ∷ []) b.more ∙ ap (λ l. answers_in ((trace client body answers).0 ++ event.Ask query a ∷ []) ++ l) b.none
    ∙ append-nil (answers_in ((trace client body answers).0 ++ event.Ask query a ∷ [])) ∙ b.given

-- where nothing is asked, all is answered
answered_none : (schema : Schema) (es : List Event) → answers_in es ≡ [] → All (IsAnswered schema) es
answered_none schema [] e = All-nil (IsAnswered schema)
answered_none schema (event.Do u ∷ es) e = All-cons (IsAnswered schema) (event.Do u) es tt (answered_none schema es e)
answered_none schema (event.Ask q a ∷ es) e = absurd (some (ap length e))
  where
    some : length (a ∷ answers_in es) ≡ 0 → ⊥
    some h = omega (arith, h)
answered_none schema (event.Say a ∷ es) e = All-cons (IsAnswered schema) (event.Say a) es tt (answered_none schema es e)
answered_none schema (event.Yield ∷ es) e = All-cons (IsAnswered schema) event.Yield es tt (answered_none schema es e)
answered_none schema (event.Flush ∷ es) e = All-cons (IsAnswered schema) event.Flush es tt (answered_none schema es e)

pub all_answered : (schema : Schema) (client : ℕ) (body : List Statement) (answers : List Answer) (query : Query) (a : Answer) → (trace client body answers).1 ≡ asks query
    → All (IsAnswered schema) (trace client body answers).0 → IsShapedAnswer schema query a → All (IsAnswered schema) (trace client body (answers ++ a ∷ [])).0
all_answered schema client body answers query a waits h fits =
    let b : Behind client body answers query a = behind client body answers query a waits in
    subst (λ l. All (IsAnswered schema) l) b.events (All-append (IsAnswered schema) ((trace client body answers).0 ++ event.Ask query a ∷ []) b.more
    (All-append (IsAnswered schema) (trace client body answers).0 (event.Ask query a ∷ []) h (All-cons (IsAnswered schema) (event.Ask query a) [] fits (All-nil (IsAnswered schema)))) (answered_none schema b.more b.none))
