-- What a client's code needs, by the trace of its body.
use Rattle.std.proofs.Common.{◌≡◌, refl, sym, ap, ◌∙◌, subst, arith}
use Rattle.std.specs.Prelude.{ℕ, ◌+◌, All, List, [], ◌∷◌, ◌++◌, length, Some}
use Rattle.std.proofs.lemmas.List.Elements.{All-nil, All-cons, All-append}
use mathlib.Core.List.{IsPrefix}
use Rattle.cloud_base.specs.Events.{Outcome, answers_in}
use Rattle.cloud_base.specs.declared.schema.Schema.{Schema}
use Rattle.cloud_base.specs.declared.update.Answer.{Answer}
use Rattle.cloud_base.specs.declared.update.Event.{Event}
use Rattle.cloud_base.specs.declared.update.Event.TheVariants as event
use Rattle.typed_program.specs.Does.{ends}
use Rattle.typed_program.specs.Laws.{InOrder}
use Rattle.typed_program.specs.Shapes.{IsAnswered}
use Rattle.typed_program.specs.declared.program.Parts.{Parts}
use Rattle.plain_vm.specs.Exec.{run}
use Rattle.plain_vm.specs.declared.instruction.Instruction.{Instruction}
use Rattle.code_machine.specs.declared.need.Need.{Need}
use Rattle.code_gen.specs.Compiled.{Compiled}
use Rattle.client_runner.specs.Needs.{IsNext, IsNextOf}
use Rattle.client_runner.specs.Steps.{Ran, did}
use Rattle.played_record.specs.Programs.{trace_by, trace_of}
use Rattle.played_moments.specs.Moments.{RunsBy}

-- ---- where no answer is left, none is asked for

answers_both : (xs ys : List Event) → answers_in (xs ++ ys) ≡ answers_in xs ++ answers_in ys
answers_both [] ys = refl
answers_both (event.Do update ∷ xs) ys = answers_both xs ys
answers_both (event.Ask query a ∷ xs) ys = ap (λ (l : List Answer). a ∷ l) (answers_both xs ys)
answers_both (event.Say value ∷ xs) ys = answers_both xs ys
answers_both (event.Yield ∷ xs) ys = answers_both xs ys
answers_both (event.Flush ∷ xs) ys = answers_both xs ys

none_asked : (schema : Schema) (events : List Event) → answers_in events ≡ [] → All (IsAnswered schema) events
none_asked schema [] e = All-nil (IsAnswered schema)
none_asked schema (event.Do update ∷ xs) e = All-cons (IsAnswered schema) (event.Do update) xs tt (none_asked schema xs e)
none_asked schema (event.Ask query a ∷ xs) e = absurd (cc e)
none_asked schema (event.Say value ∷ xs) e = All-cons (IsAnswered schema) (event.Say value) xs tt (none_asked schema xs e)
none_asked schema (event.Yield ∷ xs) e = All-cons (IsAnswered schema) event.Yield xs tt (none_asked schema xs e)
none_asked schema (event.Flush ∷ xs) e = All-cons (IsAnswered schema) event.Flush xs tt (none_asked schema xs e)

no_more : (xs more ys : List Answer) → (xs ++ more) ++ ys ≡ xs → more ≡ []
no_more xs [] ys h = refl
no_more xs (x ∷ more) ys h =
    let longer = sym (length_both (xs ++ x ∷ more) ys) ∙ ap length h in
    let parts = length_both xs (x ∷ more) in
    absurd (omega (arith, longer, parts))
  where
    length_both : (l m : List Answer) → length (l ++ m) ≡ length l + length m
    length_both [] m = omega arith
    length_both (a ∷ l) m = let h = length_both l m in omega (arith, h)

-- behind all that a client did its trace asks for nothing that isn't answered
pub trace_answered : (schema : Schema) (t : List Event × Outcome) (events : List Event) → InOrder t (answers_in events) → IsPrefix events t.0 → All (IsAnswered schema) events → All (IsAnswered schema) t.0
trace_answered schema t events ordered (rest, whole) h =
    let told : answers_in events ++ answers_in rest ≡ answers_in t.0 = sym (answers_both events rest) ∙ ap answers_in whole in
    let none : answers_in rest ≡ [] = no_more (answers_in events) (answers_in rest) ordered.in_order.0 (ap (λ (l : List Answer). l ++ ordered.in_order.0) told ∙ ordered.in_order.1) in
    subst (All (IsAnswered schema)) whole (All-append (IsAnswered schema) events rest h (none_asked schema rest none))

-- ---- needs

abbrev pub InTurn : Type 0
InTurn = (code : List Instruction) (client count : ℕ) (events : List Event) (need : Need) (outcome : Outcome) (whole : List Event) →
    run code count client (answers_in events) ≡ ends outcome whole → IsNext code client events need → IsNextOf need outcome whole events

pub runs_by : InTurn → (p : Parts) (c : ℕ) (r : Ran) → Compiled p c r.code → r.stands.client ≡ c
    → All (IsAnswered p.schema) (trace_of p c (answers_in (did r.stands))).0 → RunsBy (trace_of p c) r
runs_by laws p c r compiled client told need next =
    let events = did r.stands in
    let its : trace_of p c ≡ trace_by c (Some compiled.body) = ap (trace_by c) compiled.of_client in
    let told_body = subst (λ (t : List Answer → List Event × Outcome). All (IsAnswered p.schema) (t (answers_in events)).0) its told in
    let means = compiled.means c (answers_in events) told_body in
    let comes : run r.code.instructions means.0 r.stands.client (answers_in events) ≡ ends (trace_by c (Some compiled.body) (answers_in events)).1 (trace_by c (Some compiled.body) (answers_in events)).0
    = ap (λ (n : ℕ). run r.code.instructions means.0 n (answers_in events)) client ∙ means.1 in
    subst (λ (t : List Answer → List Event × Outcome). IsNextOf need (t (answers_in events)).1 (t (answers_in events)).0 events) (sym its)
    (laws r.code.instructions r.stands.client means.0 events need (trace_by c (Some compiled.body) (answers_in events)).1 (trace_by c (Some compiled.body) (answers_in events)).0 comes next)
