-- A trace told event by event: where those before an event are of the schema's shape, so is it, but for an answer.
use mathlib.Core.List.{IsPrefix}
use Rattle.std.proofs.Common.{◌≡◌, ◌∙◌, refl, sym, ap, subst, arith, ℕ, ◌+◌, List, [], ◌∷◌, ◌++◌, length, drop, append-nil, append_assoc, Some, inl, inr}
use Rattle.std.specs.Prelude.{⊤, All, ◌⊎◌, slice_get}
use Rattle.std.specs.List.{AllByRecursion}
use Rattle.std.proofs.lemmas.List.{length-append}
use Rattle.std.proofs.lemmas.List.Elements.{All-from_recursion, recursion_from_All}
use Rattle.cloud_base.specs.Events.{Outcome, ended, asks, answers_in}
use Rattle.cloud_base.specs.Shaped.{IsShapedEvent, IsShapedQuery}
use Rattle.cloud_base.specs.declared.end.End.{End}
use Rattle.cloud_base.specs.declared.schema.Schema.{Schema}
use Rattle.cloud_base.specs.declared.update.Answer.{Answer}
use Rattle.cloud_base.specs.declared.update.Event.{Event}
use Rattle.cloud_base.specs.declared.update.Event.TheVariants.{Do, Ask, Say, Yield, Flush}
use Rattle.cloud_base.specs.declared.update.Query.{Query}
use Rattle.typed_program.specs.Laws.{Extends, InOrder}
use Rattle.typed_program.specs.Programs.{IsProgram}
use Rattle.typed_program.specs.Shapes.{IsAnswered, IsShapedOutcome, IsShapedTrace}
use Rattle.typed_program.specs.Trace.{trace}
use Rattle.typed_program.specs.declared.program.Parts.{Parts}
use Rattle.typed_program.specs.declared.statement.Statement.{Statement}
use Rattle.diagram_text.proofs.Fits.{both_parts, second_part}

-- the answer that an event got
abbrev answer_of : Event → List Answer
answer_of (Do u) = []
answer_of (Ask q a) = a ∷ []
answer_of (Say v) = []
answer_of Yield = []
answer_of Flush = []

answers_first : (e : Event) (events : List Event) → answers_in (e ∷ events) ≡ answer_of e ++ answers_in events
answers_first (Do u) events = refl
answers_first (Ask q a) events = refl
answers_first (Say v) events = refl
answers_first Yield events = refl
answers_first Flush events = refl

answers_in-append : (xs ys : List Event) → answers_in (xs ++ ys) ≡ answers_in xs ++ answers_in ys
answers_in-append [] ys = refl
answers_in-append (x ∷ xs) ys =
    answers_first x (xs ++ ys) ∙ ap (λ (l : List Answer). answer_of x ++ l) (answers_in-append xs ys)
    ∙ sym (append_assoc (answer_of x) (answers_in xs) (answers_in ys)) ∙ ap (λ (l : List Answer). l ++ answers_in ys) (sym (answers_first x xs))

cancel : (e : Event) (xs ys : List Answer) → answer_of e ++ xs ≡ answer_of e ++ ys → xs ≡ ys
cancel (Do u) xs ys h = h
cancel (Ask q a) xs ys h = ap (drop 1) h
cancel (Say v) xs ys h = h
cancel Yield xs ys h = h
cancel Flush xs ys h = h

-- of events cut before x, and cut before an Ask with as many answers before it: x is that Ask, or it stands before
-- it without an answer
abbrev Cut : Event → List Event → List Event → Query → Answer → Type 0
Cut x xs ys q a = ((xs ≡ ys) × (x ≡ Ask q a)) ⊎ ((zs : List Event) × (ys ≡ xs ++ x ∷ zs) × (answers_in (x ∷ zs) ≡ []))

cut : (xs ys rest later : List Event) (x : Event) (q : Query) (a : Answer) → xs ++ x ∷ rest ≡ ys ++ Ask q a ∷ later → answers_in xs ≡ answers_in ys → Cut x xs ys q a
cut [] [] rest later x q a h e = inl (refl, cc h)
cut [] (y ∷ ys) rest later x q a h e =
    let same : x ≡ y = cc h in
    inr (ys, ap (λ (z : Event). z ∷ ys) (sym same), ap (λ (z : Event). answers_in (z ∷ ys)) same ∙ sym e)
cut (u ∷ xs) [] rest later x q a h e =
    let same : u ≡ Ask q a = cc h in
    let none : a ∷ answers_in xs ≡ [] = ap (λ (z : Event). answers_in (z ∷ xs)) (sym same) ∙ e in
    absurd (cc none)
cut (u ∷ xs) (y ∷ ys) rest later x q a h e =
    let same : u ≡ y = cc h in
    let more : xs ++ x ∷ rest ≡ ys ++ Ask q a ∷ later = ap (drop 1) h in
    let told : answer_of u ++ answers_in xs ≡ answer_of u ++ answers_in ys = sym (answers_first u xs) ∙ e ∙ answers_first y ys ∙ ap (λ (z : Event). answer_of z ++ answers_in ys) (sym same) in
    elim (cut xs ys rest later x q a more (cancel u (answers_in xs) (answers_in ys) told)) [
      | inl at ↦ inl (ap (λ (l : List Event). u ∷ l) at.0 ∙ ap (λ (z : Event). z ∷ ys) same, at.1)
      | inr far ↦ inr (far.0, ap (λ (z : Event). z ∷ ys) (sym same) ∙ ap (λ (l : List Event). u ∷ l) far.1, far.2)
    ]

module _ (schema : Schema) where
  abbrev pub Shaped : List Event → Type 0
  Shaped = AllByRecursion (IsShapedEvent schema)

  abbrev Answered : List Event → Type 0
  Answered = AllByRecursion (IsAnswered schema)

  -- of the schema's shape, but for its answer
  abbrev pub IsShapedBut : Event → Type 0
  IsShapedBut (Do u) = IsShapedEvent schema (Do u)
  IsShapedBut (Ask q a) = IsShapedQuery schema q
  IsShapedBut (Say v) = IsShapedEvent schema (Say v)
  IsShapedBut Yield = ⊤
  IsShapedBut Flush = ⊤

  shaped_but : (e : Event) → IsShapedEvent schema e → IsShapedBut e
  shaped_but (Do u) is = is
  shaped_but (Ask q a) is = is.0
  shaped_but (Say v) is = is
  shaped_but Yield is = tt
  shaped_but Flush is = tt

  one_answered : (e : Event) → IsShapedEvent schema e → IsAnswered schema e
  one_answered (Do u) is = tt
  one_answered (Ask q a) is = is.1
  one_answered (Say v) is = tt
  one_answered Yield is = tt
  one_answered Flush is = tt

  pub answered : (events : List Event) → Shaped events → Answered events
  answered [] is = tt
  answered (e ∷ events) is = (one_answered e is.0, answered events is.1)

  none_asked : (events : List Event) → answers_in events ≡ [] → Answered events
  none_asked [] none = tt
  none_asked (Do u ∷ events) none = (tt, none_asked events none)
  none_asked (Ask q a ∷ events) none = absurd (cc none)
  none_asked (Say v ∷ events) none = (tt, none_asked events none)
  none_asked (Yield ∷ events) none = (tt, none_asked events none)
  none_asked (Flush ∷ events) none = (tt, none_asked events none)

  no_more : {A : Type 0} (xs more ys : List A) → (xs ++ more) ++ ys ≡ xs → more ≡ []
  no_more xs [] ys h = refl
  no_more xs (x ∷ more) ys h =
      let long : length ((xs ++ x ∷ more) ++ ys) ≡ length xs = ap length h in
      absurd (omega (arith, long, length-append (xs ++ x ∷ more) ys, length-append xs (x ∷ more)))

  -- a front of the trace that waits for the next answer
  record Front (t : List Event × Outcome) (client : ℕ) (whole before rest : List Event) (e : Event) (end : End) : Type 0 where
    shapes : All (IsAnswered schema) t.0 → IsShapedTrace schema client t
    extends : Extends t (whole, ended end) (answers_in (e ∷ rest))
    in_order : InOrder t (answers_in before)
    stops : answers_in (e ∷ rest) ≡ [] → t ≡ (whole, ended end)

  shaped_of : (t : List Event × Outcome) (client : ℕ) → (All (IsAnswered schema) t.0 → IsShapedTrace schema client t) → Answered t.0 → IsShapedTrace schema client t
  shaped_of t client shapes is = shapes (All-from_recursion (IsAnswered schema) t.0 is)

  at_place : (t : List Event × Outcome) (client : ℕ) (before rest : List Event) (e : Event) → t.0 ≡ before ++ e ∷ rest → IsShapedTrace schema client t → IsShapedBut e
  at_place t client before rest e at is =
      let events : Shaped (before ++ e ∷ rest) = subst Shaped at (recursion_from_All (IsShapedEvent schema) t.0 is.events) in
      shaped_but e (second_part (IsShapedEvent schema) before (e ∷ rest) events).0

  asked : (t : List Event × Outcome) (client : ℕ) (whole before rest : List Event) (e : Event) (end : End) (query : Query) (more : List Answer) → t.1 ≡ asks query → answers_in (e ∷ rest) ≡ more → whole ≡ before ++ e ∷ rest → Shaped before → Front t client whole before rest e end → IsShapedBut e
  asked t client whole before rest e end query [] waits none split is front =
      let same : t ≡ (whole, ended end) = front.stops none in
      let no : asks query ≡ ended end = sym waits ∙ ap (λ (u : List Event × Outcome). u.1) same in
      absurd (cc no)
  asked t client whole before rest e end query (a ∷ more) waits got split is front =
      let goes : IsPrefix (t.0 ++ Ask query a ∷ []) whole = front.extends.asks query a more waits got in
      let later : List Event = goes.0 in
      let both : before ++ e ∷ rest ≡ t.0 ++ Ask query a ∷ later = sym split ∙ sym goes.1 ∙ append_assoc t.0 (Ask query a ∷ []) later in
      elim (cut before t.0 rest later e query a both (sym (front.in_order.all_taken query waits))) [
        | inl at ↦
            let shaped : IsShapedTrace schema client t = shaped_of t client front.shapes (subst Answered at.0 (answered before is)) in
            subst IsShapedBut (sym at.1) (subst (IsShapedOutcome schema) waits shaped.outcome)
        | inr far ↦
            at_place t client before far.0 e far.1 (shaped_of t client front.shapes (subst Answered (sym far.1) (both_parts (IsAnswered schema) before (e ∷ far.0) (answered before is) (none_asked (e ∷ far.0) far.2))))
      ]

  by_outcome : (t : List Event × Outcome) (client : ℕ) (whole before rest : List Event) (e : Event) (end : End) (o : Outcome) → t.1 ≡ o → whole ≡ before ++ e ∷ rest → Shaped before → Front t client whole before rest e end → IsShapedBut e
  by_outcome t client whole before rest e end (ended other) at split is front =
      let same : (whole, ended end) ≡ t = front.extends.ended other at in
      let events : t.0 ≡ before ++ e ∷ rest = sym (ap (λ (u : List Event × Outcome). u.0) same) ∙ split in
      let all : answers_in t.0 ≡ answers_in before ++ answers_in (e ∷ rest) = ap answers_in events ∙ answers_in-append before (e ∷ rest) in
      let front_of : IsPrefix (answers_in t.0) (answers_in before) = front.in_order.in_order in
      let none : answers_in (e ∷ rest) ≡ [] = no_more (answers_in before) (answers_in (e ∷ rest)) front_of.0 (ap (λ (l : List Answer). l ++ front_of.0) (sym all) ∙ front_of.1) in
      at_place t client before rest e events (shaped_of t client front.shapes (subst Answered (sym events) (both_parts (IsAnswered schema) before (e ∷ rest) (answered before is) (none_asked (e ∷ rest) none))))
  by_outcome t client whole before rest e end (asks query) at split is front = asked t client whole before rest e end query (answers_in (e ∷ rest)) at refl split is front

  -- each event behind shaped ones is shaped, but for its answer
  abbrev pub Follows : List Event → Type 0
  Follows whole = (before : List Event) (e : Event) (rest : List Event) → whole ≡ before ++ e ∷ rest → Shaped before → IsShapedBut e

-- the laws of traces
abbrev pub Extending : Type 0
Extending = (client : ℕ) (body : List Statement) (answers more : List Answer) → Extends (trace client body answers) (trace client body (answers ++ more)) more

abbrev pub Ordered : Type 0
Ordered = (client : ℕ) (body : List Statement) (answers : List Answer) → InOrder (trace client body answers) answers

abbrev pub ProgramsShaped : Type 0
ProgramsShaped = (p : Parts) (client : ℕ) (body : List Statement) (answers : List Answer) → IsProgram p → slice_get p.bodies client ≡ Some body → All (IsAnswered p.schema) (trace client body answers).0 → IsShapedTrace p.schema client (trace client body answers)

pub follows : Extending → Ordered → ProgramsShaped → (p : Parts) (client : ℕ) (body : List Statement) (whole : List Event) (end : End) → IsProgram p → slice_get p.bodies client ≡ Some body → trace client body (answers_in whole) ≡ (whole, ended end) → Follows p.schema whole
follows extending ordered shapes p client body whole end is there traced before e rest split shaped =
    let answers : List Answer = answers_in before in
    let more : List Answer = answers_in (e ∷ rest) in
    let t : List Event × Outcome = trace client body answers in
    let all : answers_in whole ≡ answers ++ more = ap answers_in split ∙ answers_in-append before (e ∷ rest) in
    let longer : trace client body (answers ++ more) ≡ (whole, ended end) = ap (trace client body) (sym all) ∙ traced in
    by_outcome p.schema t client whole before rest e end t.1 refl split shaped (record {
      shapes = shapes p client body answers is there;
      extends = subst (λ (u : List Event × Outcome). Extends t u more) longer (extending client body answers more);
      in_order = ordered client body answers;
      stops = λ none. ap (trace client body) (sym (append-nil answers) ∙ ap (λ (l : List Answer). answers ++ l) (sym none)) ∙ longer;
    })
