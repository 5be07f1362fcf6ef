-- A client that does what its machine needs.
use Rattle.std.proofs.Common.{◌≡◌, refl, sym, ap, ◌∙◌, subst, arith}
use mathlib.Core.Logic.{inl, inr}
use Rattle.std.specs.Prelude.{◌≢◌, ◌↔◌, ◌⊎◌, ℕ, ◌+◌, ◌-◌, ◌≤◌, ◌^◌, min, List, [], ◌∷◌, ◌++◌, length, Option, Some, None, Result, Ok, Err, IfOk, OnErr, OnOk}
use Rattle.std.proofs.lemmas.List.{length-append}
use Rattle.cloud_base.specs.Events.{answers_in, updates_of}
use Rattle.cloud_base.specs.declared.batch.Batch.{Batch}
use Rattle.cloud_base.specs.declared.end.End.{End}
use Rattle.cloud_base.specs.declared.update.Event.{Event}
use Rattle.cloud_base.specs.declared.update.Event.TheVariants as event
use Rattle.cloud_base.specs.declared.update.Update.{Update}
use Rattle.typed_program.proofs.Keeps.{updates-append}
use Rattle.plain_vm.specs.Code.{CodeOf}
use Rattle.code_machine.specs.Machine.{Stands}
use Rattle.code_machine.specs.declared.machine.Machine.{Machine}
use Rattle.code_machine.specs.declared.need.Need.{Need}
use Rattle.slot_hub.specs.Boxes.{Seen}
use Rattle.packet_codec.specs.Pushes.{Pushed}
use Rattle.packet_codec.specs.Replies.{Replied}
use Rattle.session_core.specs.declared.flushing.Flushing.{Flushing}
use Rattle.session_core.specs.declared.flushing.Flushing.TheVariants.{Closed, Marked, Sent}
use Rattle.session_core.specs.declared.turns.Turn.{Turn}
use Rattle.session_core.specs.declared.turns.Turn.TheVariants as turn
use Rattle.session_core.specs.declared.turns.Yielded.{Yielded}
use Rattle.session_core.specs.Standings.{Standing, Sessioned, IsRunning, is_of_run, updates_done}
use Rattle.session_core.specs.Sessions.{noted, noted_at, sends_at}
use Rattle.session_core.specs.Meetings.{Joins, Turns, Yields}
use Rattle.client_runner.specs.declared.client.Client.{Client}
use Rattle.client_runner.specs.declared.stepped.Mode.{Mode}
use Rattle.client_runner.specs.declared.stepped.Mode.TheVariants as mode
use Rattle.client_runner.specs.declared.stepped.Stepped.{Stepped}
use Rattle.client_runner.specs.declared.stepped.Stepped.TheVariants as stepped
use Rattle.client_runner.specs.Needs.{IsNext}
use Rattle.client_runner.specs.Runners.{Follows, IsDue}
use Rattle.client_runner.specs.Steps.{Does, Lacks, LacksAt, LacksNeed, LittleMore, Notes, StepsAt, TakesNeed, TurnsOnce, did, ends_counted}
use Rattle.client_runner.specs.Turned.{IsMode, after_turn, end_of, ended_in, mode_after, needs_after}
use Rattle.client_runner.proofs.Doing.{Adds, Same, adds_note, adds_then, adds_yield, closed_yield, open_unmet, same_turn, updates_did}
use Rattle.client_runner.proofs.Hubs.{Kept, kept_same, keeps_past, starved_kept, turned_kept, turned_of, yielded_kept, yielded_of}
use Rattle.client_runner.proofs.Needing.{is_next, stands_same, stands_told}

pub on_ok : {A E : Type 0} {P Q : Type 0} → (r : Result A E) → (P → Q) → OnOk r P → OnOk r Q
on_ok (Ok x) f h = f h
on_ok (Err e) f h = h

pub if_ok : {A E : Type 0} {P Q : A → Type 0} → (r : Result A E) → ((x : A) → P x → Q x) → IfOk r P → IfOk r Q
if_ok (Ok x) f h = f x h
if_ok (Err e) f h = h

pub on_err : {A E : Type 0} {P Q : Type 0} → (r : Result A E) → (P → Q) → OnErr r P → OnErr r Q
on_err (Ok x) f h = h
on_err (Err e) f h = f h

pub on_any : {A E Q : Type 0} → (r : Result A E) → Q → OnErr r Q
on_any (Ok x) h = tt
on_any (Err e) h = h

-- ---- its machine stands where its session does

abbrev of : Machine → Sessioned → Client
of m session = record { machine = m; session = session }

pub follows_noted : (m : Machine) (e : Event) (f : Flushing) (old : Standing) (new : Sessioned) → answers_in (e ∷ []) ≡ [] → IsRunning old → m.code.now.schema ≡ old.schema
    → Stands m old.client (answers_in (did old)) (did old ++ e ∷ []) → new.stands ≡ noted_at f e old → Follows (of m new)
follows_noted m e f old new none h same stands is =
    let adds = adds_note f e old new.stands h is in
    record { schema = same ∙ sym adds.schema; stands = stands_told m e old new.stands none adds stands }

module _ {S : Type 0} (hub hub' : Seen S Pushed Replied) where
  pub follows_yield : (m : Machine) (old : Standing) (new : Sessioned) (y : Yielded) → IsRunning old → m.code.now.schema ≡ old.schema
      → Stands m old.client (answers_in (did old)) (did old ++ event.Yield ∷ []) → Yields old new.stands y hub hub' → Follows (of m new)
  follows_yield m old new y h same stands is =
      let adds = adds_yield hub hub' old new.stands y h is in
      record { schema = same ∙ sym adds.schema; stands = stands_told m event.Yield old new.stands refl adds stands }

  pub follows_turn : (m : Machine) (old new : Sessioned) (t : Turn) → Follows (of m old) → Turns old.stands new.stands t hub hub' → Follows (of m new)
  follows_turn m old new t h is =
      let same = same_turn hub hub' old.stands new.stands t is in
      record { schema = h.schema ∙ sym same.schema; stands = stands_same m old.stands new.stands same h.stands }

-- ---- what its code needs

module _ {S : Type 0} (hub hub' : Seen S Pushed Replied) (old between : Client) (need : Need) (code : between.machine.code.now ≡ old.machine.code.now) (same : between.session ≡ old.session) (due : IsDue need between) where
  needs_next : IsNext between.machine.code.now.instructions between.session.stands.client (did between.session.stands) need
  needs_next = is_next need between.machine between.session.stands.client (did between.session.stands) due.needed

  pub took_need : (new : Standing) (out : Stepped) → Does need between.session.stands new out hub hub' → TakesNeed old.machine.code.now old.session.stands new out hub hub'
  took_need new out does =
      subst (λ (s : Sessioned). TakesNeed old.machine.code.now s.stands new out hub hub') same
      (subst (λ (c : CodeOf). TakesNeed c between.session.stands new out hub hub') code
      (record { need = need; is = needs_next; shaped = due.shaped; does = does }))

  pub lacked_need : Lacks need between.session.stands hub hub' → LacksNeed old.machine.code.now old.session.stands hub hub'
  lacked_need lacks =
      subst (λ (s : Sessioned). LacksNeed old.machine.code.now s.stands hub hub') same
      (subst (λ (c : CodeOf). LacksNeed c between.session.stands hub hub') code
      (record { need = need; is = needs_next; lacks = lacks }))

-- ---- where its run is

module _ {S : Type 0} (hub hub' : Seen S Pushed Replied) where
  mode_turns : (old new : Standing) (t : Turn) → Turns old new t hub hub' → IsMode (mode_after (after_turn t)) new.flush
  mode_turns old new turn.Done h = h.closed
  mode_turns old new (turn.NotYet outstanding taken) h = open_unmet hub hub' old new outstanding taken h

  pub mode_turn : (old new : Standing) (out : Stepped) → TurnsOnce old new out hub hub' → IsMode (mode_after out) new.flush
  mode_turn old new out h = subst (λ (o : Stepped). IsMode (mode_after o) new.flush) (sym h.out_is) (mode_turns old new h.turn h.turns)

  mode_notes : (e : Event) (old new : Standing) (out : Stepped) → old.flush ≡ Closed → Notes e old new out hub hub' → IsMode (mode_after out) new.flush
  mode_notes e old new out closed h =
      subst (λ (o : Stepped). IsMode (mode_after o) new.flush) (sym h.out_is) (ap (λ (s : Standing). s.flush) h.goes_on ∙ closed)

  pub mode_does : (need : Need) (old new : Standing) (out : Stepped) → old.flush ≡ Closed → Does need old new out hub hub' → IsMode (mode_after out) new.flush
  mode_does (Need.Do u) old new out closed h = mode_notes (event.Do u) old new out closed h
  mode_does (Need.Ask q) old new out closed h = mode_notes (event.Ask q h.given) old new out closed h.notes
  mode_does (Need.Say v) old new out closed h = mode_notes (event.Say v) old new out closed h
  mode_does Need.Yield old new out closed h =
      subst (λ (o : Stepped). IsMode (mode_after o) new.flush) (sym h.out_is) (closed_yield hub hub' old new h.yielded h.yields closed)
  mode_does Need.Flush old new out closed h = mode_turn (noted_at Marked event.Flush old) new out h
  mode_does (Need.Ended end) old new out closed h =
      subst (λ (o : Stepped). IsMode (mode_after o) new.flush) (sym h.out_is) (ap (λ (s : Standing). s.flush) h.same ∙ closed)

  -- ---- which step it is

  pub taken : (f : Flushing) (code : CodeOf) (old new : Standing) (out : Stepped) → f ≡ Closed → TakesNeed code old new out hub hub' → StepsAt None f code old new out hub hub'
  taken Closed code old new out closed h = h
  taken Marked code old new out closed h = cc
  taken Sent code old new out closed h = cc

  pub turned : (f : Flushing) (code : CodeOf) (old new : Standing) (out : Stepped) → f ≢ Closed → TurnsOnce old new out hub hub' → StepsAt None f code old new out hub hub'
  turned Closed code old new out still h = absurd (still refl)
  turned Marked code old new out still h = h
  turned Sent code old new out still h = h

  pub lacks_need : (f : Flushing) (code : CodeOf) (s : Standing) → f ≡ Closed → LacksAt None Closed code s hub hub' → LacksAt None f code s hub hub'
  lacks_need Closed code s closed h = h
  lacks_need Marked code s closed h = cc
  lacks_need Sent code s closed h = cc

  pub lacks_turn : (f : Flushing) (code : CodeOf) (s : Standing) → f ≢ Closed → LacksAt None Sent code s hub hub' → LacksAt None f code s hub hub'
  lacks_turn Closed code s still h = absurd (still refl)
  lacks_turn Marked code s still h = h
  lacks_turn Sent code s still h = h

either : {A B C : Type 0} → A ⊎ B → (A → C) → (B → C) → C
either (inl a) f g = f a
either (inr b) f g = g b

-- ---- how many needs were had

no_end : (t : Turn) → end_of (after_turn t) ≡ None
no_end turn.Done = refl
no_end (turn.NotYet outstanding taken) = refl

one_more : (n x y : ℕ) → n ≡ min x (2 ^ 64 - 1) → y ≡ x + 1 → min (n + 1) (2 ^ 64 - 1) ≡ min y (2 ^ 64 - 1)
one_more n x y is more = omega (arith, is, more)

as_many : (n x y : ℕ) → n ≡ min x (2 ^ 64 - 1) → y ≡ x → n ≡ min y (2 ^ 64 - 1)
as_many n x y is same = is ∙ ap (λ (k : ℕ). min k (2 ^ 64 - 1)) (sym same)

counted : (e : Event) (a b : Standing) → Adds e a b → length (did b) ≡ length (did a) + 1
counted e a b h = ap length h.events ∙ length-append (did a) (e ∷ [])

abbrev Had : Standing → Standing → Stepped → Type 0
Had old new out = length (did new) + ends_counted (end_of out) ≡ length (did old) + 1

had_one : (e : Event) (old new : Standing) (out : Stepped) → Adds e old new → end_of out ≡ None → Had old new out
had_one e old new out h none =
    let added : length (did new) ≡ length (did old) + 1 = counted e old new h in
    let zero_more : ends_counted (end_of out) ≡ 0 = ap ends_counted none in
    omega (arith, added, zero_more)

module _ {S : Type 0} (hub hub' : Seen S Pushed Replied) where
  adds_notes : (e : Event) (old new : Standing) (out : Stepped) → IsRunning old → Notes e old new out hub hub' → Adds e old new
  adds_notes e old new out h n = adds_note old.flush e old new h n.goes_on

  adds_flush : (old new : Standing) (t : Turn) → IsRunning old → Turns (noted_at Marked event.Flush old) new t hub hub' → Adds event.Flush old new
  adds_flush old new t h is =
      adds_then event.Flush old (noted_at Marked event.Flush old) new (adds_note Marked event.Flush old (noted_at Marked event.Flush old) h refl)
      (same_turn hub hub' (noted_at Marked event.Flush old) new t is)

  had_does : (need : Need) (old new : Standing) (out : Stepped) → IsRunning old → Does need old new out hub hub' → Had old new out
  had_does (Need.Do u) old new out h d = had_one (event.Do u) old new out (adds_notes (event.Do u) old new out h d) (ap end_of d.out_is)
  had_does (Need.Ask q) old new out h d = had_one (event.Ask q d.given) old new out (adds_notes (event.Ask q d.given) old new out h d.notes) (ap end_of d.notes.out_is)
  had_does (Need.Say v) old new out h d = had_one (event.Say v) old new out (adds_notes (event.Say v) old new out h d) (ap end_of d.out_is)
  had_does Need.Yield old new out h d = had_one event.Yield old new out (adds_yield hub hub' old new d.yielded h d.yields) (ap end_of d.out_is)
  had_does Need.Flush old new out h d = had_one event.Flush old new out (adds_flush old new d.turn h d.turns) (ap end_of d.out_is ∙ no_end d.turn)
  had_does (Need.Ended end) old new out h d =
      let same : length (did new) ≡ length (did old) = ap (λ (s : Standing). length (did s)) d.same in
      let one : ends_counted (end_of out) ≡ 1 = ap (λ (o : Stepped). ends_counted (end_of o)) d.out_is in
      omega (arith, same, one)

  had_turn : (old new : Standing) (out : Stepped) → TurnsOnce old new out hub hub' → length (did new) + ends_counted (end_of out) ≡ length (did old) + 0
  had_turn old new out h =
      let same : length (did new) ≡ length (did old) = ap length (same_turn hub hub' old new h.turn h.turns).events in
      let none : ends_counted (end_of out) ≡ 0 = ap ends_counted (ap end_of h.out_is ∙ no_end h.turn) in
      omega (arith, same, none)

  from_taken : (f : Flushing) (code : CodeOf) (old new : Standing) (out : Stepped) → f ≡ Closed → StepsAt None f code old new out hub hub' → TakesNeed code old new out hub hub'
  from_taken Closed code old new out closed h = h
  from_taken Marked code old new out closed h = cc
  from_taken Sent code old new out closed h = cc

  from_turned : (f : Flushing) (code : CodeOf) (old new : Standing) (out : Stepped) → f ≢ Closed → StepsAt None f code old new out hub hub' → TurnsOnce old new out hub hub'
  from_turned Closed code old new out still h = absurd (still refl)
  from_turned Marked code old new out still h = h
  from_turned Sent code old new out still h = h

  pub had_step : (m : Mode) (code : CodeOf) (old new : Standing) (out : Stepped) (n : ℕ) → IsRunning old → IsMode m old.flush → StepsAt (ended_in m) old.flush code old new out hub hub'
      → n ≡ min (length (did old) + ends_counted (ended_in m)) (2 ^ 64 - 1) → needs_after m n ≡ min (length (did new) + ends_counted (end_of out)) (2 ^ 64 - 1)
  had_step mode.Goes code old new out n h closed d is =
      let t = from_taken old.flush code old new out closed d in
      let more : length (did new) + ends_counted (end_of out) ≡ length (did old) + 1 = had_does t.need old new out h t.does in
      one_more n (length (did old) + 0) (length (did new) + ends_counted (end_of out)) is (omega (arith, more))
  had_step mode.Waits code old new out n h still d is =
      as_many n (length (did old) + 0) (length (did new) + ends_counted (end_of out)) is (had_turn old new out (from_turned old.flush code old new out still d))
  had_step (mode.Ended end) code old new out n h closed d is =
      as_many n (length (did old) + 1) (length (did new) + ends_counted (end_of out)) is
      (ap (λ (s : Standing). length (did s) + ends_counted (end_of out)) d.same ∙ ap (λ (o : Stepped). length (did old) + ends_counted (end_of o)) d.out_is)

-- ---- how much more it did

little_events : (e : Event) → length (updates_of (e ∷ [])) ≤ 1
little_events (event.Do u) = omega arith
little_events (event.Ask q a) = omega arith
little_events (event.Say v) = omega arith
little_events event.Yield = omega arith
little_events event.Flush = omega arith

updates_added : (e : Event) (old new : Standing) → Adds e old new → length (updates_done new) ≤ length (updates_done old) + 1
updates_added e old new h =
    let parts : updates_done new ≡ updates_done old ++ updates_of (e ∷ []) =
    sym (updates_did new) ∙ ap updates_of h.events ∙ updates-append (did old) (e ∷ []) ∙ ap (λ (l : List Update). l ++ updates_of (e ∷ [])) (updates_did old) in
    let long : length (updates_done new) ≡ length (updates_done old) + length (updates_of (e ∷ [])) = ap length parts ∙ length-append (updates_done old) (updates_of (e ∷ [])) in
    let few = little_events e in
    omega (arith, long, few)

updates_same : (old new : Standing) → Same old new → length (updates_done new) ≤ length (updates_done old) + 1
updates_same old new h =
    let same : length (updates_done new) ≡ length (updates_done old) = ap length (sym (updates_did new) ∙ ap updates_of h.events ∙ updates_did old) in
    omega (arith, same)

rounds_joined : (got : Option Replied) (old new : Standing) → Joins got old new → length new.own.list ≡ length old.own.list
rounds_joined None old new h = ap (λ (s : Standing). length s.own.list) h
rounds_joined (Some reply) old new h = ap (λ (s : Standing). length s.own.list) h.goes_on

rounds_sends : (o : Option Batch) (s : Standing) → length (sends_at o s).own.list ≤ length s.own.list + 1
rounds_sends None s = omega (arith, length-append {A = Batch})
rounds_sends (Some b) s = omega arith

module _ {S : Type 0} (hub hub' : Seen S Pushed Replied) where
  rounds_turn : (old new : Standing) (t : Turn) → Turns old new t hub hub' → length new.own.list ≤ length old.own.list + 1
  rounds_turn old new turn.Done h = let same : length new.own.list ≡ length old.own.list = rounds_joined h.pull.got old new h.pull.joins in omega (arith, same)
  rounds_turn old new (turn.NotYet outstanding taken) h =
      let same : length h.pulled.own.list ≡ length old.own.list = rounds_joined h.pull.got old h.pulled h.pull.joins in
      let one : length (sends_at h.pulled.sent h.pulled).own.list ≤ length h.pulled.own.list + 1 = rounds_sends h.pulled.sent h.pulled in
      let is : length new.own.list ≡ length (sends_at h.pulled.sent h.pulled).own.list = ap (λ (s : Standing). length s.own.list) h.push.goes_on in
      omega (arith, same, one, is)

  rounds_yield : (old new : Standing) (y : Yielded) → Yields old new y hub hub' → length new.own.list ≤ length old.own.list + 1
  rounds_yield old new y h =
      let same : length h.pulled.own.list ≡ length old.own.list = rounds_joined h.pull.got (noted event.Yield old) h.pulled h.pull.joins in
      let one : length (sends_at h.pulled.sent h.pulled).own.list ≤ length h.pulled.own.list + 1 = rounds_sends h.pulled.sent h.pulled in
      let is : length new.own.list ≡ length (sends_at h.pulled.sent h.pulled).own.list = ap (λ (s : Standing). length s.own.list) h.push.goes_on in
      omega (arith, same, one, is)

  little_notes : (e : Event) (old new : Standing) (out : Stepped) → IsRunning old → Notes e old new out hub hub' → LittleMore old new
  little_notes e old new out h n =
      let same : length new.own.list ≡ length old.own.list = ap (λ (s : Standing). length s.own.list) n.goes_on in
      record { updates = updates_added e old new (adds_notes hub hub' e old new out h n); rounds = omega (arith, same) }

  little_same : (old new : Standing) → new ≡ old → LittleMore old new
  little_same old new is = subst (LittleMore old) (sym is) (record { updates = omega arith; rounds = omega arith })

  little_does : (need : Need) (old new : Standing) (out : Stepped) → IsRunning old → Does need old new out hub hub' → LittleMore old new
  little_does (Need.Do u) old new out h d = little_notes (event.Do u) old new out h d
  little_does (Need.Ask q) old new out h d = little_notes (event.Ask q d.given) old new out h d.notes
  little_does (Need.Say v) old new out h d = little_notes (event.Say v) old new out h d
  little_does Need.Yield old new out h d = record {
    updates = updates_added event.Yield old new (adds_yield hub hub' old new d.yielded h d.yields);
    rounds = rounds_yield old new d.yielded d.yields;
  }
  little_does Need.Flush old new out h d = record {
    updates = updates_added event.Flush old new (adds_flush hub hub' old new d.turn h d.turns);
    rounds = rounds_turn (noted_at Marked event.Flush old) new d.turn d.turns;
  }
  little_does (Need.Ended end) old new out h d = little_same old new d.same

  little_turn : (old new : Standing) (out : Stepped) → TurnsOnce old new out hub hub' → LittleMore old new
  little_turn old new out h = record {
    updates = updates_same old new (same_turn hub hub' old new h.turn h.turns);
    rounds = rounds_turn old new h.turn h.turns;
  }

  pub little_step : (o : Option End) (f : Flushing) (code : CodeOf) (old new : Standing) (out : Stepped) → IsRunning old → StepsAt o f code old new out hub hub' → LittleMore old new
  little_step (Some end) f code old new out h d = little_same old new d.same
  little_step None Closed code old new out h d = little_does d.need old new out h d.does
  little_step None Marked code old new out h d = little_turn old new out d
  little_step None Sent code old new out h d = little_turn old new out d

-- ---- its hub, and its run

module _ {S : Type 0} (hub hub' : Seen S Pushed Replied) where
  kept_does : (need : Need) (old new : Standing) (out : Stepped) → Does need old new out hub hub' → Kept hub hub'
  kept_does (Need.Do u) old new out d = kept_same hub hub' d.unmet
  kept_does (Need.Ask q) old new out d = kept_same hub hub' d.notes.unmet
  kept_does (Need.Say v) old new out d = kept_same hub hub' d.unmet
  kept_does Need.Yield old new out d = yielded_kept hub hub' old new d.yielded d.yields
  kept_does Need.Flush old new out d = turned_kept hub hub' (noted_at Marked event.Flush old) new d.turn d.turns
  kept_does (Need.Ended end) old new out d = kept_same hub hub' d.unmet

  pub kept_step : (o : Option End) (f : Flushing) (code : CodeOf) (old new : Standing) (out : Stepped) → StepsAt o f code old new out hub hub' → Kept hub hub'
  kept_step (Some end) f code old new out d = kept_same hub hub' d.unmet
  kept_step None Closed code old new out d = kept_does d.need old new out d.does
  kept_step None Marked code old new out d = turned_kept hub hub' old new d.turn d.turns
  kept_step None Sent code old new out d = turned_kept hub hub' old new d.turn d.turns

  kept_lacks : (need : Need) (s : Standing) → Lacks need s hub hub' → Kept hub hub'
  kept_lacks (Need.Do u) s d = kept_same hub hub' d
  kept_lacks (Need.Ask q) s d = kept_same hub hub' d
  kept_lacks (Need.Say v) s d = kept_same hub hub' d
  kept_lacks Need.Yield s d = starved_kept hub hub' s (noted event.Yield s) d.new d.half d.starves
  kept_lacks Need.Flush s d = either d (kept_same hub hub') (λ x. starved_kept hub hub' (noted_at Marked event.Flush s) (noted_at Marked event.Flush s) x.new x.half x.starves)
  kept_lacks (Need.Ended end) s d = absurd d

  pub kept_err : (o : Option End) (f : Flushing) (code : CodeOf) (s : Standing) → LacksAt o f code s hub hub' → Kept hub hub'
  kept_err (Some end) f code s d = absurd d
  kept_err None Closed code s d = either d (kept_same hub hub') (λ x. kept_lacks x.need s x.lacks)
  kept_err None Marked code s d = starved_kept hub hub' s s d.new d.half d.starves
  kept_err None Sent code s d = starved_kept hub hub' s s d.new d.half d.starves

  of_same : (old new : Standing) → new ≡ old → hub' ≡ hub → is_of_run old hub.run → is_of_run new hub'.run
  of_same old new same unmet of =
      subst (λ (h : Seen S Pushed Replied). is_of_run new h.run) (sym unmet) (subst (λ (s : Standing). is_of_run s hub.run) (sym same) of)

  of_notes : (e : Event) (old new : Standing) (out : Stepped) → Notes e old new out hub hub' → is_of_run old hub.run → is_of_run new hub'.run
  of_notes e old new out d of =
      subst (λ (h : Seen S Pushed Replied). is_of_run new h.run) (sym d.unmet)
      (subst (λ (s : Standing). is_of_run s hub.run) (sym d.goes_on) (record { schema = of.schema; server = of.server; client = of.client }))

  of_does : (need : Need) (old new : Standing) (out : Stepped) → IsRunning old → is_of_run old hub.run → Does need old new out hub hub' → is_of_run new hub'.run
  of_does (Need.Do u) old new out h of d = of_notes (event.Do u) old new out d of
  of_does (Need.Ask q) old new out h of d = of_notes (event.Ask q d.given) old new out d.notes of
  of_does (Need.Say v) old new out h of d = of_notes (event.Say v) old new out d of
  of_does Need.Yield old new out h of d = yielded_of hub hub' old new d.yielded h of d.yields
  of_does Need.Flush old new out h of d =
      turned_of hub hub' (noted_at Marked event.Flush old) new d.turn (keeps_past old h) (record { schema = of.schema; server = of.server; client = of.client }) d.turns
  of_does (Need.Ended end) old new out h of d = of_same old new d.same d.unmet of

  pub of_step : (o : Option End) (f : Flushing) (code : CodeOf) (old new : Standing) (out : Stepped) → IsRunning old → is_of_run old hub.run → StepsAt o f code old new out hub hub' → is_of_run new hub'.run
  of_step (Some end) f code old new out h of d = of_same old new d.same d.unmet of
  of_step None Closed code old new out h of d = of_does d.need old new out h of d.does
  of_step None Marked code old new out h of d = turned_of hub hub' old new d.turn (keeps_past old h) of d.turns
  of_step None Sent code old new out h of d = turned_of hub hub' old new d.turn (keeps_past old h) of d.turns

-- ---- whether it waits

pub waits_so : (out : Stepped) (f : Flushing) → IsMode (mode_after out) f → (out ≡ stepped.Waits) ↔ (f ≢ Closed)
waits_so stepped.Went f closed = (λ e. cc, λ still. absurd (still closed))
waits_so stepped.Yields f closed = (λ e. cc, λ still. absurd (still closed))
waits_so stepped.Waits f still = (λ e. still, λ k. refl)
waits_so (stepped.Ended end) f closed = (λ e. cc, λ still. absurd (still closed))
