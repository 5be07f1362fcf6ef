-- A step of a client's runner is a step of the played run.
use Rattle.std.proofs.Common.{◌≡◌, refl, ap, sym, ◌∙◌, subst, ℕ, List, [], ◌∷◌, ◌++◌, length, Option, Some, None}
use Rattle.std.specs.Prelude.{◌≢◌, slice_get}
use Rattle.std.specs.Option.{option_map}
use mathlib.Core.List.{IsPrefix}
use Rattle.cloud_base.specs.Answer.{answer}
use Rattle.cloud_base.specs.Events.{Outcome, answers_in, asks, ended}
use Rattle.cloud_base.specs.declared.end.End.{End}
use Rattle.cloud_base.specs.declared.update.Answer.{Answer}
use Rattle.cloud_base.specs.declared.update.Event.{Event}
use Rattle.cloud_base.specs.declared.update.Event.TheVariants as event
use Rattle.cloud_base.specs.declared.update.Query.{Query}
use Rattle.cloud_base.specs.declared.update.Update.{Update}
use Rattle.batch_history.specs.Batches.{did_by}
use Rattle.slot_hub.specs.Boxes.{Boxes, Seen}
use Rattle.packet_codec.specs.Pushes.{Pushed}
use Rattle.packet_codec.specs.Replies.{Replied}
use Rattle.server_core.specs.Stations.{Holding}
use Rattle.code_machine.specs.declared.need.Need.{Need}
use Rattle.session_core.specs.declared.flushing.Flushing.{Flushing as FlushAt}
use Rattle.session_core.specs.declared.flushing.Flushing.TheVariants.{Closed, Marked, Sent}
use Rattle.session_core.specs.declared.turns.Turn.{Turn}
use Rattle.session_core.specs.declared.turns.Turn.TheVariants as turn
use Rattle.session_core.specs.Standings.{Standing, seen as sees}
use Rattle.session_core.specs.Sessions.{noted_at as notes_at}
use Rattle.client_runner.specs.declared.stepped.Stepped.{Stepped}
use Rattle.client_runner.specs.Needs.{IsNextOf}
use Rattle.client_runner.specs.Steps.{Does, IsRan, Notes, Ran, Steps, StepsAt, TurnsOnce, did}
use Rattle.client_runner.specs.Turned.{after_turn, end_of}
use Rattle.played_record.specs.Clients.{Client, answered, done, flushed, noted, seen, turned, yielded}
use Rattle.played_record.specs.Laws.{IsMoment}
use Rattle.played_record.specs.Plays.{comes_out, goes_on, next_event, step, stepped as steps_to}
use Rattle.played_record.specs.Worlds.{World, did as world_did}
use Rattle.played_record.proofs.Only.{client-else, client-here}
use Rattle.played_moments.specs.Moments.{GoesOnAt, IsAt, Mail, RunsBy, flushing_of, mail_of, reply_of}
use Rattle.played_turns.proofs.Lists.{next_at, none_left}
use Rattle.played_turns.proofs.Sights.{did_same, seen_same}
use Rattle.played_turns.proofs.Places.{Behind, Keeps, behind_noted, behind_of, client_at, keeps_noted, keeps_of, part, part_noted}
use Rattle.played_turns.proofs.Meetings.{Goes, answers_last, part_quiet, stays, turns_go, yields_go}

no_reply : (found : Option Replied) → option_map reply_of found ≡ None → found ≡ None
no_reply None e = refl
no_reply (Some r) e = absurd (cc (e))

no_end : (t : Turn) → end_of (after_turn t) ≡ None
no_end turn.Done = refl
no_end (turn.NotYet outstanding taken) = refl

abbrev Traced : Type 0
Traced = ℕ → List Answer → List Event × Outcome

module _ {S : Type 0} (trace : Traced) (c : ℕ) (w : World) (holding : Holding) (old : Ran) (boxes : Boxes S Pushed Replied)
    (hub hub' : Seen S Pushed Replied)
    (moment : IsMoment trace w) (ran : IsRan old) (runs : RunsBy (trace c) old) (told : hub.boxes ≡ Some boxes)
    (at : IsAt c old (mail_of c boxes holding hub.taken) w) where
  abbrev s : Standing
  s = old.stands

  abbrev mail : Mail
  mail = mail_of c boxes holding hub.taken

  abbrev answering : List Update → Query → Answer
  answering = answer s.schema

  abbrev given : List Answer
  given = answers_in (did s)

  behind : Behind c w.batches s mail
  behind = behind_of c w.batches old mail at.behind

  keeps : Keeps s
  keeps = keeps_of s ran.standing

  here : w.client c ≡ part s old.ended mail
  here = at.part

  quiet : s.sent ≡ None → boxes.inbox c ≡ None
  quiet e =
      let both = (moment.client c).quiet (ap (λ (x : Client). x.tail.sent) here ∙ e) in
      let none : (w.client c).inbox ≡ None = both.1 in
      no_reply (boxes.inbox c) (sym (ap (λ (x : Client). x.inbox) here) ∙ none)

  did_is : world_did c w ≡ did s
  did_is = ap (λ (x : Client). did_by w.batches c (Some x.tail)) here ∙ did_same c w.batches s behind.own

  next_is : next_event answering trace c w ≡ slice_get (trace c given).0 (length (did s))
  next_is =
      ap (λ (x : Client). slice_get (trace c x.answers).0 (length (world_did c w))) here
      ∙ ap (λ (l : List Event). slice_get (trace c given).0 (length l)) did_is

  out_is : (trace c (w.client c).answers).1 ≡ (trace c given).1
  out_is = ap (λ (x : Client). (trace c x.answers).1) here

  sees_is : seen c w.batches (w.client c).tail ≡ sees s
  sees_is = ap (λ (x : Client). seen c w.batches x.tail) here
      ∙ seen_same c w.batches s ran.standing.running behind.past behind.own

  -- where it comes
  abbrev Comes : Standing → Option End → Client → Type 0
  Comes new end x = Goes c w.batches holding end boxes hub hub' new x

  comes_as : (new : Standing) (end : Option End) (x y : Client) → y ≡ x → Comes new end x → Comes new end y
  comes_as new end x y same h = subst (Comes new end) (sym same) h

  comes_end : (new : Standing) (end end' : Option End) (x : Client) → end' ≡ end → Comes new end x → Comes new end' x
  comes_end new end end' x same h = subst (λ (e : Option End). Comes new e x) (sym same) h

  -- ---- the next event

  going : (e : Event) → IsPrefix (did s ++ e ∷ []) (trace c given).0
      → goes_on answering trace (next_event answering trace c w) c w ≡ done e c w.batches (part s old.ended mail)
  going e front =
      ap (λ (o : Option Event). goes_on answering trace o c w) (next_is ∙ next_at (did s) (trace c given).0 e front)
      ∙ ap (done e c w.batches) here

  comes : (outcome : Outcome) → ((trace c given).1 ≡ outcome) × ((trace c given).0 ≡ did s)
      → goes_on answering trace (next_event answering trace c w) c w ≡ comes_out answering trace outcome c w
  comes outcome h =
      let none : slice_get (trace c given).0 (length (did s)) ≡ None =
      ap (λ (l : List Event). slice_get l (length (did s))) h.1 ∙ none_left (did s) in
      ap (λ (o : Option Event). goes_on answering trace o c w) (next_is ∙ none)
      ∙ ap (λ (o : Outcome). comes_out answering trace o c w) (out_is ∙ h.0)

  -- ---- needs

  abbrev next : Client
  next = goes_on answering trace (next_event answering trace c w) c w

  notes_come : (e : Event) (new : Standing) (out : Stepped) (x : Client) → x ≡ part (notes_at s.flush e s) old.ended mail
      → Notes e s new out hub hub' → Comes new old.ended x
  notes_come e new out x is notes =
      subst (λ (n : Standing). Comes n old.ended x) (sym notes.goes_on)
      (stays c w.batches holding old.ended boxes hub hub' (notes_at s.flush e s) x told notes.unmet is (behind_noted c w.batches s.flush e s mail behind))

  quiet_come : (e : Event) (new : Standing) (out : Stepped) → answers_in (e ∷ []) ≡ [] → next ≡ noted e (part s old.ended mail)
      → Notes e s new out hub hub' → Comes new old.ended next
  quiet_come e new out none is notes = notes_come e new out next (is ∙ part_quiet s.flush e s old.ended mail none keeps) notes

  ask_is : (q : Query) (a : Answer) → a ≡ answering (sees s) q → ((trace c given).1 ≡ asks q) × ((trace c given).0 ≡ did s)
      → next ≡ part (notes_at s.flush (event.Ask q a) s) old.ended mail
  ask_is q a right h =
      let same : answering (seen c w.batches (w.client c).tail) q ≡ a =
      ap (λ (log : List Update). answering log q) sees_is ∙ sym right in
      comes (asks q) h
      ∙ ap (λ (a : Answer). answered q a (w.client c)) same
      ∙ ap (answered q a) here
      ∙ ap (λ (l : List Answer). record (noted (event.Ask q a) (part s old.ended mail)) { answers = l })
      (sym (answers_last (did s) (event.Ask q a)))
      ∙ part_noted s.flush (event.Ask q a) s old.ended mail keeps

  stay_comes : (new : Standing) (end : Option End) (x : Client) → new ≡ s → hub' ≡ hub → x ≡ part s end mail → Comes new end x
  stay_comes new end x same unmet is =
      subst (λ (n : Standing). Comes n end x) (sym same) (stays c w.batches holding end boxes hub hub' s x told unmet is behind)

  end_is : (end : End) → ((trace c given).1 ≡ ended end) × ((trace c given).0 ≡ did s) → next ≡ part s (Some end) mail
  end_is end h = comes (ended end) h ∙ ap (λ (x : Client). record x { end = Some end }) here

  flush_comes : (new : Standing) (out : Stepped) → TurnsOnce (notes_at Marked event.Flush s) new out hub hub'
      → Comes new old.ended (flushed c w.batches (part s old.ended mail))
  flush_comes new out h =
      let marking = notes_at Marked event.Flush s in
      comes_as new old.ended (turned c w.batches (part marking old.ended mail)) (flushed c w.batches (part s old.ended mail))
      (ap (turned c w.batches) (part_quiet Marked event.Flush s old.ended mail refl keeps))
      (turns_go c w.batches holding old.ended boxes hub hub' marking new h.turn told (keeps_noted Marked event.Flush s (λ e. absurd (cc (e))) keeps)
      (λ e. absurd (cc (e))) (behind_noted c w.batches Marked event.Flush s mail behind) quiet h.turns)

  does_come : (need : Need) (new : Standing) (end : Option End) (out : Stepped) → old.ended ≡ None → s.flush ≡ Closed
      → end ≡ end_of out
      → IsNextOf need (trace c given).1 (trace c given).0 (did s) → Does need s new out hub hub' → Comes new end next
  does_come (Need.Do u) new end out running shut is of does =
      comes_end new old.ended end next (is ∙ ap end_of does.out_is ∙ sym running)
      (quiet_come (event.Do u) new out refl (going (event.Do u) of) does)
  does_come (Need.Say v) new end out running shut is of does =
      comes_end new old.ended end next (is ∙ ap end_of does.out_is ∙ sym running)
      (quiet_come (event.Say v) new out refl (going (event.Say v) of) does)
  does_come (Need.Ask q) new end out running shut is of does =
      comes_end new old.ended end next (is ∙ ap end_of does.notes.out_is ∙ sym running)
      (notes_come (event.Ask q does.given) new out next (ask_is q does.given does.right of) does.notes)
  does_come Need.Yield new end out running shut is of does =
      comes_end new old.ended end next (is ∙ ap end_of does.out_is ∙ sym running)
      (comes_as new old.ended (yielded c w.batches (part s old.ended mail)) next (going event.Yield of)
      (yields_go c w.batches holding old.ended boxes hub hub' s new does.yielded told keeps shut behind quiet does.yields))
  does_come Need.Flush new end out running shut is of does =
      comes_end new old.ended end next (is ∙ ap end_of does.out_is ∙ no_end does.turn ∙ sym running)
      (comes_as new old.ended (flushed c w.batches (part s old.ended mail)) next (going event.Flush of) (flush_comes new out does))
  does_come (Need.Ended end') new end out running shut is of does =
      comes_end new (Some end') end next (is ∙ ap end_of does.out_is)
      (stay_comes new (Some end') next does.same does.unmet (end_is end' of))

  turn_comes : (new : Standing) (end : Option End) (out : Stepped) → old.ended ≡ None → s.flush ≢ Closed → end ≡ end_of out
      → TurnsOnce s new out hub hub'
      → Comes new end (turned c w.batches (w.client c))
  turn_comes new end out running still is h =
      comes_end new old.ended end (turned c w.batches (w.client c)) (is ∙ ap end_of h.out_is ∙ no_end h.turn ∙ sym running)
      (comes_as new old.ended (turned c w.batches (part s old.ended mail)) (turned c w.batches (w.client c)) (ap (turned c w.batches) here)
      (turns_go c w.batches holding old.ended boxes hub hub' s new h.turn told keeps still behind quiet h.turns))

  -- ---- the step

  step_comes : (over : Option End) (f : FlushAt) (new : Standing) (end : Option End) (out : Stepped) → old.ended ≡ over
      → s.flush ≡ f → end ≡ end_of out
      → StepsAt over f old.code s new out hub hub' → Comes new end (steps_to answering trace over (flushing_of f s.sent) c w)
  step_comes (Some e) f new end out over flush is h =
      comes_end new old.ended end (w.client c) (is ∙ ap end_of h.out_is ∙ sym over)
      (stay_comes new old.ended (w.client c) h.same h.unmet here)
  step_comes None Closed new end out over flush is h = does_come h.need new end out over flush is (runs h.need h.is) h.does
  step_comes None Marked new end out over flush is h = turn_comes new end out over (λ e. cc (e, flush)) is h
  step_comes None Sent new end out over flush is h = turn_comes new end out over (λ e. cc (e, flush)) is h

  pub goes_on_at : (new : Ran) (out : Stepped) → Steps old new out hub hub' → new.ended ≡ end_of out
      → GoesOnAt c new boxes holding holding hub hub' (step answering trace c w)
  goes_on_at new out steps is =
      let stands = step_comes old.ended s.flush new.stands new.ended out refl refl is steps in
      let there = steps_to answering trace (w.client c).end (w.client c).flush c w in
      let by_part : there ≡ steps_to answering trace old.ended (flushing_of s.flush s.sent) c w =
      ap (λ (x : Client). steps_to answering trace x.end x.flush c w) here in
      record {
        boxes' = stands.leaves.boxes';
        told = stands.leaves.told;
        at = record {
          part = client-here c there w ∙ by_part ∙ stands.is;
          behind = client_at c w.batches new (mail_of c stands.leaves.boxes' holding hub'.taken) stands.behind;
        };
        others = stands.leaves.others;
      }

-- ---- others

pub others_stay : (answers : List Update → Query → Answer) (trace : Traced) (c k : ℕ) (run : Ran) (m : Mail) (w : World)
    → k ≢ c → IsAt k run m w
    → IsAt k run m (step answers trace c w)
others_stay answers trace c k run m w other at = record {
  part = client-else c k (steps_to answers trace (w.client c).end (w.client c).flush c w) w other ∙ at.part;
  behind = at.behind;
}
