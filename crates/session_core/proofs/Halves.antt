-- A yield and a flush turn, whole.
use Rattle.std.proofs.Common.{◌≡◌, refl, sym, ◌∙◌, ap, subst, List, [], ◌∷◌, length, Some, None, Option, Ok, inl, inr, arith}
use Rattle.std.specs.Prelude.{◌≢◌, ◌⊎◌, ◌<◌, ◌+◌, ◌^◌, ℕ, Contains, slice_get, is_some, Bool, true}
use Rattle.std.specs.Option.{ForSome}
use Rattle.std.proofs.lemmas.Option.{slice_get_within}
use Rattle.atomic_table.specs.Seated.{TableId}
use Rattle.cloud_base.specs.Events.{EndsAtMark}
use Rattle.cloud_base.specs.declared.batch.Batch.{Batch}
use Rattle.cloud_base.specs.declared.update.Event.TheVariants.{Yield}
use Rattle.front_table.specs.TokenView.{TokenView}
use Rattle.slot_hub.specs.Boxes.{Seen}
use Rattle.slot_hub.specs.Runs.{Named, clients_among, clients_of}
use Rattle.packet_codec.specs.Pushes.{Pushed}
use Rattle.packet_codec.specs.Replies.{Replied}
use Rattle.packet_codec.specs.Runs.{push_of_run}
use Rattle.session_core.specs.declared.flushing.Flushing.TheVariants.{Closed}
use Rattle.session_core.specs.declared.inbox.Ready.{Ready}
use Rattle.session_core.specs.declared.turns.Half.{Half}
use Rattle.session_core.specs.declared.turns.Half.TheVariants as half
use Rattle.session_core.specs.declared.turns.Pull.{Pull}
use Rattle.session_core.specs.declared.turns.Pull.TheVariants as pull
use Rattle.session_core.specs.declared.turns.PushOut.{PushOut}
use Rattle.session_core.specs.declared.turns.PushOut.TheVariants as out
use Rattle.session_core.specs.declared.turns.Turn.{Turn}
use Rattle.session_core.specs.declared.turns.Turn.TheVariants as turn
use Rattle.session_core.specs.Standings.{Standing, IsStanding, is_of_run}
use Rattle.session_core.specs.Sessions.{MayBegin, noted, sends, sends_at}
use Rattle.session_core.specs.Meetings.{Fetches, HandsOut, IsMet, IsNotYet, IsPushOf, IsReady, Joins, LooksIn, Pulls, Pushes, Readies, Starves, StarvesPull, Turns, Yields, reply_of, without_reply}
use Rattle.session_core.proofs.Turning.{may_begin-yield, ready-yield, marked-yield, open_at_mark, may_begin-open, joined_may, joined_run, left_run, joins_left, joins_noted, fetched_run, fetched_round, meets_flush}

-- ---- a yield's pull

left_few : (got : Option Replied) (s : Standing) → length s.own.list < 2 ^ 32 → length (without_reply got s).own.list < 2 ^ 32
left_few None s few = few
left_few (Some reply) s few = few

left_before : (got : Option Replied) (s : Standing) → EndsAtMark s.before → EndsAtMark (without_reply got s).before
left_before None s marked = marked
left_before (Some reply) s marked = marked

module _ {S : Type 0} (old first : Standing) (result : Pull) (ready : Option Ready) (hub hub' : Seen S Pushed Replied) (is : Readies old first result ready hub hub') where
  run_same : hub'.run ≡ hub.run
  run_same = fetched_run old.client hub hub' old.sent old.reply result (reply_of ready) is.fetches

  first_run : is_of_run old hub.run → is_of_run first hub.run
  first_run of = subst (λ (s : Standing). is_of_run s hub.run) (sym is.left) (left_run (reply_of ready) old hub.run of)

  module _ (second third : Standing) (standing : IsStanding first) (mark : second ≡ noted Yield first) where
    pub yield_marked : ForSome ready (λ (r : Ready). EndsAtMark second.before)
    yield_marked r k = subst (λ (s : Standing). EndsAtMark s.before) (sym mark) (marked-yield first r (is.each r k))

    pub yield_each : ForSome ready (IsReady second)
    yield_each r k = subst (λ (s : Standing). IsReady s r) (sym mark) (ready-yield first r standing.running (is.each r k))

    module _ (joins : Joins (reply_of ready) second third) where
      pub yield_pulls : Pulls (noted Yield old) third result hub hub'
      yield_pulls = record {
        got = reply_of ready;
        fetches = is.fetches;
        joins = joins_noted (reply_of ready) old third (subst (λ (s : Standing). Joins (reply_of ready) s third) (mark ∙ ap (noted Yield) is.left) joins);
      }

      pub yield_may : length old.own.list < 2 ^ 32 → MayBegin third
      yield_may few =
          let here : length first.own.list < 2 ^ 32 = subst (λ (s : Standing). length s.own.list < 2 ^ 32) (sym is.left) (left_few (reply_of ready) old few) in
          joined_may (reply_of ready) second third joins (subst MayBegin (sym mark) (may_begin-yield first standing.running here))

      pub yield_run : is_of_run old hub.run → is_of_run third hub'.run
      yield_run of =
          let noted_run : is_of_run second hub.run = subst (λ (s : Standing). is_of_run s hub.run) (sym mark) (first_run of) in
          subst (is_of_run third) (sym run_same) (joined_run ready second third hub.run joins yield_each noted_run)

  -- ---- a flush turn's pull

  module _ (standing : IsStanding old) (still : old.flush ≢ Closed) where
    pub flush_marked : ForSome ready (λ (r : Ready). EndsAtMark first.before)
    flush_marked r k = subst (λ (s : Standing). EndsAtMark s.before) (sym is.left) (left_before (reply_of ready) old (open_at_mark old standing still).before)

    module _ (third : Standing) (joins : Joins (reply_of ready) first third) where
      flush_joins : Joins (reply_of ready) old third
      flush_joins = joins_left (reply_of ready) old third (subst (λ (s : Standing). Joins (reply_of ready) s third) is.left joins)

      pub flush_pulls : Pulls old third result hub hub'
      flush_pulls = record { got = reply_of ready; fetches = is.fetches; joins = flush_joins }

      pub flush_may : length old.own.list < 2 ^ 32 → MayBegin third
      flush_may few = joined_may (reply_of ready) old third flush_joins (may_begin-open old standing still few)

      pub flush_run : is_of_run old hub.run → is_of_run third hub'.run
      flush_run of = subst (is_of_run third) (sym run_same) (joined_run ready first third hub.run joins is.each (first_run of))

      met_at : (got : Option Replied) → Fetches old.client old.sent old.reply result got hub hub' → Joins got old third → third.flush ≡ Closed → IsMet old third hub hub'
      met_at None fetches same closed = absurd (still (sym (ap (λ (s : Standing). s.flush) same) ∙ closed))
      met_at (Some reply) fetches goes closed =
          let round = fetched_round old.client hub hub' old.sent old.reply result reply fetches in
          let flush = meets_flush old reply.past.list standing still (sym (ap (λ (s : Standing). s.flush) goes.goes_on) ∙ closed) goes.holds in
          record {
            round = round.0;
            pull = record { got = Some reply; fetches = subst (λ (p : Pull). Fetches old.client old.sent old.reply p (Some reply) hub hub') round.1 fetches; joins = goes };
            closed = closed;
            batch = flush.batch;
            was = flush.was;
            marked = flush.marked;
            holds = subst (λ (s : Standing). Contains s.past.list flush.batch) (sym goes.goes_on) flush.holds;
          }

      pub flush_met : third.flush ≡ Closed → IsMet old third hub hub'
      flush_met closed = met_at (reply_of ready) is.fetches flush_joins closed

-- ---- want of memory

module _ {S : Type 0} (old new : Standing) (hub hub' : Seen S Pushed Replied) where
  -- nothing was done yet
  pub starves_first : new ≡ old → hub' ≡ hub → StarvesPull old new hub hub'
  starves_first same hubs = record {
    same = subst (λ (s : Standing). s ≡ record old { reply = s.reply }) (sym same) refl;
    kept = inl (ap (λ (s : Standing). s.reply) same, hubs);
  }

  kept_at : (sent : Option Batch) (kept : Option Replied) (result : Pull) (reply : Replied) → Fetches old.client sent kept result (Some reply) hub hub' → new.reply ≡ Some reply → ((new.reply ≡ kept) × (hub' ≡ hub)) ⊎ ((r : Replied) × (new.reply ≡ Some r) × (kept ≡ None) × LooksIn old.client (Ok (Some r)) hub hub')
  kept_at None kept result reply h is = let none = h.1 in cc
  kept_at (Some b) (Some k) result reply h is = inl (is ∙ h.1, h.2)
  kept_at (Some b) None pull.Idle reply h is = absurd h
  kept_at (Some b) None (pull.Took number) reply h is = inr (h.1.reply, is ∙ h.1.got_is, refl, h.1.looks)
  kept_at (Some b) None (pull.Nothing taken) reply h is = let none = h.got_is in cc
  kept_at (Some b) None (pull.Busy holder) reply h is = let none = h.got_is in cc

  -- a reply was fetched and is kept again
  pub starves_fetched : (result : Pull) (reply : Replied) → Fetches old.client old.sent old.reply result (Some reply) hub hub' → new ≡ record old { reply = Some reply } → StarvesPull old new hub hub'
  starves_fetched result reply fetches is = record {
    same = subst (λ (s : Standing). s ≡ record old { reply = s.reply }) (sym is) refl;
    kept = kept_at old.sent old.reply result reply fetches (ap (λ (s : Standing). s.reply) is);
  }

-- ---- a push of a run

clients_range : (tables : List TableId) (c : ℕ) (table : TableId) → slice_get tables (c + 1) ≡ Some table → c < clients_among tables
clients_range [] c table h = absurd (omega (arith, slice_get_within [] (c + 1) table h))
clients_range (server ∷ clients) c table h = omega (arith, slice_get_within (server ∷ clients) (c + 1) table h)

pub client_range : (s : Standing) (run : Named) → is_of_run s run → s.client < clients_of run
client_range s run of = clients_range run.tables s.client s.own.chronicle of.client

pub push_run : (s : Standing) (push : Pushed) (run : Named) → IsPushOf s push → is_of_run s run → push_of_run push run
push_run s push run is of = record {
  schema = is.of_schema ∙ of.schema;
  server = of.server ∙ ap (λ (t : TokenView Batch). Some t.chronicle) (sym is.past);
  client = ap (λ (c : ℕ). slice_get run.tables (c + 1)) is.client ∙ of.client ∙ ap (λ (t : TokenView Batch). Some t.chronicle) (sym is.own);
}

-- ---- both halves

sends_run : (o : Option Batch) (s : Standing) (run : Named) → is_of_run s run → is_of_run (sends_at o s) run
sends_run None s run of = of
sends_run (Some b) s run of = of

sent_at : (o : Option Batch) (s : Standing) → s.sent ≡ o → is_some (sends_at o s).sent ≡ true
sent_at None s is = refl
sent_at (Some b) s is = ap is_some is

module _ {S : Type 0} where
  pub yields_of : (old pulled new : Standing) (p : Pull) (q : PushOut) (hub between hub' : Seen S Pushed Replied) → Pulls (noted Yield old) pulled p hub between → Pushes pulled new q between hub' → Yields old new (record { pull = p; push = q }) hub hub'
  yields_of old pulled new p q hub between hub' pulls pushes = record { pulled = pulled; between = between; pull = pulls; push = pushes }

  pub starves_push : (old marked pulled new : Standing) (p : Pull) (which : Half) (hub between hub' : Seen S Pushed Replied) → Pulls marked pulled p hub between → hub' ≡ between → (new ≡ pulled) ⊎ (new ≡ sends pulled) → which ≡ half.Push → Starves old marked new which hub hub'
  starves_push old marked pulled new p which hub between hub' pulls same goes is =
      subst (λ (x : Half). Starves old marked new x hub hub') (sym is)
      (record { pulled = pulled; pull_is = p; pull = subst (Pulls marked pulled p hub) (sym same) pulls; goes_on = goes })

  pub starves_pull : (old marked new : Standing) (which : Half) (hub hub' : Seen S Pushed Replied) → StarvesPull old new hub hub' → which ≡ half.Pull → Starves old marked new which hub hub'
  starves_pull old marked new which hub hub' starves is = subst (λ (x : Half). Starves old marked new x hub hub') (sym is) starves

  handed_run : (push : Pushed) (again : Bool) (q : PushOut) (hub hub' : Seen S Pushed Replied) → HandsOut push again q hub hub' → hub'.run ≡ hub.run
  handed_run push again (out.New round) hub hub' h = h.1.puts.keeps.run
  handed_run push again (out.Again round) hub hub' h = h.1.puts.keeps.run
  handed_run push again (out.Busy holder) hub hub' h = h.puts.keeps.run

  module _ (old new : Standing) (q : PushOut) (hub hub' : Seen S Pushed Replied) (pushes : Pushes old new q hub hub') where
    pub pushes_run : is_of_run old hub.run → is_of_run new hub'.run
    pushes_run of =
        subst (is_of_run new) (sym (handed_run pushes.push (is_some old.sent) q hub hub' pushes.hands))
        (subst (λ (s : Standing). is_of_run s hub.run) (sym pushes.goes_on) (sends_run old.sent old hub.run of))

    pub pushes_sent : is_some new.sent ≡ true
    pushes_sent = subst (λ (s : Standing). is_some s.sent ≡ true) (sym pushes.goes_on) (sent_at old.sent old refl)

  pub unmet_of : (old pulled new : Standing) (p : Pull) (q : PushOut) (told : Turn) (hub between hub' : Seen S Pushed Replied) → Pulls old pulled p hub between → pulled.flush ≢ Closed → Pushes pulled new q between hub' → IsNotYet new told hub' → Turns old new told hub hub'
  unmet_of old pulled new p q turn.Done hub between hub' pulls still pushes is = absurd is
  unmet_of old pulled new p q (turn.NotYet outstanding taken) hub between hub' pulls still pushes is = record {
    pulled = pulled;
    between = between;
    pull_is = p;
    pull = pulls;
    still = still;
    push_is = q;
    push = pushes;
    outstanding_is = is.0;
    taken_is = is.1;
  }
