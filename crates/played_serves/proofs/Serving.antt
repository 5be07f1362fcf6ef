-- A serve, from the push that is taken out to the copy that is held.
use Rattle.std.proofs.Common.{◌≡◌, refl, ap, sym, subst, ◌∙◌, ℕ, List, Option, Some, None}
use Rattle.std.specs.Prelude.{◌≢◌, Ok}
use Rattle.std.specs.Option.{ForSome, option_map}
use Rattle.cloud_base.specs.Events.{Outcome}
use Rattle.cloud_base.specs.declared.batch.Batch.{Batch}
use Rattle.cloud_base.specs.declared.schedule.Fate.{Fate}
use Rattle.cloud_base.specs.declared.schedule.Fate.TheVariants as fate
use Rattle.cloud_base.specs.declared.update.Answer.{Answer}
use Rattle.cloud_base.specs.declared.update.Event.{Event}
use Rattle.slot_hub.specs.Boxes.{Boxes, Seen}
use Rattle.packet_codec.specs.Pushes.{Pushed}
use Rattle.packet_codec.specs.Replies.{Replied}
use Rattle.server_core.specs.Stations.{Holding, IsHolding, Moment, Serves, Handles, TakesOut, held_of, moment}
use Rattle.server_core.specs.Stations as station
use Rattle.server_core.specs.declared.station.Served.{Served as Came}
use Rattle.server_core.specs.declared.station.Served.TheVariants as came
use Rattle.client_runner.specs.Steps.{Ran, IsRan}
use Rattle.played_record.specs.Clients.{Client}
use Rattle.played_record.specs.Worlds.{World, fares, releases, copy_of, holds, emptied, handled, served_out, served}
use Rattle.played_record.specs.Laws.{IsMoment}
use Rattle.played_record.proofs.Only.{client-here, served_only}
use Rattle.played_record.proofs.Serving.{served_keeps}
use Rattle.played_moments.specs.Moments.{Mail, IsAmong, IsAt, IsClientAt, GoesOnAt, part_of, mail_of, round_of}
use Rattle.played_serves.proofs.Records.{behind_longer}
use Rattle.played_serves.proofs.Boxed.{Stays, is_taken, never_busy}
use Rattle.played_serves.proofs.Between.{Between, IsOf, SentBy, mail_as, mail_with, fares_between, releases_between}

-- ---- other clients

pub others_stay : (trace : ℕ → List Answer → List Event × Outcome) (c k : ℕ) (fate : Fate) (run : Ran) (mail : Mail)
    (w : World) → IsMoment trace w → k ≢ c → IsAt k run mail w → IsAt k run mail (served c fate w)
others_stay trace c k fate run mail w moment other h = record {
  part = (served_only c fate w).others k other ∙ h.part;
  behind = behind_longer c k (w.client c).tail.sent w.batches (served c fate w).batches run mail (moment.client c).own
      (served_keeps c fate w moment.client).longer (λ e. absurd (other e)) h.behind;
}

-- ---- client c

sent_by : (c : ℕ) (run : Ran) (mail : Mail) (batches : List Batch) → IsRan run → IsClientAt c batches run mail → SentBy c run
sent_by c run mail batches ran h b e = (ran.standing.running.sent b e).client ∙ h.client

-- with an empty outbox
none_out : (c : ℕ) (run : Ran) (mail : Mail) (w : World) → IsAt c run mail w
    → IsAt c run (record mail { out = None }) (emptied c w)
none_out c run mail w h = record {
  part = client-here c (record (w.client c) { out = None }) w ∙ ap (λ (x : Client). record x { out = None }) h.part;
  behind = record {
    client = h.behind.client;
    past = h.behind.past;
    own = h.behind.own;
    reply = h.behind.reply;
    out = λ push e. absurd (cc (e));
    held = h.behind.held;
    inbox = h.behind.inbox;
  };
}

-- ---- the copy that is held

copied_round : (fate : Fate) (push : Pushed) → option_map round_of (station.copy_of fate push) ≡ copy_of fate push.batch.round
copied_round fate.Pass push = refl
copied_round fate.LosePush push = refl
copied_round fate.LoseReply push = refl
copied_round fate.Twice push = refl
copied_round fate.Hold push = refl

copied_among : (own : List Batch) (fate : Fate) (push : Pushed) → IsAmong own push
    → ForSome (station.copy_of fate push) (IsAmong own)
copied_among own fate.Pass push h other e = absurd (cc (e))
copied_among own fate.LosePush push h other e = absurd (cc (e))
copied_among own fate.LoseReply push h other e = absurd (cc (e))
copied_among own fate.Twice push h other e = absurd (cc (e))
copied_among own fate.Hold push h other e = let same : push ≡ other = cc (e) in subst (IsAmong own) same h

copies_of : (c : ℕ) (run : Ran) (mail : Mail) (batches : List Batch) (old : Holding) → IsHolding old
    → mail.held ≡ held_of c old → IsClientAt c batches run mail → ForSome (held_of c old) (IsOf c run)
copies_of c run mail batches old holding is h push e = record { client = holding.client c push e; among = h.held push (is ∙ e) }

module _ {S : Type 0} where
  -- ---- an outbox is emptied

  mail_taken : (c : ℕ) (boxes boxes' : Boxes S Pushed Replied) (held : Option Pushed) (taken taken' : ℕ → ℕ)
      → boxes'.outbox c ≡ None → boxes'.inbox ≡ boxes.inbox → taken' ≡ taken
      → mail_as None (boxes.inbox c) held (taken c) ≡ mail_with c boxes' held taken'
  mail_taken c boxes boxes' held taken taken' out inbox same =
      let there : boxes'.inbox c ≡ boxes.inbox c = ap (λ (f : ℕ → Option Replied). f c) inbox in
      let number : taken' c ≡ taken c = ap (λ (f : ℕ → ℕ). f c) same in
      ap (λ (o : Option Pushed). mail_as o (boxes.inbox c) held (taken c)) (sym out)
      ∙ ap (λ (i : Option Replied). mail_as (boxes'.outbox c) i held (taken c)) (sym there)
      ∙ ap (λ (n : ℕ). mail_as (boxes'.outbox c) (boxes'.inbox c) held n) (sym number)

  emptied_between : (c : ℕ) (run : Ran) (got : Option Pushed) (old : Holding) (boxes : Boxes S Pushed Replied)
      (hub taken : Seen S Pushed Replied) (w : World) → hub.boxes ≡ Some boxes → w.batches ≡ old.server.joined.list
      → IsAt c run (mail_of c boxes old hub.taken) w → TakesOut c (Ok got) hub taken
      → Between c run (held_of c old) boxes hub.taken (moment old taken) (emptied c w)
  emptied_between c run got old boxes hub taken w told batches h takes =
      let t = is_taken c got hub taken boxes takes told in
      record {
        boxes = t.boxes';
        told = t.told;
        batches = batches;
        at = subst (λ (m : Mail). IsAt c run m (emptied c w))
            (mail_taken c boxes t.boxes' (held_of c old) hub.taken taken.taken t.here t.inbox takes.taken)
            (none_out c run (mail_of c boxes old hub.taken) w h);
        stays = t.stays;
      }

  -- ---- what it comes to

  abbrev pub Played : ℕ → Ran → Boxes S Pushed Replied → Holding → Holding → Seen S Pushed Replied → Seen S Pushed Replied → World
      → Type 0
  Played c run boxes old new hub hub' w = GoesOnAt c run boxes old new hub hub' w × (w.batches ≡ new.server.joined.list)

  others_mail : (c : ℕ) (boxes boxes' : Boxes S Pushed Replied) (old new : Holding) (hub hub' : Seen S Pushed Replied)
      → ((k : ℕ) → k ≢ c → held_of k new ≡ held_of k old) → Stays c boxes boxes' hub.taken hub'.taken
      → (k : ℕ) → k ≢ c → mail_of k boxes' new hub'.taken ≡ mail_of k boxes old hub.taken
  others_mail c boxes boxes' old new hub hub' held stays k other =
      ap (λ (o : Option Pushed). mail_as o (boxes'.inbox k) (held_of k new) (hub'.taken k)) (stays.outboxes k other)
      ∙ ap (λ (i : Option Replied). mail_as (boxes.outbox k) i (held_of k new) (hub'.taken k)) (stays.inboxes k other)
      ∙ ap (λ (p : Option Pushed). mail_as (boxes.outbox k) (boxes.inbox k) p (hub'.taken k)) (held k other)
      ∙ ap (λ (n : ℕ). mail_as (boxes.outbox k) (boxes.inbox k) (held_of k old) n) (stays.rounds k)

  goes_on : (c : ℕ) (run : Ran) (boxes : Boxes S Pushed Replied) (old new : Holding) (hub hub' : Seen S Pushed Replied)
      (w : World) → ((k : ℕ) → k ≢ c → held_of k new ≡ held_of k old)
      → Between c run (held_of c new) boxes hub.taken (moment new hub') w
      → Played c run boxes old new hub hub' w
  goes_on c run boxes old new hub hub' w held h = (
    record {
      boxes' = h.boxes;
      told = h.told;
      at = h.at;
      others = others_mail c boxes h.boxes old new hub hub' held h.stays;
    },
    h.batches,
  )

  -- ---- a copy is held

  holds_between : (c : ℕ) (run : Ran) (held kept : Option Pushed) (fate : Fate) (push : Pushed)
      (start : Boxes S Pushed Replied) (taken : ℕ → ℕ) (m : Moment S) (w : World) → IsAmong run.stands.own.list push
      → kept ≡ station.copy_of fate push → Between c run held start taken m w
      → Between c run kept start taken m (holds c (copy_of fate push.batch.round) w)
  holds_between c run held kept fate push start taken m w among is h =
      let copy = copy_of fate push.batch.round in
      let number : copy ≡ option_map round_of kept =
      sym (ap (λ (o : Option Pushed). option_map round_of o) is ∙ copied_round fate push) in
      let own = run.stands.own.list in
      record {
        boxes = h.boxes;
        told = h.told;
        batches = h.batches;
        at = record {
          part = client-here c (record (w.client c) { held = copy }) w
              ∙ ap (λ (x : Client). record x { held = copy }) h.at.part
              ∙ ap (λ (o : Option ℕ). record (part_of run (mail_with c h.boxes kept m.seen.taken)) { held = o }) number;
          behind = record {
            client = h.at.behind.client;
            past = h.at.behind.past;
            own = h.at.behind.own;
            reply = h.at.behind.reply;
            out = h.at.behind.out;
            held = subst (λ (o : Option Pushed). ForSome o (IsAmong own)) (sym is) (copied_among own fate push among);
            inbox = h.at.behind.inbox;
          };
        };
        stays = h.stays;
      }

  -- ---- a serve

  handled_between : (c : ℕ) (fate : Fate) (run : Ran) (push : Pushed) (old new : Holding) (boxes : Boxes S Pushed Replied)
      (hub taken hub' : Seen S Pushed Replied) (w : World) → SentBy c run → IsOf c run push → ForSome (held_of c old) (IsOf c run)
      → (w.client c).held ≡ option_map round_of (held_of c old) → Handles c fate push old new taken hub'
      → Between c run (held_of c old) boxes hub.taken (moment old taken) (emptied c w)
      → Between c run (held_of c new) boxes hub.taken (moment new hub') (handled c fate push.batch.round w)
  handled_between c fate run push old new boxes hub taken hub' w mine of copies was handles h =
      let held = held_of c old in
      let start = moment old taken in
      let end = moment new hub' in
      let v = fares fate c push.batch.round (emptied c w) in
      let u = releases c (w.client c).held v in
      let fared =
      fares_between c run held boxes hub.taken mine fate push start handles.between (emptied c w) of handles.fares h in
      let freed = releases_between c run held boxes hub.taken mine held handles.between end v copies handles.releases fared in
      let freed' : Between c run held boxes hub.taken end u =
      subst (λ (o : Option ℕ). Between c run held boxes hub.taken end (releases c o v)) (sym was) freed in
      holds_between c run held (held_of c new) fate push boxes hub.taken end u of.among handles.held freed'

  nothing_taken : (c : ℕ) (run : Ran) (old : Holding) (boxes : Boxes S Pushed Replied) (hub hub' : Seen S Pushed Replied)
      (w : World) → hub.boxes ≡ Some boxes → w.batches ≡ old.server.joined.list
      → IsAt c run (mail_of c boxes old hub.taken) w → TakesOut c (Ok None) hub hub'
      → Between c run (held_of c old) boxes hub.taken (moment old hub') w
  nothing_taken c run old boxes hub hub' w told batches h takes =
      let t = is_taken c None hub hub' boxes takes told in
      let same : mail_of c boxes old hub.taken ≡ mail_with c t.boxes' (held_of c old) hub'.taken =
      ap (λ (o : Option Pushed). mail_as o (boxes.inbox c) (held_of c old) (hub.taken c)) (sym t.was)
      ∙ mail_taken c boxes t.boxes' (held_of c old) hub.taken hub'.taken t.here t.inbox takes.taken in
      record {
        boxes = t.boxes';
        told = t.told;
        batches = batches;
        at = subst (λ (m : Mail). IsAt c run m w) same h;
        stays = t.stays;
      }

  served_by : (c : ℕ) (fate : Fate) (came : Came) (w : World) (run : Ran) (old new : Holding) (boxes : Boxes S Pushed Replied)
      (hub hub' : Seen S Pushed Replied) → SentBy c run → IsHolding old → hub.boxes ≡ Some boxes
      → w.batches ≡ old.server.joined.list → IsAt c run (mail_of c boxes old hub.taken) w
      → ((k : ℕ) → k ≢ c → held_of k new ≡ held_of k old) → Serves c fate came old new hub hub'
      → Played c run boxes old new hub hub' (served c fate w)
  served_by c fate came.Empty w run old new boxes hub hub' mine holding told batches h held serves =
      let t = is_taken c None hub hub' boxes serves.1 told in
      let out : (w.client c).out ≡ None =
      ap (λ (x : Client). x.out) h.part ∙ ap (λ (o : Option Pushed). option_map round_of o) (sym t.was) in
      let same : Between c run (held_of c old) boxes hub.taken (moment old hub') w =
      nothing_taken c run old boxes hub hub' w told batches h serves.1 in
      subst (λ (o : Option ℕ). Played c run boxes old new hub hub' (served_out c fate o w)) (sym out)
      (goes_on c run boxes old new hub hub' w held
      (subst (λ (x : Holding). Between c run (held_of c x) boxes hub.taken (moment x hub') w) (sym serves.0) same))
  served_by c fate (came.Busy holder) w run old new boxes hub hub' mine holding told batches h held serves =
      absurd (never_busy c serves.1.busy hub hub' boxes serves.1.takes told)
  served_by c fate (came.Took round) w run old new boxes hub hub' mine holding told batches h held serves =
      let push = serves.push in
      let t = is_taken c (Some push) hub serves.taken boxes serves.takes told in
      let out : (w.client c).out ≡ Some push.batch.round =
      ap (λ (x : Client). x.out) h.part ∙ ap (λ (o : Option Pushed). option_map round_of o) (sym t.was) in
      let carried = serves.takes.got push refl in
      let of : IsOf c run push = record { client = carried.client; among = h.behind.out push (sym t.was) } in
      let start = emptied_between c run (Some push) old boxes hub serves.taken w told batches h serves.takes in
      let copies = copies_of c run (mail_of c boxes old hub.taken) w.batches old holding refl h.behind in
      let was : (w.client c).held ≡ option_map round_of (held_of c old) = ap (λ (x : Client). x.held) h.part in
      subst (λ (o : Option ℕ). Played c run boxes old new hub hub' (served_out c fate o w)) (sym out)
      (goes_on c run boxes old new hub hub' (handled c fate push.batch.round w) held
      (handled_between c fate run push old new boxes hub serves.taken hub' w mine of copies was serves.handles start))

  pub serve_played : (trace : ℕ → List Answer → List Event × Outcome) (c : ℕ) (fate : Fate) (came : Came) (w : World) (run : Ran)
      (old new : Holding) (boxes : Boxes S Pushed Replied) (hub hub' : Seen S Pushed Replied) → IsMoment trace w → IsRan run
      → IsHolding old → hub.boxes ≡ Some boxes → w.batches ≡ old.server.joined.list → IsAt c run (mail_of c boxes old hub.taken) w
      → ((k : ℕ) → k ≢ c → held_of k new ≡ held_of k old) → Serves c fate came old new hub hub'
      → Played c run boxes old new hub hub' (served c fate w)
  serve_played trace c fate came w run old new boxes hub hub' is ran holding told batches h held serves =
      let mine = sent_by c run (mail_of c boxes old hub.taken) w.batches ran h.behind in
      served_by c fate came w run old new boxes hub hub' mine holding told batches h held serves
