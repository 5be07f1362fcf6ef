-- A moment while a push is handled, and the played run there.
use Rattle.std.proofs.Common.{◌≡◌, refl, ap, sym, subst, ◌∙◌, ℕ, Bool, List, length, Option, Some, None, inl, inr, arith}
use Rattle.std.specs.Prelude.{if◌then◌else◌, Result}
use Rattle.std.specs.Option.{ForSome, option_map}
use Rattle.std.proofs.lemmas.Bool.{cases_lt, le-ltb, lt-ltb}
use mathlib.Core.List.{IsPrefix}
use Rattle.cloud_base.specs.declared.batch.Batch.{Batch}
use Rattle.cloud_base.specs.declared.batch.Tail.{Tail}
use Rattle.cloud_base.specs.declared.schedule.Fate.{Fate}
use Rattle.cloud_base.specs.declared.schedule.Fate.TheVariants as fate
use Rattle.slot_hub.specs.Boxes.{Boxes, Seen}
use Rattle.slot_hub.specs.declared.traits.Busy.{Busy}
use Rattle.packet_codec.specs.Pushes.{Pushed}
use Rattle.packet_codec.specs.Replies.{Replied}
use Rattle.session_core.specs.Standings.{tail_of}
use Rattle.server_core.specs.Servers.{Serving, Answers, after_push, last_of}
use Rattle.server_core.specs.Stations.{Moment, PutsIn, Passes, Fares, Releases}
use Rattle.typed_program.proofs.Orderly.{prefix_refl}
use Rattle.client_runner.specs.Steps.{Ran}
use Rattle.played_record.specs.Clients.{Client, Reply, own_batches}
use Rattle.played_record.specs.Worlds.{World, last_round, joined, put_in, passes, fares, releases}
use Rattle.played_record.specs.Laws.{Joins}
use Rattle.played_record.proofs.Only.{client-here}
use Rattle.played_moments.specs.Moments.{Mail, IsAmong, IsAt, part_of, reply_of, round_of}
use Rattle.played_serves.proofs.Records.{one_record, joins_joined, behind_longer}
use Rattle.played_serves.proofs.Boxed.{Stays, stays_then, is_put}

-- a push of client c, of one of the batches of its run
pub record IsOf (c : ℕ) (run : Ran) (push : Pushed) : Type 0 where
  pub client : push.batch.client ≡ c
  pub among : IsAmong run.stands.own.list push

-- the outstanding batch of a run is of client c
abbrev pub SentBy : ℕ → Ran → Type 0
SentBy c run = ForSome run.stands.sent (λ (b : Batch). b.client ≡ c)

-- what is on its way
abbrev pub mail_as : Option Pushed → Option Replied → Option Pushed → ℕ → Mail
mail_as out inbox held taken = record { out = out; inbox = inbox; held = held; taken = taken }

module _ {S : Type 0} where
  -- by the boxes of client c
  abbrev pub mail_with : ℕ → Boxes S Pushed Replied → Option Pushed → (ℕ → ℕ) → Mail
  mail_with c boxes held taken = mail_as (boxes.outbox c) (boxes.inbox c) held (taken c)

  -- client c is where a played run says, behind the server's record
  pub record Between (c : ℕ) (run : Ran) (held : Option Pushed) (start : Boxes S Pushed Replied) (taken : ℕ → ℕ)
      (m : Moment S) (w : World) : Type 0 where
    pub boxes : Boxes S Pushed Replied
    pub told : m.seen.boxes ≡ Some boxes
    pub batches : w.batches ≡ m.server.joined.list
    pub at : IsAt c run (mail_with c boxes held m.seen.taken) w
    pub stays : Stays c start boxes taken m.seen.taken

  module _ (c : ℕ) (run : Ran) (held : Option Pushed) (start : Boxes S Pushed Replied) (taken : ℕ → ℕ) (mine : SentBy c run) where
    abbrev taken_by : Pushed → Moment S → Moment S
    taken_by push m = record { server = after_push push m.server; seen = m.seen }

    -- a push is taken
    joined_between : (push : Pushed) (m : Moment S) (w : World) → IsOf c run push → Between c run held start taken m w
        → Between c run held start taken (taken_by push m) (joined c push.batch.round w)
    joined_between push m w of h =
        let v = joined c push.batch.round w in
        let tails : (w.client c).tail ≡ tail_of run.stands = ap (λ (x : Client). x.tail) h.at.part in
        let own : own_batches c w.batches (w.client c).tail ≡ run.stands.own.list =
        ap (λ (t : Tail). own_batches c w.batches t) tails ∙ h.at.behind.own in
        let joins : Joins c run.stands.sent w.batches v.batches =
        subst (λ (t : Tail). Joins c t.sent w.batches v.batches) tails (joins_joined c push.batch.round w) in
        record {
          boxes = h.boxes;
          told = h.told;
          batches = one_record c push m.server w run.stands.own.list of.client h.batches own of.among;
          at = record {
            part = h.at.part;
            behind = behind_longer c c run.stands.sent w.batches v.batches run (mail_with c h.boxes held m.seen.taken) mine joins
                (λ e. refl) h.at.behind;
          };
          stays = h.stays;
        }

    -- its reply is put in
    put_between : (push : Pushed) (server : Serving) (old new : Seen S Pushed Replied) (w : World) (reply : Replied)
        (result : Result (Option Replied) (Busy (Option Replied)))
        → Answers push.batch.client push.batch.round server reply → PutsIn c reply result old new
        → Between c run held start taken (record { server = server; seen = old }) w
        → Between c run held start taken (record { server = server; seen = new })
        (put_in c (Some (record { round = push.batch.round; base = length w.batches })) w)
    put_between push server old new w reply result answers put h =
        let p = is_put c reply result old new h.boxes put h.told in
        let r : Reply = record { round = push.batch.round; base = length w.batches } in
        let v = put_in c (Some r) w in
        let list : reply.past.list ≡ w.batches = ap (λ f. f.list) answers.past ∙ sym h.batches in
        let told : r ≡ reply_of reply =
        ap (λ (n : ℕ). let q : Reply = record { round = n; base = length w.batches } in q) (sym answers.number)
        ∙ ap (λ (l : List Batch). let q : Reply = record { round = reply.round; base = length l } in q) (sym list) in
        let mail = mail_as (h.boxes.outbox c) (Some reply) held (old.taken c) in
        let outbox : p.boxes'.outbox c ≡ h.boxes.outbox c = ap (λ (f : ℕ → Option Pushed). f c) p.outbox in
        let same : mail ≡ mail_with c p.boxes' held new.taken =
        ap (λ (o : Option Pushed). mail_as o (Some reply) held (old.taken c)) (sym outbox)
        ∙ ap (λ (i : Option Replied). mail_as (p.boxes'.outbox c) i held (old.taken c)) (sym p.inbox)
        ∙ ap (λ (n : ℕ). mail_as (p.boxes'.outbox c) (p.boxes'.inbox c) held n) (sym (p.stays.rounds c)) in
        let at : IsAt c run mail v = record {
          part = client-here c (record (w.client c) { inbox = Some r }) w
              ∙ ap (λ (x : Client). record x { inbox = Some r }) h.at.part
              ∙ ap (λ (q : Reply). record (part_of run mail) { inbox = Some q }) told;
          behind = record {
            client = h.at.behind.client;
            past = h.at.behind.past;
            own = h.at.behind.own;
            reply = h.at.behind.reply;
            out = h.at.behind.out;
            held = h.at.behind.held;
            inbox = λ (other : Replied) e.
                let it : reply ≡ other = cc (e) in
                let front : IsPrefix reply.past.list w.batches =
                subst (λ (l : List Batch). IsPrefix reply.past.list l) list (prefix_refl reply.past.list) in
                subst (λ (x : Replied). IsPrefix x.past.list w.batches) it front;
          };
        } in
        record {
          boxes = p.boxes';
          told = p.told;
          batches = h.batches;
          at = subst (λ (m : Mail). IsAt c run m v) same at;
          stays = stays_then c start h.boxes p.boxes' taken old.taken new.taken h.stays p.stays;
        }

    -- a push passes
    pub passes_between : (push : Pushed) (old new : Moment S) (w : World) → IsOf c run push → Passes c push old new
        → Between c run held start taken old w → Between c run held start taken new (passes c push.batch.round w)
    passes_between push old new w of passed h =
        let round = push.batch.round in
        let v = joined c round w in
        let last : last_of push old.server ≡ last_round c w.batches =
        ap (λ (k : ℕ). last_round k old.server.joined.list) of.client ∙ ap (λ (l : List Batch). last_round c l) (sym h.batches) in
        let At : Moment S → World → Type 0 = Between c run held start taken in
        let j : At (record { server = new.server; seen = old.seen }) v =
        subst (λ (s : Serving). At (record { server = s; seen = old.seen }) v) (sym passed.taken)
        (joined_between push old w of h) in
        let r : Reply = record { round = round; base = length v.batches } in
        let made : Bool → World = λ late. put_in c (if late then None else Some r) v in
        elim (cases_lt round (last_round c w.batches)) [
          | inl late ↦
              subst (λ (t : Bool). At new (made t)) (sym (lt-ltb round (last_round c w.batches) late))
              (subst (λ (q : Seen S Pushed Replied). At (record { server = new.server; seen = q }) v)
              (sym (passed.late (omega arith))) j)
          | inr next ↦
              let a = passed.answered (omega arith) in
              subst (λ (t : Bool). At new (made t)) (sym (le-ltb round (last_round c w.batches) next))
              (put_between push new.server old.seen new.seen v a.reply a.result a.answers a.put j)
        ]

    pub fares_between : (fate : Fate) (push : Pushed) (old new : Moment S) (w : World) → IsOf c run push
        → Fares fate c push old new → Between c run held start taken old w
        → Between c run held start taken new (fares fate c push.batch.round w)
    fares_between fate.Pass push old new w of fared h = passes_between push old new w of fared h
    fares_between fate.LosePush push old new w of fared h =
        subst (λ (m : Moment S). Between c run held start taken m w) (sym fared) h
    fares_between fate.LoseReply push old new w of fared h =
        subst (λ (m : Moment S). Between c run held start taken m (joined c push.batch.round w)) (sym fared)
        (joined_between push old w of h)
    fares_between fate.Twice push old new w of fared h =
        passes_between push fared.0 new (passes c push.batch.round w) of fared.2 (passes_between push old fared.0 w of fared.1 h)
    fares_between fate.Hold push old new w of fared h = passes_between push old new w of fared h

    pub releases_between : (copy : Option Pushed) (old new : Moment S) (w : World) → ForSome copy (IsOf c run)
        → Releases c copy old new → Between c run held start taken old w
        → Between c run held start taken new (releases c (option_map round_of copy) w)
    releases_between None old new w of freed h = subst (λ (m : Moment S). Between c run held start taken m w) (sym freed) h
    releases_between (Some push) old new w of freed h = passes_between push old new w (of push refl) freed h
