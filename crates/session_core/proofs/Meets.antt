-- The fields of a session where it meets the server.
use Rattle.std.proofs.Common.{◌≡◌, refl, sym, ◌∙◌, ap, subst, List, [], ◌∷◌, ◌++◌, length, Some, None, Option, append-nil, map}
use Rattle.std.specs.Prelude.{is_some, true, false, ◌+◌, ℕ, Result, Ok, Err, IfOk}
use Rattle.std.specs.Arc.{arc_value}
use Rattle.atomic_table.specs.Seated.{TableId}
use Rattle.std.specs.Option.{ForSome, option_map}
use Rattle.std.proofs.lemmas.List.{length-append}
use mathlib.Core.List.{IsPrefix}
use Rattle.cloud_base.specs.Alike.{IsPart}
use Rattle.cloud_base.specs.Events.{EndsAtMark}
use Rattle.cloud_base.specs.Shaped.{Fit}
use Rattle.cloud_base.specs.declared.batch.Batch.{Batch}
use Rattle.cloud_base.specs.declared.schema.Schema.{Schema}
use Rattle.cloud_base.specs.declared.update.Event.{Event}
use Rattle.cloud_base.specs.declared.update.Update.{Update}
use Rattle.batch_history.specs.Batches.{updates_in, flat, stretch_of}
use Rattle.batch_history.specs.Flushed.{FlushedStretches}
use Rattle.batch_joins.specs.Joins.{all_updates}
use Rattle.change_lists.specs.Effects.{IsEffect}
use Rattle.change_lists.specs.Lists.{ChangeLists}
use Rattle.front_table.specs.TokenView.{TokenView}
use Rattle.packet_codec.specs.Pushes.{IsPush, IsPushWire}
use Rattle.packet_codec.specs.Replies.{Replied}
use Rattle.schema_fj.specs.Held.{Held}
use Rattle.schema_fj.specs.States.{StateStands}
use Rattle.session_core.specs.declared.flushing.Flushing.{Flushing}
use Rattle.session_core.specs.declared.flushing.Flushing.TheVariants.{Closed, Marked, Sent}
use Rattle.session_core.specs.declared.inbox.Ready.{Ready}
use Rattle.session_core.specs.declared.session.Outstanding.{Outstanding}
use Rattle.session_core.specs.declared.running.Running.{Running}
use Rattle.session_core.specs.declared.session.Session.TheInside.{Inside}
use Rattle.session_core.specs.Standings.{Standing, IsRunning, IsStanding, IsFlushing, IsKeptReply, seen_first, updates_now, updates_sent, met}
use Rattle.session_core.specs.Sessions.{MayBegin, next_batch, begun, took, flush_after_pull, flush_after_push}
use Rattle.session_core.specs.Meetings.{IsReady, IsRejoined, OfOneList}
use Rattle.session_core.specs.Insides.{stands_in, StandsFor, IsSession}
use Rattle.session_core.proofs.Begins.{standing_begun}
use Rattle.session_core.proofs.Takes.{Meets, standing_took, longer, holds, own_same, seen_part, joined_now, served}

for_some : {T : Type 0} (P : T → Type 0) (x : T) → P x → ForSome (Some x) P
for_some P x h y k = let same : x ≡ y = cc in subst P same h

pub if_ok : {T E : Type 0} (P Q : T → Type 0) (r : Result T E) → ((x : T) → P x → Q x) → IfOk r P → IfOk r Q
if_ok P Q (Ok x) f h = f x h
if_ok P Q (Err e) f h = h

pub none_of : (o : Option Batch) → is_some o ≡ false → o ≡ None
none_of None h = refl
none_of (Some b) h = cc

-- ---- a reply that is kept

module _ (s : Standing) (reply : Option Replied) (kept : ForSome reply (IsKeptReply s.schema s.client s.past s.own s.sent)) where
  abbrev keeping : Standing
  keeping = record s { reply = reply }

  running_keeping : IsRunning s → IsRunning keeping
  running_keeping h = record {
    client = h.client;
    served = h.served;
    own = h.own;
    sent = h.sent;
    opens = h.opens;
    before = h.before;
    right_before = h.right_before;
    right_rest = h.right_rest;
    shaped = h.shaped;
    mine = h.mine;
    once = h.once;
    few = h.few;
    rounds = h.rounds;
    reply = kept;
  }

  flushing_keeping : (f : Flushing) → IsFlushing s f → IsFlushing keeping f
  flushing_keeping Closed h = tt
  flushing_keeping Marked h = h
  flushing_keeping Sent h = record { batch = h.batch; sent = h.sent; marked = h.marked; before = h.before; rest = h.rest }

  flushed_keeping : (f : Flushing) → FlushedStretches (map stretch_of s.own.list ++ met s f) → FlushedStretches (map stretch_of s.own.list ++ met keeping f)
  flushed_keeping Closed h = h
  flushed_keeping Marked h = h
  flushed_keeping Sent h = h

  pub standing_keeping : IsStanding s → IsStanding keeping
  standing_keeping h = record { running = running_keeping h.running; flush = flushing_keeping s.flush h.flush; flushed = flushed_keeping s.flush h.flushed }

pub session_keeping : (a : Inside) (reply : Option Replied) → IsSession a → ForSome reply (IsKeptReply (stands_in a).schema (stands_in a).client (stands_in a).past (stands_in a).own (stands_in a).sent) → IsSession (record a { reply = reply })
session_keeping a reply h kept = record {
  standing = standing_keeping (stands_in a) reply kept h.standing;
  state = h.state;
  wire = h.wire;
  rounds = h.rounds;
}

pub session_kept : (a : Inside) (reply : Replied) → IsSession a → IsKeptReply (stands_in a).schema (stands_in a).client (stands_in a).past (stands_in a).own (stands_in a).sent reply → IsSession (record a { reply = Some reply })
session_kept a reply h kept =
    let s = stands_in a in
    session_keeping a (Some reply) h (for_some (IsKeptReply s.schema s.client s.past s.own s.sent) reply kept)

pub session_unkept : (a : Inside) → IsSession a → IsSession (record a { reply = None })
session_unkept a h = session_keeping a None h (λ x k. cc)

-- second fronts were taken of its tokens
pub session_same : (a : Inside) (past own : TokenView Batch) → past ≡ a.past → own ≡ a.own → IsSession a → IsSession (record a { past = past; own = own })
session_same a past own past_is own_is h =
    subst (λ (p : TokenView Batch). IsSession (record a { past = p; own = own })) (sym past_is) (subst (λ (o : TokenView Batch). IsSession (record a { own = o })) (sym own_is) h)

-- ---- a reply that is joined

-- a push is outstanding, or not
is_outstanding : (o : Option Batch) → is_some o ≡ true → (b : Batch) × (o ≡ Some b)
is_outstanding None h = cc
is_outstanding (Some b) h = (b, refl)

pub sent_of : (s : Standing) (reply : Replied) → IsKeptReply s.schema s.client s.past s.own s.sent reply → (b : Batch) × (s.sent ≡ Some b)
sent_of s reply kept = is_outstanding s.sent kept.waits

took_standing : (s : Standing) (ready : Ready) → IsStanding s → EndsAtMark s.before → IsReady s ready → IsStanding (took ready.reply.past s)
took_standing s ready h marked is =
    let out = sent_of s ready.reply is.kept in
    standing_took s h out.0 out.1 ready.reply is.kept is.rejoined.longer is.rejoined.holds marked

took_state : (s : Standing) (ready : Ready) → IsReady s ready → StandsFor (took ready.reply.past s) ready.state
took_state s ready is = subst (λ (l : List Update). StateStands s.schema ready.state l (updates_now s)) (sym (append-nil (all_updates ready.reply.past.list))) is.rejoined.state_is

pub session_took : (a : Inside) (ready : Ready) (past : TokenView Batch) (flush : Flushing) → IsSession a → EndsAtMark (stands_in a).before → IsReady (stands_in a) ready → past ≡ ready.reply.past → flush ≡ flush_after_pull a.flush → IsSession (record a { past = past; state = ready.state; sent = None; reply = None; flush = flush })
session_took a ready past flush h marked is past_is flush_is =
    let s = stands_in a in
    let same : record (took past s) { flush = flush } ≡ took ready.reply.past s =
    ap (λ (f : Flushing). record (took past s) { flush = f }) flush_is ∙ ap (λ (p : TokenView Batch). took p s) past_is in
    record {
      standing = subst IsStanding (sym same) (took_standing s ready h.standing marked is);
      state = subst (λ (x : Standing). StandsFor x ready.state) (sym same) (took_state s ready is);
      wire = λ x k. cc;
      rounds = h.rounds;
    }

-- what `rejoined` makes of a reply and a state
abbrev pub GoesOn : Schema → List Batch → Held → Held → Type 0
GoesOn schema past state next = (before after : List Update) → Fit schema (all_updates past) → StateStands schema state before after → IsPart before (all_updates past) → Fit schema (all_updates past ++ after) → StateStands schema next (all_updates past) after

rejoined_at : (s : Standing) (reply : Replied) (state next : Held) (b : Batch) → IsRunning s → s.sent ≡ Some b → IsKeptReply s.schema s.client s.past s.own s.sent reply → Meets s reply → StandsFor s state → GoesOn s.schema reply.past.list state next → IsRejoined s reply next
rejoined_at s reply state next b h is kept meets stands goes = record {
  state_is = goes (seen_first s) (updates_now s) (served s h b is reply kept).fits stands (seen_part s h b is reply kept meets) (joined_now s h b is reply kept meets);
  longer = longer s h b is reply kept meets;
  holds = holds s h b is reply kept meets;
  own = own_same s h b is reply kept meets;
}

pub rejoined_of : (a : Inside) (reply : Replied) (past own : TokenView Batch) (next : Held) → IsSession a → IsKeptReply (stands_in a).schema (stands_in a).client (stands_in a).past (stands_in a).own (stands_in a).sent reply → past ≡ reply.past → own ≡ reply.own → IsPrefix own.list a.own.list → OfOneList a.past.list past.list → GoesOn (arc_value a.schema) reply.past.list a.state next → IsRejoined (stands_in a) reply next
rejoined_of a reply past own next h kept past_is own_is mine one goes =
    let s = stands_in a in
    let out = sent_of s reply kept in
    rejoined_at s reply a.state next out.0 h.standing.running out.1 kept
    (record {
      own = subst (λ (t : TokenView Batch). IsPrefix t.list a.own.list) own_is mine;
      whole = one.whole;
      past = one.first;
      theirs = subst (λ (t : TokenView Batch). IsPrefix t.list one.whole) past_is one.second;
    })
    h.state goes

-- ---- a round that becomes outstanding

-- what was put into the fields
pub record Begins (a : Inside) (own : TokenView Batch) (batch : Batch) (running : Running) (flush : Flushing) : Type 0 where
  pub batch_is : batch ≡ next_batch (stands_in a)
  pub list : own.list ≡ a.own.list ++ batch ∷ []
  pub chronicle : own.chronicle ≡ a.own.chronicle
  pub before : running.before.list ≡ []
  pub rest : running.rest.list ≡ []
  pub flush_is : flush ≡ flush_after_push a.flush

abbrev beginning : Standing → TokenView Batch → Batch → List Event → List Event → Flushing → Standing
beginning s own batch before rest flush = record s { own = own; sent = Some batch; before = before; rest = rest; flush = flush }

abbrev token : TableId → List Batch → TokenView Batch
token chronicle list = record { chronicle = chronicle; list = list }

begun_same : (a : Inside) (own : TokenView Batch) (batch : Batch) (running : Running) (flush : Flushing) → Begins a own batch running flush → beginning (stands_in a) own batch running.before.list running.rest.list flush ≡ begun (stands_in a)
begun_same a own batch running flush is =
    let s = stands_in a in
    let b = next_batch s in
    let own_is : own ≡ token a.own.chronicle (a.own.list ++ b ∷ []) =
    ap (λ (c : TableId). token c own.list) is.chronicle
    ∙ ap (token a.own.chronicle) (is.list ∙ ap (λ (x : Batch). a.own.list ++ x ∷ []) is.batch_is) in
    ap (λ (o : TokenView Batch). beginning s o batch running.before.list running.rest.list flush) own_is
    ∙ ap (λ (x : Batch). beginning s (token a.own.chronicle (a.own.list ++ b ∷ [])) x running.before.list running.rest.list flush) is.batch_is
    ∙ ap (λ (l : List Event). beginning s (token a.own.chronicle (a.own.list ++ b ∷ [])) b l running.rest.list flush) is.before
    ∙ ap (λ (l : List Event). beginning s (token a.own.chronicle (a.own.list ++ b ∷ [])) b [] l flush) is.rest
    ∙ ap (λ (f : Flushing). beginning s (token a.own.chronicle (a.own.list ++ b ∷ [])) b [] [] f) is.flush_is

pub session_begun : (a : Inside) (own : TokenView Batch) (batch : Batch) (running : Running) (flush : Flushing) (wire : List ℕ) (state : Held) (rounds : ℕ) → Begins a own batch running flush → IsSession a → (stands_in a).sent ≡ None → MayBegin (stands_in a) → IsPushWire (stands_in a).schema (stands_in a).past.list (next_batch (stands_in a)) wire → StandsFor (begun (stands_in a)) state → rounds ≡ a.rounds + 1 → IsSession (record a { own = own; rounds = rounds; state = state; sent = Some (record { wire = wire; batch = batch }); running = running; flush = flush })
session_begun a own batch running flush wire state rounds is h none may spelled stands count =
    let s = stands_in a in
    let same = begun_same a own batch running flush is in
    record {
      standing = subst IsStanding (sym same) (standing_begun s h.standing none may);
      state = subst (λ (x : Standing). StandsFor x state) (sym same) stands;
      wire = λ x k. wire_of x (subst (λ (b : Batch). IsPushWire (arc_value a.schema) a.past.list b wire) (sym is.batch_is) spelled) k;
      rounds = count ∙ ap (λ (n : ℕ). n + 1) h.rounds ∙ sym (ap length is.list ∙ length-append a.own.list (batch ∷ []));
    }
  where
    wire_of : (x : Outstanding) → IsPushWire (arc_value a.schema) a.past.list batch wire → Some (record { wire = wire; batch = batch }) ≡ Some x → IsPushWire (arc_value a.schema) a.past.list x.batch x.wire
    wire_of x fact k = let e : record { wire = wire; batch = batch } ≡ x = cc in subst (λ (y : Outstanding). IsPushWire (arc_value a.schema) a.past.list y.batch y.wire) e fact

-- ---- what the next push says

pub push_effect : (s : Standing) (change : ChangeLists) → s.sent ≡ None → IsEffect s.schema (seen_first s) (updates_now s) change → IsEffect s.schema (flat s.past.list (length s.past.list)) (updates_in (next_batch s)) change
push_effect s change none effect =
    subst (λ (l : List Update). IsEffect s.schema l (updates_now s) change) (ap (λ (o : Option Batch). all_updates s.past.list ++ updates_sent o) none ∙ append-nil (all_updates s.past.list)) effect

pub begun_state : (s : Standing) (state : Held) → s.sent ≡ None → StateStands s.schema state (seen_first s ++ updates_now s) [] → StandsFor (begun s) state
begun_state s state none stands =
    subst (λ (l : List Update). StateStands s.schema state (l ++ updates_now s) []) (ap (λ (o : Option Batch). all_updates s.past.list ++ updates_sent o) none ∙ append-nil (all_updates s.past.list)) stands

-- ---- a copy of the push

pub outgoing_push : (a : Inside) (x y : Outstanding) (schema : Schema) (past own : TokenView Batch) → IsSession a → a.sent ≡ Some x → schema ≡ arc_value a.schema → y ≡ x → past ≡ a.past → own ≡ a.own → IsPush (record { schema = schema; wire = y.wire; batch = y.batch; past = past; own = own })
outgoing_push a x y schema past own h is schema_is y_is past_is own_is =
    let kept : IsPush (record { schema = arc_value a.schema; wire = x.wire; batch = x.batch; past = a.past; own = a.own }) = record {
      may = (h.standing.running.sent x.batch (ap (option_map (λ (z : Outstanding). z.batch)) is)).may;
      bytes = h.wire x is;
    } in
    subst (λ (z : Schema). IsPush (record { schema = z; wire = y.wire; batch = y.batch; past = past; own = own })) (sym schema_is)
    (subst (λ (z : Outstanding). IsPush (record { schema = arc_value a.schema; wire = z.wire; batch = z.batch; past = past; own = own })) (sym y_is)
    (subst (λ (t : TokenView Batch). IsPush (record { schema = arc_value a.schema; wire = x.wire; batch = x.batch; past = t; own = own })) (sym past_is)
    (subst (λ (t : TokenView Batch). IsPush (record { schema = arc_value a.schema; wire = x.wire; batch = x.batch; past = a.past; own = t })) (sym own_is) kept)))
