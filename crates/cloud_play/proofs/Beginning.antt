-- Where the run of a program begins.
use Rattle.std.proofs.Common.{◌≡◌, refl, sym, ap, ◌∙◌, subst, arith}
use Rattle.std.specs.Prelude.{ℕ, zero, suc, ◌+◌, ◌<◌, List, [], ◌∷◌, ◌++◌, length, replicate, Option, Some, None, slice_get, slice_index_or}
use Rattle.std.proofs.lemmas.List.{length-map, length-replicate}
use Rattle.cloud_base.specs.declared.batch.Batch.{Batch}
use Rattle.cloud_base.specs.declared.schema.Schema.{Schema}
use Rattle.front_table.specs.TokenView.{TokenView}
use Rattle.typed_program.specs.declared.program.Parts.{Parts}
use Rattle.plain_vm.specs.Code.{CodeOf}
use Rattle.code_gen.specs.Compiled.{Compiled}
use Rattle.slot_hub.specs.Plain.{Held, boxes_of, seen_of}
use Rattle.slot_hub.specs.Runs.{Named, clients_of}
use Rattle.packet_codec.specs.Pushes.{Pushed}
use Rattle.packet_codec.specs.Replies.{Replied}
use Rattle.session_core.specs.Standings.{Standing, is_of_run}
use Rattle.session_core.specs.Sessions.{IsOpened}
use Rattle.server_core.specs.Servers.{IsServerOf, IsServing, Serving, own_front}
use Rattle.server_core.specs.Stations.{Holding, IsHolding, IsHoldingOf}
use Rattle.client_runner.specs.Steps.{IsRan, Ran}
use Rattle.played_record.specs.Laws.{IsMoment}
use Rattle.played_record.specs.Programs.{trace_of}
use Rattle.played_record.specs.Worlds.{opening}
use Rattle.played_bounds.specs.Few.{HasFewRounds}
use Rattle.played_moments.specs.Moments.{IsAt, Mail, mail_of}
use Rattle.cloud_play.specs.Openings.{IsBegun, IsOpenedAs}
use Rattle.cloud_play.specs.Playings.{Plays, named_of}
use Rattle.cloud_play.proofs.Answered.{none_yet}
use Rattle.cloud_play.proofs.Lists.{in_range, is_there, mapped_there, one_longer}

-- a list of n things, each of which has what is said of its place
pub record IsEach {A : Type 0} (P : ℕ → A → Type 0) (n : ℕ) (xs : List A) : Type 0 where
  pub count : length xs ≡ n
  pub each : (c : ℕ) (x : A) → slice_get xs c ≡ Some x → P c x

each_more : {A : Type 0} (P : ℕ → A → Type 0) (xs : List A) (x : A) → ((c : ℕ) (y : A) → slice_get xs c ≡ Some y → P c y) → P (length xs) x
    → (c : ℕ) (y : A) → slice_get (xs ++ x ∷ []) c ≡ Some y → P c y
each_more P [] x each last zero y e =
    let same : Some x ≡ Some y = e in
    let is : x ≡ y = cc same in
    subst (P 0) is last
each_more P [] x each last (suc c) y e = absurd (cc e)
each_more P (z ∷ zs) x each last zero y e = each 0 y e
each_more P (z ∷ zs) x each last (suc c) y e = each_more (λ k a. P (suc k) a) zs x (λ k a is. each (suc k) a is) last c y e

pub none_each : {A : Type 0} (P : ℕ → A → Type 0) (xs : List A) → xs ≡ [] → IsEach P 0 xs
none_each P xs e = subst (IsEach P 0) (sym e) (record { count = refl; each = λ c x is. absurd (cc is) })

pub one_each : {A : Type 0} (P : ℕ → A → Type 0) (n : ℕ) (xs ys : List A) (x : A) → IsEach P n xs → P n x → ys ≡ xs ++ x ∷ [] → IsEach P (n + 1) ys
one_each P n xs ys x h last e = subst (IsEach P (n + 1)) (sym e) (record {
  count = one_longer xs x ∙ ap (λ (m : ℕ). m + 1) h.count;
  each = each_more P xs x h.each (subst (λ (m : ℕ). P m x) (sym h.count) last);
})

-- a place of a list of one thing holds that thing
pub all_one : {A : Type 0} (n k : ℕ) (x : A) → slice_index_or (replicate n x) k x ≡ x
all_one zero k x = refl
all_one (suc n) zero x = refl
all_one (suc n) (suc k) x = all_one n k x

one_more : (n : ℕ) → suc n ≡ n + 1
one_more n = omega arith

-- a runner over a session that was just opened
pub opened_as : (code : CodeOf) (schema : Schema) (c : ℕ) (front past : TokenView Batch) (s : Standing) (run : Ran) → code.schema ≡ schema → past ≡ front → IsOpened schema c past s
    → run.code ≡ code → run.stands ≡ s → run.ended ≡ None → IsRan run → IsOpenedAs code c front run
opened_as code schema c front past s run of same h code_is stands ended ran = record {
  code_is = code_is;
  opened = subst (IsOpened code.schema c front) (sym stands)
      (subst (λ (x : TokenView Batch). IsOpened code.schema c x s) same (subst (λ (x : Schema). IsOpened x c past s) (sym of) h));
  ended = ended;
  ran = ran;
}

-- the runner of a place is over the code of that place
abbrev pub IsOpenedFor : List CodeOf → TokenView Batch → ℕ → Ran → Type 0
IsOpenedFor codes front c run = (code : CodeOf) → slice_get codes c ≡ Some code → IsOpenedAs code c front run

-- nothing is on its way to or from a client
abbrev no_mail : Mail
no_mail = record { out = None; inbox = None; held = None; taken = 0 }

empty_mail : {S : Type 0} (n m c : ℕ) (held : Held S Pushed Replied) (holding : Holding) → held.outboxes ≡ replicate n None → held.inboxes ≡ replicate n None → held.rounds ≡ replicate n 0
    → holding.held ≡ replicate m None → mail_of c (boxes_of held) holding (λ k. slice_index_or held.rounds k 0) ≡ no_mail
empty_mail n m c held holding out into rounds kept =
    let no_out : slice_index_or held.outboxes c None ≡ None = ap (λ (l : List (Option Pushed)). slice_index_or l c None) out ∙ all_one n c None in
    let no_inbox : slice_index_or held.inboxes c None ≡ None = ap (λ (l : List (Option Replied)). slice_index_or l c None) into ∙ all_one n c None in
    let no_round : slice_index_or held.rounds c 0 ≡ 0 = ap (λ (l : List ℕ). slice_index_or l c 0) rounds ∙ all_one n c 0 in
    let no_copy : slice_index_or holding.held c None ≡ None = ap (λ (l : List (Option Pushed)). slice_index_or l c None) kept ∙ all_one m c None in
    rw (no_out, no_inbox, no_copy, no_round)

module _ (p : Parts) (server : Serving) (runs : List Ran) (h : IsBegun p server runs) where
  -- each client has its code
  opened_at : (c : ℕ) (run : Ran) → slice_get runs c ≡ Some run → (code : CodeOf) × IsOpenedAs code c server.joined run × Compiled p c code
  opened_at c run is =
      let found = is_there h.codes c (subst (λ (n : ℕ). c < n) h.runners.count (in_range runs c run is)) in
      (found.0, h.runners.each c found.0 run found.1 is, h.of_program.each c found.0 found.1)

  pub as_many : length runs ≡ length p.names
  as_many = h.runners.count ∙ h.of_program.count

  pub clients_named : clients_of (named_of server runs) ≡ length p.names
  clients_named = length-map runs (λ (r : Ran). r.stands.own.chronicle) ∙ as_many

  -- each is of the run that is named after all
  client_of_run : (c : ℕ) (run : Ran) → slice_get runs c ≡ Some run → is_of_run run.stands (named_of server runs)
  client_of_run c run is =
      let at = opened_at c run is in
      let opened = at.1.opened in
      record {
        schema = opened.schema ∙ at.2.schema ∙ sym h.schema;
        server = ap (λ (f : TokenView Batch). Some f.chronicle) (sym opened.past);
        client = subst (λ (k : ℕ). slice_get (named_of server runs).tables k ≡ Some run.stands.own.chronicle) (one_more c ∙ ap (λ (k : ℕ). k + 1) (sym opened.client))
            (mapped_there (λ (r : Ran). r.stands.own.chronicle) runs c run is);
      }

  server_of_run : IsServerOf server (named_of server runs)
  server_of_run = record {
    schema = refl;
    joined = refl;
    clients = ap length h.owns ∙ length-replicate (length p.names) None ∙ sym clients_named;
    own = λ c front e. let none : own_front c server.owns ≡ None = ap (own_front c) h.owns ∙ all_one (length p.names) c None in absurd (cc (none, e));
  }

  module _ {S : Type 0} (name : Named) (holding : Holding) (held : Held S Pushed Replied) where
    -- where no box and no place of the station holds anything, a played run of the program begins
    pub begins : ((schema : Schema) (c : ℕ) (front : TokenView Batch) (run : Ran) → front.list ≡ [] → IsOpened schema c front run.stands → run.ended ≡ None → IsAt c run no_mail opening)
        → IsMoment (trace_of p) opening → HasFewRounds opening → name ≡ named_of server runs → holding.server ≡ server
        → ((run : Named) → IsServerOf server run → IsHoldingOf holding run) → IsServing holding.server → IsHolding holding
        → (n m : ℕ) → held.outboxes ≡ replicate n None → held.inboxes ≡ replicate n None → held.rounds ≡ replicate n 0 → holding.held ≡ replicate m None
        → Plays p runs holding (seen_of name held) opening
    begins begin moment few named is of serving holds n m out into rounds kept = record {
      program = h.program;
      at = record {
        boxes = boxes_of held;
        told = refl;
        batches = sym (ap (λ (s : Serving). s.joined.list) is ∙ h.none_joined);
        clients = λ c run at. let found = opened_at c run at in
            subst (λ (m : Mail). IsAt c run m opening) (sym (empty_mail n m c held holding out into rounds kept))
            (begin found.0.schema c server.joined run h.none_joined found.1.opened found.1.ended);
      };
      moment = moment;
      few = few;
      count = as_many;
      clients = ap clients_of named ∙ clients_named;
      each = λ c run at. let found = opened_at c run at in subst (Compiled p c) (sym found.1.code_is) found.2;
      answered = λ c run at. let found = opened_at c run at in none_yet p.schema found.0.schema c server.joined run.stands found.1.opened;
      ran = h.ran;
      of_run = λ c run at. subst (is_of_run run.stands) (sym named) (client_of_run c run at);
      server = of name (subst (IsServerOf server) (sym named) server_of_run);
      serving = serving;
      holds = holds;
    }
