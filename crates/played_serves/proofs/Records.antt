-- A record that gets a client's outstanding batch.
use Rattle.std.proofs.Common.{◌≡◌, refl, ap, sym, ◌∙◌, ℕ, zero, suc, ◌+◌, Bool, true, false, cond, inl, inr, arith}
use Rattle.std.proofs.Common.{List, [], ◌∷◌, ◌++◌, length, Option, Some, None, append-nil}
use Rattle.std.specs.Prelude.{◌==◌, if◌then◌else◌, slice_get}
use Rattle.std.specs.Option.{ForSome}
use Rattle.std.proofs.lemmas.Bool.{cases_eq, eq-eqb, ne_eqb}
use mathlib.Core.List.{IsPrefix}
use Rattle.cloud_base.specs.declared.batch.Batch.{Batch}
use Rattle.cloud_base.specs.declared.batch.Tail.{Tail}
use Rattle.batch_history.specs.Batches.{of_client, unjoined}
use Rattle.packet_codec.specs.Pushes.{Pushed}
use Rattle.packet_codec.specs.Replies.{Replied}
use Rattle.session_core.specs.Standings.{tail_of}
use Rattle.server_core.specs.Servers.{Serving, after_push, joined_with, last_of}
use Rattle.typed_program.proofs.Orderly.{prefix_trans}
use Rattle.client_runner.specs.Steps.{Ran}
use Rattle.played_record.specs.Clients.{own_batches}
use Rattle.played_record.specs.Worlds.{World, joined, last_round}
use Rattle.played_record.specs.Laws.{Joins}
use Rattle.played_record.proofs.Serving.{own_longer}
use Rattle.played_moments.specs.Moments.{Mail, IsAmong, IsClientAt}

-- ---- the push's batch is the outstanding one

at_behind : (own more : List Batch) (n : ℕ) (b : Batch) → length own ≡ n
    → slice_get (own ++ more) n ≡ Some b → slice_get more 0 ≡ Some b
at_behind [] more zero b e is = is
at_behind [] more (suc n) b e is = absurd (omega arith)
at_behind (x ∷ own) more zero b e is = absurd (omega arith)
at_behind (x ∷ own) more (suc n) b e is = at_behind own more n b (omega arith) is

by_test : (t : Bool) (s b : Batch) → slice_get (cond t (s ∷ []) []) 0 ≡ Some b → cond t (s ∷ []) [] ≡ b ∷ []
by_test true s b is = let same : s ≡ b = cc (is) in ap (λ (x : Batch). x ∷ []) same
by_test false s b is = absurd (cc (is))

the_unjoined : (own : List Batch) (sent : Option Batch) (b : Batch) → slice_get (unjoined own sent) 0 ≡ Some b
    → unjoined own sent ≡ b ∷ []
the_unjoined own None b is = absurd (cc (is))
the_unjoined own (Some s) b is = by_test (s.round == length own + 1) s b is

-- a push of the next round is of the batch that isn't joined
is_unjoined : (c : ℕ) (batches own : List Batch) (tail : Tail) (push : Pushed) → own_batches c batches tail ≡ own
    → IsAmong own push → push.batch.round ≡ last_round c batches + 1 → unjoined (of_client c batches) tail.sent ≡ push.batch ∷ []
is_unjoined c batches own tail push same among next =
    let round = among.round in
    let there : length (of_client c batches) ≡ among.before = omega arith in
    the_unjoined (of_client c batches) tail.sent push.batch
    (at_behind (of_client c batches) (unjoined (of_client c batches) tail.sent) among.before push.batch there
    (ap (λ (l : List Batch). slice_get l among.before) same ∙ among.is))

-- ---- both records

-- the server and the played run join the same
pub one_record : (c : ℕ) (push : Pushed) (server : Serving) (w : World) (own : List Batch)
    → push.batch.client ≡ c → w.batches ≡ server.joined.list → own_batches c w.batches (w.client c).tail ≡ own → IsAmong own push
    → (joined c push.batch.round w).batches ≡ (after_push push server).joined.list
one_record c push server w own client batches same among =
    let round = push.batch.round in
    let more = unjoined (of_client c w.batches) (w.client c).tail.sent in
    let last : last_of push server ≡ last_round c w.batches =
    ap (λ (k : ℕ). last_round k server.joined.list) client ∙ ap (λ (l : List Batch). last_round c l) (sym batches) in
    let here : Bool → List Batch = λ t. if t then w.batches ++ more else w.batches in
    let there : Bool → List Batch = λ t. (if t then joined_with push server else server).joined.list in
    elim (cases_eq round (last_round c w.batches + 1)) [
      | inl next ↦
          ap here (eq-eqb round (last_round c w.batches + 1) next)
          ∙ ap (λ (l : List Batch). w.batches ++ l) (is_unjoined c w.batches own (w.client c).tail push same among next)
          ∙ ap (λ (l : List Batch). l ++ push.batch ∷ []) batches
          ∙ sym (ap there (eq-eqb round (last_of push server + 1) (omega arith)))
      | inr other ↦
          ap here (ne_eqb round (last_round c w.batches + 1) other)
          ∙ batches
          ∙ sym (ap there (ne_eqb round (last_of push server + 1) (λ e. other (omega arith))))
    ]

pub joins_joined : (c round : ℕ) (w : World) → Joins c (w.client c).tail.sent w.batches (joined c round w).batches
joins_joined c round w =
    let more = unjoined (of_client c w.batches) (w.client c).tail.sent in
    let made : Bool → List Batch = λ t. if t then w.batches ++ more else w.batches in
    elim (round == last_round c w.batches + 1) as (λ t. Joins c (w.client c).tail.sent w.batches (made t)) [
      | true ↦ inr refl
      | false ↦ inl refl
    ]

-- ---- a client behind a longer record

grows : (c : ℕ) (sent : Option Batch) (xs ys : List Batch) → Joins c sent xs ys → IsPrefix xs ys
grows c sent xs ys (inl same) = ([], append-nil xs ∙ sym same)
grows c sent xs ys (inr more) = (unjoined (of_client c xs) sent, sym more)

pub behind_longer : (c k : ℕ) (sent : Option Batch) (batches batches' : List Batch) (run : Ran) (mail : Mail)
    → ForSome sent (λ (b : Batch). b.client ≡ c) → Joins c sent batches batches' → (k ≡ c → run.stands.sent ≡ sent)
    → IsClientAt k batches run mail → IsClientAt k batches' run mail
behind_longer c k sent batches batches' run mail mine joins here h =
    let longer = grows c sent batches batches' joins in
    record {
      client = h.client;
      past = prefix_trans run.stands.past.list batches batches' h.past longer;
      own = own_longer c sent batches batches' mine joins k (tail_of run.stands) here ∙ h.own;
      reply = h.reply;
      out = h.out;
      held = h.held;
      inbox = λ (reply : Replied) e. prefix_trans reply.past.list batches batches' (h.inbox reply e) longer;
    }
