-- What sessions leave that are over.
use Rattle.std.specs.Prelude.{◌≡◌, refl, ℕ, zero, suc, ◌<◌, List, [], ◌∷◌, length, Option, Some, None, slice_get}
use Rattle.std.specs.List.{AllByRecursion}
use Rattle.std.proofs.Common.{sym, ap, subst, ◌∙◌, lit<, lit≤}
use Rattle.std.proofs.lemmas.List.Elements.{All-nil}
use mathlib.Core.List.{IsPrefix}
use Rattle.cloud_base.specs.Shaped.{IsShaped}
use Rattle.cloud_base.specs.Values.{Id}
use Rattle.cloud_base.specs.declared.batch.Batch.{Batch}
use Rattle.cloud_base.specs.declared.batch.Tail.{Tail}
use Rattle.cloud_base.specs.declared.end.End.{End}
use Rattle.cloud_base.specs.declared.end.End.TheVariants.{Done}
use Rattle.cloud_base.specs.declared.schema.Schema.{Schema}
use Rattle.front_table.specs.TokenView.{TokenView}
use Rattle.slot_hub.specs.Runs.{nowhere}
use Rattle.packet_codec.specs.Served.{IsServed, example_nothing}
use Rattle.session_core.specs.declared.flushing.Flushing.TheVariants.{Closed}
use Rattle.session_core.specs.Standings.{Standing, IsStanding, base_now, tail_of}
use Rattle.played_record.specs.Clients.{own_batches}

-- a tail is that of a session of client c, whose batches are those of the record and the push that the record doesn't have, and no flush is open
pub record IsLeftBy (schema : Schema) (c : ℕ) (batches : List Batch) (tail : Tail) : Type 0 where
  pub stands : Standing
  pub standing : IsStanding stands
  pub of_schema : stands.schema ≡ schema
  pub client : stands.client ≡ c
  pub tail_is : tail ≡ tail_of stands
  -- it has seen a front of the record
  pub past : IsPrefix stands.past.list batches
  pub own : own_batches c batches tail ≡ stands.own.list
  pub closed : stands.flush ≡ Closed

-- a server's record, and what each client's session left
pub record AreLeft (schema : Schema) (batches : List Batch) (tails : List Tail) (ends : List End) : Type 0 where
  pub count : length ends ≡ length tails
  pub clients : AllByRecursion (λ (b : Batch). b.client < length tails) batches
  pub served : IsServed schema batches
  pub each : (c : ℕ) (tail : Tail) → slice_get tails c ≡ Some tail → IsLeftBy schema c batches tail

module _ where
  abbrev nothing : TokenView Batch
  nothing = record { chronicle = nowhere; list = [] }

  -- client 0 did nothing
  abbrev idle : Schema → Standing
  idle schema = record { schema = schema; client = 0; past = nothing; own = nothing; sent = None; before = []; rest = []; reply = None; flush = Closed }

  idle_stands : (schema : Schema) → IsStanding (idle schema)
  idle_stands schema = record {
    running = record {
      client = lit< tt;
      served = example_nothing schema;
      own = refl;
      sent = λ b k. cc;
      opens = λ k. (refl, refl);
      before = λ k. tt;
      right_before = tt;
      right_rest = tt;
      shaped = All-nil (IsShaped schema);
      mine = All-nil (λ (id : Id). id.client ≡ 0);
      once = tt;
      few = lit< tt;
      rounds = lit≤ tt;
      reply = λ x k. cc;
    };
    flush = tt;
    flushed = (tt, (λ k. absurd cc), tt);
  }

  -- alone it leaves a record of nothing
  pub example_idle : (schema : Schema) → AreLeft schema [] (tail_of (idle schema) ∷ []) (Done ∷ [])
  example_idle schema = record { count = refl; clients = tt; served = example_nothing schema; each = each_idle }
    where
      left : IsLeftBy schema 0 [] (tail_of (idle schema))
      left = record {
        stands = idle schema;
        standing = idle_stands schema;
        of_schema = refl;
        client = refl;
        tail_is = refl;
        past = ([], refl);
        own = refl;
        closed = refl;
      }

      each_idle : (c : ℕ) (tail : Tail) → slice_get (tail_of (idle schema) ∷ []) c ≡ Some tail → IsLeftBy schema c [] tail
      each_idle zero tail e = let same : tail_of (idle schema) ≡ tail = cc in subst (IsLeftBy schema 0 []) same left
      each_idle (suc c) tail e = absurd cc

  -- no session leaves a tail that waits for nothing
  pub example_waits_for_nothing : (schema : Schema) (c : ℕ) (batches : List Batch)
      → ¬ IsLeftBy schema c batches (record { sent = None; now = record { base = None; before = []; rest = [] } })
  example_waits_for_nothing schema c batches = λ l.
      let sent : None ≡ l.stands.sent = ap (λ (t : Tail). t.sent) l.tail_is in
      let base : None ≡ base_now l.stands.sent l.stands.past.list = ap (λ (t : Tail). t.now.base) l.tail_is in
      cc (base ∙ ap (λ (o : Option Batch). base_now o l.stands.past.list) (sym sent))
