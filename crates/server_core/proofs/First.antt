-- A first push, of a client that only yielded.
use Rattle.std.proofs.Common.{◌≡◌, ◌⊎◌, List, [], ◌∷◌, ◌++◌, refl, ap, sym, subst, ◌∙◌, inl, inr}
use Rattle.std.specs.Prelude.{Result, Ok, Err, OnOk, OnErr, true, false, ◌==◌, ◌+◌, ◌<◌, Some, if◌then◌else◌}
use Rattle.std.proofs.lemmas.List.{length-set}
use Rattle.std.proofs.lemmas.List.Elements.{All-nil}
use Rattle.cloud_base.specs.Shaped.{IsShaped}
use Rattle.cloud_base.specs.Values.{Id}
use Rattle.cloud_base.specs.declared.batch.Batch.{Batch}
use Rattle.cloud_base.specs.declared.schema.Schema.{Schema}
use Rattle.batch_history.specs.Batches.{of_client}
use Rattle.front_table.specs.TokenView.{TokenView}
use Rattle.packet_codec.specs.Pushes.{Pushed, IsNext, IsPush, IsPushWire, MayPush}
use Rattle.packet_codec.specs.Served.{IsServed, IsWithin}
use Rattle.server_core.specs.First.{first_batch}
use Rattle.server_core.specs.Servers.{Serving, IsFor, after_push, joined_with, last_of}

pub first_next : (schema : Schema) → IsWithin (first_batch ∷ []) → IsNext schema [] first_batch
first_next schema within = record {
  base = refl;
  alone = record { round = refl; opens = λ e. refl; first = λ e. (refl, λ k. cc); before = tt; rest = tt; mine = All-nil (λ (id : Id). id.client ≡ 0) };
  once = tt;
  right = record { before = tt; rest = tt };
  shaped = All-nil (IsShaped schema);
  within = within;
}

pub first_may : (schema : Schema) → IsServed schema [] → IsWithin (first_batch ∷ []) → ((schema : Schema) (past : List Batch) (b : Batch) → IsServed schema past → IsNext schema past b → MayPush schema past (of_client b.client past ++ b ∷ []) b) → MayPush schema [] (first_batch ∷ []) first_batch
first_may schema nothing within pushed = pushed schema [] first_batch nothing (first_next schema within)

pub first_is_push : (schema sent : Schema) (past own : TokenView Batch) (b : Batch) (wire : List _) → MayPush schema [] (first_batch ∷ []) first_batch → sent ≡ schema → past.list ≡ [] → own.list ≡ b ∷ [] → b ≡ first_batch → IsPushWire schema [] first_batch wire → IsPush (record { schema = sent; wire = wire; batch = b; past = past; own = own })
first_is_push schema sent past own b wire may same nothing mine is told = record {
  may = subst (λ (s : Schema). MayPush s past.list own.list b) (sym same)
      (subst (λ (x : Batch). MayPush schema past.list own.list x) (sym is)
      (subst (λ (l : List Batch). MayPush schema past.list l first_batch) (sym (mine ∙ ap (λ (x : Batch). x ∷ []) is))
      (subst (λ (l : List Batch). MayPush schema l (first_batch ∷ []) first_batch) (sym nothing) may)));
  bytes = subst (λ (s : Schema). IsPushWire s past.list b wire) (sym same)
      (subst (λ (x : Batch). IsPushWire schema past.list x wire) (sym is)
      (subst (λ (l : List Batch). IsPushWire schema l first_batch wire) (sym nothing) told));
}

-- a push is for a server still, when that took one
for_after : (push other : Pushed) (server : Serving) → IsFor push server → IsFor push (after_push other server)
for_after push other server of = elim (other.batch.round == last_of other server + 1) as (λ b. IsFor push (if b then joined_with other server else server)) [
  | true ↦ record {
    schema = of.schema;
    past = of.past;
    client = subst (λ (n : _). push.batch.client < n) (sym (length-set server.owns other.batch.client (Some other.own))) of.client;
  }
  | false ↦ of
]

pub for_taken : {A E : Type 0} (result : Result A E) (push other : Pushed) (old new : Serving) → OnOk result (new ≡ after_push other old) → OnErr result ((new ≡ old) ⊎ (new ≡ after_push other old)) → IsFor push old → IsFor push new
for_taken (Ok x) push other old new ok err of = subst (IsFor push) (sym ok) (for_after push other old of)
for_taken (Err e) push other old new ok (inl same) of = subst (IsFor push) (sym same) of
for_taken (Err e) push other old new ok (inr is) of = subst (IsFor push) (sym is) (for_after push other old of)
