-- The first push and the first reply of a client that yields, of any parts that are theirs.
use Rattle.std.proofs.Common.{◌≡◌, ◌∙◌, ap, sym, subst, ℕ, List, [], ◌∷◌}
use Rattle.cloud_base.specs.declared.batch.Batch.{Batch}
use Rattle.cloud_base.specs.declared.schema.Schema.{Schema}
use Rattle.change_lists.specs.Lists.{ChangeLists, ImageLists}
use Rattle.front_table.specs.TokenView.{TokenView}
use Rattle.packet_bytes.specs.Spelling.{spelling}
use Rattle.packet_bytes.specs.declared.wire.Wire.TheVariants as wire
use Rattle.packet_codec.specs.Served.{opening}
use Rattle.packet_codec.specs.Pushes.{Pushed, IsPush, nothing, unchanged, first_push, example_push}
use Rattle.packet_codec.specs.Replies.{Replied, IsReply, blank, first_reply, example_reply}

pub is_first_push : (schema : Schema) (bytes : List ℕ) (change : ChangeLists) (batch : Batch) (past own : TokenView Batch) → schema ≡ nothing → change ≡ unchanged → bytes ≡ spelling (wire.Push 1 1 0 change) → batch ≡ opening → past.list ≡ [] → own.list ≡ opening ∷ [] → IsPush (record { schema = schema; wire = bytes; batch = batch; past = past; own = own })
is_first_push schema bytes change batch past own s c w b p o =
    let told = w ∙ ap (λ lists. spelling (wire.Push 1 1 0 lists)) c in
    let it : Pushed = record { schema = schema; wire = bytes; batch = batch; past = past; own = own } in
    let is : it ≡ first_push past.chronicle own.chronicle = λ i. record {
      schema = s i;
      wire = told i;
      batch = b i;
      past = record { chronicle = past.chronicle; list = p i };
      own = record { chronicle = own.chronicle; list = o i };
    } in
    subst IsPush (sym is) (example_push past.chronicle own.chronicle)

pub is_first_reply : (schema : Schema) (bytes : List ℕ) (image : ImageLists) (past own : TokenView Batch) → schema ≡ nothing → image ≡ blank → bytes ≡ spelling (wire.Reply 1 1 1 image) → past.list ≡ opening ∷ [] → own.list ≡ opening ∷ [] → IsReply (record { schema = schema; wire = bytes; client = 1; round = 1; past = past; own = own })
is_first_reply schema bytes image past own s m w p o =
    let told = w ∙ ap (λ lists. spelling (wire.Reply 1 1 1 lists)) m in
    let it : Replied = record { schema = schema; wire = bytes; client = 1; round = 1; past = past; own = own } in
    let is : it ≡ first_reply past.chronicle own.chronicle = λ i. record {
      schema = s i;
      wire = told i;
      client = 1;
      round = 1;
      past = record { chronicle = past.chronicle; list = p i };
      own = record { chronicle = own.chronicle; list = o i };
    } in
    subst IsReply (sym is) (example_reply past.chronicle own.chronicle)
