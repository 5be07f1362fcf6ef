-- What the bytes of a push and of a reply are read as.
use Rattle.std.proofs.Common.{◌≡◌, ap, subst, ◌∙◌, sym, ℕ, List, length, Result, Ok, Err}
use Rattle.cloud_base.specs.declared.batch.Batch.{Batch}
use Rattle.cloud_base.specs.declared.schema.Schema.{Schema}
use Rattle.batch_history.specs.Batches.{updates_in, flat}
use Rattle.batch_joins.specs.Joins.{all_updates}
use Rattle.change_lists.specs.Effects.{IsEffect}
use Rattle.change_lists.specs.Images.{IsImage}
use Rattle.change_lists.specs.Lists.{ChangeLists, ImageLists}
use Rattle.packet_bytes.specs.Reading.{Reads}
use Rattle.packet_bytes.specs.Spelling.{spelling, IsPacketOf}
use Rattle.packet_bytes.specs.declared.fault.WireFault.{WireFault}
use Rattle.packet_bytes.specs.declared.fault.ReadFault.{ReadFault}
use Rattle.packet_bytes.specs.declared.fault.ReadFault.TheVariants as fault
use Rattle.packet_bytes.specs.declared.wire.Wire.{Wire}
use Rattle.packet_bytes.specs.declared.wire.Wire.TheVariants.{Push, Reply}
use Rattle.packet_codec.specs.Pushes.{Pushed, MayPush, IsPush}
use Rattle.packet_codec.specs.Replies.{Replied, MayReply, IsReply}

-- what is read as a packet has no fault
pub no_fault : (r : Result Wire ReadFault) (w : Wire) (e : ReadFault) (f : WireFault) → Reads r (Ok w) → r ≡ Err e → e ≡ fault.Wire f → ⊥
no_fault r w e f h p q = let wrong : Ok w ≡ Err f = subst (λ x. Reads x (Ok w)) (p ∙ ap Err q) h in cc

-- and is that packet
read_is : (r : Result Wire ReadFault) (w x : Wire) → Reads r (Ok w) → r ≡ Ok x → x ≡ w
read_is r w x h p = let same : Ok w ≡ Ok x = subst (λ y. Reads y (Ok w)) p h in cc

-- what a call of `read` says of the packets that its bytes may spell
abbrev pub ReadsAny : Schema → List ℕ → Result Wire ReadFault → Type 0
ReadsAny schema bytes r = (wire : Wire) → IsPacketOf schema wire → bytes ≡ spelling wire → Reads r (Ok wire)

module _ (schema : Schema) (bytes : List ℕ) (r : Result Wire ReadFault) (reads : ReadsAny schema bytes r) where
  module _ (packets : (schema : Schema) (past own : List Batch) (b : Batch) (change : ChangeLists) → MayPush schema past own b → IsEffect schema (flat past b.base) (updates_in b) change → IsPacketOf schema (Push b.client b.round b.base change)) (push : Pushed) (is : IsPush push) (same : schema ≡ push.schema) (wire : bytes ≡ push.wire) where
    pub push_read : Reads r (Ok (Push push.batch.client push.batch.round push.batch.base is.bytes.change))
    push_read =
        let it = Push push.batch.client push.batch.round push.batch.base is.bytes.change in
        let packet = packets push.schema push.past.list push.own.list push.batch is.bytes.change is.may is.bytes.effect in
        reads it (subst (λ s. IsPacketOf s it) (sym same) packet) (wire ∙ is.bytes.spelled)

    pub change_read : (x : Wire) (client round base : ℕ) (change : ChangeLists) → r ≡ Ok x → x ≡ Push client round base change → IsEffect push.schema (flat push.past.list push.batch.base) (updates_in push.batch) change
    change_read x client round base change p q =
        let e = sym (read_is r (Push push.batch.client push.batch.round push.batch.base is.bytes.change) x push_read p) ∙ q in
        let told : is.bytes.change ≡ change = cc in
        subst (IsEffect push.schema (flat push.past.list push.batch.base) (updates_in push.batch)) told is.bytes.effect

  module _ (packets : (schema : Schema) (past own : List Batch) (client round : ℕ) (image : ImageLists) → MayReply schema past own client round → IsImage schema (all_updates past) image → IsPacketOf schema (Reply client round (length past) image)) (reply : Replied) (is : IsReply reply) (same : schema ≡ reply.schema) (wire : bytes ≡ reply.wire) where
    pub reply_read : Reads r (Ok (Reply reply.client reply.round (length reply.past.list) is.bytes.image))
    reply_read =
        let it = Reply reply.client reply.round (length reply.past.list) is.bytes.image in
        let packet = packets reply.schema reply.past.list reply.own.list reply.client reply.round is.bytes.image is.may is.bytes.comes_to in
        reads it (subst (λ s. IsPacketOf s it) (sym same) packet) (wire ∙ is.bytes.spelled)

    pub image_read : (x : Wire) (client round base : ℕ) (image : ImageLists) → r ≡ Ok x → x ≡ Reply client round base image → IsImage reply.schema (all_updates reply.past.list) image
    image_read x client round base image p q =
        let e = sym (read_is r (Reply reply.client reply.round (length reply.past.list) is.bytes.image) x reply_read p) ∙ q in
        let told : is.bytes.image ≡ image = cc in
        subst (IsImage reply.schema (all_updates reply.past.list)) told is.bytes.comes_to
