use Rattle.std.proofs.Common.{◌≡◌, ◌+◌, ◌∙◌, List, [], ◌∷◌, ◌++◌, ap, sym, subst}
use Rattle.std.specs.Prelude.{Some, slice_set}
use Rattle.std.specs.Arc.{arc_value}
use mathlib.Core.List.{IsPrefix}
use Rattle.cloud_base.specs.Shaped.{Fit}
use Rattle.cloud_base.specs.declared.batch.Batch.{Batch}
use Rattle.cloud_base.specs.declared.schema.Schema.{Schema}
use Rattle.batch_history.specs.Batches.{updates_in}
use Rattle.batch_joins.specs.Joins.{all_updates}
use Rattle.schema_fj.specs.States.{StateStands}
use Rattle.packet_codec.specs.Pushes.{MayPush}
use Rattle.server_core.specs.Servers.{Serving, IsFor, IsRecord, last_of}
use Rattle.server_core.proofs.Joining.{joined_kept}
use Rattle.server_core.proofs.server.Server.join.Goals as goal

pub invariant_of-self-2 : goal.invariant_of-self-2
invariant_of-self-2 c =
    let push = c.args.push.now in
    let batches = c.self.inside.writer.list in
    let server : Serving = record { schema = arc_value c.self.inside.schema; joined = c.self.inside.writer; owns = c.self.inside.owns.items } in
    let of : IsFor push server = subst (IsFor push) (sym c.self.view_is) c.requires.of in
    let known : IsPrefix push.past.list batches = subst (λ (s : Serving). IsPrefix push.past.list s.joined.list) (sym c.self.view_is) c.requires.known in
    let next : push.batch.round ≡ last_of push server + 1 = subst (λ (s : Serving). push.batch.round ≡ last_of push s + 1) (sym c.self.view_is) c.requires.next in
    let may : MayPush server.schema push.past.list push.own.list push.batch = subst (λ (s : Schema). MayPush s push.past.list push.own.list push.batch) of.schema c.keeps.ensures.may in
    let served = c.pushes_are_taken.ensures.served server.schema batches push.past.list push.own.list push.batch c.self.invariant.1.served known may next in
    let mine = c.pushes_are_taken.ensures.own server.schema batches push.past.list push.own.list push.batch c.self.invariant.1.served known may next in
    let fit = c.pushes_are_taken.ensures.fit server.schema batches push.past.list push.own.list push.batch c.self.invariant.1.served known may next in
    let part = c.pushes_are_taken.ensures.known server.schema batches push.past.list push.own.list push.batch known may in
    let seen : StateStands push.schema c.self.inside.state (all_updates batches) [] = subst (λ (s : Schema). StateStands s c.self.inside.state (all_updates batches) []) (sym of.schema) c.self.invariant.2 in
    let fits = subst (λ (s : Schema). Fit s (all_updates batches ++ updates_in push.batch)) (sym of.schema) fit in
    let stands = subst (λ (s : Schema). StateStands s c.in_ok-state.state (all_updates batches ++ updates_in push.batch) []) of.schema (c.in_ok-state.ensures.next (all_updates batches) seen part fits) in
    let appended : c.append.new.self.list ≡ batches ++ push.batch ∷ [] = c.append.ensures.list ∙ ap (λ (b : Batch). batches ++ b ∷ []) c.batch.ensures in
    let pushed = c.in_ok-state.ensures.list ∙ ap (λ (l : List Batch). l ++ push.batch ∷ []) c.self.invariant.0 in
    let kept = joined_kept push server c.in_ok-state.state c.self.invariant.1 of served mine stands c.append.new.self.list appended in
    let places : slice_set c.self.inside.owns.items push.batch.client (Some push.own) ≡ slice_set c.self.inside.owns.items c.client.result (Some c.args.own) = ap (λ (k : _). slice_set c.self.inside.owns.items k (Some push.own)) (sym c.client.ensures) ∙ ap (λ (f : _). slice_set c.self.inside.owns.items c.client.result (Some f)) (sym c.requires.own) in
    (pushed ∙ sym appended, subst (IsRecord (arc_value c.self.inside.schema) c.append.new.self.list) places kept.0, kept.1)
