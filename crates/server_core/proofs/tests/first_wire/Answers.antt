use Rattle.std.proofs.Common.{◌≡◌, [], ◌∷◌, refl, lit<, lit≤}
use Rattle.std.proofs.lemmas.Result.{IfOk-weaker}
use Rattle.packet_bytes.specs.Spelling.{spelling}
use Rattle.packet_bytes.specs.declared.wire.Wire.TheVariants.{Push}
use Rattle.packet_codec.specs.Pushes.{IsPushWire}
use Rattle.server_core.specs.First.{first_batch}
use Rattle.server_core.proofs.First.{first_may}
use Rattle.server_core.proofs.tests.first_wire.Goals as goal

pub write_push-requires-clause-created : goal.write_push-requires-clause-created
write_push-requires-clause-created c =
    let may = first_may c.args.schema.now (c.served_records.ensures.nothing c.args.schema.now) (c.bounded_records.ensures.own 0 (first_batch ∷ []) (lit< tt) (refl, tt) (lit≤ tt) (lit< tt)) c.next_batches_are_pushed.ensures in
    (c.packets_are_spelled.ensures.changes c.args.schema.now [] (first_batch ∷ []) first_batch c.in_ok-change.change may (c.in_ok-change.ensures c.args.schema.now [] [] c.in_ok-state.ensures)).0

pub write_push-requires-clause-dead : goal.write_push-requires-clause-dead
write_push-requires-clause-dead c =
    let may = first_may c.args.schema.now (c.served_records.ensures.nothing c.args.schema.now) (c.bounded_records.ensures.own 0 (first_batch ∷ []) (lit< tt) (refl, tt) (lit≤ tt) (lit< tt)) c.next_batches_are_pushed.ensures in
    (c.packets_are_spelled.ensures.changes c.args.schema.now [] (first_batch ∷ []) first_batch c.in_ok-change.change may (c.in_ok-change.ensures c.args.schema.now [] [] c.in_ok-state.ensures)).1

pub write_push-requires-clause-cells : goal.write_push-requires-clause-cells
write_push-requires-clause-cells c =
    let may = first_may c.args.schema.now (c.served_records.ensures.nothing c.args.schema.now) (c.bounded_records.ensures.own 0 (first_batch ∷ []) (lit< tt) (refl, tt) (lit≤ tt) (lit< tt)) c.next_batches_are_pushed.ensures in
    (c.packets_are_spelled.ensures.changes c.args.schema.now [] (first_batch ∷ []) first_batch c.in_ok-change.change may (c.in_ok-change.ensures c.args.schema.now [] [] c.in_ok-state.ensures)).2

pub returns : goal.returns
returns c =
    IfOk-weaker c.write_push.result
    (λ wire. wire ≡ spelling (Push 0 1 0 c.in_ok-change.change))
    (λ wire. IsPushWire c.args.schema.now [] first_batch wire)
    (λ wire e. record { change = c.in_ok-change.change; effect = c.in_ok-change.ensures c.args.schema.now [] [] c.in_ok-state.ensures; spelled = e })
    c.write_push.ensures
