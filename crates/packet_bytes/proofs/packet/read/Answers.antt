use Rattle.std.proofs.Common.{◌∙◌, ap, subst, arith}
use Rattle.std.specs.Prelude.{Result}
use Rattle.packet_bytes.specs.declared.fault.WireFault.{WireFault}
use Rattle.packet_bytes.specs.declared.wire.Wire.{Wire}
use Rattle.packet_bytes.specs.Reading.{Reads, packet_of}
use Rattle.packet_bytes.proofs.Packets.{is_found, packet_again}
use Rattle.packet_bytes.proofs.packet.read.Goals as goal

pub returns-clause-found : goal.returns-clause-found
returns-clause-found c =
    let orders = c.total_list_orders.ensures in
    is_found orders.effects orders.values orders.created c.args.schema.now c.args.bytes.now c.whole.result (λ i. omega (arith, c.type_inv.bytes i)) c.whole.ensures

pub returns-clause-only : goal.returns-clause-only
returns-clause-only c = λ wire is e.
    let orders = c.total_list_orders.ensures in
    subst (λ (r : Result Wire WireFault). Reads c.whole.result r) (ap (packet_of c.args.schema.now) e ∙ packet_again orders.effects orders.values orders.created c.args.schema.now wire is) c.whole.ensures
