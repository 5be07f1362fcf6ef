use Rattle.std.proofs.Common.{inl, inr}
use Rattle.packet_bytes.proofs.Packets.{front_short, fault_found}
use Rattle.packet_bytes.proofs.laws.faults_are_first.Goals as goal

pub returns-clause-fronts : goal.returns-clause-fronts
returns-clause-fronts c = let orders = c.total_list_orders.ensures in front_short orders.effects orders.values orders.created

pub returns-clause-stays : goal.returns-clause-stays
returns-clause-stays c = λ schema bytes more fault fits e other.
    let orders = c.total_list_orders.ensures in
    elim (fault_found orders.effects orders.values orders.created schema bytes fault fits e) [ inl short ↦ absurd (other short) | inr stays ↦ stays more ]
