use Rattle.std.proofs.Common.{◌≡◌, ◌-◌}
use Rattle.std.specs.Prelude.{None}
use Rattle.packet_bytes.specs.Left.{left_of}
use Rattle.packet_bytes.specs.Reading.{elements_at}
use Rattle.packet_bytes.proofs.Loops.{with_front, last_of}
use Rattle.packet_bytes.proofs.list.elements_of.Given as goal

abbrev pub invariant-loop : goal.invariant-loop
invariant-loop g l = with_front l.items (elements_at (g.E.Element.reader l.schema) (l.count - l.counter) (last_of l.items) (left_of l.rest)) ≡ elements_at (g.E.Element.reader l.schema) l.count None (left_of l.cursor)
