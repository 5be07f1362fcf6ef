use Rattle.std.proofs.Common.{◌≡◌, length, drop}
use Rattle.packet_bytes.specs.Left.{left_of}
use Rattle.packet_bytes.specs.Reading.{keys_at}
use Rattle.packet_bytes.proofs.Loops.{with_front}
use Rattle.packet_bytes.proofs.field.keys_of.Given as goal

abbrev pub invariant-loop-kind : goal.invariant-loop-kind
invariant-loop-kind l = record { read : with_front l.keys (keys_at (drop l.kind-index l.types) (left_of l.rest)) ≡ keys_at l.types (left_of l.cursor); count : length l.keys ≡ l.kind-index }
