use Rattle.std.proofs.Common.{◌≡◌, ◌≤◌, take, length, All}
use Rattle.cloud_base.specs.Values.{IsPrintable}
use Rattle.cloud_base.proofs.text.Text.new.Given as goal

abbrev pub invariant-loop-at : goal.invariant-loop-at
invariant-loop-at l = (l.text.items ≡ take l.at l.bytes) × All IsPrintable (take l.at l.bytes) × (length l.bytes ≤ 128)
