use Rattle.std.proofs.Common.{◌≡◌, take}
use Rattle.cloud_base.specs.Texts.{cat_text}
use Rattle.cloud_base.proofs.text.Text.cat.Given as goal

abbrev pub invariant-loop-byte : goal.invariant-loop-byte
invariant-loop-byte l = l.bytes.items ≡ cat_text l.self (take l.byte-index l.byte-items)
