use Rattle.std.proofs.Common.{◌≡◌, ◌∙◌, subst, sym, arith}
use Rattle.std.proofs.lemmas.Grind.{common_steps}
use Rattle.cloud_base.specs.Values.{IsText}
use Rattle.cloud_base.proofs.TextLemmas.{cat_room, cat_full, cat_nothing, cat_is_text}
use Rattle.cloud_base.proofs.text.Text.cat.Goals as goal
use Rattle.cloud_base.proofs.text.Text.cat.Goals.{then-len-lt-MOST_TEXT_BYTES, else-len-lt-MOST_TEXT_BYTES}

pub loop-byte-init : goal.loop-byte-init
loop-byte-init c =
    let same : c.bytes.inside.bytes.items ≡ c.args.self.now = c.bytes.view_is ∙ c.copied.ensures in
    same ∙ cat_nothing c.args.self.now (rw same at c.bytes.invariant.0)

pub loop-byte-preserved : goal.loop-byte-preserved
loop-byte-preserved c =
    let items = c.as_slice-byte-items.result.now in
    elim c.if-len-lt-MOST_TEXT_BYTES.branch [
      | then-len-lt-MOST_TEXT_BYTES w ↦
          let more = cat_room c.args.self.now items c.loop-byte.bytes.items c.loop-byte.byte-index c.loop-byte-test.true c.loop-byte.invariant (omega arith) in
          grind (arith, common_steps, more)
      | else-len-lt-MOST_TEXT_BYTES w ↦
          let same = cat_full c.args.self.now items c.loop-byte.bytes.items c.loop-byte.byte-index c.loop-byte-test.true c.loop-byte.invariant (omega arith) in
          grind (arith, common_steps, same)
    ]

pub invariant_of-result : goal.invariant_of-result
invariant_of-result c =
    let self_text : IsText c.args.self.now = subst IsText (c.bytes.view_is ∙ c.copied.ensures) c.bytes.invariant in
    let other_text : IsText c.as_slice-byte-items.result.now = subst IsText (sym c.as_slice-byte-items.ensures.value) c.other.invariant in
    cat_is_text c.args.self.now c.as_slice-byte-items.result.now c.loop-byte.bytes.items c.loop-byte.byte-index self_text other_text c.loop-byte.invariant
