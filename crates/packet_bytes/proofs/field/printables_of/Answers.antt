use Rattle.std.proofs.Common.{sym, ◌∙◌, ap, subst, ℕ, ◌+◌, Err}
use Rattle.cloud_base.specs.Texts.{HasFault}
use Rattle.packet_bytes.specs.declared.fault.WireFault.TheVariants.{NotCanonical}
use Rattle.packet_bytes.proofs.Printables.{text_read, text_cut, text_bad}
use Rattle.packet_bytes.proofs.field.printables_of.Goals as goal

pub returns-then-given-size-clause-read : goal.returns-then-given-size-clause-read
returns-then-given-size-clause-read c =
    text_cut c.args.size c.min-given.result c.args.cursor.at c.args.cursor.bytes.now c.split_at.result.0.now c.min-given.ensures c.split_at.ensures.front c.in-Ok.ensures.1.1 c.if-given-size.true
    ∙ ap Err (sym c.short.ensures)

pub returns-else-given-size-clause-read : goal.returns-else-given-size-clause-read
returns-else-given-size-clause-read c =
    text_read c.args.size c.min-given.result c.args.cursor.at c.args.cursor.bytes.now c.split_at.result.0.now c.split_at.result.1.now c.in-Ok.text c.min-given.ensures c.split_at.ensures.front c.split_at.ensures.back c.in-Ok.ensures.0 c.in-Ok.ensures.1.1 c.if-given-size.false

pub returns-in-Err-BadByte-clause-read : goal.returns-in-Err-BadByte-clause-read
returns-in-Err-BadByte-clause-read c =
    let w = c.in-Err-BadByte in
    text_bad c.args.size c.min-given.result c.args.cursor.at w.at c.args.cursor.bytes.now c.split_at.result.0.now c.min-given.ensures c.split_at.ensures.front (subst (HasFault c.split_at.result.0.now) w.field-0-is w.ensures)
    ∙ ap (λ (k : ℕ). Err (NotCanonical (c.args.cursor.at + k))) (sym w.at-is)
