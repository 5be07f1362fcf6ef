use Rattle.std.proofs.Common.{◌≡◌, subst, codes}
use Rattle.std.specs.Prelude.{OnOk}
use Rattle.source_print.proofs.Forms.{in_three}
use Rattle.source_print.proofs.printer.write_plan.Goals as goal

pub returns : goal.returns
returns c =
    let line = in_three _ _ _ (codes "}\n") _ _ c.in_ok-write.ensures c.in_ok-write_items.ensures in
    subst (λ x. OnOk c.write-2.result (c.write-2.new.out.items ≡ x)) line c.write-2.ensures
