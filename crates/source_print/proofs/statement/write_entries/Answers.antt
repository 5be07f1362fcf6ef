use Rattle.std.proofs.Common.{◌≡◌, ◌++◌, subst, codes}
use Rattle.std.specs.Prelude.{OnOk}
use Rattle.source_print.proofs.Forms.{in_pieces}
use Rattle.source_print.proofs.statement.write_entries.Goals as goal

pub returns : goal.returns
returns c =
    let line = in_pieces _ _ _ _ (c.args.array.now ++ codes "." ++ c.args.property.now ++ codes " ") _ _ _ c.in_ok-write.ensures c.in_ok-write_names.ensures c.in_ok-write-2.ensures in
    subst (λ x. OnOk c.write_listed.result (c.write_listed.new.out.items ≡ x)) line c.write_listed.ensures
