use Rattle.std.proofs.Common.{◌≡◌, ◌++◌, take}
use Rattle.std.specs.List.{flat_map}
use Rattle.source_print.specs.Canonical.{declaration_text}
use Rattle.source_print.proofs.printer.write_declarations.Given as goal

abbrev pub invariant-loop-declaration : goal.invariant-loop-declaration
invariant-loop-declaration l = l.out.items ≡ l.fn.out.items ++ flat_map declaration_text (take l.declaration-index l.declarations)
