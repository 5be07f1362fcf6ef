use Rattle.std.proofs.Common.{◌≡◌, ◌++◌, drop}
use Rattle.source_print.specs.Statements.{body_text}
use Rattle.source_print.proofs.statement.+statement.Given as goal

-- what stands so far, and the statements that are left, make all
abbrev pub invariant-write_body-loop-statement : goal.invariant-write_body-loop-statement
invariant-write_body-loop-statement l = l.out.items ++ body_text l.margin (drop l.statement-index l.body) ≡ l.fn.out.items ++ body_text l.margin l.body
