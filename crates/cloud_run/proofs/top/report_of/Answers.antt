use Rattle.std.proofs.Common.{sym, subst, ℕ, List}
use Rattle.cloud_run.specs.Top.{ReportsRun, program_of}
use Rattle.cloud_run.proofs.Calls.{reports_run}
use Rattle.cloud_run.proofs.top.report_of.Goals as goal

pub returns-clause-lawful : goal.returns-clause-lawful
returns-clause-lawful c =
    subst (λ (text : List ℕ). ReportsRun (program_of c.args.source) text) (sym c.from_vec.ensures)
    (reports_run c.in_ok-program.program (program_of c.args.source) c.in_ok-history.history c.in_ok-text.text.items c.reports_are_diagrams.ensures c.in_ok-program.ensures.1 c.schema.ensures.program
    c.in_ok-history.ensures c.in_ok-text.ensures)
