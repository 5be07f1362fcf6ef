use Rattle.cloud_run.proofs.Calls.{refused, breaks_rule}
use Rattle.cloud_run.proofs.top.obey.Goals as goal

pub returns-in-Err : goal.returns-in-Err
returns-in-Err g c =
    refused g.S.Source.left g.S.Source.faults g.S.Source.ends g.K.Sink.holds g.K.Sink.faults c.args.command c.args.source.now c.read_tree.new.source c.in-Err.status c.args.sink.now c.one_answer.ensures c.in-Err.ensures

pub returns-in-Err-Rule : goal.returns-in-Err-Rule
returns-in-Err-Rule g c =
    breaks_rule g.S.Source.left g.S.Source.faults g.S.Source.ends g.K.Sink.holds g.K.Sink.faults c.args.command c.args.source.now c.read_tree.new.source _ c.in-Ok.ensures c.in-Err-Rule.rule c.in-Err-Rule.line c.args.sink.now c.one_answer.ensures (rw c.in-Err-Rule.field-0-is at c.in-Err-Rule.ensures.fault)
