use Rattle.code_gen.specs.Compiled.{Compiled}
use Rattle.cloud_play.proofs.Beginning.{one_each}
use Rattle.cloud_play.proofs.opening.compile_all.Goals as goal

pub loop-client-preserved : goal.loop-client-preserved
loop-client-preserved c =
    one_each (Compiled c.args.program.now) c.loop-client.client c.loop-client.codes.items c.push.new.self.items c.in_ok-compile.field-0 c.loop-client.invariant c.in_ok-compile.ensures c.in_ok-push.ensures.items
