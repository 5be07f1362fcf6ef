use Rattle.std.proofs.Common.{refl}
use Rattle.code_gen.proofs.Blocks.{store_emitted}
use Rattle.code_gen.proofs.emitter.Emitter.stores.Goals as goal

pub loop-stored-preserved : goal.loop-stored-preserved
loop-stored-preserved c = store_emitted c.args.first c.args.count c.loop-stored.stored c.loop-stored.self c.push.new.self _ _ c.loop-stored-test.true refl c.in_ok-push.ensures c.loop-stored.invariant
