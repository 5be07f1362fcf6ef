use Rattle.code_gen.proofs.Clients.{client_listed}
use Rattle.code_gen.proofs.lister.listing.Goals as goal

pub loop-client-preserved : goal.loop-client-preserved
loop-client-preserved c = client_listed c.args.program.now c.loop-client.client c.loop-client.out.items c.write_client.new.out.items _ c.in_ok-write_client.ensures c.loop-client.invariant
