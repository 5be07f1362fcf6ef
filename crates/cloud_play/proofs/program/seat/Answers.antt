use Rattle.std.proofs.Common.{◌∙◌, ap, sym, length}
use Rattle.slot_hub.specs.Runs.{clients_of}
use Rattle.played_record.specs.Programs.{trace_of}
use Rattle.cloud_play.proofs.Beginning.{begins, clients_named}
use Rattle.cloud_play.proofs.program.seat.Goals as goal

pub new-requires-2-clause-clients : goal.new-requires-2-clause-clients
new-requires-2-clause-clients g c =
    ap clients_of c.requires.name ∙ clients_named c.args.program.now c.args.server c.args.runners.items c.requires.begun ∙ sym c.clients-clients.ensures.clients

pub returns : goal.returns
returns g c =
    let p = c.args.program.now in
    begins p c.args.server c.args.runners.items c.requires.begun g.N.Run.name c.in_ok-station.station.holding c.in_ok-hub.hub
    c.runs_begin.ensures (c.moments_of_played_runs.ensures.opening (trace_of p)) c.rounds_stay_few.ensures.opening c.requires.name
    c.in_ok-station.ensures.server c.in_ok-station.ensures.of c.keeps.ensures.serving c.keeps.ensures.holding
    c.clients-clients.result (length c.args.server.owns) c.in_ok-hub.ensures.outboxes c.in_ok-hub.ensures.inboxes c.in_ok-hub.ensures.rounds c.in_ok-station.ensures.held
