use Rattle.server_core.proofs.station.release.Goals as goal

pub pass-requires-clause-push : goal.pass-requires-clause-push
pass-requires-clause-push g c = c.requires.held c.in-Some.push c.in-Some.is
