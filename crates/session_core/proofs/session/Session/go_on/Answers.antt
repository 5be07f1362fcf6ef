use Rattle.session_core.proofs.session.Session.go_on.Goals as goal

pub install-requires-clause-ready : goal.install-requires-clause-ready
install-requires-clause-ready c = c.requires.ready c.in-Some.ready c.in-Some.is
