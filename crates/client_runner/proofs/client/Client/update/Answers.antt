use Rattle.std.proofs.Common.{refl}
use Rattle.cloud_base.specs.declared.update.Event.TheVariants.{Do}
use Rattle.client_runner.proofs.Meeting.{follows_noted, on_ok}
use Rattle.client_runner.proofs.Needing.{may_do}
use Rattle.client_runner.proofs.client.Client.update.Goals as goal

pub update-requires-clause-may : goal.update-requires-clause-may
update-requires-clause-may c =
    may_do c.args.self.now.machine c.args.self.now.session.stands c.args.update c.requires.due.needed c.requires.few

pub returns-clause-follows : goal.returns-clause-follows
returns-clause-follows c =
    let s = c.args.self.now.session.stands in
    on_ok c.update.result (follows_noted c.args.self.now.machine (Do c.args.update) s.flush s c.update.new.self refl c.keeps.ensures.running c.requires.due.schema c.requires.due.needed) c.update.ensures.ok
