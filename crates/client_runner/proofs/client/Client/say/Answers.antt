use Rattle.std.proofs.Common.{refl}
use Rattle.cloud_base.specs.declared.update.Event.TheVariants.{Say}
use Rattle.client_runner.proofs.Meeting.{follows_noted, on_ok}
use Rattle.client_runner.proofs.client.Client.say.Goals as goal

pub returns-clause-follows : goal.returns-clause-follows
returns-clause-follows c =
    let s = c.args.self.now.session.stands in
    on_ok c.say.result (follows_noted c.args.self.now.machine (Say c.args.value) s.flush s c.say.new.self refl c.keeps.ensures.running c.requires.due.schema c.requires.due.needed) c.say.ensures.ok
