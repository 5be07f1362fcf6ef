use Rattle.std.proofs.Common.{refl}
use Rattle.cloud_base.specs.declared.update.Event.TheVariants.{Flush}
use Rattle.session_core.specs.declared.flushing.Flushing.TheVariants.{Marked}
use Rattle.client_runner.proofs.Meeting.{follows_noted, on_ok}
use Rattle.client_runner.proofs.client.Client.begin_flush.Goals as goal

pub returns-clause-follows : goal.returns-clause-follows
returns-clause-follows c =
    on_ok c.flush_start.result (follows_noted c.args.self.now.machine Flush Marked c.args.self.now.session.stands c.flush_start.new.self refl c.keeps.ensures.running c.requires.due.schema c.requires.due.needed) c.flush_start.ensures.ok
