use Rattle.cloud_play.proofs.Beginning.{opened_as}
use Rattle.cloud_play.proofs.opening.open_runner.Goals as goal

pub returns-clause-opened : goal.returns-clause-opened
returns-clause-opened c =
    opened_as c.args.code.now c.args.schema.now c.args.client c.args.server.now.joined c.in_ok-past.past c.in_ok-session.session.stands c.in_ok-runner.runner c.requires.schema c.in_ok-past.ensures.whole c.in_ok-session.ensures
    c.in_ok-runner.ensures.code c.in_ok-runner.ensures.session c.in_ok-runner.ensures.ended c.keeps.ensures
