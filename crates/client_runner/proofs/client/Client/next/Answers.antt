use Rattle.client_runner.proofs.Needing.{few_ids}
use Rattle.client_runner.proofs.client.Client.next.Goals as goal

pub next-requires-clause-ids : goal.next-requires-clause-ids
next-requires-clause-ids c =
    few_ids c.args.self.now.machine c.args.self.now.session.stands c.requires.follows.stands c.requires.few
