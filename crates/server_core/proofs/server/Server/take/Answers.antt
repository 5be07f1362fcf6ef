use Rattle.std.proofs.Common.{sym, subst, inl, inr}
use Rattle.server_core.specs.Servers.{Serving, IsServerOf}
use Rattle.server_core.proofs.Joining.{after_of_run}
use Rattle.server_core.proofs.server.Server.take.Goals as goal

pub returns-in-Ok-clause-of : goal.returns-in-Ok-clause-of
returns-in-Ok-clause-of c run home of = subst (λ (s : Serving). IsServerOf s run) (sym c.in-Ok.ensures.ok) (after_of_run c.args.push c.args.self.now run c.requires.client home of)

pub returns-in-Err-clause-of : goal.returns-in-Err-clause-of
returns-in-Err-clause-of c run home of = elim c.in-Err.ensures.err [
  | inl same ↦ subst (λ (s : Serving). IsServerOf s run) (sym same) home
  | inr after ↦ subst (λ (s : Serving). IsServerOf s run) (sym after) (after_of_run c.args.push c.args.self.now run c.requires.client home of)
]
