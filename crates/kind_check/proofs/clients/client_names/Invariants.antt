use Rattle.std.proofs.Common.{◌≡◌, take, map}
use Rattle.source_tree.specs.declared.program.Client.{Client}
use Rattle.kind_check.proofs.clients.client_names.Given as goal

abbrev pub invariant-loop-client : goal.invariant-loop-client
invariant-loop-client l = l.names ≡ map (λ (c : Client). c.name) (take l.client-index l.clients)
