use Rattle.std.proofs.Common.{drop, []}
use Rattle.std.specs.List.{AllByRecursion, flat_map}
use Rattle.source_tree.specs.Words.{client_words}
use Rattle.kind_rules.specs.Programs.{settle_clients}
use Rattle.kind_rules.specs.Words.{IsFitWord}
use Rattle.kind_check.proofs.Left.{IsLeft, left}
use Rattle.kind_check.proofs.clients.check_clients.Given as goal

abbrev pub invariant-loop-place : goal.invariant-loop-place
invariant-loop-place l = record {
  left : IsLeft (settle_clients l.declared [] l.clients l.lines) l.bodies (left l.declared l.clients l.place l.rest);
  words : AllByRecursion IsFitWord (flat_map client_words (drop l.place l.clients));
}
