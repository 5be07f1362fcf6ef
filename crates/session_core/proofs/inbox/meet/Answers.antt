use Rattle.std.proofs.Common.{subst}
use mathlib.Core.List.{IsPrefix}
use Rattle.cloud_base.specs.declared.batch.Batch.{Batch}
use Rattle.front_table.specs.TokenView.{TokenView}
use Rattle.session_core.proofs.inbox.meet.Goals as goal

pub returns-clause-seen : goal.returns-clause-seen
returns-clause-seen c = record {
  whole = c.meet.new.self.list;
  first = subst (λ (t : TokenView Batch). IsPrefix t.list c.meet.new.self.list) c.in_ok-longest.ensures.whole c.meet.ensures.own;
  second = c.meet.ensures.others;
}
