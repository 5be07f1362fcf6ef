use Rattle.std.proofs.Common.{◌≡◌, sym, ◌∙◌}
use Rattle.std.specs.Prelude.{false}
use Rattle.cloud_base.specs.Values.{Id}
use Rattle.cloud_base.specs.Order.{id_order}
use Rattle.cloud_base.specs.Dead.{is_dead}
use Rattle.cloud_base.specs.Sorted.{Lists}
use Rattle.cloud_base.specs.declared.update.Update.{Update}
use Rattle.std.proofs.Common.{List}
use Rattle.fj_entity.specs.Rosters.{RosterStands, IsDoomed}
use Rattle.fj_entity.proofs.FateLemmas.{gone_means}
use Rattle.fj_entity.proofs.RosterLemmas.{none_doomed, if_ok}
use Rattle.fj_entity.proofs.roster.Roster.dependents.Goals as goal

pub returns-then-is_gone : goal.returns-then-is_gone
returns-then-is_gone c log stands = none_doomed log c.args.root c.new.result c.new.ensures (sym (gone_means c.args.self.now log c.args.root stands) ∙ sym c.is_gone.ensures ∙ c.if-is_gone.true)

pub returns-else-is_gone : goal.returns-else-is_gone
returns-else-is_gone c =
    if_ok (λ (died : List Id). (log : List Update) → RosterStands c.args.self.now log → is_dead log c.args.root ≡ false → Lists id_order died (IsDoomed log c.args.root))
    (λ (died : List Id). (log : List Update) → RosterStands c.args.self.now log → Lists id_order died (IsDoomed log c.args.root))
    c.walk.result (λ died f log stands. f log stands (sym (gone_means c.args.self.now log c.args.root stands) ∙ sym c.is_gone.ensures ∙ c.if-is_gone.false)) c.walk.ensures
