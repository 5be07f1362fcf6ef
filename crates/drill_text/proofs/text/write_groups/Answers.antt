use Rattle.drill_text.proofs.Groups.{group_step}
use Rattle.drill_text.proofs.text.write_groups.Goals as goal

pub loop-group-preserved : goal.loop-group-preserved
loop-group-preserved c =
    group_step c.args.out.now.items c.loop-group.out.items c.write_group.new.out.items c.args.n c.args.client c.loop-group.group c.loop-group.number c.following-number.result
    c.loop-group.invariant.0 c.loop-group.invariant.1 c.following-number.ensures c.in_ok-write_group.ensures
