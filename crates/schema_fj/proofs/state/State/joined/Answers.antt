use Rattle.std.proofs.Common.{sym, subst, List, ◌++◌}
use Rattle.std.proofs.lemmas.List.{append_assoc}
use Rattle.cloud_base.specs.Values.{Id}
use Rattle.cloud_base.specs.Shaped.{CreatedOnce}
use Rattle.fj_array.specs.declared.effect.CellEffect.{CellEffect}
use Rattle.fj_entity.specs.declared.created.Created.{Created}
use Rattle.change_lists.specs.Lists.{ChangeLists}
use Rattle.schema_fj.specs.Joined.{JoinsCells}
use Rattle.schema_fj.specs.States.{StateHolds}
use Rattle.schema_fj.specs.Told.{AreNew, creates, deletes}
use Rattle.schema_fj.proofs.StateJoin.{are_new, new_to_joiner, joined_holds}
use Rattle.schema_fj.proofs.state.State.joined.Goals as goal

pub returns : goal.returns
returns c schema base delta before after stands told part fit =
    let change : ChangeLists = c.args.change.now in
    let once : CreatedOnce (base ++ delta ++ after) = subst CreatedOnce (sym (append_assoc base delta after)) fit.once in
    let new = are_new change.created (base ++ delta) told.created.ascends (new_to_joiner (base ++ delta) before after change.created once told.created) in
    let created = c.in_ok-create_all.ensures schema base delta (c.in_ok-joined.ensures schema base delta stands.holds) (subst (λ (l : List Created). AreNew l (base ++ delta)) (sym c.created.ensures.created) new) in
    let deleted = c.in_ok-delete_all.ensures schema base (delta ++ creates c.created.result.now) created in
    let now : StateHolds schema c.delete_all.new.self base (delta ++ (creates change.created ++ deletes change.dead)) =
    subst (λ (l : List Created). StateHolds schema c.delete_all.new.self base (delta ++ (creates l ++ deletes change.dead))) c.created.ensures.created
    (subst (λ (l : List Id). StateHolds schema c.delete_all.new.self base (delta ++ (creates c.created.result.now ++ deletes l))) c.dead.ensures.dead
    (subst (StateHolds schema c.delete_all.new.self base) (append_assoc delta (creates c.created.result.now) (deletes c.dead.result.now)) deleted)) in
    record {
      fit = fit;
      holds = joined_holds schema c.delete_all.new.self c.join_cells.new.self base delta before after (record { parts = c.cell_orders.ensures.by_parts; total = c.cell_orders.ensures.total; apart = c.cell_orders.ensures.apart }) change part fit told now
          (subst (λ (l : List CellEffect). JoinsCells l c.delete_all.new.self c.join_cells.new.self) c.cells.ensures.cells c.in_ok-join_cells.ensures);
    }
