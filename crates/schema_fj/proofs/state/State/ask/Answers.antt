use Rattle.std.proofs.Common.{◌∙◌, sym, ap, subst, ◌++◌}
use Rattle.std.specs.Prelude.{IsTrue}
use Rattle.cloud_base.specs.Values.{Id}
use Rattle.cloud_base.specs.Answer.{answer, all_ids, is_listed}
use Rattle.cloud_base.specs.declared.update.Answer.TheVariants.{Ids, Tuples, Truth}
use Rattle.cloud_base.proofs.OrderLemmas.{id_order_total, id_same}
use Rattle.cloud_base.proofs.SortedLemmas.{lists_one}
use Rattle.cloud_base.proofs.AnswerLemmas.{all_lists}
use Rattle.schema_fj.specs.Held.{Held}
use Rattle.schema_fj.specs.States.{StateStands}
use Rattle.schema_fj.proofs.state.State.ask.Goals as goal
use Rattle.schema_fj.proofs.state.State.ask.Goals.{in-Get, in-All+in_ok-all-in-All, in-Entries+in_ok-entries-in-Entries, in-Alive}

pub returns : goal.returns
unfolding answer
returns c schema base delta stands shaped =
    let h = subst (λ (s : Held). StateStands schema s base delta) (sym c.self.view_is) stands in
    elim c.match-query.branch [
      | in-Get w ↦ w.result-is ∙ w.get.ensures schema base delta stands ∙ ap (answer schema (base ++ delta)) (sym w.in-Get.is)
      | in-All+in_ok-all-in-All w ↦
          w.result-is
          ∙ ap Ids (lists_one id_order_total id_same w.in_ok-all-in-All.field-0 (all_ids (base ++ delta) w.in-All.entity) (λ (id : Id). IsTrue (is_listed (base ++ delta) w.in-All.entity id))
          (w.in_ok-all-in-All.ensures (base ++ delta) h.holds.roster) (all_lists (base ++ delta) w.in-All.entity))
          ∙ ap (answer schema (base ++ delta)) (sym w.in-All.is)
      | in-Entries+in_ok-entries-in-Entries w ↦ w.result-is ∙ ap Tuples (w.in_ok-entries-in-Entries.ensures schema base delta stands) ∙ ap (answer schema (base ++ delta)) (sym w.in-Entries.is)
      | in-Alive w ↦ w.result-is ∙ ap Truth (w.alive.ensures schema base delta stands) ∙ ap (answer schema (base ++ delta)) (sym w.in-Alive.is)
    ]
