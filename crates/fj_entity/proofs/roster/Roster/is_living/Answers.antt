use Rattle.std.proofs.Common.{sym, ◌∙◌, ap}
use Rattle.std.specs.Prelude.{is_some}
use Rattle.fj_entity.specs.Fates.{fate_at}
use Rattle.fj_entity.proofs.KeptLemmas.{copied_some, living_by}
use Rattle.fj_entity.proofs.roster.Roster.is_living.Goals as goal

pub returns : goal.returns
returns c = c.is_some.ensures ∙ sym (copied_some c.birth.result) ∙ ap is_some c.birth.ensures ∙ living_by (fate_at c.args.self.now c.args.id)
