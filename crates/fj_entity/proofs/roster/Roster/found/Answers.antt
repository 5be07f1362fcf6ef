use Rattle.std.proofs.Common.{refl, sym, ◌∙◌, ap, Some, None}
use Rattle.fj_entity.specs.Fates.{fate_at, created_at}
use Rattle.fj_entity.proofs.KeptLemmas.{born, unborn}
use Rattle.fj_entity.proofs.roster.Roster.found.Goals as goal

pub returns-in-Some : goal.returns-in-Some
returns-in-Some c = ap Some c.created.ensures ∙ sym (ap (created_at c.args.id) (born (fate_at c.args.self.now c.args.id) c.in-Some.birth.now c.in-Some.ensures))

pub returns-in-None : goal.returns-in-None
returns-in-None c = unborn (created_at c.args.id) None refl refl (fate_at c.args.self.now c.args.id) c.in-None.ensures
