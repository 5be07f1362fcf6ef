use Rattle.std.proofs.Common.{refl, sym, ap, false}
use Rattle.fj_entity.specs.Fates.{fate_at, is_member}
use Rattle.fj_entity.proofs.KeptLemmas.{born, unborn}
use Rattle.fj_entity.proofs.roster.Roster.is_member.Goals as goal

pub returns-in-Some : goal.returns-in-Some
returns-in-Some c = sym (ap (is_member c.args.entity) (born (fate_at c.args.self.now c.args.id) c.in-Some.birth.now c.in-Some.ensures))

pub returns-in-None : goal.returns-in-None
returns-in-None c = unborn (is_member c.args.entity) false refl refl (fate_at c.args.self.now c.args.id) c.in-None.ensures
