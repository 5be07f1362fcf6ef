use Rattle.std.proofs.Common.{◌≡◌, take}
use Rattle.cloud_base.specs.Values.{Id}
use Rattle.fj_entity.specs.Fates.{fate_at, buried, is_among}
use Rattle.fj_entity.proofs.roster.Roster.bury_all.Given as goal

abbrev pub invariant-loop-id : goal.invariant-loop-id
invariant-loop-id l = (x : Id) → fate_at l.self x ≡ buried (is_among x (take l.id-index l.ids)) (fate_at l.fn.self x)
