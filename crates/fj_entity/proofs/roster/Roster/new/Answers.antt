use Rattle.std.proofs.Common.{subst, sym, List, [], ap}
use Rattle.cloud_base.specs.Values.{Id}
use Rattle.fj_entity.specs.Fates.{Fate}
use Rattle.fj_entity.specs.Kept.{fates_of}
use Rattle.fj_entity.specs.Rosters.{RosterStands}
use Rattle.fj_entity.proofs.FateLemmas.{nothing_stands}
use Rattle.fj_entity.proofs.roster.Roster.new.Goals as goal

pub returns-clause-stands : goal.returns-clause-stands
returns-clause-stands c = subst (λ (l : List (Id × Fate)). RosterStands l []) (sym (ap (λ l. fates_of l c.new-2.result) c.new.ensures)) nothing_stands
