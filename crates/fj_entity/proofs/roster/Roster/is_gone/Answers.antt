use Rattle.std.proofs.Common.{sym, ◌∙◌, ap}
use Rattle.std.specs.Prelude.{not}
use Rattle.fj_entity.specs.Fates.{fate_at}
use Rattle.fj_entity.proofs.FateLemmas.{gone_kept, gone_none}
use Rattle.fj_entity.proofs.roster.Roster.is_gone.Goals as goal

pub returns-then-is_known : goal.returns-then-is_known
returns-then-is_known c = ap not c.is_living.ensures ∙ gone_kept (fate_at c.args.self.now c.args.id) (sym c.is_known.ensures ∙ c.if-is_known.true)

pub returns-else-is_known : goal.returns-else-is_known
returns-else-is_known c = c.if-is_known.false ∙ gone_none (fate_at c.args.self.now c.args.id) (sym c.is_known.ensures ∙ c.if-is_known.false)
