use Rattle.std.proofs.Common.{rules}
use Rattle.std.specs.Prelude.{not}
use Rattle.std.proofs.lemmas.Fn.{filter_same}
use Rattle.fj_entity.specs.Fates.{fate_at, is_gone}
use Rattle.schema_fj.proofs.ids.keep_living.Goals as goal

pub returns : goal.returns
returns c = filter_same _ (λ x. not (is_gone (fate_at c.args.roster.now x))) _ (λ x b f' t. (search rules, search rules)) _ _ c.retain.ensures.filtered
