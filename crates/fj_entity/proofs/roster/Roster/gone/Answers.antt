use Rattle.std.proofs.Common.{sym, ◌∙◌, ap, List, filter}
use Rattle.std.specs.Prelude.{not}
use Rattle.std.specs.Map.{keys_of}
use Rattle.cloud_base.specs.Values.{Id}
use Rattle.fj_entity.specs.Fates.{Fate, fate_at, is_living}
use Rattle.fj_entity.proofs.KeptLemmas.{same_keys}
use Rattle.fj_entity.proofs.ListLemmas.{lists_gone}
use Rattle.fj_entity.proofs.roster.Roster.gone.Goals as goal

pub returns : goal.returns
returns c log stands =
    let r = c.self.inside in
    lists_gone c.args.self.now log c.from_vec.result c.in_order.ensures stands
    (c.from_vec.ensures ∙ c.in_ok-dead_among.ensures
    ∙ ap (filter (λ id. not (is_living (fate_at c.args.self.now id)))) (sym (same_keys r.known r.births) ∙ ap (λ (l : List (Id × Fate)). keys_of l) c.self.view_is))
