use Rattle.std.proofs.Common.{◌≡◌, ℕ, List, Option, ◌∙◌, ap}
use Rattle.cloud_base.specs.declared.batch.Batch.{Batch}
use Rattle.cloud_base.specs.declared.batch.Tail.{Tail}
use Rattle.cloud_base.specs.declared.update.Event.{Event}
use Rattle.session_core.specs.Standings.{Standing, Sessioned, base_now, tail_of}
use Rattle.session_core.specs.Insides.{stands_in}
use Rattle.session_core.proofs.session.Session.finish.Goals as goal

abbrev tail : Option Batch → Option ℕ → List Event → List Event → Tail
tail sent base before rest = record { sent = sent; now = record { base = base; before = before; rest = rest } }

tail_is : (s : Standing) (sent : Option Batch) (base : Option ℕ) (before rest : List Event) → sent ≡ s.sent → base ≡ base_now sent s.past.list → before ≡ s.before → rest ≡ s.rest → tail sent base before rest ≡ tail_of s
tail_is s sent base before rest sent_is base_is before_is rest_is =
    ap (λ (o : Option ℕ). tail sent o before rest) base_is
    ∙ ap (λ (o : Option Batch). tail o (base_now o s.past.list) before rest) sent_is
    ∙ ap (λ (l : List Event). tail s.sent (base_now s.sent s.past.list) l rest) before_is
    ∙ ap (λ (l : List Event). tail s.sent (base_now s.sent s.past.list) s.before l) rest_is

pub returns-clause-tail : goal.returns-clause-tail
returns-clause-tail c =
    let r = c.sent_and_base-sent in
    tail_is (stands_in c.self.inside) r.result.0 r.result.1 c.into_list.result c.into_list-2.result r.ensures.sent r.ensures.base c.into_list.ensures c.into_list-2.ensures
    ∙ ap (λ (v : Sessioned). tail_of v.stands) c.self.view_is
