use Rattle.std.proofs.Common.{ap, ◌∙◌}
use Rattle.kind_names.proofs.Searched.{named_within, named_beyond}
use Rattle.kind_names.proofs.index.key_at.Goals as goal

pub returns-in-Some : goal.returns-in-Some
returns-in-Some g c =
    let there = c.in-Some.ensures.lookup in
    c.key.ensures ∙ ap g.T.Keyed.seen there.1 ∙ named_within g.T.Keyed.seen c.args.items.now c.args.number c.in-Some.item.now there.3.0

pub returns-in-None : goal.returns-in-None
returns-in-None g c = named_beyond g.T.Keyed.seen c.args.items.now c.args.number c.in-None.ensures.lookup.3
