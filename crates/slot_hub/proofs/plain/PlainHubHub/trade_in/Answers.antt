use Rattle.std.proofs.Common.{◌≡◌, rules, refl, length, ◌<◌, ◌∙◌, ap, subst, sym, Ok, Some, None}
use Rattle.std.specs.Vec.{with_item}
use Rattle.std.proofs.lemmas.Option.{slice_get-get_or, get_or_from_slice_get}
use Rattle.std.proofs.lemmas.List.{get_or-set_same}
use Rattle.slot_hub.specs.Plain.{Held, seen_of}
use Rattle.slot_hub.specs.Trades.{TradesIn, taken_round}
use Rattle.slot_hub.proofs.plain.PlainHubHub.trade_in.Goals as goal

pub returns : goal.returns
returns g c =
    let boxes = c.self.inside.inboxes.items in
    let rounds = c.self.inside.rounds.items in
    let after : Held g.row.S.Denot g.row.P.Denot g.row.R.Denot = record {
      outboxes = c.self.inside.outboxes.items;
      inboxes = c.swap.new.boxes.items;
      rounds = (with_item c.self.inside.rounds c.args.client c.last_taken.result).items;
      server = c.self.inside.server;
    } in
    let few-rounds : c.args.client < length rounds = search rules in
    let few-boxes : c.args.client < length boxes = search rules in
    let lies = slice_get-get_or boxes c.args.client None few-boxes in
    let held : c.index.result.now ≡ c.swap.result = c.index.ensures ∙ get_or_from_slice_get boxes c.args.client _ c.index.result.now lies ∙ sym c.swap.ensures.held in
    let before = c.index-2.ensures ∙ get_or_from_slice_get rounds c.args.client _ c.index-2.result.now (slice_get-get_or rounds c.args.client 0 few-rounds) in
    subst (λ (h : Held g.row.S.Denot g.row.P.Denot g.row.R.Denot). TradesIn g.R.Numbered.client_of g.R.Numbered.round_of g.R.Numbered.of_run c.args.client c.args.new (Ok c.swap.result) (seen_of g.N.Run.name h) (seen_of g.N.Run.name after)) c.self.view_is record {
      keeps = search rules;
      took = refl;
      taken = get_or-set_same rounds c.args.client c.last_taken.result 0 few-rounds
          ∙ c.last_taken.ensures
          ∙ ap (λ r. taken_round g.R.Numbered.round_of c.args.new r c.index-2.result.now) held
          ∙ ap (taken_round g.R.Numbered.round_of c.args.new c.swap.result) before;
      untaken = search rules;
      others = search rules;
      got = c.self.invariant.into c.args.client c.swap.result (lies ∙ ap Some (sym c.swap.ensures.held));
      told = search rules;
      free = search rules;
      busy = search rules;
    }
