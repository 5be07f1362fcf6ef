use Rattle.std.proofs.Common.{subst, ℕ, Option, Ok, Result}
use Rattle.packet_codec.specs.Pushes.{Pushed}
use Rattle.slot_hub.specs.declared.traits.Busy.{Busy}
use Rattle.session_core.specs.Meetings.{PutsOut}
use Rattle.session_core.proofs.outbox.hand_out.Goals as goal

pub returns-then-again : goal.returns-then-again
returns-then-again g c = (
  c.if-again.true,
  record {
    number = c.round-round.ensures;
    found = c.in-Ok.field-0;
    puts = subst (λ (n : ℕ). PutsOut {S = g.row.S.Denot} n c.args.push (Ok c.in-Ok.field-0) (g.H.Hub.seen c.args.hub.now) (g.H.Hub.seen c.trade_out.new.self)) c.client-client.ensures
        (subst (λ (r : Result (Option Pushed) (Busy (Option Pushed))). PutsOut {S = g.row.S.Denot} c.client-client.result c.args.push r (g.H.Hub.seen c.args.hub.now) (g.H.Hub.seen c.trade_out.new.self)) c.in-Ok.is c.trade_out.ensures);
  },
)

pub returns-in-Ok : goal.returns-in-Ok
returns-in-Ok g c = (
  c.if-again.false,
  record {
    number = c.round-round.ensures;
    found = c.in-Ok.field-0;
    puts = subst (λ (n : ℕ). PutsOut {S = g.row.S.Denot} n c.args.push (Ok c.in-Ok.field-0) (g.H.Hub.seen c.args.hub.now) (g.H.Hub.seen c.trade_out.new.self)) c.client-client.ensures
        (subst (λ (r : Result (Option Pushed) (Busy (Option Pushed))). PutsOut {S = g.row.S.Denot} c.client-client.result c.args.push r (g.H.Hub.seen c.args.hub.now) (g.H.Hub.seen c.trade_out.new.self)) c.in-Ok.is c.trade_out.ensures);
  },
)
