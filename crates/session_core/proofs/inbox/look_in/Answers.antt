use Rattle.std.proofs.Common.{◌≡◌, refl, sym, ◌∙◌, ap, subst, Option, Some, Ok, Result}
use Rattle.packet_codec.specs.Replies.{Replied}
use Rattle.slot_hub.specs.declared.traits.Busy.{Busy}
use Rattle.session_core.specs.Meetings.{LooksIn}
use Rattle.session_core.proofs.inbox.look_in.Goals as goal

pub returns-then-round : goal.returns-then-round
returns-then-round g c =
    let came : c.trade_in.result ≡ Ok (Some c.in-Ok-Some.reply) = c.in-Ok-Some.is ∙ ap Ok c.in-Ok-Some.field-0-is in (
      refl,
      record {
        reply = c.in-Ok-Some.reply;
        got_is = refl;
        answers = sym c.round.ensures ∙ c.if-round.true;
        is = c.keeps.ensures;
        looks = subst (λ (r : Result (Option Replied) (Busy (Option Replied))). LooksIn {S = g.row.S.Denot} c.args.client r (g.H.Hub.seen c.args.hub.now) (g.H.Hub.seen c.trade_in.new.self)) came c.trade_in.ensures;
      },
    )
