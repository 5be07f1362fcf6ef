use Rattle.std.proofs.Common.{◌≡◌, refl, sym, subst, inr}
use Rattle.std.specs.Prelude.{Option, Some, Ok}
use Rattle.slot_hub.specs.Runs.{Named, Carries}
use Rattle.packet_codec.specs.Pushes.{Pushed}
use Rattle.packet_codec.specs.Runs.{push_of_run}
use Rattle.server_core.specs.Weathers.{Draws}
use Rattle.server_core.specs.Stations.{Holding, Handles, TakesOut, Takes, push_client}
use Rattle.server_core.proofs.Touching.{looked_out}
use Rattle.server_core.proofs.station.Station.serve_next.Goals as goal

pub handle-requires-clause-push : goal.handle-requires-clause-push
handle-requires-clause-push g c =
    let lies : c.in-Ok-Some.field-0 ≡ Some c.in-Ok-Some.push = cc in
    subst (λ (run : Named). Carries push_client push_of_run run c.args.client c.in-Ok-Some.push) (sym c.trade_out.ensures.keeps.run)
    (c.in-Ok-Some.ensures.got c.in-Ok-Some.push lies)

pub returns-in-Ok-Some-clause-ok : goal.returns-in-Ok-Some-clause-ok
returns-in-Ok-Some-clause-ok g c =
    let lies : c.in-Ok-Some.field-0 ≡ Some c.in-Ok-Some.push = cc in
    let before = g.H.Hub.seen c.args.hub.now in
    let taken = g.H.Hub.seen c.trade_out.new.self in
    let after = g.H.Hub.seen c.handle.new.hub in
    let takes : Takes c.args.client c.draw-fate.result c.in-Ok-Some.push.batch.round c.args.self.now.holding c.handle.new.self.holding before after = record {
      push = c.in-Ok-Some.push;
      round_is = refl;
      taken = taken;
      takes = subst (λ (got : Option Pushed). TakesOut c.args.client (Ok got) before taken) lies c.in-Ok-Some.ensures;
      handles = subst (λ (h : Holding). Handles c.args.client c.draw-fate.result c.in-Ok-Some.push h c.handle.new.self.holding taken after) c.draw-fate.ensures.same c.in_ok-handle-in-Ok-Some.ensures.ok;
    } in (
      c.draw-fate.result,
      c.in-Ok-Some.push.batch.round,
      takes,
      subst (λ (w : g.row.W.Denot). Draws c.draw-fate.result (g.W.Weather.fates c.args.self.now.weather) (g.W.Weather.fates w)) (sym c.handle.ensures.weather) c.draw-fate.ensures.drawn,
    )

pub returns-clause-ok : goal.returns-clause-ok
returns-clause-ok g c = ((refl, inr (c.in-Err.field-0.holder, record { busy = c.in-Err.field-0; holder_is = refl; takes = c.in-Err.ensures })), refl)

pub returns-in-Ok-Some-clause-looked : goal.returns-in-Ok-Some-clause-looked
returns-in-Ok-Some-clause-looked g c = looked_out c.args.client (Ok c.in-Ok-Some.field-0) (g.H.Hub.seen c.args.hub.now) (g.H.Hub.seen c.trade_out.new.self) (g.H.Hub.seen c.handle.new.hub) c.in-Ok-Some.ensures c.handle.ensures.touches.leaves.keeps
