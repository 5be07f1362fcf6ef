use Rattle.std.proofs.Common.{◌≡◌, refl, sym, ◌∙◌, subst, arith, ℕ, ◌<◌, ◌+◌}
use Rattle.std.specs.Prelude.{suc}
use Rattle.cloud_base.specs.Answer.{answer}
use Rattle.slot_hub.specs.Plain.{seen_of}
use Rattle.played_record.specs.Plays.{steps}
use Rattle.played_record.specs.Programs.{trace_of}
use Rattle.cloud_play.specs.Playings.{Plays}
use Rattle.cloud_play.proofs.player.Player.steps.Goals as goal

one_more : (n : ℕ) → suc n ≡ n + 1
one_more n = omega arith

pub loop-init : goal.loop-init
loop-init g c = record { as_many = refl; plays = λ p w h. h }

pub step-requires-clause-client : goal.step-requires-clause-client
step-requires-clause-client g c = subst (λ (n : ℕ). c.args.client < n) (sym c.loop.invariant.as_many) c.requires.client

pub step-requires-clause-playing : goal.step-requires-clause-playing
step-requires-clause-playing g c =
    let p = c.requires.playing.program in
    let w = c.requires.playing.world in
    record { program = p; world = steps (answer p.schema) (trace_of p) c.args.client c.loop.counter w; plays = c.loop.invariant.plays p w c.requires.playing.plays }

pub loop-preserved : goal.loop-preserved
loop-preserved g c =
    let q = c.requires.playing.program in
    let v = c.requires.playing.world in
    record {
      as_many = (c.in_ok-step.ensures q (steps (answer q.schema) (trace_of q) c.args.client c.loop.counter v) (c.loop.invariant.plays q v c.requires.playing.plays)).count
          ∙ sym c.requires.playing.plays.count;
      plays = λ p w h. subst
          (λ (n : ℕ). Plays p c.step.new.self.runners.items c.step.new.self.station.holding (seen_of g.N.Run.name c.step.new.self.hub) (steps (answer p.schema) (trace_of p) c.args.client n w))
          (one_more c.loop.counter)
          (c.in_ok-step.ensures p (steps (answer p.schema) (trace_of p) c.args.client c.loop.counter w) (c.loop.invariant.plays p w h));
    }

pub returns : goal.returns
returns g c = λ p w h.
    let at_end = c.loop.auto.counter-end in
    let over = c.loop-test.false in
    let same : c.loop.counter ≡ c.args.count = omega (arith, at_end, over) in
    subst (λ (n : ℕ). Plays p c.loop.self.runners.items c.loop.self.station.holding (seen_of g.N.Run.name c.loop.self.hub) (steps (answer p.schema) (trace_of p) c.args.client n w)) same
    (c.loop.invariant.plays p w h)
