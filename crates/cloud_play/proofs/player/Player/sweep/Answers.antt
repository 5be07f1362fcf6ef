use Rattle.std.proofs.Common.{◌≡◌, refl, sym, ◌∙◌, subst, arith, ℕ, ◌+◌, length}
use Rattle.std.specs.Prelude.{suc}
use Rattle.cloud_base.specs.Answer.{answer}
use Rattle.slot_hub.specs.Plain.{seen_of}
use Rattle.played_record.specs.Plays.{sweep}
use Rattle.played_record.specs.Programs.{trace_of}
use Rattle.cloud_play.specs.Playings.{Plays}
use Rattle.cloud_play.proofs.Ends.{as_many_bodies}
use Rattle.cloud_play.proofs.player.Player.sweep.Goals as goal

one_more : (n : ℕ) → suc n ≡ n + 1
one_more n = omega arith

pub overflow_cast-clients : goal.overflow_cast-clients
overflow_cast-clients g c =
    let count = c.requires.playing.plays.count in
    let few = c.requires.playing.plays.program.few_clients in
    let len = c.len-clients.ensures in
    omega (arith, count, few, len)

pub loop-client-init : goal.loop-client-init
loop-client-init g c = record { as_many = refl; plays = λ p w h. h }

pub sweep_client-requires-clause-client : goal.sweep_client-requires-clause-client
sweep_client-requires-clause-client g c =
    let less = c.loop-client-test.true in
    let len = c.len-clients.ensures in
    let same = c.loop-client.invariant.as_many in
    omega (arith, less, len, same)

pub sweep_client-requires-clause-playing : goal.sweep_client-requires-clause-playing
sweep_client-requires-clause-playing g c =
    let p = c.requires.playing.program in
    let w = c.requires.playing.world in
    record { program = p; world = sweep (answer p.schema) (trace_of p) c.loop-client.client w; plays = c.loop-client.invariant.plays p w c.requires.playing.plays }

pub loop-client-preserved : goal.loop-client-preserved
loop-client-preserved g c =
    let now = c.sweep_client.new.self in
    let k = c.loop-client.client in
    let q = c.requires.playing.program in
    let v = c.requires.playing.world in
    record {
      as_many = (c.in_ok-sweep_client.ensures q (sweep (answer q.schema) (trace_of q) k v) (c.loop-client.invariant.plays q v c.requires.playing.plays)).count ∙ sym c.requires.playing.plays.count;
      plays = λ p w h. subst
          (λ (n : ℕ). Plays p now.runners.items now.station.holding (seen_of g.N.Run.name now.hub) (sweep (answer p.schema) (trace_of p) n w)) (one_more k)
          (c.in_ok-sweep_client.ensures p (sweep (answer p.schema) (trace_of p) k w) (c.loop-client.invariant.plays p w h));
    }

pub returns : goal.returns
returns g c = λ p w h.
    let old = c.args.self.now in
    let now = c.loop-client.self in
    let at_end = c.loop-client.auto.client-end in
    let over = c.loop-client-test.false in
    let len = c.len-clients.ensures in
    let bodies = as_many_bodies p old.runners.items old.station.holding (seen_of g.N.Run.name old.hub) w h in
    let same : c.loop-client.client ≡ length p.bodies = omega (arith, at_end, over, len, bodies) in
    subst (λ (n : ℕ). Plays p now.runners.items now.station.holding (seen_of g.N.Run.name now.hub) (sweep (answer p.schema) (trace_of p) n w)) same
    (c.loop-client.invariant.plays p w h)
