use Rattle.std.proofs.Common.{◌≡◌, sym, ◌∙◌, subst, arith, ℕ, ◌+◌, length, false, below_none, below_more}
use Rattle.std.specs.Prelude.{suc}
use Rattle.cloud_base.specs.Answer.{answer}
use Rattle.typed_program.specs.declared.program.Parts.{Parts}
use Rattle.slot_hub.specs.Plain.{seen_of}
use Rattle.played_record.specs.Plays.{all_ended}
use Rattle.played_record.specs.Programs.{trace_of}
use Rattle.played_record.specs.Worlds.{World}
use Rattle.cloud_play.specs.Playings.{Plays, swept}
use Rattle.cloud_play.proofs.player.Player.sweeps.Goals as goal

one_more : (n : ℕ) → suc n ≡ n + 1
one_more n = omega arith

-- the world behind so many sweeps of a program's clients
abbrev after : Parts → World → ℕ → World
after p w n = swept (answer p.schema) (trace_of p) (length p.bodies) n w

abbrev AreGoing : Parts → World → ℕ → Type 0
AreGoing p w n = all_ended (length p.bodies) (after p w n) ≡ false

pub loop-init : goal.loop-init
loop-init g c = record { plays = λ p w h. h; least = λ p w h. below_none (AreGoing p w) }

pub returns-then-have_ended : goal.returns-then-have_ended
returns-then-have_ended g c = λ p w h.
    let n = c.loop.counter in
    let plays = c.loop.invariant.plays p w h in
    record { count = n; plays = plays; all = sym (c.have_ended.ensures p (after p w n) plays) ∙ c.if-have_ended.true; least = c.loop.invariant.least p w h }

pub sweep-requires : goal.sweep-requires
sweep-requires g c =
    let p = c.requires.playing.program in
    let w = c.requires.playing.world in
    record { playing = record { program = p; world = after p w c.loop.counter; plays = c.loop.invariant.plays p w c.requires.playing.plays } }

pub loop-preserved : goal.loop-preserved
loop-preserved g c =
    let n = c.loop.counter in
    let now = c.sweep.new.self in
    record {
      plays = λ p w h. subst (λ (k : ℕ). Plays p now.runners.items now.station.holding (seen_of g.N.Run.name now.hub) (after p w k)) (one_more n)
          (c.in_ok-sweep.ensures p (after p w n) (c.loop.invariant.plays p w h));
      least = λ p w h. below_more (AreGoing p w) n (c.loop.invariant.least p w h)
          (sym (c.have_ended.ensures p (after p w n) (c.loop.invariant.plays p w h)) ∙ c.if-have_ended.false);
    }
