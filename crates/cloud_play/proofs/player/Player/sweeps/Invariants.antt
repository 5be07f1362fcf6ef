use Rattle.std.proofs.Common.{◌≡◌, length, ◌<◌, ℕ, false}
use Rattle.cloud_base.specs.Answer.{answer}
use Rattle.typed_program.specs.declared.program.Parts.{Parts}
use Rattle.slot_hub.specs.Plain.{seen_of}
use Rattle.played_record.specs.Plays.{all_ended}
use Rattle.played_record.specs.Programs.{trace_of}
use Rattle.played_record.specs.Worlds.{World}
use Rattle.cloud_play.specs.Playings.{Plays, swept}
use Rattle.cloud_play.proofs.player.Player.sweeps.Given as goal

-- the sweeps so far, behind none of which all had ended
abbrev pub invariant-loop : goal.invariant-loop
invariant-loop g l = record {
  plays : (p : Parts) (w : World) → Plays p l.initial.self.runners.items l.initial.self.station.holding (seen_of g.N.Run.name l.initial.self.hub) w
      → Plays p l.self.runners.items l.self.station.holding (seen_of g.N.Run.name l.self.hub) (swept (answer p.schema) (trace_of p) (length p.bodies) l.counter w);
  least : (p : Parts) (w : World) → Plays p l.initial.self.runners.items l.initial.self.station.holding (seen_of g.N.Run.name l.initial.self.hub) w
      → (fewer : ℕ) → fewer < l.counter → all_ended (length p.bodies) (swept (answer p.schema) (trace_of p) (length p.bodies) fewer w) ≡ false;
}
