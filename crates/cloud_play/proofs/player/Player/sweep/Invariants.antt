use Rattle.std.proofs.Common.{◌≡◌, length}
use Rattle.cloud_base.specs.Answer.{answer}
use Rattle.typed_program.specs.declared.program.Parts.{Parts}
use Rattle.slot_hub.specs.Plain.{seen_of}
use Rattle.played_record.specs.Plays.{sweep}
use Rattle.played_record.specs.Programs.{trace_of}
use Rattle.played_record.specs.Worlds.{World}
use Rattle.cloud_play.specs.Playings.{Plays}
use Rattle.cloud_play.proofs.player.Player.sweep.Given as goal

-- the first clients were swept
abbrev pub invariant-loop-client : goal.invariant-loop-client
invariant-loop-client g l = record {
  as_many : length l.self.runners.items ≡ length l.initial.self.runners.items;
  plays : (p : Parts) (w : World) → Plays p l.initial.self.runners.items l.initial.self.station.holding (seen_of g.N.Run.name l.initial.self.hub) w
      → Plays p l.self.runners.items l.self.station.holding (seen_of g.N.Run.name l.self.hub) (sweep (answer p.schema) (trace_of p) l.client w);
}
