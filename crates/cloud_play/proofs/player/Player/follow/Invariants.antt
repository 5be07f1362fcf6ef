use Rattle.std.proofs.Common.{◌≡◌, length, take}
use Rattle.cloud_base.specs.Answer.{answer}
use Rattle.typed_program.specs.declared.program.Parts.{Parts}
use Rattle.slot_hub.specs.Plain.{seen_of}
use Rattle.played_record.specs.Plays.{scheduled}
use Rattle.played_record.specs.Programs.{trace_of}
use Rattle.played_record.specs.Worlds.{World}
use Rattle.cloud_play.specs.Playings.{Plays}
use Rattle.cloud_play.proofs.player.Player.follow.Given as goal

-- the items so far were done
abbrev pub invariant-loop-item : goal.invariant-loop-item
invariant-loop-item g l = record {
  as_many : length l.self.runners.items ≡ length l.initial.self.runners.items;
  plays : (p : Parts) (w : World) → Plays p l.initial.self.runners.items l.initial.self.station.holding (seen_of g.N.Run.name l.initial.self.hub) w
      → Plays p l.self.runners.items l.self.station.holding (seen_of g.N.Run.name l.self.hub) (scheduled (answer p.schema) (trace_of p) (take l.item-index l.item-items) w);
}
