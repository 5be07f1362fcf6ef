use Rattle.std.proofs.Common.{arith, rules}
use Rattle.std.proofs.lemmas.List.{length-take}
use Rattle.cloud_run.specs.Flows.{most_read}
use Rattle.cloud_run.proofs.Pieces.{handed_more}
use Rattle.cloud_run.proofs.flows.take_all.Goals as goal

pub returns-in_err-take_piece : goal.returns-in_err-take_piece
returns-in_err-take_piece g c =
    record {
      reads = record {
        fault = search rules;
        no_fault = search rules;
        handed = handed_more _ _ _ c.loop-piece.taken.items _ most_read (omega (arith, length-take c.min-room.result c.loop-piece.piece)) c.loop-piece.invariant.parts c.take_piece.ensures.read.reads.handed;
        later = search rules;
        unended = search rules;
      };
      parts = search rules;
      end = search rules;
      seen = search rules;
      unseen = search rules;
    }
