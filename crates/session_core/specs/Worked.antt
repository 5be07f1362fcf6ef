-- A session's steps, worked.
use Rattle.std.specs.Prelude.{◌≡◌, refl, ℕ, pos, [], ◌∷◌, Option, Some, None}
use Rattle.cloud_base.specs.declared.batch.Stretch.{Stretch}
use Rattle.cloud_base.specs.declared.batch.Batch.{Batch}
use Rattle.cloud_base.specs.declared.update.Answer.TheVariants.{Int}
use Rattle.cloud_base.specs.declared.update.CellChange.TheVariants.{Add}
use Rattle.cloud_base.specs.declared.update.Event.TheVariants.{Do, Say, Yield, Flush}
use Rattle.cloud_base.specs.declared.update.Update.{Update}
use Rattle.cloud_base.specs.declared.update.Update.TheVariants.{Cell}
use Rattle.front_table.specs.TokenView.{TokenView}
use Rattle.slot_hub.specs.Runs.{nowhere}
use Rattle.session_core.specs.declared.flushing.Flushing.TheVariants.{Closed, Marked, Sent}
use Rattle.session_core.specs.Standings.{Standing, seen, tail_of}
use Rattle.session_core.specs.Sessions.{IsLater, noted, noted_at, sends, took}

abbrev adds : Update
adds = Cell 0 [] (Add (pos 2))

abbrev nothing : TokenView Batch
nothing = record { chronicle = nowhere; list = [] }

-- client 3 did nothing yet
abbrev fresh : Standing
fresh = record {
  schema = record { properties = []; entities = [] };
  client = 3;
  past = nothing;
  own = nothing;
  sent = None;
  before = [];
  rest = [];
  reply = None;
  flush = Closed;
}

abbrev first : Batch
first = record { client = 3; round = 1; base = 0; before = []; rest = Do adds ∷ Yield ∷ [] }

-- it adds, yields, and prints before its first round is answered
abbrev yielded : Standing
yielded = noted (Say (Int (pos 2))) (sends (noted Yield (noted (Do adds) fresh)))

-- the round is outstanding, what came since runs before the pull, and the client sees its update
pub example_yielded : (yielded.sent ≡ Some first) × (yielded.own.list ≡ first ∷ []) ×
    (yielded.before ≡ Say (Int (pos 2)) ∷ []) × (yielded.rest ≡ []) × (seen yielded ≡ adds ∷ [])
example_yielded = (refl, refl, refl, refl, refl)

-- a round that is outstanding is put out again as it is
pub example_again : sends yielded ≡ yielded
example_again = refl

-- its tail has no base until the reply is taken, which tells of another client's batch as well
abbrev other : Batch
other = record { client = 5; round = 1; base = 0; before = []; rest = Do adds ∷ Yield ∷ [] }

abbrev pulled : Standing
pulled = took (record { chronicle = nowhere; list = other ∷ first ∷ [] }) yielded

abbrev printed : Option ℕ → Stretch
printed base = record { base = base; before = Say (Int (pos 2)) ∷ []; rest = [] }

pub example_tails : (tail_of yielded ≡ record { sent = Some first; now = printed None })
    × (tail_of pulled ≡ record { sent = None; now = printed (Some 2) })
    × (seen pulled ≡ adds ∷ adds ∷ [])
example_tails = (refl, refl, refl)

-- a flush is open from its mark until the reply to the round that its mark ends is taken
pub example_flush : ((sends (noted_at Marked Flush fresh)).flush ≡ Sent) ×
    ((took nothing (sends (noted_at Marked Flush fresh))).flush ≡ Closed) ×
    ((took nothing (noted_at Marked Flush yielded)).flush ≡ Marked)
example_flush = (refl, refl, refl)

-- its client did the same, and has seen more, behind a turn
pub example_later : IsLater yielded pulled
example_later = record {
  schema = refl;
  client = refl;
  done = refl;
  past = (other ∷ first ∷ [], refl);
  own = ([], refl);
}
