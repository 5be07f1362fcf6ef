-- How a step of a client comes out.
use Rattle.std.specs.Prelude.{◌≡◌, ◌≢◌, ℕ, ◌+◌, ◌-◌, ◌^◌, min, Option, Some, None}
use Rattle.cloud_base.specs.declared.end.End.{End}
use Rattle.session_core.specs.declared.flushing.Flushing.{Flushing}
use Rattle.session_core.specs.declared.flushing.Flushing.TheVariants.{Closed}
use Rattle.session_core.specs.declared.turns.Turn.{Turn}
use Rattle.session_core.specs.declared.turns.Turn.TheVariants as turn
use Rattle.client_runner.specs.declared.stepped.Mode.{Mode}
use Rattle.client_runner.specs.declared.stepped.Mode.TheVariants as mode
use Rattle.client_runner.specs.declared.stepped.Stepped.{Stepped}
use Rattle.client_runner.specs.declared.stepped.Stepped.TheVariants as stepped

-- where a flush is met its client goes on, and else it waits
abbrev pub after_turn : Turn → Stepped
after_turn turn.Done = stepped.Went
after_turn (turn.NotYet outstanding taken) = stepped.Waits

-- the end of a run that is over
abbrev pub end_of : Stepped → Option End
end_of stepped.Went = None
end_of stepped.Yields = None
end_of stepped.Waits = None
end_of (stepped.Ended end) = Some end

-- where a step leaves a run
abbrev pub mode_after : Stepped → Mode
mode_after stepped.Went = mode.Goes
mode_after stepped.Yields = mode.Goes
mode_after stepped.Waits = mode.Waits
mode_after (stepped.Ended end) = mode.Ended end

abbrev pub ended_in : Mode → Option End
ended_in mode.Goes = None
ended_in mode.Waits = None
ended_in (mode.Ended end) = Some end

-- a client waits exactly where its flush is open
abbrev pub IsMode : Mode → Flushing → Type 0
IsMode mode.Goes flush = flush ≡ Closed
IsMode mode.Waits flush = flush ≢ Closed
IsMode (mode.Ended end) flush = flush ≡ Closed

-- how many needs were had: a step of a client that waits, or has ended, takes none
abbrev pub needs_after : Mode → ℕ → ℕ
needs_after mode.Goes n = min (n + 1) (2 ^ 64 - 1)
needs_after mode.Waits n = n
needs_after (mode.Ended end) n = n
