-- What ran since the last push, with room for more.
use Rattle.std.specs.Prelude.{ℕ, Bool, true, false}
use Rattle.session_core.specs.declared.running.Running.{Running}

-- where a push is outstanding, events come last of what runs before the next pull
abbrev pub spare_at : Bool → Running → ℕ
spare_at true running = running.before.spare
spare_at false running = running.rest.spare
