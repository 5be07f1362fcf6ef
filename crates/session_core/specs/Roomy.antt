-- Events, and room for more.
use Rattle.std.specs.Prelude.{ℕ, List}
use Rattle.cloud_base.specs.declared.update.Event.{Event}

-- a list of events, and for how many more there is room
pub record Roomy : Type 0 where
  pub list : List Event
  pub spare : ℕ
