-- A state at a place of a valid code, and how it goes on up to the next need.
use Rattle.std.specs.Prelude.{◌≡◌, ℕ, List, Some, slice_get}
use Rattle.cloud_base.specs.Shaped.{IsSchema}
use Rattle.cloud_base.specs.declared.update.Answer.{Answer}
use Rattle.cloud_base.specs.declared.update.Event.{Event}
use Rattle.typed_program.specs.Does.{World, goes}
use Rattle.plain_vm.specs.Code.{CodeOf}
use Rattle.plain_vm.specs.Exec.{Standing, exec}
use Rattle.plain_vm.specs.Fits.{Fits}
use Rattle.plain_vm.specs.Valid.{Shape, IsValid}
use Rattle.code_machine.specs.declared.need.Need.{Need}
use Rattle.code_machine.specs.declared.state.State.{State}
use Rattle.code_machine.specs.Steps.{Steps, standing, held, later}

-- it stands at a place of a valid code, and the shape there fits
pub record Sits (c : CodeOf) (s : Standing) (w : World) : Type 0 where
  pub shapes : List Shape
  pub shape : Shape
  pub sane : IsSchema c.schema
  pub valid : IsValid c.schema c.instructions shapes
  pub there : slice_get shapes s.place ≡ Some shape
  pub fits : Fits c.schema shape s.stack s.listings w

-- it came from one state to the other with nothing needed on the way
pub record Reaches (c : CodeOf) (old new : State) : Type 0 where
  pub count : ℕ
  pub reached : (answers : List Answer) (events : List Event) → exec c.instructions count (standing old) (later (held old) answers events) ≡ goes (Some (standing new)) (later (held new) answers events)
  pub sits : Sits c (standing new) (held new)
  pub ids : new.serial ≡ old.serial

-- and one instruction more needs something
pub record Runs (c : CodeOf) (old new : State) (need : Need) : Type 0 where
  pub last : State
  pub reaches : Reaches c old last
  pub steps : Steps c.instructions last new (Some need)
