-- What every body keeps.
use Rattle.std.specs.Prelude.{◌≡◌, ℕ, List, [], ◌∷◌, ◌++◌, if◌then◌else◌}
use mathlib.Core.List.{IsPrefix}
use Rattle.cloud_base.specs.Events.{Outcome, ended, asks, answers_in}
use Rattle.cloud_base.specs.declared.end.End.{End}
use Rattle.cloud_base.specs.declared.update.Answer.{Answer}
use Rattle.cloud_base.specs.declared.update.Event.{Event}
use Rattle.cloud_base.specs.declared.update.Event.TheVariants.{Ask}
use Rattle.cloud_base.specs.declared.update.Query.{Query}
use Rattle.typed_program.specs.declared.expression.Expression.{Expression}
use Rattle.typed_program.specs.declared.statement.Statement.{Statement}
use Rattle.typed_program.specs.declared.statement.Statement.TheVariants.{While}
use Rattle.typed_program.specs.Does.{World, Run, goes, ends, Does, ◌>>=◌, done, begin}
use Rattle.typed_program.specs.Trace.{value, truth_of, does, does_body}

abbrev pub events_of : {A : Type 0} → Run A → List Event
events_of (goes a w) = w.events
events_of (ends outcome events) = events

-- it only adds events
pub record Grows {A : Type 0} (m : Does A) : Type 0 where
  pub by : (w : World) → IsPrefix w.events (events_of (m w))

-- a trace for more answers goes on where the other waits, with the next answer, and is the same where the
-- other ended
pub record Extends (trace longer : List Event × Outcome) (more : List Answer) : Type 0 where
  pub grows : IsPrefix trace.0 longer.0
  pub ended : (end : End) → trace.1 ≡ ended end → longer ≡ trace
  pub asks : (query : Query) (a : Answer) (rest : List Answer) → trace.1 ≡ asks query → more ≡ a ∷ rest → IsPrefix (trace.0 ++ Ask query a ∷ []) longer.0

-- each query took the next of the answers, and where one waits all are taken
pub record InOrder (trace : List Event × Outcome) (answers : List Answer) : Type 0 where
  pub in_order : IsPrefix (answers_in trace.0) answers
  pub all_taken : (query : Query) → trace.1 ≡ asks query → answers_in trace.0 ≡ answers

-- a loop that begins, tests, and where the test is true does its block and then the loop anew
abbrev pub begins_anew : ℕ → Expression → List Statement → Does (Unit {0})
begins_anew line test block = begin >>= λ u. value line test >>= λ v. if truth_of v then (does_body block >>= λ u. does (While line test block)) else done tt
