-- What the clients of a program do, and what a report of it tells.
use Rattle.std.specs.Prelude.{◌≡◌, refl, ℕ, suc, List, [], ◌∷◌, slice_index_or}
use Rattle.cloud_base.specs.Events.{Outcome}
use Rattle.cloud_base.specs.declared.end.End.{End}
use Rattle.cloud_base.specs.declared.update.Answer.{Answer}
use Rattle.cloud_base.specs.declared.update.Event.{Event}
use Rattle.revision_diagram.specs.declared.step.Step.{Step}
use Rattle.revision_diagram.specs.Headline.{Headline}
use Rattle.revision_diagram.specs.Meeting.{below_server}
use Rattle.step_text.specs.Legible.{Told}
use Rattle.typed_program.specs.Trace.{trace}
use Rattle.typed_program.specs.declared.program.Parts.{Parts}
use Rattle.typed_program.specs.declared.statement.Statement.{Statement}

-- what a client of a program does for the answers that it gets
abbrev pub trace_of : Parts → ℕ → List Answer → List Event × Outcome
trace_of p client = trace client (slice_index_or p.bodies client [])

-- what each client does, from one's number on
abbrev pub traces_from : ℕ → List (List Statement) → List (List Answer → List Event × Outcome)
traces_from client [] = []
traces_from client (body ∷ bodies) = trace client body ∷ traces_from (suc client) bodies

-- what each client of a program does
abbrev pub traces : Parts → List (List Answer → List Event × Outcome)
traces p = traces_from 0 p.bodies

-- the steps are one lawful diagram of the program's clients with these ends, and no other steps and ends are
-- printed as these
pub record Reports (p : Parts) (steps : List Step) (ends : List End) : Type 0 where
  pub headline : Headline p.schema below_server (traces p) ends steps
  pub told : Told p.schema p.names steps ends

module _ where
  -- two clients with these bodies, of which the second has number 1
  abbrev two : List Statement → List Statement → Parts
  two first second = record { schema = record { properties = []; entities = [] }; names = []; bodies = first ∷ second ∷ []; schedule = [] }

  pub example_traces : (first second : List Statement) → (traces (two first second) ≡ trace 0 first ∷ trace 1 second ∷ []) × (trace_of (two first second) 1 ≡ trace 1 second)
  example_traces first second = (refl, refl)
