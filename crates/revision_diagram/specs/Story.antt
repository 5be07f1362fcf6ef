-- What a client did, in order: the places of its Do, Ask, Say and Mark steps.
use Rattle.std.specs.Prelude.{◌≡◌, ℕ, Bool, true, false, ◌||◌, not, List, slice_get, Option, Some, None, IsTrue}
use Rattle.std.specs.List.{filter_map, last_or}
use Rattle.cloud_base.specs.Events.{answers_in}
use Rattle.cloud_base.specs.declared.update.Answer.{Answer}
use Rattle.cloud_base.specs.declared.update.Event.{Event}
use Rattle.cloud_base.specs.declared.update.Event.TheVariants.{Do as DoEvent, Ask as AskEvent, Say as SayEvent, Yield, Flush}
use Rattle.revision_diagram.specs.declared.step.Step.{Step}
use Rattle.revision_diagram.specs.declared.step.Step.TheVariants.{Fork, Join, Do, Ask, Say, Mark}
use Rattle.revision_diagram.specs.Diagram.{EachStep, places_of, acts_on, is_of, owner, past}

abbrev pub is_act_of : ℕ → List Step → Option ℕ → Bool
is_act_of c front (Some r) = is_of c (owner front r)
is_act_of c front None = false

-- is it a Do, Ask, Say or Mark on a revision of c?
abbrev pub is_told : ℕ → List Step → Step → Bool
is_told c front s = is_act_of c front (acts_on s)

abbrev pub story : List Step → ℕ → List ℕ
story steps c = places_of (is_told c) steps

abbrev pub event_of : Option Step → Option Event
event_of (Some (Do r u)) = Some (DoEvent u)
event_of (Some (Ask r q a)) = Some (AskEvent q a)
event_of (Some (Say r v)) = Some (SayEvent v)
event_of (Some (Mark r true)) = Some Flush
event_of (Some (Mark r false)) = Some Yield
event_of (Some (Fork r c)) = None
event_of (Some (Join r s)) = None
event_of None = None

-- the events at the places of c's story
abbrev pub events : List Step → ℕ → List Event
events steps c = filter_map (λ i. event_of (slice_get steps i)) (story steps c)

-- the answers that c got, in order
abbrev pub answers_got : List Step → ℕ → List Answer
answers_got steps c = answers_in (events steps c)

-- c did what its trace says for the answers that it got, up to this end
abbrev pub ProgramLaw : {Outcome : Type 0} → (List Answer → List Event × Outcome) → Outcome → List Step → ℕ → Type 0
ProgramLaw trace end steps c = trace (answers_got steps c) ≡ (events steps c, end)

abbrev pub has_seen : List Step → ℕ → Option ℕ → Bool
has_seen front r None = true
has_seen front r (Some i) = past front r i

abbrev pub is_in_line : ℕ → List Step → Option ℕ → Bool
is_in_line c front None = true
is_in_line c front (Some r) = not (is_of c (owner front r)) || has_seen front r (last_or None (story front c))

-- each place of c's story is in the past of the revision of the next one, just before it
abbrev pub LineLaw : List Step → ℕ → Type 0
LineLaw steps c = EachStep (λ front s. IsTrue (is_in_line c front (acts_on s))) steps
