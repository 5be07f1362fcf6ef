-- What a client does, event by event, and how its run comes out.
use Rattle.std.specs.Prelude.{◌≡◌, refl, pos, List, [], ◌∷◌, Option, Some, None, ⊤}
use Rattle.std.specs.List.{last_or}
use Rattle.cloud_base.specs.declared.end.End.{End}
use Rattle.cloud_base.specs.declared.update.Answer.{Answer}
use Rattle.cloud_base.specs.declared.update.Answer.TheVariants.{Int}
use Rattle.cloud_base.specs.declared.update.CellChange.TheVariants.{Add}
use Rattle.cloud_base.specs.declared.update.Event.{Event}
use Rattle.cloud_base.specs.declared.update.Event.TheVariants.{Do, Ask, Say, Yield, Flush}
use Rattle.cloud_base.specs.declared.update.Query.{Query}
use Rattle.cloud_base.specs.declared.update.Query.TheVariants.{Get}
use Rattle.cloud_base.specs.declared.update.Update.{Update}
use Rattle.cloud_base.specs.declared.update.Update.TheVariants.{Cell}

-- how a run comes out for the answers that it gets: it ends, or is open at the query for which no
-- answer is left
pub data Outcome : Type 0 where
  ended : End → Outcome
  asks : Query → Outcome

-- the updates that the events do, in order
abbrev pub updates_of : List Event → List Update
updates_of [] = []
updates_of (Do update ∷ events) = update ∷ updates_of events
updates_of (Ask query answer ∷ events) = updates_of events
updates_of (Say answer ∷ events) = updates_of events
updates_of (Yield ∷ events) = updates_of events
updates_of (Flush ∷ events) = updates_of events

-- the answers that the events got, in order
abbrev pub answers_in : List Event → List Answer
answers_in [] = []
answers_in (Do update ∷ events) = answers_in events
answers_in (Ask query answer ∷ events) = answer ∷ answers_in events
answers_in (Say answer ∷ events) = answers_in events
answers_in (Yield ∷ events) = answers_in events
answers_in (Flush ∷ events) = answers_in events

-- a mark: a yield or a flush
abbrev pub IsMark : Option Event → Type 0
IsMark (Some Yield) = ⊤
IsMark (Some Flush) = ⊤
IsMark (Some (Do update)) = ⊥
IsMark (Some (Ask query answer)) = ⊥
IsMark (Some (Say answer)) = ⊥
IsMark None = ⊥

-- the last event is a mark, or there is none
abbrev pub EndsAtMark : List Event → Type 0
EndsAtMark [] = ⊤
EndsAtMark (event ∷ events) = IsMark (last_or None (event ∷ events))

module _ where
  abbrev add_one : Update
  add_one = Cell 0 [] (Add (pos 1))

  abbrev asked : Event
  asked = Ask (Get 0 []) (Int (pos 1))

  pub example_parts : (updates_of (Do add_one ∷ asked ∷ Say (Int (pos 1)) ∷ Yield ∷ []) ≡ add_one ∷ []) × (answers_in (Do add_one ∷ asked ∷ Say (Int (pos 1)) ∷ Yield ∷ []) ≡ Int (pos 1) ∷ [])
  example_parts = (refl, refl)

  -- a batch may end at a yield or a flush, and what is empty has no mark to end at
  pub example_marks : EndsAtMark (Do add_one ∷ Flush ∷ []) × EndsAtMark (Yield ∷ []) × EndsAtMark [] × ¬ EndsAtMark (Yield ∷ Do add_one ∷ [])
  example_marks = (tt, tt, tt, λ h. h)
