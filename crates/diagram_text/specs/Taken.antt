-- What a sink of steps took, and where a drawing is.
use Rattle.std.specs.Prelude.{◌≡◌, refl, false, ℕ, List, [], ◌∷◌, ◌++◌}
use Rattle.record_diagram.specs.Steps.{Drawing, Draws}
use Rattle.revision_diagram.specs.declared.step.Step.{Step}
use Rattle.revision_diagram.specs.declared.step.Step.TheVariants.{Fork, Join, Mark}
use Rattle.step_text.specs.Text.{next_after}

-- the next free number of a revision after steps before which it is `next`
abbrev pub free_after : ℕ → List Step → ℕ
free_after next [] = next
free_after next (step ∷ steps) = free_after (next_after next step) steps

-- since it was the first, the sink took these steps, and the drawing goes on with the next free number
pub record Took {S : Type 0} (took : S → List Step → S → Type 0) (first sink : S) (d : Drawing) (steps : List Step) : Type 0 where
  pub has : took first steps sink
  pub next : d.next ≡ free_after 1 steps

-- from one sink and one drawing to others this was drawn: the sink took its steps behind those that it had, and
-- the drawing is where it leads
pub record Drew {S : Type 0} (took : S → List Step → S → Type 0) (draws : Draws) (sink : S) (d : Drawing) (later : S) (after : Drawing) : Type 0 where
  pub ends : after ≡ (draws d).1
  pub takes : (first : S) (steps : List Step) → Took took first sink d steps → Took took first later after (steps ++ (draws d).0)

module _ where
  -- a fork takes a number
  pub example_free : free_after 1 (Fork 0 0 ∷ Mark 1 false ∷ Fork 1 0 ∷ Join 0 1 ∷ []) ≡ 3
  example_free = refl

  abbrev forked : List Step
  forked = Fork 0 0 ∷ []

  abbrev drawing : ℕ → ℕ → Drawing
  drawing next standing = record { next = next; standing = λ c. standing; received = λ c. 0 }

  abbrev Added : List Step → List Step → List Step → Type 0
  Added first steps now = now ≡ first ++ steps

  -- a list has a client's opening fork, and no other step
  pub example_took : Took Added [] forked (drawing 2 1) forked
  example_took = record { has = refl; next = refl }
