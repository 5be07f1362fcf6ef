-- Which answers are right.
use Rattle.std.specs.Prelude.{◌≡◌, ℕ, List, slice_get, Option, Some, None, ⊤}
use Rattle.std.specs.List.{filter_map}
use Rattle.cloud_base.specs.declared.update.Update.{Update}
use Rattle.cloud_base.specs.declared.update.Query.{Query}
use Rattle.cloud_base.specs.declared.update.Answer.{Answer}
use Rattle.revision_diagram.specs.declared.step.Step.{Step}
use Rattle.revision_diagram.specs.declared.step.Step.TheVariants.{Fork, Join, Do, Ask, Say, Mark}
use Rattle.revision_diagram.specs.Diagram.{EachStep, path}

abbrev pub update_of : Option Step → Option Update
update_of (Some (Do r u)) = Some u
update_of (Some (Fork r c)) = None
update_of (Some (Join r s)) = None
update_of (Some (Ask r q a)) = None
update_of (Some (Say r v)) = None
update_of (Some (Mark r flush)) = None
update_of None = None

-- the updates at these places, in their order
abbrev pub updates_at : List Step → List ℕ → List Update
updates_at steps places = filter_map (λ i. update_of (slice_get steps i)) places

-- the updates at the places of r's path
abbrev pub log : List Step → ℕ → List Update
log steps r = updates_at steps (path steps r)

-- An answer is what the updates on the revision's path answer.
abbrev pub Right : (List Update → Query → Answer) → List Step → Step → Type 0
Right answers front (Ask r q a) = a ≡ answers (log front r) q
Right answers front (Fork r c) = ⊤
Right answers front (Join r s) = ⊤
Right answers front (Do r u) = ⊤
Right answers front (Say r v) = ⊤
Right answers front (Mark r flush) = ⊤

abbrev pub AnsweredRight : (List Update → Query → Answer) → List Step → Type 0
AnsweredRight answers steps = EachStep (Right answers) steps
