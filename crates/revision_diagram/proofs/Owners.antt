-- Whose the revisions are, at one step more.
use Rattle.std.proofs.Common.{◌≡◌, ℕ, ◌+◌, ◌<◌, List, [], ◌∷◌, ◌++◌, refl, sym, ◌∙◌, subst, arith, Some, None, inl, inr}
use Rattle.std.specs.Prelude.{◌↔◌, IsTrue}
use Rattle.std.proofs.lemmas.Bool.{cases_eq}
use Rattle.revision_diagram.specs.declared.step.Step.{Step}
use Rattle.revision_diagram.specs.declared.step.Step.TheVariants.{Fork, Join, Do, Ask, Say, Mark}
use Rattle.revision_diagram.specs.Diagram.{revisions, owner}
use Rattle.revision_diagram.specs.Meeting.{Tree}
use Rattle.revision_diagram.specs.Headline.{is_node, is_for_node, AllOwned}
use Rattle.revision_diagram.proofs.Steps.{by_steps}
use Rattle.revision_diagram.proofs.Draws.{revisions-Fork, owner-Fork, revisions-Join, owner-Join, revisions-act, owner-act}
use Rattle.revision_diagram.proofs.Kept.{owner-kept}
use Rattle.revision_diagram.proofs.KeepsOnce.{put-here, put-else}

-- a step that leaves the owners
owned_same : (tree : Tree) (clients : ℕ) (front longer : List Step) → ((x : ℕ) → owner longer x ≡ owner front x) → AllOwned tree clients front → AllOwned tree clients longer
owned_same tree clients front longer same h r m e = h r m (sym (same r) ∙ e)

same_owned : (tree : Tree) (clients : ℕ) (front : List Step) (s : Step) → ((x : ℕ) → owner (front ++ s ∷ []) x ≡ owner front x) → IsTrue (is_for_node tree clients s) → AllOwned tree clients (front ++ s ∷ []) ↔ (AllOwned tree clients front × IsTrue (is_for_node tree clients s))
same_owned tree clients front s same well = (
  λ h. (owned_same tree clients (front ++ s ∷ []) front (λ x. sym (same x)) h, well),
  λ h. owned_same tree clients front (front ++ s ∷ []) same h.0,
)

-- only a revision that is there is of a node
abbrev pub OwnedThere : List Step → Type 0
OwnedThere steps = (x m : ℕ) → owner steps x ≡ Some m → x < revisions steps

there_same : (front : List Step) (s : Step) → ((x : ℕ) → owner (front ++ s ∷ []) x ≡ owner front x) → revisions (front ++ s ∷ []) ≡ revisions front → OwnedThere front → OwnedThere (front ++ s ∷ [])
there_same front s same count h x m e = let l : x < revisions front = h x m (sym (same x) ∙ e) in omega arith

there_more : (front : List Step) (s : Step) → OwnedThere front → OwnedThere (front ++ s ∷ [])
there_more front (Fork r c) h x m e =
    let count : revisions (front ++ Fork r c ∷ []) ≡ revisions front + 1 = revisions-Fork front r c in
    elim (cases_eq x (revisions front)) [
      | inl new ↦ omega arith
      | inr old ↦ let l : x < revisions front = h x m (sym (owner-Fork front r c x ∙ put-else (revisions front) x (Some c) (owner front) old) ∙ e) in omega arith
    ]
there_more front (Join r s) h x m e = there_same front (Join r s) (owner-Join front r s) (revisions-Join front r s) h x m e
there_more front (Do r u) h x m e = there_same front (Do r u) (λ x. owner-act front (Do r u) r x refl) (revisions-act front (Do r u) r refl) h x m e
there_more front (Ask r q a) h x m e = there_same front (Ask r q a) (λ x. owner-act front (Ask r q a) r x refl) (revisions-act front (Ask r q a) r refl) h x m e
there_more front (Say r v) h x m e = there_same front (Say r v) (λ x. owner-act front (Say r v) r x refl) (revisions-act front (Say r v) r refl) h x m e
there_more front (Mark r flush) h x m e = there_same front (Mark r flush) (λ x. owner-act front (Mark r flush) r x refl) (revisions-act front (Mark r flush) r refl) h x m e

pub owned_there : (steps : List Step) → OwnedThere steps
owned_there steps = by_steps OwnedThere (λ x m e. let no : None ≡ Some m = e in cc) there_more steps

fork_owned : (tree : Tree) (clients : ℕ) (front : List Step) (r c : ℕ) → AllOwned tree clients front → IsTrue (is_node tree clients c) → AllOwned tree clients (front ++ Fork r c ∷ [])
fork_owned tree clients front r c h well x m e = elim (cases_eq x (revisions front)) [
  | inl new ↦ let same : Some c ≡ Some m = sym (owner-Fork front r c x ∙ put-here (revisions front) x (Some c) (owner front) new) ∙ e in
      let is : c ≡ m = cc in subst (λ (n : ℕ). IsTrue (is_node tree clients n)) is well
  | inr old ↦ h x m (sym (owner-Fork front r c x ∙ put-else (revisions front) x (Some c) (owner front) old) ∙ e)
]

owned_fork : (tree : Tree) (clients : ℕ) (front : List Step) (r c : ℕ) → AllOwned tree clients (front ++ Fork r c ∷ []) → AllOwned tree clients front × IsTrue (is_node tree clients c)
owned_fork tree clients front r c h = (
  λ x m e. h x m (owner-kept front (Fork r c) x (owned_there front x m e) ∙ e),
  h (revisions front) c (owner-Fork front r c (revisions front) ∙ put-here (revisions front) (revisions front) (Some c) (owner front) refl),
)

pub AllOwned-more : (tree : Tree) (clients : ℕ) (steps : List Step) (s : Step) → AllOwned tree clients (steps ++ s ∷ []) ↔ (AllOwned tree clients steps × IsTrue (is_for_node tree clients s))
AllOwned-more tree clients steps (Fork r c) = (λ h. owned_fork tree clients steps r c h, λ h. fork_owned tree clients steps r c h.0 h.1)
AllOwned-more tree clients steps (Join r s) = same_owned tree clients steps (Join r s) (owner-Join steps r s) refl
AllOwned-more tree clients steps (Do r u) = same_owned tree clients steps (Do r u) (λ x. owner-act steps (Do r u) r x refl) refl
AllOwned-more tree clients steps (Ask r q a) = same_owned tree clients steps (Ask r q a) (λ x. owner-act steps (Ask r q a) r x refl) refl
AllOwned-more tree clients steps (Say r v) = same_owned tree clients steps (Say r v) (λ x. owner-act steps (Say r v) r x refl) refl
AllOwned-more tree clients steps (Mark r flush) = same_owned tree clients steps (Mark r flush) (λ x. owner-act steps (Mark r flush) r x refl) refl
