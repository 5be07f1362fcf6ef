-- What a step leaves of a revision, and what a fork makes.
use Rattle.std.specs.Prelude.{◌≡◌, refl, ℕ, true, List, [], ◌∷◌, length, Some, IsTrue, pos}
use Rattle.cloud_base.specs.declared.update.CellChange.TheVariants.{Add}
use Rattle.cloud_base.specs.declared.update.Update.TheVariants.{Cell}
use Rattle.revision_diagram.specs.declared.step.Step.{Step}
use Rattle.revision_diagram.specs.declared.step.Step.TheVariants.{Fork, Do}
use Rattle.revision_diagram.specs.Diagram.{live, owner, past, path, fork, fork_length}
use Rattle.revision_diagram.specs.Right.{log}

-- revision x keeps all, but that its past may grow
pub record Untouched (front longer : List Step) (x : ℕ) : Type 0 where
  pub live : IsTrue (live front x) → IsTrue (live longer x)
  pub owner : owner longer x ≡ owner front x
  pub path : path longer x ≡ path front x
  pub log : log longer x ≡ log front x
  pub fork : fork longer x ≡ fork front x
  pub fork_length : fork_length longer x ≡ fork_length front x
  pub past : (i : ℕ) → IsTrue (past front x i) → IsTrue (past longer x i)

-- revision n, which a fork of r for c made: it has r's path and all of r's past, and r knows the fork
pub record JustForked (front longer : List Step) (r c n : ℕ) : Type 0 where
  pub is_live : IsTrue (live longer n)
  pub owned : owner longer n ≡ Some c
  pub has_path : path longer n ≡ path front r
  pub has_log : log longer n ≡ log front r
  pub whole : fork_length longer n ≡ length (path longer n)
  pub forked_at : fork longer n ≡ length front
  pub knows : IsTrue (past longer r (length front))
  pub keeps : (i : ℕ) → IsTrue (past front r i) → IsTrue (past longer n i)

module _ where
  abbrev add : ℕ → Step
  add r = Do r (Cell 0 [] (Add (pos 1)))

  -- an update on revision 2 leaves revision 1, but not revision 2
  pub example_untouched : (path (Fork 0 0 ∷ Fork 0 1 ∷ add 2 ∷ []) 1 ≡ []) × (path (Fork 0 0 ∷ Fork 0 1 ∷ add 2 ∷ []) 2 ≡ 2 ∷ [])
  example_untouched = (refl, refl)

  -- a fork of revision 1, which has an update, makes revision 2, which has it too
  pub example_forked : (path (Fork 0 0 ∷ add 1 ∷ Fork 1 0 ∷ []) 2 ≡ 1 ∷ []) × (fork_length (Fork 0 0 ∷ add 1 ∷ Fork 1 0 ∷ []) 2 ≡ 1) × (past (Fork 0 0 ∷ add 1 ∷ Fork 1 0 ∷ []) 1 2 ≡ true)
  example_forked = (refl, refl, refl)
