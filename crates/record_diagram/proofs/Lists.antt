-- What stands on two lists.
use Rattle.std.proofs.Common.{◌≡◌, ℕ, List, ◌++◌}
use Rattle.std.specs.Prelude.{◌||◌, ◌==◌}
use Rattle.std.proofs.lemmas.List.Folds.{list_any-append}
use Rattle.revision_diagram.specs.Once.{stands_on}

pub stands-append : (xs ys : List ℕ) (i : ℕ) → stands_on (xs ++ ys) i ≡ (stands_on xs i || stands_on ys i)
stands-append xs ys i = list_any-append (λ j. j == i) xs ys
