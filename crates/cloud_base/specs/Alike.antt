-- Logs that mean the same.
use Rattle.std.specs.Prelude.{◌≡◌, refl, ℕ, List, [], ◌∷◌, Contains, pos}
use Rattle.std.proofs.Common.{subst, T, lit<}
use Rattle.std.proofs.Math.Nat.{not-suc-le-zero}
use Rattle.std.specs.Ordering.{int_cmp, is_eq}
use Rattle.cloud_base.specs.Values.{Id}
use Rattle.cloud_base.specs.Log.{of_cell, creation, is_deleted}
use Rattle.cloud_base.specs.declared.key.Key.{Key}
use Rattle.cloud_base.specs.PlainCell.{last_set}
use Rattle.cloud_base.specs.declared.update.Update.{Update}
use Rattle.cloud_base.specs.declared.update.Update.TheVariants.{Cell, Delete}
use Rattle.cloud_base.specs.declared.update.CellChange.TheVariants.{Add, SetInt}

-- the logs have the same changes of each cell, the same first creations and the same deletions
pub record Alike (log other : List Update) : Type 0 where
  pub changes : (property : ℕ) (keys : List Key) → of_cell property keys log ≡ of_cell property keys other
  pub creations : (id : Id) → creation id log ≡ creation id other
  pub deletions : (id : Id) → is_deleted id log ≡ is_deleted id other

-- each update of the first log is one of the second
abbrev pub IsPart : List Update → List Update → Type 0
IsPart log whole = (u : Update) → Contains log u → Contains whole u

module _ where
  abbrev customer : Id
  customer = record { client = 0; serial = 0 }

  abbrev change_first : List Update
  change_first = Cell 0 [] (Add (pos 1)) ∷ Delete customer ∷ []

  abbrev deletion_first : List Update
  deletion_first = Delete customer ∷ Cell 0 [] (Add (pos 1)) ∷ []

  -- a change and a deletion in both orders
  pub example_alike : Alike change_first deletion_first
  example_alike = record { changes = λ property keys. refl; creations = λ id. refl; deletions = λ id. refl }

  -- two sets of one cell in both orders
  pub example_not_alike : ¬ Alike (Cell 0 [] (SetInt (pos 1)) ∷ Cell 0 [] (SetInt (pos 2)) ∷ []) (Cell 0 [] (SetInt (pos 2)) ∷ Cell 0 [] (SetInt (pos 1)) ∷ [])
  example_not_alike = λ h. subst (λ changes. T (is_eq (int_cmp (last_set changes) (pos 2)))) (h.changes 0 []) tt

  -- a log is part of itself, and none with an update is part of the empty one
  pub example_part : IsPart change_first change_first × ¬ IsPart change_first []
  example_part = (λ u h. h, λ h. not-suc-le-zero (h (Delete customer) (1, lit< tt, refl)).1)
