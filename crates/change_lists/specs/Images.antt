-- What a log comes to, as the three lists of an image.
use Rattle.std.specs.Prelude.{◌≡◌, refl, pos, negsuc, ℕ, Bool, true, false, List, [], ◌∷◌, Contains}
use Rattle.std.specs.Int.{int_wrap}
use Rattle.std.proofs.Common.{lit<}
use Rattle.cloud_base.specs.Values.{Id}
use Rattle.cloud_base.specs.Order.{id_order}
use Rattle.cloud_base.specs.PlainCell.{plain_int, plain_text, plain_value, is_default}
use Rattle.cloud_base.specs.Dead.{is_dead}
use Rattle.cloud_base.specs.Answer.{answer}
use Rattle.cloud_base.specs.Sorted.{Lists}
use Rattle.cloud_base.specs.declared.key.Key.TheVariants.{Ref}
use Rattle.cloud_base.specs.declared.schema.CellType.TheVariants as cell
use Rattle.cloud_base.specs.declared.schema.KeyType.TheVariants.{Id as IdType}
use Rattle.cloud_base.specs.declared.schema.Owner.TheVariants.{Array}
use Rattle.cloud_base.specs.declared.schema.Schema.{Schema}
use Rattle.cloud_base.specs.declared.update.Answer.{Answer}
use Rattle.cloud_base.specs.declared.update.Answer.TheVariants.{Int, Text}
use Rattle.cloud_base.specs.declared.update.CellChange.TheVariants as change
use Rattle.cloud_base.specs.declared.update.Query.TheVariants.{Get}
use Rattle.cloud_base.specs.declared.update.Update.{Update}
use Rattle.cloud_base.specs.declared.update.Update.TheVariants.{Cell, Create, Delete}
use Rattle.fj_entity.specs.Rosters.{created_order, IsLiving}
use Rattle.change_lists.specs.declared.value.Content.{Content}
use Rattle.change_lists.specs.declared.value.Content.TheVariants as content
use Rattle.change_lists.specs.declared.value.CellValue.{CellValue}
use Rattle.change_lists.specs.Lists.{ImageLists, value_order}

-- what a cell holds, as an answer
abbrev pub answer_of : Content → Answer
answer_of (content.Int n) = Int n
answer_of (content.Text text) = Text text

-- the log answers this value of the cell, and it isn't the default. A cell with a dead key has the
-- default
abbrev pub IsHeld : Schema → List Update → CellValue → Type 0
IsHeld schema log it =
    (answer schema log (Get it.property it.keys) ≡ answer_of it.value)
    × (is_default (answer_of it.value) ≡ false)

-- What a log comes to: the created ids that aren't dead, the dead ids, and each cell whose value
-- isn't the default. Each list ascends without repeats
pub record IsImage (schema : Schema) (log : List Update) (image : ImageLists) : Type 0 where
  pub created : Lists created_order image.created (IsLiving log)
  pub dead : Lists id_order image.dead (λ id. is_dead log id ≡ true)
  pub cells : Lists value_order image.cells (IsHeld schema log)

module _ where
  abbrev customer : Id
  customer = record { client = 0; serial = 0 }

  -- a number of each customer
  abbrev stock : Schema
  stock = record { properties = record { name = 110 ∷ []; owner = Array (78 ∷ []); cell = cell.Int; keys = IdType 0 ∷ [] } ∷ []; entities = record { name = 67 ∷ []; keys = [] } ∷ [] }

  abbrev counted : List Update
  counted = Create customer 0 [] ∷ Cell 0 (Ref customer ∷ []) (change.Add (pos 2)) ∷ []

  abbrev two : CellValue
  two = record { property = 0; keys = Ref customer ∷ []; value = content.Int (pos 2) }

  -- what is kept by a customer is held while it lives
  pub example_held : (image : ImageLists) → IsImage stock counted image → Contains image.cells two × Contains image.created (record { id = customer; entity = 0; keys = [] })
  unfolding answer is_dead plain_value plain_int plain_text int_wrap
  example_held image is = (is.cells.every two (refl, refl), is.created.every (record { id = customer; entity = 0; keys = [] }) (refl, refl))

  -- and goes with it
  pub example_gone : (image : ImageLists) → IsImage stock (Delete customer ∷ counted) image → (¬ Contains image.cells two) × Contains image.dead customer
  unfolding answer is_dead plain_value plain_int plain_text int_wrap
  example_gone image is = (λ h. apart (is.cells.only two h).0, is.dead.every customer refl)
    where
      apart : Int (pos 0) ≡ Int (pos 2) → ⊥
      apart e = cc
