-- What a roster keeps, and which fates that tells.
use Rattle.std.specs.Prelude.{◌≡◌, refl, Bool, true, is_some, List, [], ◌∷◌, map, Option, Some, None, ⊤}
use Rattle.std.specs.Map.{lookup}
use Rattle.std.specs.BTreeMap.{is_at}
use Rattle.cloud_base.specs.Values.{Id}
use Rattle.cloud_base.specs.Order.{id_order}
use Rattle.cloud_base.specs.declared.key.Key.TheVariants.{Ref}
use Rattle.fj_entity.specs.declared.birth.Birth.{Birth}
use Rattle.fj_entity.specs.declared.created.Created.{Created}
use Rattle.fj_entity.specs.declared.groups.Group.{Group}
use Rattle.fj_entity.specs.declared.groups.Member.{Member}
use Rattle.fj_entity.specs.Fates.{Fate, Living, Dead}
use Rattle.fj_entity.specs.Groups.{IsGroupOf, IsIn}

-- what an id that lives was created with
abbrev pub birth_at : List (Id × Birth) → Id → Option Birth
birth_at births id = lookup (is_at (id_order id)) births

-- whether an id lives or is dead
abbrev pub is_known : List (Id × ⊤) → Id → Bool
is_known known id = is_some (lookup (is_at (id_order id)) known)

-- what became of a known id: it lives where its birth is kept, and else is dead
abbrev pub fate_by : Option Birth → Fate
fate_by None = Dead
fate_by (Some birth) = Living birth.entity birth.keys

-- what became of each known id
abbrev pub fates_of : List (Id × ⊤) → List (Id × Birth) → List (Id × Fate)
fates_of known births = map (λ e. (e.0, fate_by (birth_at births e.0))) known

-- what was kept of an id's birth, by what became of it
abbrev pub birth_in : Option Fate → Option Birth
birth_in None = None
birth_in (Some Dead) = None
birth_in (Some (Living entity keys)) = Some (record { entity = entity; keys = keys })

-- what an id that lives was created with, beside it
abbrev pub created_entry : Id × Birth → Created
created_entry e = record { id = e.0; entity = e.1.entity; keys = e.1.keys }

-- Each id that lives is known, and is in its groups. A group may have others: ids that died, and ids that were to be created when memory ran out.
pub record AreGrouped (known : List (Id × ⊤)) (births : List (Id × Birth)) (members : List Member) : Type 0 where
  pub noted : (id : Id) (birth : Birth) → birth_at births id ≡ Some birth → is_known known id ≡ true
  pub grouped : (id : Id) (birth : Birth) (group : Group) → birth_at births id ≡ Some birth → IsGroupOf birth.entity birth.keys group → IsIn members group id

module _ where
  abbrev customer : Id
  customer = record { client = 0; serial = 0 }

  abbrev order : Id
  order = record { client = 0; serial = 1 }

  -- of two known ids one lives
  pub example_fates : fates_of ((customer, tt) ∷ (order, tt) ∷ []) ((order, record { entity = 1; keys = Ref customer ∷ [] }) ∷ []) ≡ (customer, Dead) ∷ (order, Living 1 (Ref customer ∷ [])) ∷ []
  example_fates = refl
