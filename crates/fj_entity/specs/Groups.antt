-- Groups of ids: those of an entity, and those that have an id among their keys.
use Rattle.std.specs.Prelude.{◌≡◌, refl, ℕ, nat_eq, Bool, false, List, [], ◌∷◌, Contains}
use Rattle.std.specs.declared.cmp.Ordering.{Ordering}
use Rattle.std.specs.declared.cmp.Ordering.TheVariants.{Less}
use Rattle.std.proofs.Common.{ap, lit<}
use Rattle.std.proofs.lemmas.Bool.{false≢true}
use Rattle.cloud_base.specs.Values.{Id}
use Rattle.cloud_base.specs.Order.{same_id}
use Rattle.cloud_base.specs.Log.{ids_of}
use Rattle.cloud_base.specs.declared.key.Key.{Key}
use Rattle.cloud_base.specs.declared.key.Key.TheVariants.{Ref}
use Rattle.fj_entity.specs.declared.groups.Group.{Group}
use Rattle.fj_entity.specs.declared.groups.Group.TheVariants.{Entity, Parent}
use Rattle.fj_entity.specs.declared.groups.Member.{Member}
use Rattle.fj_entity.specs.contracts.groups.GroupOrd.TheImpl as groups
use Rattle.fj_entity.specs.contracts.groups.GroupPartialEq.TheImpl as equal_groups
use Rattle.fj_entity.specs.contracts.groups.MemberOrd.TheImpl as members

-- the orders that `Group` and `Member` derive
abbrev pub group_order : Group → Group → Ordering
group_order = groups.ghosts.cmp

abbrev pub member_order : Member → Member → Ordering
member_order = members.ghosts.cmp

abbrev pub same_group : Group → Group → Bool
same_group = equal_groups.ghosts.eq

-- the groups of an id that was created so: that of its entity, and that of each id among its keys
abbrev pub IsGroupOf : ℕ → List Key → Group → Type 0
IsGroupOf entity keys (Entity e) = e ≡ entity
IsGroupOf entity keys (Parent p) = Contains (ids_of keys) p

-- no member of a group comes before this one
abbrev pub least : Group → Member
least group = record { group = group; id = record { client = 0; serial = 0 } }

-- an id is in a group
abbrev pub IsIn : List Member → Group → Id → Type 0
IsIn members group id = Contains members (record { group = group; id = id })

-- no member is lost
abbrev pub Keeps : List Member → List Member → Type 0
Keeps old new = (m : Member) → Contains old m → Contains new m

-- no member is lost but where it is this id
abbrev pub KeepsOthers : Id → List Member → List Member → Type 0
KeepsOthers id old new = (m : Member) → same_id id m.id ≡ false → Contains old m → Contains new m

module _ where
  abbrev customer : Id
  customer = record { client = 0; serial = 0 }

  abbrev order : Id
  order = record { client = 0; serial = 1 }

  -- an order of a customer
  pub example_groups : IsGroupOf 1 (Ref customer ∷ []) (Entity 1) × IsGroupOf 1 (Ref customer ∷ []) (Parent customer) × ¬ IsGroupOf 1 (Ref customer ∷ []) (Entity 2)
  example_groups = (refl, (0, lit< tt, refl), λ h. false≢true (ap (λ n. nat_eq n 1) h))

  -- members come by group, and then by id
  pub example_order : (member_order (record { group = Entity 7; id = order }) (record { group = Parent customer; id = customer }) ≡ Less) × (member_order (record { group = Entity 7; id = customer }) (record { group = Entity 7; id = order }) ≡ Less)
  example_order = (refl, refl)
