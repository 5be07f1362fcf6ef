-- What declared things go by: whose a thing is, and its name.
use Rattle.std.specs.Prelude.{ℕ, Bool, List}
use Rattle.std.specs.declared.cmp.Ordering.{Ordering}
use Rattle.std.specs.declared.cmp.Ordering.TheVariants.{Less, Equal, Greater}
use Rattle.std.specs.Ordering.{nat_cmp, ordering_then, is_eq}
use Rattle.cloud_base.specs.Order.{text_order}
use Rattle.cloud_base.specs.declared.schema.Entity.{Entity}
use Rattle.cloud_base.specs.declared.schema.Owner.{Owner}
use Rattle.cloud_base.specs.declared.schema.Owner.TheVariants as owner
use Rattle.cloud_base.specs.declared.schema.Property.{Property}
use Rattle.kind_names.specs.declared.index.Holder.{Holder}
use Rattle.kind_names.specs.declared.index.Holder.TheVariants as holder
use Rattle.kind_names.specs.declared.index.Key.{Key}

abbrev pub Named : Type 0
Named = Owner × List ℕ

-- global ones come before those of arrays, and these before those of entities
abbrev pub owner_order : Owner → Owner → Ordering
owner_order owner.Global owner.Global = Equal
owner_order owner.Global (owner.Array b) = Less
owner_order owner.Global (owner.Entity b) = Less
owner_order (owner.Array a) owner.Global = Greater
owner_order (owner.Array a) (owner.Array b) = text_order a b
owner_order (owner.Array a) (owner.Entity b) = Less
owner_order (owner.Entity a) owner.Global = Greater
owner_order (owner.Entity a) (owner.Array b) = Greater
owner_order (owner.Entity a) (owner.Entity b) = nat_cmp a b

abbrev pub named_order : Named → Named → Ordering
named_order a b = ordering_then (owner_order a.0 b.0) (text_order a.1 b.1)

abbrev pub owner_of : Holder → Owner
owner_of holder.Global = owner.Global
owner_of (holder.Array a) = owner.Array a.now
owner_of (holder.Entity e) = owner.Entity e

abbrev pub named : Key → Named
named k = (owner_of k.holder, k.name.now)

-- what each goes by
abbrev pub of_property : Property → Named
of_property p = (p.owner, p.name)

abbrev pub of_entity : Entity → Named
of_entity e = (owner.Global, e.name)

abbrev pub of_name : List ℕ → Named
of_name name = (owner.Global, name)

-- whether an item goes by that
abbrev pub goes_by : {A : Type 0} → (A → Named) → Named → A → Bool
goes_by seen k x = is_eq (named_order (seen x) k)
