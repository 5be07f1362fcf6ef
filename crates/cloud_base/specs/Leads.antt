-- Which ids depend on an id.
use Rattle.std.specs.Prelude.{◌≡◌, refl, ℕ, zero, suc, List, [], ◌∷◌, Contains, pos}
use Rattle.std.proofs.Common.{sym, ap, lit<}
use Rattle.std.proofs.Math.Nat.{suc-ne-zero, not-suc-le-zero}
use Rattle.cloud_base.specs.Values.{Id}
use Rattle.cloud_base.specs.Log.{parents}
use Rattle.cloud_base.specs.declared.key.Key.TheVariants.{Int, Ref}
use Rattle.cloud_base.specs.declared.update.Update.{Update}
use Rattle.cloud_base.specs.declared.update.Update.TheVariants.{Create}

-- n steps from an id to one of its parents lead to the root
abbrev pub LeadsIn : List Update → ℕ → Id → Id → Type 0
LeadsIn log zero id root = id ≡ root
LeadsIn log (suc n) id root = (next : Id) × Contains (parents log id) next × LeadsIn log n next root

-- the id is the root, or one of its parents leads to the root
abbrev pub Leads : List Update → Id → Id → Type 0
Leads log id root = (n : ℕ) × LeadsIn log n id root

module _ where
  abbrev customer : Id
  customer = record { client = 0; serial = 0 }

  abbrev order : Id
  order = record { client = 0; serial = 1 }

  abbrev line : Id
  line = record { client = 1; serial = 0 }

  abbrev shop : List Update
  shop = Create customer 0 [] ∷ Create order 1 (Ref customer ∷ []) ∷ Create line 2 (Int (pos 4) ∷ Ref order ∷ []) ∷ []

  -- a line of an order leads to its customer, and each id to itself
  pub example_leads : Leads shop line customer × Leads shop customer customer
  example_leads = ((2, (order, (0, lit< tt, refl), (customer, (0, lit< tt, refl), refl))), (0, refl))

  -- a customer has no parents, and so leads to no order
  pub example_leads_nowhere : ¬ Leads shop customer order
  example_leads_nowhere = λ h. nowhere h.0 h.1
    where
      nowhere : (n : ℕ) → LeadsIn shop n customer order → ⊥
      nowhere zero e = suc-ne-zero 0 (sym (ap (λ (id : Id). id.serial) e))
      nowhere (suc n) l = not-suc-le-zero l.1.1
