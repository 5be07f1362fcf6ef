-- What a child tells of ids.
use Rattle.std.specs.Prelude.{◌≡◌, refl, ⊤, false, List, [], ◌∷◌, ◌++◌, Some, None}
use Rattle.cloud_base.specs.Values.{Id}
use Rattle.cloud_base.specs.Log.{creation}
use Rattle.cloud_base.specs.Dead.{is_dead}
use Rattle.cloud_base.specs.declared.update.Update.{Update}
use Rattle.cloud_base.specs.declared.update.Update.TheVariants.{Create, Delete}
use Rattle.fj_entity.specs.declared.created.Created.{Created}

-- logs with the same dead ids, and the same creations of those that live
pub record SameFates (log other : List Update) : Type 0 where
  pub dead : (id : Id) → is_dead log id ≡ is_dead other id
  pub made : (id : Id) → is_dead other id ≡ false → creation id log ≡ creation id other

-- the updates that a child tells: its creations that live, and its newly dead
abbrev pub creates : List Created → List Update
creates [] = []
creates (c ∷ list) = Create c.id c.entity c.keys ∷ creates list

abbrev pub deletes : List Id → List Update
deletes [] = []
deletes (id ∷ list) = Delete id ∷ deletes list

-- each is new when its turn comes
abbrev pub AreNew : List Created → List Update → Type 0
AreNew [] log = ⊤
AreNew (c ∷ list) log = (creation c.id log ≡ None) × AreNew list (log ++ Create c.id c.entity c.keys ∷ [])

module _ where
  abbrev order : Id
  order = record { client = 1; serial = 2 }

  pub example_told : (creates (record { id = order; entity = 3; keys = [] } ∷ []) ≡ Create order 3 [] ∷ []) × (deletes (order ∷ []) ≡ Delete order ∷ [])
  example_told = (refl, refl)

  -- one is new once
  pub example_new : AreNew (record { id = order; entity = 3; keys = [] } ∷ []) [] × ¬ AreNew (record { id = order; entity = 3; keys = [] } ∷ []) (Create order 3 [] ∷ [])
  example_new = ((refl, tt), λ h. some_none h.0)
    where
      some_none : {A : Type 0} {x : A} → Some x ≡ None → ⊥
      some_none e = cc

  -- the updates of cells change no fate
  pub example_same : SameFates (Create order 3 [] ∷ []) (Create order 3 [] ∷ [])
  example_same = record { dead = λ id. refl; made = λ id h. refl }
