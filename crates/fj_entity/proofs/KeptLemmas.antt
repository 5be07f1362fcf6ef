-- What the maps of a roster tell of an id, and what stays when they change.
use Rattle.std.proofs.Common.{◌≡◌, refl, sym, ◌∙◌, ap, subst, ℕ, Bool, true, false, cond, List, [], ◌∷◌, map, inl, inr, Option, Some, None, Bor}
use Rattle.std.specs.Prelude.{⊤, is_some, Contains}
use Rattle.std.specs.Option.{option_copied}
use Rattle.std.specs.Map.{lookup, keys_of}
use Rattle.std.specs.BTreeMap.{is_at}
use Rattle.std.specs.declared.cmp.Ordering.{Ordering}
use Rattle.std.proofs.lemmas.Bool.{cases_Bool, false≢true}
use Rattle.cloud_base.specs.Values.{Id}
use Rattle.cloud_base.specs.Order.{id_order, same_id}
use Rattle.cloud_base.specs.declared.key.Key.{Key}
use Rattle.cloud_base.proofs.OrderLemmas.{same_id_decides}
use Rattle.shared_map.specs.Entries.{value_at, Updates}
use Rattle.fj_entity.specs.declared.birth.Birth.{Birth}
use Rattle.fj_entity.specs.declared.groups.Group.{Group}
use Rattle.fj_entity.specs.declared.groups.Group.TheVariants.{Parent}
use Rattle.fj_entity.specs.declared.groups.Member.{Member}
use Rattle.fj_entity.specs.Fates.{Fate, Living, Dead, fate_at, is_living, marked, buried}
use Rattle.fj_entity.specs.Groups.{IsGroupOf, IsIn, Keeps, KeepsOthers}
use Rattle.fj_entity.specs.Walks.{IsChild}
use Rattle.fj_entity.proofs.WalkLemmas.{child_some}
use Rattle.fj_entity.specs.Kept.{birth_at, birth_in, is_known, fate_by, fates_of, AreGrouped}

-- ---- one id

pub copied_some : {V : Type 0} (o : Option (Bor V)) → is_some (option_copied o) ≡ is_some o
copied_some None = refl
copied_some (Some v) = refl

pub fate_kept : (known : List (Id × ⊤)) (births : List (Id × Birth)) (id : Id) → fate_at (fates_of known births) id ≡ cond (is_known known id) (Some (fate_by (birth_at births id))) None
fate_kept [] births id = refl
fate_kept (e ∷ known) births id = at (same_id id e.0) refl (fate_kept known births id)
  where
    at : (b : Bool) → same_id id e.0 ≡ b → fate_at (fates_of known births) id ≡ cond (is_known known id) (Some (fate_by (birth_at births id))) None
        → cond b (Some (fate_by (birth_at births e.0))) (fate_at (fates_of known births) id) ≡ cond (is_some (cond b (Some e.1) (lookup (is_at (id_order id)) known))) (Some (fate_by (birth_at births id))) None
    at true t ih = ap (λ (x : Id). Some (fate_by (birth_at births x))) (sym ((same_id_decides id e.0).0 t))
    at false f ih = ih

pub known_kept : (known : List (Id × ⊤)) (births : List (Id × Birth)) (id : Id) → is_some (fate_at (fates_of known births) id) ≡ is_known known id
known_kept known births id = ap is_some (fate_kept known births id) ∙ at (is_known known id)
  where
    at : (b : Bool) → is_some (cond b (Some (fate_by (birth_at births id))) None) ≡ b
    at true = refl
    at false = refl

-- the keys of what is told are those that are known
pub same_keys : (known : List (Id × ⊤)) (births : List (Id × Birth)) → keys_of (fates_of known births) ≡ keys_of known
same_keys [] births = refl
same_keys (e ∷ known) births = ap (λ (l : List Id). e.0 ∷ l) (same_keys known births)

-- an id with a birth lives
pub born : (o : Option Fate) (birth : Birth) → Some birth ≡ birth_in o → o ≡ Some (Living birth.entity birth.keys)
born None birth h = cc
born (Some Dead) birth h = cc
born (Some (Living e ks)) birth h =
    let p : e ≡ birth.entity = cc in
    let q : ks ≡ birth.keys = cc in
    λ i. Some (Living (p i) (q i))

-- a test that only an id with a birth may pass
pub unborn : {A : Type 0} (test : Option Fate → A) (fails : A) → test None ≡ fails → test (Some Dead) ≡ fails → (o : Option Fate) → None ≡ birth_in o → fails ≡ test o
unborn test fails none dead None h = sym none
unborn test fails none dead (Some Dead) h = sym dead
unborn test fails none dead (Some (Living e ks)) h = cc

pub living_by : (o : Option Fate) → is_some (birth_in o) ≡ is_living o
living_by None = refl
living_by (Some Dead) = refl
living_by (Some (Living e ks)) = refl

-- where nothing is kept the id isn't known
pub none_known : (known : List (Id × ⊤)) (births : List (Id × Birth)) (id : Id) → fate_at (fates_of known births) id ≡ None → is_known known id ≡ false
none_known known births id e = sym (known_kept known births id) ∙ ap is_some e

-- an id that lives has a birth
pub living_birth : (known : List (Id × ⊤)) (births : List (Id × Birth)) (id : Id) (e : ℕ) (ks : List Key) → fate_at (fates_of known births) id ≡ Some (Living e ks) → birth_at births id ≡ Some (record { entity = e; keys = ks })
living_birth known births id e ks h = at (is_known known id) (birth_at births id) (sym (fate_kept known births id) ∙ h)
  where
    at : (b : Bool) (o : Option Birth) → cond b (Some (fate_by o)) None ≡ Some (Living e ks) → o ≡ Some (record { entity = e; keys = ks })
    at true None k = cc
    at true (Some birth) k =
        let p : birth.entity ≡ e = cc in
        let q : birth.keys ≡ ks = cc in
        λ i. Some (record { entity = p i; keys = q i })
    at false o k = cc

module _ (known : List (Id × ⊤)) (births : List (Id × Birth)) (members : List Member) (h : AreGrouped known births members) where
  pub birth_lives : (id : Id) (birth : Birth) → birth_at births id ≡ Some birth → fate_at (fates_of known births) id ≡ Some (Living birth.entity birth.keys)
  birth_lives id birth e = fate_kept known births id ∙ (λ i. cond (h.noted id birth e i) (Some (fate_by (e i))) None)

  pub no_birth : (id : Id) → birth_at births id ≡ None → fate_at (fates_of known births) id ≡ cond (is_known known id) (Some Dead) None
  no_birth id e = fate_kept known births id ∙ ap (λ o. cond (is_known known id) (Some (fate_by o)) None) e

  -- an id that isn't known doesn't live
  pub unknown_unborn : (id : Id) → is_known known id ≡ false → birth_at births id ≡ None
  unknown_unborn id f = at (birth_at births id) refl
    where
      at : (o : Option Birth) → birth_at births id ≡ o → o ≡ None
      at None e = refl
      at (Some birth) e = absurd (false≢true (sym f ∙ h.noted id birth e))

  pub birth_kept : (id : Id) → birth_in (fate_at (fates_of known births) id) ≡ birth_at births id
  birth_kept id = at (birth_at births id) refl
    where
      dead : (b : Bool) → birth_in (cond b (Some Dead) None) ≡ None
      dead true = refl
      dead false = refl

      at : (o : Option Birth) → birth_at births id ≡ o → birth_in (fate_at (fates_of known births) id) ≡ o
      at None e = ap birth_in (no_birth id e) ∙ dead (is_known known id)
      at (Some birth) e = ap birth_in (birth_lives id birth e)

  -- an id that lives is in its groups
  pub living_in : (id : Id) (e : ℕ) (ks : List Key) (group : Group) → fate_at (fates_of known births) id ≡ Some (Living e ks) → IsGroupOf e ks group → IsIn members group id
  living_in id e ks group lives own = h.grouped id (record { entity = e; keys = ks }) group (living_birth known births id e ks lives) own

  -- each child of an id is in its group
  pub child_listed : (parent : Id) (listed : List Id) → ((x : Id) → IsIn members (Parent parent) x → Contains listed x) → (x : Id) → IsChild (fates_of known births) parent x → Contains listed x
  child_listed parent listed every x child =
      let w = child_some parent (fate_at (fates_of known births) x) child in
      every x (living_in x w.0 w.1 (Parent parent) w.2 w.3)

-- ---- what a change leaves

-- what is found after an update
updated : {V : Type 0} (id : Id) (v : Option V) (old new : List (Id × V)) → Updates id_order old new id v → (x : Id) → value_at id_order new x ≡ cond (same_id id x) v (value_at id_order old x)
updated id v old new h x = elim (cases_Bool (same_id id x)) [
  | inl t ↦ ap (value_at id_order new) (sym ((same_id_decides id x).0 t)) ∙ h.here ∙ sym (ap (λ b. cond b v (value_at id_order old x)) t)
  | inr f ↦ h.elsewhere x f ∙ sym (ap (λ b. cond b v (value_at id_order old x)) f)
]

-- an update by an order that is that of ids
in_order : {V : Type 0} (order : Id → Id → Ordering) → ((a b : Id) → order a b ≡ id_order a b) → (id : Id) (v : Option V) (old new : List (Id × V)) → Updates order old new id v → Updates id_order old new id v
in_order order ids id v old new h = subst (λ R. Updates R old new id v) (λ i a b. ids a b i) h

pub at_order : {V : Type 0} (order : Id → Id → Ordering) → ((a b : Id) → order a b ≡ id_order a b) → (id : Id) (entries : List (Id × V)) → value_at order entries id ≡ value_at id_order entries id
at_order order ids id entries = λ i. lookup (is_at (λ (k : Id). ids id k i)) entries

abbrev pub Puts : {V : Type 0} → Id → Option V → List (Id × V) → List (Id × V) → Type 0
Puts {V} id v old new = (x : Id) → value_at id_order new x ≡ cond (same_id id x) v (value_at id_order old x)

-- what a map has after an update by an order that is that of ids
pub puts_by : {V : Type 0} (order : Id → Id → Ordering) → ((a b : Id) → order a b ≡ id_order a b) → (id : Id) (v : Option V) (old new : List (Id × V)) → Updates order old new id v → Puts id v old new
puts_by order ids id v old new h = updated id v old new (in_order order ids id v old new h)

-- births that are found alike tell the same
pub fates_same : (known : List (Id × ⊤)) (old new : List (Id × Birth)) → ((x : Id) → birth_at new x ≡ birth_at old x) → fates_of known new ≡ fates_of known old
fates_same known old new h = λ i. map (λ e. (e.0, fate_by (h e.0 i))) known

pub keeps_grouped : (known : List (Id × ⊤)) (births births' : List (Id × Birth)) (members members' : List Member) → ((x : Id) → birth_at births' x ≡ birth_at births x) → Keeps members members' → AreGrouped known births members → AreGrouped known births' members'
keeps_grouped known births births' members members' same keeps h = record {
  noted = λ x b e. h.noted x b (sym (same x) ∙ e);
  grouped = λ x b g e own. keeps (record { group = g; id = x }) (h.grouped x b g (sym (same x) ∙ e) own);
}

-- an insertion that is taken back
pub taken_back : (id : Id) (v : Option Birth) (old mid new : List (Id × Birth)) → birth_at old id ≡ None → Puts id v old mid → Puts id None mid new → (x : Id) → birth_at new x ≡ birth_at old x
taken_back id v old mid new none put back x = back x ∙ at (same_id id x) refl
  where
    at : (b : Bool) → same_id id x ≡ b → cond b None (birth_at mid x) ≡ birth_at old x
    at true t = sym (ap (birth_at old) (sym ((same_id_decides id x).0 t)) ∙ none)
    at false f = put x ∙ ap (λ b. cond b v (birth_at old x)) f

known_put : (id : Id) (old new : List (Id × ⊤)) → Puts id (Some tt) old new → (x : Id) → is_known new x ≡ cond (same_id id x) true (is_known old x)
known_put id old new put x = ap is_some (put x) ∙ at (same_id id x)
  where
    at : (b : Bool) → is_some (cond b (Some tt) (value_at id_order old x)) ≡ cond b true (is_known old x)
    at true = refl
    at false = refl

-- ---- an id is marked

pub marked_fates : (id : Id) (known known' : List (Id × ⊤)) (births : List (Id × Birth)) → is_known known id ≡ false → birth_at births id ≡ None → Puts id (Some tt) known known'
    → (x : Id) → fate_at (fates_of known' births) x ≡ marked (same_id id x) (fate_at (fates_of known births) x)
marked_fates id known known' births new none put x = fate_kept known' births x ∙ ap (λ b. cond b (Some (fate_by (birth_at births x))) None) (known_put id known known' put x) ∙ at (same_id id x) refl
  where
    at : (b : Bool) → same_id id x ≡ b → cond (cond b true (is_known known x)) (Some (fate_by (birth_at births x))) None ≡ marked b (fate_at (fates_of known births) x)
    at true t =
        let is = (same_id_decides id x).0 t in
        ap (λ o. Some (fate_by o)) (ap (birth_at births) (sym is) ∙ none)
        ∙ sym (ap (marked true) (fate_kept known births x ∙ ap (λ b. cond b (Some (fate_by (birth_at births x))) None) (ap (is_known known) (sym is) ∙ new)))
    at false f = sym (fate_kept known births x)

-- where something is kept already nothing is marked
pub marked_known : (id : Id) (fates : List (Id × Fate)) → is_some (fate_at fates id) ≡ true → (x : Id) → fate_at fates x ≡ marked (same_id id x) (fate_at fates x)
marked_known id fates kept x = at (same_id id x) refl (fate_at fates x) refl
  where
    at : (b : Bool) → same_id id x ≡ b → (o : Option Fate) → fate_at fates x ≡ o → o ≡ marked b o
    at true t None e = absurd (false≢true (ap is_some (sym e ∙ ap (fate_at fates) (sym ((same_id_decides id x).0 t))) ∙ kept))
    at true t (Some f) e = refl
    at false f o e = refl

pub marked_grouped : (id : Id) (known known' : List (Id × ⊤)) (births : List (Id × Birth)) (members : List Member) → Puts id (Some tt) known known' → AreGrouped known births members → AreGrouped known' births members
marked_grouped id known known' births members put h = record {
  noted = λ x b e. known_put id known known' put x ∙ at (same_id id x) (is_known known x) (h.noted x b e);
  grouped = h.grouped;
}
  where
    at : (b c : Bool) → c ≡ true → cond b true c ≡ true
    at true c e = refl
    at false c e = e

-- ---- an id dies

pub buried_fates : (id : Id) (known : List (Id × ⊤)) (births births' : List (Id × Birth)) → Puts id None births births' → (x : Id) → fate_at (fates_of known births') x ≡ buried (same_id id x) (fate_at (fates_of known births) x)
buried_fates id known births births' put x = fate_kept known births' x ∙ ap (λ o. cond (is_known known x) (Some (fate_by o)) None) (put x) ∙ at (same_id id x) (is_known known x) ∙ sym (ap (buried (same_id id x)) (fate_kept known births x))
  where
    at : (b c : Bool) → cond c (Some (fate_by (cond b None (birth_at births x)))) None ≡ buried b (cond c (Some (fate_by (birth_at births x))) None)
    at true true = refl
    at true false = refl
    at false true = refl
    at false false = refl

pub buried_grouped : (id : Id) (known : List (Id × ⊤)) (births births' : List (Id × Birth)) (members members' : List Member) → Puts id None births births' → KeepsOthers id members members' → AreGrouped known births members → AreGrouped known births' members'
buried_grouped id known births births' members members' put keeps h = record {
  noted = λ x b e. h.noted x b (other x b e).1;
  grouped = λ x b g e own. let o = other x b e in keeps (record { group = g; id = x }) o.0 (h.grouped x b g o.1 own);
}
  where
    other : (x : Id) (b : Birth) → birth_at births' x ≡ Some b → (same_id id x ≡ false) × (birth_at births x ≡ Some b)
    other x b e = at (same_id id x) refl (sym (put x) ∙ e)
      where
        at : (c : Bool) → same_id id x ≡ c → cond c None (birth_at births x) ≡ Some b → (same_id id x ≡ false) × (birth_at births x ≡ Some b)
        at true t k = cc
        at false f k = (f, k)

-- ---- an id more lives

module _ (id : Id) (birth : Birth) (known known' : List (Id × ⊤)) (births births' : List (Id × Birth)) (put : Puts id (Some tt) known known') (born : Puts id (Some birth) births births') where
  pub born_fates : (x : Id) → fate_at (fates_of known' births') x ≡ cond (same_id id x) (Some (Living birth.entity birth.keys)) (fate_at (fates_of known births) x)
  born_fates x =
      fate_kept known' births' x ∙ (λ i. cond (known_put id known known' put x i) (Some (fate_by (born x i))) None) ∙ at (same_id id x)
      ∙ ap (cond (same_id id x) (Some (Living birth.entity birth.keys))) (sym (fate_kept known births x))
    where
      at : (b : Bool) → cond (cond b true (is_known known x)) (Some (fate_by (cond b (Some birth) (birth_at births x)))) None
          ≡ cond b (Some (Living birth.entity birth.keys)) (cond (is_known known x) (Some (fate_by (birth_at births x))) None)
      at true = refl
      at false = refl

  pub born_grouped : (members members' : List Member) → Keeps members members' → ((g : Group) → IsGroupOf birth.entity birth.keys g → IsIn members' g id) → AreGrouped known births members → AreGrouped known' births' members'
  born_grouped members members' keeps own h = record {
    noted = λ x b e. known_put id known known' put x ∙ noted x b (same_id id x) (sym (born x) ∙ e);
    grouped = λ x b g e is. grouped x b g is (same_id id x) refl (sym (born x) ∙ e);
  }
    where
      noted : (x : Id) (b : Birth) (c : Bool) → cond c (Some birth) (birth_at births x) ≡ Some b → cond c true (is_known known x) ≡ true
      noted x b true e = refl
      noted x b false e = h.noted x b e

      grouped : (x : Id) (b : Birth) (g : Group) → IsGroupOf b.entity b.keys g → (c : Bool) → same_id id x ≡ c → cond c (Some birth) (birth_at births x) ≡ Some b → IsIn members' g x
      grouped x b g is true t e =
          let same : b ≡ birth = cc in
          subst (IsIn members' g) ((same_id_decides id x).0 t) (own g (subst (λ (z : Birth). IsGroupOf z.entity z.keys g) same is))
      grouped x b g is false f e = keeps (record { group = g; id = x }) (h.grouped x b g e is)
