-- What is listed of a roster, in the order of ids.
use Rattle.std.proofs.Common.{◌≡◌, refl, sym, ◌∙◌, ap, subst, ℕ, Bool, true, false, cond, List, [], ◌∷◌, map, inl, inr, Option, Some, None}
use Rattle.std.specs.Prelude.{⊤, ◌⊎◌, Contains, IsTrue, MatchOption, not, filter, ◌&&◌, ◌==◌}
use Rattle.std.specs.Option.{option_map}
use Rattle.std.specs.List.{AllByRecursion}
use Rattle.std.specs.List.Sorted.{IsStrictlySortedBy}
use Rattle.std.specs.Map.{keys_of}
use Rattle.std.specs.declared.cmp.Ordering.TheVariants.{Less, Equal}
use Rattle.std.proofs.lemmas.Bool.{cases_Bool, false≢true}
use borrow.Author.Tests.{eqb-true}
use Rattle.std.proofs.lemmas.Cmp.{tied_itself}
use Rattle.std.proofs.lemmas.List.Elements.{All-from_recursion, All-contains}
use Rattle.std.proofs.lemmas.List.Kept.{IsStrictlySortedBy-filter}
use Rattle.std.proofs.lemmas.Map.Keys.{sorted_head, sorted_tail}
use Rattle.cloud_base.specs.Values.{Id}
use Rattle.cloud_base.specs.Order.{id_order, same_id}
use Rattle.cloud_base.specs.Log.{Creation, creation, is_of}
use Rattle.cloud_base.specs.Dead.{is_dead, is_alive}
use Rattle.cloud_base.specs.Answer.{is_listed}
use Rattle.cloud_base.specs.Sorted.{Lists}
use Rattle.cloud_base.specs.declared.update.Update.{Update}
use Rattle.cloud_base.proofs.OrderLemmas.{id_order_total, same_id_decides}
use Rattle.cloud_base.proofs.SortedLemmas.{here, there, none_in, split_member, kept, kept_member, kept_passes}
use Rattle.fj_entity.specs.declared.birth.Birth.{Birth}
use Rattle.fj_entity.specs.declared.created.Created.{Created}
use Rattle.fj_entity.specs.declared.groups.Group.TheVariants.{Entity}
use Rattle.fj_entity.specs.declared.groups.Member.{Member}
use Rattle.fj_entity.specs.Fates.{Fate, Living, Dead, living, fate_at, fate_in, is_gone, is_member, is_living, created_at, found}
use Rattle.fj_entity.specs.Groups.{IsIn}
use Rattle.fj_entity.specs.Kept.{birth_at, fates_of, created_entry, AreGrouped}
use Rattle.fj_entity.specs.Rosters.{RosterStands, Ascends, IsLiving, created_order}
use Rattle.fj_entity.proofs.FateLemmas.{gone_means, living_means}
use Rattle.fj_entity.proofs.GroupLemmas.{mapped, mapped_from}
use Rattle.fj_entity.proofs.KeptLemmas.{birth_lives, living_birth, living_in}
use Rattle.fj_entity.proofs.WalkLemmas.{living_made, made_living}

-- ---- the ids of an entity

listed_in : (log : List Update) (entity : ℕ) (id : Id) → is_member entity (fate_in log id) ≡ is_listed log entity id
listed_in log entity id = at (is_dead log id) (creation id log)
  where
    at : (b : Bool) (o : Option Creation) → is_member entity (cond b (Some Dead) (option_map living o)) ≡ (is_of entity o && not b)
    at true None = refl
    at true (Some c) = sym (never (c.entity == entity))
      where
        never : (b : Bool) → (b && false) ≡ false
        never true = refl
        never false = refl
    at false None = refl
    at false (Some c) = sym (ever (c.entity == entity))
      where
        ever : (b : Bool) → (b && true) ≡ b
        ever true = refl
        ever false = refl

member_living : (entity : ℕ) (o : Option Fate) → is_member entity o ≡ true → (e : ℕ) × (ks : _) × (o ≡ Some (Living e ks)) × (e ≡ entity)
member_living entity None h = absurd (false≢true h)
member_living entity (Some Dead) h = absurd (false≢true h)
member_living entity (Some (Living e ks)) h = (e, ks, refl, eqb-true e entity h)

pub lists_members : (known : List (Id × ⊤)) (births : List (Id × Birth)) (members : List Member) (log : List Update) (entity : ℕ) (listed ids : List Id) → AreGrouped known births members
    → RosterStands (fates_of known births) log → Lists id_order listed (IsIn members (Entity entity)) → ids ≡ filter (λ id. is_member entity (fate_at (fates_of known births) id)) listed
    → Lists id_order ids (λ id. IsTrue (is_listed log entity id))
lists_members known births members log entity listed ids grouped h lists e = subst (λ (l : List Id). Lists id_order l (λ id. IsTrue (is_listed log entity id))) (sym e) (record {
  ascends = IsStrictlySortedBy-filter id_order test listed lists.ascends;
  only = λ x m. sym (means x) ∙ kept_passes test listed x m;
  every = λ x t.
      let w = member_living entity (fate_at fates x) (means x ∙ t) in
      kept test listed x (lists.every x (living_in known births members grouped x w.0 w.1 (Entity entity) w.2 (sym w.3))) (means x ∙ t);
})
  where
    fates : List (Id × Fate)
    fates = fates_of known births

    test : Id → Bool
    test id = is_member entity (fate_at fates id)

    means : (x : Id) → test x ≡ is_listed log entity x
    means x = ap (is_member entity) (h.kept x) ∙ listed_in log entity x

-- ---- the dead

kept_key : (fates : List (Id × Fate)) (x : Id) → Contains (keys_of fates) x → (f : Fate) × (fate_at fates x ≡ Some f)
kept_key [] x m = absurd (none_in x m)
kept_key (e ∷ fates) x m = at (kept_key fates x) (same_id x e.0) refl (split_member e.0 x (keys_of fates) m)
  where
    at : (Contains (keys_of fates) x → (f : Fate) × (fate_at fates x ≡ Some f)) → (b : Bool) → same_id x e.0 ≡ b → (e.0 ≡ x) ⊎ Contains (keys_of fates) x → (f : Fate) × (cond b (Some e.1) (fate_at fates x) ≡ Some f)
    at ih true t s = (e.1, refl)
    at ih false f (inl p) = absurd (false≢true (sym f ∙ (same_id_decides x e.0).1 (sym p)))
    at ih false f (inr n) = ih n

key_kept : (fates : List (Id × Fate)) (x : Id) (f : Fate) → fate_at fates x ≡ Some f → Contains (keys_of fates) x
key_kept [] x f h = cc
key_kept (e ∷ fates) x f h = at (key_kept fates x f) (same_id x e.0) refl h
  where
    at : (fate_at fates x ≡ Some f → Contains (keys_of fates) x) → (b : Bool) → same_id x e.0 ≡ b → cond b (Some e.1) (fate_at fates x) ≡ Some f → Contains (e.0 ∷ keys_of fates) x
    at ih true t k = subst (Contains (e.0 ∷ keys_of fates)) (sym ((same_id_decides x e.0).0 t)) (here e.0 (keys_of fates))
    at ih false g k = there e.0 x (keys_of fates) (ih k)

gone_dead : (o : Option Fate) → is_gone o ≡ true → o ≡ Some Dead
gone_dead None h = absurd (false≢true h)
gone_dead (Some Dead) h = refl
gone_dead (Some (Living e ks)) h = absurd (false≢true h)

not_living : (f : Fate) → not (is_living (Some f)) ≡ true → is_gone (Some f) ≡ true
not_living Dead h = refl
not_living (Living e ks) h = h

pub lists_gone : (fates : List (Id × Fate)) (log : List Update) (ids : List Id) → Ascends fates → RosterStands fates log → ids ≡ filter (λ id. not (is_living (fate_at fates id))) (keys_of fates)
    → Lists id_order ids (λ id. is_dead log id ≡ true)
lists_gone fates log ids sorted h e = subst (λ (l : List Id). Lists id_order l (λ id. is_dead log id ≡ true)) (sym e) (record {
  ascends = IsStrictlySortedBy-filter id_order test (keys_of fates) sorted;
  only = λ x m.
      let w = kept_key fates x (kept_member test (keys_of fates) x m) in
      let out : not (is_living (Some w.0)) ≡ true = sym (ap (λ o. not (is_living o)) w.1) ∙ kept_passes test (keys_of fates) x m in
      sym (gone_means fates log x h) ∙ ap is_gone w.1 ∙ not_living w.0 out;
  every = λ x d.
      let is : fate_at fates x ≡ Some Dead = gone_dead (fate_at fates x) (gone_means fates log x h ∙ d) in
      kept test (keys_of fates) x (key_kept fates x Dead is) (ap (λ o. not (is_living o)) is);
})
  where
    test : Id → Bool
    test id = not (is_living (fate_at fates id))

-- ---- what lives

-- what a living id was created with
living_of : (fates : List (Id × Fate)) (log : List Update) (id : Id) (e : ℕ) (ks : _) → RosterStands fates log → fate_at fates id ≡ Some (Living e ks) → IsLiving log (record { id = id; entity = e; keys = ks })
living_of fates log id e ks h k = let m = living_made log id e ks (sym (h.kept id) ∙ k) in (m.1 ∙ ap Some (λ i. record { entity = m.3 i; keys = m.2 i }), m.4)

entry_found : (births : List (Id × Birth)) (e : Id × Birth) → IsStrictlySortedBy id_order (keys_of births) → Contains births e → birth_at births e.0 ≡ Some e.1
entry_found [] e sorted m = absurd (none_in e m)
entry_found (f ∷ births) e sorted m = at (entry_found births e (sorted_tail id_order f.0 (keys_of births) sorted)) (same_id e.0 f.0) refl (split_member f e births m)
  where
    later : Contains births e → same_id e.0 f.0 ≡ false
    later n = elim (cases_Bool (same_id e.0 f.0)) [
      | inr g ↦ g
      | inl t ↦
          let less : id_order f.0 e.0 ≡ Less = All-contains (λ y. id_order f.0 y ≡ Less) (keys_of births) e.0 (All-from_recursion (λ y. id_order f.0 y ≡ Less) (keys_of births) (sorted_head id_order f.0 (keys_of births) sorted)) (mapped (λ (z : Id × Birth). z.0) births e n) in
          let tied : id_order f.0 e.0 ≡ Equal = ap (id_order f.0) ((same_id_decides e.0 f.0).0 t) ∙ tied_itself id_order_total f.0 in
          cc
    ]

    at : (Contains births e → birth_at births e.0 ≡ Some e.1) → (b : Bool) → same_id e.0 f.0 ≡ b → (f ≡ e) ⊎ Contains births e → cond b (Some f.1) (birth_at births e.0) ≡ Some e.1
    at ih true t (inl p) = ap (λ (z : Id × Birth). Some z.1) p
    at ih true t (inr n) = absurd (false≢true (sym (later n) ∙ t))
    at ih false g (inl p) = absurd (false≢true (sym g ∙ (same_id_decides e.0 f.0).1 (ap (λ (z : Id × Birth). z.0) (sym p))))
    at ih false g (inr n) = ih n

entry_there : (births : List (Id × Birth)) (x : Id) (b : Birth) → birth_at births x ≡ Some b → Contains births (x, b)
entry_there [] x b h = cc
entry_there (f ∷ births) x b h = at (entry_there births x b) (same_id x f.0) refl h
  where
    at : (birth_at births x ≡ Some b → Contains births (x, b)) → (c : Bool) → same_id x f.0 ≡ c → cond c (Some f.1) (birth_at births x) ≡ Some b → Contains (f ∷ births) (x, b)
    at ih true t k =
        let p : f.0 ≡ x = sym ((same_id_decides x f.0).0 t) in
        let q : f.1 ≡ b = cc in
        let same : f ≡ (x, b) = λ i. (p i, q i) in
        subst (Contains (f ∷ births)) same (here f births)
    at ih false g k = there f (x, b) births (ih k)

created_above : (id : Id) (births : List (Id × Birth)) (c : Created) → c.id ≡ id → AllByRecursion (λ y. id_order id y ≡ Less) (keys_of births) → AllByRecursion (λ b. created_order c b ≡ Less) (map created_entry births)
created_above id [] c e h = tt
created_above id (f ∷ births) c e h = (ap (λ z. id_order z f.0) e ∙ h.0, created_above id births c e h.1)

created_ascends : (births : List (Id × Birth)) → IsStrictlySortedBy id_order (keys_of births) → IsStrictlySortedBy created_order (map created_entry births)
unfolding IsStrictlySortedBy
created_ascends [] s = tt
created_ascends (f ∷ births) s = (created_above f.0 births (created_entry f) refl (sorted_head id_order f.0 (keys_of births) s), created_ascends births (sorted_tail id_order f.0 (keys_of births) s))

pub lists_created : (known : List (Id × ⊤)) (births : List (Id × Birth)) (members : List Member) (log : List Update) (list : List Created) → AreGrouped known births members
    → RosterStands (fates_of known births) log → IsStrictlySortedBy id_order (keys_of births) → list ≡ map created_entry births → Lists created_order list (IsLiving log)
lists_created known births members log list grouped h sorted e = subst (λ (l : List Created). Lists created_order l (IsLiving log)) (sym e) (record {
  ascends = created_ascends births sorted;
  only = λ c m.
      let w = mapped_from created_entry births c m in
      subst (IsLiving log) w.2 (living_of (fates_of known births) log w.0.0 w.0.1.entity w.0.1.keys h (birth_lives known births members grouped w.0.0 w.0.1 (entry_found births w.0 sorted w.1)));
  every = λ c l.
      let lives = h.kept c.id ∙ made_living log c.id (record { entity = c.entity; keys = c.keys }) l.0 l.1 in
      mapped created_entry births (c.id, record { entity = c.entity; keys = c.keys }) (entry_there births c.id (record { entity = c.entity; keys = c.keys }) (living_birth known births c.id c.entity c.keys lives));
})

-- what was created with is found exactly where an id lives
pub found_means : (fates : List (Id × Fate)) (log : List Update) (id : Id) (o : Option Created) → RosterStands fates log → o ≡ found fates id → MatchOption o (is_alive log id ≡ false) (λ c. (c.id ≡ id) × IsLiving log c)
found_means fates log id o h e = subst (λ p. MatchOption p (is_alive log id ≡ false) (λ c. (c.id ≡ id) × IsLiving log c)) (sym e) (at (fate_at fates id) refl)
  where
    at : (p : Option Fate) → fate_at fates id ≡ p → MatchOption (created_at id p) (is_alive log id ≡ false) (λ c. (c.id ≡ id) × IsLiving log c)
    at None k = sym (living_means fates log id h) ∙ ap is_living k
    at (Some Dead) k = sym (living_means fates log id h) ∙ ap is_living k
    at (Some (Living en ks)) k = (refl, living_of fates log id en ks h k)
