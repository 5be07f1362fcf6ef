-- The members of groups.
use Rattle.std.proofs.Common.{◌≡◌, refl, sym, ◌∙◌, ap, subst, arith, ℕ, ◌<◌, Bool, true, false, cond, List, [], ◌∷◌, ◌++◌, map, inl, inr}
use Rattle.std.specs.Prelude.{◌⊎◌, ⊤, Contains, not, filter, Result}
use Rattle.std.specs.Bool.{Decides}
use Rattle.std.specs.Result.{OnOk, OnErr}
use Rattle.std.specs.declared.result.Result.TheVariants.{Ok, Err}
use Rattle.std.specs.declared.cmp.Ordering.{Ordering}
use Rattle.std.specs.declared.cmp.Ordering.TheVariants.{Less, Equal, Greater}
use Rattle.std.specs.Ordering.{ordering_then, match_ordering, nat_cmp, is_eq, is_lt, MatchOrdering}
use Rattle.std.proofs.lemmas.Cmp.{ranked}
use Rattle.std.proofs.lemmas.List.Kept.{IsStrictlySortedBy-filter}
use Rattle.std.specs.List.{AllByRecursion, take_while}
use Rattle.std.specs.List.Sorted.{IsStrictlySortedBy}
use Rattle.std.specs.Map.{keys_of}
use Rattle.std.specs.BTreeMap.{is_at}
use Rattle.std.proofs.lemmas.Bool.{false≢true}
use Rattle.std.proofs.lemmas.List.Elements.{All-from_recursion, All-contains}
use Rattle.std.proofs.lemmas.List.Sums.{take_while-cons}
use Rattle.std.proofs.lemmas.Map.Keys.{sorted_head, sorted_tail}
use Rattle.cloud_base.specs.Values.{Id}
use Rattle.cloud_base.specs.Order.{id_order}
use Rattle.cloud_base.specs.Log.{ids_of}
use Rattle.cloud_base.specs.Sorted.{Lists}
use Rattle.cloud_base.specs.declared.key.Key.{Key}
use Rattle.cloud_base.specs.declared.key.Key.TheVariants.{Int, Text, Ref}
use Rattle.cloud_base.proofs.OrderLemmas.{same_id_itself}
use Rattle.cloud_base.proofs.SortedLemmas.{here, there, none_in, split_member, kept, kept_member, kept_passes}
use Rattle.shared_map.specs.Entries.{with_entry, without_key, entries_from}
use Rattle.fj_entity.specs.declared.groups.Group.{Group}
use Rattle.fj_entity.specs.declared.groups.Group.TheVariants.{Entity, Parent}
use Rattle.fj_entity.specs.declared.groups.Member.{Member}
use Rattle.fj_entity.specs.Groups.{group_order, member_order, same_group, least, IsGroupOf, IsIn, Keeps, KeepsOthers}

-- ---- the keys of entries

module _ {K V : Type 0} (R : K → K → Ordering) where
  -- a key that was put is there
  pub put_has : (entries : List (K × V)) (e : K × V) → Contains (keys_of (with_entry R entries e)) e.0
  put_has [] e = here e.0 []
  put_has (f ∷ entries) e = at (R e.0 f.0) (put_has entries e)
    where
      at : (r : Ordering) → Contains (keys_of (with_entry R entries e)) e.0 → Contains (keys_of (match_ordering r (e ∷ f ∷ entries) (e ∷ entries) (f ∷ with_entry R entries e))) e.0
      at Less h = here e.0 (keys_of (f ∷ entries))
      at Equal h = here e.0 (keys_of entries)
      at Greater h = there f.0 e.0 (keys_of (with_entry R entries e)) h

  -- and all that were there stay
  pub put_keeps : ((a b : K) → R a b ≡ Equal → a ≡ b) → (entries : List (K × V)) (e : K × V) (q : K) → Contains (keys_of entries) q → Contains (keys_of (with_entry R entries e)) q
  put_keeps same [] e q m = absurd (none_in q m)
  put_keeps same (f ∷ entries) e q m = at (put_keeps same entries e q) (R e.0 f.0) refl (split_member f.0 q (keys_of entries) m)
    where
      at : (Contains (keys_of entries) q → Contains (keys_of (with_entry R entries e)) q) → (r : Ordering) → R e.0 f.0 ≡ r → (f.0 ≡ q) ⊎ Contains (keys_of entries) q → Contains (keys_of (match_ordering r (e ∷ f ∷ entries) (e ∷ entries) (f ∷ with_entry R entries e))) q
      at ih Less i h = there e.0 q (keys_of (f ∷ entries)) m
      at ih Equal i (inl p) = subst (Contains (e.0 ∷ keys_of entries)) (same e.0 f.0 i ∙ p) (here e.0 (keys_of entries))
      at ih Equal i (inr n) = there e.0 q (keys_of entries) n
      at ih Greater i (inl p) = subst (Contains (f.0 ∷ keys_of (with_entry R entries e))) p (here f.0 (keys_of (with_entry R entries e)))
      at ih Greater i (inr n) = there f.0 q (keys_of (with_entry R entries e)) (ih n)

-- the keys of the entries that a test of the keys keeps
pub keys_kept : {K V : Type 0} (p : K → Bool) (entries : List (K × V)) → keys_of (filter (λ e. p e.0) entries) ≡ filter p (keys_of entries)
keys_kept p [] = refl
keys_kept {K = K} p (e ∷ entries) = at (p e.0) (keys_kept p entries)
  where
    at : (b : Bool) → keys_of (filter (λ e. p e.0) entries) ≡ filter p (keys_of entries) → keys_of (cond b (e ∷ filter (λ e. p e.0) entries) (filter (λ e. p e.0) entries)) ≡ cond b (e.0 ∷ filter p (keys_of entries)) (filter p (keys_of entries))
    at true ih = ap (λ (l : List K). e.0 ∷ l) ih
    at false ih = ih

-- ---- the front of a list

module _ {A : Type 0} (p : A → Bool) where
  pub front_member : (xs : List A) (x : A) → Contains (take_while p xs) x → Contains xs x × (p x ≡ true)
  front_member [] x m = absurd (none_in x m)
  front_member (y ∷ xs) x m = at (front_member xs x) (p y) refl (subst (λ (l : List A). Contains l x) (take_while-cons p y xs) m)
    where
      at : (Contains (take_while p xs) x → Contains xs x × (p x ≡ true)) → (b : Bool) → p y ≡ b → Contains (cond b (y ∷ take_while p xs) []) x → Contains (y ∷ xs) x × (p x ≡ true)
      at ih true t n = elim (split_member y x (take_while p xs) n) [
        | inl e ↦ (subst (Contains (y ∷ xs)) e (here y xs), ap p (sym e) ∙ t)
        | inr k ↦ let r = ih k in (there y x xs r.0, r.1)
      ]
      at ih false t n = absurd (none_in x n)

pub mapped_from : {A B : Type 0} (f : A → B) (xs : List A) (y : B) → Contains (map f xs) y → (x : A) × Contains xs x × (f x ≡ y)
mapped_from f [] y m = absurd (none_in y m)
mapped_from f (x ∷ xs) y m = elim (split_member (f x) y (map f xs) m) [
  | inl e ↦ (x, here x xs, e)
  | inr k ↦ let r = mapped_from f xs y k in (r.0, there x r.0 xs r.1, r.2)
]

pub mapped : {A B : Type 0} (f : A → B) (xs : List A) (x : A) → Contains xs x → Contains (map f xs) (f x)
mapped f [] x m = absurd (none_in (f x) (absurd (none_in x m)))
mapped f (y ∷ xs) x m = elim (split_member y x xs m) [
  | inl e ↦ subst (λ z. Contains (map f (y ∷ xs)) (f z)) e (here (f y) (map f xs))
  | inr k ↦ there (f y) (f x) (map f xs) (mapped f xs x k)
]

-- ---- the members of one group stand side by side

pub record Orders : Type 0 where
  pub by_parts : (a b : Member) → member_order a b ≡ ordering_then (group_order a.group b.group) (id_order a.id b.id)
  pub apart : (a b : Group) → group_order a b ≡ Equal → a ≡ b
  pub tied : (a : Group) → group_order a a ≡ Equal
  pub same : (a b : Group) → Decides (same_group a b) (a ≡ b)

both_equal : (r s : Ordering) → ordering_then r s ≡ Equal → (r ≡ Equal) × (s ≡ Equal)
both_equal Less s e = cc
both_equal Equal s e = (refl, e)
both_equal Greater s e = cc

module _ (orders : Orders) where
  pub member_same : ((a b : Id) → id_order a b ≡ Equal → a ≡ b) → (a b : Member) → member_order a b ≡ Equal → a ≡ b
  member_same ids a b e =
      let h = both_equal (group_order a.group b.group) (id_order a.id b.id) (sym (orders.by_parts a b) ∙ e) in
      let p : a.group ≡ b.group = orders.apart a.group b.group h.0 in
      let q : a.id ≡ b.id = ids a.id b.id h.1 in
      λ i. record { group = p i; id = q i }

  -- what is left where a member is taken out
  module _ (entries : List (Member × ⊤)) (it : Member) where
    is_other : Member → Bool
    is_other m = not (is_at (member_order it) m)

    left : List Member
    left = keys_of (without_key member_order entries it)

    left_is : left ≡ filter is_other (keys_of entries)
    unfolding left is_other
    left_is = keys_kept (λ m. not (is_at (member_order it) m)) entries

    pub taken_keeps : KeepsOthers it.id (keys_of entries) (keys_of (without_key member_order entries it))
    unfolding left is_other
    taken_keeps m other h = subst (λ (l : List Member). Contains l m) (sym left_is) (kept is_other (keys_of entries) m h (ap not (ap is_eq (orders.by_parts it m) ∙ at (group_order it.group m.group) (id_order it.id m.id) other)))
      where
        at : (r s : Ordering) → is_eq s ≡ false → is_eq (ordering_then r s) ≡ false
        at Less s h = refl
        at Equal s h = h
        at Greater s h = refl

    pub taken_fewer : Keeps (keys_of (without_key member_order entries it)) (keys_of entries)
    unfolding left is_other
    taken_fewer m h = kept_member is_other (keys_of entries) m (subst (λ (l : List Member). Contains l m) left_is h)

    pub taken_leaves : ¬ Contains (keys_of (without_key member_order entries it)) it
    unfolding left is_other
    taken_leaves h =
        let itself : is_at (member_order it) it ≡ true = ap is_eq (orders.by_parts it it ∙ ap (λ r. ordering_then r (id_order it.id it.id)) (orders.tied it.group)) ∙ same_id_itself it.id in
        absurd (false≢true (sym (ap not itself) ∙ kept_passes is_other (keys_of entries) it (subst (λ (l : List Member). Contains l it) left_is h)))

  module _ (group : Group) where
    abbrev pub is_own : Member → Bool
    is_own m = same_group m.group group

    none_below : (n : ℕ) → is_lt (nat_cmp n 0) ≡ false
    none_below n = at (nat_cmp n 0) (ranked n 0 (nat_cmp n 0) refl)
      where
        at : (r : Ordering) → MatchOrdering r (n < 0) (n ≡ 0) (0 < n) → is_lt r ≡ false
        at Less h = absurd (omega (arith, h))
        at Equal h = refl
        at Greater h = refl

    not_below : (id : Id) → is_lt (id_order id (record { client = 0; serial = 0 })) ≡ false
    not_below id = at (nat_cmp id.client 0) (nat_cmp id.serial 0) (none_below id.client) (none_below id.serial)
      where
        at : (r s : Ordering) → is_lt r ≡ false → is_lt s ≡ false → is_lt (ordering_then r s) ≡ false
        at Less s h k = h
        at Equal s h k = k
        at Greater s h k = h

    -- what isn't before the first member, and is before some member of the group, is of the group
    between : (y x : Member) → is_lt (member_order y (least group)) ≡ false → member_order y x ≡ Less → x.group ≡ group → is_own y ≡ true
    between y x low high own = at (group_order y.group group) refl (ap is_lt (sym (orders.by_parts y (least group))) ∙ low)
        (sym (orders.by_parts y x ∙ ap (λ g. ordering_then (group_order y.group g) (id_order y.id x.id)) own) ∙ high)
      where
        at : (r : Ordering) → group_order y.group group ≡ r → is_lt (ordering_then r (id_order y.id (record { client = 0; serial = 0 }))) ≡ false → ordering_then r (id_order y.id x.id) ≡ Less → is_own y ≡ true
        at Less e l h = absurd (false≢true (sym l))
        at Equal e l h = (orders.same y.group group).1 (orders.apart y.group group e)
        at Greater e l h = cc

    abbrev pub AreNotBelow : List Member → Type 0
    AreNotBelow members = (m : Member) → Contains members m → is_lt (member_order m (least group)) ≡ false

    pub in_front : (members : List Member) (x : Member) → IsStrictlySortedBy member_order members → AreNotBelow members → x.group ≡ group → Contains members x → Contains (take_while is_own members) x
    in_front [] x sorted low own m = absurd (none_in x m)
    in_front (y ∷ members) x sorted low own m = subst (λ (l : List Member). Contains l x) (sym (take_while-cons is_own y members ∙ ap (λ b. cond b (y ∷ take_while is_own members) []) passes)) (elim (split_member y x members m) [
      | inl e ↦ subst (Contains (y ∷ take_while is_own members)) e (here y (take_while is_own members))
      | inr n ↦ there y x (take_while is_own members) (in_front members x (sorted_tail member_order y members sorted) (λ z k. low z (there y z members k)) own n)
    ])
      where
        passes : is_own y ≡ true
        passes = elim (split_member y x members m) [
          | inl e ↦ (orders.same y.group group).1 (ap (λ (z : Member). z.group) e ∙ own)
          | inr n ↦ between y x (low y (here y members)) (All-contains (λ z. member_order y z ≡ Less) members x (All-from_recursion (λ z. member_order y z ≡ Less) members (sorted_head member_order y members sorted)) n) own
        ]

    -- two of the group come by their ids
    by_id : (a b : Member) → is_own a ≡ true → is_own b ≡ true → member_order a b ≡ Less → id_order a.id b.id ≡ Less
    by_id a b s t less =
        let p : a.group ≡ group = (orders.same a.group group).0 s in
        let q : b.group ≡ group = (orders.same b.group group).0 t in
        sym (orders.by_parts a b ∙ (λ i. ordering_then (group_order (p i) (q i)) (id_order a.id b.id)) ∙ ap (λ r. ordering_then r (id_order a.id b.id)) (orders.tied group)) ∙ less

    above : (y : Member) (members : List Member) → is_own y ≡ true → AllByRecursion (λ z. member_order y z ≡ Less) members → AllByRecursion (λ z. id_order y.id z ≡ Less) (map (λ (m : Member). m.id) (take_while is_own members))
    above y [] t h = tt
    above y (z ∷ members) t h = subst (λ (l : List Member). AllByRecursion (λ w. id_order y.id w ≡ Less) (map (λ (m : Member). m.id) l)) (sym (take_while-cons is_own z members)) (at (above y members t h.1) (is_own z) refl)
      where
        at : AllByRecursion (λ w. id_order y.id w ≡ Less) (map (λ (m : Member). m.id) (take_while is_own members)) → (b : Bool) → is_own z ≡ b → AllByRecursion (λ w. id_order y.id w ≡ Less) (map (λ (m : Member). m.id) (cond b (z ∷ take_while is_own members) []))
        at ih true s = (by_id y z t s h.0, ih)
        at ih false s = tt

    ascends : (members : List Member) → IsStrictlySortedBy member_order members → IsStrictlySortedBy id_order (map (λ (m : Member). m.id) (take_while is_own members))
    unfolding IsStrictlySortedBy
    ascends [] sorted = tt
    ascends (y ∷ members) sorted = subst (λ (l : List Member). IsStrictlySortedBy id_order (map (λ (m : Member). m.id) l)) (sym (take_while-cons is_own y members)) (at (ascends members (sorted_tail member_order y members sorted)) (is_own y) refl)
      where
        at : IsStrictlySortedBy id_order (map (λ (m : Member). m.id) (take_while is_own members)) → (b : Bool) → is_own y ≡ b → IsStrictlySortedBy id_order (map (λ (m : Member). m.id) (cond b (y ∷ take_while is_own members) []))
        at ih true t = (above y members t (sorted_head member_order y members sorted), ih)
        at ih false t = tt

    keys_in_front : (entries : List (Member × ⊤)) → keys_of (take_while (λ e. is_own e.0) entries) ≡ take_while is_own (keys_of entries)
    keys_in_front [] = refl
    keys_in_front (e ∷ entries) = ap keys_of (take_while-cons (λ e. is_own e.0) e entries) ∙ at (is_own e.0) (keys_in_front entries) ∙ sym (take_while-cons is_own e.0 (keys_of entries))
      where
        at : (b : Bool) → keys_of (take_while (λ e. is_own e.0) entries) ≡ take_while is_own (keys_of entries) → keys_of (cond b (e ∷ take_while (λ e. is_own e.0) entries) []) ≡ cond b (e.0 ∷ take_while is_own (keys_of entries)) []
        at true ih = ap (λ (l : List Member). e.0 ∷ l) ih
        at false ih = refl

    ids_by_key : (entries : List (Member × ⊤)) → map (λ e. e.0.id) entries ≡ map (λ (m : Member). m.id) (keys_of entries)
    ids_by_key [] = refl
    ids_by_key (e ∷ entries) = ap (λ (l : List Id). e.0.id ∷ l) (ids_by_key entries)

    -- the stretch of a group has its members
    pub stretch_lists : (entries : List (Member × ⊤)) (ids : List Id) → IsStrictlySortedBy member_order (keys_of entries)
        → ids ≡ map (λ e. e.0.id) (take_while (λ e. is_own e.0) (entries_from member_order entries (least group))) → Lists id_order ids (IsIn (keys_of entries) group)
    stretch_lists entries ids sorted is = subst (λ (l : List Id). Lists id_order l (IsIn (keys_of entries) group)) (sym same) (record {
      ascends = ascends from (IsStrictlySortedBy-filter member_order test (keys_of entries) sorted);
      only = λ x m.
          let w = mapped_from (λ (m : Member). m.id) (take_while is_own from) x m in
          let f = front_member is_own from w.0 w.1 in
          let own : w.0.group ≡ group = (orders.same w.0.group group).0 f.1 in
          let it : w.0 ≡ record { group = group; id = x } = λ i. record { group = own i; id = w.2 i } in
          subst (Contains (keys_of entries)) it (kept_member test (keys_of entries) w.0 f.0);
      every = λ x m. mapped (λ (m : Member). m.id) (take_while is_own from) (record { group = group; id = x })
          (in_front from (record { group = group; id = x }) (IsStrictlySortedBy-filter member_order test (keys_of entries) sorted)
          (λ y n. not_true (is_lt (member_order y (least group))) (kept_passes test (keys_of entries) y n)) refl
          (kept test (keys_of entries) (record { group = group; id = x }) m (ap not (own_not_below x))));
    })
      where
        test : Member → Bool
        test m = not (is_lt (member_order m (least group)))

        from : List Member
        from = filter test (keys_of entries)

        same : ids ≡ map (λ (m : Member). m.id) (take_while is_own from)
        same = is ∙ ids_by_key (take_while (λ e. is_own e.0) (entries_from member_order entries (least group)))
            ∙ ap (map (λ (m : Member). m.id)) (keys_in_front (entries_from member_order entries (least group)) ∙ ap (take_while is_own) (keys_kept (λ k. not (is_lt (member_order k (least group)))) entries))

        not_true : (b : Bool) → not b ≡ true → b ≡ false
        not_true true h = sym h
        not_true false h = refl

        own_not_below : (x : Id) → is_lt (member_order (record { group = group; id = x }) (least group)) ≡ false
        own_not_below x = ap is_lt (orders.by_parts (record { group = group; id = x }) (least group) ∙ ap (λ r. ordering_then r (id_order x (record { client = 0; serial = 0 }))) (orders.tied group)) ∙ not_below x

-- ---- the groups of one id

-- keys with one more have its group
keys_more : (p : Id) (keys : List Key) (key : Key) → Contains (ids_of (keys ++ key ∷ [])) p → Contains (ids_of keys) p ⊎ (key ≡ Ref p)
keys_more p [] (Int n) h = absurd (none_in p h)
keys_more p [] (Text t) h = absurd (none_in p h)
keys_more p [] (Ref id) h = elim (split_member id p [] h) [ inl e ↦ inr (ap Ref e) | inr m ↦ absurd (none_in p m) ]
keys_more p (Int n ∷ keys) key h = keys_more p keys key h
keys_more p (Text t ∷ keys) key h = keys_more p keys key h
keys_more p (Ref id ∷ keys) key h = elim (split_member id p (ids_of (keys ++ key ∷ [])) h) [
  | inl e ↦ inl (subst (Contains (id ∷ ids_of keys)) e (here id (ids_of keys)))
  | inr m ↦ elim (keys_more p keys key m) [ inl k ↦ inl (there id p (ids_of keys) k) | inr e ↦ inr e ]
]

abbrev pub InAll : List Member → Id → ℕ → List Key → Type 0
InAll members id entity keys = (group : Group) → IsGroupOf entity keys group → IsIn members group id

pub in_more : (old new : List Member) (id : Id) (entity : ℕ) (keys : List Key) (key : Key) → Keeps old new → ((p : Id) → key ≡ Ref p → IsIn new (Parent p) id) → InAll old id entity keys → InAll new id entity (keys ++ key ∷ [])
in_more old new id entity keys key keeps has h (Entity e) own = keeps (record { group = Entity e; id = id }) (h (Entity e) own)
in_more old new id entity keys key keeps has h (Parent p) own = elim (keys_more p keys key own) [
  | inl k ↦ keeps (record { group = Parent p; id = id }) (h (Parent p) k)
  | inr e ↦ has p e
]

pub in_entity : (members : List Member) (id : Id) (entity : ℕ) → IsIn members (Entity entity) id → InAll members id entity []
in_entity members id entity h (Entity e) own = subst (λ n. IsIn members (Entity n) id) (sym own) h
in_entity members id entity h (Parent p) own = absurd (none_in p own)

abbrev pub OutOfAll : List Member → Id → ℕ → List Key → Type 0
OutOfAll members id entity keys = (group : Group) → IsGroupOf entity keys group → ¬ IsIn members group id

pub out_more : (old new : List Member) (id : Id) (entity : ℕ) (keys : List Key) (key : Key) → Keeps new old → ((p : Id) → key ≡ Ref p → ¬ IsIn new (Parent p) id) → OutOfAll old id entity keys → OutOfAll new id entity (keys ++ key ∷ [])
out_more old new id entity keys key fewer out h (Entity e) own m = h (Entity e) own (fewer (record { group = Entity e; id = id }) m)
out_more old new id entity keys key fewer out h (Parent p) own m = elim (keys_more p keys key own) [
  | inl k ↦ h (Parent p) k (fewer (record { group = Parent p; id = id }) m)
  | inr e ↦ out p e m
]

pub out_entity : (members : List Member) (id : Id) (entity : ℕ) → ¬ IsIn members (Entity entity) id → OutOfAll members id entity []
out_entity members id entity h (Entity e) own m = h (subst (λ n. IsIn members (Entity n) id) own m)
out_entity members id entity h (Parent p) own m = absurd (none_in p own)

-- ---- results

pub on_err : {A E P : Type 0} (r : Result A E) → P → OnErr r P
on_err (Ok x) h = tt
on_err (Err e) h = h

pub on_ok : {A E P Q : Type 0} (r : Result A E) → (P → Q) → OnOk r P → OnOk r Q
on_ok (Ok x) f h = f h
on_ok (Err e) f h = h
