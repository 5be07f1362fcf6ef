-- The test for dead ids meets the chains, and which logs have the same dead ids.
use Rattle.std.proofs.Common.{◌≡◌, refl, sym, ◌∙◌, ap, subst, ℕ, zero, suc, ◌<◌, ◌≤◌, Bool, true, false, ◌||◌, cond, List, [], ◌∷◌, ◌++◌, length, inl, inr, arith, Option, Some, None}
use Rattle.std.specs.Prelude.{◌⊎◌, Contains}
use Rattle.std.specs.Bool.{Decides}
use Rattle.std.specs.List.{list_any}
use Rattle.std.proofs.lemmas.Bool.{cases_Bool, or_cases, false≢true}
use Rattle.std.proofs.lemmas.Bool.Decides.{same_from_decides}
use Rattle.std.specs.Option.{option_or}
use Rattle.cloud_base.specs.Values.{Id}
use Rattle.cloud_base.specs.Order.{same_id}
use Rattle.cloud_base.specs.Log.{Creation, of_cell, creation, created, is_deleted, parents, parents_of, ids_of}
use Rattle.cloud_base.specs.Dead.{Chain, Dead, dead_within, is_dead, has_dead}
use Rattle.cloud_base.specs.Alike.{Alike, IsPart}
use Rattle.cloud_base.specs.Shaped.{CreatedOnce}
use Rattle.cloud_base.specs.Leads.{LeadsIn, Leads}
use Rattle.cloud_base.specs.declared.key.Key.{Key}
use Rattle.cloud_base.specs.declared.update.CellChange.{CellChange}
use Rattle.cloud_base.specs.declared.update.Update.{Update}
use Rattle.cloud_base.specs.declared.update.Update.TheVariants.{Cell, Create, Delete}
use Rattle.cloud_base.proofs.OrderLemmas.{same_id_decides, same_id_itself}
use Rattle.cloud_base.proofs.SortedLemmas.{here, there, none_in, split_member}
use Rattle.cloud_base.proofs.LogLemmas.{deleted_member, member_deleted, created_member, member_created, without, deleted_without, creation_without_itself, creation_without, one_fewer, or_right, deleted_parts, creation_parts, creation_stays}

-- ---- a test of some member

pub some_member : {A : Type 0} (p : A → Bool) (xs : List A) → list_any p xs ≡ true → (x : A) × Contains xs x × (p x ≡ true)
some_member p [] h = cc
some_member p (x ∷ xs) h = elim (or_cases (p x) (list_any p xs) h) [
  | inl t ↦ (x, here x xs, t)
  | inr t ↦ let w = some_member p xs t in (w.0, there x w.0 xs w.1, w.2)
]

pub member_some : {A : Type 0} (p : A → Bool) (xs : List A) (x : A) → Contains xs x → p x ≡ true → list_any p xs ≡ true
member_some p [] x h t = absurd (none_in x h)
member_some p (y ∷ xs) x h t = elim (split_member y x xs h) [
  | inl e ↦ ap (λ b. b || list_any p xs) (ap p e ∙ t)
  | inr m ↦ ap (λ b. p y || b) (member_some p xs x m t) ∙ or_right (p y)
]

-- ---- the test within n links meets the chains of at most n links

abbrev Within : List Update → ℕ → Id → Type 0
Within log n id = (m : ℕ) × (m ≤ n) × Chain log m id

pub within_chain : (log : List Update) (n : ℕ) (id : Id) → dead_within n log id ≡ true → Within log n id
within_chain log zero id h = (0, omega arith, h)
within_chain log (suc n) id h = elim (or_cases (is_deleted id log) (list_any (dead_within n log) (parents log id)) h) [
  | inl t ↦ (0, omega arith, t)
  | inr t ↦
      let w = some_member (dead_within n log) (parents log id) t in
      let r = within_chain log n w.0 w.2 in
      let l : r.0 ≤ n = r.1 in
      (suc r.0, omega arith, (w.0, w.1, r.2))
]

pub chain_within : (log : List Update) (n m : ℕ) (id : Id) → m ≤ n → Chain log m id → dead_within n log id ≡ true
chain_within log zero zero id h c = c
chain_within log zero (suc m) id h c = absurd (omega arith)
chain_within log (suc n) zero id h c = ap (λ b. b || list_any (dead_within n log) (parents log id)) c
chain_within log (suc n) (suc m) id h c =
    let rest = chain_within log n m c.0 (omega arith) c.2 in
    ap (λ b. is_deleted id log || b) (member_some (dead_within n log) (parents log id) c.0 c.1 rest) ∙ or_right (is_deleted id log)

-- `is_dead` says what `Dead` says
pub is_dead_decides : (log : List Update) (id : Id) → Decides (is_dead log id) (Dead log id)
unfolding is_dead
is_dead_decides log id = (λ h. let w = within_chain log (length (created log)) id h in (w.0, w.1, w.2), λ d. chain_within log (length (created log)) d.0 id d.1 d.2)

-- ---- no chain need be longer than the creations

-- from an id, or else from a parent of u, a chain goes that no creation of u is needed for
abbrev Avoids : List Update → Id → Id → Type 0
Avoids log u id = ((m : ℕ) × Chain (without u log) m id) ⊎ ((next : Id) × (m : ℕ) × Contains (parents log u) next × Chain (without u log) m next)

parents_without : (u id next : Id) (log : List Update) → same_id u id ≡ false → Contains (parents log id) next → Contains (parents (without u log) id) next
parents_without u id next log n h = subst (λ c. Contains (parents_of c) next) (sym (creation_without u id log n)) h

avoid : (log : List Update) (u : Id) (n : ℕ) (id : Id) → Chain log n id → Avoids log u id
avoid log u zero id c = inl (0, deleted_without u id log ∙ c)
avoid log u (suc n) id c = elim (avoid log u n c.0 c.2) [
  | inr w ↦ inr w
  | inl w ↦ elim (cases_Bool (same_id u id)) [
    | inl t ↦ inr (c.0, w.0, subst (λ v. Contains (parents log v) c.0) (sym ((same_id_decides u id).0 t)) c.1, w.1)
    | inr f ↦ inl (suc w.0, (c.0, parents_without u id c.0 log f c.1, w.1))
  ]
]

lift : (log : List Update) (u : Id) (n : ℕ) (id : Id) → Chain (without u log) n id → Chain log n id
lift log u zero id c = sym (deleted_without u id log) ∙ c
lift log u (suc n) id c = elim (cases_Bool (same_id u id)) [
  | inl t ↦
      let none : creation id (without u log) ≡ None = subst (λ v. creation v (without u log) ≡ None) ((same_id_decides u id).0 t) (creation_without_itself u log) in
      absurd (none_in c.0 (subst (λ d. Contains (parents_of d) c.0) none c.1))
  | inr f ↦ (c.0, subst (λ d. Contains (parents_of d) c.0) (creation_without u id log f) c.1, lift log u n c.0 c.2)
]

-- what has a parent was created
pub made : (o : Option Creation) (next : Id) → Contains (parents_of o) next → (c : Creation) × (o ≡ Some c)
made None next h = absurd (none_in next h)
made (Some c) next h = (c, refl)

pub shorten : (k : ℕ) (log : List Update) (n : ℕ) (id : Id) → length (created log) ≤ k → Chain log n id → Within log k id
shorten k log zero id h c = (0, omega arith, c)
shorten zero log (suc n) id h c =
    let w = made (creation id log) c.0 c.1 in
    let l = one_fewer id log w.0 w.1 in
    absurd (omega arith)
shorten (suc k) log (suc n) id h c =
    let w = made (creation id log) c.0 c.1 in
    let l : length (created (without id log)) < length (created log) = one_fewer id log w.0 w.1 in
    let onward : (next : Id) (m : ℕ) → Contains (parents log id) next → Chain (without id log) m next → Within log (suc k) id =
    λ next m p d. let r = shorten k (without id log) m next (omega arith) d in let b : r.0 ≤ k = r.1 in (suc r.0, omega arith, (next, p, lift log id r.0 next r.2)) in
    elim (avoid log id n c.0 c.2) [ inl v ↦ onward c.0 v.0 c.1 v.1 | inr v ↦ onward v.0 v.1 v.2 v.3 ]

pub dead_from_chain : (log : List Update) (n : ℕ) (id : Id) → Chain log n id → Dead log id
dead_from_chain log n id c = shorten (length (created log)) log n id (omega arith) c

-- ---- logs that have each other's updates

pub creation_grows : (small large : List Update) (id : Id) (c : Creation) → IsPart small large → CreatedOnce large → creation id small ≡ Some c → creation id large ≡ Some c
creation_grows small large id c f once h = member_created id c.entity c.keys large once (f (Create id c.entity c.keys) (created_member id small c h))

pub chain_grows : (small large : List Update) (n : ℕ) (id : Id) → IsPart small large → CreatedOnce large → Chain small n id → Chain large n id
chain_grows small large zero id f once c = member_deleted id large (f (Delete id) (deleted_member id small c))
chain_grows small large (suc n) id f once c =
    let w = made (creation id small) c.0 c.1 in
    let e : creation id small ≡ creation id large = w.1 ∙ sym (creation_grows small large id w.0 f once w.1) in
    (c.0, subst (λ d. Contains (parents_of d) c.0) e c.1, chain_grows small large n c.0 f once c.2)

pub dead_grows : (small large : List Update) (id : Id) → IsPart small large → CreatedOnce large → Dead small id → Dead large id
dead_grows small large id f once d = dead_from_chain large d.0 id (chain_grows small large d.0 id f once d.2)

pub dead_same : (log other : List Update) (id : Id) → IsPart log other → IsPart other log → CreatedOnce log → CreatedOnce other → is_dead log id ≡ is_dead other id
dead_same log other id f g once once' =
    let a = is_dead_decides log id in
    let b = is_dead_decides other id in
    same_from_decides (is_dead log id) (is_dead other id) a (λ h. dead_grows other log id g once (b.0 h), λ d. b.1 (dead_grows log other id f once' d))

-- ---- more of a log, and logs with the same creations and deletions

chain_linked : (log other : List Update) → ((id : Id) → creation id log ≡ creation id other) → ((id : Id) → is_deleted id log ≡ is_deleted id other) → (n : ℕ) (id : Id) → Chain log n id → Chain other n id
chain_linked log other f g zero id c = sym (g id) ∙ c
chain_linked log other f g (suc n) id c = (c.0, subst (λ d. Contains (parents_of d) c.0) (f id) c.1, chain_linked log other f g n c.0 c.2)

pub dead_linked : (log other : List Update) → ((id : Id) → creation id log ≡ creation id other) → ((id : Id) → is_deleted id log ≡ is_deleted id other) → (id : Id) → is_dead log id ≡ is_dead other id
dead_linked log other f g id =
    let p = is_dead_decides log id in
    let q = is_dead_decides other id in
    let on : Dead log id → Dead other id = λ d. dead_from_chain other d.0 id (chain_linked log other f g d.0 id d.2) in
    let back : Dead other id → Dead log id = λ d. dead_from_chain log d.0 id (chain_linked other log (λ v. sym (f v)) (λ v. sym (g v)) d.0 id d.2) in
    same_from_decides (is_dead log id) (is_dead other id) p (λ h. back (q.0 h), λ d. q.1 (on d))

pub dead_alike : (log other : List Update) (id : Id) → Alike log other → is_dead log id ≡ is_dead other id
dead_alike log other id a = dead_linked log other a.creations a.deletions id

-- ---- keys of which one is dead

same_any : {A : Type 0} (p q : A → Bool) (xs : List A) → ((x : A) → Contains xs x → p x ≡ q x) → list_any p xs ≡ list_any q xs
same_any p q [] f = refl
same_any p q (x ∷ xs) f = let a = f x (here x xs) in let b = same_any p q xs (λ y m. f y (there x y xs m)) in λ i. a i || b i

pub has_dead_same : (log other : List Update) (keys : List Key) → ((id : Id) → Contains (ids_of keys) id → is_dead log id ≡ is_dead other id) → has_dead log keys ≡ has_dead other keys
has_dead_same log other keys f = same_any (is_dead log) (is_dead other) (ids_of keys) f

-- keys of which none is dead in the whole have none dead in a part
pub keys_live : (small large : List Update) (keys : List Key) → IsPart small large → CreatedOnce large → has_dead large keys ≡ false → has_dead small keys ≡ false
keys_live small large keys part once live = elim (cases_Bool (has_dead small keys)) [
  | inr f ↦ f
  | inl t ↦
      let w = some_member (is_dead small) (ids_of keys) t in
      let d = dead_grows small large w.0 part once ((is_dead_decides small w.0).0 w.2) in
      absurd (false≢true (sym live ∙ member_some (is_dead large) (ids_of keys) w.0 w.1 ((is_dead_decides large w.0).1 d)))
]

-- ---- logs of the same members

one_creation : (id : Id) (log other : List Update) (o p : Option Creation) → creation id log ≡ o → creation id other ≡ p → IsPart log other → IsPart other log → CreatedOnce log → CreatedOnce other → o ≡ p
one_creation id log other (Some c) p e k f g once once' = sym (creation_grows log other id c f once' e) ∙ k
one_creation id log other None (Some c) e k f g once once' = sym e ∙ creation_grows other log id c g once k
one_creation id log other None None e k f g once once' = refl

deleted_same : (id : Id) (log other : List Update) (b : Bool) → is_deleted id log ≡ b → IsPart log other → IsPart other log → b ≡ is_deleted id other
deleted_same id log other true e f g = sym (member_deleted id other (f (Delete id) (deleted_member id log e)))
deleted_same id log other false e f g = elim (cases_Bool (is_deleted id other)) [
  | inl t ↦ absurd (false≢true (sym e ∙ member_deleted id log (g (Delete id) (deleted_member id other t))))
  | inr h ↦ sym h
]

pub alike_members : (log other : List Update) → CreatedOnce log → CreatedOnce other → IsPart log other → IsPart other log → ((property : ℕ) (keys : List Key) → of_cell property keys log ≡ of_cell property keys other) → Alike log other
alike_members log other once once' f g changes = record {
  changes = changes;
  creations = λ id. one_creation id log other (creation id log) (creation id other) refl refl f g once once';
  deletions = λ id. deleted_same id log other (is_deleted id log) refl f g;
}

-- ---- after a change of a cell

or_nothing : {A : Type 0} (o : Option A) → option_or o None ≡ o
or_nothing None = refl
or_nothing (Some x) = refl

or_false : (b : Bool) → (b || false) ≡ b
or_false true = refl
or_false false = refl

-- a change of a cell kills nothing
pub dead_after_cell : (log : List Update) (property : ℕ) (keys : List Key) (change : CellChange) (id : Id) → is_dead (log ++ Cell property keys change ∷ []) id ≡ is_dead log id
dead_after_cell log property keys change id =
    dead_linked (log ++ Cell property keys change ∷ []) log
    (λ v. creation_parts v log (Cell property keys change ∷ []) ∙ or_nothing (creation v log))
    (λ v. deleted_parts v log (Cell property keys change ∷ []) ∙ or_false (is_deleted v log)) id

-- ---- chains in a longer log

-- a parent stays one
pub parent_stays : (log more : List Update) (id next : Id) → Contains (parents log id) next → Contains (parents (log ++ more) id) next
parent_stays log more id next h =
    let w = made (creation id log) next h in
    subst (λ d. Contains (parents_of d) next) (w.1 ∙ sym (creation_stays id log more w.0 w.1)) h

pub chain_stays : (log more : List Update) (n : ℕ) (id : Id) → Chain log n id → Chain (log ++ more) n id
chain_stays log more zero id c = deleted_parts id log more ∙ ap (λ b. b || is_deleted id more) c
chain_stays log more (suc n) id c = (c.0, parent_stays log more id c.0 c.1, chain_stays log more n c.0 c.2)

pub dead_stays : (log more : List Update) (id : Id) → Dead log id → Dead (log ++ more) id
dead_stays log more id d = dead_from_chain (log ++ more) d.0 id (chain_stays log more d.0 id d.2)

pub leads_stays : (log more : List Update) (n : ℕ) (id root : Id) → LeadsIn log n id root → LeadsIn (log ++ more) n id root
leads_stays log more zero id root e = e
leads_stays log more (suc n) id root l = (l.0, parent_stays log more id l.0 l.1, leads_stays log more n l.0 root l.2)

-- what leads to a dead id is dead
chain_led : (log : List Update) (n m : ℕ) (id root : Id) → LeadsIn log n id root → Chain log m root → Dead log id
chain_led log zero m id root e c = dead_from_chain log m id (subst (Chain log m) (sym e) c)
chain_led log (suc n) m id root l c = let d = chain_led log n m l.0 root l.2 c in dead_from_chain log (suc d.0) id (l.0, l.1, d.2)

pub dead_led : (log : List Update) (id root : Id) → Leads log id root → Dead log root → Dead log id
dead_led log id root l d = chain_led log l.0 d.0 id root l.1 d.2

-- one parent more
pub leads_more : (log : List Update) (id next root : Id) → Contains (parents log id) next → Leads log next root → Leads log id root
leads_more log id next root p l = (suc l.0, (next, p, l.1))

pub dead_more : (log : List Update) (id next : Id) → Contains (parents log id) next → Dead log next → Dead log id
dead_more log id next p d = dead_from_chain log (suc d.0) id (next, p, d.2)

-- ---- after a deletion

deleted_then : (log : List Update) (d id : Id) → is_deleted id (log ++ Delete d ∷ []) ≡ (is_deleted id log || same_id d id)
deleted_then log d id = deleted_parts id log (Delete d ∷ []) ∙ ap (λ b. is_deleted id log || b) (or_false (same_id d id))

parents_then : (log : List Update) (d id next : Id) → Contains (parents (log ++ Delete d ∷ []) id) next → Contains (parents log id) next
parents_then log d id next h = subst (λ o. Contains (parents_of o) next) (creation_parts id log (Delete d ∷ []) ∙ or_nothing (creation id log)) h

chain_after_delete : (log : List Update) (d : Id) (n : ℕ) (id : Id) → Chain (log ++ Delete d ∷ []) n id → Dead log id ⊎ Leads log id d
chain_after_delete log d zero id c = elim (or_cases (is_deleted id log) (same_id d id) (sym (deleted_then log d id) ∙ c)) [
  | inl t ↦ inl (dead_from_chain log 0 id t)
  | inr t ↦ inr (0, sym ((same_id_decides d id).0 t))
]
chain_after_delete log d (suc n) id c =
    let p = parents_then log d id c.0 c.1 in
    elim (chain_after_delete log d n c.0 c.2) [
      | inl w ↦ inl (dead_more log id c.0 p w)
      | inr w ↦ inr (leads_more log id c.0 d p w)
    ]

-- dead after a deletion is what was dead before, and what leads to the deleted id
pub dead_after_delete : (log : List Update) (d id : Id) → Dead (log ++ Delete d ∷ []) id → Dead log id ⊎ Leads log id d
dead_after_delete log d id h = chain_after_delete log d h.0 id h.2

dead_by_delete : (log : List Update) (d id : Id) → Leads log id d → Dead (log ++ Delete d ∷ []) id
dead_by_delete log d id l =
    let whole = log ++ Delete d ∷ [] in
    dead_led whole id d (l.0, leads_stays log (Delete d ∷ []) l.0 id d l.1)
    (dead_from_chain whole 0 d (deleted_then log d d ∙ ap (λ b. is_deleted d log || b) (same_id_itself d) ∙ or_right (is_deleted d log)))

pub delete_kills : (log : List Update) (d id : Id) → Dead log id ⊎ Leads log id d → Dead (log ++ Delete d ∷ []) id
delete_kills log d id h = elim h [ inl w ↦ dead_stays log (Delete d ∷ []) id w | inr l ↦ dead_by_delete log d id l ]

-- ---- after a creation

-- some key is dead
abbrev pub DeadKey : List Update → List Key → Type 0
DeadKey log keys = (next : Id) × Contains (ids_of keys) next × Dead log next

pub created_then : (log : List Update) (u : Id) (e : ℕ) (ks : List Key) (id : Id) → same_id u id ≡ false → creation id (log ++ Create u e ks ∷ []) ≡ creation id log
created_then log u e ks id n =
    creation_parts id log (Create u e ks ∷ []) ∙ ap (λ b. option_or (creation id log) (cond b (Some (record { entity = e; keys = ks })) None)) n ∙ or_nothing (creation id log)

pub created_itself : (log : List Update) (u : Id) (e : ℕ) (ks : List Key) → creation u log ≡ None → creation u (log ++ Create u e ks ∷ []) ≡ Some (record { entity = e; keys = ks })
created_itself log u e ks new =
    creation_parts u log (Create u e ks ∷ []) ∙ ap (λ o. option_or o (creation u (Create u e ks ∷ []))) new
    ∙ ap (λ b. cond b (Some (record { entity = e; keys = ks })) None) (same_id_itself u)

deleted_as_before : (log : List Update) (u : Id) (e : ℕ) (ks : List Key) (id : Id) → is_deleted id (log ++ Create u e ks ∷ []) ≡ is_deleted id log
deleted_as_before log u e ks id = deleted_parts id log (Create u e ks ∷ []) ∙ or_false (is_deleted id log)

chain_after_create : (log : List Update) (u : Id) (e : ℕ) (ks : List Key) → creation u log ≡ None → (n : ℕ) (id : Id) → Chain (log ++ Create u e ks ∷ []) n id
    → Dead log id ⊎ (Leads log id u × DeadKey log ks)
chain_after_create log u e ks new zero id c = inl (dead_from_chain log 0 id (sym (deleted_as_before log u e ks id) ∙ c))
chain_after_create log u e ks new (suc n) id c = elim (cases_Bool (same_id u id)) [
  | inl t ↦
      let same : u ≡ id = (same_id_decides u id).0 t in
      let at : Leads log id u = (0, sym same) in
      let key : Contains (ids_of ks) c.0 = subst (λ o. Contains (parents_of o) c.0) (created_itself log u e ks new) (subst (λ v. Contains (parents (log ++ Create u e ks ∷ []) v) c.0) (sym same) c.1) in
      elim (chain_after_create log u e ks new n c.0 c.2) [
        | inl w ↦ inr (at, (c.0, key, w))
        | inr w ↦ inr (at, w.1)
      ]
  | inr f ↦
      let p : Contains (parents log id) c.0 = subst (λ o. Contains (parents_of o) c.0) (created_then log u e ks id f) c.1 in
      elim (chain_after_create log u e ks new n c.0 c.2) [
        | inl w ↦ inl (dead_more log id c.0 p w)
        | inr w ↦ inr (leads_more log id c.0 u p w.0, w.1)
      ]
]

pub has_dead_key : (log : List Update) (keys : List Key) → has_dead log keys ≡ true → DeadKey log keys
has_dead_key log keys h = let w = some_member (is_dead log) (ids_of keys) h in (w.0, w.1, (is_dead_decides log w.0).0 w.2)

pub dead_key_has : (log : List Update) (keys : List Key) → DeadKey log keys → has_dead log keys ≡ true
dead_key_has log keys k = member_some (is_dead log) (ids_of keys) k.0 k.1 ((is_dead_decides log k.0).1 k.2)

-- dead after a creation is what was dead before, and where a key is dead what leads to the created id
pub dead_after_create : (log : List Update) (u : Id) (e : ℕ) (ks : List Key) (id : Id) → creation u log ≡ None → Dead (log ++ Create u e ks ∷ []) id
    → Dead log id ⊎ (Leads log id u × (has_dead log ks ≡ true))
dead_after_create log u e ks id new h = elim (chain_after_create log u e ks new h.0 id h.2) [ inl w ↦ inl w | inr w ↦ inr (w.0, dead_key_has log ks w.1) ]

dead_by_create : (log : List Update) (u : Id) (e : ℕ) (ks : List Key) (id : Id) → creation u log ≡ None → Leads log id u → DeadKey log ks → Dead (log ++ Create u e ks ∷ []) id
dead_by_create log u e ks id new l k =
    let whole = log ++ Create u e ks ∷ [] in
    dead_led whole id u (l.0, leads_stays log (Create u e ks ∷ []) l.0 id u l.1)
    (dead_more whole u k.0 (subst (λ o. Contains (parents_of o) k.0) (sym (created_itself log u e ks new)) k.1) (dead_stays log (Create u e ks ∷ []) k.0 k.2))

pub create_kills : (log : List Update) (u : Id) (e : ℕ) (ks : List Key) (id : Id) → creation u log ≡ None → Dead log id ⊎ (Leads log id u × (has_dead log ks ≡ true)) → Dead (log ++ Create u e ks ∷ []) id
create_kills log u e ks id new h = elim h [ inl w ↦ dead_stays log (Create u e ks ∷ []) id w | inr l ↦ dead_by_create log u e ks id new l.0 (has_dead_key log ks l.1) ]

pub deleted_creates : (log : List Update) (d id : Id) → creation id (log ++ Delete d ∷ []) ≡ creation id log
deleted_creates log d id = creation_parts id log (Delete d ∷ []) ∙ or_nothing (creation id log)
