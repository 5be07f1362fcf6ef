-- The walk from a root to all that depends on it.
use Rattle.std.proofs.Common.{◌≡◌, refl, sym, ◌∙◌, ap, subst, ℕ, zero, suc, ◌+◌, ◌<◌, ◌≤◌, Bool, true, false, ◌||◌, cond, List, [], ◌∷◌, ◌++◌, length, inl, inr, arith, Option, Some, None}
use Rattle.std.specs.Prelude.{◌⊎◌, Contains, filter, not, Result, IfOk}
use Rattle.std.specs.declared.result.Result.TheVariants.{Ok, Err}
use Rattle.std.specs.List.{list_any}
use Rattle.std.specs.Option.{option_map}
use Rattle.std.specs.BTreeSet.{insert_key}
use Rattle.std.specs.List.Sorted.{IsStrictlySortedBy}
use Rattle.std.proofs.lemmas.Bool.{cases_Bool, or_cases, false≢true}
use Rattle.std.proofs.lemmas.List.{length_push}
use Rattle.std.proofs.lemmas.List.Elements.{Contains-append_left, Contains-append_right, Contains-append_cases}
use Rattle.cloud_base.specs.Values.{Id}
use Rattle.cloud_base.specs.Order.{id_order, same_id}
use Rattle.cloud_base.specs.Log.{Creation, creation, parents_of, ids_of}
use Rattle.cloud_base.specs.Dead.{is_dead}
use Rattle.cloud_base.specs.Leads.{LeadsIn}
use Rattle.cloud_base.specs.Sorted.{Lists}
use Rattle.cloud_base.specs.declared.key.Key.{Key}
use Rattle.cloud_base.specs.declared.key.Key.TheVariants.{Int, Text, Ref}
use Rattle.cloud_base.specs.declared.update.Update.{Update}
use Rattle.cloud_base.proofs.OrderLemmas.{id_order_total, id_same, same_id_decides, same_id_itself}
use Rattle.cloud_base.proofs.SortedLemmas.{here, there, none_in, split_member, inserted, inserted_from, stays}
use Rattle.cloud_base.proofs.DeadLemmas.{is_dead_decides, some_member, member_some, dead_more, leads_more, made}
use Rattle.fj_entity.specs.Fates.{Fate, Living, Dead, living, fate_in, fate_at, has_ref, is_child_by}
use Rattle.fj_entity.specs.Rosters.{RosterStands, IsDoomed}
use Rattle.fj_entity.specs.Walks.{IsChild, Reaches, others}

-- ---- keys

pub ref_found : (id : Id) (keys : List Key) → has_ref id keys ≡ true → Contains (ids_of keys) id
ref_found id [] h = absurd (false≢true h)
ref_found id (Int n ∷ keys) h = ref_found id keys h
ref_found id (Text t ∷ keys) h = ref_found id keys h
ref_found id (Ref other ∷ keys) h = elim (or_cases (same_id other id) (has_ref id keys) h) [
  | inl t ↦ subst (Contains (other ∷ ids_of keys)) ((same_id_decides other id).0 t) (here other (ids_of keys))
  | inr t ↦ there other id (ids_of keys) (ref_found id keys t)
]

pub found_ref : (id : Id) (keys : List Key) → Contains (ids_of keys) id → has_ref id keys ≡ true
found_ref id [] h = absurd (none_in id h)
found_ref id (Int n ∷ keys) h = found_ref id keys h
found_ref id (Text t ∷ keys) h = found_ref id keys h
found_ref id (Ref other ∷ keys) h = elim (split_member other id (ids_of keys) h) [
  | inl e ↦ ap (λ b. b || has_ref id keys) ((same_id_decides other id).1 e)
  | inr m ↦ ap (λ b. same_id other id || b) (found_ref id keys m) ∙ right (same_id other id)
]
  where
    right : (b : Bool) → (b || true) ≡ true
    right true = refl
    right false = refl

-- ---- children

pub child_some : (parent : Id) (o : Option Fate) → is_child_by parent o ≡ true → (entity : ℕ) × (keys : List Key) × (o ≡ Some (Living entity keys)) × Contains (ids_of keys) parent
child_some parent None h = absurd (false≢true h)
child_some parent (Some Dead) h = absurd (false≢true h)
child_some parent (Some (Living e ks)) h = (e, ks, refl, ref_found parent ks h)

pub living_made : (log : List Update) (x : Id) (e : ℕ) (ks : List Key) → fate_in log x ≡ Some (Living e ks) → (c : Creation) × (creation x log ≡ Some c) × (c.keys ≡ ks) × (c.entity ≡ e) × (is_dead log x ≡ false)
living_made log x e ks h = at (is_dead log x) refl (creation x log) refl h
  where
    at : (b : Bool) → is_dead log x ≡ b → (o : Option Creation) → creation x log ≡ o → cond b (Some Dead) (option_map living o) ≡ Some (Living e ks)
        → (c : Creation) × (creation x log ≡ Some c) × (c.keys ≡ ks) × (c.entity ≡ e) × (is_dead log x ≡ false)
    at true d o k f = cc
    at false d None k f = cc
    at false d (Some c) k f = (c, k, (cc), (cc), d)

-- a child has the id as a parent and lives
child_leads : (fates : List (Id × Fate)) (log : List Update) (parent x root : Id) → RosterStands fates log → IsChild fates parent x → IsDoomed log root parent → IsDoomed log root x
child_leads fates log parent x root h child d =
    let w = child_some parent (fate_at fates x) child in
    let m = living_made log x w.0 w.1 (sym (h.kept x) ∙ w.2) in
    (leads_more log x parent root (subst (λ o. Contains (parents_of o) parent) (sym m.1) (subst (λ (ks : List Key). Contains (ids_of ks) parent) (sym m.2) w.3)) d.0, m.4)

pub made_living : (log : List Update) (x : Id) (c : Creation) → creation x log ≡ Some c → is_dead log x ≡ false → fate_in log x ≡ Some (living c)
made_living log x c e d = λ i. cond (d i) (Some Dead) (option_map living (e i))

-- and what lives and has the id as a parent is a child
leads_child : (fates : List (Id × Fate)) (log : List Update) (parent x : Id) → RosterStands fates log → Contains (parents_of (creation x log)) parent → is_dead log x ≡ false → IsChild fates parent x
leads_child fates log parent x h p live =
    let w = made (creation x log) parent p in
    ap (is_child_by parent) (h.kept x ∙ made_living log x w.0 w.1 live) ∙ found_ref parent w.0.keys (subst (λ o. Contains (parents_of o) parent) w.1 p)

-- ---- the walk

-- what is dying depends on the root and isn't dead, and what was reached is pending, or its children are dying
pub record Closing (log : List Update) (root : Id) (fates : List (Id × Fate)) (pending dying : List Id) : Type 0 where
  pub sound : (x : Id) → Contains dying x → IsDoomed log root x
  pub pends : (x : Id) → Contains pending x → Contains dying x
  pub closed : (x : Id) → Contains dying x → Contains pending x ⊎ ((y : Id) → IsChild fates x y → Contains dying y)
  pub begun : Contains dying root

pub closing_start : (log : List Update) (root : Id) (fates : List (Id × Fate)) (pending dying : List Id) → is_dead log root ≡ false → pending ≡ root ∷ [] → dying ≡ root ∷ [] → Closing log root fates pending dying
closing_start log root fates pending dying live p d = record {
  sound = λ x m. subst (IsDoomed log root) (one x m) ((0, refl), live);
  pends = λ x m. subst (λ (l : List Id). Contains l x) (p ∙ sym d) m;
  closed = λ x m. inl (subst (λ (l : List Id). Contains l x) (d ∙ sym p) m);
  begun = subst (λ (l : List Id). Contains l root) (sym d) (here root []);
}
  where
    one : (x : Id) → Contains dying x → root ≡ x
    one x m = elim (split_member root x [] (subst (λ (l : List Id). Contains l x) d m)) [ inl e ↦ e | inr k ↦ absurd (none_in x k) ]

pub closing_step : (log : List Update) (root : Id) (fates : List (Id × Fate)) (pending left pending' dying dying' : List Id) (id : Id)
    → RosterStands fates log → pending ≡ left ++ id ∷ [] → Reaches fates id (IsChild fates id) dying left dying' pending'
    → Closing log root fates pending dying → Closing log root fates pending' dying'
closing_step log root fates pending left pending' dying dying' id stands is r h = record {
  sound = λ x m. elim (r.only x m) [ inl old ↦ h.sound x old | inr new ↦ child_leads fates log id x root stands new.0 (h.sound id at) ];
  pends = λ x m. elim (r.pends x m) [ inl old ↦ r.dying_stay x (h.pends x (subst (λ (l : List Id). Contains l x) (sym is) (Contains-append_left left (id ∷ []) x old))) | inr new ↦ new ];
  closed = λ x m. elim (r.only x m) [
    | inr new ↦ inl new.1
    | inl old ↦ elim (h.closed x old) [
      | inr f ↦ inr (λ y k. r.dying_stay y (f y k))
      | inl p ↦ elim (Contains-append_cases left (id ∷ []) x (subst (λ (l : List Id). Contains l x) is p)) [
        | inl q ↦ inl (r.pending_stay x q)
        | inr q ↦ inr (λ y k. r.every y (subst (λ (v : Id). IsChild fates v y) (sym (head x q)) k) (subst (λ (v : Id). IsChild fates v y) (sym (head x q)) k))
      ]
    ]
  ];
  begun = r.dying_stay root h.begun;
}
  where
    at : Contains dying id
    at = h.pends id (subst (λ (l : List Id). Contains l id) (sym is) (Contains-append_right left (id ∷ []) id (here id [])))

    head : (x : Id) → Contains (id ∷ []) x → id ≡ x
    head x q = elim (split_member id x [] q) [ inl e ↦ e | inr m ↦ absurd (none_in x m) ]

-- what depends on the root and isn't dead is reached
pub closing_end : (log : List Update) (root : Id) (fates : List (Id × Fate)) (pending dying : List Id) → RosterStands fates log → pending ≡ [] → IsStrictlySortedBy id_order dying
    → Closing log root fates pending dying → Lists id_order dying (IsDoomed log root)
closing_end log root fates pending dying stands empty ascends h = record {
  ascends = ascends;
  only = h.sound;
  every = λ x d. reached d.0.0 x d.0.1 d.1;
}
  where
    reached : (n : ℕ) (x : Id) → LeadsIn log n x root → is_dead log x ≡ false → Contains dying x
    reached zero x e live = subst (Contains dying) (sym e) h.begun
    reached (suc n) x l live =
        let next : Id = l.0 in
        let live' : is_dead log next ≡ false = elim (cases_Bool (is_dead log next)) [
          | inr f ↦ f
          | inl t ↦ absurd (false≢true (sym live ∙ (is_dead_decides log x).1 (dead_more log x next l.1 ((is_dead_decides log next).0 t))))
        ] in
        elim (h.closed next (reached n next l.2 live')) [
          | inl p ↦ absurd (none_in next (subst (λ (q : List Id). Contains q next) empty p))
          | inr f ↦ f x (leads_child fates log next x stands l.1 live)
        ]

-- ---- the children of one id

pub reach_start : (fates : List (Id × Fate)) (id : Id) (Seen : Id → Type 0) (dying pending : List Id) → ((x : Id) → Seen x → ⊥) → Reaches fates id Seen dying pending dying pending
reach_start fates id Seen dying pending none = record {
  dying_stay = λ x m. m;
  pending_stay = λ x m. m;
  only = λ x m. inl m;
  pends = λ x m. inl m;
  every = λ x s. absurd (none x s);
  smaller = omega arith;
}

-- a child that is none or was there
pub reach_pass : (fates : List (Id × Fate)) (id child : Id) (dying pending : List Id) → (IsChild fates id child → Contains dying child) → Reaches fates id (λ x. child ≡ x) dying pending dying pending
reach_pass fates id child dying pending has = record {
  dying_stay = λ x m. m;
  pending_stay = λ x m. m;
  only = λ x m. inl m;
  pends = λ x m. inl m;
  every = λ x e k. subst (Contains dying) e (has (subst (IsChild fates id) (sym e) k));
  smaller = omega arith;
}

-- one more after others
pub reach_more : (fates : List (Id × Fate)) (id : Id) (First Second Both : Id → Type 0) (dying pending dying' pending' dying'' pending'' : List Id)
    → ((x : Id) → Both x → First x ⊎ Second x) → Reaches fates id First dying pending dying' pending' → Reaches fates id Second dying' pending' dying'' pending''
    → Reaches fates id Both dying pending dying'' pending''
reach_more fates id First Second Both dying pending dying' pending' dying'' pending'' split h k = record {
  dying_stay = λ x m. k.dying_stay x (h.dying_stay x m);
  pending_stay = λ x m. k.pending_stay x (h.pending_stay x m);
  only = λ x m. elim (k.only x m) [
    | inl old ↦ elim (h.only x old) [ inl o ↦ inl o | inr n ↦ inr (n.0, k.pending_stay x n.1) ]
    | inr new ↦ inr new
  ];
  pends = λ x m. elim (k.pends x m) [
    | inl old ↦ elim (h.pends x old) [ inl o ↦ inl o | inr n ↦ inr (k.dying_stay x n) ]
    | inr new ↦ inr new
  ];
  every = λ x s c. elim (split x s) [ inl a ↦ k.dying_stay x (h.every x a c) | inr b ↦ k.every x b c ];
  smaller = let a = h.smaller in let b = k.smaller in omega arith;
}

pub seen_more : (seen : List Id) (child x : Id) → Contains (seen ++ child ∷ []) x → Contains seen x ⊎ (child ≡ x)
seen_more seen child x m = elim (Contains-append_cases seen (child ∷ []) x m) [
  | inl old ↦ inl old
  | inr new ↦ elim (split_member child x [] new) [ inl e ↦ inr e | inr k ↦ absurd (none_in x k) ]
]

-- each child was listed
pub reach_all : (fates : List (Id × Fate)) (id : Id) (listed dying pending dying' pending' : List Id) → ((x : Id) → IsChild fates id x → Contains listed x)
    → Reaches fates id (Contains listed) dying pending dying' pending' → Reaches fates id (IsChild fates id) dying pending dying' pending'
reach_all fates id listed dying pending dying' pending' every h = record {
  dying_stay = h.dying_stay;
  pending_stay = h.pending_stay;
  only = h.only;
  pends = h.pends;
  every = λ x s k. h.every x (every x k) k;
  smaller = h.smaller;
}

-- ---- fewer are left

fewer_other : (p q : Id × Fate → Bool) (fates : List (Id × Fate)) → ((e : Id × Fate) → q e ≡ true → p e ≡ true) → length (filter q fates) ≤ length (filter p fates)
fewer_other p q [] f = omega arith
fewer_other p q (e ∷ fates) f = at (p e) (q e) (f e) (fewer_other p q fates f)
  where
    at : (b c : Bool) → (c ≡ true → b ≡ true) → length (filter q fates) ≤ length (filter p fates)
        → length (cond c (e ∷ filter q fates) (filter q fates)) ≤ length (cond b (e ∷ filter p fates) (filter p fates))
    at true true g h = omega arith
    at true false g h = omega arith
    at false true g h = absurd (false≢true (g refl))
    at false false g h = h

one_fewer : (p q : Id × Fate → Bool) (fates : List (Id × Fate)) (x : Id) → ((e : Id × Fate) → q e ≡ true → p e ≡ true)
    → ((f : Fate) → p (x, f) ≡ true) → ((f : Fate) → q (x, f) ≡ false) → (f : Fate) → fate_at fates x ≡ Some f → length (filter q fates) < length (filter p fates)
one_fewer p q [] x f on off fate e = cc
one_fewer p q ((k, g) ∷ fates) x f on off fate e = at (λ i. one_fewer p q fates x f on off fate i) (same_id x k) refl e
  where
    other : (b c : Bool) → (c ≡ true → b ≡ true) → length (filter q fates) < length (filter p fates)
        → length (cond c ((k, g) ∷ filter q fates) (filter q fates)) < length (cond b ((k, g) ∷ filter p fates) (filter p fates))
    other true true i h = omega arith
    other true false i h = omega arith
    other false true i h = absurd (false≢true (i refl))
    other false false i h = h

    own : (b c : Bool) → b ≡ true → c ≡ false → length (filter q fates) ≤ length (filter p fates)
        → length (cond c ((k, g) ∷ filter q fates) (filter q fates)) < length (cond b ((k, g) ∷ filter p fates) (filter p fates))
    own true false i j h = omega arith
    own true true i j h = absurd (false≢true (sym j))
    own false c i j h = absurd (false≢true i)

    at : (fate_at fates x ≡ Some fate → length (filter q fates) < length (filter p fates)) → (b : Bool) → same_id x k ≡ b → cond b (Some g) (fate_at fates x) ≡ Some fate
        → length (cond (q (k, g)) ((k, g) ∷ filter q fates) (filter q fates)) < length (cond (p (k, g)) ((k, g) ∷ filter p fates) (filter p fates))
    at rest true t i =
        let same : x ≡ k = (same_id_decides x k).0 t in
        own (p (k, g)) (q (k, g)) (subst (λ (v : Id). p (v, g) ≡ true) same (on g)) (subst (λ (v : Id). q (v, g) ≡ false) same (off g)) (fewer_other p q fates f)
    at rest false t i = other (p (k, g)) (q (k, g)) (f (k, g)) (rest i)

is_not_in : (x : Id) (ids : List Id) → not (list_any (same_id x) ids) ≡ true → Contains ids x → ⊥
is_not_in x ids h m = false≢true (sym (ap not (member_some (same_id x) ids x m (same_id_itself x))) ∙ h)

not_in : (x : Id) (ids : List Id) → (Contains ids x → ⊥) → not (list_any (same_id x) ids) ≡ true
not_in x ids h = elim (cases_Bool (list_any (same_id x) ids)) [
  | inr f ↦ ap not f
  | inl t ↦ let w = some_member (same_id x) ids t in absurd (h (subst (Contains ids) (sym ((same_id_decides x w.0).0 w.2)) w.1))
]

others_fewer : (fates : List (Id × Fate)) (dying dying' : List Id) (x : Id) (fate : Fate) → ((y : Id) → Contains dying y → Contains dying' y) → (Contains dying x → ⊥) → Contains dying' x
    → fate_at fates x ≡ Some fate → others dying' fates < others dying fates
others_fewer fates dying dying' x fate more out in_ e =
    one_fewer (λ e. not (list_any (same_id e.0) dying)) (λ e. not (list_any (same_id e.0) dying')) fates x
    (λ e t. not_in e.0 dying (λ m. is_not_in e.0 dying' t (more e.0 m)))
    (λ f. not_in x dying out)
    (λ f. ap not (member_some (same_id x) dying' x in_ (same_id_itself x)))
    fate e

-- a child is put among the dying
pub reach_put : (fates : List (Id × Fate)) (id child : Id) (dying pending dying' pending' : List Id)
    → IsChild fates id child → list_any (same_id child) dying ≡ false → dying' ≡ insert_key id_order dying child → pending' ≡ pending ++ child ∷ []
    → Reaches fates id (λ x. child ≡ x) dying pending dying' pending'
reach_put fates id child dying pending dying' pending' kid out d p = record {
  dying_stay = grows;
  pending_stay = λ x m. subst (λ (l : List Id). Contains l x) (sym p) (Contains-append_left pending (child ∷ []) x m);
  only = λ x m. elim (inserted_from id_order_total dying child x (subst (λ (l : List Id). Contains l x) d m)) [
    | inl e ↦ inr (subst (λ (v : Id). IsChild fates id v × Contains pending' v) e (kid, last))
    | inr old ↦ inl old
  ];
  pends = λ x m. elim (seen_more pending child x (subst (λ (l : List Id). Contains l x) p m)) [ inl old ↦ inl old | inr e ↦ inr (subst (Contains dying') e put) ];
  every = λ x e k. subst (Contains dying') e put;
  smaller =
      let w = child_some id (fate_at fates child) kid in
      let less = others_fewer fates dying dying' child (Living w.0 w.1) grows (λ m. false≢true (sym out ∙ member_some (same_id child) dying child m (same_id_itself child))) put w.2 in
      let long : length pending' ≡ length pending + 1 = ap length p ∙ length_push pending child in
      omega (arith, less, long);
}
  where
    grows : (x : Id) → Contains dying x → Contains dying' x
    grows x m = subst (λ (l : List Id). Contains l x) (sym d) (stays id_order_total dying child x m)

    put : Contains dying' child
    put = subst (λ (l : List Id). Contains l child) (sym d) (inserted id_order_total id_same dying child)

    last : Contains pending' child
    last = subst (λ (l : List Id). Contains l child) (sym p) (Contains-append_right pending (child ∷ []) child (here child []))

-- what a test found is a member
pub found_among : {b : Bool} (x : Id) (ids : List Id) → b ≡ list_any (same_id x) ids → b ≡ true → Contains ids x
found_among x ids same t = let w = some_member (same_id x) ids (sym same ∙ t) in subst (Contains ids) (sym ((same_id_decides x w.0).0 w.2)) w.1

pub if_both : {A E : Type 0} (r : Result A E) (P Q R : A → Type 0) → ((x : A) → P x → Q x → R x) → IfOk r P → IfOk r Q → IfOk r R
if_both (Ok x) P Q R f p q = f x p q
if_both (Err e) P Q R f p q = p
