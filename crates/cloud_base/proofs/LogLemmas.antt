-- What a log's creations and deletions are, by its members.
use Rattle.std.proofs.Common.{◌≡◌, refl, sym, ◌∙◌, ap, subst, ℕ, suc, ◌<◌, ◌≤◌, Bool, true, false, ◌&&◌, ◌||◌, cond, List, [], ◌∷◌, ◌++◌, length, inl, inr, arith, Option, Some, None}
use Rattle.std.specs.Prelude.{All, Contains, ◌==◌, is_some, if◌then◌else◌}
use Rattle.std.specs.Option.{option_or}
use Rattle.std.specs.Bool.{Decides}
use Rattle.std.proofs.lemmas.Bool.{cases_Bool, false≢true}
use Rattle.std.proofs.lemmas.List.{append_assoc, take_at, drop_at}
use Rattle.std.proofs.lemmas.List.Elements.{Contains-append_left, Contains-append_right, Contains-append_cases, All-nil, All-cons, All-take, All-drop, All-append}
use Rattle.cloud_base.specs.Values.{Id}
use Rattle.cloud_base.specs.Order.{same_id, same_keys}
use Rattle.cloud_base.specs.Log.{Creation, of_cell, touched, creation, created, is_created, is_deleted}
use Rattle.cloud_base.specs.Alike.{IsPart}
use Rattle.cloud_base.specs.Shaped.{CreatedOnce, NoRepeat, Disjoint, Fit, IsShaped}
use Rattle.cloud_base.specs.declared.key.Key.{Key}
use Rattle.cloud_base.specs.declared.schema.Schema.{Schema}
use Rattle.cloud_base.specs.declared.update.Update.{Update}
use Rattle.cloud_base.specs.declared.update.Update.TheVariants.{Cell, Create, Delete}
use Rattle.cloud_base.proofs.OrderLemmas.{same_id_decides}
use Rattle.cloud_base.proofs.SortedLemmas.{here, there, none_in, split_member}

-- ---- deletions

pub deleted_member : (id : Id) (log : List Update) → is_deleted id log ≡ true → Contains log (Delete id)
deleted_member id [] h = cc
deleted_member id (Cell p ks c ∷ log) h = there (Cell p ks c) (Delete id) log (deleted_member id log h)
deleted_member id (Create v e ks ∷ log) h = there (Create v e ks) (Delete id) log (deleted_member id log h)
deleted_member id (Delete v ∷ log) h =
    let P : Bool → Type 0 = λ b. (same_id v id ≡ b) → (b || is_deleted id log) ≡ true → Contains (Delete v ∷ log) (Delete id) in
    let at : P (same_id v id) = elim (same_id v id) as P [
      | true ↦ λ e t. subst (λ w. Contains (Delete v ∷ log) (Delete w)) ((same_id_decides v id).0 e) (here (Delete v) log)
      | false ↦ λ e t. there (Delete v) (Delete id) log (deleted_member id log t)
    ] in
    at refl h

pub or_right : (x : Bool) → (x || true) ≡ true
or_right true = refl
or_right false = refl

pub member_deleted : (id : Id) (log : List Update) → Contains log (Delete id) → is_deleted id log ≡ true
member_deleted id [] h = absurd (none_in (Delete id) h)
member_deleted id (Cell p ks c ∷ log) h = elim (split_member (Cell p ks c) (Delete id) log h) [ inl e ↦ cc | inr m ↦ member_deleted id log m ]
member_deleted id (Create v e' ks ∷ log) h = elim (split_member (Create v e' ks) (Delete id) log h) [ inl e ↦ cc | inr m ↦ member_deleted id log m ]
member_deleted id (Delete v ∷ log) h = elim (split_member (Delete v) (Delete id) log h) [
  | inl e ↦ let s : v ≡ id = cc in let t : same_id v id ≡ true = (same_id_decides v id).1 s in ap (λ b. b || is_deleted id log) t
  | inr m ↦ ap (λ b. same_id v id || b) (member_deleted id log m) ∙ or_right (same_id v id)
]

-- ---- creations

pub created_member : (id : Id) (log : List Update) (c : Creation) → creation id log ≡ Some c → Contains log (Create id c.entity c.keys)
created_member id [] c h = cc
created_member id (Cell p ks change ∷ log) c h = there (Cell p ks change) (Create id c.entity c.keys) log (created_member id log c h)
created_member id (Delete v ∷ log) c h = there (Delete v) (Create id c.entity c.keys) log (created_member id log c h)
created_member id (Create v e ks ∷ log) c h =
    let first : Option Creation = Some (record { entity = e; keys = ks }) in
    let P : Bool → Type 0 = λ b. (same_id v id ≡ b) → cond b first (creation id log) ≡ Some c → Contains (Create v e ks ∷ log) (Create id c.entity c.keys) in
    let at : P (same_id v id) = elim (same_id v id) as P [
      | true ↦ λ t k. let s : v ≡ id = (same_id_decides v id).0 t in let r : record { entity = e; keys = ks } ≡ c = cc in subst (λ w. Contains (Create v e ks ∷ log) (Create w c.entity c.keys)) s (subst (λ (d : Creation). Contains (Create v e ks ∷ log) (Create v d.entity d.keys)) r (here (Create v e ks) log))
      | false ↦ λ t k. there (Create v e ks) (Create id c.entity c.keys) log (created_member id log c k)
    ] in
    at refl h

pub created_contains : (id : Id) (entity : ℕ) (keys : List Key) (log : List Update) → Contains log (Create id entity keys) → Contains (created log) id
created_contains id entity keys [] h = absurd (none_in (Create id entity keys) h)
created_contains id entity keys (Cell p ks c ∷ log) h = elim (split_member (Cell p ks c) (Create id entity keys) log h) [ inl e ↦ cc | inr m ↦ created_contains id entity keys log m ]
created_contains id entity keys (Delete v ∷ log) h = elim (split_member (Delete v) (Create id entity keys) log h) [ inl e ↦ cc | inr m ↦ created_contains id entity keys log m ]
created_contains id entity keys (Create v e' ks ∷ log) h = elim (split_member (Create v e' ks) (Create id entity keys) log h) [
  | inl e ↦ let s : v ≡ id = cc in subst (Contains (v ∷ created log)) s (here v (created log))
  | inr m ↦ there v id (created log) (created_contains id entity keys log m)
]

-- in a log that creates no id twice, each creation is the first one of its id
pub member_created : (id : Id) (entity : ℕ) (keys : List Key) (log : List Update) → CreatedOnce log → Contains log (Create id entity keys) → creation id log ≡ Some (record { entity = entity; keys = keys })
member_created id entity keys [] once h = absurd (none_in (Create id entity keys) h)
member_created id entity keys (Cell p ks c ∷ log) once h = elim (split_member (Cell p ks c) (Create id entity keys) log h) [ inl e ↦ cc | inr m ↦ member_created id entity keys log once m ]
member_created id entity keys (Delete v ∷ log) once h = elim (split_member (Delete v) (Create id entity keys) log h) [ inl e ↦ cc | inr m ↦ member_created id entity keys log once m ]
member_created id entity keys (Create v e' ks ∷ log) once h =
    let Goal : Bool → Type 0 = λ b. cond b (Some (record { entity = e'; keys = ks })) (creation id log) ≡ Some (record { entity = entity; keys = keys }) in
    elim (split_member (Create v e' ks) (Create id entity keys) log h) [
      | inl e ↦
          let s : v ≡ id = cc in let p : e' ≡ entity = cc in let q : ks ≡ keys = cc in
          subst Goal (sym ((same_id_decides v id).1 s)) (λ i. Some (record { entity = p i; keys = q i }))
      | inr m ↦ elim (cases_Bool (same_id v id)) [
        | inl t ↦ absurd (once.0 (subst (Contains (created log)) (sym ((same_id_decides v id).0 t)) (created_contains id entity keys log m)))
        | inr f ↦ subst Goal (sym f) (member_created id entity keys log once.1 m)
      ]
    ]

-- what stays the first creation when more follows
pub creation_stays : (id : Id) (log more : List Update) (c : Creation) → creation id log ≡ Some c → creation id (log ++ more) ≡ Some c
creation_stays id [] more c h = cc
creation_stays id (Cell p ks change ∷ log) more c h = creation_stays id log more c h
creation_stays id (Delete v ∷ log) more c h = creation_stays id log more c h
creation_stays id (Create v e ks ∷ log) more c h =
    let first : Option Creation = Some (record { entity = e; keys = ks }) in
    let P : Bool → Type 0 = λ b. cond b first (creation id log) ≡ Some c → cond b first (creation id (log ++ more)) ≡ Some c in
    let at : P (same_id v id) = elim (same_id v id) as P [ true ↦ λ k. k | false ↦ λ k. creation_stays id log more c k ] in
    at h

-- ---- a log without the creations of an id

pub without : Id → List Update → List Update
without id [] = []
without id (Cell p ks change ∷ log) = Cell p ks change ∷ without id log
without id (Create v e ks ∷ log) = cond (same_id v id) (without id log) (Create v e ks ∷ without id log)
without id (Delete v ∷ log) = Delete v ∷ without id log

pub deleted_without : (u id : Id) (log : List Update) → is_deleted id (without u log) ≡ is_deleted id log
unfolding without
deleted_without u id [] = refl
deleted_without u id (Cell p ks c ∷ log) = deleted_without u id log
deleted_without u id (Delete v ∷ log) = ap (λ b. same_id v id || b) (deleted_without u id log)
deleted_without u id (Create v e ks ∷ log) =
    let P : Bool → Type 0 = λ b. is_deleted id (cond b (without u log) (Create v e ks ∷ without u log)) ≡ is_deleted id log in
    elim (same_id v u) as P [ true ↦ deleted_without u id log | false ↦ deleted_without u id log ]

pub creation_without_itself : (u : Id) (log : List Update) → creation u (without u log) ≡ None
unfolding without
creation_without_itself u [] = refl
creation_without_itself u (Cell p ks c ∷ log) = creation_without_itself u log
creation_without_itself u (Delete v ∷ log) = creation_without_itself u log
creation_without_itself u (Create v e ks ∷ log) =
    let P : Bool → Type 0 = λ b. same_id v u ≡ b → creation u (cond b (without u log) (Create v e ks ∷ without u log)) ≡ None in
    let Q : Bool → Type 0 = λ b. cond b (Some (record { entity = e; keys = ks })) (creation u (without u log)) ≡ None in
    let at : P (same_id v u) = elim (same_id v u) as P [ true ↦ λ t. creation_without_itself u log | false ↦ λ t. subst Q (sym t) (creation_without_itself u log) ] in
    at refl

pub creation_without : (u id : Id) (log : List Update) → same_id u id ≡ false → creation id (without u log) ≡ creation id log
unfolding without
creation_without u id [] n = refl
creation_without u id (Cell p ks c ∷ log) n = creation_without u id log n
creation_without u id (Delete v ∷ log) n = creation_without u id log n
creation_without u id (Create v e ks ∷ log) n =
    let first : Option Creation = Some (record { entity = e; keys = ks }) in
    let P : Bool → Type 0 = λ b. same_id v u ≡ b → creation id (cond b (without u log) (Create v e ks ∷ without u log)) ≡ cond (same_id v id) first (creation id log) in
    let Q : Bool → Type 0 = λ b. creation id (without u log) ≡ cond b first (creation id log) in
    let at : P (same_id v u) = elim (same_id v u) as P [
      | true ↦ λ t. let other : same_id v id ≡ false = subst (λ w. same_id w id ≡ false) (sym ((same_id_decides v u).0 t)) n in subst Q (sym other) (creation_without u id log n)
      | false ↦ λ t. ap (cond (same_id v id) first) (creation_without u id log n)
    ] in
    at refl

pub fewer : (u : Id) (log : List Update) → length (created (without u log)) ≤ length (created log)
unfolding without
fewer u [] = omega arith
fewer u (Cell p ks c ∷ log) = fewer u log
fewer u (Delete v ∷ log) = fewer u log
fewer u (Create v e ks ∷ log) =
    let P : Bool → Type 0 = λ b. length (created (cond b (without u log) (Create v e ks ∷ without u log))) ≤ suc (length (created log)) in
    let h = fewer u log in
    elim (same_id v u) as P [ true ↦ omega arith | false ↦ omega arith ]

pub one_fewer : (u : Id) (log : List Update) (c : Creation) → creation u log ≡ Some c → length (created (without u log)) < length (created log)
unfolding without
one_fewer u [] c h = cc
one_fewer u (Cell p ks change ∷ log) c h = one_fewer u log c h
one_fewer u (Delete v ∷ log) c h = one_fewer u log c h
one_fewer u (Create v e ks ∷ log) c h =
    let first : Option Creation = Some (record { entity = e; keys = ks }) in
    let P : Bool → Type 0 = λ b. cond b first (creation u log) ≡ Some c → length (created (cond b (without u log) (Create v e ks ∷ without u log))) < suc (length (created log)) in
    let k = fewer u log in
    let at : P (same_id v u) = elim (same_id v u) as P [ true ↦ λ t. omega arith | false ↦ λ t. let m = one_fewer u log c t in omega arith ] in
    at h

-- ---- two logs, one after the other

pub of_cell_parts : (property : ℕ) (keys : List Key) (log more : List Update) → of_cell property keys (log ++ more) ≡ of_cell property keys log ++ of_cell property keys more
of_cell_parts property keys [] more = refl
of_cell_parts property keys (Create id e ks ∷ log) more = of_cell_parts property keys log more
of_cell_parts property keys (Delete id ∷ log) more = of_cell_parts property keys log more
of_cell_parts property keys (Cell p ks c ∷ log) more =
    let rest = of_cell_parts property keys log more in
    let P : Bool → Type 0 = λ b. cond b (c ∷ of_cell property keys (log ++ more)) (of_cell property keys (log ++ more)) ≡ cond b (c ∷ of_cell property keys log) (of_cell property keys log) ++ of_cell property keys more in
    elim ((p == property) && same_keys ks keys) as P [ true ↦ ap (λ cs. c ∷ cs) rest | false ↦ rest ]

pub touched_parts : (property : ℕ) (log more : List Update) → touched property (log ++ more) ≡ touched property log ++ touched property more
touched_parts property [] more = refl
touched_parts property (Create id e ks ∷ log) more = touched_parts property log more
touched_parts property (Delete id ∷ log) more = touched_parts property log more
touched_parts property (Cell p ks c ∷ log) more =
    let rest = touched_parts property log more in
    let P : Bool → Type 0 = λ b. cond b (ks ∷ touched property (log ++ more)) (touched property (log ++ more)) ≡ cond b (ks ∷ touched property log) (touched property log) ++ touched property more in
    elim (p == property) as P [ true ↦ ap (λ cs. ks ∷ cs) rest | false ↦ rest ]

pub created_parts : (log more : List Update) → created (log ++ more) ≡ created log ++ created more
created_parts [] more = refl
created_parts (Cell p ks c ∷ log) more = created_parts log more
created_parts (Create id e ks ∷ log) more = ap (λ ids. id ∷ ids) (created_parts log more)
created_parts (Delete id ∷ log) more = created_parts log more

or_assoc : (x y z : Bool) → (x || (y || z)) ≡ ((x || y) || z)
or_assoc true y z = refl
or_assoc false y z = refl

pub deleted_parts : (id : Id) (log more : List Update) → is_deleted id (log ++ more) ≡ (is_deleted id log || is_deleted id more)
deleted_parts id [] more = refl
deleted_parts id (Cell p ks c ∷ log) more = deleted_parts id log more
deleted_parts id (Create v e ks ∷ log) more = deleted_parts id log more
deleted_parts id (Delete v ∷ log) more = ap (λ b. same_id v id || b) (deleted_parts id log more) ∙ or_assoc (same_id v id) (is_deleted id log) (is_deleted id more)

pub creation_parts : (id : Id) (log more : List Update) → creation id (log ++ more) ≡ option_or (creation id log) (creation id more)
creation_parts id [] more = refl
creation_parts id (Cell p ks c ∷ log) more = creation_parts id log more
creation_parts id (Delete v ∷ log) more = creation_parts id log more
creation_parts id (Create v e ks ∷ log) more =
    let first : Option Creation = Some (record { entity = e; keys = ks }) in
    let P : Bool → Type 0 = λ b. cond b first (creation id (log ++ more)) ≡ option_or (cond b first (creation id log)) (creation id more) in
    elim (same_id v id) as P [ true ↦ refl | false ↦ creation_parts id log more ]

-- ---- what is created

contains_created : (id : Id) (log : List Update) → Contains (created log) id → is_created id log ≡ true
contains_created id [] h = absurd (none_in id h)
contains_created id (Cell p ks c ∷ log) h = contains_created id log h
contains_created id (Delete v ∷ log) h = contains_created id log h
contains_created id (Create v e ks ∷ log) h =
    let first : Option Creation = Some (record { entity = e; keys = ks }) in
    let P : Bool → Type 0 = λ b. is_some (if b then first else creation id log) ≡ true in
    elim (split_member v id (created log) h) [
      | inl s ↦ subst P (sym ((same_id_decides v id).1 s)) refl
      | inr m ↦ let rest = contains_created id log m in elim (same_id v id) as P [ true ↦ refl | false ↦ rest ]
    ]

created_has : (id : Id) (log : List Update) (o : Option Creation) → creation id log ≡ o → is_some o ≡ true → Contains (created log) id
created_has id log (Some c) e t = created_contains id c.entity c.keys log (created_member id log c e)
created_has id log None e t = absurd (false≢true t)

-- the test finds the created ids
pub is_created_decides : (id : Id) (log : List Update) → Decides (is_created id log) (Contains (created log) id)
is_created_decides id log = (λ t. created_has id log (creation id log) refl t, contains_created id log)

pub new_is_none : (id : Id) (log : List Update) → creation id log ≡ None → Contains (created log) id → ⊥
new_is_none id log e h = false≢true (ap is_some (sym e) ∙ contains_created id log h)

-- ---- parts

pub part_append : (first second whole : List Update) → IsPart first whole → IsPart second whole → IsPart (first ++ second) whole
part_append first second whole f g u h = elim (Contains-append_cases first second u h) [ inl m ↦ f u m | inr m ↦ g u m ]

pub part_left : (log more : List Update) → IsPart log (log ++ more)
part_left log more u h = Contains-append_left log more u h

pub part_right : (log more : List Update) → IsPart more (log ++ more)
part_right log more u h = Contains-append_right log more u h

-- what the joined one knows is known after the join
pub part_joined : (base delta before after : List Update) → IsPart before (base ++ delta) → IsPart (before ++ after) (base ++ (delta ++ after))
part_joined base delta before after f =
    let assoc : base ++ delta ++ after ≡ base ++ (delta ++ after) = append_assoc base delta after in
    subst (IsPart (before ++ after)) assoc
    (part_append before after (base ++ delta ++ after) (λ u h. part_left (base ++ delta) after u (f u h)) (part_right (base ++ delta) after))

-- ---- no id created twice

pub no_repeat_parts : {A : Type 0} (xs ys : List A) → NoRepeat (xs ++ ys) → NoRepeat xs × NoRepeat ys × Disjoint xs ys
no_repeat_parts [] ys n = (tt, n, λ x h k. none_in x h)
no_repeat_parts (x ∷ xs) ys n =
    let rest = no_repeat_parts xs ys n.1 in (
      (λ h. n.0 (Contains-append_left xs ys x h), rest.0),
      rest.1,
      λ y h k. elim (split_member x y xs h) [ inl e ↦ n.0 (Contains-append_right xs ys x (subst (Contains ys) (sym e) k)) | inr m ↦ rest.2 y m k ],
    )

pub parts_no_repeat : {A : Type 0} (xs ys : List A) → NoRepeat xs → NoRepeat ys → Disjoint xs ys → NoRepeat (xs ++ ys)
parts_no_repeat [] ys a b f = b
parts_no_repeat (x ∷ xs) ys a b f = (
  λ h. elim (Contains-append_cases xs ys x h) [ inl m ↦ a.0 m | inr m ↦ f x (here x xs) m ],
  parts_no_repeat xs ys a.1 b (λ y h k. f y (there x y xs h) k),
)

-- a log of two parts creates no id twice where neither part does and none is created in both
pub created_once_parts : (log more : List Update) → CreatedOnce (log ++ more) → CreatedOnce log × CreatedOnce more × Disjoint (created log) (created more)
created_once_parts log more once = no_repeat_parts (created log) (created more) (subst NoRepeat (created_parts log more) once)

pub parts_created_once : (log more : List Update) → CreatedOnce log → CreatedOnce more → Disjoint (created log) (created more) → CreatedOnce (log ++ more)
parts_created_once log more a b f = subst NoRepeat (sym (created_parts log more)) (parts_no_repeat (created log) (created more) a b f)

-- ---- fit logs

pub fit_parts : (schema : Schema) (log more : List Update) → Fit schema (log ++ more) → Fit schema log × Fit schema more × Disjoint (created log) (created more)
fit_parts schema log more fit =
    let once = created_once_parts log more fit.once in (
      record { shaped = subst (All (IsShaped schema)) (take_at log more (length log) refl) (All-take (IsShaped schema) (length log) (log ++ more) fit.shaped); once = once.0 },
      record { shaped = subst (All (IsShaped schema)) (drop_at log more (length log) refl) (All-drop (IsShaped schema) (length log) (log ++ more) fit.shaped); once = once.1 },
      once.2,
    )

pub parts_fit : (schema : Schema) (log more : List Update) → Fit schema log → Fit schema more → Disjoint (created log) (created more) → Fit schema (log ++ more)
parts_fit schema log more f g d = record { shaped = All-append (IsShaped schema) log more f.shaped g.shaped; once = parts_created_once log more f.once g.once d }

pub fit_front : (schema : Schema) (log more : List Update) → Fit schema (log ++ more) → Fit schema log
fit_front schema log more fit = (fit_parts schema log more fit).0

one_once : (update : Update) → CreatedOnce (update ∷ [])
one_once (Cell p ks c) = tt
one_once (Create id e ks) = (none_in id, tt)
one_once (Delete id) = tt

-- one update more, which creates no id that was created
pub fit_one_more : (schema : Schema) (log : List Update) (update : Update) → Fit schema log → IsShaped schema update → ((id : Id) → Contains (created (update ∷ [])) id → creation id log ≡ None) → Fit schema (log ++ update ∷ [])
fit_one_more schema log update fit shaped new =
    let alone : Fit schema (update ∷ []) = record { shaped = All-cons (IsShaped schema) update [] shaped (All-nil (IsShaped schema)); once = one_once update } in
    parts_fit schema log (update ∷ []) fit alone (λ id h k. new_is_none id log (new id k) h)
