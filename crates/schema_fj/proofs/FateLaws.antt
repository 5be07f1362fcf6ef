-- What a child tells of ids does to a joiner what the child's updates do.
use Rattle.std.proofs.Common.{◌≡◌, refl, sym, ◌∙◌, ap, subst, ℕ, zero, suc, Bool, true, false, ◌||◌, cond, List, [], ◌∷◌, ◌++◌, inl, inr, Option, Some, None}
use Rattle.std.specs.Prelude.{◌⊎◌, Contains, is_some}
use Rattle.std.specs.Option.{option_or}
use Rattle.std.proofs.lemmas.Bool.{cases_Bool, or_cases, false≢true}
use Rattle.std.proofs.lemmas.Bool.Decides.{same_from_decides}
use Rattle.std.proofs.lemmas.List.Elements.{Contains-append_right, Contains-append_cases}
use Rattle.cloud_base.specs.Values.{Id}
use Rattle.cloud_base.specs.Order.{id_order, same_id}
use Rattle.cloud_base.specs.Log.{Creation, creation, is_created, is_deleted, parents, parents_of}
use Rattle.cloud_base.specs.Dead.{Chain, Dead, is_dead}
use Rattle.cloud_base.specs.Alike.{IsPart}
use Rattle.cloud_base.specs.Shaped.{CreatedOnce}
use Rattle.cloud_base.specs.Sorted.{Lists}
use Rattle.cloud_base.specs.declared.update.Update.{Update}
use Rattle.cloud_base.specs.declared.update.Update.TheVariants.{Delete}
use Rattle.cloud_base.proofs.OrderLemmas.{same_id_decides, same_id_itself}
use Rattle.cloud_base.proofs.SortedLemmas.{here, there, none_in, split_member}
use Rattle.cloud_base.proofs.LogLemmas.{deleted_parts, creation_parts, creation_stays, deleted_member, member_deleted, created_member, created_contains}
use Rattle.cloud_base.proofs.DeadLemmas.{is_dead_decides, dead_from_chain, dead_grows}
use Rattle.fj_entity.specs.declared.created.Created.{Created}
use Rattle.change_lists.specs.Effects.{IsBorn}
use Rattle.schema_fj.specs.Told.{creates, deletes, SameFates}
use Rattle.fj_entity.specs.Fates.{Fate, Dead as Gone, living, fate_in}
use Rattle.fj_entity.specs.Rosters.{RosterStands, created_order, IsNewlyDead}
use Rattle.std.specs.Option.{option_map}
use Rattle.cloud_base.proofs.DeadLemmas.{made, dead_stays, dead_more}
use Rattle.cloud_base.proofs.LogLemmas.{part_left, part_right, created_once_parts}

-- ---- the told updates

creates_member : (born : List Created) (id : Id) (c : Creation) → creation id (creates born) ≡ Some c → Contains born (record { id = id; entity = c.entity; keys = c.keys })
creates_member [] id c h = cc
creates_member (b ∷ born) id c h =
    let first : Option Creation = Some (record { entity = b.entity; keys = b.keys }) in
    let P : Bool → Type 0 = λ t. (same_id b.id id ≡ t) → cond t first (creation id (creates born)) ≡ Some c → Contains (b ∷ born) (record { id = id; entity = c.entity; keys = c.keys }) in
    let at : P (same_id b.id id) = elim (same_id b.id id) as P [
      | true ↦ λ t k.
          let s : b.id ≡ id = (same_id_decides b.id id).0 t in
          let e : b.entity ≡ c.entity = cc in let ks : b.keys ≡ c.keys = cc in
          subst (Contains (b ∷ born)) (λ i. record { id = s i; entity = e i; keys = ks i }) (here b born)
      | false ↦ λ t k. there b (record { id = id; entity = c.entity; keys = c.keys }) born (creates_member born id c k)
    ] in
    at refl h

member_creates : (born : List Created) (c : Created) → Contains born c → (k : Creation) × (creation c.id (creates born) ≡ Some k)
member_creates [] c h = absurd (none_in c h)
member_creates (b ∷ born) c h =
    let first : Creation = record { entity = b.entity; keys = b.keys } in
    let P : Bool → Type 0 = λ t. (k : Creation) × (cond t (Some first) (creation c.id (creates born)) ≡ Some k) in
    elim (split_member b c born h) [
      | inl e ↦ (first, ap (λ t. cond t (Some first) (creation c.id (creates born))) (ap (λ (z : Created). same_id z.id c.id) e ∙ same_id_itself c.id))
      | inr m ↦ let rest = member_creates born c m in elim (same_id b.id c.id) as P [ true ↦ (first, refl) | false ↦ rest ]
    ]

creates_delete_nothing : (born : List Created) (id : Id) → is_deleted id (creates born) ≡ false
creates_delete_nothing [] id = refl
creates_delete_nothing (b ∷ born) id = creates_delete_nothing born id

deletes_create_nothing : (died : List Id) (id : Id) → creation id (deletes died) ≡ None
deletes_create_nothing [] id = refl
deletes_create_nothing (d ∷ died) id = deletes_create_nothing died id

deletes_member : (died : List Id) (id : Id) → is_deleted id (deletes died) ≡ true → Contains died id
deletes_member [] id h = absurd (false≢true h)
deletes_member (d ∷ died) id h = elim (or_cases (same_id d id) (is_deleted id (deletes died)) h) [
  | inl t ↦ subst (Contains (d ∷ died)) ((same_id_decides d id).0 t) (here d died)
  | inr t ↦ there d id died (deletes_member died id t)
]

member_deletes : (died : List Id) (id : Id) → Contains died id → Contains (deletes died) (Delete id)
member_deletes [] id h = absurd (none_in id h)
member_deletes (d ∷ died) id h = elim (split_member d id died h) [
  | inl e ↦ subst (λ v. Contains (Delete d ∷ deletes died) (Delete v)) e (here (Delete d) (deletes died))
  | inr m ↦ there (Delete d) (Delete id) (deletes died) (member_deletes died id m)
]

first_of : {A : Type 0} (o p : Option A) (x : A) → option_or o p ≡ Some x → (o ≡ Some x) ⊎ ((o ≡ None) × (p ≡ Some x))
first_of None p x h = inr (refl, h)
first_of (Some y) p x h = inl h

or_none : {A : Type 0} (o : Option A) → option_or o None ≡ o
or_none None = refl
or_none (Some x) = refl

-- ---- the joiner's log, the child's two logs, and what the child tells

module _ (joiner before after : List Update) (born : List Created) (died : List Id)
    (part : IsPart before joiner) (once : CreatedOnce (joiner ++ after))
    (borns : Lists created_order born (IsBorn before after)) (dies : Lists id_order died (IsNewlyDead before (before ++ after))) where
  abbrev told : List Update
  told = creates born ++ deletes died

  abbrev now : List Update
  now = joiner ++ told

  abbrev whole : List Update
  whole = joiner ++ after

  abbrev child : List Update
  child = before ++ after

  child_part : IsPart child whole
  child_part u h = elim (Contains-append_cases before after u h) [ inl m ↦ part_left joiner after u (part u m) | inr m ↦ part_right joiner after u m ]

  joiner_once : CreatedOnce joiner
  joiner_once = (created_once_parts joiner after once).0

  -- what is created in `after` is the child's creation, and isn't created in the joiner's log
  new_here : (id : Id) (c : Creation) → creation id after ≡ Some c → creation id joiner ≡ None
  new_here id c e = at (creation id joiner) refl
    where
      at : (o : Option Creation) → creation id joiner ≡ o → creation id joiner ≡ None
      at None k = k
      at (Some d) k = absurd ((created_once_parts joiner after once).2 id (created_contains id d.entity d.keys joiner (created_member id joiner d k)) (created_contains id c.entity c.keys after (created_member id after c e)))

  -- what is dead for the child is dead now
  told_dead : (id : Id) → is_dead child id ≡ true → Dead now id
  told_dead id h = elim (cases_Bool (is_dead before id)) [
    | inl t ↦ dead_stays joiner told id (dead_grows before joiner id part joiner_once ((is_dead_decides before id).0 t))
    | inr f ↦ dead_from_chain now 0 id (member_deleted id now (Contains-append_right joiner told (Delete id) (Contains-append_right (creates born) (deletes died) (Delete id) (member_deletes died id (dies.every id (h, f))))))
  ]

  creation_now : (id : Id) → creation id joiner ≡ None → creation id now ≡ creation id (creates born)
  creation_now id e =
      creation_parts id joiner told ∙ ap (λ o. option_or o (creation id told)) e
      ∙ creation_parts id (creates born) (deletes died) ∙ ap (option_or (creation id (creates born))) (deletes_create_nothing died id) ∙ or_none (creation id (creates born))

  -- a told creation is one of the child's
  told_creation : (id : Id) (c : Creation) → creation id (creates born) ≡ Some c → creation id after ≡ Some c
  told_creation id c e = (borns.only (record { id = id; entity = c.entity; keys = c.keys }) (creates_member born id c e)).0

  -- a living creation of the child's is told
  tells : (id : Id) (c : Creation) → creation id after ≡ Some c → is_dead child id ≡ false → creation id now ≡ Some c
  tells id c e live =
      let m = borns.every (record { id = id; entity = c.entity; keys = c.keys }) (e, live) in
      let k = member_creates born (record { id = id; entity = c.entity; keys = c.keys }) m in
      creation_now id (new_here id c e) ∙ k.1 ∙ sym (told_creation id k.0 k.1) ∙ e

  creation_whole : (id : Id) (c : Creation) → creation id now ≡ Some c → creation id whole ≡ Some c
  creation_whole id c e = at (creation id joiner) refl
    where
      at : (o : Option Creation) → creation id joiner ≡ o → creation id whole ≡ Some c
      at (Some d) k = creation_parts id joiner after ∙ ap (λ o. option_or o (creation id after)) k ∙ sym (creation_parts id joiner told ∙ ap (λ o. option_or o (creation id told)) k) ∙ e
      at None k = creation_parts id joiner after ∙ ap (λ o. option_or o (creation id after)) k ∙ told_creation id c (sym (creation_now id k) ∙ e)

  -- dead now, so dead in the whole
  forward : (n : ℕ) (id : Id) → Chain now n id → Dead whole id
  forward zero id c = elim (Contains-append_cases joiner told (Delete id) (deleted_member id now c)) [
    | inl m ↦ dead_from_chain whole 0 id (member_deleted id whole (part_left joiner after (Delete id) m))
    | inr m ↦
        let t : (is_deleted id (creates born) || is_deleted id (deletes died)) ≡ true = sym (deleted_parts id (creates born) (deletes died)) ∙ member_deleted id told m in
        let d : is_deleted id (deletes died) ≡ true = sym (ap (λ b. b || is_deleted id (deletes died)) (creates_delete_nothing born id)) ∙ t in
        dead_grows child whole id child_part once ((is_dead_decides child id).0 (dies.only id (deletes_member died id d)).0)
  ]
  forward (suc n) id c =
      let w = made (creation id now) c.0 c.1 in
      let p : Contains (parents whole id) c.0 = subst (λ o. Contains (parents_of o) c.0) (w.1 ∙ sym (creation_whole id w.0 w.1)) c.1 in
      dead_more whole id c.0 p (forward n c.0 c.2)

  -- and the other way
  backward : (n : ℕ) (id : Id) → Chain whole n id → Dead now id
  backward zero id c = elim (Contains-append_cases joiner after (Delete id) (deleted_member id whole c)) [
    | inl m ↦ dead_from_chain now 0 id (member_deleted id now (part_left joiner told (Delete id) m))
    | inr m ↦ told_dead id ((is_dead_decides child id).1 (dead_from_chain child 0 id (member_deleted id child (part_right before after (Delete id) m))))
  ]
  backward (suc n) id c =
      let w = made (creation id whole) c.0 c.1 in
      let next = backward n c.0 c.2 in
      elim (first_of (creation id joiner) (creation id after) w.0 (sym (creation_parts id joiner after) ∙ w.1)) [
        | inl k ↦ dead_more now id c.0 (subst (λ o. Contains (parents_of o) c.0) (w.1 ∙ sym (creation_stays id joiner told w.0 k)) c.1) next
        | inr k ↦ elim (cases_Bool (is_dead child id)) [
          | inl t ↦ told_dead id t
          | inr f ↦ dead_more now id c.0 (subst (λ o. Contains (parents_of o) c.0) (w.1 ∙ sym (tells id w.0 k.1 f)) c.1) next
        ]
      ]

  dead_as_whole : (id : Id) → is_dead now id ≡ is_dead whole id
  dead_as_whole id =
      same_from_decides (is_dead now id) (is_dead whole id) (is_dead_decides now id)
      (λ h. let d = (is_dead_decides whole id).0 h in backward d.0 id d.2, λ d. (is_dead_decides whole id).1 (forward d.0 id d.2))

  live_creation : (id : Id) → is_dead whole id ≡ false → creation id now ≡ creation id whole
  live_creation id live = at (creation id whole) refl
    where
      live_child : is_dead child id ≡ false
      live_child = elim (cases_Bool (is_dead child id)) [
        | inr f ↦ f
        | inl t ↦ absurd (false≢true (sym live ∙ (is_dead_decides whole id).1 (dead_grows child whole id child_part once ((is_dead_decides child id).0 t))))
      ]

      none : (o : Option Creation) → creation id now ≡ o → creation id whole ≡ None → creation id now ≡ None
      none None e k = e
      none (Some c) e k = let clash : Some c ≡ None = sym (creation_whole id c e) ∙ k in cc

      at : (o : Option Creation) → creation id whole ≡ o → creation id now ≡ creation id whole
      at None e = none (creation id now) refl e ∙ sym e
      at (Some c) e = elim (first_of (creation id joiner) (creation id after) c (sym (creation_parts id joiner after) ∙ e)) [
        | inl k ↦ creation_stays id joiner told c k ∙ sym e
        | inr k ↦ tells id c k.1 live_child ∙ sym e
      ]

  -- among those that live the told creations are the child's
  pub born_same : (id : Id) → is_dead whole id ≡ false → is_created id (creates born) ≡ is_created id after
  born_same id live = at (creation id after) refl
    where
      live_child : is_dead child id ≡ false
      live_child = elim (cases_Bool (is_dead child id)) [
        | inr f ↦ f
        | inl t ↦ absurd (false≢true (sym live ∙ (is_dead_decides whole id).1 (dead_grows child whole id child_part once ((is_dead_decides child id).0 t))))
      ]

      none : (o : Option Creation) → creation id (creates born) ≡ o → creation id after ≡ None → is_some o ≡ false
      none None e k = refl
      none (Some c) e k = let clash : Some c ≡ None = sym (told_creation id c e) ∙ k in cc

      at : (o : Option Creation) → creation id after ≡ o → is_created id (creates born) ≡ is_created id after
      at (Some c) e =
          let m = borns.every (record { id = id; entity = c.entity; keys = c.keys }) (e, live_child) in
          let k = member_creates born (record { id = id; entity = c.entity; keys = c.keys }) m in
          ap is_some k.1 ∙ sym (ap is_some e)
      at None e = none (creation id (creates born)) refl e ∙ sym (ap is_some e)

  -- the ids fare as after the child's own updates
  pub told_fates : SameFates (joiner ++ (creates born ++ deletes died)) (joiner ++ after)
  told_fates = record { dead = dead_as_whole; made = live_creation }

-- a roster stands for all logs with the same fates
pub roster_same : (fates : List (Id × Fate)) (log other : List Update) → SameFates log other → RosterStands fates log → RosterStands fates other
roster_same fates log other same h = record { kept = λ id. h.kept id ∙ same_fate id (is_dead other id) refl }
  where
    same_fate : (id : Id) (b : Bool) → is_dead other id ≡ b → fate_in log id ≡ fate_in other id
    same_fate id true e =
        ap (λ b. cond b (Some Gone) (option_map living (creation id log))) (same.dead id ∙ e)
        ∙ sym (ap (λ b. cond b (Some Gone) (option_map living (creation id other))) e)
    same_fate id false e = λ i. cond (same.dead id i) (Some Gone) (option_map living (same.made id e i))
