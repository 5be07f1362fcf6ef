-- What a roster stands for after a deletion or a creation.
use Rattle.std.proofs.Common.{◌≡◌, refl, sym, ◌∙◌, ap, subst, ℕ, zero, suc, Bool, true, false, ◌||◌, cond, List, [], ◌∷◌, ◌++◌, inl, inr, Option, Some, None}
use Rattle.std.specs.Prelude.{◌⊎◌, Contains, Result, IfOk}
use Rattle.std.specs.declared.result.Result.TheVariants.{Ok, Err}
use Rattle.std.specs.Option.{option_map}
use Rattle.std.specs.List.Sorted.{IsStrictlySortedBy}
use Rattle.std.proofs.lemmas.Bool.{cases_Bool, false≢true}
use Rattle.std.proofs.lemmas.Bool.Decides.{same_from_decides}
use Rattle.cloud_base.specs.Values.{Id}
use Rattle.cloud_base.specs.Order.{id_order, same_id}
use Rattle.cloud_base.specs.Log.{creation}
use Rattle.cloud_base.specs.Dead.{Dead as IsDead, is_dead, has_dead}
use Rattle.cloud_base.specs.Leads.{LeadsIn, Leads}
use Rattle.cloud_base.specs.Sorted.{Lists}
use Rattle.cloud_base.specs.declared.key.Key.{Key}
use Rattle.cloud_base.specs.declared.update.Update.{Update}
use Rattle.cloud_base.specs.declared.update.Update.TheVariants.{Create, Delete}
use Rattle.cloud_base.proofs.OrderLemmas.{same_id_decides, same_id_itself}
use Rattle.cloud_base.proofs.SortedLemmas.{none_in}
use Rattle.cloud_base.proofs.DeadLemmas.{is_dead_decides, some_member, member_some, made, dead_stays, dead_led, delete_kills, dead_after_delete, create_kills, dead_after_create, created_then, created_itself, deleted_creates}
use Rattle.fj_entity.specs.Fates.{Fate, Living, Dead, living, fate_in, fate_at, marked, buried, is_among}
use Rattle.fj_entity.specs.Rosters.{RosterStands, IsDoomed, IsNewlyDead, Kills}
use Rattle.fj_entity.proofs.WalkLemmas.{made_living}

-- ---- one more is buried

among_more : (x : Id) (ids : List Id) (id : Id) → is_among x (ids ++ id ∷ []) ≡ (is_among x ids || same_id id x)
among_more x [] id = at (same_id id x)
  where
    at : (b : Bool) → (b || false) ≡ b
    at true = refl
    at false = refl
among_more x (other ∷ ids) id = ap (λ b. same_id other x || b) (among_more x ids id) ∙ assoc (same_id other x) (is_among x ids) (same_id id x)
  where
    assoc : (a b c : Bool) → (a || (b || c)) ≡ ((a || b) || c)
    assoc true b c = refl
    assoc false b c = refl

pub bury_more : (ids : List Id) (id : Id) (old mid new : List (Id × Fate)) → ((x : Id) → fate_at mid x ≡ buried (is_among x ids) (fate_at old x))
    → ((x : Id) → fate_at new x ≡ buried (same_id id x) (fate_at mid x)) → (x : Id) → fate_at new x ≡ buried (is_among x (ids ++ id ∷ [])) (fate_at old x)
bury_more ids id old mid new h k x = k x ∙ ap (buried (same_id id x)) (h x) ∙ twice (is_among x ids) (same_id id x) (fate_at old x) ∙ sym (ap (λ b. buried b (fate_at old x)) (among_more x ids id))
  where
    twice : (a b : Bool) (o : Option Fate) → buried b (buried a o) ≡ buried (a || b) o
    twice true true None = refl
    twice true true (Some f) = refl
    twice true false None = refl
    twice true false (Some f) = refl
    twice false true o = refl
    twice false false o = refl

-- ---- what is doomed

nothing : IsStrictlySortedBy id_order []
unfolding IsStrictlySortedBy
nothing = tt

-- nothing depends on a dead id that isn't dead
pub none_doomed : (log : List Update) (root : Id) (ids : List Id) → ids ≡ [] → is_dead log root ≡ true → Lists id_order ids (IsDoomed log root)
none_doomed log root ids e dead = subst (λ (l : List Id). Lists id_order l (IsDoomed log root)) (sym e) (record {
  ascends = nothing;
  only = λ x m. absurd (none_in x m);
  every = λ x d. absurd (false≢true (sym d.1 ∙ (is_dead_decides log x).1 (dead_led log x root d.0 ((is_dead_decides log root).0 dead))));
})

-- the newly dead are those that are doomed
pub newly_dead : (log after : List Update) (root : Id) (ids : List Id) → Kills log after root → Lists id_order ids (IsDoomed log root) → Lists id_order ids (IsNewlyDead log after)
newly_dead log after root ids kills lists = record {
  ascends = lists.ascends;
  only = λ x m. let d = lists.only x m in (kills.led x d.0, d.1);
  every = λ x d. elim (kills.only x d.0) [ inl t ↦ absurd (false≢true (sym d.1 ∙ t)) | inr l ↦ lists.every x (l, d.1) ];
}

dead_fate : (log : List Update) (x : Id) → is_dead log x ≡ true → fate_in log x ≡ Some Dead
dead_fate log x d = ap (λ b. cond b (Some Dead) (option_map living (creation x log))) d

live_fate : (log after : List Update) (x : Id) → is_dead log x ≡ false → is_dead after x ≡ false → creation x after ≡ creation x log → fate_in log x ≡ fate_in after x
live_fate log after x d e same = (λ i. cond (d i) (Some Dead) (option_map living (creation x log))) ∙ sym (λ i. cond (e i) (Some Dead) (option_map living (same i)))

among : (x : Id) (ids : List Id) → Contains ids x → is_among x ids ≡ true
among x ids m = member_some (λ other. same_id other x) ids x m (same_id_itself x)

not_among : (x : Id) (ids : List Id) → (Contains ids x → ⊥) → is_among x ids ≡ false
not_among x ids out = elim (cases_Bool (is_among x ids)) [
  | inr f ↦ f
  | inl t ↦ let w = some_member (λ other. same_id other x) ids t in absurd (out (subst (Contains ids) ((same_id_decides w.0 x).0 w.2) w.1))
]

-- the roster in which the doomed are dead stands for the log after
pub kills_stands : (log after : List Update) (root : Id) (old mid new : List (Id × Fate)) (ids : List Id) → Kills log after root → RosterStands old log → Lists id_order ids (IsDoomed log root)
    → ((x : Id) → fate_at mid x ≡ marked (same_id root x) (fate_at old x)) → ((x : Id) → fate_at new x ≡ buried (is_among x ids) (fate_at mid x)) → RosterStands new after
kills_stands log after root old mid new ids kills h lists marks dead = record { kept = λ x. at x (is_dead after x) refl }
  where
    -- what is dead or doomed dies
    dies : (x : Id) → is_dead log x ≡ true → fate_at new x ≡ Some Dead
    dies x d =
        let gone : fate_at mid x ≡ Some Dead = marks x ∙ ap (marked (same_id root x)) (h.kept x ∙ dead_fate log x d) ∙ either (same_id root x) in
        dead x ∙ ap (buried (is_among x ids)) gone ∙ still (is_among x ids)
      where
        either : (b : Bool) → marked b (Some Dead) ≡ Some Dead
        either true = refl
        either false = refl

        still : (b : Bool) → buried b (Some Dead) ≡ Some Dead
        still true = refl
        still false = refl

    kept : (x : Id) → Leads log x root → is_dead log x ≡ false → (f : Fate) × (fate_at mid x ≡ Some f)
    kept x l live = by l.0 l.1
      where
        by : (n : ℕ) → LeadsIn log n x root → (f : Fate) × (fate_at mid x ≡ Some f)
        by zero e =
            let m = some_marked (fate_at old x) in
            (m.0, marks x ∙ ap (λ b. marked b (fate_at old x)) ((same_id_decides root x).1 (sym e)) ∙ m.1)
          where
            some_marked : (o : Option Fate) → (f : Fate) × (marked true o ≡ Some f)
            some_marked None = (Dead, refl)
            some_marked (Some f) = (f, refl)
        by (suc n) p =
            let w = made (creation x log) p.0 p.1 in
            let was : fate_at old x ≡ Some (living w.0) = h.kept x ∙ made_living log x w.0 w.1 live in
            (living w.0, marks x ∙ ap (marked (same_id root x)) was ∙ either (living w.0) (same_id root x))
          where
            either : (f : Fate) (b : Bool) → marked b (Some f) ≡ Some f
            either f true = refl
            either f false = refl

    at : (x : Id) (b : Bool) → is_dead after x ≡ b → fate_at new x ≡ fate_in after x
    at x true d =
        let gone : fate_at new x ≡ Some Dead = elim (cases_Bool (is_dead log x)) [
          | inl t ↦ dies x t
          | inr f ↦ elim (kills.only x d) [
            | inl t ↦ dies x t
            | inr l ↦
                let k = kept x l f in
                dead x ∙ ap (λ b. buried b (fate_at mid x)) (among x ids (lists.every x (l, f))) ∙ ap (buried true) k.1
          ]
        ] in
        gone ∙ sym (dead_fate after x d)
    at x false d =
        let live : is_dead log x ≡ false = elim (cases_Bool (is_dead log x)) [ inr f ↦ f | inl t ↦ absurd (false≢true (sym d ∙ kills.were x t)) ] in
        let out : Contains ids x → ⊥ = λ m. false≢true (sym d ∙ kills.led x (lists.only x m).0) in
        let other : same_id root x ≡ false = elim (cases_Bool (same_id root x)) [ inr f ↦ f | inl t ↦ absurd (false≢true (sym d ∙ kills.led x (0, sym ((same_id_decides root x).0 t)))) ] in
        dead x ∙ ap (λ b. buried b (fate_at mid x)) (not_among x ids out) ∙ marks x ∙ ap (λ b. marked b (fate_at old x)) other ∙ h.kept x ∙ live_fate log after x live d (kills.made x d)

-- ---- the updates that kill

more_dead : (log after : List Update) (x : Id) → (IsDead log x → IsDead after x) → is_dead log x ≡ true → is_dead after x ≡ true
more_dead log after x f h = (is_dead_decides after x).1 (f ((is_dead_decides log x).0 h))

pub deletion_kills : (log : List Update) (d : Id) → Kills log (log ++ Delete d ∷ []) d
deletion_kills log d =
    let after = log ++ Delete d ∷ [] in
    record {
      were = λ x h. more_dead log after x (dead_stays log (Delete d ∷ []) x) h;
      led = λ x l. (is_dead_decides after x).1 (delete_kills log d x (inr l));
      only = λ x h. elim (dead_after_delete log d x ((is_dead_decides after x).0 h)) [ inl w ↦ inl ((is_dead_decides log x).1 w) | inr l ↦ inr l ];
      made = λ x h. deleted_creates log d x;
    }

pub creation_kills : (log : List Update) (u : Id) (e : ℕ) (ks : List Key) → creation u log ≡ None → has_dead log ks ≡ true → Kills log (log ++ Create u e ks ∷ []) u
creation_kills log u e ks new h = record {
  were = λ x d. more_dead log (log ++ Create u e ks ∷ []) x (dead_stays log (Create u e ks ∷ []) x) d;
  led = λ x l. led x l;
  only = λ x d. elim (dead_after_create log u e ks x new ((is_dead_decides (log ++ Create u e ks ∷ []) x).0 d)) [ inl w ↦ inl ((is_dead_decides log x).1 w) | inr w ↦ inr w.0 ];
  made = λ x f. elim (cases_Bool (same_id u x)) [
    | inl t ↦ absurd (false≢true (sym f ∙ led x (0, sym ((same_id_decides u x).0 t))))
    | inr g ↦ created_then log u e ks x g
  ];
}
  where
    led : (x : Id) → Leads log x u → is_dead (log ++ Create u e ks ∷ []) x ≡ true
    led x l = (is_dead_decides (log ++ Create u e ks ∷ []) x).1 (create_kills log u e ks x new (inr (l, h)))

-- a creation kills nothing where the id is dead already or no key is dead
pub creation_quiet : (log : List Update) (u : Id) (e : ℕ) (ks : List Key) → creation u log ≡ None → (is_dead log u ≡ true) ⊎ (has_dead log ks ≡ false) → (x : Id) → is_dead (log ++ Create u e ks ∷ []) x ≡ is_dead log x
creation_quiet log u e ks new quiet x =
    same_from_decides (is_dead (log ++ Create u e ks ∷ []) x) (is_dead log x) (is_dead_decides (log ++ Create u e ks ∷ []) x) (
      λ h. dead_stays log (Create u e ks ∷ []) x ((is_dead_decides log x).0 h),
      λ d. elim (dead_after_create log u e ks x new d) [
        | inl w ↦ (is_dead_decides log x).1 w
        | inr w ↦ elim quiet [
          | inl t ↦ (is_dead_decides log x).1 (dead_led log x u w.0 ((is_dead_decides log u).0 t))
          | inr f ↦ absurd (false≢true (sym f ∙ w.1))
        ]
      ],
    )

-- nothing is newly dead
none_newly : (log after : List Update) (ids : List Id) → ids ≡ [] → ((x : Id) → is_dead after x ≡ is_dead log x) → Lists id_order ids (IsNewlyDead log after)
none_newly log after ids e dead = subst (λ (l : List Id). Lists id_order l (IsNewlyDead log after)) (sym e) (record { ascends = nothing; only = λ x m. absurd (none_in x m); every = λ x d. absurd (false≢true (sym d.1 ∙ sym (dead x) ∙ d.0)) })

fates_as_before : (log after : List Update) (x : Id) → is_dead after x ≡ is_dead log x → (is_dead log x ≡ false → creation x after ≡ creation x log) → fate_in log x ≡ fate_in after x
fates_as_before log after x dead made = at (is_dead log x) refl
  where
    at : (b : Bool) → is_dead log x ≡ b → fate_in log x ≡ fate_in after x
    at true d = dead_fate log x d ∙ sym (dead_fate after x (dead ∙ d))
    at false d = live_fate log after x d (dead ∙ d) (made d)

-- an id that is dead when it is created
pub born_dead : (log : List Update) (u : Id) (e : ℕ) (ks : List Key) (fates : List (Id × Fate)) (ids : List Id) → ids ≡ [] → creation u log ≡ None → is_dead log u ≡ true → RosterStands fates log
    → RosterStands fates (log ++ Create u e ks ∷ []) × Lists id_order ids (IsNewlyDead log (log ++ Create u e ks ∷ []))
born_dead log u e ks fates ids none fresh dead h = (
  record {
    kept = λ x. h.kept x ∙ fates_as_before log (log ++ Create u e ks ∷ []) x (quiet x)
        (λ live. elim (cases_Bool (same_id u x)) [
          | inl t ↦ absurd (false≢true (sym live ∙ ap (is_dead log) (sym ((same_id_decides u x).0 t)) ∙ dead))
          | inr f ↦ created_then log u e ks x f
        ]);
  },
  none_newly log (log ++ Create u e ks ∷ []) ids none quiet,
)
  where
    quiet : (x : Id) → is_dead (log ++ Create u e ks ∷ []) x ≡ is_dead log x
    quiet = creation_quiet log u e ks fresh (inl dead)

-- a new id that lives
pub put_stands : (log : List Update) (u : Id) (e : ℕ) (ks : List Key) (old new : List (Id × Fate)) (ids : List Id) → ids ≡ [] → creation u log ≡ None → is_dead log u ≡ false → has_dead log ks ≡ false
    → ((x : Id) → fate_at new x ≡ cond (same_id u x) (Some (Living e ks)) (fate_at old x)) → RosterStands old log
    → RosterStands new (log ++ Create u e ks ∷ []) × Lists id_order ids (IsNewlyDead log (log ++ Create u e ks ∷ []))
put_stands log u e ks old new ids none fresh live keys put h = (
  record { kept = λ x. put x ∙ at x (same_id u x) refl },
  none_newly log (log ++ Create u e ks ∷ []) ids none quiet,
)
  where
    quiet : (x : Id) → is_dead (log ++ Create u e ks ∷ []) x ≡ is_dead log x
    quiet = creation_quiet log u e ks fresh (inr keys)

    at : (x : Id) (b : Bool) → same_id u x ≡ b → cond b (Some (Living e ks)) (fate_at old x) ≡ fate_in (log ++ Create u e ks ∷ []) x
    at x true t =
        let is : u ≡ x = (same_id_decides u x).0 t in
        let alive : is_dead (log ++ Create u e ks ∷ []) x ≡ false = quiet x ∙ ap (is_dead log) (sym is) ∙ live in
        let born : creation x (log ++ Create u e ks ∷ []) ≡ Some (record { entity = e; keys = ks }) = subst (λ v. creation v (log ++ Create u e ks ∷ []) ≡ Some (record { entity = e; keys = ks })) is (created_itself log u e ks fresh) in
        sym (made_living (log ++ Create u e ks ∷ []) x (record { entity = e; keys = ks }) born alive)
    at x false f = h.kept x ∙ fates_as_before log (log ++ Create u e ks ∷ []) x (quiet x) (λ d. created_then log u e ks x f)

pub if_ok : {T E : Type 0} (P Q : T → Type 0) (r : Result T E) → ((x : T) → P x → Q x) → IfOk r P → IfOk r Q
if_ok P Q (Ok x) f h = f x h
if_ok P Q (Err e) f h = h
