-- Keys that die with ids.
use Rattle.std.proofs.Common.{◌≡◌, refl, sym, ◌∙◌, ap, subst, Bool, true, false, ℕ, List, [], ◌∷◌, inl, inr, arith}
use Rattle.std.specs.Prelude.{Contains, ◌||◌, ◌&&◌, ◌==◌}
use Rattle.std.proofs.lemmas.Bool.{cases_Bool, or_cases, and_parts, eqb-true, false≢true}
use Rattle.std.proofs.lemmas.Bool.Decides.{nat_tests}
use Rattle.cloud_base.specs.Values.{Id}
use Rattle.cloud_base.specs.Order.{id_order}
use Rattle.cloud_base.specs.Log.{ids_of}
use Rattle.cloud_base.specs.Dead.{is_dead, has_dead}
use Rattle.cloud_base.specs.Sorted.{Lists}
use Rattle.cloud_base.specs.declared.key.Key.{Key}
use Rattle.cloud_base.specs.declared.key.Key.TheVariants.{Int, Text, Ref}
use Rattle.cloud_base.specs.declared.update.Update.{Update}
use Rattle.cloud_base.proofs.SortedLemmas.{none_in, here, there, split_member}
use Rattle.cloud_base.proofs.DeadLemmas.{some_member, member_some}
use Rattle.fj_array.specs.Cells.{is_id, has_id}
use Rattle.schema_fj.specs.Purged.{has_any}

-- ---- keys that die with the newly dead ids

id_of : (id : Id) (key : Key) → is_id id key ≡ true → (keys : List Key) → Contains (ids_of (key ∷ keys)) id
id_of id (Int n) h keys = absurd (false≢true h)
id_of id (Text t) h keys = absurd (false≢true h)
id_of id (Ref other) h keys =
    let parts = and_parts (other.client == id.client) (other.serial == id.serial) h in
    let a : other.client ≡ id.client = eqb-true other.client id.client parts.0 in
    let b : other.serial ≡ id.serial = eqb-true other.serial id.serial parts.1 in
    let e : other ≡ id = λ i. record { client = a i; serial = b i } in
    subst (Contains (other ∷ ids_of keys)) e (here other (ids_of keys))

further_id : (id : Id) (key : Key) (keys : List Key) → Contains (ids_of keys) id → Contains (ids_of (key ∷ keys)) id
further_id id (Int n) keys m = m
further_id id (Text t) keys m = m
further_id id (Ref other) keys m = there other id (ids_of keys) m

pub has_id_member : (id : Id) (keys : List Key) → has_id id keys ≡ true → Contains (ids_of keys) id
has_id_member id [] h = absurd (false≢true h)
has_id_member id (key ∷ keys) h = elim (or_cases (is_id id key) (has_id id keys) h) [ inl t ↦ id_of id key t keys | inr t ↦ further_id id key keys (has_id_member id keys t) ]

nat_itself : (n : ℕ) → (n == n) ≡ true
nat_itself n = grind (arith, nat_tests)

or_true : (b : Bool) → (b || true) ≡ true
or_true true = refl
or_true false = refl

pub member_has_id : (id : Id) (keys : List Key) → Contains (ids_of keys) id → has_id id keys ≡ true
member_has_id id [] m = absurd (none_in id m)
member_has_id id (Int n ∷ keys) m = member_has_id id keys m
member_has_id id (Text t ∷ keys) m = member_has_id id keys m
member_has_id id (Ref other ∷ keys) m = elim (split_member other id (ids_of keys) m) [
  | inl e ↦ ap (λ (v : Id). ((v.client == id.client) && (v.serial == id.serial)) || has_id id keys) e ∙ ap (λ b. (b && (id.serial == id.serial)) || has_id id keys) (nat_itself id.client) ∙ ap (λ b. b || has_id id keys) (nat_itself id.serial)
  | inr k ↦ ap (λ b. ((other.client == id.client) && (other.serial == id.serial)) || b) (member_has_id id keys k) ∙ or_true ((other.client == id.client) && (other.serial == id.serial))
]

-- a key is dead after exactly where one was dead before or one is among the newly dead
pub keys_die : (before after : List Update) (died : List Id) (keys : List Key) → ((x : Id) → is_dead before x ≡ true → is_dead after x ≡ true)
    → Lists id_order died (λ x. (is_dead after x ≡ true) × (is_dead before x ≡ false)) → has_dead after keys ≡ (has_dead before keys || has_any died keys)
keys_die before after died keys grows lists = elim (cases_Bool (has_dead after keys)) [
  | inl t ↦
      let w = some_member (is_dead after) (ids_of keys) t in
      elim (cases_Bool (is_dead before w.0)) [
        | inl d ↦ t ∙ sym (ap (λ b. b || has_any died keys) (member_some (is_dead before) (ids_of keys) w.0 w.1 d))
        | inr f ↦ t ∙ sym (ap (λ b. has_dead before keys || b) (member_some (λ id. has_id id keys) died w.0 (lists.every w.0 (w.2, f)) (member_has_id w.0 keys w.1)) ∙ or_true (has_dead before keys))
      ]
  | inr f ↦ elim (cases_Bool (has_dead before keys || has_any died keys)) [
    | inr g ↦ f ∙ sym g
    | inl g ↦ elim (or_cases (has_dead before keys) (has_any died keys) g) [
      | inl t ↦ let w = some_member (is_dead before) (ids_of keys) t in absurd (false≢true (sym f ∙ member_some (is_dead after) (ids_of keys) w.0 w.1 (grows w.0 w.2)))
      | inr t ↦ let w = some_member (λ id. has_id id keys) died t in absurd (false≢true (sym f ∙ member_some (is_dead after) (ids_of keys) w.0 (has_id_member w.0 keys w.2) (lists.only w.0 w.1).0))
    ]
  ]
]
