-- Elements and lists: what is read is spelled so, and what is spelled so is read.
use Rattle.std.proofs.Common.{◌≡◌, refl, sym, ◌∙◌, ap, subst, ℕ, zero, suc, ◌+◌, ◌^◌, ◌<◌, ◌≤◌, Bool, true, false, cond, List, [], ◌∷◌, ◌++◌, length, Result, Ok, Err, arith, ℤ, pos, negsuc}
use Rattle.std.specs.Prelude.{◌≢◌, ⊤, ◌==◌, nat_lt, nat_le, Option, Some, None, All, FitsSigned, MatchOption}
use Rattle.std.specs.List.{AllByRecursion, flat_map}
use Rattle.std.specs.List.Sorted.{IsStrictlySortedBy}
use Rattle.std.specs.Option.{option_map, option_and_then}
use Rattle.std.specs.Int.{w16, w32, w64, to_be_bytes}
use Rattle.std.specs.Ordering.{is_lt}
use Rattle.std.specs.declared.cmp.Ordering.{Ordering}
use Rattle.std.specs.declared.cmp.Ordering.TheVariants.{Less, Equal, Greater}
use Rattle.std.specs.Cmp.{IsTotalOrder}
use Rattle.std.proofs.lemmas.Bool.Decides.{nat_tests}
use Rattle.std.proofs.lemmas.List.{append-nil}
use Rattle.std.proofs.lemmas.List.Elements.{All-from_recursion, recursion_from_All}
use Rattle.cloud_base.specs.Values.{Id, IsText}
use Rattle.cloud_base.specs.Order.{id_order}
use Rattle.cloud_base.specs.Shaped.{IsId, IsCell, IsShaped, MatchTypes, AreKeys, cell_type, property_at, entity_at}
use Rattle.cloud_base.specs.declared.key.Key.{Key}
use Rattle.cloud_base.specs.declared.schema.CellType.{CellType}
use Rattle.cloud_base.specs.declared.schema.CellType.TheVariants as cell
use Rattle.cloud_base.specs.declared.schema.Entity.{Entity}
use Rattle.cloud_base.specs.declared.schema.KeyType.{KeyType}
use Rattle.cloud_base.specs.declared.schema.Property.{Property}
use Rattle.cloud_base.specs.declared.schema.Schema.{Schema}
use Rattle.fj_core.specs.declared.effect.Effect.{Effect}
use Rattle.fj_core.specs.declared.effect.Effect.TheVariants.{Add, SetInt, SetText, IfEmpty}
use Rattle.fj_array.specs.declared.cell.Cell.{Cell}
use Rattle.fj_array.specs.declared.effect.CellEffect.{CellEffect}
use Rattle.fj_array.specs.Cells.{cell_order}
use Rattle.fj_array.specs.Effects.{cell_of, effect_order}
use Rattle.fj_entity.specs.declared.created.Created.{Created}
use Rattle.fj_entity.specs.Rosters.{created_order}
use Rattle.change_lists.specs.Lists.{IsEffective, IsFilled, place_of, value_order}
use Rattle.change_lists.specs.declared.value.Content.{Content}
use Rattle.change_lists.specs.declared.value.Content.TheVariants as content
use Rattle.change_lists.specs.declared.value.CellValue.{CellValue}
use Rattle.packet_bytes.specs.declared.fault.WireFault.TheVariants.{BadTag, OutOfOrder, NotCanonical, Unknown}
use Rattle.packet_bytes.specs.Left.{Left, Field, Read, Reader, ◌>>=◌, give, check, known, byte_at, number_at}
use Rattle.packet_bytes.specs.Reading.{int_at, filled_int_at, text_at, id_at, keys_at, few, entity_types, property_types, is_above, dead_at, created_at, cell_at, is_own, done_at, effect_at, content_at, cell_effect_at, cell_value_at, elements_at, list_at}
use Rattle.packet_bytes.specs.Spelling.{int_bytes, text_bytes, id_bytes, key_bytes, created_bytes, cell_bytes, effect_bytes, content_bytes, cell_effect_bytes, cell_value_bytes, list_bytes, IsEffectOn, IsContentOf, IsCreatedOf, IsEffectOf, IsValueOf, IsListOf}
use Rattle.packet_bytes.proofs.Spells.{Spells, spells_seq, spells_then, spells_give, spells_same, spells_made, spells_check, spells_checked, spells_known, spells_cons, tail}
use Rattle.packet_bytes.proofs.Fields.{byte_spells, number_spells, wide16, wide32, int_spells, filled_int_spells, IsLong, text_spells, id_spells, keys_spells}

-- ---- names of elements

-- above the one before it
abbrev pub IsAbove : {N : Type 0} → (N → N → Ordering) → Option N → N → Type 0
IsAbove order previous name = is_above order previous name ≡ true

pub dead_spells : (previous : Option Id) → Spells (dead_at previous) (λ id. IsId id × IsAbove id_order previous id) id_bytes
unfolding dead_at
dead_spells previous = spells_checked id_at (is_above id_order previous) OutOfOrder IsId id_bytes id_spells

-- the names of elements tell their order
above_named : {A N : Type 0} (name : A → N) (order : N → N → Ordering) (previous : Option A) (x : A) → is_above (λ a b. order (name a) (name b)) previous x ≡ is_above order (option_map name previous) (name x)
above_named name order None x = refl
above_named name order (Some p) x = refl

-- ---- the types of keys

few_is : (types types' : List KeyType) → few types ≡ Some types' → (types ≡ types') × (length types ≤ 3)
few_is types types' e =
    let P : Bool → Type 0 = λ b. nat_le (length types) 3 ≡ b → cond b (Some types) None ≡ Some types' → (types ≡ types') × (length types ≤ 3) in
    let at : P (nat_le (length types) 3) = elim (nat_le (length types) 3) as P [
      | true ↦ λ t f. (let same : types ≡ types' = cc in same, grind (arith, nat_tests, t))
      | false ↦ λ t f. cc
    ] in
    at refl e

few_of : (types : List KeyType) → length types ≤ 3 → few types ≡ None → ⊥
few_of types le e = let t : nat_le (length types) 3 ≡ true = grind (arith, nat_tests, le) in let f : few types ≡ Some types = ap (λ (b : Bool). cond b (Some types) None) t in cc

as_many : (types : List KeyType) (keys : List Key) → MatchTypes types keys → length keys ≡ length types
as_many [] [] h = refl
as_many [] (k ∷ keys) h = absurd h
as_many (t ∷ types) [] h = absurd h
as_many (t ∷ types) (k ∷ keys) h = ap suc (as_many types keys h.1)

module _ {E : Type 0} (keys_of : E → List KeyType) where
  -- the keys of what a schema has, by the types that are found
  pub matched : (o : Option E) (types : List KeyType) (keys : List Key) → option_and_then (λ e. few (keys_of e)) o ≡ Some types → MatchTypes types keys → MatchOption o ⊥ (λ e. AreKeys (keys_of e) keys)
  matched None types keys e m = cc
  matched (Some x) types keys e m =
      let h = few_is (keys_of x) types e in
      (omega (arith, as_many types keys m, ap length h.0, h.1), subst (λ ts. MatchTypes ts keys) (sym h.0) m)

  pub types_match : (o : Option E) (types : List KeyType) (keys : List Key) → option_and_then (λ e. few (keys_of e)) o ≡ Some types → MatchOption o ⊥ (λ e. AreKeys (keys_of e) keys) → MatchTypes types keys
  types_match None types keys e m = absurd m
  types_match (Some x) types keys e m = subst (λ ts. MatchTypes ts keys) (few_is (keys_of x) types e).0 m.1

  pub has_types : (o : Option E) (keys : List Key) → MatchOption o ⊥ (λ e. AreKeys (keys_of e) keys) → option_and_then (λ e. few (keys_of e)) o ≢ None
  has_types None keys m = absurd m
  has_types (Some x) keys m = few_of (keys_of x) (omega (arith, as_many (keys_of x) keys m.1, m.0))

-- ---- created ids

abbrev of_entity : Entity → List KeyType
of_entity e = e.keys

abbrev of_property : Property → List KeyType
of_property p = p.keys

pub created_spells : (schema : Schema) (previous : Option Created) → Spells (created_at schema previous) (λ c. IsCreatedOf schema c × IsAbove created_order previous c) created_bytes
unfolding created_at
created_spells schema previous =
    let before : Option Id = option_map (λ (c : Created). c.id) previous in
    let Is : Created → Type 0 = λ c. IsCreatedOf schema c × IsAbove created_order previous c in
    spells_then (dead_at before) (λ id. number_at w16 >>= λ entity. known (entity_types schema entity.value) (Unknown entity.at) >>= λ types. keys_at types.value >>= λ keys. give (record { id = id.value; entity = entity.value; keys = keys.value })) (λ (c : Created). c.id) (λ id. IsId id × IsAbove id_order before id) id_bytes Is (λ c. to_be_bytes w16 c.entity ++ flat_map key_bytes c.keys) (dead_spells before)
    (λ c f. (f.0.0, sym (above_named (λ (d : Created). d.id) id_order previous c) ∙ f.1))
    (λ at id named. spells_then (number_at w16) (λ entity. known (entity_types schema entity.value) (Unknown entity.at) >>= λ types. keys_at types.value >>= λ keys. give (record { id = id; entity = entity.value; keys = keys.value })) (λ (c : Created). c.entity) (λ n. n < 2 ^ 16) (to_be_bytes w16) (λ c. Is c × (c.id ≡ id)) (λ c. flat_map key_bytes c.keys) (number_spells w16 (2 ^ 16) wide16)
    (λ c f. f.0.0.1)
    (λ at' entity lt. spells_known (entity_types schema entity) (Unknown at') (λ types. keys_at types.value >>= λ keys. give (record { id = id; entity = entity; keys = keys.value })) (λ c. (Is c × (c.id ≡ id)) × (c.entity ≡ entity)) (λ c. flat_map key_bytes c.keys)
    (λ at'' types e. spells_made (keys_at types) (λ keys. record { id = id; entity = entity; keys = keys }) (λ (c : Created). c.keys) (MatchTypes types) (flat_map key_bytes) (λ c. (Is c × (c.id ≡ id)) × (c.entity ≡ entity)) (keys_spells types)
    (λ keys m.
    let made : Created = record { id = id; entity = entity; keys = keys } in
    (((((named.0, lt, matched of_entity (entity_at schema entity) types keys e m), above_named (λ (d : Created). d.id) id_order previous made ∙ named.1), refl), refl), refl))
    (λ c f. (types_match of_entity (entity_at schema entity) types c.keys e (subst (λ n. MatchOption (entity_at schema n) ⊥ (λ x. AreKeys x.keys c.keys)) f.1 f.0.0.0.2), λ i. record { id = sym f.0.1 i; entity = sym f.1 i; keys = c.keys })))
    (λ c f. has_types of_entity (entity_at schema entity) c.keys (subst (λ n. MatchOption (entity_at schema n) ⊥ (λ x. AreKeys x.keys c.keys)) f.1 f.0.0.0.2))))

-- ---- cells

pub cell_spells : (schema : Schema) (previous : Option Cell) → Spells (cell_at schema previous) (λ cell. IsCell schema cell.property cell.keys × IsAbove cell_order previous cell) cell_bytes
unfolding cell_at
cell_spells schema previous =
    let Is : Cell → Type 0 = λ cell. IsCell schema cell.property cell.keys × IsAbove cell_order previous cell in
    spells_then (number_at w16) (λ property. known (property_types schema property.value) (Unknown property.at) >>= λ types. keys_at types.value >>= λ keys. check (is_above cell_order previous (record { property = property.value; keys = keys.value })) (OutOfOrder property.at) >>= λ above. give (record { property = property.value; keys = keys.value })) (λ (cell : Cell). cell.property) (λ n. n < 2 ^ 16) (to_be_bytes w16) Is (λ cell. flat_map key_bytes cell.keys) (number_spells w16 (2 ^ 16) wide16)
    (λ cell f. f.0.0)
    (λ at property lt. spells_known (property_types schema property) (Unknown at) (λ types. keys_at types.value >>= λ keys. check (is_above cell_order previous (record { property = property; keys = keys.value })) (OutOfOrder at) >>= λ above. give (record { property = property; keys = keys.value })) (λ cell. Is cell × (cell.property ≡ property)) (λ cell. flat_map key_bytes cell.keys)
    (λ at' types e. spells_seq (keys_at types) (λ keys. check (is_above cell_order previous (record { property = property; keys = keys.value })) (OutOfOrder at) >>= λ above. give (record { property = property; keys = keys.value })) (MatchTypes types) (flat_map key_bytes) (λ keys cell. (Is cell × (cell.property ≡ property)) × (cell.keys ≡ keys)) (λ keys cell. []) (λ cell. Is cell × (cell.property ≡ property)) (λ cell. flat_map key_bytes cell.keys) (keys_spells types)
    (λ at'' keys m.
    let made : Cell = record { property = property; keys = keys } in
    spells_check (is_above cell_order previous made) (OutOfOrder at) (give made) (λ cell. (Is cell × (cell.property ≡ property)) × (cell.keys ≡ keys)) (λ cell. [])
    (λ above. spells_give made (λ cell. (Is cell × (cell.property ≡ property)) × (cell.keys ≡ keys)) (((((lt, matched of_property (property_at schema property) types keys e m), above), refl), refl)) (λ cell f. λ i. record { property = f.0.1 i; keys = f.1 i }))
    (λ cell f.
    let same : cell ≡ made = λ i. record { property = f.0.1 i; keys = f.1 i } in
    subst (λ c. IsAbove cell_order previous c) same f.0.0.1))
    (λ cell f. (cell.keys, types_match of_property (property_at schema property) types cell.keys e (subst (λ n. MatchOption (property_at schema n) ⊥ (λ x. AreKeys x.keys cell.keys)) f.1 f.0.0.1), (f, refl), sym (append-nil (flat_map key_bytes cell.keys))))
    (λ keys cell m f. (f.0, ap (flat_map key_bytes) f.1 ∙ sym (append-nil (flat_map key_bytes keys)))))
    (λ cell f. has_types of_property (property_at schema property) cell.keys (subst (λ n. MatchOption (property_at schema n) ⊥ (λ x. AreKeys x.keys cell.keys)) f.1 f.0.0.1)))

-- ---- effects

-- the tag of an effect, and what follows it
abbrev effect_tag : Effect → ℕ
effect_tag (Add n) = 0
effect_tag (SetInt n) = 1
effect_tag (SetText text) = 2
effect_tag (IfEmpty text) = 3

abbrev effect_content : Effect → List ℕ
effect_content (Add n) = int_bytes n
effect_content (SetInt n) = int_bytes n
effect_content (SetText text) = text_bytes text
effect_content (IfEmpty text) = text_bytes text

abbrev IsAny : Effect → Type 0
IsAny (Add n) = FitsSigned w64 n × (n ≢ pos 0)
IsAny (SetInt n) = FitsSigned w64 n
IsAny (SetText text) = IsLong 0 text
IsAny (IfEmpty text) = IsLong 1 text

number_of : Effect → ℤ
number_of (Add n) = n
number_of (SetInt n) = n
number_of (SetText text) = pos 0
number_of (IfEmpty text) = pos 0

words_of : Effect → List ℕ
words_of (Add n) = []
words_of (SetInt n) = []
words_of (SetText text) = text
words_of (IfEmpty text) = text

abbrev IsTagged : ℕ → Effect → Type 0
IsTagged tag e = (tag ≡ effect_tag e) × IsAny e

is_add : (e : Effect) → IsTagged 0 e → (FitsSigned w64 (number_of e) × (number_of e ≢ pos 0)) × (Add (number_of e) ≡ e)
unfolding number_of
is_add (Add n) h = (h.1, refl)
is_add (SetInt n) h = absurd (omega (arith, h.0))
is_add (SetText text) h = absurd (omega (arith, h.0))
is_add (IfEmpty text) h = absurd (omega (arith, h.0))

is_set : (e : Effect) → IsTagged 1 e → FitsSigned w64 (number_of e) × (SetInt (number_of e) ≡ e)
unfolding number_of
is_set (Add n) h = absurd (omega (arith, h.0))
is_set (SetInt n) h = (h.1, refl)
is_set (SetText text) h = absurd (omega (arith, h.0))
is_set (IfEmpty text) h = absurd (omega (arith, h.0))

is_set_text : (e : Effect) → IsTagged 2 e → IsLong 0 (words_of e) × (SetText (words_of e) ≡ e)
unfolding words_of
is_set_text (Add n) h = absurd (omega (arith, h.0))
is_set_text (SetInt n) h = absurd (omega (arith, h.0))
is_set_text (SetText text) h = (h.1, refl)
is_set_text (IfEmpty text) h = absurd (omega (arith, h.0))

is_offer : (tag : ℕ) (e : Effect) → suc (suc (suc tag)) < 4 → IsTagged (suc (suc (suc tag))) e → IsLong 1 (words_of e) × (IfEmpty (words_of e) ≡ e)
unfolding words_of
is_offer tag (Add n) lt h = absurd (omega (arith, h.0))
is_offer tag (SetInt n) lt h = absurd (omega (arith, h.0))
is_offer tag (SetText text) lt h = absurd (omega (arith, h.0))
is_offer tag (IfEmpty text) lt h = (h.1, refl)

done_spells : (tag : ℕ) → tag < 4 → Spells (done_at tag) (IsTagged tag) effect_content
unfolding done_at number_of words_of
done_spells zero lt = spells_same (done_at zero) (IsTagged zero) (λ e. int_bytes (number_of e)) (IsTagged zero) effect_content
    (spells_made filled_int_at Add number_of (λ n. FitsSigned w64 n × (n ≢ pos 0)) int_bytes (IsTagged zero) filled_int_spells (λ n f. ((refl, f), refl)) is_add)
    (λ e h. h) (λ e h. h) (λ e h. ap effect_content (is_add e h).1)
done_spells (suc zero) lt = spells_same (done_at (suc zero)) (IsTagged (suc zero)) (λ e. int_bytes (number_of e)) (IsTagged (suc zero)) effect_content
    (spells_made int_at SetInt number_of (FitsSigned w64) int_bytes (IsTagged (suc zero)) int_spells (λ n f. ((refl, f), refl)) is_set)
    (λ e h. h) (λ e h. h) (λ e h. ap effect_content (is_set e h).1)
done_spells (suc (suc zero)) lt = spells_same (done_at (suc (suc zero))) (IsTagged (suc (suc zero))) (λ e. text_bytes (words_of e)) (IsTagged (suc (suc zero))) effect_content
    (spells_made (text_at 0) SetText words_of (IsLong 0) text_bytes (IsTagged (suc (suc zero))) (text_spells 0) (λ text f. ((refl, f), refl)) is_set_text)
    (λ e h. h) (λ e h. h) (λ e h. ap effect_content (is_set_text e h).1)
done_spells (suc (suc (suc tag))) lt =
    let last : suc (suc (suc tag)) ≡ 3 = omega arith in
    spells_same (done_at (suc (suc (suc tag)))) (IsTagged (suc (suc (suc tag)))) (λ e. text_bytes (words_of e)) (IsTagged (suc (suc (suc tag)))) effect_content
    (spells_made (text_at 1) IfEmpty words_of (IsLong 1) text_bytes (IsTagged (suc (suc (suc tag)))) (text_spells 1) (λ text f. ((last, f), refl)) (λ e h. is_offer tag e lt h))
    (λ e h. h) (λ e h. h) (λ e h. ap effect_content (is_offer tag e lt h).1)

effect_tagged : (e : Effect) → effect_bytes e ≡ effect_tag e ∷ effect_content e
effect_tagged (Add n) = refl
effect_tagged (SetInt n) = refl
effect_tagged (SetText text) = refl
effect_tagged (IfEmpty text) = refl

tag_fits : (e : Effect) → (nat_lt (effect_tag e) 4 ≡ true) × (effect_tag e < 256)
tag_fits (Add n) = (refl, omega arith)
tag_fits (SetInt n) = (refl, omega arith)
tag_fits (SetText text) = (refl, omega arith)
tag_fits (IfEmpty text) = (refl, omega arith)

filled : (text : List ℕ) → 1 ≤ length text → text ≢ []
filled [] le = absurd (omega arith)
filled (b ∷ text) le = λ e. cc

long : (text : List ℕ) → text ≢ [] → 1 ≤ length text
long [] h = absurd (h refl)
long (b ∷ text) h = omega arith

-- an effect on a cell of a type
abbrev IsEffectFor : CellType → Effect → Type 0
IsEffectFor t e = IsEffectOn t e × IsEffective e

own_effect : (t : CellType) (e : Effect) → IsEffectFor t e → (is_own t (effect_tag e) ≡ true) × IsAny e
own_effect cell.Int (Add n) h = (refl, (h.0, h.1))
own_effect cell.Int (SetInt n) h = (refl, h.0)
own_effect cell.Int (SetText text) h = absurd h.0
own_effect cell.Int (IfEmpty text) h = absurd h.0
own_effect cell.Text (Add n) h = absurd h.0
own_effect cell.Text (SetInt n) h = absurd h.0
own_effect cell.Text (SetText text) h = (refl, (omega arith, h.0))
own_effect cell.Text (IfEmpty text) h = (refl, (long text h.1, h.0))

effect_owned : (t : CellType) (e : Effect) → is_own t (effect_tag e) ≡ true → IsAny e → IsEffectFor t e
effect_owned cell.Int (Add n) own h = (h.0, h.1)
effect_owned cell.Int (SetInt n) own h = (h, tt)
effect_owned cell.Int (SetText text) own h = cc
effect_owned cell.Int (IfEmpty text) own h = cc
effect_owned cell.Text (Add n) own h = cc
effect_owned cell.Text (SetInt n) own h = cc
effect_owned cell.Text (SetText text) own h = (h.1, tt)
effect_owned cell.Text (IfEmpty text) own h = (h.1, filled text h.0)

lt_of : (a b : ℕ) → nat_lt a b ≡ true → a < b
lt_of a b t = grind (arith, nat_tests, t)

pub effect_spells : (t : CellType) → Spells (effect_at t) (IsEffectFor t) effect_bytes
unfolding effect_at
effect_spells t =
    spells_seq byte_at (λ tag. check (nat_lt tag.value 4) (BadTag tag.at) >>= λ right. check (is_own t tag.value) (Unknown tag.at) >>= λ own. done_at tag.value) (λ b. b < 256) (λ b. b ∷ []) (λ tag e. (tag ≡ effect_tag e) × IsEffectFor t e) (λ tag e. effect_content e) (IsEffectFor t) effect_bytes byte_spells
    (λ at tag lt. spells_check (nat_lt tag 4) (BadTag at) (check (is_own t tag) (Unknown at) >>= λ own. done_at tag) (λ e. (tag ≡ effect_tag e) × IsEffectFor t e) effect_content
    (λ below. spells_check (is_own t tag) (Unknown at) (done_at tag) (λ e. (tag ≡ effect_tag e) × IsEffectFor t e) effect_content
    (λ own. spells_same (done_at tag) (IsTagged tag) effect_content (λ e. (tag ≡ effect_tag e) × IsEffectFor t e) effect_content (done_spells tag (lt_of tag 4 below))
    (λ e h. (h.0, effect_owned t e (ap (is_own t) (sym h.0) ∙ own) h.1)) (λ e h. (h.0, (own_effect t e h.1).1)) (λ e h. refl))
    (λ e h. ap (is_own t) h.0 ∙ (own_effect t e h.1).0))
    (λ e h. ap (λ n. nat_lt n 4) h.0 ∙ (tag_fits e).0))
    (λ e h. (effect_tag e, (tag_fits e).1, (refl, h), effect_tagged e))
    (λ tag e lt h. (h.1, effect_tagged e ∙ ap (λ n. n ∷ effect_content e) (sym h.0)))

-- ---- contents

abbrev IsContentFor : CellType → Content → Type 0
IsContentFor t v = IsContentOf t v × IsFilled v

number_in : Content → ℤ
number_in (content.Int n) = n
number_in (content.Text text) = pos 0

words_in : Content → List ℕ
words_in (content.Int n) = []
words_in (content.Text text) = text

is_number : (v : Content) → IsContentFor cell.Int v → (FitsSigned w64 (number_in v) × (number_in v ≢ pos 0)) × (content.Int (number_in v) ≡ v)
unfolding number_in
is_number (content.Int n) h = ((h.0, h.1), refl)
is_number (content.Text text) h = absurd h.0

is_words : (v : Content) → IsContentFor cell.Text v → IsLong 1 (words_in v) × (content.Text (words_in v) ≡ v)
unfolding words_in
is_words (content.Int n) h = absurd h.0
is_words (content.Text text) h = ((long text h.1, h.0), refl)

pub content_spells : (t : CellType) → Spells (content_at t) (IsContentFor t) content_bytes
unfolding content_at number_in words_in
content_spells cell.Int = spells_same (content_at cell.Int) (IsContentFor cell.Int) (λ v. int_bytes (number_in v)) (IsContentFor cell.Int) content_bytes
    (spells_made filled_int_at content.Int number_in (λ n. FitsSigned w64 n × (n ≢ pos 0)) int_bytes (IsContentFor cell.Int) filled_int_spells (λ n f. ((f.0, f.1), refl)) is_number)
    (λ v h. h) (λ v h. h) (λ v h. ap content_bytes (is_number v h).1)
content_spells cell.Text = spells_same (content_at cell.Text) (IsContentFor cell.Text) (λ v. text_bytes (words_in v)) (IsContentFor cell.Text) content_bytes
    (spells_made (text_at 1) content.Text words_in (IsLong 1) text_bytes (IsContentFor cell.Text) (text_spells 1) (λ text f. ((f.1, filled text f.0), refl)) is_words)
    (λ v h. h) (λ v h. h) (λ v h. ap content_bytes (is_words v h).1)

-- ---- what was done to cells, and what they hold

pub cell_effect_spells : (schema : Schema) (previous : Option CellEffect) → Spells (cell_effect_at schema previous) (λ it. IsEffectOf schema it × IsAbove effect_order previous it) cell_effect_bytes
unfolding cell_effect_at
cell_effect_spells schema previous =
    let before : Option Cell = option_map cell_of previous in
    let Is : CellEffect → Type 0 = λ it. IsEffectOf schema it × IsAbove effect_order previous it in
    spells_then (cell_at schema before) (λ cell. effect_at (cell_type schema cell.value.property) >>= λ effect. give (record { property = cell.value.property; keys = cell.value.keys; effect = effect.value })) cell_of (λ cell. IsCell schema cell.property cell.keys × IsAbove cell_order before cell) cell_bytes Is (λ it. effect_bytes it.effect) (cell_spells schema before)
    (λ it f. (f.0.0, sym (above_named cell_of cell_order previous it) ∙ f.1))
    (λ at cell named. spells_made (effect_at (cell_type schema cell.property)) (λ effect. record { property = cell.property; keys = cell.keys; effect = effect }) (λ (it : CellEffect). it.effect) (IsEffectFor (cell_type schema cell.property)) effect_bytes (λ it. Is it × (cell_of it ≡ cell)) (effect_spells (cell_type schema cell.property))
    (λ effect f.
    let made : CellEffect = record { property = cell.property; keys = cell.keys; effect = effect } in
    ((((named.0, f), above_named cell_of cell_order previous made ∙ named.1), refl), refl))
    (λ it f. (subst (λ (c : Cell). IsEffectFor (cell_type schema c.property) it.effect) f.1 f.0.0.1, λ i. record { property = (sym f.1 i).property; keys = (sym f.1 i).keys; effect = it.effect })))

pub cell_value_spells : (schema : Schema) (previous : Option CellValue) → Spells (cell_value_at schema previous) (λ it. IsValueOf schema it × IsAbove value_order previous it) cell_value_bytes
unfolding cell_value_at
cell_value_spells schema previous =
    let before : Option Cell = option_map place_of previous in
    let Is : CellValue → Type 0 = λ it. IsValueOf schema it × IsAbove value_order previous it in
    spells_then (cell_at schema before) (λ cell. content_at (cell_type schema cell.value.property) >>= λ value. give (record { property = cell.value.property; keys = cell.value.keys; value = value.value })) place_of (λ cell. IsCell schema cell.property cell.keys × IsAbove cell_order before cell) cell_bytes Is (λ it. content_bytes it.value) (cell_spells schema before)
    (λ it f. (f.0.0, sym (above_named place_of cell_order previous it) ∙ f.1))
    (λ at cell named. spells_made (content_at (cell_type schema cell.property)) (λ value. record { property = cell.property; keys = cell.keys; value = value }) (λ (it : CellValue). it.value) (IsContentFor (cell_type schema cell.property)) content_bytes (λ it. Is it × (place_of it ≡ cell)) (content_spells (cell_type schema cell.property))
    (λ value f.
    let made : CellValue = record { property = cell.property; keys = cell.keys; value = value } in
    ((((named.0, f), above_named place_of cell_order previous made ∙ named.1), refl), refl))
    (λ it f. (subst (λ (c : Cell). IsContentFor (cell_type schema c.property) it.value) f.1 f.0.0.1, λ i. record { property = (sym f.1 i).property; keys = (sym f.1 i).keys; value = it.value })))

-- ---- lists

module _ {A : Type 0} (order : A → A → Ordering) where
  -- each is above the one before it
  abbrev pub Chain : Option A → List A → Type 0
  Chain previous [] = ⊤
  Chain previous (x ∷ xs) = IsAbove order previous x × Chain (Some x) xs

  less_of : (r : Ordering) → is_lt r ≡ true → r ≡ Less
  less_of Less e = refl
  less_of Equal e = cc
  less_of Greater e = cc

  below_all : IsTotalOrder order → (x y : A) (xs : List A) → order x y ≡ Less → AllByRecursion (λ z. order y z ≡ Less) xs → AllByRecursion (λ z. order x z ≡ Less) xs
  below_all total x y [] h a = tt
  below_all total x y (z ∷ xs) h a = (total.trans x y z h a.0, below_all total x y xs h a.1)

  sorted_chain : IsTotalOrder order → (x : A) (xs : List A) → Chain (Some x) xs → IsStrictlySortedBy order (x ∷ xs)
  unfolding IsStrictlySortedBy
  sorted_chain total x [] h = (tt, tt)
  sorted_chain total x (y ∷ ys) h =
      let rest = sorted_chain total y ys h.1 in
      let lt = less_of (order x y) h.0 in
      ((lt, below_all total x y ys lt rest.0), rest)

  pub ascends : IsTotalOrder order → (xs : List A) → Chain None xs → IsStrictlySortedBy order xs
  unfolding IsStrictlySortedBy
  ascends total [] h = tt
  ascends total (x ∷ xs) h = sorted_chain total x xs h.1

  chain_sorted : (x : A) (xs : List A) → IsStrictlySortedBy order (x ∷ xs) → Chain (Some x) xs
  unfolding IsStrictlySortedBy
  chain_sorted x [] s = tt
  chain_sorted x (y ∷ ys) s = (ap is_lt s.0.0, chain_sorted y ys s.1)

  pub chain_of : (xs : List A) → IsStrictlySortedBy order xs → Chain None xs
  chain_of [] s = tt
  chain_of (x ∷ xs) s = (refl, chain_sorted x xs s)

  module _ (one : Option A → Reader A) (Is : A → Type 0) (spell : A → List ℕ) (law : (previous : Option A) → Spells (one previous) (λ x. Is x × IsAbove order previous x) spell) where
    abbrev AreMany : ℕ → Option A → List A → Type 0
    AreMany n previous xs = (length xs ≡ n) × Chain previous xs × AllByRecursion Is xs

    first_of : (n : ℕ) (previous : Option A) (xs : List A) → AreMany (suc n) previous xs → (x : A) × (rest : List A) × (xs ≡ x ∷ rest) × (Is x × IsAbove order previous x) × AreMany n (Some x) rest
    first_of n previous [] h = absurd (omega (arith, h.0))
    first_of n previous (x ∷ xs) h = (x, xs, refl, (h.2.0, h.1.0), (omega (arith, h.0), h.1.1, h.2.1))

    none_of : (xs : List A) → length xs ≡ 0 → xs ≡ []
    none_of [] e = refl
    none_of (x ∷ xs) e = absurd (omega (arith, e))

    many_spell : (n : ℕ) (previous : Option A) → Spells (elements_at one n previous) (AreMany n previous) (flat_map spell)
    unfolding elements_at
    many_spell zero previous = spells_same (elements_at one zero previous) (AreMany zero previous) (λ xs. []) (AreMany zero previous) (flat_map spell) (spells_give [] (AreMany zero previous) (refl, tt, tt) (λ xs h. none_of xs h.0)) (λ xs h. h) (λ xs h. h) (λ xs h. ap (flat_map spell) (sym (none_of xs h.0)))
    many_spell (suc n) previous = spells_cons (one previous) (λ first. elements_at one n (Some first.value)) (λ x. Is x × IsAbove order previous x) spell (λ x. AreMany n (Some x)) (AreMany (suc n) previous) (law previous) (λ at x f. many_spell n (Some x)) (first_of n previous) (λ x xs f h. (ap suc h.0, (f.1, h.1), (f.0, h.2)))

    pub list_spells : IsTotalOrder order → Spells (list_at one) (IsListOf order Is) (list_bytes spell)
    unfolding list_at
    list_spells total =
        spells_then (number_at w32) (λ count. elements_at one count.value None) length (λ n. n < 2 ^ 32) (to_be_bytes w32) (IsListOf order Is) (flat_map spell) (number_spells w32 (2 ^ 32) wide32)
        (λ xs f. f.few)
        (λ at n lt. spells_same (elements_at one n None) (AreMany n None) (flat_map spell) (λ xs. IsListOf order Is xs × (length xs ≡ n)) (flat_map spell) (many_spell n None)
        (λ xs h. (record { few = subst (λ m. m < 2 ^ 32) (sym h.0) lt; ascends = ascends total xs h.1; each = All-from_recursion Is xs h.2 }, h.0))
        (λ xs h. (h.1, chain_of xs h.0.ascends, recursion_from_All Is xs h.0.each))
        (λ xs h. refl))
