-- The schema of declarations in which no rule fails.
use Rattle.std.proofs.Common.{◌≡◌, refl, sym, ◌∙◌, ap, subst, lit≤, arith}
use Rattle.std.proofs.lemmas.List.{length-append}
use Rattle.std.proofs.lemmas.List.Elements.{All-nil, All-from_recursion}
use Rattle.std.proofs.lemmas.List.Sums.{sum_by-cons}
use Rattle.std.specs.Prelude.{ℕ, ◌+◌, ◌≤◌, true, List, [], ◌∷◌, ◌++◌, length, map, Some, None, slice_get}
use Rattle.std.specs.List.{AllByRecursion, flat_map}
use Rattle.std.specs.Option.{option_map_or}
use Rattle.cloud_base.specs.Values.{IsName}
use Rattle.cloud_base.specs.Shaped.{IsSchema, IsKeyType, AreKeyTypes, AreOwnersKeys, entity_at}
use Rattle.cloud_base.specs.declared.schema.Entity.{Entity}
use Rattle.cloud_base.specs.declared.schema.KeyType.{KeyType}
use Rattle.cloud_base.specs.declared.schema.KeyType.TheVariants as type
use Rattle.cloud_base.specs.declared.schema.Owner.{Owner}
use Rattle.cloud_base.specs.declared.schema.Owner.TheVariants as owner
use Rattle.cloud_base.specs.declared.schema.Property.{Property}
use Rattle.cloud_base.specs.declared.schema.Schema.{Schema}
use Rattle.source_tree.specs.Limits.{names_in, names_count}
use Rattle.source_tree.specs.Words.{declaration_words, key_words, property_words}
use Rattle.source_tree.specs.declared.program.Declaration.{Declaration}
use Rattle.source_tree.specs.declared.program.Declaration.TheVariants as d
use Rattle.source_tree.specs.declared.program.Key.{Key}
use Rattle.source_tree.specs.declared.program.KeyType.{KeyType as WrittenType}
use Rattle.source_tree.specs.declared.program.KeyType.TheVariants as k
use Rattle.source_tree.specs.declared.program.Property.{Property as WrittenProperty}
use Rattle.typed_program.specs.Programs.{IsTold, HasName, owner_name}
use Rattle.kind_rules.specs.Declarations.{declared_name, declared_names, entity_names, entity_number, key_type, key_types, property, rules_from, globals_in, owned_in, entities_in, schema_of}
use Rattle.kind_rules.specs.Names.{is_among}
use Rattle.kind_rules.specs.Statements.{number_or_zero}
use Rattle.kind_rules.specs.Words.{IsFitWord}
use Rattle.kind_rules.proofs.Apart.{weaker, both_hold, joined_hold, mapped_hold, all_mapped, hold_mapped, flat_hold, map_back, map_length, AreApart, Differ, apart_at, differ_at, joined_apart}
use Rattle.kind_rules.proofs.Declarations.{AreEmpty, IsTyped, IsOwner, IsFine, names_of, declared_fine, declared_differ}
use Rattle.kind_rules.proofs.Finds.{found, both_parts, in_range, map_at, among_found, same_bytes}

abbrev entity_name : Entity → List ℕ
entity_name entity = entity.name

-- ---- how many

few_in : (entities : List (List ℕ)) (x : Declaration) → length (globals_in x) + length (owned_in entities x) ≤ names_in x
few_in entities (d.Global p) = lit≤ tt
few_in entities (d.Array n keys properties) = let e = map_length (property (owner.Array n) (key_types entities keys)) properties in omega (arith, e)
few_in entities (d.Entity n keys properties) = let e = map_length (property (owner.Entity (entity_number entities n)) (type.Id (entity_number entities n) ∷ [])) properties in omega (arith, e)

few_properties : (entities : List (List ℕ)) (ds : List Declaration) → length (flat_map globals_in ds) + length (flat_map (owned_in entities) ds) ≤ names_count ds
few_properties entities [] = lit≤ tt
few_properties entities (x ∷ ds) =
    omega (arith, few_in entities x, few_properties entities ds, sum_by-cons (λ n. n) (names_in x) (map names_in ds), length-append (globals_in x) (flat_map globals_in ds), length-append (owned_in entities x) (flat_map (owned_in entities) ds))

few_entities : (ds : List Declaration) → length (entity_names ds) ≤ names_count ds
few_entities [] = lit≤ tt
few_entities (d.Global p ∷ ds) = omega (arith, few_entities ds, sum_by-cons (λ n. n) 1 (map names_in ds))
few_entities (d.Array n keys properties ∷ ds) = omega (arith, few_entities ds, sum_by-cons (λ n. n) (names_in (d.Array n keys properties)) (map names_in ds))
few_entities (d.Entity n keys properties ∷ ds) = omega (arith, few_entities ds, sum_by-cons (λ n. n) (names_in (d.Entity n keys properties)) (map names_in ds))

-- ---- entities by their numbers

names_are : (entities : List (List ℕ)) (ds : List Declaration) → map entity_name (flat_map (entities_in entities) ds) ≡ entity_names ds
names_are entities [] = refl
names_are entities (d.Global p ∷ ds) = names_are entities ds
names_are entities (d.Array n keys properties ∷ ds) = names_are entities ds
names_are entities (d.Entity n keys properties ∷ ds) = ap (λ ns. n ∷ ns) (names_are entities ds)

numbered : (entities : List (List ℕ)) (n : List ℕ) → is_among n entities ≡ true → slice_get entities (entity_number entities n) ≡ Some n
numbered entities n h =
    let place = among_found n entities h in
    let r = found _ entities place.0 place.1 in
    subst (λ k. slice_get entities k ≡ Some n) (sym (ap number_or_zero place.1)) (r.1 ∙ ap Some (same_bytes r.0 n r.2))

module _ (schema : Schema) (entities : List (List ℕ)) (named : map entity_name schema.entities ≡ entities) where
  entity_there : (n : List ℕ) → is_among n entities ≡ true → (entity : Entity) × (entity_at schema (entity_number entities n) ≡ Some entity) × (entity.name ≡ n)
  entity_there n h = map_back entity_name schema.entities (entity_number entities n) n (subst (λ ns. slice_get ns (entity_number entities n) ≡ Some n) (sym named) (numbered entities n h))

  -- ---- keys

  type_of_key : (of : WrittenType) → IsTyped entities of → IsKeyType schema (key_type entities of)
  type_of_key k.Int h = tt
  type_of_key k.Text h = tt
  type_of_key (k.Entity n) h = let r = entity_there n h in in_range schema.entities (entity_number entities n) r.0 r.1

  types_of_keys : (keys : List Key) (properties : List WrittenProperty) → IsOwner entities keys properties → AreKeyTypes schema (key_types entities keys)
  types_of_keys keys properties is = (
    subst (λ n. n ≤ 3) (sym (map_length (λ (key : Key). key_type entities key.of) keys)) is.few,
    All-from_recursion (IsKeyType schema) (key_types entities keys) (mapped_hold (IsKeyType schema) (λ (key : Key). key_type entities key.of) (λ (key : Key). type_of_key key.of) keys is.typed),
  )

  no_types : AreKeyTypes schema []
  no_types = (lit≤ tt, All-nil (IsKeyType schema))

  own_type : (n : List ℕ) → is_among n entities ≡ true → AreKeyTypes schema (type.Id (entity_number entities n) ∷ [])
  own_type n h = (lit≤ tt, All-from_recursion (IsKeyType schema) (type.Id (entity_number entities n) ∷ []) (type_of_key (k.Entity n) h, tt))

  abbrev IsKeyed : Property → Type 0
  IsKeyed p = AreKeyTypes schema p.keys × AreOwnersKeys p.owner p.keys

  globals_keyed : (x : Declaration) → AllByRecursion IsKeyed (globals_in x)
  globals_keyed (d.Global p) = ((no_types, refl), tt)
  globals_keyed (d.Array n keys properties) = tt
  globals_keyed (d.Entity n keys properties) = tt

  owned_keyed : (x : Declaration) → IsFine entities x → AllByRecursion IsKeyed (owned_in entities x)
  owned_keyed (d.Global p) h = tt
  owned_keyed (d.Array n keys properties) h = all_mapped IsKeyed (property (owner.Array n) (key_types entities keys)) (λ p. (types_of_keys keys properties h, tt)) properties
  owned_keyed (d.Entity n keys properties) h = all_mapped IsKeyed (property (owner.Entity (entity_number entities n)) (type.Id (entity_number entities n) ∷ [])) (λ p. (own_type n h.1, refl)) properties

  entities_keyed : (x : Declaration) → IsFine entities x → AllByRecursion (λ (e : Entity). AreKeyTypes schema e.keys) (entities_in entities x)
  entities_keyed (d.Global p) h = tt
  entities_keyed (d.Array n keys properties) h = tt
  entities_keyed (d.Entity n keys properties) h = (types_of_keys keys properties h.0, tt)

  all_keyed : (ds : List Declaration) → AllByRecursion (IsFine entities) ds → AllByRecursion IsKeyed (flat_map globals_in ds ++ flat_map (owned_in entities) ds)
  all_keyed ds h = joined_hold IsKeyed (flat_map globals_in ds) (flat_map (owned_in entities) ds) (flat_hold IsKeyed globals_in (λ x h. globals_keyed x) ds h) (flat_hold IsKeyed (owned_in entities) owned_keyed ds h)

  -- ---- properties that differ

  abbrev SameProperty : Property → Property → Type 0
  SameProperty p q = (owner_name schema p.owner ≡ owner_name schema q.owner) × (p.name ≡ q.name)

  abbrev IsOwned : List ℕ → Property → Type 0
  IsOwned name p = owner_name schema p.owner ≡ Some name

  owned_named : (x : Declaration) → IsFine entities x → AllByRecursion (IsOwned (declared_name x)) (owned_in entities x)
  owned_named (d.Global p) h = tt
  owned_named (d.Array n keys properties) h = all_mapped (IsOwned n) (property (owner.Array n) (key_types entities keys)) (λ p. refl) properties
  owned_named (d.Entity n keys properties) h =
      let r = entity_there n h.1 in
      all_mapped (IsOwned n) (property (owner.Entity (entity_number entities n)) (type.Id (entity_number entities n) ∷ [])) (λ p. ap (λ found. Some (option_map_or entity_name found [])) r.1 ∙ ap Some r.2) properties

  one_owner_apart : (of : Owner) (types : List KeyType) (properties : List WrittenProperty) → Differ (names_of properties) → AreApart SameProperty (map (property of types) properties)
  one_owner_apart of types [] h = tt
  one_owner_apart of types (p ∷ properties) h = (
    mapped_hold (λ q. ¬ SameProperty q (property of types p)) (property of types) (λ q other same. other same.1) properties (hold_mapped (λ name. ¬ (name ≡ p.name)) (λ (q : WrittenProperty). q.name) properties h.0),
    one_owner_apart of types properties h.1,
  )

  owned_apart : (x : Declaration) → IsFine entities x → AreApart SameProperty (owned_in entities x)
  owned_apart (d.Global p) h = tt
  owned_apart (d.Array n keys properties) h = one_owner_apart (owner.Array n) (key_types entities keys) properties h.differ
  owned_apart (d.Entity n keys properties) h = one_owner_apart (owner.Entity (entity_number entities n)) (type.Id (entity_number entities n) ∷ []) properties h.0.differ

  -- what stands apart from a declaration by its name
  abbrev IsApart : List ℕ → Declaration → Type 0
  IsApart name y = IsFine entities y × (¬ (declared_name y ≡ name))

  other_owner : (name : List ℕ) (p : Property) → IsOwned name p → (y : Declaration) → IsApart name y → AllByRecursion (λ q. ¬ SameProperty q p) (owned_in entities y)
  other_owner name p of y h = weaker (λ q of_q same. h.1 (let e : Some (declared_name y) ≡ Some name = sym of_q ∙ same.0 ∙ of in cc)) (owned_in entities y) (owned_named y h.0)

  all_owned_apart : (ds : List Declaration) → AllByRecursion (IsFine entities) ds → Differ (declared_names ds) → AreApart SameProperty (flat_map (owned_in entities) ds)
  all_owned_apart [] h e = tt
  all_owned_apart (x ∷ ds) h e =
      let others = both_hold (IsFine entities) (λ y. ¬ (declared_name y ≡ declared_name x)) ds h.1 (hold_mapped (λ name. ¬ (name ≡ declared_name x)) declared_name ds e.0) in
      joined_apart SameProperty (owned_in entities x) (flat_map (owned_in entities) ds) (owned_apart x h.0) (all_owned_apart ds h.1 e.1)
      (weaker (λ p of. flat_hold (λ q. ¬ SameProperty q p) (owned_in entities) (other_owner (declared_name x) p of) ds others) (owned_in entities x) (owned_named x h.0))

  abbrev IsGlobal : List ℕ → Property → Type 0
  IsGlobal name p = (owner_name schema p.owner ≡ None) × (p.name ≡ name)

  globals_named : (x : Declaration) → AllByRecursion (IsGlobal (declared_name x)) (globals_in x)
  globals_named (d.Global p) = ((refl, refl), tt)
  globals_named (d.Array n keys properties) = tt
  globals_named (d.Entity n keys properties) = tt

  globals_apart : (x : Declaration) → AreApart SameProperty (globals_in x)
  globals_apart (d.Global p) = (tt, tt)
  globals_apart (d.Array n keys properties) = tt
  globals_apart (d.Entity n keys properties) = tt

  other_global : (name : List ℕ) (p : Property) → IsGlobal name p → (y : Declaration) → (¬ (declared_name y ≡ name)) → AllByRecursion (λ q. ¬ SameProperty q p) (globals_in y)
  other_global name p of y other = weaker (λ q of_q same. other (sym of_q.1 ∙ same.1 ∙ of.1)) (globals_in y) (globals_named y)

  all_globals_apart : (ds : List Declaration) → Differ (declared_names ds) → AreApart SameProperty (flat_map globals_in ds)
  all_globals_apart [] e = tt
  all_globals_apart (x ∷ ds) e =
      joined_apart SameProperty (globals_in x) (flat_map globals_in ds) (globals_apart x) (all_globals_apart ds e.1)
      (weaker (λ p of. flat_hold (λ q. ¬ SameProperty q p) globals_in (other_global (declared_name x) p of) ds (hold_mapped (λ name. ¬ (name ≡ declared_name x)) declared_name ds e.0)) (globals_in x) (globals_named x))

  no_global : (p : Property) → owner_name schema p.owner ≡ None → (y : Declaration) → IsFine entities y → AllByRecursion (λ q. ¬ SameProperty q p) (owned_in entities y)
  no_global p of y h = weaker (λ q of_q same. let e : Some (declared_name y) ≡ None = sym of_q ∙ same.0 ∙ of in cc) (owned_in entities y) (owned_named y h)

  all_apart : (ds : List Declaration) → AllByRecursion (IsFine entities) ds → Differ (declared_names ds) → AreApart SameProperty (flat_map globals_in ds ++ flat_map (owned_in entities) ds)
  all_apart ds h e = joined_apart SameProperty (flat_map globals_in ds) (flat_map (owned_in entities) ds) (all_globals_apart ds e) (all_owned_apart ds h e)
      (flat_hold (λ p. AllByRecursion (λ q. ¬ SameProperty q p) (flat_map (owned_in entities) ds)) globals_in (λ x fine. weaker (λ p of. flat_hold (λ q. ¬ SameProperty q p) (owned_in entities) (no_global p of.0) ds h) (globals_in x) (globals_named x)) ds h)

-- ---- names

abbrev HasFitWords : Declaration → Type 0
HasFitWords x = AllByRecursion IsFitWord (declaration_words x)

abbrev HasNames : Property → Type 0
HasNames p = IsName p.name × HasName p.owner

fit_declarations : (ds : List Declaration) → AllByRecursion IsFitWord (flat_map declaration_words ds) → AllByRecursion HasFitWords ds
fit_declarations [] w = tt
fit_declarations (x ∷ ds) w = let two = both_parts IsFitWord (declaration_words x) (flat_map declaration_words ds) w in (two.0, fit_declarations ds two.1)

fit_properties : (properties : List WrittenProperty) → AllByRecursion IsFitWord (flat_map property_words properties) → AllByRecursion (λ (p : WrittenProperty). IsName p.name) properties
fit_properties [] w = tt
fit_properties (p ∷ properties) w = (w.0.0, fit_properties properties w.1)

globals_told : (x : Declaration) → HasFitWords x → AllByRecursion HasNames (globals_in x)
globals_told (d.Global p) w = ((w.0.0, tt), tt)
globals_told (d.Array n keys properties) w = tt
globals_told (d.Entity n keys properties) w = tt

owned_told : (entities : List (List ℕ)) (x : Declaration) → HasFitWords x → AllByRecursion HasNames (owned_in entities x)
owned_told entities (d.Global p) w = tt
owned_told entities (d.Array n keys properties) w = mapped_hold HasNames (property (owner.Array n) (key_types entities keys)) (λ p is. (is, w.0.0)) properties (fit_properties properties (both_parts IsFitWord (flat_map key_words keys) _ w.1).1)
owned_told entities (d.Entity n keys properties) w = mapped_hold HasNames (property (owner.Entity (entity_number entities n)) (type.Id (entity_number entities n) ∷ [])) (λ p is. (is, tt)) properties (fit_properties properties (both_parts IsFitWord (flat_map key_words keys) _ w.1).1)

entities_told : (entities : List (List ℕ)) (x : Declaration) → HasFitWords x → AllByRecursion (λ (e : Entity). IsName e.name) (entities_in entities x)
entities_told entities (d.Global p) w = tt
entities_told entities (d.Array n keys properties) w = tt
entities_told entities (d.Entity n keys properties) w = (w.0.0, tt)

entities_among : (P : List ℕ → Type 0) (ds : List Declaration) → AllByRecursion P (declared_names ds) → AllByRecursion P (entity_names ds)
entities_among P [] h = tt
entities_among P (d.Global p ∷ ds) h = entities_among P ds h.1
entities_among P (d.Array n keys properties ∷ ds) h = entities_among P ds h.1
entities_among P (d.Entity n keys properties ∷ ds) h = (h.0, entities_among P ds h.1)

entities_differ : (ds : List Declaration) → Differ (declared_names ds) → Differ (entity_names ds)
entities_differ [] h = tt
entities_differ (d.Global p ∷ ds) h = entities_differ ds h.1
entities_differ (d.Array n keys properties ∷ ds) h = entities_differ ds h.1
entities_differ (d.Entity n keys properties ∷ ds) h = (entities_among (λ y. ¬ (y ≡ n)) ds h.0, entities_differ ds h.1)

-- ---- schemas

pub declared_schema : (ds : List Declaration) → names_count ds ≤ 256 → AreEmpty (rules_from [] ds) → IsSchema (schema_of ds)
declared_schema ds few h =
    let entities = entity_names ds in
    let schema = schema_of ds in
    let named = names_are entities ds in
    let fine = declared_fine [] ds h in
    let keyed = all_keyed schema entities named ds fine in
    record {
      few_properties = omega (arith, few, few_properties entities ds, length-append (flat_map globals_in ds) (flat_map (owned_in entities) ds));
      few_entities = omega (arith, few, few_entities ds, map_length entity_name schema.entities, ap length named);
      property_keys = All-from_recursion (λ (p : Property). AreKeyTypes schema p.keys) schema.properties (weaker (λ (p : Property) is. is.0) schema.properties keyed);
      owners_keys = All-from_recursion (λ (p : Property). AreOwnersKeys p.owner p.keys) schema.properties (weaker (λ (p : Property) is. is.1) schema.properties keyed);
      entity_keys = All-from_recursion (λ (e : Entity). AreKeyTypes schema e.keys) schema.entities (flat_hold (λ (e : Entity). AreKeyTypes schema e.keys) (entities_in entities) (entities_keyed schema entities named) ds fine);
    }

pub declared_told : (ds : List Declaration) → AllByRecursion IsFitWord (flat_map declaration_words ds) → AreEmpty (rules_from [] ds) → IsTold (schema_of ds)
declared_told ds w h =
    let entities = entity_names ds in
    let schema = schema_of ds in
    let named = names_are entities ds in
    let fine = declared_fine [] ds h in
    let fit = fit_declarations ds w in
    let differ = declared_differ [] ds tt h in
    record {
      properties = All-from_recursion HasNames schema.properties (joined_hold HasNames (flat_map globals_in ds) (flat_map (owned_in entities) ds) (flat_hold HasNames globals_in globals_told ds fit) (flat_hold HasNames (owned_in entities) (owned_told entities) ds fit));
      entities = All-from_recursion (λ (e : Entity). IsName e.name) schema.entities (flat_hold (λ (e : Entity). IsName e.name) (entities_in entities) (entities_told entities) ds fit);
      properties_differ = λ a b p q at_a at_b same_owner same_name. apart_at (SameProperty schema entities named) (λ p q same. (sym same.0, sym same.1)) schema.properties a b p q (all_apart schema entities named ds fine differ) at_a at_b (same_owner, same_name);
      entities_differ = λ a b e f at_a at_b same.
          differ_at (map entity_name schema.entities) a b f.name (subst Differ (sym named) (entities_differ ds differ)) (map_at entity_name schema.entities a e at_a ∙ ap Some same) (map_at entity_name schema.entities b f at_b);
    }
