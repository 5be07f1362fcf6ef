-- Declarations with few names give few entities and properties.
use Rattle.std.proofs.Common.{◌≡◌, ℕ, ◌+◌, ◌≤◌, List, [], ◌∷◌, ◌++◌, length, map, arith, length-append, ap, ◌∙◌}
use Rattle.std.proofs.lemmas.List.{length-map}
use Rattle.std.specs.Prelude.{fold}
use Rattle.std.specs.List.{flat_map}
use Rattle.cloud_base.specs.declared.schema.Schema.{Schema}
use Rattle.source_tree.specs.declared.program.Declaration.{Declaration}
use Rattle.source_tree.specs.declared.program.Declaration.TheVariants as d
use Rattle.source_tree.specs.Limits.{names_in, names_count, most_names}
use Rattle.kind_rules.specs.Declarations.{entity_names, globals_in, owned_in, entities_in, schema_of}

added : (n : ℕ) (ns : List ℕ) → fold ◌+◌ n ns ≡ n + fold ◌+◌ 0 ns
added n [] = omega arith
added n (m ∷ ns) = omega (arith, added (n + m) ns, added (0 + m) ns)

counted : (one : Declaration) (ds : List Declaration) → names_count (one ∷ ds) ≡ names_in one + names_count ds
counted one ds = added (0 + names_in one) (map names_in ds) ∙ omega arith

pub names_few : (ds : List Declaration) → length (entity_names ds) ≤ names_count ds
names_few [] = omega arith
names_few (d.Global p ∷ ds) = omega (arith, names_few ds, counted (d.Global p) ds)
names_few (d.Array n keys properties ∷ ds) = omega (arith, names_few ds, counted (d.Array n keys properties) ds)
names_few (d.Entity n keys properties ∷ ds) = omega (arith, names_few ds, counted (d.Entity n keys properties) ds)

few_of_each : {A : Type 0} (f : Declaration → List A) → ((one : Declaration) → length (f one) ≤ names_in one) → (ds : List Declaration) → length (flat_map f ds) ≤ names_count ds
few_of_each f each [] = omega arith
few_of_each f each (one ∷ ds) = omega (arith, each one, few_of_each f each ds, counted one ds, length-append (f one) (flat_map f ds))

entities_of_one : (names : List (List ℕ)) (one : Declaration) → length (entities_in names one) ≤ names_in one
entities_of_one names (d.Global p) = omega arith
entities_of_one names (d.Array n keys properties) = omega arith
entities_of_one names (d.Entity n keys properties) = omega arith

entities_few : (names : List (List ℕ)) (ds : List Declaration) → length (flat_map (entities_in names) ds) ≤ names_count ds
entities_few names ds = few_of_each (entities_in names) (entities_of_one names) ds

properties_of_one : (names : List (List ℕ)) (one : Declaration) → length (globals_in one) + length (owned_in names one) ≤ names_in one
properties_of_one names (d.Global p) = omega arith
properties_of_one names (d.Array n keys properties) = simp length-map (omega arith)
properties_of_one names (d.Entity n keys properties) = simp length-map (omega arith)

properties_few : (names : List (List ℕ)) (ds : List Declaration) → length (flat_map globals_in ds ++ flat_map (owned_in names) ds) ≤ names_count ds
properties_few names [] = omega arith
properties_few names (one ∷ ds) =
    omega (
      arith,
      properties_of_one names one,
      properties_few names ds,
      counted one ds,
      length-append (globals_in one ++ flat_map globals_in ds) (owned_in names one ++ flat_map (owned_in names) ds),
      length-append (globals_in one) (flat_map globals_in ds),
      length-append (owned_in names one) (flat_map (owned_in names) ds),
      length-append (flat_map globals_in ds) (flat_map (owned_in names) ds),
    )

pub made_properties_few : (schema : Schema) (ds : List Declaration) → schema ≡ schema_of ds → names_count ds ≤ most_names → length schema.properties ≤ 256
made_properties_few schema ds is few = omega (arith, few, properties_few (entity_names ds) ds, ap (λ (s : Schema). length s.properties) is)

pub made_entities_few : (schema : Schema) (ds : List Declaration) → schema ≡ schema_of ds → names_count ds ≤ most_names → length schema.entities ≤ 256
made_entities_few schema ds is few = omega (arith, few, entities_few (entity_names ds) ds, ap (λ (s : Schema). length s.entities) is)

-- the schema of declarations with few names
pub ruleset made_few = (made_properties_few, made_entities_few)
