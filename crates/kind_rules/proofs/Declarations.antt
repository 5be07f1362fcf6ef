-- Declarations in which no rule fails: their names differ, and keys have their types.
use Rattle.std.proofs.Common.{◌≡◌, refl, sym, ap, subst, append_assoc, append-nil}
use Rattle.std.proofs.lemmas.Bool.{or_parts, not-true, leb-true}
use Rattle.std.proofs.lemmas.List.{map-append}
use Rattle.std.specs.Prelude.{ℕ, ◌≤◌, not, true, false, ◌||◌, List, [], ◌∷◌, ◌++◌, length, map, nat_le}
use Rattle.std.specs.List.{AllByRecursion, flat_map}
use Rattle.source_tree.specs.declared.program.Declaration.{Declaration}
use Rattle.source_tree.specs.declared.program.Declaration.TheVariants as d
use Rattle.source_tree.specs.declared.program.Key.{Key}
use Rattle.source_tree.specs.declared.program.KeyType.{KeyType as WrittenType}
use Rattle.source_tree.specs.declared.program.KeyType.TheVariants as k
use Rattle.source_tree.specs.declared.program.Property.{Property as WrittenProperty}
use Rattle.kind_rules.specs.Names.{is_among, is_repeated}
use Rattle.kind_rules.specs.Declarations.{declared_name, declared_names, entity_names, own_names, type_rules, name_rules, owner_rules, declaration_rules, rules_from}
use Rattle.kind_rules.proofs.Apart.{Differ, not_repeated, last_apart, one_more_differs, among_left, among_right, among_here}
use Rattle.kind_rules.proofs.Rules.{none_of_two, holds}

-- no rule fails
abbrev pub AreEmpty : List (List ℕ) → Type 0
AreEmpty rules = AllByRecursion (λ (r : List ℕ). r ≡ []) rules

-- the entity of a key's type is declared
abbrev pub IsTyped : List (List ℕ) → WrittenType → Type 0
IsTyped entities k.Int = Unit {0}
IsTyped entities k.Text = Unit {0}
IsTyped entities (k.Entity n) = is_among n entities ≡ true

abbrev pub names_of : List WrittenProperty → List (List ℕ)
names_of properties = map (λ (p : WrittenProperty). p.name) properties

pub record IsOwner (entities : List (List ℕ)) (keys : List Key) (properties : List WrittenProperty) : Type 0 where
  pub few : length keys ≤ 3
  pub typed : AllByRecursion (λ (key : Key). IsTyped entities key.of) keys
  pub differ : Differ (names_of properties)

abbrev pub IsFine : List (List ℕ) → Declaration → Type 0
IsFine entities (d.Global p) = Unit {0}
IsFine entities (d.Array n keys properties) = IsOwner entities keys properties
IsFine entities (d.Entity n keys properties) = IsOwner entities keys properties × (is_among n entities ≡ true)

-- each name of some is among others
abbrev AreAmong : List (List ℕ) → List (List ℕ) → Type 0
AreAmong some others = (n : List ℕ) → is_among n some ≡ true → is_among n others ≡ true

type_fine : (some entities : List (List ℕ)) → AreAmong some entities → (of : WrittenType) → type_rules some of ≡ [] → IsTyped entities of
type_fine some entities more k.Int h = tt
type_fine some entities more k.Text h = tt
type_fine some entities more (k.Entity n) h = more n (holds (is_among n some) 3 h)

types_fine : (some entities : List (List ℕ)) → AreAmong some entities → (keys : List Key) → flat_map (λ (key : Key). type_rules some key.of) keys ≡ [] → AllByRecursion (λ (key : Key). IsTyped entities key.of) keys
types_fine some entities more [] h = tt
types_fine some entities more (key ∷ keys) h = let two = none_of_two (type_rules some key.of) _ h in (type_fine some entities more key.of two.0, types_fine some entities more keys two.1)

-- a declared name isn't taken, and names in it differ
name_fine : (earlier : List Declaration) (n : List ℕ) (own : List (List ℕ)) → name_rules earlier n own ≡ [] → (is_among n (declared_names earlier) ≡ false) × (is_repeated own ≡ false)
name_fine earlier n own h = or_parts _ _ (not-true _ (holds (not (is_among n (declared_names earlier) || is_repeated own)) 1 h))

owner_fine : (earlier : List Declaration) (entities : List (List ℕ)) → AreAmong (entity_names earlier) entities → (n : List ℕ) (keys : List Key) (properties : List WrittenProperty) → owner_rules earlier n keys properties ≡ [] → IsOwner entities keys properties
owner_fine earlier entities more n keys properties h =
    let two = none_of_two (name_rules earlier n (own_names keys properties)) _ h in
    let three = none_of_two (flat_map (λ (key : Key). type_rules (entity_names earlier) key.of) keys) _ two.1 in
    record {
      few = leb-true _ _ (holds (nat_le (length keys) 3) 4 three.1);
      typed = types_fine (entity_names earlier) entities more keys three.0;
      differ = last_apart (λ x y. x ≡ y) (map (λ (key : Key). key.name) keys) (names_of properties) (not_repeated (own_names keys properties) (name_fine earlier n (own_names keys properties) two.0).1);
    }

names_joined : (xs ys : List Declaration) → entity_names (xs ++ ys) ≡ entity_names xs ++ entity_names ys
names_joined [] ys = refl
names_joined (d.Global p ∷ xs) ys = names_joined xs ys
names_joined (d.Array n keys properties ∷ xs) ys = names_joined xs ys
names_joined (d.Entity n keys properties ∷ xs) ys = ap (λ ns. n ∷ ns) (names_joined xs ys)

one_fine : (earlier : List Declaration) (x : Declaration) (ds : List Declaration) → declaration_rules earlier x ≡ [] → IsFine (entity_names (earlier ++ x ∷ ds)) x
one_fine earlier x ds h = by x h
  where
    more : (y : Declaration) → AreAmong (entity_names earlier) (entity_names (earlier ++ y ∷ ds))
    more y n e = subst (λ ns. is_among n ns ≡ true) (sym (names_joined earlier (y ∷ ds))) (among_left n (entity_names earlier) (entity_names (y ∷ ds)) e)

    by : (y : Declaration) → declaration_rules earlier y ≡ [] → IsFine (entity_names (earlier ++ y ∷ ds)) y
    by (d.Global p) h = tt
    by (d.Array n keys properties) h = owner_fine earlier _ (more (d.Array n keys properties)) n keys properties h
    by (d.Entity n keys properties) h = (
      owner_fine earlier _ (more (d.Entity n keys properties)) n keys properties h,
      subst (λ ns. is_among n ns ≡ true) (sym (names_joined earlier (d.Entity n keys properties ∷ ds))) (among_right n (entity_names earlier) (n ∷ entity_names ds) (among_here n (entity_names ds))),
    )

pub declared_fine : (earlier ds : List Declaration) → AreEmpty (rules_from earlier ds) → AllByRecursion (IsFine (entity_names (earlier ++ ds))) ds
declared_fine earlier [] h = tt
declared_fine earlier (x ∷ ds) h = (one_fine earlier x ds h.0, subst (λ l. AllByRecursion (IsFine (entity_names l)) ds) (append_assoc earlier (x ∷ []) ds) (declared_fine (earlier ++ x ∷ []) ds h.1))

fresh : (earlier : List Declaration) (x : Declaration) → declaration_rules earlier x ≡ [] → is_among (declared_name x) (declared_names earlier) ≡ false
fresh earlier (d.Global p) h = (name_fine earlier p.name [] h).0
fresh earlier (d.Array n keys properties) h = (name_fine earlier n (own_names keys properties) (none_of_two (name_rules earlier n (own_names keys properties)) _ h).0).0
fresh earlier (d.Entity n keys properties) h = (name_fine earlier n (own_names keys properties) (none_of_two (name_rules earlier n (own_names keys properties)) _ h).0).0

pub declared_differ : (earlier ds : List Declaration) → Differ (declared_names earlier) → AreEmpty (rules_from earlier ds) → Differ (declared_names (earlier ++ ds))
declared_differ earlier [] d h = subst (λ l. Differ (declared_names l)) (sym (append-nil earlier)) d
declared_differ earlier (x ∷ ds) d h =
    subst (λ l. Differ (declared_names l)) (append_assoc earlier (x ∷ []) ds) (declared_differ (earlier ++ x ∷ []) ds (subst Differ (sym (map-append declared_name earlier (x ∷ []))) (one_more_differs (declared_names earlier) (declared_name x) d (fresh earlier x h.0))) h.1)
