-- The lowest rule that fails at a declaration.
use Rattle.std.proofs.Common.{◌≡◌, ℕ, ◌≤◌, ◌<◌, Bool, true, false, not, List, [], ◌∷◌, ◌++◌, length, arith, refl, ap, sym, ◌∙◌, Some, None, lit≤}
use Rattle.std.specs.Prelude.{◌||◌, nat_le}
use Rattle.std.specs.List.{AllByRecursion}
use Rattle.std.specs.Str.{bytes_eq}
use Rattle.std.proofs.lemmas.Bool.Decides.{nat_tests}
use Rattle.cloud_base.specs.Values.{most_keys}
use Rattle.source_tree.specs.declared.program.Declaration.{Declaration}
use Rattle.source_tree.specs.declared.program.Declaration.TheVariants as d
use Rattle.source_tree.specs.declared.program.Key.{Key}
use Rattle.source_tree.specs.declared.program.KeyType.{KeyType}
use Rattle.source_tree.specs.declared.program.KeyType.TheVariants as k
use Rattle.source_tree.specs.declared.program.Property.{Property}
use Rattle.kind_rules.specs.Names.{is_among, is_repeated}
use Rattle.kind_rules.specs.Expressions.{unless}
use Rattle.kind_rules.specs.Answers.{lowest, lowest_rule}
use Rattle.kind_rules.specs.Declarations.{entity_names, declared_names, own_names, type_rules, owner_rules}
use Rattle.kind_declarations.specs.Rules.{types_rules}

or_assoc : (a b c : Bool) → (a || (b || c)) ≡ ((a || b) || c)
or_assoc true b c = refl
or_assoc false b c = refl

or_false : (b : Bool) → b ≡ (b || false)
or_false true = refl
or_false false = refl

-- an entity with a name is the first of some declarations, or stands behind it
pub entity_next : (name : List ℕ) (one : Declaration) (ds : List Declaration) → is_among name (entity_names (one ∷ ds)) ≡ (is_among name (entity_names (one ∷ [])) || is_among name (entity_names ds))
entity_next name (d.Global p) ds = refl
entity_next name (d.Array n keys properties) ds = refl
entity_next name (d.Entity n keys properties) ds = ap (λ b. b || is_among name (entity_names ds)) (or_false (bytes_eq n name))

abbrev AreAbove : ℕ → List ℕ → Type 0
AreAbove rule rules = AllByRecursion (λ r. rule ≤ r) rules

stays : (rule : ℕ) (rules : List ℕ) → AreAbove rule rules → lowest rule rules ≡ rule
stays rule [] above = refl
stays rule (r ∷ rules) above = ap (λ x. lowest x rules) (omega (arith, above.0)) ∙ stays rule rules above.1

above_both : (rule : ℕ) (a b : List ℕ) → AreAbove rule a → AreAbove rule b → AreAbove rule (a ++ b)
above_both rule [] b h k = k
above_both rule (r ∷ a) b h k = (h.0, above_both rule a b h.1 k)

above_unless : (rule low : ℕ) (b : Bool) → low ≤ rule → AreAbove low (unless b rule)
above_unless rule low true h = tt
above_unless rule low false h = (h, tt)

above_type : (low : ℕ) (entities : List (List ℕ)) (of : KeyType) → low ≤ 3 → AreAbove low (type_rules entities of)
above_type low entities k.Int h = tt
above_type low entities k.Text h = tt
above_type low entities (k.Entity n) h = above_unless 3 low (is_among n entities) h

above_types : (low : ℕ) (entities : List (List ℕ)) (keys : List Key) → low ≤ 3 → AreAbove low (types_rules entities keys)
above_types low entities [] h = tt
above_types low entities (key ∷ keys) h = above_both low (type_rules entities key.of) (types_rules entities keys) (above_type low entities key.of h) (above_types low entities keys h)

-- a name among two lists is in one of them
pub among_both : (name : List ℕ) (a b : List (List ℕ)) → is_among name (a ++ b) ≡ (is_among name a || is_among name b)
among_both name [] b = refl
among_both name (x ∷ a) b = ap (λ c. bytes_eq x name || c) (among_both name a b) ∙ or_assoc (bytes_eq x name) (is_among name a) (is_among name b)

taken_first : (taken : Bool) (rest : List ℕ) → taken ≡ true → AreAbove 1 rest → Some 1 ≡ lowest_rule (unless (not taken) 1 ++ rest)
taken_first true rest e above = ap Some (sym (stays 1 rest above))
taken_first false rest e above = absurd (cc e)

-- a name that is taken, or stands twice
pub owner_taken : (earlier : List Declaration) (n : List ℕ) (keys : List Key) (properties : List Property) → (is_among n (declared_names earlier) || is_repeated (own_names keys properties)) ≡ true
    → Some 1 ≡ lowest_rule (owner_rules earlier n keys properties)
owner_taken earlier n keys properties e =
    taken_first _ _ e (above_both 1 (types_rules (entity_names earlier) keys) (unless (nat_le (length keys) most_keys) 4)
    (above_types 1 (entity_names earlier) keys (lit≤ tt)) (above_unless 4 1 (nat_le (length keys) most_keys) (lit≤ tt)))

behind_names : (taken : Bool) (rest : List ℕ) → taken ≡ false → unless (not taken) 1 ++ rest ≡ rest
behind_names true rest e = absurd (cc e)
behind_names false rest e = refl

three_first : (rules rest : List ℕ) → AllByRecursion (λ r. r ≡ 3) rules → (rules ≡ [] → ⊥) → AreAbove 3 (rules ++ rest) → Some 3 ≡ lowest_rule (rules ++ rest)
three_first [] rest all some above = absurd (some refl)
three_first (r ∷ rules) rest all some above =
    sym (ap (λ x. Some (lowest x (rules ++ rest))) all.0 ∙ ap Some (stays 3 (rules ++ rest) above.1))

all_both : {A : Type 0} (P : A → Type 0) (a b : List A) → AllByRecursion P a → AllByRecursion P b → AllByRecursion P (a ++ b)
all_both P [] b h k = k
all_both P (x ∷ a) b h k = (h.0, all_both P a b h.1 k)

three_or_none : (b : Bool) → AllByRecursion (λ r. r ≡ 3) (unless b 3)
three_or_none true = tt
three_or_none false = (refl, tt)

three_of_type : (entities : List (List ℕ)) (of : KeyType) → AllByRecursion (λ r. r ≡ 3) (type_rules entities of)
three_of_type entities k.Int = tt
three_of_type entities k.Text = tt
three_of_type entities (k.Entity n) = three_or_none (is_among n entities)

all_three : (entities : List (List ℕ)) (keys : List Key) → AllByRecursion (λ r. r ≡ 3) (types_rules entities keys)
all_three entities [] = tt
all_three entities (key ∷ keys) = all_both (λ r. r ≡ 3) (type_rules entities key.of) (types_rules entities keys) (three_of_type entities key.of) (all_three entities keys)

-- a key of a type that is no earlier entity
pub owner_type : (earlier : List Declaration) (n : List ℕ) (keys : List Key) (properties : List Property) → (is_among n (declared_names earlier) || is_repeated (own_names keys properties)) ≡ false
    → (types_rules (entity_names earlier) keys ≡ [] → ⊥) → Some 3 ≡ lowest_rule (owner_rules earlier n keys properties)
owner_type earlier n keys properties e some =
    three_first (types_rules (entity_names earlier) keys) (unless (nat_le (length keys) most_keys) 4) (all_three (entity_names earlier) keys) some
    (above_both 3 (types_rules (entity_names earlier) keys) (unless (nat_le (length keys) most_keys) 4)
    (above_types 3 (entity_names earlier) keys (lit≤ tt)) (above_unless 4 3 (nat_le (length keys) most_keys) (lit≤ tt)))
    ∙ ap lowest_rule (sym (behind_names _ (types_rules (entity_names earlier) keys ++ unless (nat_le (length keys) most_keys) 4) e))

behind_types : (earlier : List Declaration) (n : List ℕ) (keys : List Key) (properties : List Property) → (is_among n (declared_names earlier) || is_repeated (own_names keys properties)) ≡ false
    → types_rules (entity_names earlier) keys ≡ [] → owner_rules earlier n keys properties ≡ unless (nat_le (length keys) most_keys) 4
behind_types earlier n keys properties e none =
    behind_names _ (types_rules (entity_names earlier) keys ++ unless (nat_le (length keys) most_keys) 4) e
    ∙ ap (λ rules. rules ++ unless (nat_le (length keys) most_keys) 4) none

-- too many keys
pub owner_count : (earlier : List Declaration) (n : List ℕ) (keys : List Key) (properties : List Property) → (is_among n (declared_names earlier) || is_repeated (own_names keys properties)) ≡ false
    → types_rules (entity_names earlier) keys ≡ [] → most_keys < length keys → Some 4 ≡ lowest_rule (owner_rules earlier n keys properties)
owner_count earlier n keys properties e none many =
    let test : nat_le (length keys) most_keys ≡ false = grind (arith, nat_tests) in
    sym (ap lowest_rule (behind_types earlier n keys properties e none ∙ ap (λ b. unless b 4) test))

-- no rule fails
pub owner_fine : (earlier : List Declaration) (n : List ℕ) (keys : List Key) (properties : List Property) → (is_among n (declared_names earlier) || is_repeated (own_names keys properties)) ≡ false
    → types_rules (entity_names earlier) keys ≡ [] → length keys ≤ most_keys → None ≡ lowest_rule (owner_rules earlier n keys properties)
owner_fine earlier n keys properties e none few =
    let test : nat_le (length keys) most_keys ≡ true = grind (arith, nat_tests) in
    sym (ap lowest_rule (behind_types earlier n keys properties e none ∙ ap (λ b. unless b 4) test))

pub ruleset owners = (owner_taken, owner_type, owner_count, owner_fine)
