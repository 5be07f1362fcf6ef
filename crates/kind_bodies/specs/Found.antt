-- What comes of expressions and places as the checker holds it: of the rules that fail, the lowest one.
use Rattle.std.specs.Prelude.{ℕ, ◌==◌, Bool, min, List, [], length, ◌++◌, map, Option, Some, None, pos, ⊤}
use Rattle.std.specs.List.{AllByRecursion}
use Rattle.cloud_base.specs.Shaped.{property_at, cell_type}
use Rattle.cloud_base.specs.declared.schema.KeyType.{KeyType}
use Rattle.cloud_base.specs.declared.schema.Schema.{Schema}
use Rattle.source_tree.specs.Words.{words}
use Rattle.source_tree.specs.declared.expression.Expression.{Expression as Written}
use Rattle.source_tree.specs.declared.expression.Operator.{Operator}
use Rattle.source_tree.specs.declared.expression.Place.{Place}
use Rattle.source_tree.specs.declared.expression.Place.TheVariants as place
use Rattle.typed_program.specs.Kinds.{cell_kind, key_kind}
use Rattle.typed_program.specs.declared.expression.Expression.TheVariants as typed
use Rattle.typed_program.specs.declared.expression.Kind.{Kind}
use Rattle.typed_program.specs.declared.expression.Kind.TheVariants as kind
use Rattle.kind_rules.specs.Answers.{lowest_rule}
use Rattle.kind_rules.specs.Expressions.{Judged, Target as Targeted, unless, same_kind, fits, gives, combined, judge, judge_place, target, keys_of_property, mistyped, rules_in, typed_keys}
use Rattle.kind_rules.specs.Names.{Scope}
use Rattle.kind_rules.specs.Words.{IsFitWord}
use Rattle.kind_bodies.specs.declared.found.Found.{Found}
use Rattle.kind_bodies.specs.declared.found.Keys.{Keys}
use Rattle.kind_bodies.specs.declared.found.Target.{Target}

-- the lower one of two rules, each if it fails
abbrev pub lower : Option ℕ → Option ℕ → Option ℕ
lower None b = b
lower (Some a) None = Some a
lower (Some a) (Some b) = Some (min a b)

-- a rule that is asked only where no other fails
abbrev pub or_unless : Option ℕ → Bool → ℕ → Option ℕ
or_unless None holds rule = lowest_rule (unless holds rule)
or_unless (Some failed) holds rule = Some failed

abbrev pub told : Judged → Found
told a = record { rule = lowest_rule a.rules; kind = a.kind; typed = a.typed }

abbrev pub told_target : Targeted → Target
told_target t = record { rule = lowest_rule t.rules; property = t.property; keys = t.keys }

abbrev pub told_keys : List KeyType → List Judged → Keys
told_keys types keys = record { rule = lowest_rule (mistyped types keys ++ rules_in keys); typed = typed_keys keys }

-- the kind of a variable that stands for a key of a type
abbrev pub due_kind : Option KeyType → Kind
due_kind None = kind.Int
due_kind (Some type) = key_kind type

-- what is read at a place that names a property
abbrev pub read_found : Schema → Target → Option ℕ → Found
read_found schema t None = record { rule = t.rule; kind = kind.Int; typed = typed.Int (pos 0) }
read_found schema t (Some number) = record { rule = t.rule; kind = cell_kind (cell_type schema number); typed = typed.Get number t.keys }

abbrev pub minus_found : Found → Found
minus_found a = record { rule = or_unless a.rule (same_kind kind.Int a.kind) 7; kind = kind.Int; typed = typed.Minus a.typed }

abbrev pub not_found : Found → Found
not_found a = record { rule = or_unless a.rule (same_kind kind.Truth a.kind) 7; kind = kind.Truth; typed = typed.Not a.typed }

abbrev pub binary_found : Operator → Found → Found → Found
binary_found operator a b = record { rule = or_unless (lower a.rule b.rule) (fits operator a.kind b.kind) 7; kind = gives operator; typed = combined operator a.typed b.typed }

-- what comes of an expression
unfoldable pub judged : Scope → Written → Found
judged scope a = told (judge scope a)

-- of keys where keys of these types are due
unfoldable pub judged_keys : Scope → List KeyType → List Written → Keys
judged_keys scope types keys = told_keys types (map (judge scope) keys)

-- of a place
unfoldable pub targeted : Scope → Place Written → Target
targeted scope p = told_target (target scope (judge_place scope p))

-- the rule that fails at a key where one of a type is due, or where none is
abbrev pub key_rule : Option KeyType → Found → Option ℕ
key_rule None key = key.rule
key_rule (Some type) key = or_unless key.rule (same_kind (key_kind type) key.kind) 5

-- the types of the keys that are due where an array's property is found
abbrev pub due_types : Schema → Option ℕ → List KeyType
due_types schema None = []
due_types schema (Some number) = keys_of_property (property_at schema number)

-- an entry of an array, from what comes of its keys and how many they are
abbrev pub entry_found : Schema → Option ℕ → ℕ → Keys → Target
entry_found schema None count keys = record { rule = lower (Some 2) keys.rule; property = None; keys = [] }
entry_found schema (Some number) count keys = record { rule = lower (lowest_rule (unless (count == length (due_types schema (Some number))) 4)) keys.rule; property = Some number; keys = keys.typed }

-- the numbers and texts of an expression fit
unfoldable pub IsFit : Written → Type 0
IsFit a = AllByRecursion IsFitWord (words a)

unfoldable pub AreFit : List Written → Type 0
AreFit keys = AllByRecursion IsFit keys

-- the keys of a place fit
abbrev pub FitPlace : Place Written → Type 0
FitPlace (place.Name x) = ⊤
FitPlace (place.Field x p) = ⊤
FitPlace (place.Entry x keys p) = AreFit keys
