-- Which rules of kinds fail in an expression, and the typed expression that it is where none does.
-- Rules have their numbers: 2 what a name must be, 4 how many keys there are, 5 the kinds of keys, 7 the
-- kinds of operands.
use Rattle.std.specs.Prelude.{ℕ, ◌==◌, Bool, true, false, ◌&&◌, List, [], ◌∷◌, ◌++◌, length, map, zero, suc, Option, Some, None, if◌then◌else◌, pos}
use Rattle.std.specs.List.{flat_map}
use Rattle.cloud_base.specs.Shaped.{property_at, cell_type}
use Rattle.cloud_base.specs.declared.schema.KeyType.{KeyType}
use Rattle.cloud_base.specs.declared.schema.Owner.TheVariants as owner
use Rattle.cloud_base.specs.declared.schema.Property.{Property}
use Rattle.source_tree.specs.declared.expression.Expression.TheFolds.{fold-Expression}
use Rattle.source_tree.specs.declared.expression.Expression.TheOpen.{Expression-F}
use Rattle.source_tree.specs.declared.expression.Expression.{Expression as Written}
use Rattle.source_tree.specs.declared.expression.Operator.{Operator}
use Rattle.source_tree.specs.declared.expression.Operator.TheVariants as o
use Rattle.source_tree.specs.declared.expression.Place.{Place}
use Rattle.source_tree.specs.declared.expression.Place.TheVariants as place
use Rattle.typed_program.specs.Kinds.{takes, result_kind, key_kind, cell_kind}
use Rattle.typed_program.specs.declared.expression.Expression.{Expression}
use Rattle.typed_program.specs.declared.expression.Expression.TheVariants as e
use Rattle.typed_program.specs.declared.expression.Kind.{Kind}
use Rattle.typed_program.specs.declared.expression.Kind.TheVariants.{Int, Text, Truth, Id}
use Rattle.typed_program.specs.declared.expression.Operator.TheVariants as op
use Rattle.kind_rules.specs.Names.{Variable, Scope, property_of, slot_of}

-- the rules that fail in an expression; where none does, it has this kind and this typed form
pub record Judged : Type 0 where
  pub rules : List ℕ
  pub kind : Kind
  pub typed : Expression

abbrev pub same_kind : Kind → Kind → Bool
same_kind Int Int = true
same_kind Text Text = true
same_kind Truth Truth = true
same_kind (Id a) (Id b) = a == b
same_kind a b = false

-- a rule fails where what it asks for doesn't hold
abbrev pub unless : Bool → ℕ → List ℕ
unless true rule = []
unless false rule = rule ∷ []

-- whether no rule fails
abbrev pub is_clean : List ℕ → Bool
is_clean [] = true
is_clean (rule ∷ rules) = false

-- a rule that speaks of the kind of an expression fails only where it has one
abbrev pub unless_kind : (Kind → Bool) → ℕ → Judged → List ℕ
unless_kind fits rule a = if is_clean a.rules then unless (fits a.kind) rule else []

abbrev pub unless_kinds : (Kind → Kind → Bool) → ℕ → Judged → Judged → List ℕ
unless_kinds fits rule a b = if is_clean a.rules && is_clean b.rules then unless (fits a.kind b.kind) rule else []

abbrev pub fine : Kind → Expression → Judged
fine kind typed = record { rules = []; kind = kind; typed = typed }

abbrev pub fails : ℕ → Judged
fails rule = record { rules = rule ∷ []; kind = Int; typed = e.Int (pos 0) }

-- whether an operator takes two operands of these kinds
abbrev pub fits : Operator → Kind → Kind → Bool
fits o.Or a b = same_kind a Truth && same_kind b Truth
fits o.And a b = same_kind a Truth && same_kind b Truth
fits o.Equal a b = same_kind a b && takes op.Equal a
fits o.NotEqual a b = same_kind a b && takes op.NotEqual a
fits o.Less a b = same_kind a b && takes op.Less a
fits o.LessOrEqual a b = same_kind a b && takes op.LessOrEqual a
fits o.Greater a b = same_kind a b && takes op.Greater a
fits o.GreaterOrEqual a b = same_kind a b && takes op.GreaterOrEqual a
fits o.Plus a b = same_kind a b && takes op.Add a
fits o.Minus a b = same_kind a b && takes op.Subtract a
fits o.Concat a b = same_kind a b && takes op.Concat a
fits o.Times a b = same_kind a b && takes op.Multiply a
fits o.Divide a b = same_kind a b && takes op.Divide a
fits o.Remainder a b = same_kind a b && takes op.Remainder a

-- the kind of what an operator gives
abbrev pub gives : Operator → Kind
gives o.Or = Truth
gives o.And = Truth
gives o.Equal = result_kind op.Equal
gives o.NotEqual = result_kind op.NotEqual
gives o.Less = result_kind op.Less
gives o.LessOrEqual = result_kind op.LessOrEqual
gives o.Greater = result_kind op.Greater
gives o.GreaterOrEqual = result_kind op.GreaterOrEqual
gives o.Plus = result_kind op.Add
gives o.Minus = result_kind op.Subtract
gives o.Concat = result_kind op.Concat
gives o.Times = result_kind op.Multiply
gives o.Divide = result_kind op.Divide
gives o.Remainder = result_kind op.Remainder

abbrev pub combined : Operator → Expression → Expression → Expression
combined o.Or a b = e.Or a b
combined o.And a b = e.And a b
combined o.Equal a b = e.Binary op.Equal a b
combined o.NotEqual a b = e.Binary op.NotEqual a b
combined o.Less a b = e.Binary op.Less a b
combined o.LessOrEqual a b = e.Binary op.LessOrEqual a b
combined o.Greater a b = e.Binary op.Greater a b
combined o.GreaterOrEqual a b = e.Binary op.GreaterOrEqual a b
combined o.Plus a b = e.Binary op.Add a b
combined o.Minus a b = e.Binary op.Subtract a b
combined o.Concat a b = e.Binary op.Concat a b
combined o.Times a b = e.Binary op.Multiply a b
combined o.Divide a b = e.Binary op.Divide a b
combined o.Remainder a b = e.Binary op.Remainder a b

-- each key against the type of its key, as far as both go
abbrev pub mistyped : List KeyType → List Judged → List ℕ
mistyped [] keys = []
mistyped types [] = []
mistyped (type ∷ types) (key ∷ keys) = unless_kind (same_kind (key_kind type)) 5 key ++ mistyped types keys

abbrev pub rules_in : List Judged → List ℕ
rules_in keys = flat_map (λ (key : Judged). key.rules) keys

-- keys where keys of these types are due
abbrev pub key_rules : List KeyType → List Judged → List ℕ
key_rules types keys = unless (length keys == length types) 4 ++ (mistyped types keys ++ rules_in keys)

abbrev pub typed_keys : List Judged → List Expression
typed_keys keys = map (λ (key : Judged). key.typed) keys

-- a place: the rules that fail in it, and the property that it names, where it names one, and its keys
pub record Target : Type 0 where
  pub rules : List ℕ
  pub property : Option ℕ
  pub keys : List Expression

abbrev pub no_target : ℕ → Target
no_target rule = record { rules = rule ∷ []; property = None; keys = [] }

-- the key types of a property, none where there is no such property
abbrev pub keys_of_property : Option Property → List KeyType
keys_of_property None = []
keys_of_property (Some p) = p.keys

-- the global with a name
abbrev pub global_target : Option ℕ → Target
global_target None = no_target 2
global_target (Some number) = record { rules = []; property = Some number; keys = [] }

-- a property of the entity that a variable holds
abbrev pub field_target : ℕ → ℕ → Option ℕ → Target
field_target slot entity None = no_target 2
field_target slot entity (Some number) = record { rules = []; property = Some number; keys = e.Slot slot (Id entity) ∷ [] }

abbrev pub field_of_kind : Scope → ℕ → Kind → List ℕ → Target
field_of_kind scope slot (Id entity) p = field_target slot entity (property_of scope.schema (owner.Entity entity) p)
field_of_kind scope slot other p = no_target 7

-- the kind of the variable of a slot
abbrev pub kind_at : List Variable → ℕ → Kind
kind_at [] n = Int
kind_at (v ∷ vs) zero = v.kind
kind_at (v ∷ vs) (suc n) = kind_at vs n

abbrev pub field : Scope → Option ℕ → List ℕ → Target
field scope None p = no_target 2
field scope (Some slot) p = field_of_kind scope slot (kind_at scope.visible slot) p

-- an entry of an array
abbrev pub entry : Scope → Option ℕ → List Judged → Target
entry scope None keys = record { rules = 2 ∷ rules_in keys; property = None; keys = [] }
entry scope (Some number) keys = record { rules = key_rules (keys_of_property (property_at scope.schema number)) keys; property = Some number; keys = typed_keys keys }

-- a place that is updated: a name alone is a global's
abbrev pub target : Scope → Place Judged → Target
target scope (place.Name x) = global_target (property_of scope.schema owner.Global x)
target scope (place.Field x p) = field scope (slot_of scope.visible x) p
target scope (place.Entry a keys p) = entry scope (property_of scope.schema (owner.Array a) p) keys

-- what is read at a place that names a property
abbrev pub read : Scope → Target → Option ℕ → Judged
read scope t None = record { rules = t.rules; kind = Int; typed = e.Int (pos 0) }
read scope t (Some number) = record { rules = t.rules; kind = cell_kind (cell_type scope.schema number); typed = e.Get number t.keys }

abbrev pub read_target : Scope → Target → Judged
read_target scope t = read scope t t.property

abbrev pub read_name : Scope → List ℕ → Option ℕ → Judged
read_name scope x (Some slot) = fine (kind_at scope.visible slot) (e.Slot slot (kind_at scope.visible slot))
read_name scope x None = read_target scope (target scope (place.Name x))

-- a place that is read: a name alone is a variable's or a global's
abbrev pub read_place : Scope → Place Judged → Judged
read_place scope (place.Name x) = read_name scope x (slot_of scope.visible x)
read_place scope (place.Field x p) = read_target scope (target scope (place.Field x p))
read_place scope (place.Entry a keys p) = read_target scope (target scope (place.Entry a keys p))

abbrev pub alive_of_kind : ℕ → Kind → Judged
alive_of_kind slot (Id entity) = fine Truth (e.Alive slot entity)
alive_of_kind slot other = fails 7

abbrev pub alive : Scope → Option ℕ → Judged
alive scope None = fails 2
alive scope (Some slot) = alive_of_kind slot (kind_at scope.visible slot)

-- from what comes of the parts of an expression
abbrev pub judge_step : Scope → Expression-F Judged → Judged
judge_step scope (Expression-F.Number n) = fine Int (e.Int (pos n))
judge_step scope (Expression-F.Text bytes) = fine Text (e.Text bytes)
judge_step scope (Expression-F.Truth b) = fine Truth (e.Truth b)
judge_step scope (Expression-F.Alive x) = alive scope (slot_of scope.visible x)
judge_step scope (Expression-F.Place p) = read_place scope p
judge_step scope (Expression-F.Minus a) = record { rules = a.rules ++ unless_kind (same_kind Int) 7 a; kind = Int; typed = e.Minus a.typed }
judge_step scope (Expression-F.Not a) = record { rules = a.rules ++ unless_kind (same_kind Truth) 7 a; kind = Truth; typed = e.Not a.typed }
judge_step scope (Expression-F.Binary operator a b) = record { rules = a.rules ++ (b.rules ++ unless_kinds (fits operator) 7 a b); kind = gives operator; typed = combined operator a.typed b.typed }

abbrev pub judge : Scope → Written → Judged
judge scope = fold-Expression Judged (judge_step scope)

-- a place with what comes of its keys
abbrev pub judge_place : Scope → Place Written → Place Judged
judge_place scope (place.Name x) = place.Name x
judge_place scope (place.Field x p) = place.Field x p
judge_place scope (place.Entry a keys p) = place.Entry a (map (judge scope) keys) p
