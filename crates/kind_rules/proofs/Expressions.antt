-- An expression in which no rule fails has its kind.
use Rattle.std.proofs.Common.{◌≡◌, refl, sym, ◌∙◌, ap, subst, arith}
use Rattle.std.proofs.lemmas.Bool.{and_parts, eqb-true}
use Rattle.std.proofs.lemmas.List.Elements.{recursion_from_All}
use Rattle.std.specs.Prelude.{ℕ, zero, suc, ◌==◌, ◌&&◌, true, List, [], ◌∷◌, ◌++◌, length, map, Option, Some, None, slice_get, FitsSigned, pos}
use Rattle.std.specs.Int.{w64}
use Rattle.std.specs.List.{AllByRecursion}
use Rattle.std.specs.Option.{option_map_or}
use Rattle.cloud_base.specs.Shaped.{IsSchema, AreOwnersKeys, property_at, cell_type}
use Rattle.cloud_base.specs.declared.schema.CellType.TheVariants as cell
use Rattle.cloud_base.specs.declared.schema.KeyType.{KeyType}
use Rattle.cloud_base.specs.declared.schema.Owner.{Owner}
use Rattle.cloud_base.specs.declared.schema.Owner.TheVariants as owner
use Rattle.cloud_base.specs.declared.schema.Property.{Property}
use Rattle.cloud_base.specs.declared.schema.Schema.{Schema}
use Rattle.source_tokens.specs.declared.token.Token.{Token}
use Rattle.source_tree.specs.Limits.{IsNumber}
use Rattle.source_tree.specs.Words.{words, expression_words, joined}
use Rattle.source_tree.specs.declared.expression.Expression.{Expression as Written}
use Rattle.source_tree.specs.declared.expression.Expression.TheFolds.{fold-roll-Expression, ind-Expression, map-Expression}
use Rattle.source_tree.specs.declared.expression.Expression.TheOpen.{Expression-F}
use Rattle.source_tree.specs.declared.expression.Operator.{Operator}
use Rattle.source_tree.specs.declared.expression.Operator.TheVariants as o
use Rattle.source_tree.specs.declared.expression.Place.{Place}
use Rattle.source_tree.specs.declared.expression.Place.TheVariants as place
use Rattle.typed_program.specs.Kinds as kinds
use Rattle.typed_program.specs.Kinds.{HasKind, HaveKinds, key_kind, cell_kind, takes, result_kind}
use Rattle.typed_program.specs.declared.expression.Expression.TheVariants as e
use Rattle.typed_program.specs.declared.expression.Kind.{Kind}
use Rattle.typed_program.specs.declared.expression.Kind.TheVariants.{Int, Text, Truth, Id}
use Rattle.typed_program.specs.declared.expression.Operator.{Operator as TypedOperator}
use Rattle.typed_program.specs.declared.expression.Operator.TheVariants as op
use Rattle.kind_rules.specs.Expressions.{Judged, Target, same_kind, unless, fits, gives, combined, mistyped, rules_in, key_rules, typed_keys, keys_of_property, global_target, field_target, field_of_kind, field, entry, target, kind_at, read, read_target, read_name, read_place, alive, alive_of_kind, judge_step, judge}
use Rattle.kind_rules.specs.Names.{Variable, Scope, property_of, slot_of}
use Rattle.kind_rules.specs.Words.{IsFitWord}
use Rattle.kind_rules.proofs.Finds.{found, both_parts, all_at, found_property}
use Rattle.kind_rules.proofs.Rules.{none_of_two, holds, holds_of_kind, holds_of_kinds, same_kind_is, none_in_keys}

abbrev pub kinds_of : List Variable → List Kind
kinds_of visible = map (λ (v : Variable). v.kind) visible

-- where no rule fails, it has its kind
abbrev pub IsJudged : Scope → Judged → Type 0
IsJudged scope a = a.rules ≡ [] → HasKind scope.schema (kinds_of scope.visible) a.typed a.kind

-- ---- variables

pub kind_there : (vs : List Variable) (n : ℕ) (v : Variable) → slice_get vs n ≡ Some v → slice_get (kinds_of vs) n ≡ Some (kind_at vs n)
kind_there [] n v h = cc
kind_there (w ∷ vs) zero v h = refl
kind_there (w ∷ vs) (suc n) v h = kind_there vs n v h

pub slot_there : (visible : List Variable) (x : List ℕ) (n : ℕ) → slot_of visible x ≡ Some n → slice_get (kinds_of visible) n ≡ Some (kind_at visible n)
slot_there visible x n h = let r = found _ visible n h in kind_there visible n r.0 r.1

-- ---- keys

have_kinds : (scope : Scope) (types : List KeyType) (keys : List Judged) → AllByRecursion (IsJudged scope) keys → AllByRecursion (λ (key : Judged). key.rules ≡ []) keys → length keys ≡ length types → mistyped types keys ≡ []
    → HaveKinds scope.schema (kinds_of scope.visible) (typed_keys keys) (map key_kind types)
have_kinds scope [] [] h n len m = kinds.no_more
have_kinds scope [] (key ∷ keys) h n len m = absurd (omega (arith, len))
have_kinds scope (type ∷ types) [] h n len m = absurd (omega (arith, len))
have_kinds scope (type ∷ types) (key ∷ keys) h n len m =
    let two = none_of_two _ _ m in
    let same : key_kind type ≡ key.kind = same_kind_is (key_kind type) key.kind (holds_of_kind (same_kind (key_kind type)) 5 key n.0 two.0) in
    kinds.one_more key.typed (key_kind type) (typed_keys keys) (map key_kind types) (subst (HasKind scope.schema (kinds_of scope.visible) key.typed) (sym same) (h.0 n.0)) (have_kinds scope types keys h.1 n.1 (omega (arith, len)) two.1)

pub keys_have_kinds : (scope : Scope) (types : List KeyType) (keys : List Judged) → AllByRecursion (IsJudged scope) keys → key_rules types keys ≡ [] → HaveKinds scope.schema (kinds_of scope.visible) (typed_keys keys) (map key_kind types)
keys_have_kinds scope types keys h n =
    let two = none_of_two (unless (length keys == length types) 4) (mistyped types keys ++ rules_in keys) n in
    let three = none_of_two (mistyped types keys) (rules_in keys) two.1 in
    have_kinds scope types keys h (none_in_keys keys three.1) (eqb-true (length keys) (length types) (holds (length keys == length types) 4 two.0)) three.0

-- ---- places

-- it names a property, with a key of each kind that it has
pub record IsAimed (scope : Scope) (t : Target) : Type 0 where
  pub number : ℕ
  pub property : Property
  pub names : t.property ≡ Some number
  pub there : property_at scope.schema number ≡ Some property
  pub keys : HaveKinds scope.schema (kinds_of scope.visible) t.keys (map key_kind property.keys)

-- the keys of a property that is found are its owner's
owners_keys : (schema : Schema) → IsSchema schema → (of : Owner) (name : List ℕ) (number : ℕ) → (found : property_of schema of name ≡ Some number) → AreOwnersKeys of (found_property schema of name number found).0.keys
owners_keys schema is of name number found =
    let r = found_property schema of name number found in
    subst (λ o. AreOwnersKeys o r.0.keys) r.2 (all_at (λ (p : Property). AreOwnersKeys p.owner p.keys) schema.properties number r.0 (recursion_from_All (λ (p : Property). AreOwnersKeys p.owner p.keys) schema.properties is.owners_keys) r.1)

global_aimed : (scope : Scope) → IsSchema scope.schema → (x : List ℕ) (number : Option ℕ) → property_of scope.schema owner.Global x ≡ number → (global_target number).rules ≡ [] → IsAimed scope (global_target number)
global_aimed scope is x None f h = cc
global_aimed scope is x (Some number) f h =
    let r = found_property scope.schema owner.Global x number f in
    record { number = number; property = r.0; names = refl; there = r.1; keys = subst (λ types. HaveKinds scope.schema (kinds_of scope.visible) [] (map key_kind types)) (sym (owners_keys scope.schema is owner.Global x number f)) kinds.no_more }

of_entity : (scope : Scope) → IsSchema scope.schema → (slot entity : ℕ) (p : List ℕ) (number : Option ℕ) → slice_get (kinds_of scope.visible) slot ≡ Some (Id entity) → property_of scope.schema (owner.Entity entity) p ≡ number
    → (field_target slot entity number).rules ≡ [] → IsAimed scope (field_target slot entity number)
of_entity scope is slot entity p None there f h = cc
of_entity scope is slot entity p (Some number) there f h =
    let r = found_property scope.schema (owner.Entity entity) p number f in
    record {
      number = number;
      property = r.0;
      names = refl;
      there = r.1;
      keys = subst (λ types. HaveKinds scope.schema (kinds_of scope.visible) (e.Slot slot (Id entity) ∷ []) (map key_kind types)) (sym (owners_keys scope.schema is (owner.Entity entity) p number f)) (kinds.one_more (e.Slot slot (Id entity)) (Id entity) [] [] (kinds.slot slot (Id entity) there) kinds.no_more);
    }

of_kind : (scope : Scope) → IsSchema scope.schema → (slot : ℕ) (kind : Kind) (p : List ℕ) → slice_get (kinds_of scope.visible) slot ≡ Some kind → (field_of_kind scope slot kind p).rules ≡ [] → IsAimed scope (field_of_kind scope slot kind p)
of_kind scope is slot Int p there h = cc
of_kind scope is slot Text p there h = cc
of_kind scope is slot Truth p there h = cc
of_kind scope is slot (Id entity) p there h = of_entity scope is slot entity p (property_of scope.schema (owner.Entity entity) p) there refl h

field_aimed : (scope : Scope) → IsSchema scope.schema → (x p : List ℕ) (slot : Option ℕ) → slot_of scope.visible x ≡ slot → (field scope slot p).rules ≡ [] → IsAimed scope (field scope slot p)
field_aimed scope is x p None f h = cc
field_aimed scope is x p (Some slot) f h = of_kind scope is slot (kind_at scope.visible slot) p (slot_there scope.visible x slot f) h

entry_aimed : (scope : Scope) (a p : List ℕ) (keys : List Judged) (number : Option ℕ) → AllByRecursion (IsJudged scope) keys → property_of scope.schema (owner.Array a) p ≡ number → (entry scope number keys).rules ≡ [] → IsAimed scope (entry scope number keys)
entry_aimed scope a p keys None j f h = cc
entry_aimed scope a p keys (Some number) j f h =
    let r = found_property scope.schema (owner.Array a) p number f in
    record {
      number = number;
      property = r.0;
      names = refl;
      there = r.1;
      keys = keys_have_kinds scope r.0.keys keys j (subst (λ found. key_rules (keys_of_property found) keys ≡ []) r.1 h);
    }

-- what its keys come to
abbrev pub AreKeysJudged : Scope → Place Judged → Type 0
AreKeysJudged scope (place.Name x) = Unit {0}
AreKeysJudged scope (place.Field x p) = Unit {0}
AreKeysJudged scope (place.Entry a keys p) = AllByRecursion (IsJudged scope) keys

pub target_aimed : (scope : Scope) → IsSchema scope.schema → (p : Place Judged) → AreKeysJudged scope p → (target scope p).rules ≡ [] → IsAimed scope (target scope p)
target_aimed scope is (place.Name x) j h = global_aimed scope is x (property_of scope.schema owner.Global x) refl h
target_aimed scope is (place.Field x p) j h = field_aimed scope is x p (slot_of scope.visible x) refl h
target_aimed scope is (place.Entry a keys p) j h = entry_aimed scope a p keys (property_of scope.schema (owner.Array a) p) j refl h

pub type_at : (schema : Schema) (number : ℕ) (property : Property) → property_at schema number ≡ Some property → cell_type schema number ≡ property.cell
type_at schema number property there = ap (λ found. option_map_or (λ (p : Property). p.cell) found cell.Int) there

read_rules : (scope : Scope) (t : Target) (number : Option ℕ) → (read scope t number).rules ≡ t.rules
read_rules scope t None = refl
read_rules scope t (Some number) = refl

target_read : (scope : Scope) (t : Target) → (t.rules ≡ [] → IsAimed scope t) → IsJudged scope (read_target scope t)
target_read scope t aims h =
    let is = aims (sym (read_rules scope t t.property) ∙ h) in
    subst (λ n. HasKind scope.schema (kinds_of scope.visible) (read scope t n).typed (read scope t n).kind) (sym is.names)
    (subst (λ c. HasKind scope.schema (kinds_of scope.visible) (e.Get is.number t.keys) (cell_kind c)) (sym (type_at scope.schema is.number is.property is.there)) (kinds.get is.number is.property t.keys is.there is.keys))

name_read : (scope : Scope) → IsSchema scope.schema → (x : List ℕ) (slot : Option ℕ) → slot_of scope.visible x ≡ slot → IsJudged scope (read_name scope x slot)
name_read scope is x None f h = target_read scope (target scope (place.Name x)) (target_aimed scope is (place.Name x) tt) h
name_read scope is x (Some slot) f h = kinds.slot slot (kind_at scope.visible slot) (slot_there scope.visible x slot f)

place_read : (scope : Scope) → IsSchema scope.schema → (p : Place Judged) → AreKeysJudged scope p → IsJudged scope (read_place scope p)
place_read scope is (place.Name x) j h = name_read scope is x (slot_of scope.visible x) refl h
place_read scope is (place.Field x p) j h = target_read scope (target scope (place.Field x p)) (target_aimed scope is (place.Field x p) tt) h
place_read scope is (place.Entry a keys p) j h = target_read scope (target scope (place.Entry a keys p)) (target_aimed scope is (place.Entry a keys p) j) h

alive_kind : (scope : Scope) (slot : ℕ) (kind : Kind) → slice_get (kinds_of scope.visible) slot ≡ Some kind → IsJudged scope (alive_of_kind slot kind)
alive_kind scope slot Int there h = cc
alive_kind scope slot Text there h = cc
alive_kind scope slot Truth there h = cc
alive_kind scope slot (Id entity) there h = kinds.alive slot entity there

alive_judged : (scope : Scope) (x : List ℕ) (slot : Option ℕ) → slot_of scope.visible x ≡ slot → IsJudged scope (alive scope slot)
alive_judged scope x None f h = cc
alive_judged scope x (Some slot) f h = alive_kind scope slot (kind_at scope.visible slot) (slot_there scope.visible x slot f) h

-- ---- operators

module _ (scope : Scope) (a b : Judged) (ha : HasKind scope.schema (kinds_of scope.visible) a.typed a.kind) (hb : HasKind scope.schema (kinds_of scope.visible) b.typed b.kind) where
  two_alike : (operator : TypedOperator) → (same_kind a.kind b.kind && takes operator a.kind) ≡ true → HasKind scope.schema (kinds_of scope.visible) (e.Binary operator a.typed b.typed) (result_kind operator)
  two_alike operator h =
      let both = and_parts (same_kind a.kind b.kind) (takes operator a.kind) h in
      kinds.binary operator a.kind a.typed b.typed both.1 ha (subst (HasKind scope.schema (kinds_of scope.visible) b.typed) (sym (same_kind_is a.kind b.kind both.0)) hb)

  truth : (c : Judged) → HasKind scope.schema (kinds_of scope.visible) c.typed c.kind → same_kind c.kind Truth ≡ true → HasKind scope.schema (kinds_of scope.visible) c.typed Truth
  truth c hc h = subst (HasKind scope.schema (kinds_of scope.visible) c.typed) (same_kind_is c.kind Truth h) hc

  both_truths : (same_kind a.kind Truth && same_kind b.kind Truth) ≡ true → HasKind scope.schema (kinds_of scope.visible) a.typed Truth × HasKind scope.schema (kinds_of scope.visible) b.typed Truth
  both_truths h = let both = and_parts (same_kind a.kind Truth) (same_kind b.kind Truth) h in (truth a ha both.0, truth b hb both.1)

  operands_fit : (operator : Operator) → fits operator a.kind b.kind ≡ true → HasKind scope.schema (kinds_of scope.visible) (combined operator a.typed b.typed) (gives operator)
  operands_fit o.Or h = kinds.or a.typed b.typed (both_truths h).0 (both_truths h).1
  operands_fit o.And h = kinds.and a.typed b.typed (both_truths h).0 (both_truths h).1
  operands_fit o.Equal h = two_alike op.Equal h
  operands_fit o.NotEqual h = two_alike op.NotEqual h
  operands_fit o.Less h = two_alike op.Less h
  operands_fit o.LessOrEqual h = two_alike op.LessOrEqual h
  operands_fit o.Greater h = two_alike op.Greater h
  operands_fit o.GreaterOrEqual h = two_alike op.GreaterOrEqual h
  operands_fit o.Plus h = two_alike op.Add h
  operands_fit o.Minus h = two_alike op.Subtract h
  operands_fit o.Concat h = two_alike op.Concat h
  operands_fit o.Times h = two_alike op.Multiply h
  operands_fit o.Divide h = two_alike op.Divide h
  operands_fit o.Remainder h = two_alike op.Remainder h

-- ---- expressions

number_fits : (n : ℕ) → IsNumber n → FitsSigned w64 (pos n)
number_fits n h = record { sfits = omega (arith, h) }

abbrev Claim : Scope → Written → Type 0
Claim scope a = AllByRecursion IsFitWord (words a) → IsJudged scope (judge scope a)

-- expressions: claims beside each
abbrev Claimed : Scope → Type 0
Claimed scope = (a : Written) × Claim scope a

abbrev parts : (scope : Scope) → Expression-F (Claimed scope) → Expression-F Written
parts scope y = map-Expression (Claimed scope) Written (λ p. p.0) y

claimed_keys : (scope : Scope) (keys : List (Claimed scope)) → AllByRecursion IsFitWord (joined (map words (map (λ p. p.0) keys))) → AllByRecursion (IsJudged scope) (map (judge scope) (map (λ p. p.0) keys))
claimed_keys scope [] w = tt
claimed_keys scope (key ∷ keys) w = let two = both_parts IsFitWord (words key.0) (joined (map words (map (λ p. p.0) keys))) w in (key.1 two.0, claimed_keys scope keys two.1)

step_judged : (scope : Scope) → IsSchema scope.schema → (y : Expression-F (Claimed scope)) → AllByRecursion IsFitWord (expression_words (map-Expression Written (List Token) words (parts scope y))) → IsJudged scope (judge_step scope (map-Expression Written Judged (judge scope) (parts scope y)))
step_judged scope is (Expression-F.Number n) w h = kinds.int (pos n) (number_fits n w.0)
step_judged scope is (Expression-F.Text bytes) w h = kinds.text bytes w.0
step_judged scope is (Expression-F.Truth b) w h = kinds.truth b
step_judged scope is (Expression-F.Alive x) w h = alive_judged scope x (slot_of scope.visible x) refl h
step_judged scope is (Expression-F.Place (place.Name x)) w h = place_read scope is (place.Name x) tt h
step_judged scope is (Expression-F.Place (place.Field x p)) w h = place_read scope is (place.Field x p) tt h
step_judged scope is (Expression-F.Place (place.Entry a keys p)) w h = place_read scope is (place.Entry a _ p) (claimed_keys scope keys (both_parts IsFitWord _ _ w.1).0) h
step_judged scope is (Expression-F.Minus a) w h =
    let two = none_of_two (judge scope a.0).rules _ h in
    kinds.minus (judge scope a.0).typed (subst (HasKind scope.schema (kinds_of scope.visible) (judge scope a.0).typed) (sym (same_kind_is Int (judge scope a.0).kind (holds_of_kind (same_kind Int) 7 (judge scope a.0) two.0 two.1))) (a.1 w two.0))
step_judged scope is (Expression-F.Not a) w h =
    let two = none_of_two (judge scope a.0).rules _ h in
    kinds.not (judge scope a.0).typed (subst (HasKind scope.schema (kinds_of scope.visible) (judge scope a.0).typed) (sym (same_kind_is Truth (judge scope a.0).kind (holds_of_kind (same_kind Truth) 7 (judge scope a.0) two.0 two.1))) (a.1 w two.0))
step_judged scope is (Expression-F.Binary operator a b) w h =
    let two = none_of_two (judge scope a.0).rules _ h in
    let three = none_of_two (judge scope b.0).rules _ two.1 in
    let fit = both_parts IsFitWord (words a.0) (words b.0) w in
    operands_fit scope (judge scope a.0) (judge scope b.0) (a.1 fit.0 two.0) (b.1 fit.1 three.0) operator (holds_of_kinds (fits operator) 7 (judge scope a.0) (judge scope b.0) two.0 three.0 three.1)

pub judged : (scope : Scope) → IsSchema scope.schema → (a : Written) → AllByRecursion IsFitWord (words a) → IsJudged scope (judge scope a)
judged scope is = ind-Expression (Claim scope) (λ x y e w.
    subst (IsJudged scope) (sym (fold-roll-Expression Judged (judge_step scope) x)) (subst (λ z. AllByRecursion IsFitWord (expression_words (map-Expression Written (List Token) words z)) → IsJudged scope (judge_step scope (map-Expression Written Judged (judge scope) z))) e (step_judged scope is y)
    (subst (AllByRecursion IsFitWord) (fold-roll-Expression (List Token) expression_words x) w)))

pub keys_judged : (scope : Scope) → IsSchema scope.schema → (keys : List Written) → AllByRecursion IsFitWord (joined (map words keys)) → AllByRecursion (IsJudged scope) (map (judge scope) keys)
keys_judged scope is [] w = tt
keys_judged scope is (key ∷ keys) w = let two = both_parts IsFitWord (words key) (joined (map words keys)) w in (judged scope is key two.0, keys_judged scope is keys two.1)
