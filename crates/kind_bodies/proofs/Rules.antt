-- The lowest rule of several lists.
use Rattle.std.proofs.Common.{◌≡◌, refl, ℕ, Bool, List, [], ◌∷◌, ◌++◌, map, Option, Some, None, min, sym, ap, ◌∙◌, arith}
use Rattle.cloud_base.specs.declared.schema.KeyType.{KeyType}
use Rattle.typed_program.specs.Kinds.{key_kind}
use Rattle.typed_program.specs.declared.expression.Kind.{Kind}
use Rattle.kind_rules.specs.Answers.{lowest, lowest_rule}
use Rattle.kind_rules.specs.Expressions.{Judged, unless_kind, unless_kinds, same_kind, mistyped, rules_in}
use Rattle.kind_bodies.specs.declared.found.Found.{Found}
use Rattle.kind_bodies.specs.Found.{lower, or_unless, told}

pub lower_none : (a : Option ℕ) → lower a None ≡ a
lower_none None = refl
lower_none (Some a) = refl

pub lower_comm : (a b : Option ℕ) → lower a b ≡ lower b a
lower_comm None b = sym (lower_none b)
lower_comm (Some a) None = refl
lower_comm (Some a) (Some b) = let e : min a b ≡ min b a = omega arith in ap Some e

pub lower_assoc : (a b c : Option ℕ) → lower (lower a b) c ≡ lower a (lower b c)
lower_assoc None b c = refl
lower_assoc (Some a) None c = refl
lower_assoc (Some a) (Some b) None = refl
lower_assoc (Some a) (Some b) (Some c) = let e : min (min a b) c ≡ min a (min b c) = omega arith in ap Some e

lowest_min : (a b : ℕ) (xs : List ℕ) → lowest (min a b) xs ≡ min a (lowest b xs)
lowest_min a b [] = refl
lowest_min a b (x ∷ xs) = let e : min (min a b) x ≡ min a (min b x) = omega arith in ap (λ n. lowest n xs) e ∙ lowest_min a (min b x) xs

lowest_append : (a : ℕ) (xs ys : List ℕ) → Some (lowest a (xs ++ ys)) ≡ lower (Some (lowest a xs)) (lowest_rule ys)
lowest_append a [] [] = refl
lowest_append a [] (y ∷ ys) = ap Some (lowest_min a y ys)
lowest_append a (x ∷ xs) ys = lowest_append (min a x) xs ys

pub lowest_rule-append : (xs ys : List ℕ) → lowest_rule (xs ++ ys) ≡ lower (lowest_rule xs) (lowest_rule ys)
lowest_rule-append [] ys = refl
lowest_rule-append (x ∷ xs) ys = lowest_append x xs ys

lower_self : (a : Option ℕ) → lower a None ≡ a
lower_self a = lower_none a

pub rule_of_kind : (fits : Kind → Bool) (rule : ℕ) (a : Judged) → lowest_rule (a.rules ++ unless_kind fits rule a) ≡ or_unless (lowest_rule a.rules) (fits a.kind) rule
rule_of_kind fits rule a = lowest_rule-append a.rules (unless_kind fits rule a) ∙ by_rules a.rules a
  where
    by_rules : (rules : List ℕ) (a : Judged) → lower (lowest_rule rules) (lowest_rule (unless_kind fits rule (record a { rules = rules }))) ≡ or_unless (lowest_rule rules) (fits a.kind) rule
    by_rules [] a = refl
    by_rules (r ∷ rules) a = refl

pub rule_of_kinds : (fits : Kind → Kind → Bool) (rule : ℕ) (a b : Judged)
    → lowest_rule (a.rules ++ (b.rules ++ unless_kinds fits rule a b)) ≡ or_unless (lower (lowest_rule a.rules) (lowest_rule b.rules)) (fits a.kind b.kind) rule
rule_of_kinds fits rule a b =
    lowest_rule-append a.rules (b.rules ++ unless_kinds fits rule a b)
    ∙ ap (lower (lowest_rule a.rules)) (lowest_rule-append b.rules (unless_kinds fits rule a b))
    ∙ by_rules a.rules b.rules a b
  where
    by_rules : (rules others : List ℕ) (a b : Judged)
        → lower (lowest_rule rules) (lower (lowest_rule others) (lowest_rule (unless_kinds fits rule (record a { rules = rules }) (record b { rules = others }))))
        ≡ or_unless (lower (lowest_rule rules) (lowest_rule others)) (fits a.kind b.kind) rule
    by_rules [] [] a b = refl
    by_rules [] (s ∷ others) a b = refl
    by_rules (r ∷ rules) [] a b = refl
    by_rules (r ∷ rules) (s ∷ others) a b = refl

-- the lowest rule of keys, from what comes of each
abbrev pub keys_rule : List KeyType → List Found → Option ℕ
keys_rule types [] = None
keys_rule [] (key ∷ keys) = lower key.rule (keys_rule [] keys)
keys_rule (type ∷ types) (key ∷ keys) = lower (or_unless key.rule (same_kind (key_kind type) key.kind) 5) (keys_rule types keys)

four : (u m r s : Option ℕ) → lower (lower u m) (lower r s) ≡ lower (lower r u) (lower m s)
four u m r s = lower_assoc u m (lower r s) ∙ ap (lower u) (sym (lower_assoc m r s) ∙ ap (λ x. lower x s) (lower_comm m r) ∙ lower_assoc r m s)
    ∙ sym (lower_assoc u r (lower m s)) ∙ ap (λ x. lower x (lower m s)) (lower_comm u r)

pub keys_rule-told : (types : List KeyType) (keys : List Judged) → lowest_rule (mistyped types keys ++ rules_in keys) ≡ keys_rule types (map told keys)
keys_rule-told [] [] = refl
keys_rule-told (type ∷ types) [] = refl
keys_rule-told [] (key ∷ keys) = lowest_rule-append key.rules (rules_in keys) ∙ ap (lower (lowest_rule key.rules)) (keys_rule-told [] keys)
keys_rule-told (type ∷ types) (key ∷ keys) =
    let mine = unless_kind (same_kind (key_kind type)) 5 key in
    lowest_rule-append (mine ++ mistyped types keys) (key.rules ++ rules_in keys)
    ∙ ap (λ x. lower x (lowest_rule (key.rules ++ rules_in keys))) (lowest_rule-append mine (mistyped types keys))
    ∙ ap (lower (lower (lowest_rule mine) (lowest_rule (mistyped types keys)))) (lowest_rule-append key.rules (rules_in keys))
    ∙ four (lowest_rule mine) (lowest_rule (mistyped types keys)) (lowest_rule key.rules) (lowest_rule (rules_in keys))
    ∙ ap (λ x. lower x (lower (lowest_rule (mistyped types keys)) (lowest_rule (rules_in keys)))) (sym (lowest_rule-append key.rules mine) ∙ rule_of_kind (same_kind (key_kind type)) 5 key)
    ∙ ap (lower (or_unless (lowest_rule key.rules) (same_kind (key_kind type) key.kind) 5)) (sym (lowest_rule-append (mistyped types keys) (rules_in keys)) ∙ keys_rule-told types keys)

pub ruleset appended = (lowest_rule-append)
