-- What comes of entries, of places that are read, and of keys one after another.
use Rattle.std.proofs.Common.{◌≡◌, refl, ℕ, List, [], ◌∷◌, ◌++◌, map, length, Option, Some, None, sym, ap, ◌∙◌, drop, zero, suc, ◌+◌, ◌<◌, ◌≤◌, get_or, append-nil, arith}
use Rattle.std.proofs.lemmas.List.{drop_more, drop_all}
use Rattle.std.proofs.Math.Seq.{drop-nil}
use Rattle.std.proofs.lemmas.Option.{slice_get_past}
use Rattle.typed_program.specs.declared.expression.Expression.{Expression as Typed}
use Rattle.kind_bodies.specs.declared.found.Keys.{Keys}
use Rattle.std.specs.Prelude.{◌==◌, slice_get}
use Rattle.std.proofs.lemmas.List.{length-map}
use Rattle.cloud_base.specs.Shaped.{property_at}
use Rattle.cloud_base.specs.declared.schema.KeyType.{KeyType}
use Rattle.cloud_base.specs.declared.schema.Owner.TheVariants as owner
use Rattle.source_tree.specs.declared.expression.Expression.{Expression as Written}
use Rattle.source_tree.specs.declared.expression.Expression.TheFolds.{fold-roll-Expression}
use Rattle.source_tree.specs.declared.expression.Expression.TheOpen.{Expression-F}
use Rattle.source_tree.specs.declared.expression.Expression.TheVariants as e
use Rattle.source_tree.specs.declared.expression.Place.{Place}
use Rattle.source_tree.specs.declared.expression.Place.TheVariants as place
use Rattle.kind_rules.specs.Answers.{lowest_rule}
use Rattle.kind_rules.specs.Names.{Scope, property_of, slot_of}
use Rattle.kind_rules.specs.Expressions.{Judged, Target as Targeted, judge, judge_step, judge_place, read_place, read_target, read_name, target, entry, field, global_target, keys_of_property, unless, mistyped, rules_in, typed_keys}
use Rattle.kind_bodies.specs.declared.found.Found.{Found}
use Rattle.kind_bodies.specs.Found.{told, told_target, judged, judged_keys, due_types, entry_found, targeted, read_found, lower, key_rule}
use Rattle.kind_bodies.proofs.Rules.{lowest_rule-append, keys_rule, keys_rule-told, lower_none}

entry_told : (scope : Scope) (found : Option ℕ) (keys : List Written)
    → told_target (entry scope found (map (judge scope) keys)) ≡ entry_found scope.schema found (length keys) (judged_keys scope (due_types scope.schema found) keys)
unfolding judged_keys
entry_told scope None keys = ap (λ (r : Option ℕ). record { rule = r; property = None; keys = [] }) (lowest_rule-append (2 ∷ []) (rules_in (map (judge scope) keys)))
entry_told scope (Some number) keys =
    let types = keys_of_property (property_at scope.schema number) in
    let js = map (judge scope) keys in
    ap (λ (r : Option ℕ). record { rule = r; property = Some number; keys = typed_keys js })
    (lowest_rule-append (unless (length js == length types) 4) (mistyped types js ++ rules_in js)
    ∙ ap (λ n. lower (lowest_rule (unless (n == length types) 4)) (lowest_rule (mistyped types js ++ rules_in js))) (length-map keys (judge scope)))

pub targeted_name : (scope : Scope) (x : List ℕ) → targeted scope (place.Name x) ≡ told_target (global_target (property_of scope.schema owner.Global x))
unfolding targeted
targeted_name scope x = refl

pub targeted_field : (scope : Scope) (x p : List ℕ) → targeted scope (place.Field x p) ≡ told_target (field scope (slot_of scope.visible x) p)
unfolding targeted
targeted_field scope x p = refl

pub targeted_entry : (scope : Scope) (a : List ℕ) (keys : List Written) (p : List ℕ)
    → targeted scope (place.Entry a keys p)
    ≡ entry_found scope.schema (property_of scope.schema (owner.Array a) p) (length keys) (judged_keys scope (due_types scope.schema (property_of scope.schema (owner.Array a) p)) keys)
unfolding targeted
targeted_entry scope a keys p = entry_told scope (property_of scope.schema (owner.Array a) p) keys

found_read : (scope : Scope) (t : Targeted) → read_found scope.schema (told_target t) t.property ≡ told (read_target scope t)
found_read scope t = by_property t.property t
  where
    by_property : (property : Option ℕ) (t : Targeted) → read_found scope.schema (told_target (record t { property = property })) property ≡ told (read_target scope (record t { property = property }))
    by_property None t = refl
    by_property (Some number) t = refl

judge_of_place : (scope : Scope) (p : Place Written) → judge scope (e.Place p) ≡ read_place scope (judge_place scope p)
judge_of_place scope (place.Name x) = ap (λ x. judge scope x) (sym (e.rolls-Place (place.Name x))) ∙ fold-roll-Expression Judged (judge_step scope) (Expression-F.Place (place.Name x))
judge_of_place scope (place.Field x p) = ap (λ x. judge scope x) (sym (e.rolls-Place (place.Field x p))) ∙ fold-roll-Expression Judged (judge_step scope) (Expression-F.Place (place.Field x p))
judge_of_place scope (place.Entry a keys p) = ap (λ x. judge scope x) (sym (e.rolls-Place (place.Entry a keys p))) ∙ fold-roll-Expression Judged (judge_step scope) (Expression-F.Place (place.Entry a keys p))

pub judged_name : (scope : Scope) (x : List ℕ) → judged scope (e.Place (place.Name x)) ≡ told (read_name scope x (slot_of scope.visible x))
unfolding judged
judged_name scope x = ap told (judge_of_place scope (place.Name x))

pub judged_field : (scope : Scope) (x p : List ℕ)
    → judged scope (e.Place (place.Field x p)) ≡ read_found scope.schema (told_target (field scope (slot_of scope.visible x) p)) (told_target (field scope (slot_of scope.visible x) p)).property
unfolding judged
judged_field scope x p = ap told (judge_of_place scope (place.Field x p)) ∙ sym (found_read scope (field scope (slot_of scope.visible x) p))

pub judged_entry : (scope : Scope) (a : List ℕ) (keys : List Written) (p : List ℕ)
    → judged scope (e.Place (place.Entry a keys p)) ≡ read_found scope.schema (targeted scope (place.Entry a keys p)) (targeted scope (place.Entry a keys p)).property
unfolding judged targeted
judged_entry scope a keys p = ap told (judge_of_place scope (place.Entry a keys p)) ∙ sym (found_read scope (target scope (place.Entry a (map (judge scope) keys) p)))

by_each : (scope : Scope) (types : List KeyType) (keys : List Written) → judged_keys scope types keys ≡ record { rule = keys_rule types (map (judged scope) keys); typed = map (λ (f : Found). f.typed) (map (judged scope) keys) }
unfolding judged_keys judged
by_each scope types keys =
    ap (λ (r : Option ℕ). record { rule = r; typed = typed_keys (map (judge scope) keys) }) (keys_rule-told types (map (judge scope) keys) ∙ ap (keys_rule types) (told_each keys))
    ∙ ap (λ (ts : List Typed). record { rule = keys_rule types (map (judged scope) keys); typed = ts }) (typed_each keys)
  where
    told_each : (keys : List Written) → map told (map (judge scope) keys) ≡ map (judged scope) keys
    told_each [] = refl
    told_each (key ∷ keys) = ap (λ fs. told (judge scope key) ∷ fs) (told_each keys)

    typed_each : (keys : List Written) → typed_keys (map (judge scope) keys) ≡ map (λ (f : Found). f.typed) (map (judged scope) keys)
    typed_each [] = refl
    typed_each (key ∷ keys) = ap (λ ts. (judge scope key).typed ∷ ts) (typed_each keys)

at_key : (types : List KeyType) (at : ℕ) (key : Found) (keys : List Found) → keys_rule (drop at types) (key ∷ keys) ≡ lower (key_rule (slice_get types at) key) (keys_rule (drop (at + 1) types) keys)
at_key [] at key keys = ap (λ (ts : List KeyType). keys_rule ts (key ∷ keys)) (drop-nil at) ∙ ap (λ (o : Option KeyType). lower (key_rule o key) (keys_rule [] keys)) (sym (slice_get_past [] at (omega arith)))
    ∙ ap (λ (ts : List KeyType). lower (key_rule (slice_get [] at) key) (keys_rule ts keys)) (sym (drop-nil (at + 1)))
at_key (type ∷ types) zero key keys = refl
at_key (type ∷ types) (suc at) key keys =
    let next : suc at + 1 ≡ suc (at + 1) = omega arith in
    at_key types at key keys ∙ ap (λ n. lower (key_rule (slice_get types at) key) (keys_rule (drop n (type ∷ types)) keys)) (sym next)

-- the key at a place, and those behind it
pub keys_step : (scope : Scope) (types : List KeyType) (keys : List Written) (at : ℕ) (key : Written) → drop at keys ≡ key ∷ drop (at + 1) keys
    → judged_keys scope (drop at types) (drop at keys)
    ≡ record {
      rule = lower (key_rule (slice_get types at) (judged scope key)) (judged_keys scope (drop (at + 1) types) (drop (at + 1) keys)).rule;
      typed = (judged scope key).typed ∷ (judged_keys scope (drop (at + 1) types) (drop (at + 1) keys)).typed;
    }
keys_step scope types keys at key is =
    ap (judged_keys scope (drop at types)) is ∙ by_each scope (drop at types) (key ∷ drop (at + 1) keys)
    ∙ ap (λ (r : Option ℕ). record { rule = r; typed = (judged scope key).typed ∷ map (λ (f : Found). f.typed) (map (judged scope) (drop (at + 1) keys)) }) (at_key types at (judged scope key) (map (judged scope) (drop (at + 1) keys)))
    ∙ ap (λ (k : Keys). record { rule = lower (key_rule (slice_get types at) (judged scope key)) k.rule; typed = (judged scope key).typed ∷ k.typed }) (sym (by_each scope (drop (at + 1) types) (drop (at + 1) keys)))

-- the key at a place stands before those behind it
pub left_at_key : (keys : List Written) (at : ℕ) (key : Written) → at < length keys → key ≡ get_or keys at key → drop at keys ≡ key ∷ drop (at + 1) keys
left_at_key keys at key more is = drop_more keys at key more ∙ ap (λ (k : Written). k ∷ drop (at + 1) keys) (sym is)

-- behind the last key nothing is left
pub keys_end : (scope : Scope) (types : List KeyType) (keys : List Written) (rule : Option ℕ) (typed : List Typed) (at : ℕ) → length keys ≤ at
    → lower rule (judged_keys scope (drop at types) (drop at keys)).rule ≡ (judged_keys scope types keys).rule
    → typed ++ (judged_keys scope (drop at types) (drop at keys)).typed ≡ (judged_keys scope types keys).typed
    → record { rule = rule; typed = typed } ≡ judged_keys scope types keys
keys_end scope types keys rule typed at end r t =
    let none : judged_keys scope (drop at types) (drop at keys) ≡ record { rule = None; typed = [] } =
    ap (judged_keys scope (drop at types)) (drop_all at keys end) ∙ by_each scope (drop at types) [] in
    let same_rule : rule ≡ (judged_keys scope types keys).rule = sym (lower_none rule) ∙ ap (λ (k : Keys). lower rule k.rule) (sym none) ∙ r in
    let same_typed : typed ≡ (judged_keys scope types keys).typed = sym (append-nil typed) ∙ ap (λ (k : Keys). typed ++ k.typed) (sym none) ∙ t in
    ap (λ (x : Option ℕ). record { rule = x; typed = typed }) same_rule ∙ ap (λ (x : List Typed). record { rule = (judged_keys scope types keys).rule; typed = x }) same_typed

pub ruleset targets = (targeted_name, targeted_field, targeted_entry)
