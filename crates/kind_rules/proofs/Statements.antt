-- A body in which no rule fails is well-kinded.
use Rattle.std.proofs.Common.{◌≡◌, refl, sym, ◌∙◌, ap, subst, lit<, arith}
use Rattle.std.proofs.lemmas.Bool.{eqb-true, leb-true}
use Rattle.std.specs.Prelude.{ℕ, suc, ◌+◌, ◌≤◌, ◌==◌, ◌||◌, not, true, List, [], ◌∷◌, ◌++◌, length, map, Option, Some, None, slice_get, nat_le, is_some}
use Rattle.std.specs.List.{AllByRecursion}
use Rattle.cloud_base.specs.PlainCell.{ValueKind, Number, Words, value_kind}
use Rattle.cloud_base.specs.Shaped.{IsSchema, property_at, entity_at, cell_type}
use Rattle.cloud_base.specs.declared.schema.Entity.{Entity}
use Rattle.cloud_base.specs.declared.schema.KeyType.{KeyType}
use Rattle.cloud_base.specs.declared.schema.Owner.TheVariants as owner
use Rattle.cloud_base.specs.declared.schema.Schema.{Schema}
use Rattle.source_tokens.specs.declared.token.Token.{Token}
use Rattle.source_tree.specs.Forms.{words_place_entry}
use Rattle.source_tree.specs.Words.{words, names, joined, statement_words, statement_words_step, body_words}
use Rattle.source_tree.specs.declared.expression.Expression.{Expression as Written}
use Rattle.source_tree.specs.declared.expression.Expression.TheVariants as written
use Rattle.source_tree.specs.declared.expression.Place.{Place}
use Rattle.source_tree.specs.declared.expression.Place.TheVariants as place
use Rattle.source_tree.specs.declared.statement.Operation.{Operation}
use Rattle.source_tree.specs.declared.statement.Operation.TheVariants as o
use Rattle.source_tree.specs.declared.statement.Statement.{Statement as Written_statement}
use Rattle.source_tree.specs.declared.statement.Statement.TheFolds.{fold-roll-Statement, ind-Statement, map-Statement}
use Rattle.source_tree.specs.declared.statement.Statement.TheOpen.{Statement-F}
use Rattle.typed_program.specs.Kinds as kinds
use Rattle.typed_program.specs.Kinds.{HasKind, IsStatement, IsBlock, IsLine, key_kind, cell_kind, kind_of_value, fits_cell}
use Rattle.typed_program.specs.declared.expression.Kind.{Kind}
use Rattle.typed_program.specs.declared.expression.Kind.TheVariants.{Int, Text, Truth, Id}
use Rattle.typed_program.specs.declared.statement.Statement.TheVariants as s
use Rattle.kind_rules.specs.Expressions.{Judged, Target, same_kind, unless, keys_of_property, typed_keys, key_rules, target, kind_at, judge, judge_place}
use Rattle.kind_rules.specs.Names.{Variable, Scope, is_repeated, property_of, entity_of, slot_of}
use Rattle.kind_rules.specs.Statements.{ItemRules, first_line, next_lines, Settled, Walked, Settles, walk, plain, with_block, most_visible, any_used, declared, variable, variables, scope_of, keys_of_entity, number_or_zero, entity_rules, creation_rules, assignment_rules, has_operation, argument_kind, typed_operation, operation_rules, update_rules, typed_update, entity_of_kind, deletion_rules, typed_deletion, entries_of_array, entries_of_other, entries_of, entries_rules, condition_rules, settle_define, settle_create, settle_if, settle_all, settle_entries, settle_step, settle, settle_block}
use Rattle.kind_rules.specs.Words.{IsFitWord}
use Rattle.kind_rules.proofs.Expressions.{kinds_of, IsJudged, AreKeysJudged, IsAimed, slot_there, keys_have_kinds, target_aimed, type_at, judged, keys_judged}
use Rattle.kind_rules.proofs.Finds.{found, both_parts, found_property}
use Rattle.kind_rules.proofs.Rules.{AllClean, none_of_two, holds, holds_of_kind, same_kind_is}

-- where no rule fails, it is a statement
abbrev pub IsSettled : Scope → List Variable → Settled → Type 0
IsSettled scope visible r = AllClean r.items → IsStatement scope.schema (kinds_of visible) r.typed (kinds_of r.visible)

abbrev pub IsWalked : Scope → List Variable → Walked → Type 0
IsWalked scope visible r = AllClean r.items → IsBlock scope.schema (kinds_of visible) r.typed

line_fits : (lines : List ℕ) → IsLine (first_line lines)
line_fits [] = lit< tt
line_fits (line ∷ lines) = omega arith

-- ---- variables

as_many : (visible : List Variable) → length visible ≡ length (kinds_of visible)
as_many [] = refl
as_many (v ∷ vs) = ap suc (as_many vs)

kinds_behind : (visible more : List Variable) → kinds_of (visible ++ more) ≡ kinds_of visible ++ kinds_of more
kinds_behind [] more = refl
kinds_behind (v ∷ vs) more = ap (λ ks. v.kind ∷ ks) (kinds_behind vs more)

key_variables : (xs : List (List ℕ)) (types : List KeyType) → length xs ≡ length types → kinds_of (variables xs types) ≡ map key_kind types
key_variables [] [] h = refl
key_variables [] (type ∷ types) h = absurd (omega (arith, h))
key_variables (x ∷ xs) [] h = absurd (omega (arith, h))
key_variables (x ∷ xs) (type ∷ types) h = ap (λ ks. key_kind type ∷ ks) (key_variables xs types (omega (arith, h)))

room_for : (scope : Scope) (xs : List (List ℕ)) → declared scope xs ≡ [] → length scope.visible + length xs ≤ 64
room_for scope xs h = leb-true _ _ (holds (nat_le (length scope.visible + length xs) most_visible) 12 (none_of_two (unless (not (is_repeated xs || any_used scope xs)) 1) _ h).1)

-- ---- statements without blocks

truth : (scope : Scope) (a : Judged) → IsJudged scope a → condition_rules a ≡ [] → HasKind scope.schema (kinds_of scope.visible) a.typed Truth
truth scope a j h =
    let two = none_of_two a.rules _ h in
    subst (HasKind scope.schema (kinds_of scope.visible) a.typed) (sym (same_kind_is Truth a.kind (holds_of_kind (same_kind Truth) 9 a two.0 two.1))) (j two.0)

define_settled : (scope : Scope) (x : List ℕ) (a : Judged) (lines : List ℕ) → IsJudged scope a → IsSettled scope scope.visible (settle_define scope x a scope.visible lines)
define_settled scope x a lines j h =
    let two = none_of_two (declared scope (x ∷ [])) a.rules h.0 in
    let room : length scope.visible + 1 ≤ 64 = room_for scope (x ∷ []) two.0 in
    subst (IsStatement scope.schema (kinds_of scope.visible) (s.Store (first_line lines) (length scope.visible) a.typed)) (sym (kinds_behind scope.visible (variable x a.kind ∷ [])))
    (kinds.declare (kinds_of scope.visible) (first_line lines) (length scope.visible) a.typed a.kind (line_fits lines) (as_many scope.visible) (omega (arith, room)) (j two.1))

found_entity : (schema : Schema) (n : List ℕ) (number : ℕ) → entity_of schema n ≡ Some number → (entity : Entity) × (entity_at schema number ≡ Some entity)
found_entity schema n number h = let r = found _ schema.entities number h in (r.0, r.1)

create_settled : (scope : Scope) (x n : List ℕ) (keys : List Judged) (lines : List ℕ) (number : Option ℕ) → entity_of scope.schema n ≡ number → AllByRecursion (IsJudged scope) keys → IsSettled scope scope.visible (settle_create scope x number keys scope.visible lines)
create_settled scope x n keys lines None f j h = let two = none_of_two (declared scope (x ∷ [])) _ h.0 in let e = two.1 in cc
create_settled scope x n keys lines (Some number) f j h =
    let two = none_of_two (declared scope (x ∷ [])) (creation_rules scope (Some number) keys) h.0 in
    let room : length scope.visible + 1 ≤ 64 = room_for scope (x ∷ []) two.0 in
    let r = found_entity scope.schema n number f in
    subst (IsStatement scope.schema (kinds_of scope.visible) (s.Create (first_line lines) (length scope.visible) number (typed_keys keys))) (sym (kinds_behind scope.visible (variable x (Id number) ∷ [])))
    (kinds.create (kinds_of scope.visible) (first_line lines) (length scope.visible) number r.0 (typed_keys keys) (line_fits lines) (as_many scope.visible) (omega (arith, room)) r.1
    (keys_have_kinds scope r.0.keys keys j (subst (λ there. key_rules (keys_of_entity there) keys ≡ []) r.1 two.1)))

assign_settled : (scope : Scope) (x : List ℕ) (a : Judged) (lines : List ℕ) (slot : Option ℕ) → slot_of scope.visible x ≡ slot → IsJudged scope a
    → IsSettled scope scope.visible (plain (assignment_rules scope slot a) (s.Store (first_line lines) (number_or_zero slot) a.typed) scope.visible lines)
assign_settled scope x a lines None f j h = let e = h.0 in cc
assign_settled scope x a lines (Some slot) f j h =
    let two = none_of_two a.rules _ h.0 in
    let same : kind_at scope.visible slot ≡ a.kind = same_kind_is _ a.kind (holds_of_kind (same_kind (kind_at scope.visible slot)) 8 a two.0 two.1) in
    kinds.assign (kinds_of scope.visible) (first_line lines) slot a.typed a.kind (line_fits lines) (slot_there scope.visible x slot f ∙ ap Some same) (j two.0)

argument_fits : (op : Operation) (v : ValueKind) → has_operation op v ≡ true → fits_cell (typed_operation op) v (argument_kind op (kind_of_value v)) ≡ true
argument_fits o.Add Number h = refl
argument_fits o.Add Words h = cc
argument_fits o.Set Number h = refl
argument_fits o.Set Words h = refl
argument_fits o.SetIfEmpty Number h = cc
argument_fits o.SetIfEmpty Words h = refl

operation_fits : (scope : Scope) (number : ℕ) (op : Operation) (a : Judged) → a.rules ≡ [] → operation_rules scope (Some number) op a ≡ [] → fits_cell (typed_operation op) (value_kind (cell_type scope.schema number)) a.kind ≡ true
operation_fits scope number op a n h =
    let two = none_of_two (unless (has_operation op (value_kind (cell_type scope.schema number))) 6) _ h in
    let same : argument_kind op (cell_kind (cell_type scope.schema number)) ≡ a.kind = same_kind_is _ a.kind (holds_of_kind (same_kind (argument_kind op (cell_kind (cell_type scope.schema number)))) 7 a n two.1) in
    subst (λ k. fits_cell (typed_operation op) (value_kind (cell_type scope.schema number)) k ≡ true) same (argument_fits op (value_kind (cell_type scope.schema number)) (holds (has_operation op (value_kind (cell_type scope.schema number))) 6 two.0))

update_settled : (scope : Scope) (t : Target) (op : Operation) (a : Judged) (lines : List ℕ) → (t.rules ≡ [] → IsAimed scope t) → IsJudged scope a → IsSettled scope scope.visible (plain (update_rules scope t op a) (typed_update (first_line lines) t op a) scope.visible lines)
update_settled scope t op a lines aims j h =
    let two = none_of_two t.rules (a.rules ++ operation_rules scope t.property op a) h.0 in
    let three = none_of_two a.rules (operation_rules scope t.property op a) two.1 in
    let is = aims two.0 in
    let fits = operation_fits scope is.number op a three.0 (subst (λ n. operation_rules scope n op a ≡ []) is.names three.1) in
    subst (λ n. IsStatement scope.schema (kinds_of scope.visible) (s.Update (first_line lines) (number_or_zero n) t.keys (typed_operation op) a.typed) (kinds_of scope.visible)) (sym is.names)
    (kinds.update (kinds_of scope.visible) (first_line lines) is.number is.property t.keys (typed_operation op) a.typed a.kind (line_fits lines) is.there is.keys
    (subst (λ c. fits_cell (typed_operation op) (value_kind c) a.kind ≡ true) (type_at scope.schema is.number is.property is.there) fits) (j three.0))

delete_kind : (scope : Scope) (slot : ℕ) (kind : Kind) (lines : List ℕ) → slice_get (kinds_of scope.visible) slot ≡ Some kind → unless (is_some (entity_of_kind kind)) 7 ≡ []
    → IsStatement scope.schema (kinds_of scope.visible) (s.Delete (first_line lines) slot (number_or_zero (entity_of_kind kind))) (kinds_of scope.visible)
delete_kind scope slot Int lines there h = cc
delete_kind scope slot Text lines there h = cc
delete_kind scope slot Truth lines there h = cc
delete_kind scope slot (Id entity) lines there h = kinds.delete (kinds_of scope.visible) (first_line lines) slot entity (line_fits lines) there

delete_settled : (scope : Scope) (x : List ℕ) (lines : List ℕ) (slot : Option ℕ) → slot_of scope.visible x ≡ slot → IsSettled scope scope.visible (plain (deletion_rules scope slot) (typed_deletion (first_line lines) scope slot) scope.visible lines)
delete_settled scope x lines None f h = let e = h.0 in cc
delete_settled scope x lines (Some slot) f h = delete_kind scope slot (kind_at scope.visible slot) lines (slot_there scope.visible x slot f) h.0

-- ---- statements with blocks

if_settled : (scope : Scope) (a : Judged) (first : List Settles) (second : Option (List Settles)) (lines : List ℕ) → IsJudged scope a
    → ((l : List ℕ) → IsWalked scope scope.visible (walk first scope.visible l)) → ((ss : List Settles) → second ≡ Some ss → (l : List ℕ) → IsWalked scope scope.visible (walk ss scope.visible l))
    → IsSettled scope scope.visible (settle_if (condition_rules a) a.typed first second scope.visible lines)
if_settled scope a first None lines j b c h = kinds.if_only (kinds_of scope.visible) (first_line lines) a.typed _ (line_fits lines) (truth scope a j h.0) (b (next_lines lines) h.1)
if_settled scope a first (Some second) lines j b c h =
    let one = walk first scope.visible (next_lines lines) in
    let two = walk second scope.visible one.lines in
    let clean = both_parts (λ (item : ItemRules). item.rules ≡ []) one.items two.items h.1 in
    kinds.if_else (kinds_of scope.visible) (first_line lines) a.typed one.typed two.typed (line_fits lines) (truth scope a j h.0) (b (next_lines lines) clean.0) (c second refl one.lines clean.1)

while_settled : (scope : Scope) (a : Judged) (lines : List ℕ) (block : Walked) → IsJudged scope a → IsWalked scope scope.visible block
    → IsSettled scope scope.visible (with_block (condition_rules a) (s.While (first_line lines) a.typed) scope.visible lines block)
while_settled scope a lines block j b h = kinds.while (kinds_of scope.visible) (first_line lines) a.typed block.typed (line_fits lines) (truth scope a j h.0) (b h.1)

all_settled : (scope : Scope) (x n : List ℕ) (block : List Settles) (lines : List ℕ) (number : Option ℕ) → entity_of scope.schema n ≡ number → ((visible : List Variable) (l : List ℕ) → IsWalked scope visible (walk block visible l))
    → IsSettled scope scope.visible (settle_all scope x number block scope.visible lines)
all_settled scope x n block lines None f b h = let two = none_of_two (declared scope (x ∷ [])) _ h.0 in let e = two.1 in cc
all_settled scope x n block lines (Some number) f b h =
    let two = none_of_two (declared scope (x ∷ [])) (entity_rules (Some number)) h.0 in
    let room : length scope.visible + 1 ≤ 64 = room_for scope (x ∷ []) two.0 in
    let r = found_entity scope.schema n number f in
    let inner = scope.visible ++ variable x (Id number) ∷ [] in
    kinds.for_all (kinds_of scope.visible) (first_line lines) (length scope.visible) number r.0 _ (line_fits lines) (as_many scope.visible) (omega (arith, room)) r.1
    (subst (λ ks. IsBlock scope.schema ks (walk block inner (next_lines lines)).typed) (kinds_behind scope.visible (variable x (Id number) ∷ [])) (b inner (next_lines lines) h.1))

-- entries are those of an array's property, with a name for each key
entries_other : (scope : Scope) (xs : List (List ℕ)) (n p : List ℕ) (global : Option ℕ) → entries_of_other scope xs n p global ≡ [] → entries_of_array scope xs (property_of scope.schema (owner.Array n) p) ≡ []
entries_other scope xs n p None h = h
entries_other scope xs n p (Some global) h = cc

entries_array : (scope : Scope) (xs : List (List ℕ)) (n p : List ℕ) (entity : Option ℕ) → entries_of scope xs n p entity ≡ [] → entries_of_array scope xs (property_of scope.schema (owner.Array n) p) ≡ []
entries_array scope xs n p None h = entries_other scope xs n p (property_of scope.schema owner.Global n) h
entries_array scope xs n p (Some entity) h = let two = none_of_two (unless (is_some (property_of scope.schema (owner.Entity entity) p)) 2) (10 ∷ []) h in let e = two.1 in cc

entries_settled : (scope : Scope) (xs : List (List ℕ)) (n p : List ℕ) (block : List Settles) (lines : List ℕ) (number : Option ℕ) → property_of scope.schema (owner.Array n) p ≡ number
    → ((visible : List Variable) (l : List ℕ) → IsWalked scope visible (walk block visible l)) → IsSettled scope scope.visible (settle_entries scope xs n p number block scope.visible lines)
entries_settled scope xs n p block lines None f b h =
    let two = none_of_two (declared scope xs) (entries_rules scope xs n p) h.0 in
    let none = subst (λ o. entries_of_array scope xs o ≡ []) f (entries_array scope xs n p (entity_of scope.schema n) two.1) in cc
entries_settled scope xs n p block lines (Some number) f b h =
    let two = none_of_two (declared scope xs) (entries_rules scope xs n p) h.0 in
    let r = found_property scope.schema (owner.Array n) p number f in
    let none = subst (λ o. entries_of_array scope xs o ≡ []) f (entries_array scope xs n p (entity_of scope.schema n) two.1) in
    let many : length xs ≡ length r.0.keys = eqb-true _ _ (holds (length xs == length r.0.keys) 4 (subst (λ o. unless (length xs == length (keys_of_property o)) 4 ≡ []) r.1 none)) in
    let room = room_for scope xs two.0 in
    let inner = scope.visible ++ variables xs r.0.keys in
    let walked : Walked = walk block (scope.visible ++ variables xs (keys_of_property (property_at scope.schema number))) (next_lines lines) in
    kinds.for_entries (kinds_of scope.visible) (first_line lines) (length scope.visible) number r.0 walked.typed (line_fits lines) (as_many scope.visible) (omega (arith, room, many)) r.1
    (subst (λ ks. IsBlock scope.schema ks walked.typed) (ap (λ o. kinds_of (scope.visible ++ variables xs (keys_of_property o))) r.1 ∙ kinds_behind scope.visible (variables xs r.0.keys) ∙ ap (λ ks. kinds_of scope.visible ++ ks) (key_variables xs r.0.keys many))
    (b (scope.visible ++ variables xs (keys_of_property (property_at scope.schema number))) (next_lines lines) h.1))

-- ---- statements

place_keys : (scope : Scope) → IsSchema scope.schema → (p : Place Written) → AllByRecursion IsFitWord (words (written.Place p)) → AreKeysJudged scope (judge_place scope p)
place_keys scope is (place.Name x) w = tt
place_keys scope is (place.Field x p) w = tt
place_keys scope is (place.Entry a keys p) w = keys_judged scope is keys (both_parts IsFitWord (joined (map words keys)) _ (subst (AllByRecursion IsFitWord) (words_place_entry a keys p) w).1).0

abbrev Claim : Scope → Written_statement → Type 0
Claim scope x = AllByRecursion IsFitWord (statement_words x) → (visible : List Variable) (lines : List ℕ) → IsSettled scope visible (settle scope x visible lines)

-- statements: claims beside each
abbrev Claimed : Scope → Type 0
Claimed scope = (x : Written_statement) × Claim scope x

abbrev parts : (scope : Scope) → Statement-F (Claimed scope) → Statement-F Written_statement
parts scope y = map-Statement (Claimed scope) Written_statement (λ p. p.0) y

claimed_block : (scope : Scope) (body : List (Claimed scope)) → AllByRecursion IsFitWord (joined (map statement_words (map (λ p. p.0) body))) → (visible : List Variable) (lines : List ℕ) → IsWalked scope visible (walk (map (settle scope) (map (λ p. p.0) body)) visible lines)
claimed_block scope [] w visible lines h = kinds.end (kinds_of visible)
claimed_block scope (x ∷ body) w visible lines h =
    let fit = both_parts IsFitWord (statement_words x.0) (joined (map statement_words (map (λ p. p.0) body))) w in
    let first = settle scope x.0 visible lines in
    let rest = walk (map (settle scope) (map (λ p. p.0) body)) first.visible first.lines in
    let clean = both_parts (λ (item : ItemRules). item.rules ≡ []) first.items rest.items h in
    kinds.next (kinds_of visible) (kinds_of first.visible) first.typed rest.typed (x.1 fit.0 visible lines clean.0) (claimed_block scope body fit.1 first.visible first.lines clean.1)

claimed_else : (scope : Scope) (second : List (Claimed scope)) (visible : List Variable) → AllByRecursion IsFitWord (joined (map statement_words (map (λ p. p.0) second))) → (ss : List Settles) → Some (map (settle scope) (map (λ p. p.0) second)) ≡ Some ss
    → (l : List ℕ) → IsWalked scope visible (walk ss visible l)
claimed_else scope second visible w ss e l = let same : map (settle scope) (map (λ p. p.0) second) ≡ ss = cc in subst (λ ss. IsWalked scope visible (walk ss visible l)) same (claimed_block scope second w visible l)

step_settled : (scope : Scope) → IsSchema scope.schema → (y : Statement-F (Claimed scope)) → AllByRecursion IsFitWord (statement_words_step (map-Statement Written_statement (List Token) statement_words (parts scope y))) → (visible : List Variable) (lines : List ℕ)
    → IsSettled scope visible (settle_step scope (map-Statement Written_statement Settles (settle scope) (parts scope y)) visible lines)
step_settled scope is (Statement-F.Define x a) w visible lines h = let here = scope_of scope visible in define_settled here x (judge here a) lines (judged here is a w.1) h
step_settled scope is (Statement-F.Create x n keys) w visible lines h = let here = scope_of scope visible in create_settled here x n (map (judge here) keys) lines (entity_of scope.schema n) refl (keys_judged here is keys w.1.1) h
step_settled scope is (Statement-F.Assign x a) w visible lines h = let here = scope_of scope visible in assign_settled here x (judge here a) lines (slot_of visible x) refl (judged here is a w.1) h
step_settled scope is (Statement-F.Update p op a) w visible lines h =
    let here = scope_of scope visible in
    let fit = both_parts IsFitWord (words (written.Place p)) (words a) w in
    update_settled here (target here (judge_place here p)) op (judge here a) lines (target_aimed here is (judge_place here p) (place_keys here is p fit.0)) (judged here is a fit.1) h
step_settled scope is (Statement-F.Delete x) w visible lines h = delete_settled (scope_of scope visible) x lines (slot_of visible x) refl h
step_settled scope is (Statement-F.If a first None) w visible lines h =
    let here = scope_of scope visible in
    let fit = both_parts IsFitWord (words a) _ w in
    let one = both_parts IsFitWord (joined (map statement_words (map (λ p. p.0) first))) [] fit.1 in
    if_settled here (judge here a) _ None lines (judged here is a fit.0) (claimed_block scope first one.0 visible) (λ ss e. cc) h
step_settled scope is (Statement-F.If a first (Some second)) w visible lines h =
    let here = scope_of scope visible in
    let fit = both_parts IsFitWord (words a) _ w in
    let two = both_parts IsFitWord (joined (map statement_words (map (λ p. p.0) first))) (joined (map statement_words (map (λ p. p.0) second))) fit.1 in
    if_settled here (judge here a) _ (Some _) lines (judged here is a fit.0) (claimed_block scope first two.0 visible) (claimed_else scope second visible two.1) h
step_settled scope is (Statement-F.While a body) w visible lines h =
    let here = scope_of scope visible in
    let fit = both_parts IsFitWord (words a) _ w in
    while_settled here (judge here a) lines (walk _ visible (next_lines lines)) (judged here is a fit.0) (claimed_block scope body fit.1 visible (next_lines lines)) h
step_settled scope is (Statement-F.ForAll x n body) w visible lines h = all_settled (scope_of scope visible) x n _ lines (entity_of scope.schema n) refl (claimed_block scope body w.1.1) h
step_settled scope is (Statement-F.ForEntries xs n p body) w visible lines h =
    let fit = both_parts IsFitWord (names xs) _ w in
    entries_settled (scope_of scope visible) xs n p _ lines (property_of scope.schema (owner.Array n) p) refl (claimed_block scope body fit.1.1.1) h
step_settled scope is (Statement-F.Print a) w visible lines h =
    let here = scope_of scope visible in
    kinds.print (kinds_of visible) (first_line lines) (judge here a).typed (judge here a).kind (line_fits lines) (judged here is a w h.0)
step_settled scope is Statement-F.Yield w visible lines h = kinds.yield (kinds_of visible) (first_line lines) (line_fits lines)
step_settled scope is Statement-F.Flush w visible lines h = kinds.flush (kinds_of visible) (first_line lines) (line_fits lines)

pub settled : (scope : Scope) → IsSchema scope.schema → (x : Written_statement) → AllByRecursion IsFitWord (statement_words x) → (visible : List Variable) (lines : List ℕ) → IsSettled scope visible (settle scope x visible lines)
settled scope is = ind-Statement (Claim scope) (λ x y e w visible lines.
    subst (λ f. IsSettled scope visible (f visible lines)) (sym (fold-roll-Statement Settles (settle_step scope) x))
    (subst (λ z. AllByRecursion IsFitWord (statement_words_step (map-Statement Written_statement (List Token) statement_words z)) → IsSettled scope visible (settle_step scope (map-Statement Written_statement Settles (settle scope) z) visible lines)) e
    (λ fit. step_settled scope is y fit visible lines) (subst (AllByRecursion IsFitWord) (fold-roll-Statement (List Token) statement_words_step x) w)))

pub body_settled : (scope : Scope) → IsSchema scope.schema → (body : List Written_statement) → AllByRecursion IsFitWord (body_words body) → (visible : List Variable) (lines : List ℕ) → IsWalked scope visible (settle_block scope body visible lines)
body_settled scope is [] w visible lines h = kinds.end (kinds_of visible)
body_settled scope is (x ∷ body) w visible lines h =
    let fit = both_parts IsFitWord (statement_words x) (body_words body) w in
    let first = settle scope x visible lines in
    let rest = settle_block scope body first.visible first.lines in
    let clean = both_parts (λ (item : ItemRules). item.rules ≡ []) first.items rest.items h in
    kinds.next (kinds_of visible) (kinds_of first.visible) first.typed rest.typed (settled scope is x fit.0 visible lines clean.0) (body_settled scope is body fit.1 first.visible first.lines clean.1)
