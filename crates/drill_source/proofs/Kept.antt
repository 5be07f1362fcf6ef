-- No rule of kinds fails in a drill.
use Rattle.std.proofs.Common.{◌≡◌, ℕ, zero, suc, ◌/◌, ◌^◌, true, List, [], ◌∷◌, ◌++◌, map, refl, ap, sym, ◌∙◌, subst}
use Rattle.std.specs.Prelude.{codes, not, None}
use Rattle.std.specs.List.{AllByRecursion}
use Rattle.drill_text.specs.Drills.{amount_of}
use Rattle.kind_rules.proofs.Equations.{judge_number, judge_text, judge_truth, judge_at, settle_creation, settle_update, settle_deletion, settle_if_only, settle_for_all, settle_print, settle_yield, settle_flush}
use Rattle.kind_rules.specs.Answers.{lowest_rule, fault_with, first_fault}
use Rattle.kind_rules.specs.Expressions.{Judged, unless, fine, judge, target}
use Rattle.kind_rules.specs.Names.{Variable, Scope, is_among}
use Rattle.kind_rules.specs.Programs.{bodies_of, items_of, lines_behind, settle_clients, whole_scope}
use Rattle.kind_rules.specs.Statements.{ItemRules, Settled, variable, scope_of, condition_rules, update_rules, next_lines, settle, walk, walk_on}
use Rattle.source_tree.specs.declared.expression.Expression.TheVariants as e
use Rattle.source_tree.specs.declared.expression.Place.TheVariants as place
use Rattle.source_tree.specs.declared.program.Client.{Client}
use Rattle.source_tree.specs.declared.statement.Operation.TheVariants as o
use Rattle.source_tree.specs.declared.statement.Statement.TheVariants as s
use Rattle.typed_program.specs.declared.expression.Expression.TheVariants as typed
use Rattle.typed_program.specs.declared.expression.Kind.TheVariants.{Text, Id}
use Rattle.drill_source.proofs.Trees.{amount, key_bytes, create_block, group_tree, body_tree, client_name, client_tree, declarations, drill_tree}

-- no rule fails at any of the items
abbrev Clean : List ItemRules → Type 0
Clean items = AllByRecursion (λ (one : ItemRules). one.rules ≡ []) items

no_fault : (items : List ItemRules) → Clean items → first_fault items ≡ None
no_fault [] h = refl
no_fault (one ∷ items) h = ap (λ rules. fault_with one.line (lowest_rule rules) (first_fault items)) h.0 ∙ no_fault items h.1

joined : (u v : List ItemRules) → Clean u → Clean v → Clean (u ++ v)
joined [] v h i = i
joined (one ∷ u) v h i = (h.0, joined u v h.1 i)

-- ---- groups
abbrev scope : Scope
scope = whole_scope declarations

abbrev with_order : List Variable
with_order = variable (codes "o") (Id 0) ∷ []

-- no rule fails in a statement, which leaves no variable
record Keeps (one : Settled) : Type 0 where
  clean : Clean one.items
  none : one.visible ≡ []

total_rules : (n : ℕ) → update_rules scope (target scope (place.Name (codes "total"))) o.Add (judge scope (e.Number n)) ≡ []
total_rules n = ap (update_rules scope (target scope (place.Name (codes "total"))) o.Add) (judge_number scope n)

number_rules : (key : List ℕ) (n : ℕ) → update_rules scope (target scope (place.Entry (codes "Stock") (judge scope (e.Text key) ∷ []) (codes "n"))) o.Add (judge scope (e.Number n)) ≡ []
number_rules key n =
    ap (λ j. update_rules scope (target scope (place.Entry (codes "Stock") (j ∷ []) (codes "n"))) o.Add (judge scope (e.Number n))) (judge_text scope key)
    ∙ ap (update_rules scope (target scope (place.Entry (codes "Stock") (fine Text (typed.Text key) ∷ []) (codes "n"))) o.Add) (judge_number scope n)

note_rules : (key bytes : List ℕ) → update_rules scope (target scope (place.Entry (codes "Stock") (judge scope (e.Text key) ∷ []) (codes "note"))) o.SetIfEmpty (judge scope (e.Text bytes)) ≡ []
note_rules key bytes =
    ap (λ j. update_rules scope (target scope (place.Entry (codes "Stock") (j ∷ []) (codes "note"))) o.SetIfEmpty (judge scope (e.Text bytes))) (judge_text scope key)
    ∙ ap (update_rules scope (target scope (place.Entry (codes "Stock") (fine Text (typed.Text key) ∷ []) (codes "note"))) o.SetIfEmpty) (judge_text scope bytes)

count_rules : (n : ℕ) → update_rules (scope_of scope with_order) (target (scope_of scope with_order) (place.Field (codes "o") (codes "count"))) o.Add (judge (scope_of scope with_order) (e.Number n)) ≡ []
count_rules n = ap (update_rules (scope_of scope with_order) (target (scope_of scope with_order) (place.Field (codes "o") (codes "count"))) o.Add) (judge_number (scope_of scope with_order) n)

counted : (n : ℕ) (lines : List ℕ) → Clean (walk (settle scope (s.Update (place.Field (codes "o") (codes "count")) o.Add (e.Number n)) ∷ []) with_order lines).items
counted n lines =
    subst (λ (one : Settled). Clean (one.items ++ [])) (sym (settle_update scope (place.Field (codes "o") (codes "count")) o.Add (e.Number n) with_order lines)) (count_rules n, tt)

created : (x : ℕ) (lines : List ℕ) → Clean (walk (map (settle scope) (create_block x)) [] lines).items
created x lines =
    let more = settle scope (s.Update (place.Field (codes "o") (codes "count")) o.Add (e.Number (amount x))) in
    subst (λ (one : Settled). Clean (walk_on one (walk (more ∷ []) one.visible one.lines)).items) (sym (settle_creation scope (codes "o") (codes "Order") [] [] lines))
    (refl, counted (amount x) (next_lines lines))

deleted : (lines : List ℕ) → Clean (walk (settle scope (s.Delete (codes "o")) ∷ []) with_order lines).items
deleted lines = subst (λ (one : Settled). Clean (one.items ++ [])) (sym (settle_deletion scope (codes "o") with_order lines)) (refl, tt)

group : (bits x : ℕ) (lines : List ℕ) → Keeps (settle scope (group_tree bits x) [] lines)
group zero x lines =
    subst Keeps (sym (settle_update scope (place.Name (codes "total")) o.Add (e.Number (amount x)) [] lines)) (record { clean = (total_rules (amount x), tt); none = refl })
group (suc zero) x lines =
    subst Keeps (sym (settle_update scope (place.Entry (codes "Stock") (e.Text (key_bytes x) ∷ []) (codes "n")) o.Add (e.Number (amount x)) [] lines))
    (record { clean = (number_rules (key_bytes x) (amount x), tt); none = refl })
group (suc (suc zero)) x lines =
    subst Keeps (sym (settle_update scope (place.Entry (codes "Stock") (e.Text (key_bytes x) ∷ []) (codes "note")) o.SetIfEmpty (e.Text (amount_of x)) [] lines))
    (record { clean = (note_rules (key_bytes x) (amount_of x), tt); none = refl })
group (suc (suc (suc zero))) x lines =
    subst Keeps (sym (settle_if_only scope (e.Truth true) (create_block x) [] lines))
    (record { clean = (ap condition_rules (judge_truth scope true), created x (next_lines lines)); none = refl })
group (suc (suc (suc (suc zero)))) x lines =
    subst Keeps (sym (settle_print scope (e.Place (place.Name (codes "total"))) [] lines)) (record { clean = (ap (λ (j : Judged). j.rules) (judge_at scope (place.Name (codes "total"))), tt); none = refl })
group (suc (suc (suc (suc (suc zero))))) x lines =
    subst Keeps (sym (settle_for_all scope (codes "o") (codes "Order") (s.Delete (codes "o") ∷ []) [] lines)) (record { clean = (refl, deleted (next_lines lines)); none = refl })
group (suc (suc (suc (suc (suc (suc zero)))))) x lines = subst Keeps (sym (settle_yield scope [] lines)) (record { clean = (refl, tt); none = refl })
group (suc (suc (suc (suc (suc (suc (suc bits))))))) x lines = subst Keeps (sym (settle_flush scope [] lines)) (record { clean = (refl, tt); none = refl })

-- ---- clients
body : (xs lines : List ℕ) → Clean (walk (map (settle scope) (body_tree xs)) [] lines).items
body [] lines = subst (λ (one : Settled). Clean (one.items ++ [])) (sym (settle_flush scope [] lines)) (refl, tt)
body (x ∷ xs) lines =
    let one = settle scope (group_tree (x / 2 ^ 61) x) [] lines in
    let h = group (x / 2 ^ 61) x lines in
    joined one.items _ h.clean
    (subst (λ visible. Clean (walk (map (settle scope) (body_tree xs)) visible one.lines).items) (sym h.none) (body xs one.lines))

client : (earlier : List (List ℕ)) (c : ℕ) (xs : List ℕ) (clients : List Client) (lines : List ℕ) → unless (not (is_among (client_name c) earlier)) 1 ≡ []
    → ((later : List ℕ) → Clean (settle_clients scope (earlier ++ client_name c ∷ []) clients later).items) → Clean (settle_clients scope earlier (client_tree c xs ∷ clients) lines).items
client earlier c xs clients lines fresh more = (fresh, joined (walk (map (settle scope) (body_tree xs)) [] (next_lines lines)).items _ (body xs (next_lines lines)) (more _))

-- ---- the whole
abbrev names : ℕ → List (List ℕ)
names zero = []
names (suc n) = names n ++ client_name n ∷ []

clients_keep : (ks ls ms ns lines : List ℕ) → Clean (settle_clients scope [] (drill_tree ks ls ms ns).clients lines).items
clients_keep ks ls ms ns lines =
    let fourth = client_tree 3 ns ∷ [] in
    let third = client_tree 2 ms ∷ fourth in
    let second = client_tree 1 ls ∷ third in
    client (names 0) 0 ks second lines refl (λ a. client (names 1) 1 ls third a refl (λ b. client (names 2) 2 ms fourth b refl (λ c. client (names 3) 3 ns [] c refl (λ d. tt))))

pub kept : (ks ls ms ns lines : List ℕ) → first_fault (items_of (drill_tree ks ls ms ns) lines) ≡ None
kept ks ls ms ns lines =
    no_fault (items_of (drill_tree ks ls ms ns) lines)
    (refl, (refl, (refl, joined (bodies_of (drill_tree ks ls ms ns) lines).items [] (clients_keep ks ls ms ns (lines_behind declarations lines)) tt)))
