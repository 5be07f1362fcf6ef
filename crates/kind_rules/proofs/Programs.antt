-- A source in which no rule fails is a program.
use Rattle.std.proofs.Common.{◌≡◌, refl, sym, ap, subst, arith, append_assoc, append-nil}
use Rattle.std.proofs.lemmas.Bool.{not-true}
use Rattle.std.proofs.lemmas.List.Elements.{All-from_recursion}
use Rattle.std.specs.Prelude.{ℕ, suc, ◌≤◌, ◌<◌, not, true, List, [], ◌∷◌, ◌++◌, length, map, None}
use Rattle.std.specs.List.{AllByRecursion, flat_map}
use Rattle.cloud_base.specs.Values.{IsName}
use Rattle.cloud_base.specs.Shaped.{IsSchema}
use Rattle.source_tokens.specs.declared.token.Token.{Token}
use Rattle.source_tree.specs.Limits.{IsTree}
use Rattle.source_tree.specs.Programs.{SpellsProgram, program}
use Rattle.source_tree.specs.Words.{declaration_words, client_words, schedule_words, program_words}
use Rattle.source_tree.specs.declared.program.Client.{Client}
use Rattle.source_tree.specs.declared.program.Item.{Item}
use Rattle.source_tree.specs.declared.program.Item.TheVariants as i
use Rattle.source_tree.specs.declared.program.Program.{Program}
use Rattle.typed_program.specs.Kinds.{IsBody}
use Rattle.typed_program.specs.Programs.{IsProgram, item_client}
use Rattle.kind_rules.specs.Answers.{first_fault}
use Rattle.kind_rules.specs.Declarations.{rules_from}
use Rattle.kind_rules.specs.Names.{Scope, is_among}
use Rattle.kind_rules.specs.Programs.{at_lines, lines_behind, client_names, whole_scope, settle_clients, turn_rules, client_number, typed_item, items_in, bodies_of, items_of, typed}
use Rattle.kind_rules.specs.Statements.{ItemRules, next_lines, settle_block, number_or_zero}
use Rattle.kind_rules.specs.Words.{IsFitWord}
use Rattle.kind_rules.proofs.Apart.{Differ, differ_at, one_more_differs, mapped_hold, hold_mapped, map_length}
use Rattle.kind_rules.proofs.Declarations.{AreEmpty}
use Rattle.kind_rules.proofs.Finds.{found, both_parts, in_range, among_found}
use Rattle.kind_rules.proofs.Rules.{AllClean, clean_without_fault, holds}
use Rattle.kind_rules.proofs.Schemas.{declared_schema, declared_told}
use Rattle.kind_rules.proofs.Statements.{body_settled}

abbrev IsClean : ItemRules → Type 0
IsClean item = item.rules ≡ []

clean_at_lines : (lines : List ℕ) (rules : List (List ℕ)) → AllClean (at_lines lines rules) → AreEmpty rules
clean_at_lines lines [] h = tt
clean_at_lines lines (r ∷ rules) h = (h.0, clean_at_lines (next_lines lines) rules h.1)

-- ---- clients

clients_differ : (scope : Scope) (earlier : List (List ℕ)) (cs : List Client) (lines : List ℕ) → Differ earlier → AllClean (settle_clients scope earlier cs lines).items → Differ (earlier ++ client_names cs)
clients_differ scope earlier [] lines d h = subst Differ (sym (append-nil earlier)) d
clients_differ scope earlier (c ∷ cs) lines d h =
    let body = settle_block scope c.body [] (next_lines lines) in
    let fresh = not-true (is_among c.name earlier) (holds (not (is_among c.name earlier)) 1 h.0) in
    let rest = both_parts IsClean body.items (settle_clients scope (earlier ++ c.name ∷ []) cs body.lines).items h.1 in
    subst Differ (append_assoc earlier (c.name ∷ []) (client_names cs)) (clients_differ scope (earlier ++ c.name ∷ []) cs body.lines (one_more_differs earlier c.name d fresh) rest.1)

clients_bodies : (scope : Scope) → IsSchema scope.schema → (earlier : List (List ℕ)) (cs : List Client) (lines : List ℕ) → AllByRecursion IsFitWord (flat_map client_words cs) → AllClean (settle_clients scope earlier cs lines).items
    → AllByRecursion (IsBody scope.schema) (settle_clients scope earlier cs lines).typed
clients_bodies scope is earlier [] lines w h = tt
clients_bodies scope is earlier (c ∷ cs) lines w h =
    let body = settle_block scope c.body [] (next_lines lines) in
    let clean = both_parts IsClean body.items (settle_clients scope (earlier ++ c.name ∷ []) cs body.lines).items h.1 in
    let fit = both_parts IsFitWord (client_words c) (flat_map client_words cs) w in
    (body_settled scope is c.body fit.0.1 [] (next_lines lines) clean.0, clients_bodies scope is (earlier ++ c.name ∷ []) cs body.lines fit.1 clean.1)

as_many_bodies : (scope : Scope) (earlier : List (List ℕ)) (cs : List Client) (lines : List ℕ) → length (settle_clients scope earlier cs lines).typed ≡ length (client_names cs)
as_many_bodies scope earlier [] lines = refl
as_many_bodies scope earlier (c ∷ cs) lines = ap suc (as_many_bodies scope (earlier ++ c.name ∷ []) cs (settle_block scope c.body [] (next_lines lines)).lines)

clients_named : (cs : List Client) → AllByRecursion IsFitWord (flat_map client_words cs) → AllByRecursion IsName (client_names cs)
clients_named [] w = tt
clients_named (c ∷ cs) w = let fit = both_parts IsFitWord (client_words c) (flat_map client_words cs) w in (fit.0.0.0, clients_named cs fit.1)

some_client : (p : Program) (u : List Token) → SpellsProgram p u → 1 ≤ length (client_names p.clients)
some_client p u (program ds x xs plan _ _ _ h k l) = omega arith

-- ---- schedules

client_there : (clients : List (List ℕ)) (n : List ℕ) → is_among n clients ≡ true → client_number clients n < length clients
client_there clients n h =
    let place = among_found n clients h in
    let r = found _ clients place.0 place.1 in
    subst (λ k. k < length clients) (sym (ap number_or_zero place.1)) (in_range clients place.0 r.0 r.1)

turn_there : (clients : List (List ℕ)) (one : Item) → turn_rules clients one ≡ [] → item_client (typed_item clients one) < length clients
turn_there clients (i.Steps n count) h = client_there clients n (holds (is_among n clients) 11 h)
turn_there clients (i.Serve n fate) h = client_there clients n (holds (is_among n clients) 11 h)

-- ---- programs

pub clean_program : (p : Program) (lines : List ℕ) → IsTree p → AllByRecursion IsFitWord (program_words p) → AllClean (items_of p lines) → IsProgram (typed p lines)
clean_program p lines tree w h =
    let scope = whole_scope p.declarations in
    let bodies = bodies_of p lines in
    let names = client_names p.clients in
    let items = items_in p.schedule in
    let turns = map (turn_rules names) items in
    let two = both_parts IsClean (at_lines lines (rules_from [] p.declarations)) (bodies.items ++ at_lines bodies.lines turns) h in
    let three = both_parts IsClean bodies.items (at_lines bodies.lines turns) two.1 in
    let fit = both_parts IsFitWord (flat_map declaration_words p.declarations) (flat_map client_words p.clients ++ schedule_words p.schedule) w in
    let fit_clients = (both_parts IsFitWord (flat_map client_words p.clients) (schedule_words p.schedule) fit.1).0 in
    let declared = clean_at_lines lines (rules_from [] p.declarations) two.0 in
    let is = declared_schema p.declarations tree.within.names declared in
    let differ = clients_differ scope [] p.clients (lines_behind p.declarations lines) tt three.0 in
    let typed_turns = mapped_hold (λ item. item_client item < length names) (typed_item names) (turn_there names) items (hold_mapped (λ (r : List ℕ). r ≡ []) (turn_rules names) items (clean_at_lines bodies.lines turns three.1)) in
    record {
      schema = is;
      told = declared_told p.declarations fit.0 declared;
      some_client = some_client p tree.spelled.0 tree.spelled.1;
      few_clients = subst (λ n. n ≤ 8) (sym (map_length (λ (c : Client). c.name) p.clients)) tree.within.clients;
      names = All-from_recursion IsName names (clients_named p.clients fit_clients);
      names_differ = λ a b name at_a at_b. differ_at names a b name differ at_a at_b;
      as_many_bodies = as_many_bodies scope [] p.clients (lines_behind p.declarations lines);
      bodies = All-from_recursion (IsBody scope.schema) bodies.typed (clients_bodies scope is [] p.clients (lines_behind p.declarations lines) fit_clients three.0);
      schedule = All-from_recursion (λ item. item_client item < length names) (map (typed_item names) items) typed_turns;
    }

pub checked_program : ((p : Program) → IsTree p → AllByRecursion IsFitWord (program_words p)) → (p : Program) (lines : List ℕ) → IsTree p → first_fault (items_of p lines) ≡ None → IsProgram (typed p lines)
checked_program fit p lines tree h = clean_program p lines tree (fit p tree) (clean_without_fault (items_of p lines) h)
