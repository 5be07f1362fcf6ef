-- The items of a source together.
use Rattle.std.proofs.Common.{◌≡◌, ℕ, List, [], ◌++◌, map, Option, Some, None, sum, sym, ap, subst, ◌∙◌, ◌≤◌}
use Rattle.std.specs.List.{AllByRecursion, flat_map}
use Rattle.cloud_base.specs.declared.schedule.ScheduleItem.{ScheduleItem}
use Rattle.source_tree.specs.Limits.{steps_in, steps_count, most_steps}
use Rattle.source_tree.specs.Words.{program_words, declaration_words, client_words, schedule_words}
use Rattle.cloud_base.specs.declared.schema.Schema.{Schema}
use Rattle.source_tree.specs.declared.program.Client.{Client}
use Rattle.source_tree.specs.declared.program.Declaration.{Declaration}
use Rattle.source_tree.specs.declared.program.Item.{Item}
use Rattle.source_tree.specs.declared.program.Program.{Program}
use Rattle.typed_program.specs.declared.statement.Statement.{Statement}
use Rattle.kind_bodies.specs.declared.fault.KindFault.{KindFault}
use Rattle.kind_bodies.specs.declared.fault.KindFault.TheVariants as fault
use Rattle.kind_declarations.specs.Checks.{declarations_fault, Refuses}
use Rattle.kind_rules.specs.Answers.{first_fault}
use Rattle.kind_rules.specs.Declarations.{rules_from}
use Rattle.kind_rules.specs.Names.{Scope}
use Rattle.kind_rules.specs.Programs.{Bodies, at_lines, bodies_of, client_names, items_in, items_of, lines_behind, settle_clients, turn_rules, typed_item, typed, whole_scope}
use Rattle.kind_rules.specs.Statements.{ItemRules}
use Rattle.kind_rules.specs.Words.{IsFitWord}
use Rattle.kind_check.specs.Faults.{TellsFault}
use Rattle.kind_check.proofs.Faulty.{skip, tells_more, tells_same}
use Rattle.kind_check.proofs.Left.{all_first, all_second}

abbrev pub declaration_items : Program → List ℕ → List ItemRules
declaration_items p lines = at_lines lines (rules_from [] p.declarations)

abbrev pub schedule_items : Program → List ℕ → List ItemRules
schedule_items p lines = at_lines (bodies_of p lines).lines (map (turn_rules (client_names p.clients)) (items_in p.schedule))

told : (p : Program) (lines : List ℕ) (e : KindFault) → Refuses p.declarations lines e → TellsFault (declaration_items p lines) e
told p lines (fault.Rule rule line) h = h
told p lines fault.Memory h = tt

-- no rule fails at the declarations, and these are the scope and the lines behind them
pub record AreDeclared (p : Program) (lines : List ℕ) (declared : Scope) (rest : List ℕ) : Type 0 where
  pub clean : declarations_fault p.declarations lines ≡ None
  pub scope : declared ≡ whole_scope p.declarations
  pub behind : rest ≡ lines_behind p.declarations lines

pub are_declared : (p : Program) (lines : List ℕ) (declared : Scope) (rest : List ℕ) (ds : List Declaration) → ds ≡ p.declarations → (declarations_fault ds lines ≡ None) × (declared ≡ whole_scope ds) × (rest ≡ lines_behind ds lines) → AreDeclared p lines declared rest
are_declared p lines declared rest ds e h =
    let all = subst (λ xs. (declarations_fault xs lines ≡ None) × (declared ≡ whole_scope xs) × (rest ≡ lines_behind xs lines)) e h in
    record { clean = all.0; scope = all.1; behind = all.2 }

same_bodies : (p : Program) (lines : List ℕ) (declared : Scope) (rest : List ℕ) → AreDeclared p lines declared rest → settle_clients declared [] p.clients rest ≡ bodies_of p lines
same_bodies p lines declared rest d = ap (λ s. settle_clients s [] p.clients rest) d.scope ∙ ap (λ ls. settle_clients (whole_scope p.declarations) [] p.clients ls) d.behind

pub refused : (p : Program) (lines : List ℕ) (e : KindFault) → Refuses p.declarations lines e → TellsFault (items_of p lines) e
refused p lines e h = tells_more (declaration_items p lines) ((bodies_of p lines).items ++ schedule_items p lines) e (told p lines e h)

pub client_told : (p : Program) (lines : List ℕ) (declared : Scope) (rest : List ℕ) (e : KindFault) → AreDeclared p lines declared rest → TellsFault (settle_clients declared [] p.clients rest).items e → TellsFault (items_of p lines) e
client_told p lines declared rest e d h =
    let behind = (bodies_of p lines).items ++ schedule_items p lines in
    tells_same behind (items_of p lines) e (skip (declaration_items p lines) behind d.clean)
    (tells_more (bodies_of p lines).items (schedule_items p lines) e (subst (λ (b : Bodies). TellsFault b.items e) (same_bodies p lines declared rest d) h))

-- no rule fails at the clients either, and these are their bodies and the lines behind them
pub record AreSettled (p : Program) (lines : List ℕ) (bodies : List (List Statement)) (rest : List ℕ) : Type 0 where
  pub declared : declarations_fault p.declarations lines ≡ None
  pub clean : first_fault (bodies_of p lines).items ≡ None
  pub typed : bodies ≡ (bodies_of p lines).typed
  pub behind : rest ≡ (bodies_of p lines).lines

pub are_settled : (p : Program) (lines : List ℕ) (declared : Scope) (rest : List ℕ) (bodies : List (List Statement)) (behind : List ℕ) (cs : List Client) → AreDeclared p lines declared rest → cs ≡ p.clients → (first_fault (settle_clients declared [] cs rest).items ≡ None) × (bodies ≡ (settle_clients declared [] cs rest).typed) × (behind ≡ (settle_clients declared [] cs rest).lines) → AreSettled p lines bodies behind
are_settled p lines declared rest bodies behind cs d e h =
    let same = ap (λ xs. settle_clients declared [] xs rest) e ∙ same_bodies p lines declared rest d in
    let all = subst (λ (b : Bodies). (first_fault b.items ≡ None) × (bodies ≡ b.typed) × (behind ≡ b.lines)) same h in
    record { declared = d.clean; clean = all.0; typed = all.1; behind = all.2 }

pub are_turns : (p : Program) (rest : List ℕ) (schedule : List ScheduleItem) (cs : List Client) (items : List Item) → cs ≡ p.clients → items ≡ items_in p.schedule → (first_fault (at_lines rest (map (turn_rules (client_names cs)) items)) ≡ None) × (schedule ≡ map (typed_item (client_names cs)) items) → (first_fault (at_lines rest (map (turn_rules (client_names p.clients)) (items_in p.schedule))) ≡ None) × (schedule ≡ map (typed_item (client_names p.clients)) (items_in p.schedule))
are_turns p rest schedule cs items e f h =
    subst (λ xs. (first_fault (at_lines rest (map (turn_rules (client_names p.clients)) xs)) ≡ None) × (schedule ≡ map (typed_item (client_names p.clients)) xs)) f
    (subst (λ xs. (first_fault (at_lines rest (map (turn_rules (client_names xs)) items)) ≡ None) × (schedule ≡ map (typed_item (client_names xs)) items)) e h)

last_items : (p : Program) (lines : List ℕ) (bodies : List (List Statement)) (rest : List ℕ) → AreSettled p lines bodies rest → first_fault (items_of p lines) ≡ first_fault (at_lines rest (map (turn_rules (client_names p.clients)) (items_in p.schedule)))
last_items p lines bodies rest s =
    skip (declaration_items p lines) ((bodies_of p lines).items ++ schedule_items p lines) s.declared
    ∙ skip (bodies_of p lines).items (schedule_items p lines) s.clean
    ∙ ap (λ ls. first_fault (at_lines ls (map (turn_rules (client_names p.clients)) (items_in p.schedule)))) (sym s.behind)

pub turn_told : (p : Program) (lines : List ℕ) (bodies : List (List Statement)) (rest : List ℕ) (e : KindFault) → AreSettled p lines bodies rest → TellsFault (at_lines rest (map (turn_rules (client_names p.clients)) (items_in p.schedule))) e → TellsFault (items_of p lines) e
turn_told p lines bodies rest e s h = tells_same (at_lines rest (map (turn_rules (client_names p.clients)) (items_in p.schedule))) (items_of p lines) e (last_items p lines bodies rest s) h

pub no_fault : (p : Program) (lines : List ℕ) (bodies : List (List Statement)) (rest : List ℕ) → AreSettled p lines bodies rest → first_fault (at_lines rest (map (turn_rules (client_names p.clients)) (items_in p.schedule))) ≡ None → first_fault (items_of p lines) ≡ None
no_fault p lines bodies rest s h = last_items p lines bodies rest s ∙ h

pub same_parts : (p : Program) (lines : List ℕ) (declared : Scope) (rest : List ℕ) (schema : Schema) (names : List (List ℕ)) (bodies : List (List Statement)) (schedule : List ScheduleItem) → AreDeclared p lines declared rest → schema ≡ declared.schema → names ≡ client_names p.clients → bodies ≡ (bodies_of p lines).typed → schedule ≡ map (typed_item (client_names p.clients)) (items_in p.schedule) → record { schema = schema; names = names; bodies = bodies; schedule = schedule } ≡ typed p lines
same_parts p lines declared rest schema names bodies schedule d s n b t =
    let schemas = s ∙ ap (λ (x : Scope). x.schema) d.scope in cc

-- what a tree grants to each check
pub client_words_fit : (p : Program) → AllByRecursion IsFitWord (program_words p) → AllByRecursion IsFitWord (flat_map client_words p.clients)
client_words_fit p all = all_first IsFitWord (flat_map client_words p.clients) (schedule_words p.schedule) (all_second IsFitWord (flat_map declaration_words p.declarations) _ all)

few_items : (items : Option (List Item)) → steps_count items ≤ most_steps → sum (map steps_in (items_in items)) ≤ most_steps
few_items None few = few
few_items (Some items) few = few

pub few_turns : (p : Program) → steps_count p.schedule ≤ most_steps → sum (map steps_in (items_in p.schedule)) ≤ most_steps
few_turns p few = few_items p.schedule few
