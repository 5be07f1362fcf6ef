-- The items of a source with the rules that fail there, and its typed program.
-- Rules have their numbers: 1 names that are taken, 11 whose turn it is.
use Rattle.std.specs.Prelude.{ℕ, not, List, [], ◌∷◌, ◌++◌, map, Option, Some, None}
use Rattle.std.specs.Str.{bytes_eq}
use Rattle.cloud_base.specs.declared.schedule.ScheduleItem.{ScheduleItem}
use Rattle.cloud_base.specs.declared.schedule.ScheduleItem.TheVariants as item
use Rattle.source_tree.specs.declared.program.Client.{Client}
use Rattle.source_tree.specs.declared.program.Declaration.{Declaration}
use Rattle.source_tree.specs.declared.program.Item.{Item}
use Rattle.source_tree.specs.declared.program.Item.TheVariants as i
use Rattle.source_tree.specs.declared.program.Program.{Program}
use Rattle.typed_program.specs.declared.program.Parts.{Parts}
use Rattle.typed_program.specs.declared.statement.Statement.{Statement}
use Rattle.kind_rules.specs.Names.{Scope, first_place, is_among}
use Rattle.kind_rules.specs.Expressions.{unless}
use Rattle.kind_rules.specs.Statements.{ItemRules, first_line, next_lines, Walked, settle_block, number_or_zero}
use Rattle.kind_rules.specs.Declarations.{declared_names, rules_from, schema_of}

-- each list of rules at its line, and the lines behind them
abbrev pub at_lines : List ℕ → List (List ℕ) → List ItemRules
at_lines lines [] = []
at_lines lines (rules ∷ rest) = record { line = first_line lines; rules = rules } ∷ at_lines (next_lines lines) rest

abbrev pub lines_behind : {A : Type 0} → List A → List ℕ → List ℕ
lines_behind [] lines = lines
lines_behind (x ∷ xs) lines = lines_behind xs (next_lines lines)

abbrev pub client_names : List Client → List (List ℕ)
client_names clients = map (λ (c : Client). c.name) clients

-- what the bodies stand in: all that is declared, and no variable
abbrev pub whole_scope : List Declaration → Scope
whole_scope ds = record { schema = schema_of ds; taken = declared_names ds; visible = [] }

abbrev pub client_item : List (List ℕ) → Client → List ℕ → ItemRules
client_item earlier c lines = record { line = first_line lines; rules = unless (not (is_among c.name earlier)) 1 }

-- what comes of clients
pub record Bodies : Type 0 where
  pub items : List ItemRules
  pub typed : List (List Statement)
  pub lines : List ℕ

abbrev pub next_body : ItemRules → Walked → Bodies → Bodies
next_body item body rest = record { items = item ∷ (body.items ++ rest.items); typed = body.typed ∷ rest.typed; lines = rest.lines }

abbrev pub settle_clients : Scope → List (List ℕ) → List Client → List ℕ → Bodies
settle_clients scope earlier [] lines = record { items = []; typed = []; lines = lines }
settle_clients scope earlier (c ∷ cs) lines = next_body (client_item earlier c lines) (settle_block scope c.body [] (next_lines lines)) (settle_clients scope (earlier ++ c.name ∷ []) cs (settle_block scope c.body [] (next_lines lines)).lines)

abbrev pub item_name : Item → List ℕ
item_name (i.Steps n count) = n
item_name (i.Serve n fate) = n

abbrev pub turn_rules : List (List ℕ) → Item → List ℕ
turn_rules clients one = unless (is_among (item_name one) clients) 11

abbrev pub client_number : List (List ℕ) → List ℕ → ℕ
client_number clients n = number_or_zero (first_place (λ x. bytes_eq x n) clients)

abbrev pub typed_item : List (List ℕ) → Item → ScheduleItem
typed_item clients (i.Steps n count) = item.Steps (client_number clients n) count
typed_item clients (i.Serve n fate) = item.Serve (client_number clients n) fate

abbrev pub items_in : Option (List Item) → List Item
items_in None = []
items_in (Some items) = items

abbrev pub bodies_of : Program → List ℕ → Bodies
bodies_of p lines = settle_clients (whole_scope p.declarations) [] p.clients (lines_behind p.declarations lines)

-- the items of a source in order, each at its line
abbrev pub items_of : Program → List ℕ → List ItemRules
items_of p lines = at_lines lines (rules_from [] p.declarations) ++ ((bodies_of p lines).items ++ at_lines (bodies_of p lines).lines (map (turn_rules (client_names p.clients)) (items_in p.schedule)))

-- the typed program of a source
abbrev pub typed : Program → List ℕ → Parts
typed p lines = record {
  schema = schema_of p.declarations;
  names = client_names p.clients;
  bodies = (bodies_of p lines).typed;
  schedule = map (typed_item (client_names p.clients)) (items_in p.schedule);
}
