-- Worked examples of the definitions.
use Rattle.std.proofs.Common.{◌≡◌, refl, ℕ, zero, suc, ◌<◌, arith, List, [], ◌∷◌, true, false, pos, negsuc, codes}
use Rattle.std.proofs.lemmas.List.Elements.{All-from_recursion, All-nil}
use Rattle.cloud_base.specs.Values.{IsName}
use Rattle.std.specs.Fmt.{digits}
use Rattle.cloud_base.specs.declared.end.End.{End}
use Rattle.cloud_base.specs.declared.key.Key.{Key}
use Rattle.cloud_base.specs.declared.schema.CellType.{CellType}
use Rattle.cloud_base.specs.declared.schema.KeyType.{KeyType}
use Rattle.cloud_base.specs.declared.schema.Owner.{Owner}
use Rattle.cloud_base.specs.declared.schema.Schema.{Schema}
use Rattle.cloud_base.specs.declared.update.Answer.{Answer}
use Rattle.cloud_base.specs.declared.update.CellChange.{CellChange}
use Rattle.cloud_base.specs.declared.update.Query.{Query}
use Rattle.cloud_base.specs.declared.update.Update.{Update}
use Rattle.revision_diagram.specs.declared.step.Step.{Step}
use Rattle.step_text.specs.Values.{quoted, id_text, tuple_text, answer_text}
use Rattle.step_text.specs.Cells.{cell_text, property_text, update_text, query_text}
use Rattle.step_text.specs.Text.{client_name, step_line, steps_text, end_line, report_text}
use Rattle.step_text.specs.Legible.{Legible, IsProperty}
use Rattle.step_text.proofs.TellValues.{differ}

-- a quote and a backslash have a backslash before them
pub quoted_escapes : quoted (codes "a\"b\\c") ≡ codes "\"a\\\"b\\\\c\""
unfolding digits
quoted_escapes = refl

pub id_has_client_first : id_text (record { client = 2; serial = 10 }) ≡ codes "@2.10"
unfolding digits
id_has_client_first = refl

pub tuple_of_each_type : tuple_text (Key.Text (codes "a") ∷ Key.Int (pos 1) ∷ Key.Ref (record { client = 0; serial = 1 }) ∷ []) ≡ codes "(\"a\", 1, @0.1)"
unfolding digits
tuple_of_each_type = refl

pub tuple_of_none : tuple_text [] ≡ codes "()"
unfolding digits
tuple_of_none = refl

pub answer_least_integer : answer_text (Answer.Int (negsuc 9223372036854775807)) ≡ codes "-9223372036854775808"
unfolding digits
answer_least_integer = refl

pub answer_of_ids : answer_text (Answer.Ids (record { client = 0; serial = 0 } ∷ record { client = 0; serial = 1 } ∷ [])) ≡ codes "[@0.0, @0.1]"
unfolding digits
answer_of_ids = refl

pub answer_of_tuples : answer_text (Answer.Tuples ((Key.Text (codes "a") ∷ []) ∷ (Key.Text (codes "b") ∷ []) ∷ [])) ≡ codes "[(\"a\"), (\"b\")]"
unfolding digits
answer_of_tuples = refl

pub answer_of_nothing : answer_text (Answer.Tuples []) ≡ codes "[]"
unfolding digits
answer_of_nothing = refl

-- an array `Grocery` with integers as keys, an entity `Order`, a global `g`
abbrev shop : Schema
shop = record {
  properties =
      record { name = codes "g"; owner = Owner.Global; cell = CellType.Int; keys = [] }
      ∷ record { name = codes "quantity"; owner = Owner.Array (codes "Grocery"); cell = CellType.Int; keys = KeyType.Text ∷ [] }
      ∷ record { name = codes "count"; owner = Owner.Entity 0; cell = CellType.Int; keys = KeyType.Id 0 ∷ [] }
      ∷ [];
  entities = record { name = codes "Order"; keys = [] } ∷ [];
}

pub cell_of_global : cell_text shop 0 [] ≡ codes "g"
unfolding digits
cell_of_global = refl

pub cell_of_entity : cell_text shop 2 (Key.Ref (record { client = 0; serial = 1 }) ∷ []) ≡ codes "Order[@0.1].count"
unfolding digits
cell_of_entity = refl

pub add_to_cell : update_text shop (Update.Cell 1 (Key.Text (codes "milk") ∷ []) (CellChange.Add (pos 2))) ≡ codes "Grocery[\"milk\"].quantity.add(2)"
unfolding digits
add_to_cell = refl

pub create_without_keys : update_text shop (Update.Create (record { client = 0; serial = 0 }) 0 []) ≡ codes "new Order = @0.0"
unfolding digits
create_without_keys = refl

pub create_with_keys : update_text shop (Update.Create (record { client = 0; serial = 1 }) 0 (Key.Ref (record { client = 0; serial = 0 }) ∷ [])) ≡ codes "new Order[@0.0] = @0.1"
unfolding digits
create_with_keys = refl

pub delete_id : update_text shop (Update.Delete (record { client = 0; serial = 0 })) ≡ codes "delete @0.0"
unfolding digits
delete_id = refl

pub entries_of_array : query_text shop (Query.Entries 1) ≡ codes "entries Grocery.quantity"
unfolding digits
entries_of_array = refl

pub entries_of_global : query_text shop (Query.Entries 0) ≡ codes "entries g"
unfolding digits
entries_of_global = refl

pub entries_of_entity : query_text shop (Query.Entries 2) ≡ codes "entries Order.count"
unfolding digits
entries_of_entity = refl

abbrev clients : List (List ℕ)
clients = codes "ann" ∷ codes "bob" ∷ []

pub ask_line : step_line shop clients 1 (Step.Ask 11 (Query.All 0) (Answer.Ids (record { client = 0; serial = 1 } ∷ []))) ≡ codes "ask 11 all Order = [@0.1]\n"
unfolding digits
ask_line = refl

pub mark_lines : steps_text shop clients 1 (Step.Mark 3 false ∷ Step.Mark 3 true ∷ []) ≡ codes "mark 3 yield\nmark 3 flush\n"
unfolding digits
mark_lines = refl

pub trap_line : end_line (codes "ann") (End.Trap 4) ≡ codes "end ann Trap 4\n"
unfolding digits
trap_line = refl

-- each fork takes the next number, and a join prints first what it joins into
pub short_report : report_text shop clients (Step.Fork 0 0 ∷ Step.Fork 0 1 ∷ Step.Do 2 (Update.Cell 0 [] (CellChange.SetInt (pos 5))) ∷ Step.Fork 2 1 ∷ Step.Join 0 2 ∷ Step.Say 3 (Answer.Truth true) ∷ []) (End.Done ∷ End.Spent ∷ [])
    ≡ codes "fork 0 1 ann\nfork 0 2 bob\ndo 2 g.set(5)\nfork 2 3 bob\njoin 0 2\nsay 3 true\nend ann Done\nend bob Spent\n"
unfolding digits
short_report = refl

-- a global, an array and two clients, which are told apart
abbrev two_properties : Schema
two_properties = record {
  properties =
      record { name = codes "g"; owner = Owner.Global; cell = CellType.Int; keys = [] }
      ∷ record { name = codes "p"; owner = Owner.Array (codes "A"); cell = CellType.Int; keys = KeyType.Text ∷ [] }
      ∷ [];
  entities = [];
}

texts_apart : (a b : ℕ) → a < 2 → b < 2 → property_text two_properties a ≡ property_text two_properties b → a ≡ b
texts_apart zero zero la lb e = refl
texts_apart zero (suc zero) la lb e = absurd (differ 0 _ _ e refl)
texts_apart (suc zero) zero la lb e = absurd (differ 0 _ _ e refl)
texts_apart (suc zero) (suc zero) la lb e = refl
texts_apart (suc (suc a)) b la lb e = absurd (omega arith)
texts_apart a (suc (suc b)) la lb e = absurd (omega arith)

names_apart : (a b : ℕ) → a < 2 → b < 2 → client_name (codes "ann" ∷ codes "bob" ∷ []) a ≡ client_name (codes "ann" ∷ codes "bob" ∷ []) b → a ≡ b
names_apart zero zero la lb e = refl
names_apart zero (suc zero) la lb e = absurd (differ 0 _ _ e refl)
names_apart (suc zero) zero la lb e = absurd (differ 0 _ _ e refl)
names_apart (suc zero) (suc zero) la lb e = refl
names_apart (suc (suc a)) b la lb e = absurd (omega arith)
names_apart a (suc (suc b)) la lb e = absurd (omega arith)

pub a_legible_schema : Legible two_properties (codes "ann" ∷ codes "bob" ∷ [])
a_legible_schema = record {
  properties = All-from_recursion (IsProperty two_properties) two_properties.properties ((refl, refl), ((refl, refl), tt));
  entities = All-nil _;
  clients = All-from_recursion IsName (codes "ann" ∷ codes "bob" ∷ []) (refl, (refl, tt));
  properties_differ = texts_apart;
  entities_differ = λ a b la lb e. absurd (omega arith);
  clients_differ = names_apart;
}
