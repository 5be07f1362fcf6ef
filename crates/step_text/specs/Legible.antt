-- When the text of a report tells its steps: names are told apart, and each step is of the schema's shape.
use Rattle.std.specs.Prelude.{◌≡◌, refl, ℕ, ◌<◌, ◌^◌, ⊤, true, List, [], ◌∷◌, length, All, pos, codes}
use Rattle.std.proofs.Common.{ap, lit<, lit≤, lt→ltb}
use Rattle.std.proofs.lemmas.List.Elements.{All-nil, All-cons}
use Rattle.std.proofs.Math.Nat.{suc-ne-zero}
use Rattle.cloud_base.specs.Values.{IsName}
use Rattle.cloud_base.specs.Shaped.{IsShaped, IsShapedQuery, IsShapedAnswer, IsSaid}
use Rattle.cloud_base.specs.declared.end.End.{End}
use Rattle.cloud_base.specs.declared.schema.CellType.{CellType}
use Rattle.cloud_base.specs.declared.schema.KeyType.{KeyType}
use Rattle.cloud_base.specs.declared.schema.Owner.{Owner}
use Rattle.cloud_base.specs.declared.schema.Property.{Property}
use Rattle.cloud_base.specs.declared.schema.Schema.{Schema}
use Rattle.cloud_base.specs.declared.update.Answer.{Answer}
use Rattle.cloud_base.specs.declared.update.CellChange.{CellChange}
use Rattle.cloud_base.specs.declared.update.Update.{Update}
use Rattle.revision_diagram.specs.declared.step.Step.{Step}
use Rattle.step_text.specs.Cells.{entity_name, property_text}
use Rattle.step_text.specs.Text.{client_name, step_line, report_text}

-- a global has no keys, an array has a name, and an entity's property is one of an entity that is there
abbrev pub IsOwner : Schema → Owner → List KeyType → Type 0
IsOwner schema Owner.Global keys = keys ≡ []
IsOwner schema (Owner.Array array) keys = IsName array
IsOwner schema (Owner.Entity entity) keys = entity < length schema.entities

abbrev pub IsProperty : Schema → Property → Type 0
IsProperty schema property = IsName property.name × IsOwner schema property.owner property.keys

-- what is named has a name, and different numbers have different names
pub record Legible (schema : Schema) (names : List (List ℕ)) : Type 0 where
  pub properties : All (IsProperty schema) schema.properties
  pub entities : All (λ entity. IsName entity.name) schema.entities
  pub clients : All IsName names
  pub properties_differ : (a b : ℕ) → a < length schema.properties → b < length schema.properties → property_text schema a ≡ property_text schema b → a ≡ b
  pub entities_differ : (a b : ℕ) → a < length schema.entities → b < length schema.entities → entity_name schema a ≡ entity_name schema b → a ≡ b
  pub clients_differ : (a b : ℕ) → a < length names → b < length names → client_name names a ≡ client_name names b → a ≡ b

-- a step of the schema's shape, whose revisions are numbers of 32 bits
abbrev pub IsStep : Schema → List (List ℕ) → Step → Type 0
IsStep schema names (Step.Fork revision client) = (revision < 2 ^ 32) × (client < length names)
IsStep schema names (Step.Join revision joined) = (revision < 2 ^ 32) × (joined < 2 ^ 32)
IsStep schema names (Step.Do revision update) = (revision < 2 ^ 32) × IsShaped schema update
IsStep schema names (Step.Ask revision query answer) = (revision < 2 ^ 32) × IsShapedQuery schema query × IsShapedAnswer schema query answer
IsStep schema names (Step.Say revision answer) = (revision < 2 ^ 32) × IsSaid answer
IsStep schema names (Step.Mark revision flush) = revision < 2 ^ 32

abbrev pub IsEnd : End → Type 0
IsEnd End.Done = ⊤
IsEnd End.Spent = ⊤
IsEnd (End.Trap line) = line < 2 ^ 32

-- the steps and ends are of the schema's shape, and no others of that shape have their text
pub record Told (schema : Schema) (names : List (List ℕ)) (steps : List Step) (ends : List End) : Type 0 where
  pub steps_fit : All (IsStep schema names) steps
  pub ends_fit : All IsEnd ends
  pub alone : (other : List Step) (later : List End) → All (IsStep schema names) other → All IsEnd later → report_text schema names other later ≡ report_text schema names steps ends → (other ≡ steps) × (later ≡ ends)

module _ where
  abbrev named : List ℕ → Property
  named name = record { name = name; owner = Owner.Global; cell = CellType.Int; keys = [] }

  -- two globals of one name
  abbrev twins : Schema
  twins = record { properties = named (codes "g") ∷ named (codes "g") ∷ []; entities = [] }

  abbrev add_one : ℕ → Step
  add_one global = Step.Do 1 (Update.Cell global [] (CellChange.Add (pos 1)))

  -- their updates are written alike, so such a schema isn't legible
  pub example_twins : (step_line twins [] 2 (add_one 0) ≡ step_line twins [] 2 (add_one 1)) × ¬ Legible twins []
  example_twins = (refl, λ h. suc-ne-zero 0 (h.properties_differ 1 0 (lit< tt) (lit< tt) refl))

  fits : IsStep twins [] (add_one 1)
  fits = (lit< tt, ((lit< tt, (lit≤ tt, tt)), record { sfits = lit< tt }))

  abbrev global_of : List Step → ℕ
  global_of (Step.Do r (Update.Cell global keys change) ∷ steps) = global
  global_of _ = 0

  -- and so its text doesn't tell a step
  pub example_not_told : ¬ Told twins [] (add_one 0 ∷ []) []
  example_not_told = λ h. suc-ne-zero 0 (ap global_of (h.alone (add_one 1 ∷ []) [] (All-cons (IsStep twins []) (add_one 1) [] fits (All-nil (IsStep twins []))) (All-nil IsEnd) refl).0)

  -- empty lists of ids and of keys are written alike, so lists aren't printed
  pub example_lists : (step_line twins [] 2 (Step.Say 1 (Answer.Ids [])) ≡ step_line twins [] 2 (Step.Say 1 (Answer.Tuples []))) × ¬ IsStep twins [] (Step.Say 1 (Answer.Ids []))
  example_lists = (refl, λ h. h.1)

  -- a revision's number may be the greatest of 32 bits, and no greater one
  pub example_numbers : IsStep twins [] (Step.Mark 4294967295 true) × ¬ IsStep twins [] (Step.Mark 4294967296 true)
  example_numbers = (lit< tt, λ h. lt→ltb 4294967296 4294967296 h)
