-- The texts of updates and queries tell the updates and queries.
use Rattle.std.proofs.Common.{◌≡◌, ℕ, ◌<◌, false, List, [], ◌∷◌, ◌++◌, length, drop, codes, inl, inr, refl, sym, ap, ◌∙◌, append_assoc}
use Rattle.std.specs.Prelude.{All, nat_eq, slice_get, MatchOption}
use Rattle.std.proofs.lemmas.Option.{slice_get_cases, MatchOption-at_some, MatchOption-at_none}
use Rattle.cloud_base.specs.Values.{Id, is_name_byte, IsName}
use Rattle.cloud_base.specs.Shaped.{IsShaped, IsShapedQuery, IsCell, AreKeys, cell_type}
use Rattle.cloud_base.specs.declared.key.Key.{Key}
use Rattle.cloud_base.specs.declared.schema.Entity.{Entity}
use Rattle.cloud_base.specs.declared.schema.Schema.{Schema}
use Rattle.cloud_base.specs.declared.update.CellChange.{CellChange}
use Rattle.cloud_base.specs.declared.update.Query.{Query}
use Rattle.cloud_base.specs.declared.update.Update.{Update}
use Rattle.step_text.specs.Values.{id_text}
use Rattle.step_text.specs.Cells.{entity_name, cell_text, property_text, created_text, change_text, update_text, query_text}
use Rattle.step_text.specs.Legible.{Legible}
use Rattle.step_text.proofs.TellChanges.{changes_tell}
use Rattle.step_text.proofs.TellValues.{IsWritten, differ, word_first, ids_tell}
use Rattle.step_text.proofs.TellPlaces.{name_is_word, name_some, keys_written, entity_is_name, Place, place, cell_place}
use Rattle.step_text.proofs.TellNamed.{names_tell, named_cells_tell, named_cell_word, named_properties_tell, named_property_first, created_tell}

-- cells up to a byte that is neither a letter or digit nor a bracket
cells_tell : (schema : Schema) (names : List (List ℕ)) (m n : ℕ) (k l : List Key) (c : ℕ) (r s : List ℕ) → Legible schema names → IsCell schema m k → IsCell schema n l → is_name_byte c ≡ false → nat_eq c 91 ≡ false
    → cell_text schema m k ++ c ∷ r ≡ cell_text schema n l ++ c ∷ s → (m ≡ n) × (k ≡ l) × (r ≡ s)
cells_tell schema names m n k l c r s legible is also stops apart h =
    let at : Place schema m = cell_place schema names m k legible is in
    let there : Place schema n = cell_place schema names n l legible also in
    let named = sym (ap (λ (t : List ℕ). t ++ c ∷ r) (at.cell k)) ∙ h ∙ ap (λ (t : List ℕ). t ++ c ∷ s) (there.cell l) in
    let found = named_cells_tell at.owner there.owner k l at.name there.name c r s at.owner_is_named there.owner_is_named (at.keyed k is) (there.keyed l also) (at.written k is) (there.written l also) at.is_named there.is_named stops apart named in
    (legible.properties_differ m n at.within there.within (at.property ∙ found.0 ∙ sym there.property), found.1, found.2)

-- a word and a space begin a cell only where these follow it
cell_word : (schema : Schema) (names : List (List ℕ)) (number : ℕ) (keys : List Key) (c : ℕ) (r word s : List ℕ) → Legible schema names → IsCell schema number keys → IsName word → is_name_byte c ≡ false
    → cell_text schema number keys ++ c ∷ r ≡ word ++ 32 ∷ s → c ∷ r ≡ 32 ∷ s
cell_word schema names number keys c r word s legible is named stops h =
    let at : Place schema number = cell_place schema names number keys legible is in
    named_cell_word at.owner keys at.name c r word s at.owner_is_named at.is_named named stops (sym (ap (λ (t : List ℕ). t ++ c ∷ r) (at.cell keys)) ∙ h)

entities_tell : (schema : Schema) (names : List (List ℕ)) (m n : ℕ) (r s : List ℕ) → Legible schema names → m < length schema.entities → n < length schema.entities → entity_name schema m ++ 32 ∷ r ≡ entity_name schema n ++ 32 ∷ s → (m ≡ n) × (r ≡ s)
entities_tell schema names m n r s legible is also h =
    let both = names_tell (entity_name schema m) (entity_name schema n) 32 32 r s (entity_is_name schema names m legible is) (entity_is_name schema names n legible also) refl refl h in
    (legible.entities_differ m n is also both.0, ap (drop 1) both.1)

properties_tell : (schema : Schema) (names : List (List ℕ)) (m n : ℕ) (r s : List ℕ) → Legible schema names → m < length schema.properties → n < length schema.properties → property_text schema m ++ 32 ∷ r ≡ property_text schema n ++ 32 ∷ s → (m ≡ n) × (r ≡ s)
properties_tell schema names m n r s legible is also h =
    let at : Place schema m = place schema names m legible is in
    let there : Place schema n = place schema names n legible also in
    let named = sym (ap (λ (t : List ℕ). t ++ 32 ∷ r) at.property) ∙ h ∙ ap (λ (t : List ℕ). t ++ 32 ∷ s) there.property in
    let both = named_properties_tell at.owner there.owner at.name there.name r s at.owner_is_named there.owner_is_named at.is_named there.is_named named in
    (legible.properties_differ m n is also (at.property ∙ both.0 ∙ sym there.property), both.1)

property_first : (schema : Schema) (names : List (List ℕ)) (number c : ℕ) (r s : List ℕ) → Legible schema names → number < length schema.properties → is_name_byte c ≡ false → property_text schema number ++ r ≡ c ∷ s → ⊥
property_first schema names number c r s legible is stops h =
    let at : Place schema number = place schema names number legible is in
    named_property_first at.owner at.name c r s at.owner_is_named at.is_named stops (sym (ap (λ (t : List ℕ). t ++ r) at.property) ∙ h)

-- the entity that an id is created of is there, and its keys are written
abbrev IsCreated : Schema → ℕ → List Key → Type 0
IsCreated schema entity keys = MatchOption (slice_get schema.entities entity) ⊥ (λ (e : Entity). AreKeys e.keys keys)

created_there : (schema : Schema) (entity : ℕ) (keys : List Key) → IsCreated schema entity keys → (entity < length schema.entities) × All IsWritten keys
created_there schema entity keys is = elim (slice_get_cases schema.entities entity).1 [
  | inl there ↦ (there.1, keys_written there.0.keys keys (MatchOption-at_some ⊥ (λ (e : Entity). AreKeys e.keys keys) there.0 there.2 is).1)
  | inr past ↦ absurd (MatchOption-at_none ⊥ (λ (e : Entity). AreKeys e.keys keys) past.1 is)
]

change_dot : (change : CellChange) → change_text change ≡ 46 ∷ drop 1 (change_text change)
change_dot (CellChange.Add number) = refl
change_dot (CellChange.SetInt number) = refl
change_dot (CellChange.SetText bytes) = refl
change_dot (CellChange.SetIfEmpty bytes) = refl

-- the line of a change of a cell
cell_line : (schema : Schema) (number : ℕ) (keys : List Key) (change : CellChange) (r : List ℕ) → update_text schema (Update.Cell number keys change) ++ codes "\n" ++ r ≡ cell_text schema number keys ++ 46 ∷ (drop 1 (change_text change) ++ 10 ∷ r)
cell_line schema number keys change r =
    append_assoc (cell_text schema number keys ++ change_text change) (10 ∷ []) r
    ∙ append_assoc (cell_text schema number keys) (change_text change) (10 ∷ r)
    ∙ ap (λ (t : List ℕ). cell_text schema number keys ++ (t ++ 10 ∷ r)) (change_dot change)

-- a change of a cell begins with no word and a space
cell_no_word : (schema : Schema) (names : List (List ℕ)) (number : ℕ) (keys : List Key) (change : CellChange) (r word s : List ℕ) → Legible schema names → IsCell schema number keys → IsName word
    → update_text schema (Update.Cell number keys change) ++ codes "\n" ++ r ≡ word ++ 32 ∷ s → ⊥
cell_no_word schema names number keys change r word s legible is named h =
    differ 0 (46 ∷ (drop 1 (change_text change) ++ 10 ∷ r)) (32 ∷ s) (cell_word schema names number keys 46 (drop 1 (change_text change) ++ 10 ∷ r) word s legible is named refl (sym (cell_line schema number keys change r) ∙ h)) refl

-- the line of a creation, behind its word
create_line : (name : List ℕ) (keys : List Key) (id r : List ℕ) → (created_text name keys ++ codes " = " ++ id) ++ codes "\n" ++ r ≡ created_text name keys ++ 32 ∷ 61 ∷ 32 ∷ (id ++ 10 ∷ r)
create_line name keys id r =
    append_assoc (created_text name keys ++ codes " = " ++ id) (10 ∷ []) r
    ∙ append_assoc (created_text name keys ++ codes " = ") id (10 ∷ r)
    ∙ append_assoc (created_text name keys) (codes " = ") (id ++ 10 ∷ r)

-- an update up to the end of its line
pub updates_tell : (schema : Schema) (names : List (List ℕ)) (a b : Update) (r s : List ℕ) → Legible schema names → IsShaped schema a → IsShaped schema b → update_text schema a ++ codes "\n" ++ r ≡ update_text schema b ++ codes "\n" ++ s → (a ≡ b) × (r ≡ s)
updates_tell schema names (Update.Cell m k x) (Update.Cell n l y) r s legible is also h =
    let cells = cells_tell schema names m n k l 46 (drop 1 (change_text x) ++ 10 ∷ r) (drop 1 (change_text y) ++ 10 ∷ s) legible is.0 also.0 refl refl (sym (cell_line schema m k x r) ∙ h ∙ cell_line schema n l y s) in
    let dotted = ap (λ (t : List ℕ). t ++ 10 ∷ r) (change_dot x) ∙ ap (λ (t : List ℕ). 46 ∷ t) cells.2 ∙ sym (ap (λ (t : List ℕ). t ++ 10 ∷ s) (change_dot y)) in
    let both = changes_tell (cell_type schema m) (cell_type schema n) x y (10 ∷ r) (10 ∷ s) is.1 also.1 dotted in
    (ap (λ (i : ℕ). Update.Cell i k x) cells.0 ∙ ap (λ (t : List Key). Update.Cell n t x) cells.1 ∙ ap (Update.Cell n l) both.0, ap (drop 1) both.1)
updates_tell schema names (Update.Cell m k x) (Update.Create id n l) r s legible is also h = absurd (cell_no_word schema names m k x r (codes "new") _ legible is.0 refl h)
updates_tell schema names (Update.Cell m k x) (Update.Delete id) r s legible is also h = absurd (cell_no_word schema names m k x r (codes "delete") _ legible is.0 refl h)
updates_tell schema names (Update.Create id m k) (Update.Cell n l y) r s legible is also h = absurd (cell_no_word schema names n l y s (codes "new") _ legible also.0 refl (sym h))
updates_tell schema names (Update.Create id m k) (Update.Create other n l) r s legible is also h =
    let first = created_there schema m k is.2 in
    let second = created_there schema n l also.2 in
    let behind = sym (create_line (entity_name schema m) k (id_text id) r) ∙ ap (drop 4) h ∙ create_line (entity_name schema n) l (id_text other) s in
    let made = created_tell (entity_name schema m) (entity_name schema n) k l (61 ∷ 32 ∷ (id_text id ++ 10 ∷ r)) (61 ∷ 32 ∷ (id_text other ++ 10 ∷ s)) (entity_is_name schema names m legible first.0) (entity_is_name schema names n legible second.0) first.1 second.1 behind in
    let both = ids_tell id other (10 ∷ r) (10 ∷ s) is.0 also.0 refl refl (ap (drop 2) made.2) in
    let same : m ≡ n = legible.entities_differ m n first.0 second.0 made.0 in
    (ap (λ (i : Id). Update.Create i m k) both.0 ∙ ap (λ (i : ℕ). Update.Create other i k) same ∙ ap (Update.Create other n) made.1, ap (drop 1) both.1)
updates_tell schema names (Update.Create id m k) (Update.Delete other) r s legible is also h = absurd (differ 0 _ _ h refl)
updates_tell schema names (Update.Delete id) (Update.Cell n l y) r s legible is also h = absurd (cell_no_word schema names n l y s (codes "delete") _ legible also.0 refl (sym h))
updates_tell schema names (Update.Delete id) (Update.Create other n l) r s legible is also h = absurd (differ 0 _ _ h refl)
updates_tell schema names (Update.Delete id) (Update.Delete other) r s legible is also h =
    let both = ids_tell id other (10 ∷ r) (10 ∷ s) is also refl refl (sym (append_assoc (id_text id) (10 ∷ []) r) ∙ ap (drop 7) h ∙ append_assoc (id_text other) (10 ∷ []) s) in
    (ap Update.Delete both.0, ap (drop 1) both.1)

-- a query's text and an equals sign
asked : (text r : List ℕ) → text ++ codes " = " ++ r ≡ text ++ 32 ∷ 61 ∷ 32 ∷ r
asked text r = append_assoc text (codes " = ") r

-- where a cell and its answer begin with a word and a space, an equals sign follows
get_word : (schema : Schema) (names : List (List ℕ)) (number : ℕ) (keys : List Key) (r word s : List ℕ) → Legible schema names → IsCell schema number keys → IsName word → cell_text schema number keys ++ codes " = " ++ r ≡ word ++ 32 ∷ s → 61 ∷ 32 ∷ r ≡ s
get_word schema names number keys r word s legible is named h = ap (drop 1) (cell_word schema names number keys 32 (61 ∷ 32 ∷ r) word s legible is named refl (sym (asked (cell_text schema number keys) r) ∙ h))

get_no_all : (schema : Schema) (names : List (List ℕ)) (number : ℕ) (keys : List Key) (entity : ℕ) (r s : List ℕ) → Legible schema names → IsCell schema number keys → entity < length schema.entities
    → cell_text schema number keys ++ codes " = " ++ r ≡ query_text schema (Query.All entity) ++ codes " = " ++ s → ⊥
get_no_all schema names number keys entity r s legible is within h =
    let named = entity_is_name schema names entity legible within in
    word_first 61 (entity_name schema entity) (codes " = " ++ s) (32 ∷ r) refl (name_is_word (entity_name schema entity) named) (name_some (entity_name schema entity) named) (sym (asked (entity_name schema entity) s) ∙ sym (get_word schema names number keys r (codes "all") _ legible is refl h))

get_no_entries : (schema : Schema) (names : List (List ℕ)) (number : ℕ) (keys : List Key) (property : ℕ) (r s : List ℕ) → Legible schema names → IsCell schema number keys → property < length schema.properties
    → cell_text schema number keys ++ codes " = " ++ r ≡ query_text schema (Query.Entries property) ++ codes " = " ++ s → ⊥
get_no_entries schema names number keys property r s legible is within h =
    property_first schema names property 61 (codes " = " ++ s) (32 ∷ r) legible within refl (sym (asked (property_text schema property) s) ∙ sym (get_word schema names number keys r (codes "entries") _ legible is refl h))

get_no_alive : (schema : Schema) (names : List (List ℕ)) (number : ℕ) (keys : List Key) (r s : List ℕ) → Legible schema names → IsCell schema number keys → cell_text schema number keys ++ codes " = " ++ r ≡ codes "alive @" ++ s → ⊥
get_no_alive schema names number keys r s legible is h = differ 0 (61 ∷ 32 ∷ r) (64 ∷ s) (get_word schema names number keys r (codes "alive") (64 ∷ s) legible is refl h) refl

-- a query up to its answer
pub queries_tell : (schema : Schema) (names : List (List ℕ)) (a b : Query) (r s : List ℕ) → Legible schema names → IsShapedQuery schema a → IsShapedQuery schema b → query_text schema a ++ codes " = " ++ r ≡ query_text schema b ++ codes " = " ++ s → (a ≡ b) × (r ≡ s)
queries_tell schema names (Query.Get m k) (Query.Get n l) r s legible is also h =
    let cells = cells_tell schema names m n k l 32 (61 ∷ 32 ∷ r) (61 ∷ 32 ∷ s) legible is also refl refl (sym (asked (cell_text schema m k) r) ∙ h ∙ asked (cell_text schema n l) s) in
    (ap (λ (i : ℕ). Query.Get i k) cells.0 ∙ ap (Query.Get n) cells.1, ap (drop 2) cells.2)
queries_tell schema names (Query.Get m k) (Query.All n) r s legible is also h = absurd (get_no_all schema names m k n r s legible is also.1 h)
queries_tell schema names (Query.Get m k) (Query.Entries n) r s legible is also h = absurd (get_no_entries schema names m k n r s legible is also.1 h)
queries_tell schema names (Query.Get m k) (Query.Alive id) r s legible is also h = absurd (get_no_alive schema names m k r _ legible is h)
queries_tell schema names (Query.All m) (Query.Get n l) r s legible is also h = absurd (get_no_all schema names n l m s r legible also is.1 (sym h))
queries_tell schema names (Query.All m) (Query.All n) r s legible is also h =
    let both = entities_tell schema names m n (61 ∷ 32 ∷ r) (61 ∷ 32 ∷ s) legible is.1 also.1 (sym (asked (entity_name schema m) r) ∙ ap (drop 4) h ∙ asked (entity_name schema n) s) in
    (ap Query.All both.0, ap (drop 2) both.1)
queries_tell schema names (Query.All m) (Query.Entries n) r s legible is also h = absurd (differ 0 _ _ h refl)
queries_tell schema names (Query.All m) (Query.Alive id) r s legible is also h = absurd (differ 2 _ _ h refl)
queries_tell schema names (Query.Entries m) (Query.Get n l) r s legible is also h = absurd (get_no_entries schema names n l m s r legible also is.1 (sym h))
queries_tell schema names (Query.Entries m) (Query.All n) r s legible is also h = absurd (differ 0 _ _ h refl)
queries_tell schema names (Query.Entries m) (Query.Entries n) r s legible is also h =
    let both = properties_tell schema names m n (61 ∷ 32 ∷ r) (61 ∷ 32 ∷ s) legible is.1 also.1 (sym (asked (property_text schema m) r) ∙ ap (drop 8) h ∙ asked (property_text schema n) s) in
    (ap Query.Entries both.0, ap (drop 2) both.1)
queries_tell schema names (Query.Entries m) (Query.Alive id) r s legible is also h = absurd (differ 0 _ _ h refl)
queries_tell schema names (Query.Alive id) (Query.Get n l) r s legible is also h = absurd (get_no_alive schema names n l s _ legible also (sym h))
queries_tell schema names (Query.Alive id) (Query.All n) r s legible is also h = absurd (differ 2 _ _ h refl)
queries_tell schema names (Query.Alive id) (Query.Entries n) r s legible is also h = absurd (differ 0 _ _ h refl)
queries_tell schema names (Query.Alive id) (Query.Alive other) r s legible is also h =
    let both = ids_tell id other (32 ∷ 61 ∷ 32 ∷ r) (32 ∷ 61 ∷ 32 ∷ s) is also refl refl (sym (asked (id_text id) r) ∙ ap (drop 6) h ∙ asked (id_text other) s) in
    (ap Query.Alive both.0, ap (drop 3) both.1)
