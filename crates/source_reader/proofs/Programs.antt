-- Tokens that spell a program are read as it.
use Rattle.std.proofs.Common.{◌≡◌, refl, sym, ◌∙◌, ap, subst, arith}
use Rattle.std.proofs.lemmas.List.{append_assoc, append-nil}
use Rattle.std.specs.Prelude.{ℕ, zero, suc, ◌-◌, ◌<◌, ◌≤◌, max, List, [], ◌∷◌, ◌++◌, length, Option, Some, None}
use Rattle.cloud_base.specs.declared.schema.CellType.{CellType}
use Rattle.cloud_base.specs.declared.schedule.Fate.{Fate}
use Rattle.source_tokens.specs.declared.terminal.Terminal.TheVariants as t
use Rattle.source_tokens.specs.declared.token.Token.{Token}
use Rattle.source_tokens.specs.declared.token.Token.TheVariants.{Name, Fixed}
use Rattle.source_tree.specs.declared.statement.Statement.{Statement}
use Rattle.source_tree.specs.declared.program.KeyType.{KeyType}
use Rattle.source_tree.specs.declared.program.Key.{Key}
use Rattle.source_tree.specs.declared.program.Property.{Property}
use Rattle.source_tree.specs.declared.program.Declaration.{Declaration}
use Rattle.source_tree.specs.declared.program.Declaration.TheVariants as d
use Rattle.source_tree.specs.declared.program.Client.{Client}
use Rattle.source_tree.specs.declared.program.Item.{Item}
use Rattle.source_tree.specs.declared.program.Item.TheVariants as i
use Rattle.source_tree.specs.declared.program.Program.{Program}
use Rattle.source_tree.specs.Heights.{body_height}
use Rattle.source_tree.specs.Programs.{SpellsCell, SpellsKeyType, SpellsKey, SpellsKeyList, SpellsEntityKeys, SpellsProperty, SpellsPropertyList, SpellsProperties, SpellsDeclaration, SpellsDeclarations, SpellsFate, SpellsItem, SpellsItems, SpellsClient, SpellsClients, SpellsProgram, cell_int, cell_text, key_int, key_text, key_entity, key, last_key, more_keys, no_keys, some_keys, property, no_properties, last_property, more_properties, properties, global, array, entity, no_declarations, more_declarations, pass, lose_push, lose_reply, twice, hold, steps, serve, no_items, more_items, client, no_clients, schedule, more_clients, program}
use Rattle.source_reader.specs.Reading.{Reads, ReadsHigh, ◌>>=◌, within, behind, name_at}
use Rattle.source_reader.specs.Sources.{cell_at, key_type_at, key_at, key_list_by, property_at, properties_by, properties_at, entity_keys_at, global_at, array_at, entity_at, declaration_at, declared_by, fate_at, number_at, steps_at, serve_at, item_at, items_by, client_by, clients_by, schedule_at, body_of, ended, schema_at, program_at}
use Rattle.source_reader.proofs.Heights.{within_yes, within_no}
use Rattle.source_reader.proofs.Parts.{behind_shorter, cased}
use Rattle.source_reader.proofs.Loop.{clients_end}
use Rattle.source_reader.proofs.Blocks.{block_again}

cell_again : (of : CellType) (u : List Token) → SpellsCell of u → (rest : List Token) → cell_at (u ++ rest) ≡ Some (of, rest)
unfolding cell_at
cell_again of u cell_int rest = refl
cell_again of u cell_text rest = refl

key_type_again : (of : KeyType) (u : List Token) → SpellsKeyType of u → (rest : List Token) → key_type_at (u ++ rest) ≡ Some (of, rest)
unfolding key_type_at
key_type_again of u key_int rest = refl
key_type_again of u key_text rest = refl
key_type_again of u (key_entity n) rest = refl

key_again : (x : Key) (u : List Token) → SpellsKey x u → (rest : List Token) → key_at (u ++ rest) ≡ Some (x, rest)
unfolding key_at name_at behind
key_again x u (key n of v h) rest = ap (λ o. o >>= λ of. Some (record { name = n; of = of.0 }, of.1)) (key_type_again of v h rest)

key_longer : (x : Key) (u : List Token) → SpellsKey x u → (rest : List Token) → length rest < length (u ++ rest)
key_longer x u (key n of v h) rest = let q : length rest ≤ length (v ++ rest) = behind_shorter v rest in omega arith

-- ---- lists of keys

abbrev KeyGoes : ℕ → List Key → (Key × List Token) → Reads (List Key)
KeyGoes k before x = elim (behind t.Comma x.1) [
  | Some rest ↦ key_list_by k (before ++ x.0 ∷ []) rest
  | None ↦ behind t.CloseBracket x.1 >>= λ rest. Some (before ++ x.0 ∷ [], rest)
]

key_list_read : (k : ℕ) (before : List Key) (tokens : List Token) → 0 < k → key_list_by k before tokens ≡ (key_at tokens >>= KeyGoes (k - 1) before)
unfolding key_list_by
key_list_read zero before tokens more = absurd (omega arith)
key_list_read (suc k) before tokens more = let count : suc k - 1 ≡ k = omega arith in rw count refl

key_list_again : (xs : List Key) (u : List Token) → SpellsKeyList xs u → (k : ℕ) (before : List Key) (rest : List Token) → length (u ++ rest) ≤ k → key_list_by k before (u ++ rest) ≡ Some (before ++ xs, rest)
unfolding behind
key_list_again xs u (last_key x v h) k before rest long =
    let same : (v ++ Fixed t.CloseBracket ∷ []) ++ rest ≡ v ++ (Fixed t.CloseBracket ∷ rest) = append_assoc v (Fixed t.CloseBracket ∷ []) rest in
    let long : length (v ++ (Fixed t.CloseBracket ∷ rest)) ≤ k = subst (λ ts. length ts ≤ k) same long in
    let q : length (Fixed t.CloseBracket ∷ rest) < length (v ++ (Fixed t.CloseBracket ∷ rest)) = key_longer x v h (Fixed t.CloseBracket ∷ rest) in
    ap (key_list_by k before) same ∙ key_list_read k before (v ++ (Fixed t.CloseBracket ∷ rest)) (omega arith) ∙ ap (λ o. o >>= KeyGoes (k - 1) before) (key_again x v h (Fixed t.CloseBracket ∷ rest))
key_list_again xs u (more_keys x ys v w h i) k before rest long =
    let same : (v ++ Fixed t.Comma ∷ w) ++ rest ≡ v ++ (Fixed t.Comma ∷ (w ++ rest)) = append_assoc v (Fixed t.Comma ∷ w) rest in
    let long : length (v ++ (Fixed t.Comma ∷ (w ++ rest))) ≤ k = subst (λ ts. length ts ≤ k) same long in
    let q : length (Fixed t.Comma ∷ (w ++ rest)) < length (v ++ (Fixed t.Comma ∷ (w ++ rest))) = key_longer x v h (Fixed t.Comma ∷ (w ++ rest)) in
    ap (key_list_by k before) same ∙ key_list_read k before (v ++ (Fixed t.Comma ∷ (w ++ rest))) (omega arith) ∙ ap (λ o. o >>= KeyGoes (k - 1) before) (key_again x v h (Fixed t.Comma ∷ (w ++ rest)))
    ∙ key_list_again ys w i (k - 1) (before ++ x ∷ []) rest (omega arith) ∙ ap (λ all. Some (all, rest)) (append_assoc before (x ∷ []) ys)

-- ---- properties

property_again : (x : Property) (u : List Token) → SpellsProperty x u → (rest : List Token) → property_at (u ++ rest) ≡ Some (x, rest)
unfolding property_at name_at behind
property_again x u (property n of v h) rest = ap (λ o. o >>= λ of. Some (record { name = n; cell = of.0 }, of.1)) (cell_again of v h rest)

property_open : (x : Property) (u : List Token) → SpellsProperty x u → (rest : List Token) → behind t.CloseBrace (u ++ rest) ≡ None
unfolding behind
property_open x u (property n of v h) rest = refl

property_longer : (x : Property) (u : List Token) → SpellsProperty x u → (rest : List Token) → length rest < length (u ++ rest)
property_longer x u (property n of v h) rest = let q : length rest ≤ length (v ++ rest) = behind_shorter v rest in omega arith

abbrev PropertyGoes : ℕ → List Property → (Property × List Token) → Reads (List Property)
PropertyGoes k before x = elim (behind t.Semicolon x.1) [
  | Some rest ↦ properties_by k (before ++ x.0 ∷ []) rest
  | None ↦ behind t.CloseBrace x.1 >>= λ rest. Some (before ++ x.0 ∷ [], rest)
]

property_list_read : (k : ℕ) (before : List Property) (tokens : List Token) → 0 < k → behind t.CloseBrace tokens ≡ None → properties_by k before tokens ≡ (property_at tokens >>= PropertyGoes (k - 1) before)
unfolding properties_by
property_list_read zero before tokens more is = absurd (omega arith)
property_list_read (suc k) before tokens more is =
    let count : suc k - 1 ≡ k = omega arith in
    rw count (ap (λ o. elim o [ Some rest ↦ Some (before, rest) | None ↦ property_at tokens >>= PropertyGoes k before ]) is)

property_list_again : (xs : List Property) (u : List Token) → SpellsPropertyList xs u → (k : ℕ) (before : List Property) (rest : List Token) → length (u ++ rest) ≤ k
    → properties_by k before (u ++ rest) ≡ Some (before ++ xs, rest)
unfolding properties_by behind
property_list_again xs u no_properties zero before rest long = absurd (let q : length (Fixed t.CloseBrace ∷ rest) ≤ 0 = long in omega arith)
property_list_again xs u no_properties (suc k) before rest long = ap (λ all. Some (all, rest)) (sym (append-nil before))
property_list_again xs u (last_property x v h) k before rest long =
    let same : (v ++ Fixed t.CloseBrace ∷ []) ++ rest ≡ v ++ (Fixed t.CloseBrace ∷ rest) = append_assoc v (Fixed t.CloseBrace ∷ []) rest in
    let long : length (v ++ (Fixed t.CloseBrace ∷ rest)) ≤ k = subst (λ ts. length ts ≤ k) same long in
    let q : length (Fixed t.CloseBrace ∷ rest) < length (v ++ (Fixed t.CloseBrace ∷ rest)) = property_longer x v h (Fixed t.CloseBrace ∷ rest) in
    ap (properties_by k before) same ∙ property_list_read k before (v ++ (Fixed t.CloseBrace ∷ rest)) (omega arith) (property_open x v h (Fixed t.CloseBrace ∷ rest))
    ∙ ap (λ o. o >>= PropertyGoes (k - 1) before) (property_again x v h (Fixed t.CloseBrace ∷ rest))
property_list_again xs u (more_properties x ys v w h i) k before rest long =
    let same : (v ++ Fixed t.Semicolon ∷ w) ++ rest ≡ v ++ (Fixed t.Semicolon ∷ (w ++ rest)) = append_assoc v (Fixed t.Semicolon ∷ w) rest in
    let long : length (v ++ (Fixed t.Semicolon ∷ (w ++ rest))) ≤ k = subst (λ ts. length ts ≤ k) same long in
    let q : length (Fixed t.Semicolon ∷ (w ++ rest)) < length (v ++ (Fixed t.Semicolon ∷ (w ++ rest))) = property_longer x v h (Fixed t.Semicolon ∷ (w ++ rest)) in
    ap (properties_by k before) same ∙ property_list_read k before (v ++ (Fixed t.Semicolon ∷ (w ++ rest))) (omega arith) (property_open x v h (Fixed t.Semicolon ∷ (w ++ rest)))
    ∙ ap (λ o. o >>= PropertyGoes (k - 1) before) (property_again x v h (Fixed t.Semicolon ∷ (w ++ rest)))
    ∙ property_list_again ys w i (k - 1) (before ++ x ∷ []) rest (omega arith) ∙ ap (λ all. Some (all, rest)) (append_assoc before (x ∷ []) ys)

properties_again : (xs : List Property) (u : List Token) → SpellsProperties xs u → (rest : List Token) → properties_at (u ++ rest) ≡ Some (xs, rest)
unfolding properties_at behind
properties_again xs u (properties _ v h) rest = property_list_again xs v h (length (v ++ rest)) [] rest (omega arith)

properties_brace : (xs : List Property) (u : List Token) → SpellsProperties xs u → (rest : List Token) → behind t.OpenBracket (u ++ rest) ≡ None
unfolding behind
properties_brace xs u (properties _ v h) rest = refl

entity_keys_again : (keys : List Key) (u : List Token) → SpellsEntityKeys keys u → (rest : List Token) → behind t.OpenBracket rest ≡ None → entity_keys_at (u ++ rest) ≡ Some (keys, rest)
unfolding entity_keys_at behind
entity_keys_again keys u no_keys rest none = ap (λ o. elim o [ Some ts ↦ key_list_by (length ts) [] ts | None ↦ Some ([], rest) ]) none
entity_keys_again keys u (some_keys _ v h) rest none = key_list_again keys v h (length (v ++ rest)) [] rest (omega arith)

-- ---- declarations

declaration_again : (x : Declaration) (u : List Token) → SpellsDeclaration x u → (rest : List Token) → declaration_at (u ++ rest) ≡ Some (x, rest)
unfolding declaration_at global_at array_at entity_at name_at behind
declaration_again x u (global y v h) rest =
    ap global_at (append_assoc v (Fixed t.Semicolon ∷ []) rest)
    ∙ ap (λ o. o >>= λ property. behind t.Semicolon property.1 >>= λ rest. Some (d.Global property.0, rest)) (property_again y v h (Fixed t.Semicolon ∷ rest))
declaration_again x u (array n keys ys v w h i) rest =
    ap (λ ts. key_list_by (length ts) [] ts >>= λ keys. properties_at keys.1 >>= λ properties. Some (d.Array n keys.0 properties.0, properties.1)) (append_assoc v w rest)
    ∙ ap (λ o. o >>= λ keys. properties_at keys.1 >>= λ properties. Some (d.Array n keys.0 properties.0, properties.1)) (key_list_again keys v h (length (v ++ (w ++ rest))) [] (w ++ rest) (omega arith))
    ∙ ap (λ o. o >>= λ properties. Some (d.Array n keys properties.0, properties.1)) (properties_again ys w i rest)
declaration_again x u (entity n keys ys v w h i) rest =
    ap (λ ts. entity_keys_at ts >>= λ keys. properties_at keys.1 >>= λ properties. Some (d.Entity n keys.0 properties.0, properties.1)) (append_assoc v w rest)
    ∙ ap (λ o. o >>= λ keys. properties_at keys.1 >>= λ properties. Some (d.Entity n keys.0 properties.0, properties.1)) (entity_keys_again keys v h (w ++ rest) (properties_brace ys w i rest))
    ∙ ap (λ o. o >>= λ properties. Some (d.Entity n keys properties.0, properties.1)) (properties_again ys w i rest)

declaration_open : (x : Declaration) (u : List Token) → SpellsDeclaration x u → (rest : List Token) → behind t.CloseBrace (u ++ rest) ≡ None
unfolding behind
declaration_open x u (global y v h) rest = refl
declaration_open x u (array n keys ys v w h i) rest = refl
declaration_open x u (entity n keys ys v w h i) rest = refl

declaration_longer : (x : Declaration) (u : List Token) → SpellsDeclaration x u → (rest : List Token) → length rest < length (u ++ rest)
declaration_longer x u (global y v h) rest = let q : length rest ≤ length ((v ++ Fixed t.Semicolon ∷ []) ++ rest) = behind_shorter (v ++ Fixed t.Semicolon ∷ []) rest in omega arith
declaration_longer x u (array n keys ys v w h i) rest = let q : length rest ≤ length ((v ++ w) ++ rest) = behind_shorter (v ++ w) rest in omega arith
declaration_longer x u (entity n keys ys v w h i) rest = let q : length rest ≤ length ((v ++ w) ++ rest) = behind_shorter (v ++ w) rest in omega arith

declarations_read : (k : ℕ) (before : List Declaration) (tokens : List Token) → 0 < k → behind t.CloseBrace tokens ≡ None
    → declared_by k before tokens ≡ (declaration_at tokens >>= λ x. declared_by (k - 1) (before ++ x.0 ∷ []) x.1)
unfolding declared_by
declarations_read zero before tokens more is = absurd (omega arith)
declarations_read (suc k) before tokens more is =
    let count : suc k - 1 ≡ k = omega arith in
    rw count (ap (λ o. elim o [ Some rest ↦ Some (before, rest) | None ↦ declaration_at tokens >>= λ x. declared_by k (before ++ x.0 ∷ []) x.1 ]) is)

declarations_again : (xs : List Declaration) (u : List Token) → SpellsDeclarations xs u → (k : ℕ) (before : List Declaration) (rest : List Token) → length (u ++ rest) ≤ k
    → declared_by k before (u ++ rest) ≡ Some (before ++ xs, rest)
unfolding declared_by behind
declarations_again xs u no_declarations zero before rest long = absurd (let q : length (Fixed t.CloseBrace ∷ rest) ≤ 0 = long in omega arith)
declarations_again xs u no_declarations (suc k) before rest long = ap (λ all. Some (all, rest)) (sym (append-nil before))
declarations_again xs u (more_declarations x ys v w h i) k before rest long =
    let same : (v ++ w) ++ rest ≡ v ++ (w ++ rest) = append_assoc v w rest in
    let long : length (v ++ (w ++ rest)) ≤ k = subst (λ ts. length ts ≤ k) same long in
    let q : length (w ++ rest) < length (v ++ (w ++ rest)) = declaration_longer x v h (w ++ rest) in
    ap (declared_by k before) same ∙ declarations_read k before (v ++ (w ++ rest)) (omega arith) (declaration_open x v h (w ++ rest))
    ∙ ap (λ o. o >>= λ x. declared_by (k - 1) (before ++ x.0 ∷ []) x.1) (declaration_again x v h (w ++ rest))
    ∙ declarations_again ys w i (k - 1) (before ++ x ∷ []) rest (omega arith) ∙ ap (λ all. Some (all, rest)) (append_assoc before (x ∷ []) ys)

-- ---- schedules

fate_again : (fate : Fate) (u : List Token) → SpellsFate fate u → (rest : List Token) → fate_at (u ++ rest) ≡ Some (fate, rest)
unfolding fate_at
fate_again fate u pass rest = refl
fate_again fate u lose_push rest = refl
fate_again fate u lose_reply rest = refl
fate_again fate u twice rest = refl
fate_again fate u hold rest = refl

item_again : (x : Item) (u : List Token) → SpellsItem x u → (rest : List Token) → item_at (u ++ rest) ≡ Some (x, rest)
unfolding item_at steps_at serve_at number_at name_at behind
item_again x u (steps n count) rest = refl
item_again x u (serve n fate v h) rest =
    ap (λ ts. fate_at ts >>= λ fate. behind t.Semicolon fate.1 >>= λ rest. Some (i.Serve n fate.0, rest)) (append_assoc v (Fixed t.Semicolon ∷ []) rest)
    ∙ ap (λ o. o >>= λ fate. behind t.Semicolon fate.1 >>= λ rest. Some (i.Serve n fate.0, rest)) (fate_again fate v h (Fixed t.Semicolon ∷ rest))

item_open : (x : Item) (u : List Token) → SpellsItem x u → (rest : List Token) → behind t.CloseBrace (u ++ rest) ≡ None
unfolding behind
item_open x u (steps n count) rest = refl
item_open x u (serve n fate v h) rest = refl

item_longer : (x : Item) (u : List Token) → SpellsItem x u → (rest : List Token) → length rest < length (u ++ rest)
item_longer x u (steps n count) rest = omega arith
item_longer x u (serve n fate v h) rest = let q : length rest ≤ length ((v ++ Fixed t.Semicolon ∷ []) ++ rest) = behind_shorter (v ++ Fixed t.Semicolon ∷ []) rest in omega arith

items_read : (k : ℕ) (before : List Item) (tokens : List Token) → 0 < k → behind t.CloseBrace tokens ≡ None → items_by k before tokens ≡ (item_at tokens >>= λ x. items_by (k - 1) (before ++ x.0 ∷ []) x.1)
unfolding items_by
items_read zero before tokens more is = absurd (omega arith)
items_read (suc k) before tokens more is =
    let count : suc k - 1 ≡ k = omega arith in
    rw count (ap (λ o. elim o [ Some rest ↦ Some (before, rest) | None ↦ item_at tokens >>= λ x. items_by k (before ++ x.0 ∷ []) x.1 ]) is)

items_again : (xs : List Item) (u : List Token) → SpellsItems xs u → (k : ℕ) (before : List Item) (rest : List Token) → length (u ++ rest) ≤ k → items_by k before (u ++ rest) ≡ Some (before ++ xs, rest)
unfolding items_by behind
items_again xs u no_items zero before rest long = absurd (let q : length (Fixed t.CloseBrace ∷ rest) ≤ 0 = long in omega arith)
items_again xs u no_items (suc k) before rest long = ap (λ all. Some (all, rest)) (sym (append-nil before))
items_again xs u (more_items x ys v w h i) k before rest long =
    let same : (v ++ w) ++ rest ≡ v ++ (w ++ rest) = append_assoc v w rest in
    let long : length (v ++ (w ++ rest)) ≤ k = subst (λ ts. length ts ≤ k) same long in
    let q : length (w ++ rest) < length (v ++ (w ++ rest)) = item_longer x v h (w ++ rest) in
    ap (items_by k before) same ∙ items_read k before (v ++ (w ++ rest)) (omega arith) (item_open x v h (w ++ rest))
    ∙ ap (λ o. o >>= λ x. items_by (k - 1) (before ++ x.0 ∷ []) x.1) (item_again x v h (w ++ rest))
    ∙ items_again ys w i (k - 1) (before ++ x ∷ []) rest (omega arith) ∙ ap (λ all. Some (all, rest)) (append_assoc before (x ∷ []) ys)

-- ---- clients

-- the greatest height of their bodies
abbrev pub clients_height : List Client → ℕ
clients_height [] = 0
clients_height (x ∷ xs) = max (body_height x.body) (clients_height xs)

abbrev Made : List Declaration → (List Client × List Token) → Option Program
Made ds clients = schedule_at clients.1 >>= λ plan. ended (record { declarations = ds; clients = clients.0; schedule = plan.0 }) plan.1

abbrev pub kept : {A : Type 0} → ReadsHigh A → Option A
kept o = o >>= λ x. Some x.0

opened : {C : Type 0} (o : ReadsHigh (List Statement)) (n : List ℕ) (f : (Client × List Token) → Option C)
    → (o >>= (λ body. Some (body.0, body.2)) >>= (λ (body : List Statement × List Token). Some (record { name = n; body = body.0 }, body.1)) >>= f) ≡ (o >>= λ body. f (record { name = n; body = body.0 }, body.2))
opened None n f = refl
opened (Some x) n f = refl

-- the next client, and what goes on behind it
client_again : {C : Type 0} (x : Client) (u : List Token) → SpellsClient x u → (depth high : ℕ) (rest : List Token) → length (u ++ rest) ≤ depth → (f : (Client × List Token) → Option C) (whole : Option C)
    → (body_height x.body ≤ high → f (x, rest) ≡ whole) → (high < body_height x.body → None ≡ whole)
    → (behind t.Client (u ++ rest) >>= λ ts. client_by (body_of depth high) ts >>= f) ≡ whole
unfolding client_by body_of name_at behind
client_again x u (client n body v h) depth high rest fits f whole low above =
    ap (λ o. o >>= (λ body. Some (body.0, body.2)) >>= (λ (body : List Statement × List Token). Some (record { name = n; body = body.0 }, body.1)) >>= f)
    (block_again body v h depth high rest (let q : length (Fixed t.Client ∷ Name n ∷ (v ++ rest)) ≤ depth = fits in omega arith))
    ∙ opened (within high body (body_height body) rest) n f
    ∙ cased high high body (body_height body) rest (λ body. f (record { name = n; body = body.0 }, body.2)) whole low above

clients_read : (k : ℕ) (block : List Token → Reads (List Statement)) (before : List Client) (tokens ts : List Token) → 0 < k → behind t.Client tokens ≡ Some ts
    → clients_by k block before tokens ≡ (behind t.Client tokens >>= λ ts. client_by block ts >>= λ x. clients_by (k - 1) block (before ++ x.0 ∷ []) x.1)
unfolding clients_by
clients_read zero block before tokens ts more is = absurd (omega arith)
clients_read (suc k) block before tokens ts more is =
    let count : suc k - 1 ≡ k = omega arith in
    rw count (ap (λ o. elim o [ None ↦ Some (before, tokens) | Some ts ↦ client_by block ts >>= λ x. clients_by k block (before ++ x.0 ∷ []) x.1 ]) is
    ∙ sym (ap (λ o. o >>= λ ts. client_by block ts >>= λ x. clients_by k block (before ++ x.0 ∷ []) x.1) is))

client_front : (x : Client) (u : List Token) → SpellsClient x u → (rest : List Token) → (ts : List Token) × (behind t.Client (u ++ rest) ≡ Some ts)
unfolding behind
client_front x u (client n body v h) rest = (Name n ∷ (v ++ rest), refl)

client_longer : (x : Client) (u : List Token) → SpellsClient x u → (rest : List Token) → length rest < length (u ++ rest)
client_longer x u (client n body v h) rest = let q : length rest ≤ length (v ++ rest) = behind_shorter v rest in omega arith

bind_again : {A B C : Type 0} (o : Option A) (f : A → Option B) (g : B → Option C) → (o >>= f >>= g) ≡ (o >>= λ x. f x >>= g)
bind_again None f g = refl
bind_again (Some x) f g = refl

bind_twice : {A B C : Type 0} (o : Option (List Token)) (f : List Token → Option A) (g : A → Option B) (h : B → Option C) → (o >>= (λ ts. f ts >>= g) >>= h) ≡ (o >>= λ ts. f ts >>= λ x. g x >>= h)
bind_twice None f g h = refl
bind_twice (Some ts) f g h = bind_again (f ts) g h

-- what is no higher changes nothing
higher : (high : ℕ) (p : Program) (h i : ℕ) → h ≤ high → kept (within high p i []) ≡ kept (within high p (max h i) [])
higher high p h i low = cased high high p i [] (λ x. Some x.0) (kept (within high p (max h i) []))
    (λ fits. ap kept (sym (within_yes high p (max h i) [] (omega arith)))) (λ above. ap kept (sym (within_no high p (max h i) [] (omega arith))))

clients_again : (xs : List Client) (plan : Option (List Item)) (u : List Token) → SpellsClients xs plan u → (depth high k : ℕ) (ds : List Declaration) (before : List Client) → length u ≤ depth → length u ≤ k
    → (clients_by k (body_of depth high) before u >>= Made ds) ≡ kept (within high (record { declarations = ds; clients = before ++ xs; schedule = plan }) (clients_height xs) [])
unfolding behind schedule_at ended
clients_again xs plan u no_clients depth high k ds before fits long =
    ap (λ o. o >>= Made ds) (clients_end k (body_of depth high) before [] refl)
    ∙ ap (λ all. Some (record { declarations = ds; clients = all; schedule = None })) (sym (append-nil before))
    ∙ ap kept (sym (within_yes high (record { declarations = ds; clients = before ++ []; schedule = None }) 0 [] (omega arith)))
clients_again xs plan u (schedule items v h) depth high k ds before fits long =
    ap (λ o. o >>= Made ds) (clients_end k (body_of depth high) before (Fixed t.Schedule ∷ Fixed t.OpenBrace ∷ v) refl)
    ∙ ap (λ o. o >>= (λ items. Some (Some items.0, items.1)) >>= λ (plan : Option (List Item) × List Token). ended (record { declarations = ds; clients = before; schedule = plan.0 }) plan.1)
    (subst (λ ts. items_by (length v) [] ts ≡ Some (items, [])) (append-nil v) (items_again items v h (length v) [] [] (subst (λ ts. length ts ≤ length v) (sym (append-nil v)) (omega arith))))
    ∙ ap (λ all. Some (record { declarations = ds; clients = all; schedule = Some items })) (sym (append-nil before))
    ∙ ap kept (sym (within_yes high (record { declarations = ds; clients = before ++ []; schedule = Some items }) 0 [] (omega arith)))
clients_again xs plan u (more_clients x ys _ v w h i) depth high k ds before fits long =
    let q : length w < length (v ++ w) = client_longer x v h w in
    let whole : List Client → Program = λ all. record { declarations = ds; clients = all; schedule = plan } in
    ap (λ o. o >>= Made ds) (clients_read k (body_of depth high) before (v ++ w) (client_front x v h w).0 (omega arith) (client_front x v h w).1)
    ∙ bind_twice (behind t.Client (v ++ w)) (client_by (body_of depth high)) (λ x. clients_by (k - 1) (body_of depth high) (before ++ x.0 ∷ []) x.1) (Made ds)
    ∙ client_again x v h depth high w fits (λ x. clients_by (k - 1) (body_of depth high) (before ++ x.0 ∷ []) x.1 >>= Made ds)
    (kept (within high (record { declarations = ds; clients = before ++ (x ∷ ys); schedule = plan }) (clients_height (x ∷ ys)) []))
    (λ low. clients_again ys plan w i depth high (k - 1) ds (before ++ x ∷ []) (omega arith) (omega arith)
    ∙ ap (λ all. kept (within high (record { declarations = ds; clients = all; schedule = plan }) (clients_height ys) [])) (append_assoc before (x ∷ []) ys)
    ∙ higher high (record { declarations = ds; clients = before ++ (x ∷ ys); schedule = plan }) (body_height x.body) (clients_height ys) low)
    (λ above. ap kept (sym (within_no high (record { declarations = ds; clients = before ++ (x ∷ ys); schedule = plan }) (clients_height (x ∷ ys)) [] (omega arith))))

-- ---- programs

pub program_again : (p : Program) (u : List Token) → SpellsProgram p u → (depth high : ℕ) → length u ≤ depth → program_at depth high u ≡ kept (within high p (clients_height p.clients) [])
unfolding program_at schema_at behind
program_again p u (program ds x xs plan v w z h i j) depth high fits =
    let all : length (v ++ (w ++ z)) < depth = omega arith in
    let one : length (w ++ z) ≤ length (v ++ (w ++ z)) = behind_shorter v (w ++ z) in
    let two : length z ≤ length (w ++ z) = behind_shorter w z in
    let whole : Option Program = kept (within high (record { declarations = ds; clients = x ∷ xs; schedule = plan }) (clients_height (x ∷ xs)) []) in
    ap (λ o. o >>= λ ds. behind t.Client ds.1 >>= λ ts. client_by (body_of depth high) ts >>= λ first. clients_by (length first.1) (body_of depth high) (first.0 ∷ []) first.1 >>= Made ds.0)
    (declarations_again ds v h (length (v ++ (w ++ z))) [] (w ++ z) (omega arith))
    ∙ client_again x w i depth high z (omega arith) (λ first. clients_by (length first.1) (body_of depth high) (first.0 ∷ []) first.1 >>= Made ds)
    (kept (within high (record { declarations = ds; clients = x ∷ xs; schedule = plan }) (clients_height (x ∷ xs)) []))
    (λ low. clients_again xs plan z j depth high (length z) ds (x ∷ []) (omega arith) (omega arith)
    ∙ higher high (record { declarations = ds; clients = x ∷ xs; schedule = plan }) (body_height x.body) (clients_height xs) low)
    (λ above. ap kept (sym (within_no high (record { declarations = ds; clients = x ∷ xs; schedule = plan }) (clients_height (x ∷ xs)) [] (omega arith))))
