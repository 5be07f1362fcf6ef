-- A program that is spelled is derived.
use Rattle.std.proofs.Common.{◌≡◌, List, [], ◌∷◌, ◌++◌, Option, ap, subst, sym, ◌∙◌, append_assoc}
use Rattle.std.proofs.lemmas.List.{map-append}
use Rattle.cloud_base.specs.declared.schedule.Fate.{Fate}
use Rattle.cloud_base.specs.declared.schema.CellType.{CellType}
use Rattle.source_tokens.specs.declared.terminal.Terminal.TheVariants as t
use Rattle.source_tokens.specs.declared.token.Token.{Token}
use Rattle.source_tokens.specs.declared.token.Token.TheVariants.{Fixed}
use Rattle.source_tree.specs.Programs as sw
use Rattle.source_tree.specs.Programs.{SpellsCell, SpellsKeyType, SpellsKey, SpellsKeyList, SpellsEntityKeys, SpellsProperty, SpellsPropertyList, SpellsProperties, SpellsDeclaration, SpellsDeclarations, SpellsFate, SpellsItem, SpellsItems, SpellsClient, SpellsClients, SpellsProgram}
use Rattle.source_tree.specs.declared.program.Client.{Client}
use Rattle.source_tree.specs.declared.program.Declaration.{Declaration}
use Rattle.source_tree.specs.declared.program.Item.{Item}
use Rattle.source_tree.specs.declared.program.Key.{Key}
use Rattle.source_tree.specs.declared.program.KeyType.{KeyType}
use Rattle.source_tree.specs.declared.program.Program.{Program}
use Rattle.source_tree.specs.declared.program.Property.{Property}
use Rattle.syntax_judge.specs.Programs.{Derives, kind_of}
use Rattle.syntax_judge.specs.declared.kind.Kind.{Kind}
use Rattle.syntax_judge.specs.declared.kind.Kind.TheVariants as k
use Rattle.syntax_judge.specs.declared.symbol.Part.TheVariants as p
use Rattle.syntax_trees.proofs.Build.{kinds_in}
use Rattle.syntax_trees.proofs.BuildBody.{body_derived}
use Rattle.syntax_trees.proofs.Made.{made}
use Rattle.syntax_judge.specs.declared.symbol.Symbol.TheVariants.{Open}

cell_built : (x : CellType) (u : List Token) → SpellsCell x u → Derives (Open p.CellType ∷ []) (kinds_in u)
cell_built x u sw.cell_int = (made p.CellType).0
cell_built x u sw.cell_text = (made p.CellType).1.0

key_type_built : (x : KeyType) (u : List Token) → SpellsKeyType x u → Derives (Open p.KeyType ∷ []) (kinds_in u)
key_type_built x u sw.key_int = (made p.KeyType).0
key_type_built x u sw.key_text = (made p.KeyType).1.0
key_type_built x u (sw.key_entity n) = (made p.KeyType).1.1.0

key_built : (x : Key) (u : List Token) → SpellsKey x u → Derives (Open p.Key ∷ []) (kinds_in u)
key_built x u (sw.key n of v h) = (made p.Key).0 (kinds_in v) (key_type_built of v h)

-- the first key, and the others with their closer
abbrev Keys : List Token → Type 0
Keys u = (first : List Kind) × (others : List Kind) × Derives (Open p.Key ∷ []) first × Derives (Open p.KeyTail ∷ []) others × (first ++ others ≡ kinds_in u)

longer_keys : (u v : List Token) → Derives (Open p.Key ∷ []) (kinds_in u) → Keys v → Keys (u ++ Fixed t.Comma ∷ v)
longer_keys u v d (first, others, c, e, same) = (
  kinds_in u,
  k.Fixed t.Comma ∷ (first ++ others),
  d,
  (made p.KeyTail).1.0 first c others e,
  ap (λ us. kinds_in u ++ (k.Fixed t.Comma ∷ us)) same ∙ sym (map-append kind_of u (Fixed t.Comma ∷ v)),
)

keys_built : (xs : List Key) (u : List Token) → SpellsKeyList xs u → Keys u
keys_built xs u (sw.last_key x v h) = (kinds_in v, k.Fixed t.CloseBracket ∷ [], key_built x v h, (made p.KeyTail).0, sym (map-append kind_of v (Fixed t.CloseBracket ∷ [])))
keys_built xs u (sw.more_keys x ys v w h i) = longer_keys v w (key_built x v h) (keys_built ys w i)

entity_keys_built : (xs : List Key) (u : List Token) → SpellsEntityKeys xs u → Derives (Open p.EntityKeys ∷ []) (kinds_in u)
entity_keys_built xs u sw.no_keys = (made p.EntityKeys).0
entity_keys_built xs u (sw.some_keys ys v h) =
    let (first, others, d, e, same) = keys_built ys v h in
    subst (λ ts. Derives (Open p.EntityKeys ∷ []) (k.Fixed t.OpenBracket ∷ ts)) same ((made p.EntityKeys).1.0 first d others e)

property_built : (x : Property) (u : List Token) → SpellsProperty x u → Derives (Open p.Property ∷ []) (kinds_in u)
property_built x u (sw.property n of v h) = (made p.Property).0 (kinds_in v) (cell_built of v h)

inside_built : (xs : List Property) (u : List Token) → SpellsPropertyList xs u → Derives (Open p.PropertiesInside ∷ []) (kinds_in u)
inside_built xs u sw.no_properties = (made p.PropertiesInside).0
inside_built xs u (sw.last_property x v h) =
    rw (map-append kind_of v (Fixed t.CloseBrace ∷ [])) ((made p.PropertiesInside).1.0 (kinds_in v) (property_built x v h) (k.Fixed t.CloseBrace ∷ []) (made p.PropertyTail).0)
inside_built xs u (sw.more_properties x ys v w h i) = rw (map-append kind_of v (Fixed t.Semicolon ∷ w))
    ((made p.PropertiesInside).1.0 (kinds_in v) (property_built x v h) (k.Fixed t.Semicolon ∷ kinds_in w) ((made p.PropertyTail).1.0 (kinds_in w) (inside_built ys w i)))

properties_built : (xs : List Property) (u : List Token) → SpellsProperties xs u → Derives (Open p.Properties ∷ []) (kinds_in u)
properties_built xs u (sw.properties ys v h) = (made p.Properties).0 (kinds_in v) (inside_built ys v h)

global_built : (x : Property) (u : List Token) → SpellsProperty x u → Derives (Open p.Declaration ∷ []) (k.Fixed t.Global ∷ kinds_in (u ++ Fixed t.Semicolon ∷ []))
global_built x u (sw.property n of v h) = rw (map-append kind_of v (Fixed t.Semicolon ∷ [])) ((made p.Declaration).0 (kinds_in v) (cell_built of v h))

array_built : (u v : List Token) → Keys u → Derives (Open p.Properties ∷ []) (kinds_in v) → Derives (Open p.Declaration ∷ []) (k.Fixed t.Array ∷ k.Name ∷ k.Fixed t.OpenBracket ∷ (kinds_in u ++ kinds_in v))
array_built u v (first, others, d, e, same) xs =
    subst (λ ts. Derives (Open p.Declaration ∷ []) (k.Fixed t.Array ∷ k.Name ∷ k.Fixed t.OpenBracket ∷ ts))
    (sym (append_assoc first others (kinds_in v)) ∙ ap (λ us. us ++ kinds_in v) same)
    ((made p.Declaration).1.0 first d others e (kinds_in v) xs)

declaration_built : (x : Declaration) (u : List Token) → SpellsDeclaration x u → Derives (Open p.Declaration ∷ []) (kinds_in u)
declaration_built x u (sw.global y v h) = global_built y v h
declaration_built x u (sw.array n keys xs v w h i) = rw (map-append kind_of v w) (array_built v w (keys_built keys v h) (properties_built xs w i))
declaration_built x u (sw.entity n keys xs v w h i) = rw (map-append kind_of v w) ((made p.Declaration).1.1.0 (kinds_in v) (entity_keys_built keys v h) (kinds_in w) (properties_built xs w i))

declarations_built : (xs : List Declaration) (u : List Token) → SpellsDeclarations xs u → Derives (Open p.DeclarationTail ∷ []) (kinds_in u)
declarations_built xs u sw.no_declarations = (made p.DeclarationTail).0
declarations_built xs u (sw.more_declarations x ys v w h i) = rw (map-append kind_of v w) ((made p.DeclarationTail).1.0 (kinds_in v) (declaration_built x v h) (kinds_in w) (declarations_built ys w i))

fate_built : (x : Fate) (u : List Token) → SpellsFate x u → Derives (Open p.Fate ∷ []) (kinds_in u)
fate_built x u sw.pass = (made p.Fate).0
fate_built x u sw.lose_push = (made p.Fate).1.0
fate_built x u sw.lose_reply = (made p.Fate).1.1.0
fate_built x u sw.twice = (made p.Fate).1.1.1.0
fate_built x u sw.hold = (made p.Fate).1.1.1.1.0

item_built : (x : Item) (u : List Token) → SpellsItem x u → Derives (Open p.Item ∷ []) (kinds_in u)
item_built x u (sw.steps n m) = (made p.Item).0
item_built x u (sw.serve n fate v h) = rw (map-append kind_of v (Fixed t.Semicolon ∷ [])) ((made p.Item).1.0 (kinds_in v) (fate_built fate v h))

items_built : (xs : List Item) (u : List Token) → SpellsItems xs u → Derives (Open p.ItemTail ∷ []) (kinds_in u)
items_built xs u sw.no_items = (made p.ItemTail).0
items_built xs u (sw.more_items x ys v w h i) = rw (map-append kind_of v w) ((made p.ItemTail).1.0 (kinds_in v) (item_built x v h) (kinds_in w) (items_built ys w i))

client_built : (x : Client) (u : List Token) → SpellsClient x u → Derives (Open p.Client ∷ []) (kinds_in u)
client_built x u (sw.client n body v h) = (made p.Client).0 (kinds_in v) (body_derived body v h)

clients_built : (xs : List Client) (plan : Option (List Item)) (u : List Token) → SpellsClients xs plan u → Derives (Open p.ClientTail ∷ []) (kinds_in u)
clients_built xs plan u sw.no_clients = (made p.ClientTail).0
clients_built xs plan u (sw.schedule items v h) = (made p.ClientTail).1.1.0 (kinds_in v) (items_built items v h)
clients_built xs plan u (sw.more_clients x ys later v w h i) = rw (map-append kind_of v w) ((made p.ClientTail).1.0 (kinds_in v) (client_built x v h) (kinds_in w) (clients_built ys later w i))

-- a program's tokens are one to the grammar
pub program_derived : (x : Program) (ts : List Token) → SpellsProgram x ts → Derives (Open p.Program ∷ []) (kinds_in ts)
program_derived x ts (sw.program ds y ys plan u v w h i j) = rw (map-append kind_of u (v ++ w), map-append kind_of v w)
    ((made p.Program).0 (kinds_in u) (declarations_built ds u h) (kinds_in v) (client_built y v i) (kinds_in w) (clients_built ys plan w j))
