-- How deep brackets nest in declarations and schedules, however they are spelled.
use Rattle.std.proofs.Common.{List, [], ◌∷◌, ◌++◌, refl, subst, append_assoc, arith}
use Rattle.cloud_base.specs.declared.schema.CellType.{CellType}
use Rattle.cloud_base.specs.declared.schedule.Fate.{Fate}
use Rattle.source_tokens.specs.declared.terminal.Terminal.TheVariants as t
use Rattle.source_tokens.specs.declared.token.Token.{Token}
use Rattle.source_tokens.specs.declared.token.Token.TheVariants.{Name, Number, Fixed}
use Rattle.source_tree.specs.Programs as p
use Rattle.source_tree.specs.Programs.{SpellsCell, SpellsKeyType, SpellsKey, SpellsKeyList, SpellsEntityKeys, SpellsProperty, SpellsPropertyList, SpellsProperties, SpellsDeclaration, SpellsDeclarations, SpellsFate, SpellsItem, SpellsItems}
use Rattle.source_tree.specs.declared.program.KeyType.{KeyType}
use Rattle.source_tree.specs.declared.program.Key.{Key}
use Rattle.source_tree.specs.declared.program.Property.{Property}
use Rattle.source_tree.specs.declared.program.Declaration.{Declaration}
use Rattle.source_tree.specs.declared.program.Item.{Item}
use Rattle.source_print.proofs.Nesting.{Nests, Closes, nothing, raised, plainly, word, joined, closed, closing, opened, ended, shut, shut_bracket, shut_brace}

cell_nests : (of : CellType) (u : List Token) → SpellsCell of u → Nests 0 u
cell_nests _ _ p.cell_int = word 0 (Fixed t.CInt) (λ n. refl)
cell_nests _ _ p.cell_text = word 0 (Fixed t.CString) (λ n. refl)

key_type_nests : (of : KeyType) (u : List Token) → SpellsKeyType of u → Nests 0 u
key_type_nests _ _ p.key_int = word 0 (Fixed t.Int) (λ n. refl)
key_type_nests _ _ p.key_text = word 0 (Fixed t.String) (λ n. refl)
key_type_nests _ _ (p.key_entity n) = word 0 (Name n) (λ n. refl)

key_nests : (x : Key) (u : List Token) → SpellsKey x u → Nests 0 u
key_nests _ _ (p.key n of u h) = plainly 0 (Name n) _ (λ n. refl) (plainly 0 (Fixed t.Colon) u (λ n. refl) (key_type_nests of u h))

key_list_closes : (xs : List Key) (u : List Token) → SpellsKeyList xs u → Closes 0 u
key_list_closes _ _ (p.last_key x u h) = shut 0 u (Fixed t.CloseBracket) shut_bracket (key_nests x u h)
key_list_closes _ _ (p.more_keys x xs u v h k) =
    subst (Closes 0) (append_assoc u (Fixed t.Comma ∷ []) v) (closing 0 (u ++ Fixed t.Comma ∷ []) v (ended 0 u (Fixed t.Comma) (λ n. refl) (key_nests x u h)) (key_list_closes xs v k))

entity_keys_nests : (xs : List Key) (u : List Token) → SpellsEntityKeys xs u → Nests 1 u
entity_keys_nests _ _ p.no_keys = nothing 1
entity_keys_nests _ _ (p.some_keys xs u h) = opened 0 (Fixed t.OpenBracket) u (λ n. refl) (key_list_closes xs u h)

property_nests : (x : Property) (u : List Token) → SpellsProperty x u → Nests 0 u
property_nests _ _ (p.property n of u h) = plainly 0 (Name n) _ (λ n. refl) (plainly 0 (Fixed t.Colon) u (λ n. refl) (cell_nests of u h))

property_list_closes : (xs : List Property) (u : List Token) → SpellsPropertyList xs u → Closes 0 u
property_list_closes _ _ p.no_properties = closed 0 (Fixed t.CloseBrace) [] shut_brace (nothing 0)
property_list_closes _ _ (p.last_property x u h) = shut 0 u (Fixed t.CloseBrace) shut_brace (property_nests x u h)
property_list_closes _ _ (p.more_properties x xs u v h k) =
    subst (Closes 0) (append_assoc u (Fixed t.Semicolon ∷ []) v) (closing 0 (u ++ Fixed t.Semicolon ∷ []) v (ended 0 u (Fixed t.Semicolon) (λ n. refl) (property_nests x u h)) (property_list_closes xs v k))

properties_nest : (xs : List Property) (u : List Token) → SpellsProperties xs u → Nests 1 u
properties_nest _ _ (p.properties xs u h) = opened 0 (Fixed t.OpenBrace) u (λ n. refl) (property_list_closes xs u h)

declaration_nests : (x : Declaration) (u : List Token) → SpellsDeclaration x u → Nests 1 u
declaration_nests _ _ (p.global x u h) = plainly 1 (Fixed t.Global) _ (λ n. refl) (ended 1 u (Fixed t.Semicolon) (λ n. refl) (raised 0 1 u (omega arith) (property_nests x u h)))
declaration_nests _ _ (p.array n keys xs u v h k) =
    plainly 1 (Fixed t.Array) _ (λ n. refl) (plainly 1 (Name n) _ (λ n. refl) (joined 1 (Fixed t.OpenBracket ∷ u) v (opened 0 (Fixed t.OpenBracket) u (λ n. refl) (key_list_closes keys u h)) (properties_nest xs v k)))
declaration_nests _ _ (p.entity n keys xs u v h k) = plainly 1 (Fixed t.Entity) _ (λ n. refl) (plainly 1 (Name n) _ (λ n. refl) (joined 1 u v (entity_keys_nests keys u h) (properties_nest xs v k)))

pub declarations_close : (xs : List Declaration) (u : List Token) → SpellsDeclarations xs u → Closes 1 u
declarations_close _ _ p.no_declarations = closed 1 (Fixed t.CloseBrace) [] shut_brace (nothing 1)
declarations_close _ _ (p.more_declarations x xs u v h k) = closing 1 u v (declaration_nests x u h) (declarations_close xs v k)

fate_nests : (x : Fate) (u : List Token) → SpellsFate x u → Nests 0 u
fate_nests _ _ p.pass = word 0 (Fixed t.Pass) (λ n. refl)
fate_nests _ _ p.lose_push = word 0 (Fixed t.LosePush) (λ n. refl)
fate_nests _ _ p.lose_reply = word 0 (Fixed t.LoseReply) (λ n. refl)
fate_nests _ _ p.twice = word 0 (Fixed t.Twice) (λ n. refl)
fate_nests _ _ p.hold = word 0 (Fixed t.Hold) (λ n. refl)

item_nests : (x : Item) (u : List Token) → SpellsItem x u → Nests 0 u
item_nests _ _ (p.steps n count) = plainly 0 (Name n) _ (λ n. refl) (plainly 0 (Number count) _ (λ n. refl) (word 0 (Fixed t.Semicolon) (λ n. refl)))
item_nests _ _ (p.serve n fate u h) = plainly 0 (Fixed t.Serve) _ (λ n. refl) (plainly 0 (Name n) _ (λ n. refl) (ended 0 u (Fixed t.Semicolon) (λ n. refl) (fate_nests fate u h)))

pub items_close : (xs : List Item) (u : List Token) → SpellsItems xs u → Closes 0 u
items_close _ _ p.no_items = closed 0 (Fixed t.CloseBrace) [] shut_brace (nothing 0)
items_close _ _ (p.more_items x xs u v h k) = closing 0 u v (item_nests x u h) (items_close xs v k)
