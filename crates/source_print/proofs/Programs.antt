-- The tokens of a canonical text spell its program.
use Rattle.std.proofs.Common.{◌≡◌, ℕ, ◌+◌, List, [], ◌∷◌, ◌++◌, map, refl, ap, sym, ◌∙◌, append_assoc, append-nil, Option, Some, arith}
use Rattle.std.specs.Prelude.{codes, decimal}
use Rattle.std.specs.List.{AllByRecursion, flat_map}
use Rattle.cloud_base.specs.declared.schema.CellType.{CellType}
use Rattle.cloud_base.specs.declared.schema.CellType.TheVariants as c
use Rattle.cloud_base.specs.declared.schedule.Fate.{Fate}
use Rattle.cloud_base.specs.declared.schedule.Fate.TheVariants as f
use Rattle.source_tokens.specs.Scans.{IsToken}
use Rattle.source_tokens.specs.Terminals.{reserved, words, IsIdentifier}
use Rattle.source_tokens.specs.declared.terminal.Terminal.TheVariants as t
use Rattle.source_tokens.specs.declared.token.Token.{Token}
use Rattle.source_tokens.specs.declared.token.Token.TheVariants.{Name, Number, Fixed}
use Rattle.source_tokens.proofs.Lexing.{Lexes, Ends, lexes_name, lexes_number, lexes_word, lexes_nothing}
use Rattle.source_tree.specs.Heights.{body_height}
use Rattle.source_tree.specs.Limits.{IsLow}
use Rattle.source_tree.specs.Programs as p
use Rattle.source_tree.specs.Programs.{SpellsCell, SpellsKeyType, SpellsKey, SpellsKeyList, SpellsEntityKeys, SpellsProperty, SpellsPropertyList, SpellsProperties, SpellsDeclaration, SpellsDeclarations, SpellsFate, SpellsItem, SpellsItems, SpellsClient, SpellsClients, SpellsProgram}
use Rattle.source_tree.specs.declared.program.KeyType.{KeyType}
use Rattle.source_tree.specs.declared.program.Key.{Key}
use Rattle.source_tree.specs.declared.program.Property.{Property}
use Rattle.source_tree.specs.declared.program.Declaration.{Declaration}
use Rattle.source_tree.specs.declared.program.Declaration.TheVariants as d
use Rattle.source_tree.specs.declared.program.Client.{Client}
use Rattle.source_tree.specs.declared.program.Item.{Item}
use Rattle.source_tree.specs.declared.program.Item.TheVariants as i
use Rattle.source_tree.specs.declared.program.Program.{Program}
use Rattle.source_tree.specs.declared.statement.Statement.{Statement}
use Rattle.source_print.specs.Canonical.{cell_type_text, key_type_text, key_text, declared_keys_text, entity_keys_text, property_text, properties_text, declaration_text, client_text, fate_text, item_text, schedule_text, canonical}
use Rattle.source_print.specs.Expressions.{following}
use Rattle.source_print.specs.Statements.{block_text}
use Rattle.source_print.proofs.Bodies.{BlockPrints, block_prints_of, no_margin}
use Rattle.source_print.proofs.Nesting.{Nests, nothing, raised, plainly, joined, opened}
use Rattle.source_print.proofs.Outlines.{declarations_close, items_close}
use Rattle.source_print.proofs.Pieces as piece
use Rattle.source_print.proofs.Printed.{parts, by_same}

-- the type of a cell
record CellPrints (of : CellType) : Type 0 where
  tokens : List Token
  spelled : SpellsCell of tokens
  lexes : (rest : List ℕ) (ts : List Token) → Ends rest → Lexes rest ts → Lexes (cell_type_text of ++ rest) (tokens ++ ts)

cell_prints : (of : CellType) → CellPrints of
unfolding reserved words
cell_prints c.Int = record { tokens = Fixed t.CInt ∷ []; spelled = p.cell_int; lexes = λ rest ts e h. lexes_word (codes "CInt") rest (Fixed t.CInt) ts refl refl e h }
cell_prints c.Text = record { tokens = Fixed t.CString ∷ []; spelled = p.cell_text; lexes = λ rest ts e h. lexes_word (codes "CString") rest (Fixed t.CString) ts refl refl e h }

-- a property with the semicolon behind it
record PropertyPrints (x : Property) : Type 0 where
  tokens : List Token
  spelled : SpellsProperty x tokens
  lexes : (rest : List ℕ) (ts : List Token) → Lexes rest ts → Lexes (x.name ++ (codes ": " ++ (cell_type_text x.cell ++ (codes ";\n" ++ rest)))) (tokens ++ (Fixed t.Semicolon ∷ ts))
  global : (rest : List ℕ) (ts : List Token) → Lexes rest ts → Lexes (x.name ++ (codes " : " ++ (cell_type_text x.cell ++ (codes ";\n" ++ rest)))) (tokens ++ (Fixed t.Semicolon ∷ ts))

property_by : (n : List ℕ) (of : CellType) → IsIdentifier n → CellPrints of → PropertyPrints (record { name = n; cell = of })
property_by n of first q = record {
  tokens = Name n ∷ Fixed t.Colon ∷ q.tokens;
  spelled = p.property n of q.tokens q.spelled;
  lexes = λ rest ts h.
      lexes_name n (codes ": " ++ (cell_type_text of ++ (codes ";\n" ++ rest))) (Fixed t.Colon ∷ (q.tokens ++ (Fixed t.Semicolon ∷ ts))) first refl
      (piece.lexes_of _ _ (q.lexes (codes ";\n" ++ rest) (Fixed t.Semicolon ∷ ts) refl (piece.lexes_end rest ts h)));
  global = λ rest ts h.
      lexes_name n (codes " : " ++ (cell_type_text of ++ (codes ";\n" ++ rest))) (Fixed t.Colon ∷ (q.tokens ++ (Fixed t.Semicolon ∷ ts))) first refl
      (piece.lexes_typed _ _ (q.lexes (codes ";\n" ++ rest) (Fixed t.Semicolon ∷ ts) refl (piece.lexes_end rest ts h)));
}

property_prints : (x : Property) (u : List Token) → SpellsProperty x u → AllByRecursion IsToken u → PropertyPrints x
property_prints _ _ (p.property n of u h) all = property_by n of all.0 (cell_prints of)

-- the lines of properties, up to the closing brace
record PropertyListPrints (xs : List Property) : Type 0 where
  tokens : List Token
  spelled : SpellsPropertyList xs tokens
  lexes : (rest : List ℕ) (ts : List Token) → Lexes rest ts → Lexes (flat_map property_text xs ++ (codes "  }\n" ++ rest)) (tokens ++ ts)

no_property : PropertyListPrints []
no_property = record { tokens = Fixed t.CloseBrace ∷ []; spelled = p.no_properties; lexes = λ rest ts h. piece.lexes_finish_properties rest ts h }

property_flat : (a b d e g h i : List ℕ) → ((a ++ b ++ d ++ e ++ g) ++ h) ++ i ≡ a ++ (b ++ (d ++ (e ++ (g ++ (h ++ i)))))
property_flat a b d e g h i = simp append_assoc

more_property : (x : Property) (xs : List Property) → PropertyPrints x → PropertyListPrints xs → PropertyListPrints (x ∷ xs)
more_property x xs r q = record {
  tokens = r.tokens ++ Fixed t.Semicolon ∷ q.tokens;
  spelled = p.more_properties x xs r.tokens q.tokens r.spelled q.spelled;
  lexes = λ rest ts h.
      by_same _ _ _ _ (piece.lexes_four _ _ (r.lexes (flat_map property_text xs ++ (codes "  }\n" ++ rest)) (q.tokens ++ ts) (q.lexes rest ts h)))
      (property_flat (codes "    ") x.name (codes ": ") (cell_type_text x.cell) (codes ";\n") (flat_map property_text xs) (codes "  }\n" ++ rest)) (append_assoc r.tokens (Fixed t.Semicolon ∷ q.tokens) ts);
}

property_list : (xs : List Property) (u : List Token) → SpellsPropertyList xs u → AllByRecursion IsToken u → PropertyListPrints xs
property_list _ _ p.no_properties all = no_property
property_list _ _ (p.last_property x u h) all = more_property x [] (property_prints x u h (parts IsToken u (Fixed t.CloseBrace ∷ []) all).0) no_property
property_list _ _ (p.more_properties x xs u v h k) all = let both = parts IsToken u (Fixed t.Semicolon ∷ v) all in more_property x xs (property_prints x u h both.0) (property_list xs v k both.1.1)

record PropertiesPrint (xs : List Property) : Type 0 where
  tokens : List Token
  spelled : SpellsProperties xs tokens
  lexes : (rest : List ℕ) (ts : List Token) → Lexes rest ts → Lexes (properties_text xs ++ rest) (tokens ++ ts)

properties_by : (xs : List Property) → PropertyListPrints xs → PropertiesPrint xs
properties_by xs q = record {
  tokens = Fixed t.OpenBrace ∷ q.tokens;
  spelled = p.properties xs q.tokens q.spelled;
  lexes = λ rest ts h.
      by_same _ _ _ _ (piece.lexes_begin_properties _ _ (q.lexes rest ts h))
      (append_assoc (codes " {\n" ++ flat_map property_text xs) (codes "  }\n") rest ∙ append_assoc (codes " {\n") (flat_map property_text xs) (codes "  }\n" ++ rest)) refl;
}

properties_print : (xs : List Property) (u : List Token) → SpellsProperties xs u → AllByRecursion IsToken u → PropertiesPrint xs
properties_print _ _ (p.properties xs u h) all = properties_by xs (property_list xs u h all.1)

-- a key
record KeyTypePrints (of : KeyType) : Type 0 where
  tokens : List Token
  spelled : SpellsKeyType of tokens
  lexes : (rest : List ℕ) (ts : List Token) → Ends rest → Lexes rest ts → Lexes (key_type_text of ++ rest) (tokens ++ ts)

key_type_prints : (of : KeyType) (u : List Token) → SpellsKeyType of u → AllByRecursion IsToken u → KeyTypePrints of
unfolding reserved words
key_type_prints _ _ p.key_int all = record { tokens = Fixed t.Int ∷ []; spelled = p.key_int; lexes = λ rest ts e h. lexes_word (codes "int") rest (Fixed t.Int) ts refl refl e h }
key_type_prints _ _ p.key_text all = record { tokens = Fixed t.String ∷ []; spelled = p.key_text; lexes = λ rest ts e h. lexes_word (codes "string") rest (Fixed t.String) ts refl refl e h }
key_type_prints _ _ (p.key_entity n) all = record { tokens = Name n ∷ []; spelled = p.key_entity n; lexes = λ rest ts e h. lexes_name n rest ts all.0 e h }

record KeyPrints (x : Key) : Type 0 where
  tokens : List Token
  spelled : SpellsKey x tokens
  lexes : (rest : List ℕ) (ts : List Token) → Ends rest → Lexes rest ts → Lexes (key_text x ++ rest) (tokens ++ ts)

key_by : (n : List ℕ) (of : KeyType) → IsIdentifier n → KeyTypePrints of → KeyPrints (record { name = n; of = of })
key_by n of first q = record {
  tokens = Name n ∷ Fixed t.Colon ∷ q.tokens;
  spelled = p.key n of q.tokens q.spelled;
  lexes = λ rest ts e h.
      by_same _ _ _ _ (lexes_name n (codes ": " ++ (key_type_text of ++ rest)) (Fixed t.Colon ∷ (q.tokens ++ ts)) first refl (piece.lexes_of _ _ (q.lexes rest ts e h)))
      (append_assoc (n ++ codes ": ") (key_type_text of) rest ∙ append_assoc n (codes ": ") (key_type_text of ++ rest)) refl;
}

key_prints : (x : Key) (u : List Token) → SpellsKey x u → AllByRecursion IsToken u → KeyPrints x
key_prints _ _ (p.key n of u h) all = key_by n of all.0 (key_type_prints of u h all.1.1)

-- keys up to the closing bracket
record KeyListPrints (xs : List Key) : Type 0 where
  tokens : List Token
  spelled : SpellsKeyList xs tokens
  lexes : (rest : List ℕ) (ts : List Token) → Lexes rest ts → Lexes (declared_keys_text xs ++ rest) (tokens ++ ts)

following_keys : (xs : List Key) (u : List Token) → SpellsKeyList xs u → following (codes "]") (map key_text xs) ≡ codes ", " ++ declared_keys_text xs
following_keys _ _ (p.last_key x u h) = refl
following_keys _ _ (p.more_keys x xs u v h k) = refl

last_prints : (x : Key) → KeyPrints x → KeyListPrints (x ∷ [])
last_prints x q = record {
  tokens = q.tokens ++ Fixed t.CloseBracket ∷ [];
  spelled = p.last_key x q.tokens q.spelled;
  lexes = λ rest ts h.
      by_same _ _ _ _ (q.lexes (codes "]" ++ rest) (Fixed t.CloseBracket ∷ ts) refl (piece.lexes_close_bracket rest ts h))
      (append_assoc (key_text x) (codes "]") rest) (append_assoc q.tokens (Fixed t.CloseBracket ∷ []) ts);
}

more_print : (x : Key) (xs : List Key) → KeyPrints x → KeyListPrints xs → KeyListPrints (x ∷ xs)
more_print x xs r q = record {
  tokens = r.tokens ++ Fixed t.Comma ∷ q.tokens;
  spelled = p.more_keys x xs r.tokens q.tokens r.spelled q.spelled;
  lexes = λ rest ts h.
      by_same _ _ _ _ (r.lexes (codes ", " ++ (declared_keys_text xs ++ rest)) (Fixed t.Comma ∷ (q.tokens ++ ts)) refl (piece.lexes_comma (declared_keys_text xs ++ rest) (q.tokens ++ ts) (q.lexes rest ts h)))
      (ap (λ b. (key_text x ++ b) ++ rest) (following_keys xs q.tokens q.spelled) ∙ append_assoc (key_text x) (codes ", " ++ declared_keys_text xs) rest) (append_assoc r.tokens (Fixed t.Comma ∷ q.tokens) ts);
}

key_list : (xs : List Key) (u : List Token) → SpellsKeyList xs u → AllByRecursion IsToken u → KeyListPrints xs
key_list _ _ (p.last_key x u h) all = last_prints x (key_prints x u h (parts IsToken u (Fixed t.CloseBracket ∷ []) all).0)
key_list _ _ (p.more_keys x xs u v h k) all = let both = parts IsToken u (Fixed t.Comma ∷ v) all in more_print x xs (key_prints x u h both.0) (key_list xs v k both.1.1)

-- nothing, or keys in brackets
record EntityKeysPrint (xs : List Key) : Type 0 where
  tokens : List Token
  spelled : SpellsEntityKeys xs tokens
  ends : (rest : List ℕ) → Ends rest → Ends (entity_keys_text xs ++ rest)
  lexes : (rest : List ℕ) (ts : List Token) → Lexes rest ts → Lexes (entity_keys_text xs ++ rest) (tokens ++ ts)

entity_keys_by : (xs : List Key) (u : List Token) → SpellsKeyList xs u → KeyListPrints xs → EntityKeysPrint xs
entity_keys_by [] u h q = elim h [ ]
entity_keys_by (x ∷ xs) u h q = record {
  tokens = Fixed t.OpenBracket ∷ q.tokens;
  spelled = p.some_keys (x ∷ xs) q.tokens q.spelled;
  ends = λ rest e. refl;
  lexes = λ rest ts h. by_same _ _ _ _ (piece.lexes_open_bracket _ _ (q.lexes rest ts h)) (append_assoc (codes "[") (declared_keys_text (x ∷ xs)) rest) refl;
}

entity_keys_print : (xs : List Key) (u : List Token) → SpellsEntityKeys xs u → AllByRecursion IsToken u → EntityKeysPrint xs
entity_keys_print _ _ p.no_keys all = record { tokens = []; spelled = p.no_keys; ends = λ rest e. e; lexes = λ rest ts h. h }
entity_keys_print _ _ (p.some_keys xs u h) all = entity_keys_by xs u h (key_list xs u h all.1)

-- a declaration
record DeclarationPrints (x : Declaration) : Type 0 where
  tokens : List Token
  spelled : SpellsDeclaration x tokens
  lexes : (rest : List ℕ) (ts : List Token) → Lexes rest ts → Lexes (declaration_text x ++ rest) (tokens ++ ts)

five_flat : (a b d e g h : List ℕ) → (a ++ b ++ d ++ e ++ g) ++ h ≡ a ++ (b ++ (d ++ (e ++ (g ++ h))))
five_flat a b d e g h = simp append_assoc

four_flat : (a b d e h : List ℕ) → (a ++ b ++ d ++ e) ++ h ≡ a ++ (b ++ (d ++ (e ++ h)))
four_flat a b d e h = simp append_assoc

global_by : (x : Property) → PropertyPrints x → DeclarationPrints (d.Global x)
global_by x q = record {
  tokens = Fixed t.Global ∷ (q.tokens ++ Fixed t.Semicolon ∷ []);
  spelled = p.global x q.tokens q.spelled;
  lexes = λ rest ts h.
      by_same _ _ _ _ (piece.lexes_global _ _ (q.global rest ts h))
      (five_flat (codes "  global ") x.name (codes " : ") (cell_type_text x.cell) (codes ";\n") rest) (ap (λ us. Fixed t.Global ∷ us) (append_assoc q.tokens (Fixed t.Semicolon ∷ []) ts));
}

array_by : (n : List ℕ) (keys : List Key) (xs : List Property) → IsIdentifier n → KeyListPrints keys → PropertiesPrint xs → DeclarationPrints (d.Array n keys xs)
array_by n keys xs first r q = record {
  tokens = Fixed t.Array ∷ Name n ∷ Fixed t.OpenBracket ∷ (r.tokens ++ q.tokens);
  spelled = p.array n keys xs r.tokens q.tokens r.spelled q.spelled;
  lexes = λ rest ts h.
      by_same _ _ _ _
      (piece.lexes_array _ _ (lexes_name n (codes "[" ++ (declared_keys_text keys ++ (properties_text xs ++ rest))) (Fixed t.OpenBracket ∷ (r.tokens ++ (q.tokens ++ ts))) first refl
      (piece.lexes_open_bracket _ _ (r.lexes (properties_text xs ++ rest) (q.tokens ++ ts) (q.lexes rest ts h)))))
      (five_flat (codes "  array ") n (codes "[") (declared_keys_text keys) (properties_text xs) rest) (ap (λ us. Fixed t.Array ∷ Name n ∷ Fixed t.OpenBracket ∷ us) (append_assoc r.tokens q.tokens ts));
}

entity_by : (n : List ℕ) (keys : List Key) (xs : List Property) → IsIdentifier n → EntityKeysPrint keys → PropertiesPrint xs → DeclarationPrints (d.Entity n keys xs)
entity_by n keys xs first r q = record {
  tokens = Fixed t.Entity ∷ Name n ∷ (r.tokens ++ q.tokens);
  spelled = p.entity n keys xs r.tokens q.tokens r.spelled q.spelled;
  lexes = λ rest ts h.
      by_same _ _ _ _
      (piece.lexes_entity _ _ (lexes_name n (entity_keys_text keys ++ (properties_text xs ++ rest)) (r.tokens ++ (q.tokens ++ ts)) first (r.ends (properties_text xs ++ rest) refl) (r.lexes (properties_text xs ++ rest) (q.tokens ++ ts) (q.lexes rest ts h))))
      (four_flat (codes "  entity ") n (entity_keys_text keys) (properties_text xs) rest) (ap (λ us. Fixed t.Entity ∷ Name n ∷ us) (append_assoc r.tokens q.tokens ts));
}

declaration_prints : (x : Declaration) (u : List Token) → SpellsDeclaration x u → AllByRecursion IsToken u → DeclarationPrints x
declaration_prints _ _ (p.global x u h) all = global_by x (property_prints x u h (parts IsToken u (Fixed t.Semicolon ∷ []) all.1).0)
declaration_prints _ _ (p.array n keys xs u v h k) all = let both = parts IsToken u v all.1.1.1 in array_by n keys xs all.1.0 (key_list keys u h both.0) (properties_print xs v k both.1)
declaration_prints _ _ (p.entity n keys xs u v h k) all = let both = parts IsToken u v all.1.1 in entity_by n keys xs all.1.0 (entity_keys_print keys u h both.0) (properties_print xs v k both.1)

record DeclarationsPrint (xs : List Declaration) : Type 0 where
  tokens : List Token
  spelled : SpellsDeclarations xs tokens
  lexes : (rest : List ℕ) (ts : List Token) → Lexes rest ts → Lexes (flat_map declaration_text xs ++ (codes "}\n" ++ rest)) (tokens ++ ts)

more_declaration : (x : Declaration) (xs : List Declaration) → DeclarationPrints x → DeclarationsPrint xs → DeclarationsPrint (x ∷ xs)
more_declaration x xs r q = record {
  tokens = r.tokens ++ q.tokens;
  spelled = p.more_declarations x xs r.tokens q.tokens r.spelled q.spelled;
  lexes = λ rest ts h.
      by_same _ _ _ _ (r.lexes (flat_map declaration_text xs ++ (codes "}\n" ++ rest)) (q.tokens ++ ts) (q.lexes rest ts h))
      (append_assoc (declaration_text x) (flat_map declaration_text xs) (codes "}\n" ++ rest)) (append_assoc r.tokens q.tokens ts);
}

declarations_print : (xs : List Declaration) (u : List Token) → SpellsDeclarations xs u → AllByRecursion IsToken u → DeclarationsPrint xs
declarations_print _ _ p.no_declarations all = record { tokens = Fixed t.CloseBrace ∷ []; spelled = p.no_declarations; lexes = λ rest ts h. piece.lexes_finished rest ts h }
declarations_print _ _ (p.more_declarations x xs u v h k) all = let both = parts IsToken u v all in more_declaration x xs (declaration_prints x u h both.0) (declarations_print xs v k both.1)

-- an item of the schedule
record FatePrints (x : Fate) : Type 0 where
  tokens : List Token
  spelled : SpellsFate x tokens
  ends : (rest : List ℕ) → Ends (fate_text x ++ rest)
  lexes : (rest : List ℕ) (ts : List Token) → Ends rest → Lexes rest ts → Lexes (fate_text x ++ rest) (tokens ++ ts)

fate_prints : (x : Fate) → FatePrints x
unfolding reserved words
fate_prints f.Pass = record { tokens = Fixed t.Pass ∷ []; spelled = p.pass; ends = λ rest. refl; lexes = λ rest ts e h. piece.lexes_blank _ _ (lexes_word (codes "pass") rest (Fixed t.Pass) ts refl refl e h) }
fate_prints f.LosePush = record { tokens = Fixed t.LosePush ∷ []; spelled = p.lose_push; ends = λ rest. refl; lexes = λ rest ts e h. piece.lexes_blank _ _ (lexes_word (codes "losepush") rest (Fixed t.LosePush) ts refl refl e h) }
fate_prints f.LoseReply = record { tokens = Fixed t.LoseReply ∷ []; spelled = p.lose_reply; ends = λ rest. refl; lexes = λ rest ts e h. piece.lexes_blank _ _ (lexes_word (codes "losereply") rest (Fixed t.LoseReply) ts refl refl e h) }
fate_prints f.Twice = record { tokens = Fixed t.Twice ∷ []; spelled = p.twice; ends = λ rest. refl; lexes = λ rest ts e h. piece.lexes_blank _ _ (lexes_word (codes "twice") rest (Fixed t.Twice) ts refl refl e h) }
fate_prints f.Hold = record { tokens = Fixed t.Hold ∷ []; spelled = p.hold; ends = λ rest. refl; lexes = λ rest ts e h. piece.lexes_blank _ _ (lexes_word (codes "hold") rest (Fixed t.Hold) ts refl refl e h) }

record ItemPrints (x : Item) : Type 0 where
  tokens : List Token
  spelled : SpellsItem x tokens
  lexes : (rest : List ℕ) (ts : List Token) → Lexes rest ts → Lexes (item_text x ++ rest) (tokens ++ ts)

serve_by : (n : List ℕ) (fate : Fate) → IsIdentifier n → FatePrints fate → ItemPrints (i.Serve n fate)
serve_by n fate first q = record {
  tokens = Fixed t.Serve ∷ Name n ∷ (q.tokens ++ Fixed t.Semicolon ∷ []);
  spelled = p.serve n fate q.tokens q.spelled;
  lexes = λ rest ts h.
      by_same _ _ _ _
      (piece.lexes_serve _ _ (lexes_name n (fate_text fate ++ (codes ";\n" ++ rest)) (q.tokens ++ Fixed t.Semicolon ∷ ts) first (q.ends (codes ";\n" ++ rest)) (q.lexes (codes ";\n" ++ rest) (Fixed t.Semicolon ∷ ts) refl (piece.lexes_end rest ts h))))
      (four_flat (codes "  serve ") n (fate_text fate) (codes ";\n") rest) (ap (λ us. Fixed t.Serve ∷ Name n ∷ us) (append_assoc q.tokens (Fixed t.Semicolon ∷ []) ts));
}

item_prints : (x : Item) (u : List Token) → SpellsItem x u → AllByRecursion IsToken u → ItemPrints x
item_prints _ _ (p.steps n count) all = record {
  tokens = Name n ∷ Number count ∷ Fixed t.Semicolon ∷ [];
  spelled = p.steps n count;
  lexes = λ rest ts h.
      by_same _ _ _ _
      (piece.lexes_two _ _ (lexes_name n (codes " " ++ (decimal count ++ (codes ";\n" ++ rest))) (Number count ∷ Fixed t.Semicolon ∷ ts) all.0 refl (piece.lexes_blank _ _ (lexes_number count (codes ";\n" ++ rest) (Fixed t.Semicolon ∷ ts) all.1.0 refl (piece.lexes_end rest ts h)))))
      (five_flat (codes "  ") n (codes " ") (decimal count) (codes ";\n") rest) refl;
}
item_prints _ _ (p.serve n fate u h) all = serve_by n fate all.1.0 (fate_prints fate)

record ItemsPrint (xs : List Item) : Type 0 where
  tokens : List Token
  spelled : SpellsItems xs tokens
  lexes : (rest : List ℕ) (ts : List Token) → Lexes rest ts → Lexes (flat_map item_text xs ++ (codes "}\n" ++ rest)) (tokens ++ ts)

more_item : (x : Item) (xs : List Item) → ItemPrints x → ItemsPrint xs → ItemsPrint (x ∷ xs)
more_item x xs r q = record {
  tokens = r.tokens ++ q.tokens;
  spelled = p.more_items x xs r.tokens q.tokens r.spelled q.spelled;
  lexes = λ rest ts h.
      by_same _ _ _ _ (r.lexes (flat_map item_text xs ++ (codes "}\n" ++ rest)) (q.tokens ++ ts) (q.lexes rest ts h))
      (append_assoc (item_text x) (flat_map item_text xs) (codes "}\n" ++ rest)) (append_assoc r.tokens q.tokens ts);
}

items_print : (xs : List Item) (u : List Token) → SpellsItems xs u → AllByRecursion IsToken u → ItemsPrint xs
items_print _ _ p.no_items all = record { tokens = Fixed t.CloseBrace ∷ []; spelled = p.no_items; lexes = λ rest ts h. piece.lexes_finished rest ts h }
items_print _ _ (p.more_items x xs u v h k) all = let both = parts IsToken u v all in more_item x xs (item_prints x u h both.0) (items_print xs v k both.1)

-- a client
record ClientPrints (x : Client) : Type 0 where
  tokens : List Token
  spelled : SpellsClient x tokens
  nests : Nests (body_height x.body + 1) tokens
  lexes : (rest : List ℕ) (ts : List Token) → Lexes rest ts → Lexes (client_text x ++ rest) (tokens ++ ts)

client_by : (n : List ℕ) (body : List Statement) → IsIdentifier n → BlockPrints body → ClientPrints (record { name = n; body = body })
client_by n body first b = record {
  tokens = Fixed t.Client ∷ Name n ∷ b.tokens;
  spelled = p.client n body b.tokens b.spelled;
  nests = plainly _ (Fixed t.Client) _ (λ n. refl) (plainly _ (Name n) _ (λ n. refl) b.nests);
  lexes = λ rest ts h.
      by_same _ _ _ _
      (piece.lexes_client _ _ (lexes_name n (codes " " ++ (block_text [] body ++ (codes "\n" ++ rest))) (b.tokens ++ ts) first refl (piece.lexes_blank _ _ (b.lexes [] (codes "\n" ++ rest) ts no_margin (piece.lexes_feed rest ts h)))))
      (five_flat (codes "client ") n (codes " ") (block_text [] body) (codes "\n") rest) refl;
}

client_prints : (x : Client) (u : List Token) → SpellsClient x u → AllByRecursion IsToken u → ClientPrints x
client_prints _ _ (p.client n body u h) all = client_by n body all.1.0 (block_prints_of body u h all.1.1)

-- clients and the schedule
record ClientsPrint (xs : List Client) (plan : Option (List Item)) : Type 0 where
  tokens : List Token
  spelled : SpellsClients xs plan tokens
  nests : AllByRecursion IsLow xs → Nests 33 tokens
  lexes : (rest : List ℕ) (ts : List Token) → Lexes rest ts → Lexes (flat_map client_text xs ++ (schedule_text plan ++ rest)) (tokens ++ ts)

schedule_by : (xs : List Item) → ItemsPrint xs → ClientsPrint [] (Some xs)
schedule_by xs q = record {
  tokens = Fixed t.Schedule ∷ Fixed t.OpenBrace ∷ q.tokens;
  spelled = p.schedule xs q.tokens q.spelled;
  nests = λ low. plainly 33 (Fixed t.Schedule) _ (λ n. refl) (raised 1 33 _ (omega arith) (opened 0 (Fixed t.OpenBrace) q.tokens (λ n. refl) (items_close xs q.tokens q.spelled)));
  lexes = λ rest ts h.
      by_same _ _ _ _ (piece.lexes_schedule _ _ (q.lexes rest ts h))
      (append_assoc (codes "schedule {\n" ++ flat_map item_text xs) (codes "}\n") rest ∙ append_assoc (codes "schedule {\n") (flat_map item_text xs) (codes "}\n" ++ rest)) refl;
}

low_nests : (x : Client) (u : List Token) → IsLow x → Nests (body_height x.body + 1) u → Nests 33 u
low_nests x u low h = raised (body_height x.body + 1) 33 u (omega arith) h

more_client : (x : Client) (xs : List Client) (plan : Option (List Item)) → ClientPrints x → ClientsPrint xs plan → ClientsPrint (x ∷ xs) plan
more_client x xs plan r q = record {
  tokens = r.tokens ++ q.tokens;
  spelled = p.more_clients x xs plan r.tokens q.tokens r.spelled q.spelled;
  nests = λ low. joined 33 r.tokens q.tokens (low_nests x r.tokens low.0 r.nests) (q.nests low.1);
  lexes = λ rest ts h.
      by_same _ _ _ _ (r.lexes (flat_map client_text xs ++ (schedule_text plan ++ rest)) (q.tokens ++ ts) (q.lexes rest ts h))
      (append_assoc (client_text x) (flat_map client_text xs) (schedule_text plan ++ rest)) (append_assoc r.tokens q.tokens ts);
}

clients_print : (xs : List Client) (plan : Option (List Item)) (u : List Token) → SpellsClients xs plan u → AllByRecursion IsToken u → ClientsPrint xs plan
clients_print _ _ _ p.no_clients all = record { tokens = []; spelled = p.no_clients; nests = λ low. nothing 33; lexes = λ rest ts h. h }
clients_print _ _ _ (p.schedule xs u h) all = schedule_by xs (items_print xs u h all.1.1)
clients_print _ _ _ (p.more_clients x xs plan u v h k) all = let both = parts IsToken u v all in more_client x xs plan (client_prints x u h both.0) (clients_print xs plan v k both.1)

-- a whole program
pub record ProgramPrints (x : Program) : Type 0 where
  pub tokens : List Token
  pub spelled : SpellsProgram x tokens
  pub nests : AllByRecursion IsLow x.clients → Nests 33 tokens
  pub lexes : Lexes (canonical x) tokens

program_flat : (a b d e g h : List ℕ) → a ++ b ++ d ++ (e ++ g) ++ h ≡ a ++ (b ++ (d ++ (e ++ (g ++ (h ++ [])))))
program_flat a b d e g h = simp (append_assoc, append-nil)

program_by : (ds : List Declaration) (x : Client) (xs : List Client) (plan : Option (List Item)) → DeclarationsPrint ds → ClientPrints x → ClientsPrint xs plan
    → ProgramPrints (record { declarations = ds; clients = x ∷ xs; schedule = plan })
program_by ds x xs plan d r q = record {
  tokens = Fixed t.Schema ∷ Fixed t.OpenBrace ∷ (d.tokens ++ (r.tokens ++ q.tokens));
  spelled = p.program ds x xs plan d.tokens r.tokens q.tokens d.spelled r.spelled q.spelled;
  nests = λ low.
      plainly 33 (Fixed t.Schema) _ (λ n. refl)
      (joined 33 (Fixed t.OpenBrace ∷ d.tokens) (r.tokens ++ q.tokens) (raised 2 33 _ (omega arith) (opened 1 (Fixed t.OpenBrace) d.tokens (λ n. refl) (declarations_close ds d.tokens d.spelled)))
      (joined 33 r.tokens q.tokens (low_nests x r.tokens low.0 r.nests) (q.nests low.1)));
  lexes =
      by_same _ _ _ _
      (piece.lexes_schema _ _ (d.lexes (client_text x ++ (flat_map client_text xs ++ (schedule_text plan ++ []))) (r.tokens ++ (q.tokens ++ []))
      (r.lexes (flat_map client_text xs ++ (schedule_text plan ++ [])) (q.tokens ++ []) (q.lexes [] [] lexes_nothing))))
      (program_flat (codes "schema {\n") (flat_map declaration_text ds) (codes "}\n") (client_text x) (flat_map client_text xs) (schedule_text plan))
      (ap (λ us. Fixed t.Schema ∷ Fixed t.OpenBrace ∷ (d.tokens ++ (r.tokens ++ us))) (sym (append-nil q.tokens)));
}

pub program_prints : (x : Program) (u : List Token) → SpellsProgram x u → AllByRecursion IsToken u → ProgramPrints x
program_prints _ _ (p.program ds x xs plan u v w h k m) all =
    let outer = parts IsToken u (v ++ w) all.1.1 in
    let inner = parts IsToken v w outer.1 in
    program_by ds x xs plan (declarations_print ds u h outer.0) (client_prints x v k inner.0) (clients_print xs plan w m inner.1)
