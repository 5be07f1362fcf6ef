-- The words of a tree are those among its tokens.
use Rattle.std.proofs.Common.{◌≡◌, refl, sym, ◌∙◌, ap}
use Rattle.std.proofs.lemmas.List.{append_assoc, append-nil}
use Rattle.std.specs.Prelude.{ℕ, List, [], ◌∷◌, ◌++◌, map, Option, Some, None}
use Rattle.std.specs.List.{flat_map}
use Rattle.cloud_base.specs.declared.schema.CellType.{CellType}
use Rattle.cloud_base.specs.declared.schedule.Fate.{Fate}
use Rattle.source_tokens.specs.declared.terminal.Terminal.{Terminal}
use Rattle.source_tokens.specs.declared.terminal.Terminal.TheVariants as t
use Rattle.source_tokens.specs.declared.token.Token.{Token}
use Rattle.source_tokens.specs.declared.token.Token.TheVariants.{Name, Number, Text, Fixed}
use Rattle.source_tree.specs.declared.expression.Operator.TheVariants as o
use Rattle.source_tree.specs.declared.expression.Level.{Level}
use Rattle.source_tree.specs.declared.expression.Level.TheVariants as l
use Rattle.source_tree.specs.declared.expression.Place.{Place}
use Rattle.source_tree.specs.declared.expression.Expression.{Expression}
use Rattle.source_tree.specs.declared.expression.Expression.TheVariants as e
use Rattle.source_tree.specs.declared.statement.Operation.{Operation}
use Rattle.source_tree.specs.declared.statement.Statement.{Statement}
use Rattle.source_tree.specs.declared.statement.Statement.TheVariants as s
use Rattle.source_tree.specs.declared.program.KeyType.{KeyType}
use Rattle.source_tree.specs.declared.program.Key.{Key}
use Rattle.source_tree.specs.declared.program.Property.{Property}
use Rattle.source_tree.specs.declared.program.Declaration.{Declaration}
use Rattle.source_tree.specs.declared.program.Client.{Client}
use Rattle.source_tree.specs.declared.program.Item.{Item}
use Rattle.source_tree.specs.declared.program.Program.{Program}
use Rattle.source_tree.specs.Words.{joined, words, names, statement_words, body_words, key_type_words, key_words, property_words, declaration_words, client_words, item_words, schedule_words, program_words, words_of, numbers_of, texts_of}
use Rattle.source_tree.specs.Forms.{words_number, words_text, words_truth, words_alive, words_place_name, words_place_field, words_place_entry, words_minus, words_not, words_binary, words_define, words_create, words_assign, words_update, words_delete, words_if, words_if_else, words_while, words_for_all, words_for_entries, words_print, words_yield, words_flush}
use Rattle.source_tree.specs.Expressions.{Spells, SpellsPlace, SpellsKeys, choice_conjunction, choice_or, conjunction_negation, conjunction_and, negation_comparison, negation_not, comparison_sum, comparison_two, sum_term, sum_two, term_factor, term_two, factor_minus, factor_number, factor_text, factor_true, factor_false, factor_alive, factor_place, factor_brackets, place_name, place_field, place_entry}
use Rattle.source_tree.specs.Expressions as expressions
use Rattle.source_tree.specs.Statements.{SpellsOperation, SpellsChange, SpellsNewKeys, SpellsStatement, SpellsBlock, SpellsBody, SpellsElse, SpellsEach, add, set, set_if_empty, change, no_new_keys, new_keys, define, create, assign, update, delete, if_else, while, for_all, for_entries, print, yield, flush, block, no_statements, more_statements, no_else, else_block, last_name, more_names}
use Rattle.source_tree.specs.Programs.{SpellsCell, SpellsKeyType, SpellsKey, SpellsKeyList, SpellsEntityKeys, SpellsProperty, SpellsPropertyList, SpellsProperties, SpellsDeclaration, SpellsDeclarations, SpellsFate, SpellsItem, SpellsItems, SpellsClient, SpellsClients, SpellsProgram, cell_int, cell_text, key_int, key_text, key_entity, key, last_key, more_keys, no_keys, some_keys, property, no_properties, last_property, more_properties, properties, global, array, entity, no_declarations, more_declarations, pass, lose_push, lose_reply, twice, hold, steps, serve, no_items, more_items, client, no_clients, schedule, more_clients, program}

words_both : (u v : List Token) → words_of (u ++ v) ≡ words_of u ++ words_of v
words_both [] v = refl
words_both (Name x ∷ u) v = ap (λ ts. Name x ∷ ts) (words_both u v)
words_both (Number n ∷ u) v = ap (λ ts. Number n ∷ ts) (words_both u v)
words_both (Text bytes ∷ u) v = ap (λ ts. Text bytes ∷ ts) (words_both u v)
words_both (Fixed w ∷ u) v = words_both u v

-- a fixed token behind, and two parts with what stands between
closed : (u : List Token) (w : Terminal) → words_of (u ++ Fixed w ∷ []) ≡ words_of u
closed u w = words_both u (Fixed w ∷ []) ∙ append-nil (words_of u)

both : {a b : List Token} (u v : List Token) → a ≡ words_of u → b ≡ words_of v → a ++ b ≡ words_of (u ++ v)
both {a = a} {b = b} u v p q = ap (λ ts. ts ++ b) p ∙ ap (λ ts. words_of u ++ ts) q ∙ sym (words_both u v)

mutual
  expression_words : (level : Level) (a : Expression) (u : List Token) → Spells level a u → words a ≡ words_of u
  expression_words level a u (choice_conjunction b v h) = expression_words l.Conjunction b v h
  expression_words level a u (choice_or b c v x h i) = words_binary o.Or b c ∙ both v (Fixed t.Or ∷ x) (expression_words l.Choice b v h) (expression_words l.Conjunction c x i)
  expression_words level a u (conjunction_negation b v h) = expression_words l.Negation b v h
  expression_words level a u (conjunction_and b c v x h i) = words_binary o.And b c ∙ both v (Fixed t.And ∷ x) (expression_words l.Conjunction b v h) (expression_words l.Negation c x i)
  expression_words level a u (negation_comparison b v h) = expression_words l.Comparison b v h
  expression_words level a u (negation_not b v h) = words_not b ∙ expression_words l.Negation b v h
  expression_words level a u (comparison_sum b v h) = expression_words l.Sum b v h
  expression_words level a u (comparison_two w op b c v x q h i) = words_binary op b c ∙ both v (Fixed w ∷ x) (expression_words l.Sum b v h) (expression_words l.Sum c x i)
  expression_words level a u (sum_term b v h) = expression_words l.Term b v h
  expression_words level a u (sum_two w op b c v x q h i) = words_binary op b c ∙ both v (Fixed w ∷ x) (expression_words l.Sum b v h) (expression_words l.Term c x i)
  expression_words level a u (term_factor b v h) = expression_words l.Factor b v h
  expression_words level a u (term_two w op b c v x q h i) = words_binary op b c ∙ both v (Fixed w ∷ x) (expression_words l.Term b v h) (expression_words l.Factor c x i)
  expression_words level a u (factor_minus b v h) = words_minus b ∙ expression_words l.Factor b v h
  expression_words level a u (factor_number n) = words_number n
  expression_words level a u (factor_text bytes) = words_text bytes
  expression_words level a u factor_true = words_truth _
  expression_words level a u factor_false = words_truth _
  expression_words level a u (factor_alive x) = words_alive x
  expression_words level a u (factor_place p v h) = place_words p v h
  expression_words level a u (factor_brackets b v h) = expression_words l.Choice b v h ∙ sym (closed v t.CloseParen)

  place_words : (p : Place Expression) (u : List Token) → SpellsPlace p u → words (e.Place p) ≡ words_of u
  place_words p u (place_name x) = words_place_name x
  place_words p u (place_field x q) = words_place_field x q
  place_words p u (place_entry x keys q v h) = words_place_entry x keys q ∙ ap (λ ts. Name x ∷ ts) (both v (Fixed t.Dot ∷ Name q ∷ []) (keys_words keys v h) refl)

  keys_words : (keys : List Expression) (u : List Token) → SpellsKeys keys u → joined (map words keys) ≡ words_of u
  keys_words keys u (expressions.last_key a v h) = append-nil (words a) ∙ expression_words l.Choice a v h ∙ sym (closed v t.CloseBracket)
  keys_words keys u (expressions.more_keys a bs v x h i) = both v (Fixed t.Comma ∷ x) (expression_words l.Choice a v h) (keys_words bs x i)

-- ---- statements

operation_words : (op : Operation) (u : List Token) → SpellsOperation op u → words_of u ≡ []
operation_words op u add = refl
operation_words op u set = refl
operation_words op u set_if_empty = refl

change_words : (op : Operation) (a : Expression) (u : List Token) → SpellsChange op a u → words a ≡ words_of u
change_words op a u (change _ _ v x h i) = expression_words l.Choice a x i
    ∙ sym (words_both v (Fixed t.OpenParen ∷ (x ++ Fixed t.CloseParen ∷ Fixed t.Semicolon ∷ [])) ∙ ap (λ ts. ts ++ words_of (x ++ Fixed t.CloseParen ∷ Fixed t.Semicolon ∷ [])) (operation_words op v h)
    ∙ words_both x (Fixed t.CloseParen ∷ Fixed t.Semicolon ∷ []) ∙ append-nil (words_of x))

new_keys_words : (keys : List Expression) (u : List Token) → SpellsNewKeys keys u → joined (map words keys) ≡ words_of u
new_keys_words keys u no_new_keys = refl
new_keys_words keys u (new_keys _ v h) = keys_words keys v h

abbrev second_words : Option (List Statement) → List Token
second_words None = []
second_words (Some body) = body_words body

if_words : (a : Expression) (first : List Statement) (second : Option (List Statement)) → statement_words (s.If a first second) ≡ words a ++ (body_words first ++ second_words second)
if_words a first None = words_if a first
if_words a first (Some body) = words_if_else a first body

mutual
  spelled_statement : (x : Statement) (u : List Token) → SpellsStatement x u → statement_words x ≡ words_of u
  spelled_statement x u (define y a v h) = words_define y a ∙ ap (λ ts. Name y ∷ ts) (expression_words l.Choice a v h ∙ sym (closed v t.Semicolon))
  spelled_statement x u (create y n keys v h) = words_create y n keys ∙ ap (λ ts. Name y ∷ Name n ∷ ts) (new_keys_words keys v h ∙ sym (closed v t.Semicolon))
  spelled_statement x u (assign y a v h) = words_assign y a ∙ ap (λ ts. Name y ∷ ts) (expression_words l.Choice a v h ∙ sym (closed v t.Semicolon))
  spelled_statement x u (update p op a v w h i) = words_update p op a ∙ both v (Fixed t.Dot ∷ w) (place_words p v h) (change_words op a w i)
  spelled_statement x u (delete y) = words_delete y
  spelled_statement x u (if_else a first second v w z h i j) = if_words a first second ∙ both v (w ++ z) (expression_words l.Choice a v h) (both w z (spelled_block first w i) (spelled_else second z j))
  spelled_statement x u (while a body v w h i) = words_while a body ∙ both v w (expression_words l.Choice a v h) (spelled_block body w i)
  spelled_statement x u (for_all y n body v h) = words_for_all y n body ∙ ap (λ ts. Name y ∷ Name n ∷ ts) (spelled_block body v h)
  spelled_statement x u (for_entries ys n p body v h) = words_for_entries ys n p body ∙ spelled_each ys n p body v h
  spelled_statement x u (print a v h) = words_print a ∙ expression_words l.Choice a v h ∙ sym (closed v t.Semicolon)
  spelled_statement x u yield = words_yield
  spelled_statement x u flush = words_flush

  spelled_block : (body : List Statement) (u : List Token) → SpellsBlock body u → body_words body ≡ words_of u
  spelled_block body u (block _ v h) = spelled_body body v h

  spelled_body : (body : List Statement) (u : List Token) → SpellsBody body u → body_words body ≡ words_of u
  spelled_body body u no_statements = refl
  spelled_body body u (more_statements first others v w h i) = both v w (spelled_statement first v h) (spelled_body others w i)

  spelled_else : (second : Option (List Statement)) (u : List Token) → SpellsElse second u → second_words second ≡ words_of u
  spelled_else second u no_else = refl
  spelled_else second u (else_block body v h) = spelled_block body v h

  spelled_each : (xs : List (List ℕ)) (n p : List ℕ) (body : List Statement) (u : List Token) → SpellsEach xs n p body u → names xs ++ (Name n ∷ Name p ∷ body_words body) ≡ words_of u
  spelled_each xs n p body u (last_name x _ _ _ v h) = ap (λ ts. Name x ∷ Name n ∷ Name p ∷ ts) (spelled_block body v h)
  spelled_each xs n p body u (more_names x ys _ _ _ v h) = ap (λ ts. Name x ∷ ts) (spelled_each ys n p body v h)

-- ---- programs

cell_words : (of : CellType) (u : List Token) → SpellsCell of u → words_of u ≡ []
cell_words of u cell_int = refl
cell_words of u cell_text = refl

spelled_key_type : (of : KeyType) (u : List Token) → SpellsKeyType of u → key_type_words of ≡ words_of u
spelled_key_type of u key_int = refl
spelled_key_type of u key_text = refl
spelled_key_type of u (key_entity n) = refl

spelled_key : (x : Key) (u : List Token) → SpellsKey x u → key_words x ≡ words_of u
spelled_key x u (key n of v h) = ap (λ ts. Name n ∷ ts) (spelled_key_type of v h)

spelled_key_list : (xs : List Key) (u : List Token) → SpellsKeyList xs u → flat_map key_words xs ≡ words_of u
spelled_key_list xs u (last_key x v h) = append-nil (key_words x) ∙ spelled_key x v h ∙ sym (closed v t.CloseBracket)
spelled_key_list xs u (more_keys x ys v w h i) = both v (Fixed t.Comma ∷ w) (spelled_key x v h) (spelled_key_list ys w i)

spelled_entity_keys : (xs : List Key) (u : List Token) → SpellsEntityKeys xs u → flat_map key_words xs ≡ words_of u
spelled_entity_keys xs u no_keys = refl
spelled_entity_keys xs u (some_keys _ v h) = spelled_key_list xs v h

spelled_property : (x : Property) (u : List Token) → SpellsProperty x u → property_words x ≡ words_of u
spelled_property x u (property n of v h) = ap (λ ts. Name n ∷ ts) (sym (cell_words of v h))

spelled_property_list : (xs : List Property) (u : List Token) → SpellsPropertyList xs u → flat_map property_words xs ≡ words_of u
spelled_property_list xs u no_properties = refl
spelled_property_list xs u (last_property x v h) = append-nil (property_words x) ∙ spelled_property x v h ∙ sym (closed v t.CloseBrace)
spelled_property_list xs u (more_properties x ys v w h i) = both v (Fixed t.Semicolon ∷ w) (spelled_property x v h) (spelled_property_list ys w i)

spelled_properties : (xs : List Property) (u : List Token) → SpellsProperties xs u → flat_map property_words xs ≡ words_of u
spelled_properties xs u (properties _ v h) = spelled_property_list xs v h

spelled_declaration : (x : Declaration) (u : List Token) → SpellsDeclaration x u → declaration_words x ≡ words_of u
spelled_declaration x u (global y v h) = spelled_property y v h ∙ sym (closed v t.Semicolon)
spelled_declaration x u (array n keys ys v w h i) = ap (λ ts. Name n ∷ ts) (both v w (spelled_key_list keys v h) (spelled_properties ys w i))
spelled_declaration x u (entity n keys ys v w h i) = ap (λ ts. Name n ∷ ts) (both v w (spelled_entity_keys keys v h) (spelled_properties ys w i))

spelled_declarations : (xs : List Declaration) (u : List Token) → SpellsDeclarations xs u → flat_map declaration_words xs ≡ words_of u
spelled_declarations xs u no_declarations = refl
spelled_declarations xs u (more_declarations x ys v w h i) = both v w (spelled_declaration x v h) (spelled_declarations ys w i)

fate_words : (fate : Fate) (u : List Token) → SpellsFate fate u → words_of u ≡ []
fate_words fate u pass = refl
fate_words fate u lose_push = refl
fate_words fate u lose_reply = refl
fate_words fate u twice = refl
fate_words fate u hold = refl

spelled_item : (x : Item) (u : List Token) → SpellsItem x u → item_words x ≡ words_of u
spelled_item x u (steps n count) = refl
spelled_item x u (serve n fate v h) = ap (λ ts. Name n ∷ ts) (sym (closed v t.Semicolon ∙ fate_words fate v h))

spelled_items : (xs : List Item) (u : List Token) → SpellsItems xs u → flat_map item_words xs ≡ words_of u
spelled_items xs u no_items = refl
spelled_items xs u (more_items x ys v w h i) = both v w (spelled_item x v h) (spelled_items ys w i)

spelled_client : (x : Client) (u : List Token) → SpellsClient x u → client_words x ≡ words_of u
spelled_client x u (client n body v h) = ap (λ ts. Name n ∷ ts) (spelled_block body v h)

spelled_clients : (xs : List Client) (plan : Option (List Item)) (u : List Token) → SpellsClients xs plan u → flat_map client_words xs ++ schedule_words plan ≡ words_of u
spelled_clients xs plan u no_clients = refl
spelled_clients xs plan u (schedule items v h) = spelled_items items v h
spelled_clients xs plan u (more_clients x ys _ v w h i) = append_assoc (client_words x) (flat_map client_words ys) (schedule_words plan) ∙ both v w (spelled_client x v h) (spelled_clients ys plan w i)

pub spelled_program : (p : Program) (u : List Token) → SpellsProgram p u → program_words p ≡ words_of u
spelled_program p u (program ds x xs plan v w z h i j) =
    ap (λ ts. flat_map declaration_words ds ++ ts) (append_assoc (client_words x) (flat_map client_words xs) (schedule_words plan))
    ∙ both v (w ++ z) (spelled_declarations ds v h) (both w z (spelled_client x w i) (spelled_clients xs plan z j))

numbers_among : (u : List Token) → numbers_of (words_of u) ≡ numbers_of u
numbers_among [] = refl
numbers_among (Name x ∷ u) = numbers_among u
numbers_among (Number n ∷ u) = ap (λ ns. n ∷ ns) (numbers_among u)
numbers_among (Text bytes ∷ u) = numbers_among u
numbers_among (Fixed w ∷ u) = numbers_among u

texts_among : (u : List Token) → texts_of (words_of u) ≡ texts_of u
texts_among [] = refl
texts_among (Name x ∷ u) = texts_among u
texts_among (Number n ∷ u) = texts_among u
texts_among (Text bytes ∷ u) = ap (λ ns. bytes ∷ ns) (texts_among u)
texts_among (Fixed w ∷ u) = texts_among u

pub spelled_numbers : (p : Program) (u : List Token) → SpellsProgram p u → numbers_of (program_words p) ≡ numbers_of u
spelled_numbers p u h = ap numbers_of (spelled_program p u h) ∙ numbers_among u

pub spelled_texts : (p : Program) (u : List Token) → SpellsProgram p u → texts_of (program_words p) ≡ texts_of u
spelled_texts p u h = ap texts_of (spelled_program p u h) ∙ texts_among u
