-- There is one line for each item.
use Rattle.std.proofs.Common.{◌≡◌, refl, sym, ◌∙◌, ap, subst, arith, add_assoc}
use Rattle.std.proofs.lemmas.List.{append_assoc, append-nil}
use Rattle.std.specs.Prelude.{ℕ, suc, ◌+◌, Bool, true, false, ◌||◌, if◌then◌else◌, List, [], ◌∷◌, ◌++◌, length, map, Option, Some, None}
use Rattle.cloud_base.specs.declared.schema.CellType.{CellType}
use Rattle.cloud_base.specs.declared.schedule.Fate.{Fate}
use Rattle.source_tokens.specs.Scans.{tokens_of}
use Rattle.source_tokens.specs.declared.terminal.Terminal.{Terminal}
use Rattle.source_tokens.specs.declared.terminal.Terminal.TheVariants as t
use Rattle.source_tokens.specs.declared.token.Placed.{Placed}
use Rattle.source_tokens.specs.declared.token.Token.{Token}
use Rattle.source_tokens.specs.declared.token.Token.TheVariants.{Name, Fixed}
use Rattle.source_tree.specs.declared.expression.Operator.{Operator}
use Rattle.source_tree.specs.declared.expression.Level.{Level}
use Rattle.source_tree.specs.declared.expression.Level.TheVariants as l
use Rattle.source_tree.specs.declared.expression.Place.{Place}
use Rattle.source_tree.specs.declared.expression.Expression.{Expression}
use Rattle.source_tree.specs.declared.statement.Operation.{Operation}
use Rattle.source_tree.specs.declared.statement.Statement.{Statement}
use Rattle.source_tree.specs.declared.statement.Statement.TheVariants as s
use Rattle.source_tree.specs.declared.program.KeyType.{KeyType}
use Rattle.source_tree.specs.declared.program.Key.{Key}
use Rattle.source_tree.specs.declared.program.Property.{Property}
use Rattle.source_tree.specs.declared.program.Declaration.{Declaration}
use Rattle.source_tree.specs.declared.program.Client.{Client}
use Rattle.source_tree.specs.declared.program.Item.{Item}
use Rattle.source_tree.specs.declared.program.Program.{Program}
use Rattle.source_tree.specs.Expressions.{Operates, or, and, equal, not_equal, less, less_or_equal, greater, greater_or_equal, plus, minus, concat, times, divide, remainder, Spells, SpellsPlace, SpellsKeys, choice_conjunction, choice_or, conjunction_negation, conjunction_and, negation_comparison, negation_not, comparison_sum, comparison_two, sum_term, sum_two, term_factor, term_two, factor_minus, factor_number, factor_text, factor_true, factor_false, factor_alive, factor_place, factor_brackets, place_name, place_field, place_entry}
use Rattle.source_tree.specs.Expressions as expressions
use Rattle.source_tree.specs.Items.{total, statement_items, body_items, client_items, schedule_items, program_items, items_define, items_create, items_assign, items_update, items_delete, items_if, items_if_else, items_while, items_for_all, items_for_entries, items_print, items_yield, items_flush}
use Rattle.source_tree.specs.Statements.{SpellsOperation, SpellsChange, SpellsNewKeys, SpellsStatement, SpellsBlock, SpellsBody, SpellsElse, SpellsEach, add, set, set_if_empty, change, no_new_keys, new_keys, define, create, assign, update, delete, if_else, while, for_all, for_entries, print, yield, flush, block, no_statements, more_statements, no_else, else_block, last_name, more_names}
use Rattle.source_tree.specs.Programs.{SpellsCell, SpellsKeyType, SpellsKey, SpellsKeyList, SpellsEntityKeys, SpellsProperty, SpellsPropertyList, SpellsProperties, SpellsDeclaration, SpellsDeclarations, SpellsFate, SpellsItem, SpellsItems, SpellsClient, SpellsClients, SpellsProgram, cell_int, cell_text, key_int, key_text, key_entity, key, last_key, more_keys, no_keys, some_keys, property, no_properties, last_property, more_properties, properties, global, array, entity, no_declarations, more_declarations, pass, lose_push, lose_reply, twice, hold, steps, serve, no_items, more_items, client, no_clients, schedule, more_clients, program}
use Rattle.source_reader.specs.Lines.{is_client, opens, begins, lines_from, item_lines}

-- how many tokens begin an item
unfoldable count : Bool → Bool → List Token → ℕ
count inside opened [] = 0
count inside opened (x ∷ xs) = if begins inside opened x then suc (count (inside || is_client x) (opens x) xs) else count (inside || is_client x) (opens x) xs

by_case : (b : Bool) (n : ℕ) (ls : List ℕ) (k : ℕ) → length ls ≡ k → length (if b then n ∷ ls else ls) ≡ (if b then suc k else k)
by_case true n ls k h = ap suc h
by_case false n ls k h = h

lines_counted : (inside opened : Bool) (ps : List Placed) → length (lines_from inside opened ps) ≡ count inside opened (tokens_of ps)
unfolding lines_from count
lines_counted inside opened [] = refl
lines_counted inside opened (p ∷ ps) = by_case (begins inside opened p.token) p.line (lines_from (inside || is_client p.token) (opens p.token) ps)
    (count (inside || is_client p.token) (opens p.token) (tokens_of ps)) (lines_counted (inside || is_client p.token) (opens p.token) ps)

-- ---- expressions: no token begins an item or opens one

abbrev Quiet : List Token → Type 0
Quiet u = (rest : List Token) → count true false (u ++ rest) ≡ count true false rest

quiet_both : (u v : List Token) → Quiet u → Quiet v → Quiet (u ++ v)
quiet_both u v p q rest = ap (count true false) (append_assoc u v rest) ∙ p (v ++ rest) ∙ q rest

-- a token that is passed over where nothing opens
abbrev Still : Token → Type 0
Still x = (ts : List Token) → count true false (x ∷ ts) ≡ count true false ts

quiet_front : (x : Token) (u : List Token) → Still x → Quiet u → Quiet (x ∷ u)
quiet_front x u p q rest = p (u ++ rest) ∙ q rest

quiet_between : (u v : List Token) (x : Token) → Still x → Quiet u → Quiet v → Quiet (u ++ x ∷ v)
quiet_between u v x p q r = quiet_both u (x ∷ v) q (quiet_front x v p r)

quiet_none : Quiet []
quiet_none rest = refl

quiet_behind : (u : List Token) (x : Token) → Still x → Quiet u → Quiet (u ++ x ∷ [])
quiet_behind u x p q = quiet_between u [] x p q quiet_none

still_operator : (level : Level) (w : Terminal) (op : Operator) → Operates level w op → Still (Fixed w)
unfolding count
still_operator level w op or = λ ts. refl
still_operator level w op and = λ ts. refl
still_operator level w op equal = λ ts. refl
still_operator level w op not_equal = λ ts. refl
still_operator level w op less = λ ts. refl
still_operator level w op less_or_equal = λ ts. refl
still_operator level w op greater = λ ts. refl
still_operator level w op greater_or_equal = λ ts. refl
still_operator level w op plus = λ ts. refl
still_operator level w op minus = λ ts. refl
still_operator level w op concat = λ ts. refl
still_operator level w op times = λ ts. refl
still_operator level w op divide = λ ts. refl
still_operator level w op remainder = λ ts. refl

mutual
  unfolding count

  expression_quiet : (level : Level) (a : Expression) (u : List Token) → Spells level a u → Quiet u
  expression_quiet level a u (choice_conjunction b v h) = expression_quiet l.Conjunction b v h
  expression_quiet level a u (choice_or b c v x h i) = quiet_between v x (Fixed t.Or) (λ ts. refl) (expression_quiet l.Choice b v h) (expression_quiet l.Conjunction c x i)
  expression_quiet level a u (conjunction_negation b v h) = expression_quiet l.Negation b v h
  expression_quiet level a u (conjunction_and b c v x h i) = quiet_between v x (Fixed t.And) (λ ts. refl) (expression_quiet l.Conjunction b v h) (expression_quiet l.Negation c x i)
  expression_quiet level a u (negation_comparison b v h) = expression_quiet l.Comparison b v h
  expression_quiet level a u (negation_not b v h) = quiet_front (Fixed t.Not) v (λ ts. refl) (expression_quiet l.Negation b v h)
  expression_quiet level a u (comparison_sum b v h) = expression_quiet l.Sum b v h
  expression_quiet level a u (comparison_two w op b c v x q h i) = quiet_between v x (Fixed w) (still_operator l.Comparison w op q) (expression_quiet l.Sum b v h) (expression_quiet l.Sum c x i)
  expression_quiet level a u (sum_term b v h) = expression_quiet l.Term b v h
  expression_quiet level a u (sum_two w op b c v x q h i) = quiet_between v x (Fixed w) (still_operator l.Sum w op q) (expression_quiet l.Sum b v h) (expression_quiet l.Term c x i)
  expression_quiet level a u (term_factor b v h) = expression_quiet l.Factor b v h
  expression_quiet level a u (term_two w op b c v x q h i) = quiet_between v x (Fixed w) (still_operator l.Term w op q) (expression_quiet l.Term b v h) (expression_quiet l.Factor c x i)
  expression_quiet level a u (factor_minus b v h) = quiet_front (Fixed t.Minus) v (λ ts. refl) (expression_quiet l.Factor b v h)
  expression_quiet level a u (factor_number n) = λ rest. refl
  expression_quiet level a u (factor_text bytes) = λ rest. refl
  expression_quiet level a u factor_true = λ rest. refl
  expression_quiet level a u factor_false = λ rest. refl
  expression_quiet level a u (factor_alive x) = λ rest. refl
  expression_quiet level a u (factor_place p v h) = place_quiet p v h
  expression_quiet level a u (factor_brackets b v h) = quiet_front (Fixed t.OpenParen) (v ++ Fixed t.CloseParen ∷ []) (λ ts. refl) (quiet_behind v (Fixed t.CloseParen) (λ ts. refl) (expression_quiet l.Choice b v h))

  place_quiet : (p : Place Expression) (u : List Token) → SpellsPlace p u → Quiet u
  place_quiet p u (place_name x) = λ rest. refl
  place_quiet p u (place_field x q) = λ rest. refl
  place_quiet p u (place_entry x keys q v h) = quiet_front (Name x) (Fixed t.OpenBracket ∷ (v ++ Fixed t.Dot ∷ Name q ∷ [])) (λ ts. refl)
      (quiet_front (Fixed t.OpenBracket) (v ++ Fixed t.Dot ∷ Name q ∷ []) (λ ts. refl) (quiet_between v (Name q ∷ []) (Fixed t.Dot) (λ ts. refl) (keys_quiet keys v h) (λ rest. refl)))

  keys_quiet : (keys : List Expression) (u : List Token) → SpellsKeys keys u → Quiet u
  keys_quiet keys u (expressions.last_key a v h) = quiet_behind v (Fixed t.CloseBracket) (λ ts. refl) (expression_quiet l.Choice a v h)
  keys_quiet keys u (expressions.more_keys a bs v x h i) = quiet_between v x (Fixed t.Comma) (λ ts. refl) (expression_quiet l.Choice a v h) (keys_quiet bs x i)

-- the first token of a place begins an item where something opens
place_begins : (p : Place Expression) (u : List Token) → SpellsPlace p u → (rest : List Token) → count true true (u ++ rest) ≡ suc (count true false rest)
unfolding count
place_begins p u (place_name x) rest = refl
place_begins p u (place_field x q) rest = refl
place_begins p u (place_entry x keys q v h) rest = ap suc (quiet_between v (Name q ∷ []) (Fixed t.Dot) (λ ts. refl) (keys_quiet keys v h) (λ rest. refl) rest)

-- ---- statements: each ends with a token that opens

-- what begins where nothing opens and ends with a token that opens
abbrev Ending : ℕ → List Token → Type 0
Ending n u = (rest : List Token) → count true false (u ++ rest) ≡ n + count true true rest

ended_quiet : (u : List Token) → Quiet u → Ending 0 (u ++ Fixed t.Semicolon ∷ [])
unfolding count
ended_quiet u q rest = ap (count true false) (append_assoc u (Fixed t.Semicolon ∷ []) rest) ∙ q (Fixed t.Semicolon ∷ rest) ∙ (omega arith)

quiet_ending : (n : ℕ) (u v : List Token) → Quiet u → Ending n v → Ending n (u ++ v)
quiet_ending n u v q r rest = ap (count true false) (append_assoc u v rest) ∙ q (v ++ rest) ∙ r rest

operation_quiet : (op : Operation) (u : List Token) → SpellsOperation op u → Quiet u
unfolding count
operation_quiet op u add rest = refl
operation_quiet op u set rest = refl
operation_quiet op u set_if_empty rest = refl

change_ending : (op : Operation) (a : Expression) (u : List Token) → SpellsChange op a u → Ending 0 u
unfolding count
change_ending op a u (change _ _ v x h i) = quiet_ending 0 v (Fixed t.OpenParen ∷ (x ++ Fixed t.CloseParen ∷ Fixed t.Semicolon ∷ [])) (operation_quiet op v h)
    (λ rest. ap (count true false) (append_assoc x (Fixed t.CloseParen ∷ Fixed t.Semicolon ∷ []) rest) ∙ expression_quiet l.Choice a x i (Fixed t.CloseParen ∷ Fixed t.Semicolon ∷ rest) ∙ (omega arith))

new_keys_quiet : (keys : List Expression) (u : List Token) → SpellsNewKeys keys u → Quiet u
unfolding count
new_keys_quiet keys u no_new_keys = quiet_none
new_keys_quiet keys u (new_keys _ v h) = keys_quiet keys v h

-- a statement is one item and those in its blocks
abbrev Counted : ℕ → List Token → Type 0
Counted n u = (rest : List Token) → count true true (u ++ rest) ≡ n + count true true rest

abbrev second_items : Option (List Statement) → ℕ
second_items None = 0
second_items (Some body) = body_items body

if_items : (a : Expression) (first : List Statement) (second : Option (List Statement)) → statement_items (s.If a first second) ≡ 1 + (body_items first + second_items second)
if_items a first None = items_if a first
if_items a first (Some body) = items_if_else a first body

-- one more, behind a first token that begins an item
one_of : (n m : ℕ) (u : List Token) (x : Token) → m ≡ 1 + n → ((ts : List Token) → count true true (x ∷ ts) ≡ suc (count true false ts)) → Ending n u → Counted m (x ∷ u)
one_of n m u x is first ending rest = first (u ++ rest) ∙ ap suc (ending rest) ∙ (omega arith)

one_item : (m n : ℕ) → m ≡ 1 → suc n ≡ m + n
one_item m n is = omega arith

nothing_more : (n : ℕ) → n ≡ 0 + n
nothing_more n = omega arith

both_counted : (m n : ℕ) (u v : List Token) → Counted m u → Counted n v → Counted (m + n) (u ++ v)
both_counted m n u v p q rest = ap (count true true) (append_assoc u v rest) ∙ p (v ++ rest) ∙ ap (λ k. m + k) (q rest) ∙ (omega arith)

two_blocks : (m n : ℕ) (u v : List Token) → Ending m u → Counted n v → Ending (m + n) (u ++ v)
two_blocks m n u v p q rest = ap (count true false) (append_assoc u v rest) ∙ p (v ++ rest) ∙ ap (λ k. m + k) (q rest) ∙ (omega arith)

mutual
  unfolding count

  statement_counted : (x : Statement) (u : List Token) → SpellsStatement x u → Counted (statement_items x) u
  statement_counted x u (define y a v h) = one_of 0 (statement_items (s.Define y a)) (Name y ∷ Fixed t.Assign ∷ (v ++ Fixed t.Semicolon ∷ [])) (Fixed t.Var) (items_define y a) (λ ts. refl) (ended_quiet v (expression_quiet l.Choice a v h))
  statement_counted x u (create y n keys v h) = one_of 0 (statement_items (s.Create y n keys)) (Name y ∷ Fixed t.Assign ∷ Fixed t.New ∷ Name n ∷ (v ++ Fixed t.Semicolon ∷ [])) (Fixed t.Var) (items_create y n keys) (λ ts. refl) (ended_quiet v (new_keys_quiet keys v h))
  statement_counted x u (assign y a v h) = one_of 0 (statement_items (s.Assign y a)) (Fixed t.Assign ∷ (v ++ Fixed t.Semicolon ∷ [])) (Name y) (items_assign y a) (λ ts. refl) (ended_quiet v (expression_quiet l.Choice a v h))
  statement_counted x u (update p op a v w h i) = λ rest. ap (count true true) (append_assoc v (Fixed t.Dot ∷ w) rest) ∙ place_begins p v h (Fixed t.Dot ∷ (w ++ rest)) ∙ ap suc (change_ending op a w i rest) ∙ ap suc (sym (nothing_more (count true true rest)))
      ∙ one_item (statement_items (s.Update p op a)) (count true true rest) (items_update p op a)
  statement_counted x u (delete y) = λ rest. one_item (statement_items (s.Delete y)) (count true true rest) (items_delete y)
  statement_counted x u (if_else a first second v w z h i j) = one_of (body_items first + second_items second) (statement_items (s.If a first second)) (v ++ (w ++ z)) (Fixed t.If) (if_items a first second) (λ ts. refl)
      (quiet_ending (body_items first + second_items second) v (w ++ z) (expression_quiet l.Choice a v h) (two_blocks (body_items first) (second_items second) w z (block_ending first w i) (else_counted second z j)))
  statement_counted x u (while a body v w h i) = one_of (body_items body) (statement_items (s.While a body)) (v ++ w) (Fixed t.While) (items_while a body) (λ ts. refl) (quiet_ending (body_items body) v w (expression_quiet l.Choice a v h) (block_ending body w i))
  statement_counted x u (for_all y n body v h) = one_of (body_items body) (statement_items (s.ForAll y n body)) (Name y ∷ Fixed t.In ∷ Fixed t.All ∷ Name n ∷ v) (Fixed t.Foreach) (items_for_all y n body) (λ ts. refl) (block_ending body v h)
  statement_counted x u (for_entries ys n p body v h) = one_of (body_items body) (statement_items (s.ForEntries ys n p body)) v (Fixed t.Foreach) (items_for_entries ys n p body) (λ ts. refl) (each_ending ys n p body v h)
  statement_counted x u (print a v h) = one_of 0 (statement_items (s.Print a)) (v ++ Fixed t.Semicolon ∷ []) (Fixed t.Print) (items_print a) (λ ts. refl) (ended_quiet v (expression_quiet l.Choice a v h))
  statement_counted x u yield = λ rest. one_item (statement_items s.Yield) (count true true rest) items_yield
  statement_counted x u flush = λ rest. one_item (statement_items s.Flush) (count true true rest) items_flush

  block_ending : (body : List Statement) (u : List Token) → SpellsBlock body u → Ending (body_items body) u
  block_ending body u (block _ v h) = body_counted body v h

  body_counted : (body : List Statement) (u : List Token) → SpellsBody body u → Counted (body_items body) u
  body_counted body u no_statements = λ rest. nothing_more (count true true rest)
  body_counted body u (more_statements first others v w h i) = both_counted (statement_items first) (body_items others) v w (statement_counted first v h) (body_counted others w i)

  else_counted : (second : Option (List Statement)) (u : List Token) → SpellsElse second u → Counted (second_items second) u
  else_counted second u no_else = λ rest. nothing_more (count true true rest)
  else_counted second u (else_block body v h) = block_ending body v h

  each_ending : (xs : List (List ℕ)) (n p : List ℕ) (body : List Statement) (u : List Token) → SpellsEach xs n p body u → Ending (body_items body) u
  each_ending xs n p body u (last_name x _ _ _ v h) = block_ending body v h
  each_ending xs n p body u (more_names x ys _ _ _ v h) = each_ending ys n p body v h

-- ---- schedules

fate_quiet : (fate : Fate) (u : List Token) → SpellsFate fate u → (rest : List Token) → count true false ((u ++ Fixed t.Semicolon ∷ []) ++ rest) ≡ count true true rest
unfolding count
fate_quiet fate u pass rest = refl
fate_quiet fate u lose_push rest = refl
fate_quiet fate u lose_reply rest = refl
fate_quiet fate u twice rest = refl
fate_quiet fate u hold rest = refl

item_counted : (x : Item) (u : List Token) → SpellsItem x u → Counted 1 u
unfolding count
item_counted x u (steps n k) rest = omega arith
item_counted x u (serve n fate v h) rest = ap suc (fate_quiet fate v h rest) ∙ (omega arith)

items_counted : (xs : List Item) (u : List Token) → SpellsItems xs u → Counted (length xs) u
unfolding count
items_counted xs u no_items = λ rest. nothing_more (count true true rest)
items_counted xs u (more_items x ys v w h i) = λ rest. both_counted 1 (length ys) v w (item_counted x v h) (items_counted ys w i) rest ∙ (omega arith)

-- ---- clients

client_counted : (x : Client) (u : List Token) → SpellsClient x u → (inside opened : Bool) (rest : List Token) → count inside opened (u ++ rest) ≡ client_items x + count true true rest
unfolding count
client_counted x u (client n body v h) true opened rest = ap suc (block_ending body v h rest) ∙ (omega arith)
client_counted x u (client n body v h) false opened rest = ap suc (block_ending body v h rest) ∙ (omega arith)

clients_counted : (xs : List Client) (plan : Option (List Item)) (u : List Token) → SpellsClients xs plan u → count true true u ≡ total (map client_items xs) + schedule_items plan
unfolding count
clients_counted xs plan u no_clients = refl
clients_counted xs plan u (schedule items v h) =
    subst (λ ts. count true true ts ≡ 0 + length items) (append-nil v) (items_counted items v h [] ∙ (omega arith))
clients_counted xs plan u (more_clients x ys _ v w h i) =
    client_counted x v h true true w ∙ ap (λ k. client_items x + k) (clients_counted ys plan w i) ∙ sym (add_assoc (client_items x) (total (map client_items ys)) (schedule_items plan))

-- ---- declarations: before the first client only a word that declares begins an item

abbrev Plain : List Token → Type 0
Plain u = (opened : Bool) (rest : List Token) → count false opened (u ++ rest) ≡ count false false rest

any_opened : (a b : Bool) (ts : List Token) → count false a ts ≡ count false b ts
unfolding count
any_opened a b [] = refl
any_opened a b (x ∷ ts) = refl

plain_both : (u v : List Token) → Plain u → Plain v → Plain (u ++ v)
plain_both u v p q opened rest = ap (count false opened) (append_assoc u v rest) ∙ p opened (v ++ rest) ∙ q false rest

plain_none : Plain []
plain_none opened rest = any_opened opened false rest

abbrev Idle : Token → Type 0
Idle x = (opened : Bool) (ts : List Token) → count false opened (x ∷ ts) ≡ count false false ts

plain_front : (x : Token) (u : List Token) → Idle x → Plain u → Plain (x ∷ u)
plain_front x u p q opened rest = p opened (u ++ rest) ∙ q false rest

plain_between : (u v : List Token) (x : Token) → Idle x → Plain u → Plain v → Plain (u ++ x ∷ v)
plain_between u v x p q r = plain_both u (x ∷ v) q (plain_front x v p r)

idle_open : Idle (Fixed t.OpenBrace)
unfolding count
idle_open opened ts = any_opened true false ts

idle_close : Idle (Fixed t.CloseBrace)
unfolding count
idle_close opened ts = any_opened true false ts

idle_semicolon : Idle (Fixed t.Semicolon)
unfolding count
idle_semicolon opened ts = any_opened true false ts

idle_name : (n : List ℕ) → Idle (Name n)
unfolding count
idle_name n opened ts = refl

cell_plain : (of : CellType) (u : List Token) → SpellsCell of u → Plain u
unfolding count
cell_plain of u cell_int opened rest = refl
cell_plain of u cell_text opened rest = refl

key_type_plain : (of : KeyType) (u : List Token) → SpellsKeyType of u → Plain u
unfolding count
key_type_plain of u key_int opened rest = refl
key_type_plain of u key_text opened rest = refl
key_type_plain of u (key_entity n) opened rest = refl

key_plain : (x : Key) (u : List Token) → SpellsKey x u → Plain u
unfolding count
key_plain x u (key n of v h) opened rest = key_type_plain of v h false rest

key_list_plain : (xs : List Key) (u : List Token) → SpellsKeyList xs u → Plain u
unfolding count
key_list_plain xs u (last_key x v h) = plain_between v [] (Fixed t.CloseBracket) (λ opened ts. refl) (key_plain x v h) plain_none
key_list_plain xs u (more_keys x ys v w h i) = plain_between v w (Fixed t.Comma) (λ opened ts. refl) (key_plain x v h) (key_list_plain ys w i)

entity_keys_plain : (xs : List Key) (u : List Token) → SpellsEntityKeys xs u → Plain u
unfolding count
entity_keys_plain xs u no_keys = plain_none
entity_keys_plain xs u (some_keys _ v h) = plain_front (Fixed t.OpenBracket) v (λ opened ts. refl) (key_list_plain xs v h)

property_plain : (x : Property) (u : List Token) → SpellsProperty x u → Plain u
unfolding count
property_plain x u (property n of v h) opened rest = cell_plain of v h false rest

property_list_plain : (xs : List Property) (u : List Token) → SpellsPropertyList xs u → Plain u
property_list_plain xs u no_properties = plain_front (Fixed t.CloseBrace) [] idle_close plain_none
property_list_plain xs u (last_property x v h) = plain_between v [] (Fixed t.CloseBrace) idle_close (property_plain x v h) plain_none
property_list_plain xs u (more_properties x ys v w h i) = plain_between v w (Fixed t.Semicolon) idle_semicolon (property_plain x v h) (property_list_plain ys w i)

properties_plain : (xs : List Property) (u : List Token) → SpellsProperties xs u → Plain u
properties_plain xs u (properties _ v h) = plain_front (Fixed t.OpenBrace) v idle_open (property_list_plain xs v h)

-- a declaration is one item
declaration_counted : (x : Declaration) (u : List Token) → SpellsDeclaration x u → (opened : Bool) (rest : List Token) → count false opened (u ++ rest) ≡ suc (count false false rest)
unfolding count
declaration_counted x u (global y v h) opened rest = ap suc (plain_between v [] (Fixed t.Semicolon) idle_semicolon (property_plain y v h) plain_none false rest)
declaration_counted x u (array n keys ys v w h i) opened rest = ap suc (plain_both v w (key_list_plain keys v h) (properties_plain ys w i) false rest)
declaration_counted x u (entity n keys ys v w h i) opened rest = ap suc (plain_both v w (entity_keys_plain keys v h) (properties_plain ys w i) false rest)

declarations_counted : (xs : List Declaration) (u : List Token) → SpellsDeclarations xs u → (opened : Bool) (rest : List Token) → count false opened (u ++ rest) ≡ length xs + count false false rest
declarations_counted xs u no_declarations opened rest = plain_front (Fixed t.CloseBrace) [] idle_close plain_none opened rest ∙ nothing_more (count false false rest)
declarations_counted xs u (more_declarations x ys v w h i) opened rest =
    ap (count false opened) (append_assoc v w rest) ∙ declaration_counted x v h opened (w ++ rest) ∙ ap suc (declarations_counted ys w i false rest) ∙ (omega arith)

program_counted : (p : Program) (u : List Token) → SpellsProgram p u → count false false u ≡ program_items p
unfolding count
program_counted p u (program ds x xs plan v w z h i j) =
    declarations_counted ds v h true (w ++ z) ∙ ap (λ k. length ds + k) (client_counted x w i false false z ∙ ap (λ k. client_items x + k) (clients_counted xs plan z j)
    ∙ sym (add_assoc (client_items x) (total (map client_items xs)) (schedule_items plan)))

pub line_each : (p : Program) (tokens : List Placed) → SpellsProgram p (tokens_of tokens) → length (item_lines tokens) ≡ program_items p
line_each p tokens h = lines_counted false false tokens ∙ program_counted p (tokens_of tokens) h
