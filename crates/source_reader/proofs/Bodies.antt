-- Tokens that spell a statement or a block are read as it.
use Rattle.std.proofs.Common.{◌≡◌, refl, sym, ◌∙◌, ap, subst, arith}
use Rattle.std.proofs.lemmas.List.{append_assoc}
use Rattle.std.specs.Prelude.{ℕ, ◌+◌, ◌-◌, ◌<◌, ◌≤◌, max, List, [], ◌∷◌, ◌++◌, length, map, Some, None}
use Rattle.source_tokens.specs.declared.terminal.Terminal.TheVariants as t
use Rattle.source_tokens.specs.declared.token.Token.{Token}
use Rattle.source_tokens.specs.declared.token.Token.TheVariants.{Name, Fixed}
use Rattle.source_tree.specs.declared.expression.Level.{Level}
use Rattle.source_tree.specs.declared.expression.Level.TheVariants as l
use Rattle.source_tree.specs.declared.expression.Place.{Place}
use Rattle.source_tree.specs.declared.expression.Expression.{Expression}
use Rattle.source_tree.specs.declared.statement.Operation.{Operation}
use Rattle.source_tree.specs.declared.statement.Statement.{Statement}
use Rattle.source_tree.specs.declared.statement.Statement.TheVariants as s
use Rattle.source_tree.specs.Heights.{height, highest, statement_height}
use Rattle.source_tree.specs.Forms.{height_define, height_create, height_assign, height_delete, height_print, height_yield, height_flush}
use Rattle.source_tree.specs.Expressions.{Spells, SpellsPlace, choice_conjunction, choice_or, conjunction_negation, conjunction_and, negation_comparison, negation_not, comparison_sum, comparison_two, sum_term, sum_two, term_factor, term_two, factor_minus, factor_number, factor_text, factor_true, factor_false, factor_alive, factor_place, factor_brackets, place_name, place_field, place_entry}
use Rattle.source_tree.specs.Statements.{SpellsOperation, SpellsChange, SpellsNewKeys, SpellsStatement, SpellsBody, add, set, set_if_empty, change, no_new_keys, new_keys, define, create, assign, update, delete, if_else, while, for_all, for_entries, print, yield, flush, no_statements, more_statements}
use Rattle.source_reader.specs.Reading.{Reader, ◌>>=◌, within, behind, name_at, level_at}
use Rattle.source_reader.specs.Bodies.{operation_at, ended_by, argument_by, change_by, assign_by, named_by, new_keys_by, create_by, initial_by, define_by, delete_at, print_by, word_at, statement_by, block_at}
use Rattle.source_reader.proofs.Heights.{within_yes, within_no, joined_high}
use Rattle.source_reader.proofs.Parts.{behind_shorter, cased}
use Rattle.source_reader.proofs.Stops.{paren_stops, semicolon_stops}
use Rattle.source_reader.proofs.Expressions.{Again, deeper, again, keys_again}

-- the reader of expressions
abbrev pub inner_at : ℕ → Reader
inner_at depth = level_at depth l.Choice

-- what a whole is, where it is one higher than its part
pub lifted : {A B : Type 0} (f : A → B) (high : ℕ) (a : A) (h : ℕ) (rest : List Token) → (within (high - 1) a h rest >>= λ x. within high (f x.0) (x.1 + 1) x.2) ≡ within high (f a) (h + 1) rest
lifted f high a h rest = cased high (high - 1) a h rest (λ x. within high (f x.0) (x.1 + 1) x.2) (within high (f a) (h + 1) rest) (λ fits. refl) (λ above. sym (within_no high (f a) (h + 1) rest (omega arith)))

-- ---- first tokens

no_new_longer : (u v : List Token) (w : Token) → ((rest : List Token) → behind t.New (u ++ rest) ≡ None) → (rest : List Token) → behind t.New ((u ++ w ∷ v) ++ rest) ≡ None
no_new_longer u v w none rest = ap (behind t.New) (append_assoc u (w ∷ v) rest) ∙ none (w ∷ (v ++ rest))

no_new_place : (p : Place Expression) (u : List Token) → SpellsPlace p u → (rest : List Token) → behind t.New (u ++ rest) ≡ None
unfolding behind
no_new_place p u (place_name x) rest = refl
no_new_place p u (place_field x q) rest = refl
no_new_place p u (place_entry x keys q v h) rest = refl

no_new : (level : Level) (a : Expression) (u : List Token) → Spells level a u → (rest : List Token) → behind t.New (u ++ rest) ≡ None
unfolding behind
no_new level a u (choice_conjunction b v h) = no_new l.Conjunction b v h
no_new level a u (choice_or b c v x h i) = no_new_longer v x (Fixed t.Or) (no_new l.Choice b v h)
no_new level a u (conjunction_negation b v h) = no_new l.Negation b v h
no_new level a u (conjunction_and b c v x h i) = no_new_longer v x (Fixed t.And) (no_new l.Conjunction b v h)
no_new level a u (negation_comparison b v h) = no_new l.Comparison b v h
no_new level a u (negation_not _ _ h) = λ rest. refl
no_new level a u (comparison_sum b v h) = no_new l.Sum b v h
no_new level a u (comparison_two w op b c v x o h i) = no_new_longer v x (Fixed w) (no_new l.Sum b v h)
no_new level a u (sum_term b v h) = no_new l.Term b v h
no_new level a u (sum_two w op b c v x o h i) = no_new_longer v x (Fixed w) (no_new l.Sum b v h)
no_new level a u (term_factor b v h) = no_new l.Factor b v h
no_new level a u (term_two w op b c v x o h i) = no_new_longer v x (Fixed w) (no_new l.Term b v h)
no_new level a u (factor_minus _ _ h) = λ rest. refl
no_new level a u (factor_number n) = λ rest. refl
no_new level a u (factor_text n) = λ rest. refl
no_new level a u factor_true = λ rest. refl
no_new level a u factor_false = λ rest. refl
no_new level a u (factor_alive x) = λ rest. refl
no_new level a u (factor_place p v h) = no_new_place p v h
no_new level a u (factor_brackets _ _ h) = λ rest. refl

abbrev Begins : List Token → Type 0
Begins ts = (behind t.CloseBrace ts ≡ None) × (behind t.Else ts ≡ None)

begins_place : (p : Place Expression) (u : List Token) → SpellsPlace p u → (rest : List Token) → Begins (u ++ rest)
unfolding behind
begins_place p u (place_name x) rest = (refl, refl)
begins_place p u (place_field x q) rest = (refl, refl)
begins_place p u (place_entry x keys q v h) rest = (refl, refl)

pub begins : (x : Statement) (u : List Token) → SpellsStatement x u → (rest : List Token) → Begins (u ++ rest)
unfolding behind
begins x u (define _ _ _ _) rest = (refl, refl)
begins x u (create _ _ _ _ _) rest = (refl, refl)
begins x u (assign _ _ _ _) rest = (refl, refl)
begins x u (update p op a v w h i) rest = subst Begins (sym (append_assoc v (Fixed t.Dot ∷ w) rest)) (begins_place p v h (Fixed t.Dot ∷ (w ++ rest)))
begins x u (delete _) rest = (refl, refl)
begins x u (if_else _ _ _ _ _ _ _ _ _) rest = (refl, refl)
begins x u (while _ _ _ _ _ _) rest = (refl, refl)
begins x u (for_all _ _ _ _ _) rest = (refl, refl)
begins x u (for_entries _ _ _ _ _ _) rest = (refl, refl)
begins x u (print _ _ _) rest = (refl, refl)
begins x u yield rest = (refl, refl)
begins x u flush rest = (refl, refl)

pub no_else_body : (body : List Statement) (u : List Token) → SpellsBody body u → (rest : List Token) → behind t.Else (u ++ rest) ≡ None
unfolding behind
no_else_body body u no_statements rest = refl
no_else_body body u (more_statements first others v w h i) rest = ap (behind t.Else) (append_assoc v w rest) ∙ (begins first v h (w ++ rest)).1

-- ---- expressions in statements

ended_again : (a : Expression) (u : List Token) → Again l.Choice a u → (depth high : ℕ) (rest : List Token) → length (u ++ (Fixed t.Semicolon ∷ rest)) < depth
    → ended_by (inner_at depth) high (u ++ (Fixed t.Semicolon ∷ rest)) ≡ within (high - 1) a (height a) rest
unfolding ended_by behind
ended_again a u again depth high rest deep =
    ap (λ o. o >>= λ a. behind t.Semicolon a.2 >>= λ rest. Some (a.0, a.1, rest)) (deeper l.Choice a u again depth (high - 1) (Fixed t.Semicolon ∷ rest) deep (semicolon_stops rest))
    ∙ cased high (high - 1) a (height a) (Fixed t.Semicolon ∷ rest) (λ a. behind t.Semicolon a.2 >>= λ rest. Some (a.0, a.1, rest)) (within (high - 1) a (height a) rest)
    (λ fits. sym (within_yes (high - 1) a (height a) rest fits)) (λ above. sym (within_no (high - 1) a (height a) rest above))

argument_again : (a : Expression) (u : List Token) → Again l.Choice a u → (depth high : ℕ) (rest : List Token) → length (u ++ (Fixed t.CloseParen ∷ Fixed t.Semicolon ∷ rest)) < depth
    → argument_by (inner_at depth) high (Fixed t.OpenParen ∷ (u ++ (Fixed t.CloseParen ∷ Fixed t.Semicolon ∷ rest))) ≡ within (high - 1) a (height a) rest
unfolding argument_by behind
argument_again a u again depth high rest deep =
    ap (λ o. o >>= λ a. behind t.CloseParen a.2 >>= λ ts. behind t.Semicolon ts >>= λ rest. Some (a.0, a.1, rest))
    (deeper l.Choice a u again depth (high - 1) (Fixed t.CloseParen ∷ Fixed t.Semicolon ∷ rest) deep (paren_stops (Fixed t.Semicolon ∷ rest)))
    ∙ cased high (high - 1) a (height a) (Fixed t.CloseParen ∷ Fixed t.Semicolon ∷ rest) (λ a. behind t.CloseParen a.2 >>= λ ts. behind t.Semicolon ts >>= λ rest. Some (a.0, a.1, rest))
    (within (high - 1) a (height a) rest)
    (λ fits. sym (within_yes (high - 1) a (height a) rest fits)) (λ above. sym (within_no (high - 1) a (height a) rest above))

operation_again : (op : Operation) (u : List Token) → SpellsOperation op u → (ts : List Token) → operation_at (u ++ ts) ≡ Some (op, ts)
unfolding operation_at
operation_again op u add ts = refl
operation_again op u set ts = refl
operation_again op u set_if_empty ts = refl

operation_no_name : (op : Operation) (u : List Token) → SpellsOperation op u → (ts : List Token) → name_at (u ++ ts) ≡ None
unfolding name_at
operation_no_name op u add ts = refl
operation_no_name op u set ts = refl
operation_no_name op u set_if_empty ts = refl

-- the tokens of a change, in front of others
change_tokens : (u v rest : List Token) → (u ++ Fixed t.OpenParen ∷ (v ++ Fixed t.CloseParen ∷ Fixed t.Semicolon ∷ [])) ++ rest
    ≡ u ++ (Fixed t.OpenParen ∷ (v ++ (Fixed t.CloseParen ∷ Fixed t.Semicolon ∷ rest)))
change_tokens u v rest = append_assoc u (Fixed t.OpenParen ∷ (v ++ Fixed t.CloseParen ∷ Fixed t.Semicolon ∷ [])) rest
    ∙ ap (λ ts. u ++ (Fixed t.OpenParen ∷ ts)) (append_assoc v (Fixed t.CloseParen ∷ Fixed t.Semicolon ∷ []) rest)

pub change_no_name : (op : Operation) (a : Expression) (u : List Token) → SpellsChange op a u → (rest : List Token) → name_at (u ++ rest) ≡ None
change_no_name op a u (change _ _ v w h i) rest = ap name_at (change_tokens v w rest) ∙ operation_no_name op v h (Fixed t.OpenParen ∷ (w ++ (Fixed t.CloseParen ∷ Fixed t.Semicolon ∷ rest)))

pub change_again : (op : Operation) (a : Expression) (u : List Token) → SpellsChange op a u → (depth high : ℕ) (p : Place Expression) (h : ℕ) (rest : List Token) → length (u ++ rest) ≤ depth
    → change_by (inner_at depth) high p h (u ++ rest) ≡ within high (s.Update p op a) (max h (height a) + 1) rest
unfolding change_by
change_again op a u (change _ _ v w spelled i) depth high p h rest fits =
    let ts : List Token = w ++ (Fixed t.CloseParen ∷ Fixed t.Semicolon ∷ rest) in
    let same : (v ++ Fixed t.OpenParen ∷ (w ++ Fixed t.CloseParen ∷ Fixed t.Semicolon ∷ [])) ++ rest ≡ v ++ (Fixed t.OpenParen ∷ (w ++ (Fixed t.CloseParen ∷ Fixed t.Semicolon ∷ rest))) = change_tokens v w rest in
    let all : length (v ++ (Fixed t.OpenParen ∷ (w ++ (Fixed t.CloseParen ∷ Fixed t.Semicolon ∷ rest)))) ≤ depth = subst (λ ts. length ts ≤ depth) same fits in
    let some : length (Fixed t.OpenParen ∷ (w ++ (Fixed t.CloseParen ∷ Fixed t.Semicolon ∷ rest))) ≤ length (v ++ (Fixed t.OpenParen ∷ (w ++ (Fixed t.CloseParen ∷ Fixed t.Semicolon ∷ rest))))
    = behind_shorter v (Fixed t.OpenParen ∷ (w ++ (Fixed t.CloseParen ∷ Fixed t.Semicolon ∷ rest))) in
    ap (change_by (inner_at depth) high p h) same
    ∙ ap (λ o. o >>= λ op. argument_by (inner_at depth) high op.1 >>= λ a. within high (s.Update p op.0 a.0) (max h a.1 + 1) a.2)
    (operation_again op v spelled (Fixed t.OpenParen ∷ (w ++ (Fixed t.CloseParen ∷ Fixed t.Semicolon ∷ rest))))
    ∙ ap (λ o. o >>= λ a. within high (s.Update p op a.0) (max h a.1 + 1) a.2) (argument_again a w (again l.Choice a w i) depth high rest (omega arith))
    ∙ joined_high (s.Update p op) high a h (height a) rest

-- ---- statements without blocks

abbrev pub StatementAgain : Statement → List Token → Type 0
StatementAgain x u = (depth high : ℕ) (rest : List Token) → length (u ++ rest) ≤ depth → behind t.Else rest ≡ None
    → statement_by (inner_at depth) (block_at depth) high (u ++ rest) ≡ within high x (statement_height x) rest

pub define_again : (x : List ℕ) (a : Expression) (u : List Token) → Spells l.Choice a u → StatementAgain (s.Define x a) (Fixed t.Var ∷ Name x ∷ Fixed t.Assign ∷ (u ++ Fixed t.Semicolon ∷ []))
unfolding statement_by define_by initial_by name_at behind
define_again x a u h depth high rest fits none =
    let same : (u ++ Fixed t.Semicolon ∷ []) ++ rest ≡ u ++ (Fixed t.Semicolon ∷ rest) = append_assoc u (Fixed t.Semicolon ∷ []) rest in
    let deep : length (u ++ (Fixed t.Semicolon ∷ rest)) < depth = subst (λ ts. length ts < depth) same
    (let q : length (Fixed t.Var ∷ Name x ∷ Fixed t.Assign ∷ ((u ++ Fixed t.Semicolon ∷ []) ++ rest)) ≤ depth = fits in omega arith) in
    rw (height_define x a) (ap (initial_by (inner_at depth) high x) same
    ∙ ap (λ o. elim o [ Some rest ↦ create_by (inner_at depth) high x rest | None ↦ ended_by (inner_at depth) high (u ++ (Fixed t.Semicolon ∷ rest)) >>= λ a. within high (s.Define x a.0) (a.1 + 1) a.2 ])
    (no_new l.Choice a u h (Fixed t.Semicolon ∷ rest))
    ∙ ap (λ o. o >>= λ a. within high (s.Define x a.0) (a.1 + 1) a.2) (ended_again a u (again l.Choice a u h) depth high rest deep)
    ∙ lifted (s.Define x) high a (height a) rest)

pub assign_again : (x : List ℕ) (a : Expression) (u : List Token) → Spells l.Choice a u → StatementAgain (s.Assign x a) (Name x ∷ Fixed t.Assign ∷ (u ++ Fixed t.Semicolon ∷ []))
unfolding statement_by named_by assign_by
assign_again x a u h depth high rest fits none =
    let same : (u ++ Fixed t.Semicolon ∷ []) ++ rest ≡ u ++ (Fixed t.Semicolon ∷ rest) = append_assoc u (Fixed t.Semicolon ∷ []) rest in
    let deep : length (u ++ (Fixed t.Semicolon ∷ rest)) < depth = subst (λ ts. length ts < depth) same
    (let q : length (Name x ∷ Fixed t.Assign ∷ ((u ++ Fixed t.Semicolon ∷ []) ++ rest)) ≤ depth = fits in omega arith) in
    rw (height_assign x a) (ap (assign_by (inner_at depth) high x) same
    ∙ ap (λ o. o >>= λ a. within high (s.Assign x a.0) (a.1 + 1) a.2) (ended_again a u (again l.Choice a u h) depth high rest deep)
    ∙ lifted (s.Assign x) high a (height a) rest)

pub print_again : (a : Expression) (u : List Token) → Spells l.Choice a u → StatementAgain (s.Print a) (Fixed t.Print ∷ (u ++ Fixed t.Semicolon ∷ []))
unfolding statement_by print_by
print_again a u h depth high rest fits none =
    let same : (u ++ Fixed t.Semicolon ∷ []) ++ rest ≡ u ++ (Fixed t.Semicolon ∷ rest) = append_assoc u (Fixed t.Semicolon ∷ []) rest in
    let deep : length (u ++ (Fixed t.Semicolon ∷ rest)) < depth = subst (λ ts. length ts < depth) same
    (let q : length (Fixed t.Print ∷ ((u ++ Fixed t.Semicolon ∷ []) ++ rest)) ≤ depth = fits in omega arith) in
    rw (height_print a) (ap (print_by (inner_at depth) high) same
    ∙ ap (λ o. o >>= λ a. within high (s.Print a.0) (a.1 + 1) a.2) (ended_again a u (again l.Choice a u h) depth high rest deep)
    ∙ lifted s.Print high a (height a) rest)

pub delete_again : (x : List ℕ) → StatementAgain (s.Delete x) (Fixed t.Delete ∷ Name x ∷ Fixed t.Semicolon ∷ [])
unfolding statement_by delete_at name_at behind
delete_again x depth high rest fits none = ap (λ h. within high (s.Delete x) h rest) (sym (height_delete x))

pub yield_again : StatementAgain s.Yield (Fixed t.Yield ∷ Fixed t.Semicolon ∷ [])
unfolding statement_by word_at behind
yield_again depth high rest fits none = ap (λ h. within high s.Yield h rest) (sym height_yield)

pub flush_again : StatementAgain s.Flush (Fixed t.Flush ∷ Fixed t.Semicolon ∷ [])
unfolding statement_by word_at behind
flush_again depth high rest fits none = ap (λ h. within high s.Flush h rest) (sym height_flush)

new_keys_again : (keys : List Expression) (u : List Token) → SpellsNewKeys keys u → (depth high : ℕ) (rest : List Token) → length (u ++ (Fixed t.Semicolon ∷ rest)) < depth
    → new_keys_by (inner_at depth) high (u ++ (Fixed t.Semicolon ∷ rest)) ≡ within (high - 1) keys (highest (map height keys)) (Fixed t.Semicolon ∷ rest)
unfolding new_keys_by behind
new_keys_again keys u no_new_keys depth high rest deep = sym (within_yes (high - 1) [] 0 (Fixed t.Semicolon ∷ rest) (omega arith))
new_keys_again keys u (new_keys _ v h) depth high rest deep =
    let heights : max 0 (highest (map height keys)) ≡ highest (map height keys) = omega arith in
    keys_again keys v h depth (high - 1) (length (v ++ (Fixed t.Semicolon ∷ rest))) [] 0 (Fixed t.Semicolon ∷ rest)
    (let q : length (Fixed t.OpenBracket ∷ (v ++ (Fixed t.Semicolon ∷ rest))) < depth = deep in omega arith) (omega arith) (omega arith)
    ∙ ap (λ n. within (high - 1) keys n (Fixed t.Semicolon ∷ rest)) heights

pub create_again : (x n : List ℕ) (keys : List Expression) (u : List Token) → SpellsNewKeys keys u
    → StatementAgain (s.Create x n keys) (Fixed t.Var ∷ Name x ∷ Fixed t.Assign ∷ Fixed t.New ∷ Name n ∷ (u ++ Fixed t.Semicolon ∷ []))
unfolding statement_by define_by initial_by create_by name_at behind
create_again x n keys u h depth high rest fits none =
    let same : (u ++ Fixed t.Semicolon ∷ []) ++ rest ≡ u ++ (Fixed t.Semicolon ∷ rest) = append_assoc u (Fixed t.Semicolon ∷ []) rest in
    let deep : length (u ++ (Fixed t.Semicolon ∷ rest)) < depth = subst (λ ts. length ts < depth) same
    (let q : length (Fixed t.Var ∷ Name x ∷ Fixed t.Assign ∷ Fixed t.New ∷ Name n ∷ ((u ++ Fixed t.Semicolon ∷ []) ++ rest)) ≤ depth = fits in omega arith) in
    rw (height_create x n keys)
    (ap (λ ts. new_keys_by (inner_at depth) high ts >>= λ keys. behind t.Semicolon keys.2 >>= λ rest. within high (s.Create x n keys.0) (keys.1 + 1) rest) same
    ∙ ap (λ o. o >>= λ keys. behind t.Semicolon keys.2 >>= λ rest. within high (s.Create x n keys.0) (keys.1 + 1) rest) (new_keys_again keys u h depth high rest deep)
    ∙ cased high (high - 1) keys (highest (map height keys)) (Fixed t.Semicolon ∷ rest) (λ keys. behind t.Semicolon keys.2 >>= λ rest. within high (s.Create x n keys.0) (keys.1 + 1) rest)
    (within high (s.Create x n keys) (highest (map height keys) + 1) rest) (λ fits. refl) (λ above. sym (within_no high (s.Create x n keys) (highest (map height keys) + 1) rest (omega arith))))
