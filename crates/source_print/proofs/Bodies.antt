-- The tokens of printed statements spell them.
use Rattle.std.proofs.Common.{◌≡◌, ℕ, ◌+◌, ◌≤◌, List, [], ◌∷◌, ◌++◌, map, refl, ap, sym, ◌∙◌, subst, append_assoc, append-nil, Some, None, arith}
use Rattle.std.specs.Prelude.{codes}
use Rattle.std.specs.List.{AllByRecursion}
use Rattle.source_tokens.specs.Scans.{IsToken}
use Rattle.source_tokens.specs.Terminals.{IsIdentifier}
use Rattle.source_tokens.specs.declared.terminal.Terminal.TheVariants as t
use Rattle.source_tokens.specs.declared.token.Token.{Token}
use Rattle.source_tokens.specs.declared.token.Token.TheVariants.{Name, Fixed}
use Rattle.source_tokens.proofs.Lexing.{Lexes, Ends, lexes_name, lexes_blank}
use Rattle.source_tree.specs.Expressions.{SpellsKeys}
use Rattle.source_tree.specs.Forms.{height_define, height_create, height_assign, height_update, height_if, height_if_else, height_while, height_for_all, height_for_entries, height_print}
use Rattle.source_tree.specs.Heights.{highest, height, statement_height, body_height}
use Rattle.source_tree.specs.Statements.{SpellsOperation, SpellsChange, SpellsNewKeys, SpellsStatement, SpellsBlock, SpellsBody, SpellsElse, SpellsEach, add, set, set_if_empty, change, no_new_keys, new_keys, define, create, assign, update, delete, if_else, while, for_all, for_entries, print, yield, flush, block, no_statements, more_statements, no_else, else_block, last_name, more_names}
use Rattle.source_tree.specs.declared.expression.Expression.{Expression}
use Rattle.source_tree.specs.declared.expression.Expression.TheVariants as e
use Rattle.source_tree.specs.declared.expression.Level.TheVariants as l
use Rattle.source_tree.specs.declared.expression.Place.{Place}
use Rattle.source_tree.specs.declared.statement.Operation.{Operation}
use Rattle.source_tree.specs.declared.statement.Operation.TheVariants as o
use Rattle.source_tree.specs.declared.statement.Statement.{Statement}
use Rattle.source_tree.specs.declared.statement.Statement.TheVariants as s
use Rattle.source_print.specs.Expressions.{separated, Printed, expression_text}
use Rattle.source_print.specs.Statements.{place_text, operation_text, new_keys_text, deeper, block_text, body_text, statement_text}
use Rattle.source_print.proofs.Forms as f
use Rattle.source_print.proofs.Nesting.{Nests, Closes, nothing, raised, raised_closes, plainly, word, joined, closed, closing, opened, ended, shut_brace, shut_parenthesis}
use Rattle.source_print.proofs.Pieces as piece
use Rattle.source_print.proofs.Printed.{parts, by_same, Prints, PlacePrints, KeysPrint, expression_prints, place_prints, keys_print}

-- blanks alone
pub IsMargin : List ℕ → Type 0
IsMargin margin = AllByRecursion (λ b. b ≡ 32) margin

pub no_margin : IsMargin []
unfolding IsMargin
no_margin = tt

deep : (margin : List ℕ) → IsMargin margin → IsMargin (deeper margin)
unfolding IsMargin
deep [] h = (refl, (refl, tt))
deep (b ∷ margin) h = (h.0, deep margin h.1)

lexes_margin : (margin rest : List ℕ) (ts : List Token) → IsMargin margin → Lexes rest ts → Lexes (margin ++ rest) ts
unfolding IsMargin
lexes_margin [] rest ts m h = h
lexes_margin (b ∷ margin) rest ts m h = subst (λ c. Lexes (c ∷ (margin ++ rest)) ts) (sym m.0) (lexes_blank (margin ++ rest) ts (lexes_margin margin rest ts m.1 h))

-- the lines of a statement are read as tokens that spell it, in which brackets nest at most as deep as it is high
pub record StatementPrints (a : Statement) : Type 0 where
  pub tokens : List Token
  pub spelled : SpellsStatement a tokens
  pub nests : Nests (statement_height a) tokens
  pub lexes : (margin rest : List ℕ) (ts : List Token) → IsMargin margin → Lexes rest ts → Lexes (statement_text a margin ++ rest) (tokens ++ ts)

-- those of a body, with the brace that closes it
pub record BodyPrints (body : List Statement) : Type 0 where
  pub tokens : List Token
  pub spelled : SpellsBody body tokens
  pub closes : Closes (body_height body) tokens
  pub lexes : (margin rest : List ℕ) (ts : List Token) → IsMargin margin → Lexes rest ts → Lexes (body_text (deeper margin) body ++ (margin ++ (codes "}" ++ rest))) (tokens ++ ts)

pub record BlockPrints (body : List Statement) : Type 0 where
  pub tokens : List Token
  pub spelled : SpellsBlock body tokens
  pub nests : Nests (body_height body + 1) tokens
  pub lexes : (margin rest : List ℕ) (ts : List Token) → IsMargin margin → Lexes rest ts → Lexes (block_text margin body ++ rest) (tokens ++ ts)

block_prints : (body : List Statement) → BodyPrints body → BlockPrints body
unfolding block_text
block_prints body b = record {
  tokens = Fixed t.OpenBrace ∷ b.tokens;
  spelled = block body b.tokens b.spelled;
  nests = opened (body_height body) (Fixed t.OpenBrace) b.tokens (λ n. refl) b.closes;
  lexes = λ margin rest ts m h. by_same _ _ _ _ (piece.lexes_begin _ _ (b.lexes margin rest ts m h)) (simp append_assoc) refl;
}

no_body : BodyPrints []
no_body = record { tokens = Fixed t.CloseBrace ∷ []; spelled = no_statements; closes = closed 0 (Fixed t.CloseBrace) [] shut_brace (nothing 0); lexes = λ margin rest ts m h. lexes_margin margin (codes "}" ++ rest) (Fixed t.CloseBrace ∷ ts) m (piece.lexes_finish rest ts h) }

more_closes : (a : Statement) (body : List Statement) (u v : List Token) → Nests (statement_height a) u → Closes (body_height body) v → Closes (body_height (a ∷ body)) (u ++ v)
more_closes a body u v h i =
    let first : statement_height a ≤ body_height (a ∷ body) = omega arith in
    let second : body_height body ≤ body_height (a ∷ body) = omega arith in
    closing (body_height (a ∷ body)) u v (raised _ _ u first h) (raised_closes _ _ v second i)

more_body : (a : Statement) (body : List Statement) → StatementPrints a → BodyPrints body → BodyPrints (a ∷ body)
more_body a body p b = record {
  tokens = p.tokens ++ b.tokens;
  spelled = more_statements a body p.tokens b.tokens p.spelled b.spelled;
  closes = more_closes a body p.tokens b.tokens p.nests b.closes;
  lexes = λ margin rest ts m h.
      by_same _ _ _ _ (p.lexes (deeper margin) (body_text (deeper margin) body ++ (margin ++ (codes "}" ++ rest))) (b.tokens ++ ts) (deep margin m) (b.lexes margin rest ts m h))
      (append_assoc (statement_text a (deeper margin)) (body_text (deeper margin) body) (margin ++ (codes "}" ++ rest))) (append_assoc p.tokens b.tokens ts);
}

-- a statement of one line: its margin, and what stands behind it
line_prints : (a : Statement) (tokens : List Token) (text : List ℕ) → SpellsStatement a tokens → Nests (statement_height a) tokens → ((margin : List ℕ) → statement_text a margin ≡ margin ++ text)
    → ((rest : List ℕ) (ts : List Token) → Lexes rest ts → Lexes (text ++ rest) (tokens ++ ts)) → StatementPrints a
line_prints a tokens text spelled nests is lexes = record {
  tokens = tokens;
  spelled = spelled;
  nests = nests;
  lexes = λ margin rest ts m h. by_same _ _ _ _ (lexes_margin margin (text ++ rest) (tokens ++ ts) m (lexes rest ts h)) (ap (λ b. b ++ rest) (is margin) ∙ append_assoc margin text rest) refl;
}

-- an expression up to the semicolon, in a higher statement
up_to_end : (k : ℕ) (a : Expression) (u : List Token) → height a + 1 ≤ k → Nests (height a) u → Nests k (u ++ Fixed t.Semicolon ∷ [])
up_to_end k a u high h = ended k u (Fixed t.Semicolon) (λ n. refl) (raised (height a) k u (omega arith) h)

define_prints : (y : List ℕ) (a : Expression) → IsIdentifier y → Prints a → StatementPrints (s.Define y a)
define_prints y a first p = line_prints (s.Define y a) (Fixed t.Var ∷ Name y ∷ Fixed t.Assign ∷ (p.whole.tokens ++ Fixed t.Semicolon ∷ [])) (codes "var " ++ (y ++ (codes " = " ++ (expression_text a ++ codes ";\n"))))
    (define y a p.whole.tokens p.whole.spelled)
    (plainly _ (Fixed t.Var) _ (λ n. refl) (plainly _ (Name y) _ (λ n. refl) (plainly _ (Fixed t.Assign) _ (λ n. refl) (up_to_end _ a p.whole.tokens (omega (arith, height_define y a)) p.whole.nests))))
    (λ margin. f.define_text y a margin ∙ simp append_assoc)
    (λ rest ts h.
    by_same _ _ _ _
    (piece.lexes_var _ _ (lexes_name y (codes " = " ++ (expression_text a ++ (codes ";\n" ++ rest))) (Fixed t.Assign ∷ (p.whole.tokens ++ Fixed t.Semicolon ∷ ts)) first refl
    (piece.lexes_assign _ _ (p.whole.lexes (codes ";\n" ++ rest) (Fixed t.Semicolon ∷ ts) refl (piece.lexes_end rest ts h)))))
    (simp append_assoc) (simp append_assoc))

assign_prints : (y : List ℕ) (a : Expression) → IsIdentifier y → Prints a → StatementPrints (s.Assign y a)
assign_prints y a first p = line_prints (s.Assign y a) (Name y ∷ Fixed t.Assign ∷ (p.whole.tokens ++ Fixed t.Semicolon ∷ [])) (y ++ (codes " = " ++ (expression_text a ++ codes ";\n")))
    (assign y a p.whole.tokens p.whole.spelled)
    (plainly _ (Name y) _ (λ n. refl) (plainly _ (Fixed t.Assign) _ (λ n. refl) (up_to_end _ a p.whole.tokens (omega (arith, height_assign y a)) p.whole.nests)))
    (λ margin. f.assign_text y a margin ∙ simp append_assoc)
    (λ rest ts h.
    by_same _ _ _ _
    (lexes_name y (codes " = " ++ (expression_text a ++ (codes ";\n" ++ rest))) (Fixed t.Assign ∷ (p.whole.tokens ++ Fixed t.Semicolon ∷ ts)) first refl
    (piece.lexes_assign _ _ (p.whole.lexes (codes ";\n" ++ rest) (Fixed t.Semicolon ∷ ts) refl (piece.lexes_end rest ts h))))
    (simp append_assoc) (simp append_assoc))

print_prints : (a : Expression) → Prints a → StatementPrints (s.Print a)
print_prints a p = line_prints (s.Print a) (Fixed t.Print ∷ (p.whole.tokens ++ Fixed t.Semicolon ∷ [])) (codes "print " ++ (expression_text a ++ codes ";\n"))
    (print a p.whole.tokens p.whole.spelled)
    (plainly _ (Fixed t.Print) _ (λ n. refl) (up_to_end _ a p.whole.tokens (omega (arith, height_print a)) p.whole.nests))
    (λ margin. f.print_text a margin ∙ simp append_assoc)
    (λ rest ts h.
    by_same _ _ _ _
    (piece.lexes_print _ _ (p.whole.lexes (codes ";\n" ++ rest) (Fixed t.Semicolon ∷ ts) refl (piece.lexes_end rest ts h)))
    (simp append_assoc) (simp append_assoc))

delete_prints : (y : List ℕ) → IsIdentifier y → StatementPrints (s.Delete y)
delete_prints y first = line_prints (s.Delete y) (Fixed t.Delete ∷ Name y ∷ Fixed t.Semicolon ∷ []) (codes "delete " ++ (y ++ codes ";\n"))
    (delete y)
    (plainly _ (Fixed t.Delete) _ (λ n. refl) (plainly _ (Name y) _ (λ n. refl) (word _ (Fixed t.Semicolon) (λ n. refl))))
    (λ margin. f.delete_text y margin ∙ simp append_assoc)
    (λ rest ts h. by_same _ _ _ _ (piece.lexes_delete _ _ (lexes_name y (codes ";\n" ++ rest) (Fixed t.Semicolon ∷ ts) first refl (piece.lexes_end rest ts h))) (simp append_assoc) refl)

yield_prints : StatementPrints s.Yield
yield_prints = line_prints s.Yield (Fixed t.Yield ∷ Fixed t.Semicolon ∷ []) (codes "yield;\n") yield (plainly _ (Fixed t.Yield) _ (λ n. refl) (word _ (Fixed t.Semicolon) (λ n. refl))) f.yield_text piece.lexes_yield

flush_prints : StatementPrints s.Flush
flush_prints = line_prints s.Flush (Fixed t.Flush ∷ Fixed t.Semicolon ∷ []) (codes "flush;\n") flush (plainly _ (Fixed t.Flush) _ (λ n. refl) (word _ (Fixed t.Semicolon) (λ n. refl))) f.flush_text piece.lexes_flush

-- keys of a new entity
record NewKeysPrint (keys : List Expression) : Type 0 where
  tokens : List Token
  spelled : SpellsNewKeys keys tokens
  nests : Nests (highest (map height keys) + 1) tokens
  ends : (rest : List ℕ) → Ends rest → Ends (new_keys_text keys ++ rest)
  lexes : (rest : List ℕ) (ts : List Token) → Lexes rest ts → Lexes (new_keys_text keys ++ rest) (tokens ++ ts)

new_keys_by : (keys : List Expression) (u : List Token) → SpellsKeys keys u → KeysPrint keys → NewKeysPrint keys
new_keys_by [] u h q = elim h [ ]
new_keys_by (a ∷ keys) u h q = record {
  tokens = Fixed t.OpenBracket ∷ q.tokens;
  spelled = new_keys (a ∷ keys) q.tokens q.spelled;
  nests = opened _ (Fixed t.OpenBracket) q.tokens (λ n. refl) q.closes;
  ends = λ rest e. refl;
  lexes = λ rest ts h. by_same _ _ _ _ (piece.lexes_open_bracket _ _ (q.lexes rest ts h)) (simp append_assoc) refl;
}

new_keys_print : (keys : List Expression) (u : List Token) → SpellsNewKeys keys u → AllByRecursion IsToken u → NewKeysPrint keys
new_keys_print _ _ no_new_keys all = record { tokens = []; spelled = no_new_keys; nests = nothing _; ends = λ rest e. e; lexes = λ rest ts h. h }
new_keys_print _ _ (new_keys keys u h) all = new_keys_by keys u h (keys_print keys u h all.1)

create_nests : (y n : List ℕ) (keys : List Expression) (u : List Token) → Nests (highest (map height keys) + 1) u
    → Nests (statement_height (s.Create y n keys)) (Fixed t.Var ∷ Name y ∷ Fixed t.Assign ∷ Fixed t.New ∷ Name n ∷ (u ++ Fixed t.Semicolon ∷ []))
create_nests y n keys u h =
    plainly _ (Fixed t.Var) _ (λ n. refl) (plainly _ (Name y) _ (λ n. refl) (plainly _ (Fixed t.Assign) _ (λ n. refl) (plainly _ (Fixed t.New) _ (λ n. refl) (plainly _ (Name n) _ (λ n. refl)
    (ended _ u (Fixed t.Semicolon) (λ n. refl) (subst (λ k. Nests k u) (sym (height_create y n keys)) h))))))

create_prints : (y n : List ℕ) (keys : List Expression) → IsIdentifier y → IsIdentifier n → NewKeysPrint keys → StatementPrints (s.Create y n keys)
create_prints y n keys first second q = line_prints (s.Create y n keys) (Fixed t.Var ∷ Name y ∷ Fixed t.Assign ∷ Fixed t.New ∷ Name n ∷ (q.tokens ++ Fixed t.Semicolon ∷ []))
    (codes "var " ++ (y ++ (codes " = new " ++ (n ++ (new_keys_text keys ++ codes ";\n")))))
    (create y n keys q.tokens q.spelled)
    (create_nests y n keys q.tokens q.nests)
    (λ margin. f.create_text y n keys margin ∙ simp append_assoc)
    (λ rest ts h.
    by_same _ _ _ _
    (piece.lexes_var _ _ (lexes_name y (codes " = new " ++ (n ++ (new_keys_text keys ++ (codes ";\n" ++ rest)))) (Fixed t.Assign ∷ Fixed t.New ∷ Name n ∷ (q.tokens ++ Fixed t.Semicolon ∷ ts)) first refl
    (piece.lexes_new _ _ (lexes_name n (new_keys_text keys ++ (codes ";\n" ++ rest)) (q.tokens ++ Fixed t.Semicolon ∷ ts) second (q.ends (codes ";\n" ++ rest) refl) (q.lexes (codes ";\n" ++ rest) (Fixed t.Semicolon ∷ ts) (piece.lexes_end rest ts h))))))
    (simp append_assoc) (simp append_assoc))

-- an operation with its parenthesis
record OperationPrints (op : Operation) : Type 0 where
  tokens : List Token
  spelled : SpellsOperation op tokens
  nests : (k : ℕ) → Nests k tokens
  ends : (rest : List ℕ) → Ends (operation_text op ++ rest)
  lexes : (rest : List ℕ) (ts : List Token) → Lexes rest ts → Lexes (operation_text op ++ rest) (Fixed t.Dot ∷ (tokens ++ Fixed t.OpenParen ∷ ts))

operation_prints : (op : Operation) → OperationPrints op
operation_prints o.Add = record { tokens = Fixed t.Add ∷ []; spelled = add; nests = λ k. word k (Fixed t.Add) (λ n. refl); ends = λ rest. refl; lexes = piece.lexes_add }
operation_prints o.Set = record { tokens = Fixed t.Set ∷ []; spelled = set; nests = λ k. word k (Fixed t.Set) (λ n. refl); ends = λ rest. refl; lexes = piece.lexes_set }
operation_prints o.SetIfEmpty = record { tokens = Fixed t.SetIfEmpty ∷ []; spelled = set_if_empty; nests = λ k. word k (Fixed t.SetIfEmpty) (λ n. refl); ends = λ rest. refl; lexes = piece.lexes_set_if_empty }

-- an argument in parentheses, and the semicolon behind it
argument_nests : (k : ℕ) (a : Expression) (u : List Token) → height a + 1 ≤ k → Nests (height a) u → Nests k (Fixed t.OpenParen ∷ (u ++ Fixed t.CloseParen ∷ Fixed t.Semicolon ∷ []))
argument_nests k a u high h =
    raised (height a + 1) k _ high
    (opened (height a) (Fixed t.OpenParen) _ (λ n. refl)
    (closing (height a) u (Fixed t.CloseParen ∷ Fixed t.Semicolon ∷ []) h (closed (height a) (Fixed t.CloseParen) (Fixed t.Semicolon ∷ []) shut_parenthesis (word (height a) (Fixed t.Semicolon) (λ n. refl)))))

update_nests : (p : Place Expression) (op : Operation) (a : Expression) (u v w : List Token) → Nests (height (e.Place p)) u → ((k : ℕ) → Nests k v) → Nests (height a) w
    → Nests (statement_height (s.Update p op a)) (u ++ Fixed t.Dot ∷ (v ++ Fixed t.OpenParen ∷ (w ++ Fixed t.CloseParen ∷ Fixed t.Semicolon ∷ [])))
update_nests p op a u v w h i m =
    let first : height (e.Place p) ≤ statement_height (s.Update p op a) = omega (arith, height_update p op a) in
    let second : height a + 1 ≤ statement_height (s.Update p op a) = omega (arith, height_update p op a) in
    joined _ u _ (raised _ _ u first h) (plainly _ (Fixed t.Dot) _ (λ n. refl) (joined _ v _ (i _) (argument_nests _ a w second m)))

update_by : (p : Place Expression) (op : Operation) (a : Expression) → PlacePrints p → OperationPrints op → Prints a → StatementPrints (s.Update p op a)
update_by p op a q r v = line_prints (s.Update p op a) (q.tokens ++ Fixed t.Dot ∷ (r.tokens ++ Fixed t.OpenParen ∷ (v.whole.tokens ++ Fixed t.CloseParen ∷ Fixed t.Semicolon ∷ [])))
    (place_text p ++ (operation_text op ++ (expression_text a ++ codes ");\n")))
    (update p op a q.tokens _ q.spelled (change op a r.tokens v.whole.tokens r.spelled v.whole.spelled))
    (update_nests p op a q.tokens r.tokens v.whole.tokens q.nests r.nests v.whole.nests)
    (λ margin. f.update_text p op a margin ∙ simp append_assoc)
    (λ rest ts h.
    let text_is : place_text p ≡ q.text = ap (λ (p : Printed). p.text) q.is in
    by_same _ _ _ _
    (q.lexes (operation_text op ++ (expression_text a ++ (codes ");\n" ++ rest))) (Fixed t.Dot ∷ (r.tokens ++ Fixed t.OpenParen ∷ (v.whole.tokens ++ Fixed t.CloseParen ∷ Fixed t.Semicolon ∷ ts))) (r.ends (expression_text a ++ (codes ");\n" ++ rest)))
    (r.lexes (expression_text a ++ (codes ");\n" ++ rest)) (v.whole.tokens ++ Fixed t.CloseParen ∷ Fixed t.Semicolon ∷ ts) (v.whole.lexes (codes ");\n" ++ rest) (Fixed t.CloseParen ∷ Fixed t.Semicolon ∷ ts) refl (piece.lexes_close_end rest ts h))))
    (ap (λ b. (b ++ (operation_text op ++ (expression_text a ++ codes ");\n"))) ++ rest) text_is ∙ simp append_assoc) (simp append_assoc))

while_nests : (a : Expression) (body : List Statement) (u v : List Token) → Nests (height a) u → Nests (body_height body + 1) v → Nests (statement_height (s.While a body)) (Fixed t.While ∷ (u ++ v))
while_nests a body u v h i =
    let first : height a ≤ statement_height (s.While a body) = omega (arith, height_while a body) in
    let second : body_height body + 1 ≤ statement_height (s.While a body) = omega (arith, height_while a body) in
    plainly _ (Fixed t.While) _ (λ n. refl) (joined _ u v (raised _ _ u first h) (raised _ _ v second i))

while_by : (a : Expression) (body : List Statement) → Prints a → BlockPrints body → StatementPrints (s.While a body)
while_by a body p b = record {
  tokens = Fixed t.While ∷ (p.whole.tokens ++ b.tokens);
  spelled = while a body p.whole.tokens b.tokens p.whole.spelled b.spelled;
  nests = while_nests a body p.whole.tokens b.tokens p.whole.nests b.nests;
  lexes = λ margin rest ts m h.
      by_same _ _ _ _
      (lexes_margin margin _ _ m (piece.lexes_while _ _ (p.whole.lexes (codes " " ++ (block_text margin body ++ (codes "\n" ++ rest))) (b.tokens ++ ts) refl (piece.lexes_blank _ _ (b.lexes margin (codes "\n" ++ rest) ts m (piece.lexes_feed rest ts h))))))
      (ap (λ b. b ++ rest) (f.while_text a body margin) ∙ simp append_assoc) (simp append_assoc);
}

for_all_nests : (y n : List ℕ) (body : List Statement) (u : List Token) → Nests (body_height body + 1) u → Nests (statement_height (s.ForAll y n body)) (Fixed t.Foreach ∷ Name y ∷ Fixed t.In ∷ Fixed t.All ∷ Name n ∷ u)
for_all_nests y n body u h =
    plainly _ (Fixed t.Foreach) _ (λ n. refl) (plainly _ (Name y) _ (λ n. refl) (plainly _ (Fixed t.In) _ (λ n. refl) (plainly _ (Fixed t.All) _ (λ n. refl) (plainly _ (Name n) _ (λ n. refl)
    (subst (λ k. Nests k u) (sym (height_for_all y n body)) h)))))

for_all_by : (y n : List ℕ) (body : List Statement) → IsIdentifier y → IsIdentifier n → BlockPrints body → StatementPrints (s.ForAll y n body)
for_all_by y n body first second b = record {
  tokens = Fixed t.Foreach ∷ Name y ∷ Fixed t.In ∷ Fixed t.All ∷ Name n ∷ b.tokens;
  spelled = for_all y n body b.tokens b.spelled;
  nests = for_all_nests y n body b.tokens b.nests;
  lexes = λ margin rest ts m h.
      by_same _ _ _ _
      (lexes_margin margin _ _ m (piece.lexes_foreach _ _ (lexes_name y (codes " in all " ++ (n ++ (codes " " ++ (block_text margin body ++ (codes "\n" ++ rest))))) (Fixed t.In ∷ Fixed t.All ∷ Name n ∷ (b.tokens ++ ts)) first refl
      (piece.lexes_in_all _ _ (lexes_name n (codes " " ++ (block_text margin body ++ (codes "\n" ++ rest))) (b.tokens ++ ts) second refl (piece.lexes_blank _ _ (b.lexes margin (codes "\n" ++ rest) ts m (piece.lexes_feed rest ts h))))))))
      (ap (λ b. b ++ rest) (f.for_all_text y n body margin) ∙ simp append_assoc) refl;
}

-- the names of a `foreach`, and what is behind them
record EachPrints (ys : List (List ℕ)) (n p : List ℕ) (body : List Statement) : Type 0 where
  tokens : List Token
  spelled : SpellsEach ys n p body tokens
  nests : Nests (body_height body + 1) tokens
  lexes : (margin rest : List ℕ) (ts : List Token) → IsMargin margin → Lexes rest ts
      → Lexes (separated [] ys ++ (codes " in entries " ++ (n ++ (codes "." ++ (p ++ (codes " " ++ (block_text margin body ++ rest))))))) (tokens ++ ts)

last_each : (y n p : List ℕ) (body : List Statement) → IsIdentifier y → IsIdentifier n → IsIdentifier p → BlockPrints body → EachPrints (y ∷ []) n p body
last_each y n p body first second third b = record {
  tokens = Name y ∷ Fixed t.In ∷ Fixed t.Entries ∷ Name n ∷ Fixed t.Dot ∷ Name p ∷ b.tokens;
  spelled = last_name y n p body b.tokens b.spelled;
  nests =
      plainly _ (Name y) _ (λ n. refl) (plainly _ (Fixed t.In) _ (λ n. refl) (plainly _ (Fixed t.Entries) _ (λ n. refl) (plainly _ (Name n) _ (λ n. refl) (plainly _ (Fixed t.Dot) _ (λ n. refl) (plainly _ (Name p) _ (λ n. refl) b.nests)))));
  lexes = λ margin rest ts m h.
      by_same _ _ _ _
      (lexes_name y (codes " in entries " ++ (n ++ (codes "." ++ (p ++ (codes " " ++ (block_text margin body ++ rest)))))) (Fixed t.In ∷ Fixed t.Entries ∷ Name n ∷ Fixed t.Dot ∷ Name p ∷ (b.tokens ++ ts)) first refl
      (piece.lexes_in_entries _ _ (lexes_name n (codes "." ++ (p ++ (codes " " ++ (block_text margin body ++ rest)))) (Fixed t.Dot ∷ Name p ∷ (b.tokens ++ ts)) second refl
      (piece.lexes_dot _ _ (lexes_name p (codes " " ++ (block_text margin body ++ rest)) (b.tokens ++ ts) third refl (piece.lexes_blank _ _ (b.lexes margin rest ts m h)))))))
      (ap (λ z. z ++ (codes " in entries " ++ (n ++ (codes "." ++ (p ++ (codes " " ++ (block_text margin body ++ rest))))))) (append-nil y)) refl;
}

more_each : (y z : List ℕ) (zs : List (List ℕ)) (n p : List ℕ) (body : List Statement) → IsIdentifier y → EachPrints (z ∷ zs) n p body → EachPrints (y ∷ z ∷ zs) n p body
more_each y z zs n p body first q = record {
  tokens = Name y ∷ Fixed t.Comma ∷ q.tokens;
  spelled = more_names y (z ∷ zs) n p body q.tokens q.spelled;
  nests = plainly _ (Name y) _ (λ n. refl) (plainly _ (Fixed t.Comma) _ (λ n. refl) q.nests);
  lexes = λ margin rest ts m h.
      by_same _ _ _ _
      (lexes_name y (codes ", " ++ (separated [] (z ∷ zs) ++ (codes " in entries " ++ (n ++ (codes "." ++ (p ++ (codes " " ++ (block_text margin body ++ rest)))))))) (Fixed t.Comma ∷ (q.tokens ++ ts)) first refl
      (piece.lexes_comma _ _ (q.lexes margin rest ts m h)))
      (simp append_assoc) refl;
}

-- the pieces of the head of a `foreach` over entries, one after the other
entries_flat : (margin a b c d e f g h i j : List ℕ) → margin ++ ((a ++ b ++ c) ++ (d ++ e ++ f ++ g)) ++ h ++ i ++ j ≡ margin ++ (a ++ (b ++ (c ++ (d ++ (e ++ (f ++ (g ++ (h ++ (i ++ j)))))))))
entries_flat margin a b c d e f g h i j = simp append_assoc

for_entries_by : (ys : List (List ℕ)) (n p : List ℕ) (body : List Statement) → EachPrints ys n p body → StatementPrints (s.ForEntries ys n p body)
for_entries_by ys n p body q = record {
  tokens = Fixed t.Foreach ∷ q.tokens;
  spelled = for_entries ys n p body q.tokens q.spelled;
  nests = plainly _ (Fixed t.Foreach) _ (λ n. refl) (subst (λ k. Nests k q.tokens) (sym (height_for_entries ys n p body)) q.nests);
  lexes = λ margin rest ts m h.
      by_same _ _ _ _ (lexes_margin margin _ _ m (piece.lexes_foreach _ _ (q.lexes margin (codes "\n" ++ rest) ts m (piece.lexes_feed rest ts h))))
      (ap (λ b. b ++ rest) (f.for_entries_text ys n p body margin) ∙ entries_flat margin (codes "foreach ") (separated [] ys) (codes " in entries ") n (codes ".") p (codes " ") (block_text margin body) (codes "\n") rest) refl;
}

if_alone_nests : (a : Expression) (first : List Statement) (u v : List Token) → Nests (height a) u → Nests (body_height first + 1) v → Nests (statement_height (s.If a first None)) (Fixed t.If ∷ (u ++ (v ++ [])))
if_alone_nests a first u v h i =
    let low : height a ≤ statement_height (s.If a first None) = omega (arith, height_if a first) in
    let block_low : body_height first + 1 ≤ statement_height (s.If a first None) = omega (arith, height_if a first) in
    plainly _ (Fixed t.If) _ (λ n. refl) (joined _ u _ (raised _ _ u low h) (joined _ v [] (raised _ _ v block_low i) (nothing _)))

if_else_nests : (a : Expression) (first second : List Statement) (u v w : List Token) → Nests (height a) u → Nests (body_height first + 1) v → Nests (body_height second + 1) w
    → Nests (statement_height (s.If a first (Some second))) (Fixed t.If ∷ (u ++ (v ++ Fixed t.Else ∷ w)))
if_else_nests a first second u v w h i m =
    let low : height a ≤ statement_height (s.If a first (Some second)) = omega (arith, height_if_else a first second) in
    let first_low : body_height first + 1 ≤ statement_height (s.If a first (Some second)) = omega (arith, height_if_else a first second) in
    let second_low : body_height second + 1 ≤ statement_height (s.If a first (Some second)) = omega (arith, height_if_else a first second) in
    plainly _ (Fixed t.If) _ (λ n. refl) (joined _ u _ (raised _ _ u low h) (joined _ v _ (raised _ _ v first_low i) (plainly _ (Fixed t.Else) w (λ n. refl) (raised _ _ w second_low m))))

if_alone_by : (a : Expression) (first : List Statement) → Prints a → BlockPrints first → StatementPrints (s.If a first None)
if_alone_by a first p b = record {
  tokens = Fixed t.If ∷ (p.whole.tokens ++ (b.tokens ++ []));
  spelled = if_else a first None p.whole.tokens b.tokens [] p.whole.spelled b.spelled no_else;
  nests = if_alone_nests a first p.whole.tokens b.tokens p.whole.nests b.nests;
  lexes = λ margin rest ts m h.
      by_same _ _ _ _
      (lexes_margin margin _ _ m (piece.lexes_if _ _ (p.whole.lexes (codes " " ++ (block_text margin first ++ (codes "\n" ++ rest))) (b.tokens ++ ts) refl (piece.lexes_blank _ _ (b.lexes margin (codes "\n" ++ rest) ts m (piece.lexes_feed rest ts h))))))
      (ap (λ b. b ++ rest) (f.if_text a first margin) ∙ simp append_assoc) (simp (append_assoc, append-nil));
}

if_else_by : (a : Expression) (first second : List Statement) → Prints a → BlockPrints first → BlockPrints second → StatementPrints (s.If a first (Some second))
if_else_by a first second p b c = record {
  tokens = Fixed t.If ∷ (p.whole.tokens ++ (b.tokens ++ Fixed t.Else ∷ c.tokens));
  spelled = if_else a first (Some second) p.whole.tokens b.tokens (Fixed t.Else ∷ c.tokens) p.whole.spelled b.spelled (else_block second c.tokens c.spelled);
  nests = if_else_nests a first second p.whole.tokens b.tokens c.tokens p.whole.nests b.nests c.nests;
  lexes = λ margin rest ts m h.
      by_same _ _ _ _
      (lexes_margin margin _ _ m (piece.lexes_if _ _ (p.whole.lexes (codes " " ++ (block_text margin first ++ (codes " else " ++ (block_text margin second ++ (codes "\n" ++ rest))))) (b.tokens ++ Fixed t.Else ∷ (c.tokens ++ ts)) refl
      (piece.lexes_blank _ _ (b.lexes margin (codes " else " ++ (block_text margin second ++ (codes "\n" ++ rest))) (Fixed t.Else ∷ (c.tokens ++ ts)) m (piece.lexes_else _ _ (c.lexes margin (codes "\n" ++ rest) ts m (piece.lexes_feed rest ts h))))))))
      (ap (λ b. b ++ rest) (f.if_else_text a first second margin) ∙ simp append_assoc) (simp append_assoc);
}

change_argument : (op : Operation) (a : Expression) (u : List Token) → SpellsChange op a u → AllByRecursion IsToken u → Prints a
change_argument _ _ _ (change op a u v h k) all = let both = parts IsToken u _ all in expression_prints l.Choice a v k (parts IsToken v (Fixed t.CloseParen ∷ Fixed t.Semicolon ∷ []) both.1.1).0

mutual
  pub statement_prints : (a : Statement) (u : List Token) → SpellsStatement a u → AllByRecursion IsToken u → StatementPrints a
  statement_prints _ _ (define y a u h) all = define_prints y a all.1.0 (expression_prints l.Choice a u h (parts IsToken u (Fixed t.Semicolon ∷ []) all.1.1.1).0)
  statement_prints _ _ (create y n keys u h) all = create_prints y n keys all.1.0 all.1.1.1.1.0 (new_keys_print keys u h (parts IsToken u (Fixed t.Semicolon ∷ []) all.1.1.1.1.1).0)
  statement_prints _ _ (assign y a u h) all = assign_prints y a all.0 (expression_prints l.Choice a u h (parts IsToken u (Fixed t.Semicolon ∷ []) all.1.1).0)
  statement_prints _ _ (update p op a u v h k) all = let both = parts IsToken u (Fixed t.Dot ∷ v) all in update_by p op a (place_prints p u h both.0) (operation_prints op) (change_argument op a v k both.1.1)
  statement_prints _ _ (delete y) all = delete_prints y all.1.0
  statement_prints _ _ (if_else a first None u v w h k m) all =
      let both = parts IsToken u (v ++ w) all.1 in
      let blocks = parts IsToken v w both.1 in
      if_alone_by a first (expression_prints l.Choice a u h both.0) (block_prints_of first v k blocks.0)
  statement_prints _ _ (if_else a first (Some second) u v w h k m) all =
      let both = parts IsToken u (v ++ w) all.1 in
      let blocks = parts IsToken v w both.1 in
      if_else_by a first second (expression_prints l.Choice a u h both.0) (block_prints_of first v k blocks.0) (else_prints second w m blocks.1)
  statement_prints _ _ (while a body u v h k) all = let both = parts IsToken u v all.1 in while_by a body (expression_prints l.Choice a u h both.0) (block_prints_of body v k both.1)
  statement_prints _ _ (for_all y n body u h) all = for_all_by y n body all.1.0 all.1.1.1.1.0 (block_prints_of body u h all.1.1.1.1.1)
  statement_prints _ _ (for_entries ys n p body u h) all = for_entries_by ys n p body (each_prints ys n p body u h all.1)
  statement_prints _ _ (print a u h) all = print_prints a (expression_prints l.Choice a u h (parts IsToken u (Fixed t.Semicolon ∷ []) all.1).0)
  statement_prints _ _ yield all = yield_prints
  statement_prints _ _ flush all = flush_prints

  pub block_prints_of : (body : List Statement) (u : List Token) → SpellsBlock body u → AllByRecursion IsToken u → BlockPrints body
  block_prints_of _ _ (block body u h) all = block_prints body (body_prints body u h all.1)

  body_prints : (body : List Statement) (u : List Token) → SpellsBody body u → AllByRecursion IsToken u → BodyPrints body
  body_prints _ _ no_statements all = no_body
  body_prints _ _ (more_statements a body u v h k) all = let both = parts IsToken u v all in more_body a body (statement_prints a u h both.0) (body_prints body v k both.1)

  else_prints : (second : List Statement) (u : List Token) → SpellsElse (Some second) u → AllByRecursion IsToken u → BlockPrints second
  else_prints _ _ (else_block body u h) all = block_prints_of body u h all.1

  each_prints : (ys : List (List ℕ)) (n p : List ℕ) (body : List Statement) (u : List Token) → SpellsEach ys n p body u → AllByRecursion IsToken u → EachPrints ys n p body
  each_prints _ _ _ _ _ (last_name y n p body u h) all = last_each y n p body all.0 all.1.1.1.0 all.1.1.1.1.1.0 (block_prints_of body u h all.1.1.1.1.1.1)
  each_prints _ _ _ _ _ (more_names y [] n p body u h) all = elim h [ ]
  each_prints _ _ _ _ _ (more_names y (z ∷ zs) n p body u h) all = more_each y z zs n p body all.0 (each_prints (z ∷ zs) n p body u h all.1.1)
