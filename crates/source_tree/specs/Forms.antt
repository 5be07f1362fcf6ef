-- What heights and words are of each form.
use Rattle.std.proofs.Common.{◌≡◌, sym, ap, ◌∙◌}
use Rattle.std.specs.Prelude.{ℕ, ◌+◌, max, Bool, true, List, [], ◌∷◌, ◌++◌, map, Some, None, codes}
use Rattle.source_tokens.specs.declared.token.Token.{Token}
use Rattle.source_tokens.specs.declared.token.Token.TheVariants.{Name, Number, Text}
use Rattle.source_tree.specs.declared.expression.Operator.{Operator}
use Rattle.source_tree.specs.declared.expression.Operator.TheVariants as o
use Rattle.source_tree.specs.declared.expression.Expression.{Expression}
use Rattle.source_tree.specs.declared.expression.Expression.TheFolds.{fold-roll-Expression}
use Rattle.source_tree.specs.declared.expression.Expression.TheOpen.{Expression-F}
use Rattle.source_tree.specs.declared.expression.Expression.TheVariants as e
use Rattle.source_tree.specs.declared.expression.Place.{Place}
use Rattle.source_tree.specs.declared.expression.Place.TheVariants as place
use Rattle.source_tree.specs.declared.statement.Operation.{Operation}
use Rattle.source_tree.specs.declared.statement.Statement.{Statement}
use Rattle.source_tree.specs.declared.statement.Statement.TheFolds.{fold-roll-Statement}
use Rattle.source_tree.specs.declared.statement.Statement.TheOpen.{Statement-F}
use Rattle.source_tree.specs.declared.statement.Statement.TheVariants as s
use Rattle.source_tree.specs.Heights.{highest, expression_step, height, statement_step, statement_height, body_height}
use Rattle.source_tree.specs.Words.{joined, expression_words, words, names, statement_words_step, statement_words, body_words}

pub height_number : (n : ℕ) → height (e.Number n) ≡ 1
height_number n = ap height (sym (e.rolls-Number n)) ∙ fold-roll-Expression ℕ expression_step (Expression-F.Number n)

pub height_text : (bytes : List ℕ) → height (e.Text bytes) ≡ 1
height_text bytes = ap height (sym (e.rolls-Text bytes)) ∙ fold-roll-Expression ℕ expression_step (Expression-F.Text bytes)

pub height_truth : (b : Bool) → height (e.Truth b) ≡ 1
height_truth b = ap height (sym (e.rolls-Truth b)) ∙ fold-roll-Expression ℕ expression_step (Expression-F.Truth b)

pub height_alive : (x : List ℕ) → height (e.Alive x) ≡ 1
height_alive x = ap height (sym (e.rolls-Alive x)) ∙ fold-roll-Expression ℕ expression_step (Expression-F.Alive x)

pub height_place_name : (x : List ℕ) → height (e.Place (place.Name x)) ≡ 1
height_place_name x = ap height (sym (e.rolls-Place (place.Name x))) ∙ fold-roll-Expression ℕ expression_step (Expression-F.Place (place.Name x))

pub height_place_field : (x p : List ℕ) → height (e.Place (place.Field x p)) ≡ 2
height_place_field x p = ap height (sym (e.rolls-Place (place.Field x p))) ∙ fold-roll-Expression ℕ expression_step (Expression-F.Place (place.Field x p))

pub height_place_entry : (x : List ℕ) (keys : List Expression) (p : List ℕ) → height (e.Place (place.Entry x keys p)) ≡ highest (map height keys) + 1
height_place_entry x keys p = ap height (sym (e.rolls-Place (place.Entry x keys p))) ∙ fold-roll-Expression ℕ expression_step (Expression-F.Place (place.Entry x keys p))

pub height_minus : (a : Expression) → height (e.Minus a) ≡ height a + 1
height_minus a = ap height (sym (e.rolls-Minus a)) ∙ fold-roll-Expression ℕ expression_step (Expression-F.Minus a)

pub height_not : (a : Expression) → height (e.Not a) ≡ height a + 1
height_not a = ap height (sym (e.rolls-Not a)) ∙ fold-roll-Expression ℕ expression_step (Expression-F.Not a)

pub height_binary : (op : Operator) (a b : Expression) → height (e.Binary op a b) ≡ max (height a) (height b) + 1
height_binary op a b = ap height (sym (e.rolls-Binary op a b)) ∙ fold-roll-Expression ℕ expression_step (Expression-F.Binary op a b)

pub height_define : (x : List ℕ) (a : Expression) → statement_height (s.Define x a) ≡ height a + 1
height_define x a = ap statement_height (sym (s.rolls-Define x a)) ∙ fold-roll-Statement ℕ statement_step (Statement-F.Define x a)

pub height_create : (x n : List ℕ) (keys : List Expression) → statement_height (s.Create x n keys) ≡ highest (map height keys) + 1
height_create x n keys = ap statement_height (sym (s.rolls-Create x n keys)) ∙ fold-roll-Statement ℕ statement_step (Statement-F.Create x n keys)

pub height_assign : (x : List ℕ) (a : Expression) → statement_height (s.Assign x a) ≡ height a + 1
height_assign x a = ap statement_height (sym (s.rolls-Assign x a)) ∙ fold-roll-Statement ℕ statement_step (Statement-F.Assign x a)

pub height_update : (p : Place Expression) (op : Operation) (a : Expression) → statement_height (s.Update p op a) ≡ max (height (e.Place p)) (height a) + 1
height_update p op a = ap statement_height (sym (s.rolls-Update p op a)) ∙ fold-roll-Statement ℕ statement_step (Statement-F.Update p op a)

pub height_delete : (x : List ℕ) → statement_height (s.Delete x) ≡ 1
height_delete x = ap statement_height (sym (s.rolls-Delete x)) ∙ fold-roll-Statement ℕ statement_step (Statement-F.Delete x)

pub height_if : (a : Expression) (first : List Statement) → statement_height (s.If a first None) ≡ max (height a) (max (body_height first) 0) + 1
height_if a first = ap statement_height (sym (s.rolls-If a first None)) ∙ fold-roll-Statement ℕ statement_step (Statement-F.If a first None)

pub height_if_else : (a : Expression) (first second : List Statement) → statement_height (s.If a first (Some second)) ≡ max (height a) (max (body_height first) (body_height second)) + 1
height_if_else a first second = ap statement_height (sym (s.rolls-If a first (Some second))) ∙ fold-roll-Statement ℕ statement_step (Statement-F.If a first (Some second))

pub height_while : (a : Expression) (body : List Statement) → statement_height (s.While a body) ≡ max (height a) (body_height body) + 1
height_while a body = ap statement_height (sym (s.rolls-While a body)) ∙ fold-roll-Statement ℕ statement_step (Statement-F.While a body)

pub height_for_all : (x n : List ℕ) (body : List Statement) → statement_height (s.ForAll x n body) ≡ body_height body + 1
height_for_all x n body = ap statement_height (sym (s.rolls-ForAll x n body)) ∙ fold-roll-Statement ℕ statement_step (Statement-F.ForAll x n body)

pub height_for_entries : (xs : List (List ℕ)) (n p : List ℕ) (body : List Statement) → statement_height (s.ForEntries xs n p body) ≡ body_height body + 1
height_for_entries xs n p body = ap statement_height (sym (s.rolls-ForEntries xs n p body)) ∙ fold-roll-Statement ℕ statement_step (Statement-F.ForEntries xs n p body)

pub height_print : (a : Expression) → statement_height (s.Print a) ≡ height a + 1
height_print a = ap statement_height (sym (s.rolls-Print a)) ∙ fold-roll-Statement ℕ statement_step (Statement-F.Print a)

pub height_yield : statement_height s.Yield ≡ 1
height_yield = ap statement_height (sym s.rolls-Yield) ∙ fold-roll-Statement ℕ statement_step Statement-F.Yield

pub height_flush : statement_height s.Flush ≡ 1
height_flush = ap statement_height (sym s.rolls-Flush) ∙ fold-roll-Statement ℕ statement_step Statement-F.Flush

pub words_number : (n : ℕ) → words (e.Number n) ≡ Number n ∷ []
words_number n = ap words (sym (e.rolls-Number n)) ∙ fold-roll-Expression (List Token) expression_words (Expression-F.Number n)

pub words_text : (bytes : List ℕ) → words (e.Text bytes) ≡ Text bytes ∷ []
words_text bytes = ap words (sym (e.rolls-Text bytes)) ∙ fold-roll-Expression (List Token) expression_words (Expression-F.Text bytes)

pub words_truth : (b : Bool) → words (e.Truth b) ≡ []
words_truth b = ap words (sym (e.rolls-Truth b)) ∙ fold-roll-Expression (List Token) expression_words (Expression-F.Truth b)

pub words_alive : (x : List ℕ) → words (e.Alive x) ≡ Name x ∷ []
words_alive x = ap words (sym (e.rolls-Alive x)) ∙ fold-roll-Expression (List Token) expression_words (Expression-F.Alive x)

pub words_place_name : (x : List ℕ) → words (e.Place (place.Name x)) ≡ Name x ∷ []
words_place_name x = ap words (sym (e.rolls-Place (place.Name x))) ∙ fold-roll-Expression (List Token) expression_words (Expression-F.Place (place.Name x))

pub words_place_field : (x p : List ℕ) → words (e.Place (place.Field x p)) ≡ Name x ∷ Name p ∷ []
words_place_field x p = ap words (sym (e.rolls-Place (place.Field x p))) ∙ fold-roll-Expression (List Token) expression_words (Expression-F.Place (place.Field x p))

pub words_place_entry : (x : List ℕ) (keys : List Expression) (p : List ℕ) → words (e.Place (place.Entry x keys p)) ≡ Name x ∷ (joined (map words keys) ++ Name p ∷ [])
words_place_entry x keys p = ap words (sym (e.rolls-Place (place.Entry x keys p))) ∙ fold-roll-Expression (List Token) expression_words (Expression-F.Place (place.Entry x keys p))

pub words_minus : (a : Expression) → words (e.Minus a) ≡ words a
words_minus a = ap words (sym (e.rolls-Minus a)) ∙ fold-roll-Expression (List Token) expression_words (Expression-F.Minus a)

pub words_not : (a : Expression) → words (e.Not a) ≡ words a
words_not a = ap words (sym (e.rolls-Not a)) ∙ fold-roll-Expression (List Token) expression_words (Expression-F.Not a)

pub words_binary : (op : Operator) (a b : Expression) → words (e.Binary op a b) ≡ words a ++ words b
words_binary op a b = ap words (sym (e.rolls-Binary op a b)) ∙ fold-roll-Expression (List Token) expression_words (Expression-F.Binary op a b)

pub words_define : (x : List ℕ) (a : Expression) → statement_words (s.Define x a) ≡ Name x ∷ words a
words_define x a = ap statement_words (sym (s.rolls-Define x a)) ∙ fold-roll-Statement (List Token) statement_words_step (Statement-F.Define x a)

pub words_create : (x n : List ℕ) (keys : List Expression) → statement_words (s.Create x n keys) ≡ Name x ∷ Name n ∷ joined (map words keys)
words_create x n keys = ap statement_words (sym (s.rolls-Create x n keys)) ∙ fold-roll-Statement (List Token) statement_words_step (Statement-F.Create x n keys)

pub words_assign : (x : List ℕ) (a : Expression) → statement_words (s.Assign x a) ≡ Name x ∷ words a
words_assign x a = ap statement_words (sym (s.rolls-Assign x a)) ∙ fold-roll-Statement (List Token) statement_words_step (Statement-F.Assign x a)

pub words_update : (p : Place Expression) (op : Operation) (a : Expression) → statement_words (s.Update p op a) ≡ words (e.Place p) ++ words a
words_update p op a = ap statement_words (sym (s.rolls-Update p op a)) ∙ fold-roll-Statement (List Token) statement_words_step (Statement-F.Update p op a)

pub words_delete : (x : List ℕ) → statement_words (s.Delete x) ≡ Name x ∷ []
words_delete x = ap statement_words (sym (s.rolls-Delete x)) ∙ fold-roll-Statement (List Token) statement_words_step (Statement-F.Delete x)

pub words_if : (a : Expression) (first : List Statement) → statement_words (s.If a first None) ≡ words a ++ (body_words first ++ [])
words_if a first = ap statement_words (sym (s.rolls-If a first None)) ∙ fold-roll-Statement (List Token) statement_words_step (Statement-F.If a first None)

pub words_if_else : (a : Expression) (first second : List Statement) → statement_words (s.If a first (Some second)) ≡ words a ++ (body_words first ++ body_words second)
words_if_else a first second = ap statement_words (sym (s.rolls-If a first (Some second))) ∙ fold-roll-Statement (List Token) statement_words_step (Statement-F.If a first (Some second))

pub words_while : (a : Expression) (body : List Statement) → statement_words (s.While a body) ≡ words a ++ body_words body
words_while a body = ap statement_words (sym (s.rolls-While a body)) ∙ fold-roll-Statement (List Token) statement_words_step (Statement-F.While a body)

pub words_for_all : (x n : List ℕ) (body : List Statement) → statement_words (s.ForAll x n body) ≡ Name x ∷ Name n ∷ body_words body
words_for_all x n body = ap statement_words (sym (s.rolls-ForAll x n body)) ∙ fold-roll-Statement (List Token) statement_words_step (Statement-F.ForAll x n body)

pub words_for_entries : (xs : List (List ℕ)) (n p : List ℕ) (body : List Statement) → statement_words (s.ForEntries xs n p body) ≡ names xs ++ (Name n ∷ Name p ∷ body_words body)
words_for_entries xs n p body = ap statement_words (sym (s.rolls-ForEntries xs n p body)) ∙ fold-roll-Statement (List Token) statement_words_step (Statement-F.ForEntries xs n p body)

pub words_print : (a : Expression) → statement_words (s.Print a) ≡ words a
words_print a = ap statement_words (sym (s.rolls-Print a)) ∙ fold-roll-Statement (List Token) statement_words_step (Statement-F.Print a)

pub words_yield : statement_words s.Yield ≡ []
words_yield = ap statement_words (sym s.rolls-Yield) ∙ fold-roll-Statement (List Token) statement_words_step Statement-F.Yield

pub words_flush : statement_words s.Flush ≡ []
words_flush = ap statement_words (sym s.rolls-Flush) ∙ fold-roll-Statement (List Token) statement_words_step Statement-F.Flush

-- 1 + 2 + 3 leans to the left
pub example_height : height (e.Binary o.Plus (e.Binary o.Plus (e.Number 1) (e.Number 2)) (e.Number 3)) ≡ 3
example_height = height_binary o.Plus (e.Binary o.Plus (e.Number 1) (e.Number 2)) (e.Number 3)
    ∙ ap (λ n. max n (height (e.Number 3)) + 1) (height_binary o.Plus (e.Number 1) (e.Number 2) ∙ ap (λ n. max n (height (e.Number 2)) + 1) (height_number 1) ∙ ap (λ n. max 1 n + 1) (height_number 2))
    ∙ ap (λ n. max 2 n + 1) (height_number 3)

-- if true { yield; }
pub example_statement_height : statement_height (s.If (e.Truth true) (s.Yield ∷ []) None) ≡ 2
example_statement_height = height_if (e.Truth true) (s.Yield ∷ [])
    ∙ ap (λ n. max n (max (body_height (s.Yield ∷ [])) 0) + 1) (height_truth true)
    ∙ ap (λ n. max 1 (max (max n 0) 0) + 1) height_yield

-- var x = new E;
pub example_create_height : statement_height (s.Create (codes "x") (codes "E") []) ≡ 1
example_create_height = height_create (codes "x") (codes "E") []

-- x = -2;
pub example_words : statement_words (s.Assign (codes "x") (e.Minus (e.Number 2))) ≡ Name (codes "x") ∷ Number 2 ∷ []
example_words = words_assign (codes "x") (e.Minus (e.Number 2)) ∙ ap (λ ts. Name (codes "x") ∷ ts) (words_minus (e.Number 2) ∙ words_number 2)
