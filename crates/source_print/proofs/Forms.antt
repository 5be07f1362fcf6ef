-- What is printed for each form of expression and statement.
use Rattle.std.proofs.Common.{◌≡◌, refl, ap, sym, ◌∙◌, append_assoc, append-nil}
use Rattle.std.specs.Prelude.{ℕ, Bool, false, List, [], ◌∷◌, ◌++◌, map, Option, Some, None, codes, decimal}
use Rattle.std.proofs.lemmas.List.Folds.{flat_map-map}
use Rattle.source_tree.specs.declared.expression.Operator.{Operator}
use Rattle.source_tree.specs.declared.expression.Place.{Place}
use Rattle.source_tree.specs.declared.expression.Place.TheVariants as place
use Rattle.source_tree.specs.declared.expression.Expression.{Expression}
use Rattle.source_tree.specs.declared.expression.Expression.TheFolds.{fold-roll-Expression}
use Rattle.source_tree.specs.declared.expression.Expression.TheOpen.{Expression-F}
use Rattle.source_tree.specs.declared.expression.Expression.TheVariants as e
use Rattle.source_tree.specs.declared.statement.Operation.{Operation}
use Rattle.source_tree.specs.declared.statement.Statement.{Statement}
use Rattle.source_tree.specs.declared.statement.Statement.TheFolds.{fold-roll-Statement}
use Rattle.source_tree.specs.declared.statement.Statement.TheOpen.{Statement-F}
use Rattle.source_tree.specs.declared.statement.Statement.TheVariants as s
use Rattle.source_print.specs.Expressions.{Printed, alone, operation, operand_text, operator_text, quoted, truth_text, separated, texts, expression_step, printed, expression_text, keys_text}
use Rattle.source_print.specs.Statements.{place_text, operation_text, all_head, entries_head, new_keys_text, deeper, block, block_text, statement_step, statement_text}

pub printed_number : (n : ℕ) → printed (e.Number n) ≡ alone (decimal n)
unfolding printed
printed_number n = ap (λ x. printed x) (sym (e.rolls-Number n)) ∙ fold-roll-Expression Printed expression_step (Expression-F.Number n)

pub printed_text : (bytes : List ℕ) → printed (e.Text bytes) ≡ alone (quoted bytes)
unfolding printed
printed_text bytes = ap (λ x. printed x) (sym (e.rolls-Text bytes)) ∙ fold-roll-Expression Printed expression_step (Expression-F.Text bytes)

pub printed_truth : (b : Bool) → printed (e.Truth b) ≡ alone (truth_text b)
unfolding printed
printed_truth b = ap (λ x. printed x) (sym (e.rolls-Truth b)) ∙ fold-roll-Expression Printed expression_step (Expression-F.Truth b)

pub printed_alive : (x : List ℕ) → printed (e.Alive x) ≡ alone (codes "alive " ++ x)
unfolding printed
printed_alive x = ap (λ x. printed x) (sym (e.rolls-Alive x)) ∙ fold-roll-Expression Printed expression_step (Expression-F.Alive x)

pub printed_name : (x : List ℕ) → printed (e.Place (place.Name x)) ≡ alone x
unfolding printed
printed_name x = ap (λ x. printed x) (sym (e.rolls-Place (place.Name x))) ∙ fold-roll-Expression Printed expression_step (Expression-F.Place (place.Name x))

pub printed_field : (x p : List ℕ) → printed (e.Place (place.Field x p)) ≡ alone (x ++ codes "." ++ p)
unfolding printed
printed_field x p = ap (λ x. printed x) (sym (e.rolls-Place (place.Field x p))) ∙ fold-roll-Expression Printed expression_step (Expression-F.Place (place.Field x p))

texts_printed : (keys : List Expression) → texts (map printed keys) ≡ map expression_text keys
texts_printed [] = refl
texts_printed (key ∷ keys) = ap (λ xs. expression_text key ∷ xs) (texts_printed keys)

pub printed_entry : (x : List ℕ) (keys : List Expression) (p : List ℕ) → printed (e.Place (place.Entry x keys p)) ≡ alone (x ++ codes "[" ++ keys_text keys ++ codes "." ++ p)
unfolding printed
printed_entry x keys p = ap (λ x. printed x) (sym (e.rolls-Place (place.Entry x keys p))) ∙ fold-roll-Expression Printed expression_step (Expression-F.Place (place.Entry x keys p))
    ∙ ap (λ xs. alone (x ++ codes "[" ++ separated (codes "]") xs ++ codes "." ++ p)) (texts_printed keys)

pub printed_minus : (a : Expression) → printed (e.Minus a) ≡ operation (codes "-" ++ operand_text a)
unfolding printed
printed_minus a = ap (λ x. printed x) (sym (e.rolls-Minus a)) ∙ fold-roll-Expression Printed expression_step (Expression-F.Minus a)

pub printed_not : (a : Expression) → printed (e.Not a) ≡ operation (codes "not " ++ operand_text a)
unfolding printed
printed_not a = ap (λ x. printed x) (sym (e.rolls-Not a)) ∙ fold-roll-Expression Printed expression_step (Expression-F.Not a)

pub printed_binary : (op : Operator) (a b : Expression) → printed (e.Binary op a b) ≡ operation (operand_text a ++ operator_text op ++ operand_text b)
unfolding printed
printed_binary op a b = ap (λ x. printed x) (sym (e.rolls-Binary op a b)) ∙ fold-roll-Expression Printed expression_step (Expression-F.Binary op a b)

body_lines : (margin : List ℕ) (body : List Statement) → block margin (map statement_text body) ≡ block_text margin body
unfolding block_text
body_lines margin body = ap (λ lines. codes "{\n" ++ lines ++ margin ++ codes "}") (flat_map-map (λ (s : List ℕ → List ℕ). s (deeper margin)) statement_text body)

pub define_text : (x : List ℕ) (a : Expression) (margin : List ℕ) → statement_text (s.Define x a) margin ≡ margin ++ codes "var " ++ x ++ codes " = " ++ expression_text a ++ codes ";\n"
unfolding statement_text
define_text x a margin = ap (λ x. statement_text x margin) (sym (s.rolls-Define x a)) ∙ ap (λ (f : List ℕ → List ℕ). f margin) (fold-roll-Statement (List ℕ → List ℕ) statement_step (Statement-F.Define x a))

pub create_text : (x n : List ℕ) (keys : List Expression) (margin : List ℕ) → statement_text (s.Create x n keys) margin ≡ margin ++ codes "var " ++ x ++ codes " = new " ++ n ++ new_keys_text keys ++ codes ";\n"
unfolding statement_text
create_text x n keys margin = ap (λ x. statement_text x margin) (sym (s.rolls-Create x n keys)) ∙ ap (λ (f : List ℕ → List ℕ). f margin) (fold-roll-Statement (List ℕ → List ℕ) statement_step (Statement-F.Create x n keys))

pub assign_text : (x : List ℕ) (a : Expression) (margin : List ℕ) → statement_text (s.Assign x a) margin ≡ margin ++ x ++ codes " = " ++ expression_text a ++ codes ";\n"
unfolding statement_text
assign_text x a margin = ap (λ x. statement_text x margin) (sym (s.rolls-Assign x a)) ∙ ap (λ (f : List ℕ → List ℕ). f margin) (fold-roll-Statement (List ℕ → List ℕ) statement_step (Statement-F.Assign x a))

pub update_text : (p : Place Expression) (op : Operation) (a : Expression) (margin : List ℕ) → statement_text (s.Update p op a) margin ≡ margin ++ place_text p ++ operation_text op ++ expression_text a ++ codes ");\n"
unfolding statement_text
update_text p op a margin = ap (λ x. statement_text x margin) (sym (s.rolls-Update p op a)) ∙ ap (λ (f : List ℕ → List ℕ). f margin) (fold-roll-Statement (List ℕ → List ℕ) statement_step (Statement-F.Update p op a))

pub delete_text : (x : List ℕ) (margin : List ℕ) → statement_text (s.Delete x) margin ≡ margin ++ codes "delete " ++ x ++ codes ";\n"
unfolding statement_text
delete_text x margin = ap (λ x. statement_text x margin) (sym (s.rolls-Delete x)) ∙ ap (λ (f : List ℕ → List ℕ). f margin) (fold-roll-Statement (List ℕ → List ℕ) statement_step (Statement-F.Delete x))

pub if_text : (a : Expression) (first : List Statement) (margin : List ℕ)
    → statement_text (s.If a first None) margin ≡ margin ++ codes "if " ++ expression_text a ++ codes " " ++ block_text margin first ++ codes "\n"
unfolding statement_text
if_text a first margin = ap (λ x. statement_text x margin) (sym (s.rolls-If a first None))
    ∙ ap (λ (f : List ℕ → List ℕ). f margin) (fold-roll-Statement (List ℕ → List ℕ) statement_step (Statement-F.If a first None))
    ∙ ap (λ lines. margin ++ codes "if " ++ expression_text a ++ codes " " ++ lines ++ [] ++ codes "\n") (body_lines margin first)
    ∙ ap (λ lines. lines ++ codes "\n") (append-nil (margin ++ codes "if " ++ expression_text a ++ codes " " ++ block_text margin first))

pub if_else_text : (a : Expression) (first second : List Statement) (margin : List ℕ)
    → statement_text (s.If a first (Some second)) margin ≡ margin ++ codes "if " ++ expression_text a ++ codes " " ++ block_text margin first ++ (codes " else " ++ block_text margin second) ++ codes "\n"
unfolding statement_text
if_else_text a first second margin = ap (λ x. statement_text x margin) (sym (s.rolls-If a first (Some second)))
    ∙ ap (λ (f : List ℕ → List ℕ). f margin) (fold-roll-Statement (List ℕ → List ℕ) statement_step (Statement-F.If a first (Some second)))
    ∙ ap (λ lines. margin ++ codes "if " ++ expression_text a ++ codes " " ++ lines ++ (codes " else " ++ block margin (map statement_text second)) ++ codes "\n") (body_lines margin first)
    ∙ ap (λ lines. margin ++ codes "if " ++ expression_text a ++ codes " " ++ block_text margin first ++ (codes " else " ++ lines) ++ codes "\n") (body_lines margin second)

pub while_text : (a : Expression) (body : List Statement) (margin : List ℕ) → statement_text (s.While a body) margin ≡ margin ++ codes "while " ++ expression_text a ++ codes " " ++ block_text margin body ++ codes "\n"
unfolding statement_text
while_text a body margin = ap (λ x. statement_text x margin) (sym (s.rolls-While a body)) ∙ ap (λ (f : List ℕ → List ℕ). f margin) (fold-roll-Statement (List ℕ → List ℕ) statement_step (Statement-F.While a body))
    ∙ ap (λ lines. margin ++ codes "while " ++ expression_text a ++ codes " " ++ lines ++ codes "\n") (body_lines margin body)

pub for_all_text : (x n : List ℕ) (body : List Statement) (margin : List ℕ) → statement_text (s.ForAll x n body) margin ≡ margin ++ all_head x n ++ block_text margin body ++ codes "\n"
unfolding statement_text
for_all_text x n body margin = ap (λ x. statement_text x margin) (sym (s.rolls-ForAll x n body)) ∙ ap (λ (f : List ℕ → List ℕ). f margin) (fold-roll-Statement (List ℕ → List ℕ) statement_step (Statement-F.ForAll x n body))
    ∙ ap (λ lines. margin ++ all_head x n ++ lines ++ codes "\n") (body_lines margin body)

pub for_entries_text : (xs : List (List ℕ)) (n p : List ℕ) (body : List Statement) (margin : List ℕ) → statement_text (s.ForEntries xs n p body) margin ≡ margin ++ entries_head xs n p ++ block_text margin body ++ codes "\n"
unfolding statement_text
for_entries_text xs n p body margin = ap (λ x. statement_text x margin) (sym (s.rolls-ForEntries xs n p body)) ∙ ap (λ (f : List ℕ → List ℕ). f margin) (fold-roll-Statement (List ℕ → List ℕ) statement_step (Statement-F.ForEntries xs n p body))
    ∙ ap (λ lines. margin ++ entries_head xs n p ++ lines ++ codes "\n") (body_lines margin body)

pub print_text : (a : Expression) (margin : List ℕ) → statement_text (s.Print a) margin ≡ margin ++ codes "print " ++ expression_text a ++ codes ";\n"
unfolding statement_text
print_text a margin = ap (λ x. statement_text x margin) (sym (s.rolls-Print a)) ∙ ap (λ (f : List ℕ → List ℕ). f margin) (fold-roll-Statement (List ℕ → List ℕ) statement_step (Statement-F.Print a))

pub yield_text : (margin : List ℕ) → statement_text (s.Yield) margin ≡ margin ++ codes "yield;\n"
unfolding statement_text
yield_text margin = ap (λ x. statement_text x margin) (sym (s.rolls-Yield)) ∙ ap (λ (f : List ℕ → List ℕ). f margin) (fold-roll-Statement (List ℕ → List ℕ) statement_step (Statement-F.Yield))

pub flush_text : (margin : List ℕ) → statement_text (s.Flush) margin ≡ margin ++ codes "flush;\n"
unfolding statement_text
flush_text margin = ap (λ x. statement_text x margin) (sym (s.rolls-Flush)) ∙ ap (λ (f : List ℕ → List ℕ). f margin) (fold-roll-Statement (List ℕ → List ℕ) statement_step (Statement-F.Flush))

-- a place is no operator
pub place_alone : (p : Place Expression) → (printed (e.Place p)).operator ≡ false
place_alone (place.Name x) = ap (λ (r : Printed). r.operator) (printed_name x)
place_alone (place.Field x p) = ap (λ (r : Printed). r.operator) (printed_field x p)
place_alone (place.Entry x keys p) = ap (λ (r : Printed). r.operator) (printed_entry x keys p)

-- an `if` in the pieces that are written
pub if_written : (st : Statement) (a : Expression) (first : List Statement) (second : Option (List Statement)) (out margin e1 e2 : List ℕ) → st ≡ s.If a first second → second ≡ None
    → e1 ≡ out ++ margin → e2 ≡ e1 ++ (codes "if " ++ expression_text a ++ codes " ") → e2 ++ (block_text margin first ++ codes "\n") ≡ out ++ statement_text st margin
if_written st a first second out margin e1 e2 is none h1 h2 =
    ap (λ x. x ++ (block_text margin first ++ codes "\n")) (h2 ∙ ap (λ y. y ++ (codes "if " ++ expression_text a ++ codes " ")) h1)
    ∙ alone_pieces out margin (codes "if ") (expression_text a) (codes " ") (block_text margin first) (codes "\n")
    ∙ ap (λ x. out ++ x) (sym (ap (λ x. statement_text x margin) (is ∙ ap (λ o. s.If a first o) none) ∙ if_text a first margin))
  where
    alone_pieces : (o m i a b f n : List ℕ) → o ++ m ++ (i ++ a ++ b) ++ (f ++ n) ≡ o ++ (m ++ i ++ a ++ b ++ f ++ n)
    alone_pieces o m i a b f n = simp (append_assoc)

pub if_else_written : (st : Statement) (a : Expression) (first : List Statement) (second : Option (List Statement)) (other : List Statement) (out margin e1 e2 e3 e4 : List ℕ) → st ≡ s.If a first second → second ≡ Some other
    → e1 ≡ out ++ margin → e2 ≡ e1 ++ (codes "if " ++ expression_text a ++ codes " ") → e3 ≡ e2 ++ block_text margin first → e4 ≡ e3 ++ codes " else "
    → e4 ++ (block_text margin other ++ codes "\n") ≡ out ++ statement_text st margin
if_else_written st a first second other out margin e1 e2 e3 e4 is some h1 h2 h3 h4 =
    ap (λ x. x ++ (block_text margin other ++ codes "\n")) (h4 ∙ ap (λ x. x ++ codes " else ") (h3 ∙ ap (λ x. x ++ block_text margin first) (h2 ∙ ap (λ y. y ++ (codes "if " ++ expression_text a ++ codes " ")) h1)))
    ∙ both_pieces out margin (codes "if ") (expression_text a) (codes " ") (block_text margin first) (codes " else ") (block_text margin other) (codes "\n")
    ∙ ap (λ x. out ++ x) (sym (ap (λ x. statement_text x margin) (is ∙ ap (λ o. s.If a first o) some) ∙ if_else_text a first other margin))
  where
    both_pieces : (o m i a b f e g n : List ℕ) → o ++ m ++ (i ++ a ++ b) ++ f ++ e ++ (g ++ n) ≡ o ++ (m ++ i ++ a ++ b ++ f ++ (e ++ g) ++ n)
    both_pieces o m i a b f e g n = simp (append_assoc)

-- a part in the pieces that are written
pub in_three : (out a b d e1 e2 : List ℕ) → e1 ≡ out ++ a → e2 ≡ e1 ++ b → e2 ++ d ≡ out ++ (a ++ b ++ d)
in_three out a b d e1 e2 ha hb =
    let glued : out ++ a ++ b ++ d ≡ out ++ (a ++ b ++ d) = simp (append_assoc) in
    ap (λ x. x ++ d) (hb ∙ ap (λ z. z ++ b) ha) ∙ glued

pub in_pieces : (out a b c d e1 e2 e3 : List ℕ) → e1 ≡ out ++ a → e2 ≡ e1 ++ b → e3 ≡ e2 ++ c → e3 ++ d ≡ out ++ (a ++ b ++ c ++ d)
in_pieces out a b c d e1 e2 e3 ha hb hc =
    let glued : out ++ a ++ b ++ c ++ d ≡ out ++ (a ++ b ++ c ++ d) = simp (append_assoc) in
    ap (λ x. x ++ d) (hc ∙ ap (λ y. y ++ c) (hb ∙ ap (λ z. z ++ b) ha)) ∙ glued

-- each form of expression
pub ruleset expressions = (printed_number, printed_text, printed_truth, printed_alive, printed_name, printed_field, printed_entry, printed_minus, printed_not, printed_binary)

-- each form of statement
pub ruleset statements = (define_text, create_text, assign_text, update_text, delete_text, if_text, if_else_text, while_text, for_all_text, for_entries_text, print_text, yield_text, flush_text)
