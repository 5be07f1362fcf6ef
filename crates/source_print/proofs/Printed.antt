-- The tokens of a printed expression spell it.
use Rattle.std.proofs.Common.{◌≡◌, ℕ, ◌+◌, ◌≤◌, true, false, List, [], ◌∷◌, ◌++◌, map, refl, ap, sym, ◌∙◌, subst, append_assoc, arith}
use Rattle.std.specs.Prelude.{max, codes, decimal}
use Rattle.std.specs.List.{AllByRecursion}
use Rattle.source_tokens.specs.Lexemes.{word_token}
use Rattle.source_tokens.specs.Scans.{IsToken}
use Rattle.source_tokens.specs.Terminals.{reserved, words, IsIdentifier}
use Rattle.source_tokens.specs.declared.terminal.Terminal.{Terminal}
use Rattle.source_tokens.specs.declared.terminal.Terminal.TheVariants as t
use Rattle.source_tokens.specs.declared.token.Token.{Token}
use Rattle.source_tokens.specs.declared.token.Token.TheVariants.{Name, Number, Text, Fixed}
use Rattle.source_tokens.proofs.Lexing.{Lexes, Ends, lexes_name, lexes_number, lexes_text, lexes_word}
use Rattle.source_tree.specs.Expressions as x
use Rattle.source_tree.specs.Expressions.{Operates, Spells, SpellsPlace, SpellsKeys, choice_conjunction, choice_or, conjunction_negation, conjunction_and, negation_comparison, negation_not, comparison_sum, comparison_two, sum_term, sum_two, term_factor, term_two, factor_minus, factor_number, factor_text, factor_true, factor_false, factor_alive, factor_place, factor_brackets, place_name, place_field, place_entry, last_key, more_keys}
use Rattle.source_tree.specs.Forms.{height_place_entry, height_minus, height_not, height_binary}
use Rattle.source_tree.specs.Heights.{highest, height}
use Rattle.source_tree.specs.declared.expression.Expression.{Expression}
use Rattle.source_tree.specs.declared.expression.Expression.TheVariants as e
use Rattle.source_tree.specs.declared.expression.Operator.{Operator}
use Rattle.source_tree.specs.declared.expression.Operator.TheVariants as o
use Rattle.source_tree.specs.declared.expression.Level.{Level}
use Rattle.source_tree.specs.declared.expression.Level.TheVariants as l
use Rattle.source_tree.specs.declared.expression.Place.{Place}
use Rattle.source_tree.specs.declared.expression.Place.TheVariants as place
use Rattle.source_print.specs.Expressions.{Printed, alone, operation, operand, operand_text, operator_text, quoted, following, printed, expression_text, keys_text}
use Rattle.source_print.proofs.Forms.{printed_number, printed_text, printed_truth, printed_alive, printed_name, printed_field, printed_entry, printed_minus, printed_not, printed_binary}
use Rattle.source_print.proofs.Nesting.{IsPlain, Nests, Closes, raised, raised_closes, plainly, word, joined, closing, opened, ended, shut, enclosed, shut_bracket, shut_parenthesis}
use Rattle.source_print.proofs.Pieces as piece

pub parts : {A : Type 0} (P : A → Type 0) (xs ys : List A) → AllByRecursion P (xs ++ ys) → AllByRecursion P xs × AllByRecursion P ys
parts P [] ys h = (tt, h)
parts P (x ∷ xs) ys h = let more = parts P xs ys h.1 in ((h.0, more.0), more.1)

pub by_same : (bytes same : List ℕ) (ts us : List Token) → Lexes bytes ts → same ≡ bytes → us ≡ ts → Lexes same us
by_same bytes same ts us h e f = subst (λ b. Lexes b us) (sym e) (subst (Lexes bytes) (sym f) h)

-- the text is read as tokens that spell the expression, in which brackets nest at most so deep
pub record Renders (level : Level) (k : ℕ) (a : Expression) (text : List ℕ) : Type 0 where
  pub tokens : List Token
  pub spelled : Spells level a tokens
  pub nests : Nests k tokens
  pub lexes : (rest : List ℕ) (ts : List Token) → Ends rest → Lexes rest ts → Lexes (text ++ rest) (tokens ++ ts)

-- so are its text, and its text as an operand
pub record Prints (a : Expression) : Type 0 where
  pub whole : Renders l.Choice (height a) a (expression_text a)
  pub part : Renders l.Factor (height a + 1) a (operand_text a)

to_term : (a : Expression) (u : List Token) → Spells l.Factor a u → Spells l.Term a u
to_term a u h = term_factor a u h

to_sum : (a : Expression) (u : List Token) → Spells l.Factor a u → Spells l.Sum a u
to_sum a u h = sum_term a u (to_term a u h)

to_comparison : (a : Expression) (u : List Token) → Spells l.Factor a u → Spells l.Comparison a u
to_comparison a u h = comparison_sum a u (to_sum a u h)

to_negation : (a : Expression) (u : List Token) → Spells l.Factor a u → Spells l.Negation a u
to_negation a u h = negation_comparison a u (to_comparison a u h)

to_conjunction : (a : Expression) (u : List Token) → Spells l.Factor a u → Spells l.Conjunction a u
to_conjunction a u h = conjunction_negation a u (to_negation a u h)

to_choice : (a : Expression) (u : List Token) → Spells l.Factor a u → Spells l.Choice a u
to_choice a u h = choice_conjunction a u (to_conjunction a u h)

loosened : (k : ℕ) (a : Expression) (text : List ℕ) → Renders l.Factor k a text → Renders l.Choice k a text
loosened k a text r = record { tokens = r.tokens; spelled = to_choice a r.tokens r.spelled; nests = r.nests; lexes = r.lexes }

one_deeper : (k : ℕ) (a : Expression) (text : List ℕ) → Renders l.Factor k a text → Renders l.Factor (k + 1) a text
one_deeper k a text r = record { tokens = r.tokens; spelled = r.spelled; nests = raised k (k + 1) r.tokens (omega arith) r.nests; lexes = r.lexes }

in_parentheses : (k : ℕ) (a : Expression) (text : List ℕ) → Renders l.Choice k a text → Renders l.Factor (k + 1) a (codes "(" ++ text ++ codes ")")
in_parentheses k a text r = record {
  tokens = Fixed t.OpenParen ∷ (r.tokens ++ Fixed t.CloseParen ∷ []);
  spelled = factor_brackets a r.tokens r.spelled;
  nests = enclosed k (Fixed t.OpenParen) r.tokens (Fixed t.CloseParen) (λ n. refl) shut_parenthesis r.nests;
  lexes = λ rest ts e h.
      by_same _ _ _ _
      (piece.lexes_open (text ++ (codes ")" ++ rest)) (r.tokens ++ Fixed t.CloseParen ∷ ts) (r.lexes (codes ")" ++ rest) (Fixed t.CloseParen ∷ ts) refl (piece.lexes_close rest ts h)))
      (simp append_assoc) (simp append_assoc);
}

alone_prints : (a : Expression) (text : List ℕ) → printed a ≡ alone text → Renders l.Factor (height a) a text → Prints a
alone_prints a text is r = record {
  whole = subst (Renders l.Choice (height a) a) (sym (ap (λ (p : Printed). p.text) is)) (loosened (height a) a text r);
  part = subst (Renders l.Factor (height a + 1) a) (sym (ap operand is)) (one_deeper (height a) a text r);
}

operation_prints : (a : Expression) (text : List ℕ) → printed a ≡ operation text → Renders l.Choice (height a) a text → Prints a
operation_prints a text is r = record {
  whole = subst (Renders l.Choice (height a) a) (sym (ap (λ (p : Printed). p.text) is)) r;
  part = subst (Renders l.Factor (height a + 1) a) (sym (ap operand is)) (in_parentheses (height a) a text r);
}

-- how an operator is read between two operands
record Between (op : Operator) (w : Terminal) : Type 0 where
  plain : IsPlain (Fixed w)
  ends : (rest : List ℕ) → Ends (operator_text op ++ rest)
  lexes : (rest : List ℕ) (ts : List Token) → Lexes rest ts → Lexes (operator_text op ++ rest) (Fixed w ∷ ts)

-- operands with a token between them
between_nests : (op : Operator) (a b : Expression) (w : Token) (u v : List Token) → IsPlain w → Nests (height a + 1) u → Nests (height b + 1) v → Nests (height (e.Binary op a b)) (u ++ w ∷ v)
between_nests op a b w u v plain h i =
    let first : height a + 1 ≤ height (e.Binary op a b) = omega (arith, height_binary op a b) in
    let second : height b + 1 ≤ height (e.Binary op a b) = omega (arith, height_binary op a b) in
    joined _ u (w ∷ v) (raised _ _ u first h) (plainly _ w v plain (raised _ _ v second i))

binary_prints : (op : Operator) (w : Terminal) (a b : Expression) → Between op w
    → ((u v : List Token) → Spells l.Factor a u → Spells l.Factor b v → Spells l.Choice (e.Binary op a b) (u ++ Fixed w ∷ v)) → Prints a → Prints b → Prints (e.Binary op a b)
binary_prints op w a b between spells p q = operation_prints (e.Binary op a b) (operand_text a ++ operator_text op ++ operand_text b) (printed_binary op a b) (record {
  tokens = p.part.tokens ++ Fixed w ∷ q.part.tokens;
  spelled = spells p.part.tokens q.part.tokens p.part.spelled q.part.spelled;
  nests = between_nests op a b (Fixed w) p.part.tokens q.part.tokens between.plain p.part.nests q.part.nests;
  lexes = λ rest ts e h.
      by_same _ _ _ _
      (p.part.lexes (operator_text op ++ (operand_text b ++ rest)) (Fixed w ∷ (q.part.tokens ++ ts)) (between.ends (operand_text b ++ rest)) (between.lexes (operand_text b ++ rest) (q.part.tokens ++ ts) (q.part.lexes rest ts e h)))
      (append_assoc (operand_text a ++ operator_text op) (operand_text b) rest ∙ append_assoc (operand_text a) (operator_text op) (operand_text b ++ rest))
      (append_assoc p.part.tokens (Fixed w ∷ q.part.tokens) ts);
})

between_compared : (w : Terminal) (op : Operator) → Operates l.Comparison w op → Between op w
between_compared _ _ x.equal = record { plain = λ n. refl; ends = λ rest. refl; lexes = piece.lexes_equal }
between_compared _ _ x.not_equal = record { plain = λ n. refl; ends = λ rest. refl; lexes = piece.lexes_not_equal }
between_compared _ _ x.less = record { plain = λ n. refl; ends = λ rest. refl; lexes = piece.lexes_less }
between_compared _ _ x.less_or_equal = record { plain = λ n. refl; ends = λ rest. refl; lexes = piece.lexes_less_or_equal }
between_compared _ _ x.greater = record { plain = λ n. refl; ends = λ rest. refl; lexes = piece.lexes_greater }
between_compared _ _ x.greater_or_equal = record { plain = λ n. refl; ends = λ rest. refl; lexes = piece.lexes_greater_or_equal }

between_added : (w : Terminal) (op : Operator) → Operates l.Sum w op → Between op w
between_added _ _ x.plus = record { plain = λ n. refl; ends = λ rest. refl; lexes = piece.lexes_plus }
between_added _ _ x.minus = record { plain = λ n. refl; ends = λ rest. refl; lexes = piece.lexes_minus }
between_added _ _ x.concat = record { plain = λ n. refl; ends = λ rest. refl; lexes = piece.lexes_concat }

between_multiplied : (w : Terminal) (op : Operator) → Operates l.Term w op → Between op w
between_multiplied _ _ x.times = record { plain = λ n. refl; ends = λ rest. refl; lexes = piece.lexes_times }
between_multiplied _ _ x.divide = record { plain = λ n. refl; ends = λ rest. refl; lexes = piece.lexes_divide }
between_multiplied _ _ x.remainder = record { plain = λ n. refl; ends = λ rest. refl; lexes = piece.lexes_remainder }

prefixed : (a b : Expression) (w : Terminal) (text : List ℕ) → ((rest : List ℕ) (ts : List Token) → Lexes rest ts → Lexes (text ++ rest) (Fixed w ∷ ts))
    → ((u : List Token) → Spells l.Factor a u → Spells l.Choice b (Fixed w ∷ u)) → printed b ≡ operation (text ++ operand_text a) → IsPlain (Fixed w) → height b ≡ height a + 1 → Prints a → Prints b
prefixed a b w text lexes spells is plain high p = operation_prints b (text ++ operand_text a) is (record {
  tokens = Fixed w ∷ p.part.tokens;
  spelled = spells p.part.tokens p.part.spelled;
  nests = plainly _ (Fixed w) p.part.tokens plain (subst (λ k. Nests k p.part.tokens) (sym high) p.part.nests);
  lexes = λ rest ts e h. by_same _ _ _ _ (lexes (operand_text a ++ rest) (p.part.tokens ++ ts) (p.part.lexes rest ts e h)) (append_assoc text (operand_text a) rest) refl;
})

-- several keys up to the closing bracket
pub record KeysPrint (keys : List Expression) : Type 0 where
  pub tokens : List Token
  pub spelled : SpellsKeys keys tokens
  pub closes : Closes (highest (map height keys)) tokens
  pub lexes : (rest : List ℕ) (ts : List Token) → Lexes rest ts → Lexes (keys_text keys ++ rest) (tokens ++ ts)

following_keys : (keys : List Expression) (u : List Token) → SpellsKeys keys u → following (codes "]") (map expression_text keys) ≡ codes ", " ++ keys_text keys
following_keys _ _ (last_key a u h) = refl
following_keys _ _ (more_keys a bs u v h k) = refl

last_closes : (a : Expression) (u : List Token) → Nests (height a) u → Closes (highest (map height (a ∷ []))) (u ++ Fixed t.CloseBracket ∷ [])
last_closes a u h = shut (max (height a) 0) u (Fixed t.CloseBracket) shut_bracket (raised (height a) (max (height a) 0) u (omega arith) h)

more_closes : (a : Expression) (bs : List Expression) (u v : List Token) → Nests (height a) u → Closes (highest (map height bs)) v → Closes (highest (map height (a ∷ bs))) (u ++ Fixed t.Comma ∷ v)
more_closes a bs u v h i =
    let k = max (height a) (highest (map height bs)) in
    subst (Closes k) (append_assoc u (Fixed t.Comma ∷ []) v)
    (closing k (u ++ Fixed t.Comma ∷ []) v (ended k u (Fixed t.Comma) (λ n. refl) (raised (height a) k u (omega arith) h)) (raised_closes (highest (map height bs)) k v (omega arith) i))

last_prints : (a : Expression) → Prints a → KeysPrint (a ∷ [])
last_prints a p = record {
  tokens = p.whole.tokens ++ Fixed t.CloseBracket ∷ [];
  spelled = last_key a p.whole.tokens p.whole.spelled;
  closes = last_closes a p.whole.tokens p.whole.nests;
  lexes = λ rest ts h.
      by_same _ _ _ _ (p.whole.lexes (codes "]" ++ rest) (Fixed t.CloseBracket ∷ ts) refl (piece.lexes_close_bracket rest ts h))
      (append_assoc (expression_text a) (codes "]") rest) (append_assoc p.whole.tokens (Fixed t.CloseBracket ∷ []) ts);
}

more_print : (a : Expression) (bs : List Expression) → Prints a → KeysPrint bs → KeysPrint (a ∷ bs)
more_print a bs p q = record {
  tokens = p.whole.tokens ++ Fixed t.Comma ∷ q.tokens;
  spelled = more_keys a bs p.whole.tokens q.tokens p.whole.spelled q.spelled;
  closes = more_closes a bs p.whole.tokens q.tokens p.whole.nests q.closes;
  lexes = λ rest ts h.
      by_same _ _ _ _
      (p.whole.lexes (codes ", " ++ (keys_text bs ++ rest)) (Fixed t.Comma ∷ (q.tokens ++ ts)) refl (piece.lexes_comma (keys_text bs ++ rest) (q.tokens ++ ts) (q.lexes rest ts h)))
      (ap (λ b. (expression_text a ++ b) ++ rest) (following_keys bs q.tokens q.spelled) ∙ append_assoc (expression_text a) (codes ", " ++ keys_text bs) rest)
      (append_assoc p.whole.tokens (Fixed t.Comma ∷ q.tokens) ts);
}

from_comparison : (a : Expression) (u : List Token) → Spells l.Comparison a u → Spells l.Choice a u
from_comparison a u h = choice_conjunction a u (conjunction_negation a u (negation_comparison a u h))

true_word : word_token (codes "true") ≡ Fixed t.True
unfolding reserved words
true_word = refl

false_word : word_token (codes "false") ≡ Fixed t.False
unfolding reserved words
false_word = refl

-- the text of a place is read as tokens that spell it
pub record PlacePrints (p : Place Expression) : Type 0 where
  pub text : List ℕ
  pub is : printed (e.Place p) ≡ alone text
  pub tokens : List Token
  pub spelled : SpellsPlace p tokens
  pub nests : Nests (height (e.Place p)) tokens
  pub lexes : (rest : List ℕ) (ts : List Token) → Ends rest → Lexes rest ts → Lexes (text ++ rest) (tokens ++ ts)

of_place : (p : Place Expression) → PlacePrints p → Prints (e.Place p)
of_place p q = alone_prints (e.Place p) q.text q.is (record { tokens = q.tokens; spelled = factor_place p q.tokens q.spelled; nests = q.nests; lexes = q.lexes })

entry_nests : (y : List ℕ) (keys : List Expression) (p : List ℕ) (u : List Token) → Closes (highest (map height keys)) u → Nests (height (e.Place (place.Entry y keys p))) (Name y ∷ Fixed t.OpenBracket ∷ (u ++ Fixed t.Dot ∷ Name p ∷ []))
entry_nests y keys p u h =
    let k = highest (map height keys) + 1 in
    subst (λ m. Nests m (Name y ∷ Fixed t.OpenBracket ∷ (u ++ Fixed t.Dot ∷ Name p ∷ []))) (sym (height_place_entry y keys p))
    (plainly k (Name y) _ (λ n. refl) (joined k (Fixed t.OpenBracket ∷ u) (Fixed t.Dot ∷ Name p ∷ []) (opened _ (Fixed t.OpenBracket) u (λ n. refl) h) (plainly k (Fixed t.Dot) _ (λ n. refl) (word k (Name p) (λ n. refl)))))

entry_prints : (y : List ℕ) (keys : List Expression) (p : List ℕ) → IsIdentifier y → IsIdentifier p → KeysPrint keys → PlacePrints (place.Entry y keys p)
entry_prints y keys p first last q = record {
  text = y ++ codes "[" ++ keys_text keys ++ codes "." ++ p;
  is = printed_entry y keys p;
  tokens = Name y ∷ Fixed t.OpenBracket ∷ (q.tokens ++ Fixed t.Dot ∷ Name p ∷ []);
  spelled = place_entry y keys p q.tokens q.spelled;
  nests = entry_nests y keys p q.tokens q.closes;
  lexes = λ rest ts e h.
      by_same _ _ _ _
      (lexes_name y (codes "[" ++ (keys_text keys ++ (codes "." ++ (p ++ rest)))) (Fixed t.OpenBracket ∷ (q.tokens ++ Fixed t.Dot ∷ Name p ∷ ts)) first refl
      (piece.lexes_open_bracket (keys_text keys ++ (codes "." ++ (p ++ rest))) (q.tokens ++ Fixed t.Dot ∷ Name p ∷ ts)
      (q.lexes (codes "." ++ (p ++ rest)) (Fixed t.Dot ∷ Name p ∷ ts) (piece.lexes_dot (p ++ rest) (Name p ∷ ts) (lexes_name p rest ts last e h)))))
      (simp append_assoc) (simp append_assoc);
}

mutual
  pub expression_prints : (level : Level) (a : Expression) (u : List Token) → Spells level a u → AllByRecursion IsToken u → Prints a
  expression_prints _ _ _ (choice_conjunction a u h) all = expression_prints l.Conjunction a u h all
  expression_prints _ _ _ (choice_or a b u v h k) all =
      let both = parts IsToken u (Fixed t.Or ∷ v) all in
      binary_prints o.Or t.Or a b (record { plain = λ n. refl; ends = λ rest. refl; lexes = piece.lexes_or }) (λ u v h k. choice_or a b u v (to_choice a u h) (to_conjunction b v k)) (expression_prints l.Choice a u h both.0) (expression_prints l.Conjunction b v k both.1.1)
  expression_prints _ _ _ (conjunction_negation a u h) all = expression_prints l.Negation a u h all
  expression_prints _ _ _ (conjunction_and a b u v h k) all =
      let both = parts IsToken u (Fixed t.And ∷ v) all in
      binary_prints o.And t.And a b (record { plain = λ n. refl; ends = λ rest. refl; lexes = piece.lexes_and }) (λ u v h k. choice_conjunction (e.Binary o.And a b) (u ++ Fixed t.And ∷ v) (conjunction_and a b u v (to_conjunction a u h) (to_negation b v k)))
      (expression_prints l.Conjunction a u h both.0) (expression_prints l.Negation b v k both.1.1)
  expression_prints _ _ _ (negation_comparison a u h) all = expression_prints l.Comparison a u h all
  expression_prints _ _ _ (negation_not a u h) all =
      prefixed a (e.Not a) t.Not (codes "not ") piece.lexes_not (λ u h. choice_conjunction (e.Not a) (Fixed t.Not ∷ u) (conjunction_negation (e.Not a) (Fixed t.Not ∷ u) (negation_not a u (to_negation a u h)))) (printed_not a) (λ n. refl) (height_not a) (expression_prints l.Negation a u h all.1)
  expression_prints _ _ _ (comparison_sum a u h) all = expression_prints l.Sum a u h all
  expression_prints _ _ _ (comparison_two w op a b u v is h k) all =
      let both = parts IsToken u (Fixed w ∷ v) all in
      binary_prints op w a b (between_compared w op is) (λ u v h k. from_comparison (e.Binary op a b) (u ++ Fixed w ∷ v) (comparison_two w op a b u v is (to_sum a u h) (to_sum b v k))) (expression_prints l.Sum a u h both.0) (expression_prints l.Sum b v k both.1.1)
  expression_prints _ _ _ (sum_term a u h) all = expression_prints l.Term a u h all
  expression_prints _ _ _ (sum_two w op a b u v is h k) all =
      let both = parts IsToken u (Fixed w ∷ v) all in
      binary_prints op w a b (between_added w op is) (λ u v h k. from_comparison (e.Binary op a b) (u ++ Fixed w ∷ v) (comparison_sum (e.Binary op a b) (u ++ Fixed w ∷ v) (sum_two w op a b u v is (to_sum a u h) (to_term b v k))))
      (expression_prints l.Sum a u h both.0) (expression_prints l.Term b v k both.1.1)
  expression_prints _ _ _ (term_factor a u h) all = expression_prints l.Factor a u h all
  expression_prints _ _ _ (term_two w op a b u v is h k) all =
      let both = parts IsToken u (Fixed w ∷ v) all in
      binary_prints op w a b (between_multiplied w op is)
      (λ u v h k. from_comparison (e.Binary op a b) (u ++ Fixed w ∷ v) (comparison_sum (e.Binary op a b) (u ++ Fixed w ∷ v) (sum_term (e.Binary op a b) (u ++ Fixed w ∷ v) (term_two w op a b u v is (to_term a u h) k))))
      (expression_prints l.Term a u h both.0) (expression_prints l.Factor b v k both.1.1)
  expression_prints _ _ _ (factor_minus a u h) all =
      prefixed a (e.Minus a) t.Minus (codes "-") piece.lexes_negative (λ u h. to_choice (e.Minus a) (Fixed t.Minus ∷ u) (factor_minus a u h)) (printed_minus a) (λ n. refl) (height_minus a) (expression_prints l.Factor a u h all.1)
  expression_prints _ _ _ (factor_number n) all = alone_prints (e.Number n) (decimal n) (printed_number n) (record { tokens = Number n ∷ []; spelled = factor_number n; nests = word _ (Number n) (λ n. refl); lexes = λ rest ts e h. lexes_number n rest ts all.0 e h })
  expression_prints _ _ _ (factor_text bytes) all = alone_prints (e.Text bytes) (quoted bytes) (printed_text bytes) (record {
    tokens = Text bytes ∷ [];
    spelled = factor_text bytes;
    nests = word _ (Text bytes) (λ n. refl);
    lexes = λ rest ts e h. by_same _ _ _ _ (lexes_text bytes rest ts all.0 h) (simp append_assoc) refl;
  })
  expression_prints _ _ _ factor_true all = alone_prints (e.Truth true) (codes "true") (printed_truth true) (record { tokens = Fixed t.True ∷ []; spelled = factor_true; nests = word _ (Fixed t.True) (λ n. refl); lexes = λ rest ts e h. lexes_word (codes "true") rest (Fixed t.True) ts refl true_word e h })
  expression_prints _ _ _ factor_false all = alone_prints (e.Truth false) (codes "false") (printed_truth false) (record { tokens = Fixed t.False ∷ []; spelled = factor_false; nests = word _ (Fixed t.False) (λ n. refl); lexes = λ rest ts e h. lexes_word (codes "false") rest (Fixed t.False) ts refl false_word e h })
  expression_prints _ _ _ (factor_alive y) all = alone_prints (e.Alive y) (codes "alive " ++ y) (printed_alive y) (record {
    tokens = Fixed t.Alive ∷ Name y ∷ [];
    spelled = factor_alive y;
    nests = plainly _ (Fixed t.Alive) _ (λ n. refl) (word _ (Name y) (λ n. refl));
    lexes = λ rest ts e h. by_same _ _ _ _ (piece.lexes_alive (y ++ rest) (Name y ∷ ts) (lexes_name y rest ts all.1.0 e h)) (append_assoc (codes "alive ") y rest) refl;
  })
  expression_prints _ _ _ (factor_place p u h) all = of_place p (place_prints p u h all)
  expression_prints _ _ _ (factor_brackets a u h) all = expression_prints l.Choice a u h (parts IsToken u (Fixed t.CloseParen ∷ []) all.1).0

  pub place_prints : (p : Place Expression) (u : List Token) → SpellsPlace p u → AllByRecursion IsToken u → PlacePrints p
  place_prints _ _ (place_name y) all = record { text = y; is = printed_name y; tokens = Name y ∷ []; spelled = place_name y; nests = word _ (Name y) (λ n. refl); lexes = λ rest ts e h. lexes_name y rest ts all.0 e h }
  place_prints _ _ (place_field y p) all = record {
    text = y ++ codes "." ++ p;
    is = printed_field y p;
    tokens = Name y ∷ Fixed t.Dot ∷ Name p ∷ [];
    spelled = place_field y p;
    nests = plainly _ (Name y) _ (λ n. refl) (plainly _ (Fixed t.Dot) _ (λ n. refl) (word _ (Name p) (λ n. refl)));
    lexes = λ rest ts e h. by_same _ _ _ _ (lexes_name y (codes "." ++ (p ++ rest)) (Fixed t.Dot ∷ Name p ∷ ts) all.0 refl (piece.lexes_dot (p ++ rest) (Name p ∷ ts) (lexes_name p rest ts all.1.1.0 e h))) (simp append_assoc) refl;
  }
  place_prints _ _ (place_entry y keys p u h) all =
      let inner = parts IsToken u (Fixed t.Dot ∷ Name p ∷ []) all.1.1 in
      entry_prints y keys p all.0 inner.1.1.0 (keys_print keys u h inner.0)

  pub keys_print : (keys : List Expression) (u : List Token) → SpellsKeys keys u → AllByRecursion IsToken u → KeysPrint keys
  keys_print _ _ (last_key a u h) all = last_prints a (expression_prints l.Choice a u h (parts IsToken u (Fixed t.CloseBracket ∷ []) all).0)
  keys_print _ _ (more_keys a bs u v h k) all = let both = parts IsToken u (Fixed t.Comma ∷ v) all in more_print a bs (expression_prints l.Choice a u h both.0) (keys_print bs v k both.1.1)
