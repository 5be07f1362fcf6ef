-- Tokens that spell an expression are read as it.
use Rattle.std.proofs.Common.{◌≡◌, refl, sym, ◌∙◌, ap, subst, arith}
use Rattle.std.proofs.lemmas.List.{append_assoc}
use Rattle.std.specs.Prelude.{ℕ, zero, suc, ◌+◌, ◌-◌, ◌<◌, ◌≤◌, max, true, false, List, [], ◌∷◌, ◌++◌, length, map, Some, None}
use Rattle.source_tokens.specs.declared.terminal.Terminal.{Terminal}
use Rattle.source_tokens.specs.declared.terminal.Terminal.TheVariants as t
use Rattle.source_tokens.specs.declared.token.Token.{Token}
use Rattle.source_tokens.specs.declared.token.Token.TheVariants.{Name, Fixed}
use Rattle.source_tree.specs.declared.expression.Operator.{Operator}
use Rattle.source_tree.specs.declared.expression.Operator.TheVariants as o
use Rattle.source_tree.specs.declared.expression.Level.{Level}
use Rattle.source_tree.specs.declared.expression.Level.TheVariants as l
use Rattle.source_tree.specs.declared.expression.Place.{Place}
use Rattle.source_tree.specs.declared.expression.Place.TheVariants as place
use Rattle.source_tree.specs.declared.expression.Expression.{Expression}
use Rattle.source_tree.specs.declared.expression.Expression.TheVariants as e
use Rattle.source_tree.specs.Heights.{height, highest}
use Rattle.source_tree.specs.Forms.{height_number, height_text, height_truth, height_alive, height_place_name, height_place_field, height_place_entry, height_minus, height_not, height_binary}
use Rattle.source_tree.specs.Expressions.{Operates, or, and, Spells, SpellsPlace, SpellsKeys, choice_conjunction, choice_or, conjunction_negation, conjunction_and, negation_comparison, negation_not, comparison_sum, comparison_two, sum_term, sum_two, term_factor, term_two, factor_minus, factor_number, factor_text, factor_true, factor_false, factor_alive, factor_place, factor_brackets, place_name, place_field, place_entry, last_key, more_keys}
use Rattle.source_reader.specs.Reading.{Reader, ReadsHigh, ◌>>=◌, within, behind, name_at, keys_by, entry_by, place_by, minus_by, bracketed_by, factor_by, chain, turns, not_by, negation_by, comparison_by, level_by, level_at}
use Rattle.source_reader.proofs.Heights.{within_yes, within_no}
use Rattle.source_reader.proofs.Chains.{Goes, Chained, chained_first, chained_more, chained_last, turn, goes_nowhere}
use Rattle.source_reader.proofs.Parts.{behind_shorter, cased, raised_high, renamed}
use Rattle.source_reader.proofs.Steps.{level_inner}
use Rattle.source_reader.proofs.Stops.{tighter, EndsPlace, Ends, Stops, is_operator, operator_stops, paren_stops, bracket_stops, comma_stops}

-- what is read of the tokens of an expression
abbrev pub Again : Level → Expression → List Token → Type 0
Again level e u = (depth high : ℕ) (rest : List Token) → length (u ++ rest) ≤ depth → Stops level rest → level_by level (level_at depth) high (u ++ rest) ≡ within high e (height e) rest

-- and of a chain up to its last operand
abbrev ChainedAgain : Level → Expression → List Token → Type 0
ChainedAgain level e u = (depth high : ℕ) (rest : List Token) → length (u ++ rest) ≤ depth → Stops (tighter level) rest
    → Chained level (level_by (tighter level) (level_at depth)) high e (height e) (u ++ rest) rest

-- tokens that begin with no operator `not`
abbrev NoNot : Level → List Token → Type 0
NoNot l.Comparison u = (rest : List Token) → behind t.Not (u ++ rest) ≡ None
NoNot l.Sum u = (rest : List Token) → behind t.Not (u ++ rest) ≡ None
NoNot l.Term u = (rest : List Token) → behind t.Not (u ++ rest) ≡ None
NoNot l.Factor u = (rest : List Token) → behind t.Not (u ++ rest) ≡ None
NoNot level u = Unit {0}

longer : (u v : List Token) (w : Token) → ((rest : List Token) → behind t.Not (u ++ rest) ≡ None) → (rest : List Token) → behind t.Not ((u ++ w ∷ v) ++ rest) ≡ None
longer u v w none rest = ap (behind t.Not) (append_assoc u (w ∷ v) rest) ∙ none (w ∷ (v ++ rest))

no_not_place : (p : Place Expression) (u : List Token) → SpellsPlace p u → (rest : List Token) → behind t.Not (u ++ rest) ≡ None
unfolding behind
no_not_place p u (place_name x) rest = refl
no_not_place p u (place_field x q) rest = refl
no_not_place p u (place_entry x keys q v h) rest = refl

no_not : (level : Level) (a : Expression) (u : List Token) → Spells level a u → NoNot level u
unfolding behind
no_not level a u (choice_conjunction _ _ h) = tt
no_not level a u (choice_or _ _ _ _ h i) = tt
no_not level a u (conjunction_negation _ _ h) = tt
no_not level a u (conjunction_and _ _ _ _ h i) = tt
no_not level a u (negation_comparison _ _ h) = tt
no_not level a u (negation_not _ _ h) = tt
no_not level a u (comparison_sum b v h) = no_not l.Sum b v h
no_not level a u (comparison_two w op b c v x o h i) = longer v x (Fixed w) (no_not l.Sum b v h)
no_not level a u (sum_term b v h) = no_not l.Term b v h
no_not level a u (sum_two w op b c v x o h i) = longer v x (Fixed w) (no_not l.Sum b v h)
no_not level a u (term_factor b v h) = no_not l.Factor b v h
no_not level a u (term_two w op b c v x o h i) = longer v x (Fixed w) (no_not l.Term b v h)
no_not level a u (factor_minus _ _ h) = λ rest. refl
no_not level a u (factor_number n) = λ rest. refl
no_not level a u (factor_text n) = λ rest. refl
no_not level a u factor_true = λ rest. refl
no_not level a u factor_false = λ rest. refl
no_not level a u (factor_alive x) = λ rest. refl
no_not level a u (factor_place p v h) = no_not_place p v h
no_not level a u (factor_brackets _ _ h) = λ rest. refl

-- ---- chains

first_of : (level : Level) (a : Expression) (u : List Token) → ((ts : List Token) → turns level ts ≡ length ts) → Again (tighter level) a u → ChainedAgain level a u
first_of level a u long again depth high rest fits stops =
    chained_first level (level_by (tighter level) (level_at depth)) high a (height a) (u ++ rest) rest (long (u ++ rest)) (behind_shorter u rest) (again depth high rest fits stops)

-- the tokens of a left operand, an operator and a right one, in front of others
parted : (u v rest : List Token) (w : Token) (depth : ℕ) → length ((u ++ w ∷ v) ++ rest) ≤ depth → (length (u ++ (w ∷ (v ++ rest))) ≤ depth) × (length (v ++ rest) ≤ depth)
parted u v rest w depth fits =
    let all : length (u ++ (w ∷ (v ++ rest))) ≤ depth = subst (λ ts. length ts ≤ depth) (append_assoc u (w ∷ v) rest) fits in
    let right : length (w ∷ (v ++ rest)) ≤ length (u ++ (w ∷ (v ++ rest))) = behind_shorter u (w ∷ (v ++ rest)) in
    (all, omega arith)

more_of : (level : Level) (w : Terminal) (op : Operator) (a b : Expression) (u v : List Token) → Operates level w op → ChainedAgain level a u → Again (tighter level) b v
    → ChainedAgain level (e.Binary op a b) (u ++ Fixed w ∷ v)
more_of level w op a b u v operates chained again depth high rest fits stops =
    let operand : Reader = level_by (tighter level) (level_at depth) in
    let (all, right) = parted u v rest (Fixed w) depth fits in
    let more : Chained level operand high (e.Binary op a b) (max (height a) (height b) + 1) (u ++ (Fixed w ∷ (v ++ rest))) rest
    = chained_more level operand high a b (height a) (height b) w op (u ++ (Fixed w ∷ (v ++ rest))) (v ++ rest) rest (is_operator level w op operates) (behind_shorter v rest)
    (again depth (high - 1) rest right stops) (chained depth high (Fixed w ∷ (v ++ rest)) all (operator_stops level w op operates (v ++ rest))) in
    subst (λ ts. Chained level operand high (e.Binary op a b) (height (e.Binary op a b)) ts rest) (sym (append_assoc u (Fixed w ∷ v) rest))
    (subst (λ h. Chained level operand high (e.Binary op a b) h (u ++ (Fixed w ∷ (v ++ rest))) rest) (sym (height_binary op a b)) more)

whole : (level : Level) (a : Expression) (u : List Token) → ((inner : Level → Reader) → level_by level inner ≡ chain level (level_by (tighter level) inner))
    → ((rest : List Token) → Stops level rest → Ends level rest × Stops (tighter level) rest) → ChainedAgain level a u → Again level a u
whole level a u same split chained depth high rest fits stops =
    let (ends, inside) = split rest stops in
    ap (λ (r : Reader). r high (u ++ rest)) (same (level_at depth))
    ∙ chained_last level (level_by (tighter level) (level_at depth)) high a (height a) (u ++ rest) rest (chained depth high rest fits inside) ends

choice_whole : (a : Expression) (u : List Token) → ChainedAgain l.Choice a u → Again l.Choice a u
choice_whole a u = whole l.Choice a u (λ inner. refl) (λ rest stops. stops)

conjunction_whole : (a : Expression) (u : List Token) → ChainedAgain l.Conjunction a u → Again l.Conjunction a u
conjunction_whole a u = whole l.Conjunction a u (λ inner. refl) (λ rest stops. stops)

sum_whole : (a : Expression) (u : List Token) → ChainedAgain l.Sum a u → Again l.Sum a u
sum_whole a u = whole l.Sum a u (λ inner. refl) (λ rest stops. stops)

term_whole : (a : Expression) (u : List Token) → ChainedAgain l.Term a u → Again l.Term a u
term_whole a u = whole l.Term a u (λ inner. refl) (λ rest stops. stops)

one_comparison : (a : Expression) (u : List Token) → Again l.Sum a u → Again l.Comparison a u
one_comparison a u again depth high rest fits stops =
    ap (Goes 1 l.Comparison (level_by l.Sum (level_at depth)) high) (again depth high rest fits stops.1)
    ∙ goes_nowhere 1 l.Comparison (level_by l.Sum (level_at depth)) high a (height a) rest stops.0

two_compared : (w : Terminal) (op : Operator) (a b : Expression) (u v : List Token) → Operates l.Comparison w op → Again l.Sum a u → Again l.Sum b v → Again l.Comparison (e.Binary op a b) (u ++ Fixed w ∷ v)
two_compared w op a b u v operates first second depth high rest fits stops =
    let operand : Reader = level_by l.Sum (level_at depth) in
    let (all, right) = parted u v rest (Fixed w) depth fits in
    subst (λ ts. level_by l.Comparison (level_at depth) high ts ≡ within high (e.Binary op a b) (height (e.Binary op a b)) rest) (sym (append_assoc u (Fixed w ∷ v) rest))
    (subst (λ h. level_by l.Comparison (level_at depth) high (u ++ (Fixed w ∷ (v ++ rest))) ≡ within high (e.Binary op a b) h rest) (sym (height_binary op a b))
    (ap (Goes 1 l.Comparison operand high) (first depth high (Fixed w ∷ (v ++ rest)) all (operator_stops l.Comparison w op operates (v ++ rest)))
    ∙ turn 0 l.Comparison operand high a b (height a) (height b) w op (v ++ rest) rest (is_operator l.Comparison w op operates) (second depth (high - 1) rest right stops.1)
    ∙ goes_nowhere 0 l.Comparison operand high (e.Binary op a b) (max (height a) (height b) + 1) rest stops.0))

-- ---- what is read one deeper

pub deeper : (level : Level) (a : Expression) (u : List Token) → Again level a u → (depth high : ℕ) (rest : List Token) → length (u ++ rest) < depth → Stops level rest
    → level_at depth level high (u ++ rest) ≡ within high a (height a) rest
deeper level a u again depth high rest fits stops =
    level_inner depth level high (u ++ rest) (omega arith) ∙ again (depth - 1) high rest (omega arith) stops

no_prefix : (a : Expression) (u : List Token) → ((rest : List Token) → behind t.Not (u ++ rest) ≡ None) → Again l.Comparison a u → Again l.Negation a u
unfolding negation_by
no_prefix a u none again depth high rest fits stops =
    ap (λ o. elim o [ None ↦ comparison_by (level_at depth) high (u ++ rest) | Some ts ↦ not_by (level_at depth l.Negation) high ts ]) (none rest) ∙ again depth high rest fits stops

not_again : (a : Expression) (u : List Token) → Again l.Negation a u → Again l.Negation (e.Not a) (Fixed t.Not ∷ u)
unfolding negation_by not_by behind
not_again a u again depth high rest fits stops = rw (height_not a)
    (raised_high e.Not high (level_at depth l.Negation (high - 1) (u ++ rest)) a (height a) rest (deeper l.Negation a u again depth (high - 1) rest (let q : length (Fixed t.Not ∷ (u ++ rest)) ≤ depth = fits in omega arith) stops))

minus_again : (a : Expression) (u : List Token) → Again l.Factor a u → Again l.Factor (e.Minus a) (Fixed t.Minus ∷ u)
unfolding factor_by minus_by
minus_again a u again depth high rest fits stops = rw (height_minus a)
    (raised_high e.Minus high (level_at depth l.Factor (high - 1) (u ++ rest)) a (height a) rest (deeper l.Factor a u again depth (high - 1) rest (let q : length (Fixed t.Minus ∷ (u ++ rest)) ≤ depth = fits in omega arith) stops))

brackets_again : (a : Expression) (u : List Token) → Again l.Choice a u → Again l.Factor a (Fixed t.OpenParen ∷ (u ++ Fixed t.CloseParen ∷ []))
unfolding factor_by bracketed_by behind
brackets_again a u again depth high rest fits stops =
    let most : length (u ++ (Fixed t.CloseParen ∷ rest)) < depth
    = subst (λ ts. length ts < depth) (append_assoc u (Fixed t.CloseParen ∷ []) rest) (let q : length (Fixed t.OpenParen ∷ ((u ++ Fixed t.CloseParen ∷ []) ++ rest)) ≤ depth = fits in omega arith) in
    rw (append_assoc u (Fixed t.CloseParen ∷ []) rest)
    (ap (λ o. o >>= λ a. behind t.CloseParen a.2 >>= λ rest. Some (a.0, a.1, rest)) (deeper l.Choice a u again depth high (Fixed t.CloseParen ∷ rest) most (paren_stops rest))
    ∙ cased high high a (height a) (Fixed t.CloseParen ∷ rest) (λ a. behind t.CloseParen a.2 >>= λ rest. Some (a.0, a.1, rest)) (within high a (height a) rest)
    (λ low. sym (within_yes high a (height a) rest low)) (λ above. sym (within_no high a (height a) rest above)))

-- ---- keys

abbrev pub KeysAgain : List Expression → List Token → Type 0
KeysAgain es u = (depth high k : ℕ) (before : List Expression) (h : ℕ) (rest : List Token) → length (u ++ rest) < depth → length (u ++ rest) ≤ k → h ≤ high
    → keys_by k (level_at depth l.Choice) high before h (u ++ rest) ≡ within high (before ++ es) (max h (highest (map height es))) rest

abbrev KeyStep : ℕ → Reader → ℕ → List Expression → ℕ → (Expression × ℕ × List Token) → ReadsHigh (List Expression)
KeyStep k inner high before h key = elim (behind t.Comma key.2) [
  | Some rest ↦ keys_by k inner high (before ++ key.0 ∷ []) (max h key.1) rest
  | None ↦ behind t.CloseBracket key.2 >>= λ rest. Some (before ++ key.0 ∷ [], max h key.1, rest)
]

key_read : (k : ℕ) (inner : Reader) (high : ℕ) (before : List Expression) (h : ℕ) (ts : List Token) → 0 < k → keys_by k inner high before h ts ≡ (inner high ts >>= KeyStep (k - 1) inner high before h)
unfolding keys_by
key_read zero inner high before h ts more = absurd (omega arith)
key_read (suc k) inner high before h ts more = let count : suc k - 1 ≡ k = omega arith in rw count refl

last_again : (a : Expression) (u : List Token) → Again l.Choice a u → KeysAgain (a ∷ []) (u ++ Fixed t.CloseBracket ∷ [])
unfolding behind
last_again a u again depth high k before h rest deep long low =
    let ts : List Token = u ++ (Fixed t.CloseBracket ∷ rest) in
    let same : (u ++ Fixed t.CloseBracket ∷ []) ++ rest ≡ u ++ (Fixed t.CloseBracket ∷ rest) = append_assoc u (Fixed t.CloseBracket ∷ []) rest in
    let deep : length (u ++ (Fixed t.CloseBracket ∷ rest)) < depth = subst (λ ts. length ts < depth) same deep in
    let long : length (u ++ (Fixed t.CloseBracket ∷ rest)) ≤ k = subst (λ ts. length ts ≤ k) same long in
    let some : length (Fixed t.CloseBracket ∷ rest) ≤ length (u ++ (Fixed t.CloseBracket ∷ rest)) = behind_shorter u (Fixed t.CloseBracket ∷ rest) in
    let heights : max h (highest (map height (a ∷ []))) ≡ max h (height a) = omega arith in
    rw (same, heights)
    (key_read k (level_at depth l.Choice) high before h (u ++ (Fixed t.CloseBracket ∷ rest)) (omega arith)
    ∙ ap (λ o. o >>= KeyStep (k - 1) (level_at depth l.Choice) high before h) (deeper l.Choice a u again depth high (Fixed t.CloseBracket ∷ rest) deep (bracket_stops rest))
    ∙ cased high high a (height a) (Fixed t.CloseBracket ∷ rest) (KeyStep (k - 1) (level_at depth l.Choice) high before h) (within high (before ++ a ∷ []) (max h (height a)) rest)
    (λ fits. sym (within_yes high (before ++ a ∷ []) (max h (height a)) rest (omega arith)))
    (λ above. sym (within_no high (before ++ a ∷ []) (max h (height a)) rest (omega arith))))

more_again : (a : Expression) (es : List Expression) (u v : List Token) → Again l.Choice a u → KeysAgain es v → KeysAgain (a ∷ es) (u ++ Fixed t.Comma ∷ v)
unfolding behind
more_again a es u v again others depth high k before h rest deep long low =
    let same : (u ++ Fixed t.Comma ∷ v) ++ rest ≡ u ++ (Fixed t.Comma ∷ (v ++ rest)) = append_assoc u (Fixed t.Comma ∷ v) rest in
    let deep : length (u ++ (Fixed t.Comma ∷ (v ++ rest))) < depth = subst (λ ts. length ts < depth) same deep in
    let long : length (u ++ (Fixed t.Comma ∷ (v ++ rest))) ≤ k = subst (λ ts. length ts ≤ k) same long in
    let some : length (Fixed t.Comma ∷ (v ++ rest)) ≤ length (u ++ (Fixed t.Comma ∷ (v ++ rest))) = behind_shorter u (Fixed t.Comma ∷ (v ++ rest)) in
    let heights : max (max h (height a)) (highest (map height es)) ≡ max h (highest (map height (a ∷ es))) = omega arith in
    let lists : (before ++ a ∷ []) ++ es ≡ before ++ (a ∷ es) = append_assoc before (a ∷ []) es in
    rw same
    (key_read k (level_at depth l.Choice) high before h (u ++ (Fixed t.Comma ∷ (v ++ rest))) (omega arith)
    ∙ ap (λ o. o >>= KeyStep (k - 1) (level_at depth l.Choice) high before h) (deeper l.Choice a u again depth high (Fixed t.Comma ∷ (v ++ rest)) deep (comma_stops (v ++ rest)))
    ∙ cased high high a (height a) (Fixed t.Comma ∷ (v ++ rest)) (KeyStep (k - 1) (level_at depth l.Choice) high before h) (within high (before ++ (a ∷ es)) (max h (highest (map height (a ∷ es)))) rest)
    (λ fits. others depth high (k - 1) (before ++ a ∷ []) (max h (height a)) rest (omega arith) (omega arith) (omega arith)
    ∙ ap (λ all. within high all (max (max h (height a)) (highest (map height es))) rest) lists ∙ ap (λ n. within high (before ++ (a ∷ es)) n rest) heights)
    (λ above. sym (within_no high (before ++ (a ∷ es)) (max h (highest (map height (a ∷ es)))) rest (omega arith))))

-- ---- places

abbrev PlaceAgain : Place Expression → List Token → Type 0
PlaceAgain p u = (depth high : ℕ) (rest : List Token) → length (u ++ rest) ≤ depth → EndsPlace rest → factor_by (level_at depth) high (u ++ rest) ≡ within high (e.Place p) (height (e.Place p)) rest

name_again : (x : List ℕ) → PlaceAgain (place.Name x) (Name x ∷ [])
unfolding factor_by
name_again x depth high rest fits ends = rw (height_place_name x)
    (ap (λ o. o >>= λ p. Some (e.Place p.0, p.1, p.2)) (ends (level_at depth l.Choice) high x) ∙ renamed e.Place high (place.Name x) 1 rest)

field_again : (x p : List ℕ) → PlaceAgain (place.Field x p) (Name x ∷ Fixed t.Dot ∷ Name p ∷ [])
unfolding factor_by place_by name_at
field_again x p depth high rest fits ends = rw (height_place_field x p) (renamed e.Place high (place.Field x p) 2 rest)

pub entry_read : (x : List ℕ) (keys : List Expression) (p : List ℕ) (u : List Token) → KeysAgain keys u → (depth high : ℕ) (rest : List Token) → length (u ++ (Fixed t.Dot ∷ Name p ∷ rest)) < depth
    → entry_by (level_at depth l.Choice) high x (u ++ (Fixed t.Dot ∷ Name p ∷ rest)) ≡ within high (place.Entry x keys p) (highest (map height keys) + 1) rest
unfolding entry_by behind name_at
entry_read x keys p u again depth high rest deep =
    let ts : List Token = Fixed t.Dot ∷ Name p ∷ rest in
    let heights : max 0 (highest (map height keys)) ≡ highest (map height keys) = omega arith in
    ap (λ o. o >>= λ keys. behind t.Dot keys.2 >>= λ rest. name_at rest >>= λ p. within high (place.Entry x keys.0 p.0) (keys.1 + 1) p.1)
    (again depth (high - 1) (length (u ++ (Fixed t.Dot ∷ Name p ∷ rest))) [] 0 (Fixed t.Dot ∷ Name p ∷ rest) deep (omega arith) (omega arith)
    ∙ ap (λ n. within (high - 1) keys n (Fixed t.Dot ∷ Name p ∷ rest)) heights)
    ∙ cased high (high - 1) keys (highest (map height keys)) (Fixed t.Dot ∷ Name p ∷ rest)
    (λ keys. behind t.Dot keys.2 >>= λ rest. name_at rest >>= λ p. within high (place.Entry x keys.0 p.0) (keys.1 + 1) p.1) (within high (place.Entry x keys p) (highest (map height keys) + 1) rest)
    (λ fits. refl)
    (λ above. sym (within_no high (place.Entry x keys p) (highest (map height keys) + 1) rest (omega arith)))

entry_again : (x : List ℕ) (keys : List Expression) (p : List ℕ) (u : List Token) → KeysAgain keys u → PlaceAgain (place.Entry x keys p) (Name x ∷ Fixed t.OpenBracket ∷ (u ++ Fixed t.Dot ∷ Name p ∷ []))
unfolding factor_by place_by
entry_again x keys p u again depth high rest fits ends =
    let same : (u ++ Fixed t.Dot ∷ Name p ∷ []) ++ rest ≡ u ++ (Fixed t.Dot ∷ Name p ∷ rest) = append_assoc u (Fixed t.Dot ∷ Name p ∷ []) rest in
    let deep : length (u ++ (Fixed t.Dot ∷ Name p ∷ rest)) < depth = subst (λ ts. length ts < depth) same
    (let q : length (Name x ∷ Fixed t.OpenBracket ∷ ((u ++ Fixed t.Dot ∷ Name p ∷ []) ++ rest)) ≤ depth = fits in omega arith) in
    rw (same, height_place_entry x keys p)
    (ap (λ o. o >>= λ p. Some (e.Place p.0, p.1, p.2)) (entry_read x keys p u again depth high rest deep) ∙ renamed e.Place high (place.Entry x keys p) (highest (map height keys) + 1) rest)

-- ---- all together

abbrev Leads : Level → Expression → List Token → Type 0
Leads l.Choice a u = ChainedAgain l.Choice a u
Leads l.Conjunction a u = ChainedAgain l.Conjunction a u
Leads l.Sum a u = ChainedAgain l.Sum a u
Leads l.Term a u = ChainedAgain l.Term a u
Leads level a u = Unit {0}

mutual
  unfolding factor_by name_at

  pub again : (level : Level) (a : Expression) (u : List Token) → Spells level a u → Again level a u
  again level a u (choice_conjunction b v h) = choice_whole b v (first_of l.Choice b v (λ ts. refl) (again l.Conjunction b v h))
  again level a u (choice_or b c v x h i) = choice_whole (e.Binary o.Or b c) (v ++ Fixed t.Or ∷ x) (more_of l.Choice t.Or o.Or b c v x or (chained l.Choice b v h) (again l.Conjunction c x i))
  again level a u (conjunction_negation b v h) = conjunction_whole b v (first_of l.Conjunction b v (λ ts. refl) (again l.Negation b v h))
  again level a u (conjunction_and b c v x h i) = conjunction_whole (e.Binary o.And b c) (v ++ Fixed t.And ∷ x) (more_of l.Conjunction t.And o.And b c v x and (chained l.Conjunction b v h) (again l.Negation c x i))
  again level a u (negation_comparison b v h) = no_prefix b v (no_not l.Comparison b v h) (again l.Comparison b v h)
  again level a u (negation_not b v h) = not_again b v (again l.Negation b v h)
  again level a u (comparison_sum b v h) = one_comparison b v (again l.Sum b v h)
  again level a u (comparison_two w op b c v x q h i) = two_compared w op b c v x q (again l.Sum b v h) (again l.Sum c x i)
  again level a u (sum_term b v h) = sum_whole b v (first_of l.Sum b v (λ ts. refl) (again l.Term b v h))
  again level a u (sum_two w op b c v x q h i) = sum_whole (e.Binary op b c) (v ++ Fixed w ∷ x) (more_of l.Sum w op b c v x q (chained l.Sum b v h) (again l.Term c x i))
  again level a u (term_factor b v h) = term_whole b v (first_of l.Term b v (λ ts. refl) (again l.Factor b v h))
  again level a u (term_two w op b c v x q h i) = term_whole (e.Binary op b c) (v ++ Fixed w ∷ x) (more_of l.Term w op b c v x q (chained l.Term b v h) (again l.Factor c x i))
  again level a u (factor_minus b v h) = minus_again b v (again l.Factor b v h)
  again level a u (factor_number n) = λ depth high rest fits stops. ap (λ h. within high (e.Number n) h rest) (sym (height_number n))
  again level a u (factor_text n) = λ depth high rest fits stops. ap (λ h. within high (e.Text n) h rest) (sym (height_text n))
  again level a u factor_true = λ depth high rest fits stops. ap (λ h. within high (e.Truth true) h rest) (sym (height_truth true))
  again level a u factor_false = λ depth high rest fits stops. ap (λ h. within high (e.Truth false) h rest) (sym (height_truth false))
  again level a u (factor_alive x) = λ depth high rest fits stops. ap (λ h. within high (e.Alive x) h rest) (sym (height_alive x))
  again level a u (factor_place p v h) = place_again p v h
  again level a u (factor_brackets b v h) = brackets_again b v (again l.Choice b v h)

  chained : (level : Level) (a : Expression) (u : List Token) → Spells level a u → Leads level a u
  chained level a u (choice_conjunction b v h) = first_of l.Choice b v (λ ts. refl) (again l.Conjunction b v h)
  chained level a u (choice_or b c v x h i) = more_of l.Choice t.Or o.Or b c v x or (chained l.Choice b v h) (again l.Conjunction c x i)
  chained level a u (conjunction_negation b v h) = first_of l.Conjunction b v (λ ts. refl) (again l.Negation b v h)
  chained level a u (conjunction_and b c v x h i) = more_of l.Conjunction t.And o.And b c v x and (chained l.Conjunction b v h) (again l.Negation c x i)
  chained level a u (sum_term b v h) = first_of l.Sum b v (λ ts. refl) (again l.Term b v h)
  chained level a u (sum_two w op b c v x q h i) = more_of l.Sum w op b c v x q (chained l.Sum b v h) (again l.Term c x i)
  chained level a u (term_factor b v h) = first_of l.Term b v (λ ts. refl) (again l.Factor b v h)
  chained level a u (term_two w op b c v x q h i) = more_of l.Term w op b c v x q (chained l.Term b v h) (again l.Factor c x i)
  chained level a u (negation_comparison _ _ h) = tt
  chained level a u (negation_not _ _ h) = tt
  chained level a u (comparison_sum _ _ h) = tt
  chained level a u (comparison_two w op _ _ _ _ q h i) = tt
  chained level a u (factor_minus _ _ h) = tt
  chained level a u (factor_number n) = tt
  chained level a u (factor_text n) = tt
  chained level a u factor_true = tt
  chained level a u factor_false = tt
  chained level a u (factor_alive x) = tt
  chained level a u (factor_place p v h) = tt
  chained level a u (factor_brackets _ _ h) = tt

  pub place_again : (p : Place Expression) (u : List Token) → SpellsPlace p u → PlaceAgain p u
  place_again p u (place_name x) = name_again x
  place_again p u (place_field x q) = field_again x q
  place_again p u (place_entry x keys q v h) = entry_again x keys q v (keys_again keys v h)

  pub keys_again : (es : List Expression) (u : List Token) → SpellsKeys es u → KeysAgain es u
  keys_again es u (last_key a v h) = last_again a v (again l.Choice a v h)
  keys_again es u (more_keys a bs v x h i) = more_again a bs v x (again l.Choice a v h) (keys_again bs x i)
