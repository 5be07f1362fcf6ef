-- An expression that is spelled is derived.
use Rattle.std.proofs.Common.{◌≡◌, ℕ, List, [], ◌∷◌, ◌++◌, map, refl, ap, sym, subst, ◌∙◌, append_assoc, append-nil}
use Rattle.std.proofs.lemmas.List.{map-append}
use Rattle.source_tokens.specs.declared.terminal.Terminal.{Terminal}
use Rattle.source_tokens.specs.declared.terminal.Terminal.TheVariants as t
use Rattle.source_tokens.specs.declared.token.Token.{Token}
use Rattle.source_tokens.specs.declared.token.Token.TheVariants.{Name, Fixed}
use Rattle.source_tree.specs.Expressions as sx
use Rattle.source_tree.specs.Expressions.{Operates, Spells, SpellsPlace, SpellsKeys}
use Rattle.source_tree.specs.declared.expression.Expression.{Expression}
use Rattle.source_tree.specs.declared.expression.Level.{Level}
use Rattle.source_tree.specs.declared.expression.Level.TheVariants as l
use Rattle.source_tree.specs.declared.expression.Operator.{Operator}
use Rattle.source_tree.specs.declared.expression.Place.{Place}
use Rattle.syntax_judge.specs.Programs.{Derives, kind_of}
use Rattle.syntax_judge.specs.declared.kind.Kind.{Kind}
use Rattle.syntax_judge.specs.declared.kind.Kind.TheVariants as k
use Rattle.syntax_judge.specs.declared.symbol.Part.{Part}
use Rattle.syntax_judge.specs.declared.symbol.Part.TheVariants as p
use Rattle.syntax_trees.proofs.Made.{made}
use Rattle.syntax_judge.specs.declared.symbol.Symbol.TheVariants.{Open}

abbrev pub kinds_in : List Token → List Kind
kinds_in = map kind_of

-- an expression of a level, and then what goes on with it
abbrev Chain : Part → Part → List Token → Type 0
Chain level behind u = (rest : List Kind) → Derives (Open behind ∷ []) rest → Derives (Open level ∷ []) (kinds_in u ++ rest)

abbrev Built : Level → List Token → Type 0
Built l.Choice u = Chain p.Expression p.OrTail u
Built l.Conjunction u = Chain p.Conjunction p.AndTail u
Built l.Negation u = Derives (Open p.Negation ∷ []) (kinds_in u)
Built l.Comparison u = Derives (Open p.Comparison ∷ []) (kinds_in u)
Built l.Sum u = Chain p.Sum p.SumTail u
Built l.Term u = Chain p.Term p.TermTail u
Built l.Factor u = Derives (Open p.Factor ∷ []) (kinds_in u)

whole : (level behind : Part) (u : List Token) → Derives (Open behind ∷ []) [] → Chain level behind u → Derives (Open level ∷ []) (kinds_in u)
whole level behind u d c = subst (λ ts. Derives (Open level ∷ []) ts) (append-nil (kinds_in u)) (c [] d)

longer : (level behind : Part) (u v : List Token) (w : Terminal) → Chain level behind u → ((rest : List Kind) → Derives (Open behind ∷ []) rest → Derives (Open behind ∷ []) (k.Fixed w ∷ (kinds_in v ++ rest))) → Chain level behind (u ++ Fixed w ∷ v)
longer level behind u v w c step rest d =
    subst (λ ts. Derives (Open level ∷ []) ts)
    (sym (append_assoc (kinds_in u) (k.Fixed w ∷ kinds_in v) rest) ∙ ap (λ us. us ++ rest) (sym (map-append kind_of u (Fixed w ∷ v))))
    (c (k.Fixed w ∷ (kinds_in v ++ rest)) (step rest d))

-- a derivation, of the kinds of tokens that were put together
put : (q : Part) (u v : List Token) → Derives (Open q ∷ []) (kinds_in u ++ kinds_in v) → Derives (Open q ∷ []) (kinds_in (u ++ v))
put q u v d = subst (λ ts. Derives (Open q ∷ []) ts) (sym (map-append kind_of u v)) d

-- the operators of comparisons, sums and terms
abbrev Operator_built : Level → Terminal → Type 0
Operator_built l.Comparison w = Derives (Open p.Comparator ∷ []) (k.Fixed w ∷ [])
Operator_built l.Sum w = Derives (Open p.SumOperator ∷ []) (k.Fixed w ∷ [])
Operator_built l.Term w = Derives (Open p.TermOperator ∷ []) (k.Fixed w ∷ [])
Operator_built _ w = Unit {0}

operator : (level : Level) (w : Terminal) (op : Operator) → Operates level w op → Operator_built level w
operator level w op sx.or = tt
operator level w op sx.and = tt
operator level w op sx.equal = (made p.Comparator).0
operator level w op sx.not_equal = (made p.Comparator).1.0
operator level w op sx.less = (made p.Comparator).1.1.0
operator level w op sx.less_or_equal = (made p.Comparator).1.1.1.0
operator level w op sx.greater = (made p.Comparator).1.1.1.1.0
operator level w op sx.greater_or_equal = (made p.Comparator).1.1.1.1.1.0
operator level w op sx.plus = (made p.SumOperator).0
operator level w op sx.minus = (made p.SumOperator).1.0
operator level w op sx.concat = (made p.SumOperator).1.1.0
operator level w op sx.times = (made p.TermOperator).0
operator level w op sx.divide = (made p.TermOperator).1.0
operator level w op sx.remainder = (made p.TermOperator).1.1.0

expression_of : (u : List Token) → Built l.Choice u → Derives (Open p.Expression ∷ []) (kinds_in u)
expression_of u = whole p.Expression p.OrTail u (made p.OrTail).0

conjunction_of : (u : List Token) → Built l.Conjunction u → Derives (Open p.Conjunction ∷ []) (kinds_in u)
conjunction_of u = whole p.Conjunction p.AndTail u (made p.AndTail).0

sum_of : (u : List Token) → Built l.Sum u → Derives (Open p.Sum ∷ []) (kinds_in u)
sum_of u = whole p.Sum p.SumTail u (made p.SumTail).0

term_of : (u : List Token) → Built l.Term u → Derives (Open p.Term ∷ []) (kinds_in u)
term_of u = whole p.Term p.TermTail u (made p.TermTail).0

brackets : (v : List Token) → Derives (Open p.Expression ∷ []) (kinds_in v) → Derives (Open p.Factor ∷ []) (k.Fixed t.OpenParen ∷ kinds_in (v ++ Fixed t.CloseParen ∷ []))
brackets v d = subst (λ ts. Derives (Open p.Factor ∷ []) (k.Fixed t.OpenParen ∷ ts)) (sym (map-append kind_of v (Fixed t.CloseParen ∷ []))) ((made p.Factor).1.1.1.1.1.1.0 (kinds_in v) d)

-- the first key, and the others with their closer
abbrev pub Keys : List Token → Type 0
Keys u = (first : List Kind) × (others : List Kind) × Derives (Open p.Expression ∷ []) first × Derives (Open p.ExpressionTail ∷ []) others × (first ++ others ≡ kinds_in u)

pub keys_then : (first others : List Kind) (u rest : List Token) → first ++ others ≡ kinds_in u → first ++ (others ++ kinds_in rest) ≡ kinds_in (u ++ rest)
keys_then first others u rest same = sym (append_assoc first others (kinds_in rest)) ∙ ap (λ us. us ++ kinds_in rest) same ∙ sym (map-append kind_of u rest)

-- a place's name, and what stands behind it
abbrev Placed_at : List Token → Type 0
Placed_at u = (rest : List Kind) × (kinds_in u ≡ k.Name ∷ rest) × Derives (Open p.PlaceTail ∷ []) rest

entry : (v : List Token) (n f : List ℕ) → Keys v → Placed_at (Name n ∷ Fixed t.OpenBracket ∷ (v ++ Fixed t.Dot ∷ Name f ∷ []))
entry v n f (first, others, d, e, same) = (
  k.Fixed t.OpenBracket ∷ (first ++ (others ++ k.Fixed t.Dot ∷ k.Name ∷ [])),
  ap (λ ts. k.Name ∷ k.Fixed t.OpenBracket ∷ ts) (sym (keys_then first others v (Fixed t.Dot ∷ Name f ∷ []) same)),
  (made p.PlaceTail).1.1.0 first d others e,
)

place_factor : (u : List Token) → Placed_at u → Derives (Open p.Factor ∷ []) (kinds_in u)
place_factor u (rest, same, d) = subst (λ ts. Derives (Open p.Factor ∷ []) ts) (sym same) ((made p.Factor).1.1.1.1.1.0 rest d)

more_keys : (v x : List Token) → Derives (Open p.Expression ∷ []) (kinds_in v) → Keys x → Keys (v ++ Fixed t.Comma ∷ x)
more_keys v x d (first, others, c, e, same) = (
  kinds_in v,
  k.Fixed t.Comma ∷ (first ++ others),
  d,
  (made p.ExpressionTail).1.0 first c others e,
  ap (λ us. kinds_in v ++ (k.Fixed t.Comma ∷ us)) same ∙ sym (map-append kind_of v (Fixed t.Comma ∷ x)),
)

mutual
  build : (q : Level) (a : Expression) (u : List Token) → Spells q a u → Built q u
  build q a u (sx.choice_conjunction b v h) = λ rest d. (made p.Expression).0 (kinds_in v) (conjunction_of v (build l.Conjunction b v h)) rest d
  build q a u (sx.choice_or b c v x h g) =
      longer p.Expression p.OrTail v x t.Or (build l.Choice b v h) (λ rest d. (made p.OrTail).1.0 (kinds_in x) (conjunction_of x (build l.Conjunction c x g)) rest d)
  build q a u (sx.conjunction_negation b v h) = λ rest d. (made p.Conjunction).0 (kinds_in v) (build l.Negation b v h) rest d
  build q a u (sx.conjunction_and b c v x h g) = longer p.Conjunction p.AndTail v x t.And (build l.Conjunction b v h) (λ rest d. (made p.AndTail).1.0 (kinds_in x) (build l.Negation c x g) rest d)
  build q a u (sx.negation_comparison b v h) = (made p.Negation).0 (kinds_in v) (build l.Comparison b v h)
  build q a u (sx.negation_not b v h) = (made p.Negation).1.0 (kinds_in v) (build l.Negation b v h)
  build q a u (sx.comparison_sum b v h) = subst (λ ts. Derives (Open p.Comparison ∷ []) ts) (append-nil (kinds_in v)) ((made p.Comparison).0 (kinds_in v) (sum_of v (build l.Sum b v h)) [] (made p.ComparisonTail).0)
  build q a u (sx.comparison_two w op b c v x is h g) =
      put p.Comparison v (Fixed w ∷ x)
      ((made p.Comparison).0 (kinds_in v) (sum_of v (build l.Sum b v h)) (k.Fixed w ∷ kinds_in x) ((made p.ComparisonTail).1.0 (k.Fixed w ∷ []) (operator l.Comparison w op is) (kinds_in x) (sum_of x (build l.Sum c x g))))
  build q a u (sx.sum_term b v h) = λ rest d. (made p.Sum).0 (kinds_in v) (term_of v (build l.Term b v h)) rest d
  build q a u (sx.sum_two w op b c v x is h g) =
      longer p.Sum p.SumTail v x w (build l.Sum b v h) (λ rest d. (made p.SumTail).1.0 (k.Fixed w ∷ []) (operator l.Sum w op is) (kinds_in x) (term_of x (build l.Term c x g)) rest d)
  build q a u (sx.term_factor b v h) = λ rest d. (made p.Term).0 (kinds_in v) (build l.Factor b v h) rest d
  build q a u (sx.term_two w op b c v x is h g) =
      longer p.Term p.TermTail v x w (build l.Term b v h) (λ rest d. (made p.TermTail).1.0 (k.Fixed w ∷ []) (operator l.Term w op is) (kinds_in x) (build l.Factor c x g) rest d)
  build q a u (sx.factor_number n) = (made p.Factor).0
  build q a u (sx.factor_text n) = (made p.Factor).1.0
  build q a u sx.factor_true = (made p.Factor).1.1.0
  build q a u sx.factor_false = (made p.Factor).1.1.1.0
  build q a u (sx.factor_alive n) = (made p.Factor).1.1.1.1.0
  build q a u (sx.factor_place b v h) = place_factor v (build_place b v h)
  build q a u (sx.factor_brackets b v h) = brackets v (expression_of v (build l.Choice b v h))
  build q a u (sx.factor_minus b v h) = (made p.Factor).1.1.1.1.1.1.1.0 (kinds_in v) (build l.Factor b v h)

  build_place : (b : Place Expression) (u : List Token) → SpellsPlace b u → Placed_at u
  build_place b u (sx.place_name n) = ([], refl, (made p.PlaceTail).0)
  build_place b u (sx.place_field n f) = (k.Fixed t.Dot ∷ k.Name ∷ [], refl, (made p.PlaceTail).1.0)
  build_place b u (sx.place_entry n keys f v h) = entry v n f (build_keys keys v h)

  build_keys : (es : List Expression) (u : List Token) → SpellsKeys es u → Keys u
  build_keys es u (sx.last_key b v h) = (kinds_in v, k.Fixed t.CloseBracket ∷ [], expression_of v (build l.Choice b v h), (made p.ExpressionTail).0, sym (map-append kind_of v (Fixed t.CloseBracket ∷ [])))
  build_keys es u (sx.more_keys b bs v x h g) = more_keys v x (expression_of v (build l.Choice b v h)) (build_keys bs x g)

pub keys_derived : (es : List Expression) (u : List Token) → SpellsKeys es u → Keys u
keys_derived es u h = build_keys es u h

-- an expression's tokens are one to the grammar
pub expression_derived : (a : Expression) (ts : List Token) → Spells l.Choice a ts → Derives (Open p.Expression ∷ []) (kinds_in ts)
expression_derived a ts h = expression_of ts (build l.Choice a ts h)
