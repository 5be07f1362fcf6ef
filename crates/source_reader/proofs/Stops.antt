-- Which tokens end an expression of a level.
use Rattle.std.proofs.Common.{◌≡◌, refl}
use Rattle.std.specs.Prelude.{ℕ, List, ◌∷◌, Some, None}
use Rattle.source_tokens.specs.declared.terminal.Terminal.{Terminal}
use Rattle.source_tokens.specs.declared.terminal.Terminal.TheVariants as t
use Rattle.source_tokens.specs.declared.token.Token.{Token}
use Rattle.source_tokens.specs.declared.token.Token.TheVariants.{Fixed}
use Rattle.source_tree.specs.declared.expression.Operator.{Operator}
use Rattle.source_tree.specs.declared.expression.Level.{Level}
use Rattle.source_tree.specs.declared.expression.Level.TheVariants as l
use Rattle.source_tree.specs.declared.expression.Place.TheVariants as place
use Rattle.source_tree.specs.Expressions.{Operates, or, and, equal, not_equal, less, less_or_equal, greater, greater_or_equal, plus, minus, concat, times, divide, remainder}
use Rattle.source_reader.specs.Reading.{Reader, within, operator_of, operator_at, place_by}

-- the level of the operands
abbrev pub tighter : Level → Level
tighter l.Choice = l.Conjunction
tighter l.Conjunction = l.Negation
tighter l.Negation = l.Comparison
tighter l.Comparison = l.Sum
tighter l.Sum = l.Term
tighter l.Term = l.Factor
tighter l.Factor = l.Factor

abbrev pub EndsPlace : List Token → Type 0
EndsPlace rest = (inner : Reader) (high : ℕ) (x : List ℕ) → place_by inner high x rest ≡ within high (place.Name x) 1 rest

abbrev pub Ends : Level → List Token → Type 0
Ends level rest = operator_at level rest ≡ None

abbrev pub StopsTerm : List Token → Type 0
StopsTerm rest = Ends l.Term rest × EndsPlace rest

abbrev pub StopsSum : List Token → Type 0
StopsSum rest = Ends l.Sum rest × StopsTerm rest

abbrev pub StopsComparison : List Token → Type 0
StopsComparison rest = Ends l.Comparison rest × StopsSum rest

abbrev pub StopsConjunction : List Token → Type 0
StopsConjunction rest = Ends l.Conjunction rest × StopsComparison rest

abbrev pub StopsChoice : List Token → Type 0
StopsChoice rest = Ends l.Choice rest × StopsConjunction rest

abbrev pub Stops : Level → List Token → Type 0
Stops l.Choice rest = StopsChoice rest
Stops l.Conjunction rest = StopsConjunction rest
Stops l.Negation rest = StopsComparison rest
Stops l.Comparison rest = StopsComparison rest
Stops l.Sum rest = StopsSum rest
Stops l.Term rest = StopsTerm rest
Stops l.Factor rest = EndsPlace rest

pub is_operator : (level : Level) (w : Terminal) (op : Operator) → Operates level w op → operator_of level w ≡ Some op
unfolding operator_of
is_operator level w op or = refl
is_operator level w op and = refl
is_operator level w op equal = refl
is_operator level w op not_equal = refl
is_operator level w op less = refl
is_operator level w op less_or_equal = refl
is_operator level w op greater = refl
is_operator level w op greater_or_equal = refl
is_operator level w op plus = refl
is_operator level w op minus = refl
is_operator level w op concat = refl
is_operator level w op times = refl
is_operator level w op divide = refl
is_operator level w op remainder = refl

pub operator_stops : (level : Level) (w : Terminal) (op : Operator) → Operates level w op → (ts : List Token) → Stops (tighter level) (Fixed w ∷ ts)
unfolding operator_of operator_at place_by
operator_stops level w op or ts = (refl, (refl, (refl, (refl, λ inner high x. refl))))
operator_stops level w op and ts = (refl, (refl, (refl, λ inner high x. refl)))
operator_stops level w op equal ts = (refl, (refl, λ inner high x. refl))
operator_stops level w op not_equal ts = (refl, (refl, λ inner high x. refl))
operator_stops level w op less ts = (refl, (refl, λ inner high x. refl))
operator_stops level w op less_or_equal ts = (refl, (refl, λ inner high x. refl))
operator_stops level w op greater ts = (refl, (refl, λ inner high x. refl))
operator_stops level w op greater_or_equal ts = (refl, (refl, λ inner high x. refl))
operator_stops level w op plus ts = (refl, λ inner high x. refl)
operator_stops level w op minus ts = (refl, λ inner high x. refl)
operator_stops level w op concat ts = (refl, λ inner high x. refl)
operator_stops level w op times ts = λ inner high x. refl
operator_stops level w op divide ts = λ inner high x. refl
operator_stops level w op remainder ts = λ inner high x. refl

pub paren_stops : (ts : List Token) → Stops l.Choice (Fixed t.CloseParen ∷ ts)
unfolding operator_of operator_at place_by
paren_stops ts = (refl, (refl, (refl, (refl, (refl, λ inner high x. refl)))))

pub bracket_stops : (ts : List Token) → Stops l.Choice (Fixed t.CloseBracket ∷ ts)
unfolding operator_of operator_at place_by
bracket_stops ts = (refl, (refl, (refl, (refl, (refl, λ inner high x. refl)))))

pub comma_stops : (ts : List Token) → Stops l.Choice (Fixed t.Comma ∷ ts)
unfolding operator_of operator_at place_by
comma_stops ts = (refl, (refl, (refl, (refl, (refl, λ inner high x. refl)))))

pub semicolon_stops : (ts : List Token) → Stops l.Choice (Fixed t.Semicolon ∷ ts)
unfolding operator_of operator_at place_by
semicolon_stops ts = (refl, (refl, (refl, (refl, (refl, λ inner high x. refl)))))

pub brace_stops : (ts : List Token) → Stops l.Choice (Fixed t.OpenBrace ∷ ts)
unfolding operator_of operator_at place_by
brace_stops ts = (refl, (refl, (refl, (refl, (refl, λ inner high x. refl)))))
