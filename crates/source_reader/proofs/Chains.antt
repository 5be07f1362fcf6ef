-- Chains of operands, one operand after the other.
use Rattle.std.proofs.Common.{◌≡◌, refl, sym, ◌∙◌, ap, subst, inl, inr, arith, leb-true, leb-false}
use Rattle.std.proofs.lemmas.Bool.{cases_Bool}
use Rattle.std.specs.Prelude.{ℕ, zero, suc, ◌+◌, ◌-◌, ◌<◌, ◌≤◌, max, nat_le, List, ◌∷◌, length, Option, Some, None}
use Rattle.source_tokens.specs.declared.terminal.Terminal.{Terminal}
use Rattle.source_tokens.specs.declared.token.Token.{Token}
use Rattle.source_tokens.specs.declared.token.Token.TheVariants.{Fixed}
use Rattle.source_tree.specs.declared.expression.Operator.{Operator}
use Rattle.source_tree.specs.declared.expression.Level.{Level}
use Rattle.source_tree.specs.declared.expression.Expression.{Expression}
use Rattle.source_tree.specs.declared.expression.Expression.TheVariants as e
use Rattle.source_reader.specs.Reading.{Reader, ReadsHigh, ◌>>=◌, within, operator_of, operator_at, chain_by, chain, turns}
use Rattle.source_reader.proofs.Heights.{within_yes, within_no, joined_high}

-- what is left to do of a chain behind its first operands
abbrev pub Goes : ℕ → Level → Reader → ℕ → ReadsHigh Expression → ReadsHigh Expression
Goes k level operand high found = found >>= λ f. chain_by k level operand high f.0 f.1 f.2

-- the chain is read up to here
abbrev pub Chained : Level → Reader → ℕ → Expression → ℕ → List Token → List Token → Type 0
Chained level operand high a h tokens rest = (k : ℕ) × (length rest ≤ k) × (chain level operand high tokens ≡ Goes k level operand high (within high a h rest))

pub chained_first : (level : Level) (operand : Reader) (high : ℕ) (a : Expression) (h : ℕ) (tokens rest : List Token)
    → turns level tokens ≡ length tokens → length rest ≤ length tokens → operand high tokens ≡ within high a h rest → Chained level operand high a h tokens rest
chained_first level operand high a h tokens rest long shorter same =
    (turns level tokens, subst (λ n. length rest ≤ n) (sym long) shorter, ap (Goes (turns level tokens) level operand high) same)

-- what is left to do behind an operator
abbrev Onward : ℕ → Level → Reader → ℕ → Expression → ℕ → Operator → ReadsHigh Expression → ReadsHigh Expression
Onward k level operand high a h op read = read >>= λ (right : Expression × ℕ × List Token). within high (e.Binary op a right.0) (max h right.1 + 1) right.2
    >>= λ (next : Expression × ℕ × List Token). chain_by k level operand high next.0 next.1 next.2

onward : (k : ℕ) (level : Level) (operand : Reader) (high : ℕ) (a : Expression) (h : ℕ) (op : Operator) (read : ReadsHigh Expression)
    → Onward k level operand high a h op read ≡ Goes k level operand high (read >>= λ (right : Expression × ℕ × List Token). within high (e.Binary op a right.0) (max h right.1 + 1) right.2)
onward k level operand high a h op None = refl
onward k level operand high a h op (Some right) = refl

abbrev Found : ℕ → Level → Reader → ℕ → Expression → ℕ → List Token → Option Operator → List Token → ReadsHigh Expression
Found k level operand high a h tokens None ts = Some (a, h, tokens)
Found k level operand high a h tokens (Some op) ts = Onward k level operand high a h op (operand (high - 1) ts)

opened : (k : ℕ) (level : Level) (operand : Reader) (high : ℕ) (a : Expression) (h : ℕ) (w : Terminal) (ts : List Token) (o : Option Operator) → operator_of level w ≡ o
    → chain_by (suc k) level operand high a h (Fixed w ∷ ts) ≡ Found k level operand high a h (Fixed w ∷ ts) o ts
unfolding chain_by operator_at
opened k level operand high a h w ts None is = rw (chain_by, operator_at, is) refl
opened k level operand high a h w ts (Some op) is = rw (chain_by, operator_at, is) refl

-- one more turn
pub turn : (k : ℕ) (level : Level) (operand : Reader) (high : ℕ) (a b : Expression) (h i : ℕ) (w : Terminal) (op : Operator) (ts rest : List Token)
    → operator_of level w ≡ Some op → operand (high - 1) ts ≡ within (high - 1) b i rest
    → Goes (suc k) level operand high (within high a h (Fixed w ∷ ts)) ≡ Goes k level operand high (within high (e.Binary op a b) (max h i + 1) rest)
turn k level operand high a b h i w op ts rest is same = elim (cases_Bool (nat_le h high)) [
  | inl p ↦ ap (Goes (suc k) level operand high) (within_yes high a h (Fixed w ∷ ts) (leb-true h high p))
      ∙ opened k level operand high a h w ts (Some op) is
      ∙ ap (Onward k level operand high a h op) same
      ∙ onward k level operand high a h op (within (high - 1) b i rest)
      ∙ ap (Goes k level operand high) (joined_high (e.Binary op a) high b h i rest)
  | inr p ↦ ap (Goes (suc k) level operand high) (within_no high a h (Fixed w ∷ ts) (leb-false h high p))
      ∙ sym (ap (Goes k level operand high) (within_no high (e.Binary op a b) (max h i + 1) rest (let q : high < h = leb-false h high p in omega arith)))
]

pub chained_more : (level : Level) (operand : Reader) (high : ℕ) (a b : Expression) (h i : ℕ) (w : Terminal) (op : Operator) (tokens ts rest : List Token)
    → operator_of level w ≡ Some op → length rest ≤ length ts → operand (high - 1) ts ≡ within (high - 1) b i rest
    → Chained level operand high a h tokens (Fixed w ∷ ts) → Chained level operand high (e.Binary op a b) (max h i + 1) tokens rest
chained_more level operand high a b h i w op tokens ts rest is shorter same (zero, most, read) = absurd (let q : length (Fixed w ∷ ts) ≤ 0 = most in omega arith)
chained_more level operand high a b h i w op tokens ts rest is shorter same (suc k, most, read) =
    (k, (let q : length (Fixed w ∷ ts) ≤ suc k = most in omega arith), read ∙ turn k level operand high a b h i w op ts rest is same)

pub stopped : (k : ℕ) (level : Level) (operand : Reader) (high : ℕ) (a : Expression) (h : ℕ) (rest : List Token) → operator_at level rest ≡ None → chain_by k level operand high a h rest ≡ Some (a, h, rest)
unfolding chain_by
stopped zero level operand high a h rest none = refl
stopped (suc k) level operand high a h rest none = ap (λ o. elim o [
  | None ↦ Some (a, h, rest)
  | Some found ↦ operand (high - 1) found.1 >>= λ right. within high (e.Binary found.0 a right.0) (max h right.1 + 1) right.2
      >>= λ next. chain_by k level operand high next.0 next.1 next.2
]) none

pub goes_nowhere : (k : ℕ) (level : Level) (operand : Reader) (high : ℕ) (a : Expression) (h : ℕ) (rest : List Token) → operator_at level rest ≡ None
    → Goes k level operand high (within high a h rest) ≡ within high a h rest
goes_nowhere k level operand high a h rest none = elim (cases_Bool (nat_le h high)) [
  | inl p ↦ ap (Goes k level operand high) (within_yes high a h rest (leb-true h high p)) ∙ stopped k level operand high a h rest none ∙ sym (within_yes high a h rest (leb-true h high p))
  | inr p ↦ ap (Goes k level operand high) (within_no high a h rest (leb-false h high p)) ∙ sym (within_no high a h rest (leb-false h high p))
]

pub chained_last : (level : Level) (operand : Reader) (high : ℕ) (a : Expression) (h : ℕ) (tokens rest : List Token) → Chained level operand high a h tokens rest → operator_at level rest ≡ None
    → chain level operand high tokens ≡ within high a h rest
chained_last level operand high a h tokens rest (k, most, read) none = read ∙ goes_nowhere k level operand high a h rest none
