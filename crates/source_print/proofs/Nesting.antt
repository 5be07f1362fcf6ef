-- How deep brackets nest in tokens that close each bracket that they open.
use Rattle.std.proofs.Common.{◌≡◌, ℕ, ◌+◌, ◌≤◌, List, [], ◌∷◌, ◌++◌, subst, sym, append_assoc, arith}
use Rattle.std.specs.Prelude.{max}
use Rattle.source_tokens.specs.Brackets.{open_behind, most_open}
use Rattle.source_tokens.specs.declared.terminal.Terminal.TheVariants as t
use Rattle.source_tokens.specs.declared.token.Token.{Token}
use Rattle.source_tokens.specs.declared.token.Token.TheVariants.{Fixed}

-- no bracket, an opening one, and a closing one
abbrev pub IsPlain : Token → Type 0
IsPlain w = (n : ℕ) → open_behind n w ≡ n

abbrev pub IsOpening : Token → Type 0
IsOpening w = (n : ℕ) → open_behind n w ≡ n + 1

abbrev pub IsClosing : Token → Type 0
IsClosing w = (n : ℕ) → open_behind (n + 1) w ≡ n

-- at most so many brackets more are open in the tokens, and none of them behind
pub record Nests (k : ℕ) (tokens : List Token) : Type 0 where
  pub low : (n : ℕ) (rest : List Token) → most_open n (tokens ++ rest) ≤ max (n + k) (most_open n rest)

-- so it is of tokens that close one bracket more than they open
pub record Closes (k : ℕ) (tokens : List Token) : Type 0 where
  pub low : (n : ℕ) (rest : List Token) → most_open (n + 1) (tokens ++ rest) ≤ max (n + 1 + k) (most_open n rest)

least : (n : ℕ) (tokens : List Token) → n ≤ most_open n tokens
least n [] = omega arith
least n (w ∷ tokens) = omega arith

pub nothing : (k : ℕ) → Nests k []
nothing k = record { low = λ n rest. omega arith }

pub raised : (k m : ℕ) (u : List Token) → k ≤ m → Nests k u → Nests m u
raised k m u few h = record { low = λ n rest. omega (arith, few, h.low n rest) }

pub plainly : (k : ℕ) (w : Token) (u : List Token) → IsPlain w → Nests k u → Nests k (w ∷ u)
plainly k w u plain h = record {
  low = λ n rest.
      let more : most_open (open_behind n w) (u ++ rest) ≤ max (n + k) (most_open n rest) = subst (λ m. most_open m (u ++ rest) ≤ max (n + k) (most_open n rest)) (sym (plain n)) (h.low n rest) in
      let first : n ≤ most_open n rest = least n rest in
      omega (arith, more, first);
}

pub joined : (k : ℕ) (u v : List Token) → Nests k u → Nests k v → Nests k (u ++ v)
joined k u v h i = record {
  low = λ n rest.
      subst (λ ts. most_open n ts ≤ max (n + k) (most_open n rest)) (sym (append_assoc u v rest)) (omega (arith, h.low n (v ++ rest), i.low n rest));
}

pub closed : (k : ℕ) (w : Token) (u : List Token) → IsClosing w → Nests k u → Closes k (w ∷ u)
closed k w u closing h = record {
  low = λ n rest.
      let more : most_open (open_behind (n + 1) w) (u ++ rest) ≤ max (n + k) (most_open n rest) = subst (λ m. most_open m (u ++ rest) ≤ max (n + k) (most_open n rest)) (sym (closing n)) (h.low n rest) in
      omega (arith, more);
}

pub closing : (k : ℕ) (u v : List Token) → Nests k u → Closes k v → Closes k (u ++ v)
closing k u v h i = record {
  low = λ n rest.
      subst (λ ts. most_open (n + 1) ts ≤ max (n + 1 + k) (most_open n rest)) (sym (append_assoc u v rest)) (omega (arith, h.low (n + 1) (v ++ rest), i.low n rest));
}

pub opened : (k : ℕ) (w : Token) (u : List Token) → IsOpening w → Closes k u → Nests (k + 1) (w ∷ u)
opened k w u opening h = record {
  low = λ n rest.
      let more : most_open (open_behind n w) (u ++ rest) ≤ max (n + 1 + k) (most_open n rest) = subst (λ m. most_open m (u ++ rest) ≤ max (n + 1 + k) (most_open n rest)) (sym (opening n)) (h.low n rest) in
      let first : n ≤ most_open n rest = least n rest in
      omega (arith, more, first);
}

pub raised_closes : (k m : ℕ) (u : List Token) → k ≤ m → Closes k u → Closes m u
raised_closes k m u few h = record { low = λ n rest. omega (arith, few, h.low n rest) }

pub word : (k : ℕ) (w : Token) → IsPlain w → Nests k (w ∷ [])
word k w plain = plainly k w [] plain (nothing k)

-- a token behind, and brackets round tokens
pub ended : (k : ℕ) (u : List Token) (w : Token) → IsPlain w → Nests k u → Nests k (u ++ w ∷ [])
ended k u w plain h = joined k u (w ∷ []) h (word k w plain)

pub shut : (k : ℕ) (u : List Token) (w : Token) → IsClosing w → Nests k u → Closes k (u ++ w ∷ [])
shut k u w closes h = closing k u (w ∷ []) h (closed k w [] closes (nothing k))

pub enclosed : (k : ℕ) (w : Token) (u : List Token) (z : Token) → IsOpening w → IsClosing z → Nests k u → Nests (k + 1) (w ∷ (u ++ z ∷ []))
enclosed k w u z opening closes h = opened k w (u ++ z ∷ []) opening (shut k u z closes h)

pub shut_bracket : IsClosing (Fixed t.CloseBracket)
shut_bracket n = omega arith

pub shut_parenthesis : IsClosing (Fixed t.CloseParen)
shut_parenthesis n = omega arith

pub shut_brace : IsClosing (Fixed t.CloseBrace)
shut_brace n = omega arith
