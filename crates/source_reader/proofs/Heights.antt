-- What is read where a part is read that has at most a height.
use Rattle.std.proofs.Common.{◌≡◌, sym, ◌∙◌, ap, inl, inr, arith, leb-true, leb-false, le-leb}
use Rattle.std.proofs.lemmas.Bool.{cases_Bool, lt-leb}
use Rattle.std.specs.Prelude.{ℕ, ◌+◌, ◌-◌, ◌≤◌, ◌<◌, max, nat_le, if◌then◌else◌, List, Some, None}
use Rattle.source_tokens.specs.declared.token.Token.{Token}
use Rattle.source_reader.specs.Reading.{◌>>=◌, within}

pub within_yes : {A : Type 0} (high : ℕ) (a : A) (h : ℕ) (rest : List Token) → h ≤ high → within high a h rest ≡ Some (a, h, rest)
within_yes high a h rest p = ap (λ b. if b then Some (a, h, rest) else None) (le-leb h high p)

pub within_no : {A : Type 0} (high : ℕ) (a : A) (h : ℕ) (rest : List Token) → high < h → within high a h rest ≡ None
within_no high a h rest p = ap (λ b. if b then Some (a, h, rest) else None) (lt-leb h high p)

-- what is read of a part, where the whole is one higher than the part and something else
pub joined_high : {A B : Type 0} (f : A → B) (high : ℕ) (a : A) (more h : ℕ) (rest : List Token)
    → (within (high - 1) a h rest >>= λ x. within high (f x.0) (max more x.1 + 1) x.2) ≡ within high (f a) (max more h + 1) rest
joined_high f high a more h rest = elim (cases_Bool (nat_le h (high - 1))) [
  | inl p ↦ ap (λ o. o >>= λ x. within high (f x.0) (max more x.1 + 1) x.2) (within_yes (high - 1) a h rest (leb-true h (high - 1) p))
  | inr p ↦ ap (λ o. o >>= λ x. within high (f x.0) (max more x.1 + 1) x.2) (within_no (high - 1) a h rest (leb-false h (high - 1) p))
      ∙ sym (within_no high (f a) (max more h + 1) rest (let q : high - 1 < h = leb-false h (high - 1) p in omega arith))
]
