-- How what is read of a part is read of the whole.
use Rattle.std.proofs.Common.{◌≡◌, refl, sym, ◌∙◌, ap, inl, inr, arith, leb-true, leb-false}
use Rattle.std.proofs.lemmas.Bool.{cases_Bool, ne_eqb}
use Rattle.std.specs.Prelude.{ℕ, zero, suc, ◌+◌, ◌-◌, ◌==◌, ◌<◌, ◌≤◌, nat_le, if◌then◌else◌, List, [], ◌∷◌, ◌++◌, length, Option, Some, None}
use Rattle.source_tokens.specs.declared.token.Token.{Token}
use Rattle.source_reader.specs.Reading.{ReadsHigh, ◌>>=◌, within}
use Rattle.source_reader.proofs.Heights.{within_yes, within_no}

pub behind_shorter : (u rest : List Token) → length rest ≤ length (u ++ rest)
behind_shorter [] rest = omega arith
behind_shorter (x ∷ u) rest = let h : length rest ≤ length (u ++ rest) = behind_shorter u rest in omega arith

-- what is done with what was read, where it goes on alike when it was read, and the whole is too high when it is
pub cased : {A B : Type 0} (high low : ℕ) (a : A) (h : ℕ) (rest : List Token) (f : (A × ℕ × List Token) → Option B) (whole : Option B)
    → (h ≤ low → f (a, h, rest) ≡ whole) → (low < h → None ≡ whole) → (within low a h rest >>= f) ≡ whole
cased high low a h rest f whole fits above = elim (cases_Bool (nat_le h low)) [
  | inl p ↦ ap (λ o. o >>= f) (within_yes low a h rest (leb-true h low p)) ∙ fits (leb-true h low p)
  | inr p ↦ ap (λ o. o >>= f) (within_no low a h rest (leb-false h low p)) ∙ above (leb-false h low p)
]

-- behind a prefix operator
pub raised_high : {A B : Type 0} (f : A → B) (high : ℕ) (inner : ReadsHigh A) (a : A) (h : ℕ) (rest : List Token) → inner ≡ within (high - 1) a h rest
    → (if high == 0 then None else (inner >>= λ x. within high (f x.0) (x.1 + 1) x.2)) ≡ within high (f a) (h + 1) rest
raised_high f zero inner a h rest same = sym (within_no 0 (f a) (h + 1) rest (omega arith))
raised_high f (suc high) inner a h rest same = ap (λ b. if b then None else (inner >>= λ x. within (suc high) (f x.0) (x.1 + 1) x.2)) (ne_eqb (suc high) 0 (λ e. absurd (omega arith)))
    ∙ ap (λ o. o >>= λ x. within (suc high) (f x.0) (x.1 + 1) x.2) same
    ∙ cased (suc high) (suc high - 1) a h rest (λ x. within (suc high) (f x.0) (x.1 + 1) x.2) (within (suc high) (f a) (h + 1) rest) (λ low. refl)
    (λ above. sym (within_no (suc high) (f a) (h + 1) rest (let q : suc high - 1 < h = above in omega arith)))

-- the same thing under another name
pub renamed : {A B : Type 0} (f : A → B) (high : ℕ) (a : A) (h : ℕ) (rest : List Token) → (within high a h rest >>= λ p. Some (f p.0, p.1, p.2)) ≡ within high (f a) h rest
renamed f high a h rest = cased high high a h rest (λ p. Some (f p.0, p.1, p.2)) (within high (f a) h rest)
    (λ low. sym (within_yes high (f a) h rest low)) (λ above. sym (within_no high (f a) h rest above))
