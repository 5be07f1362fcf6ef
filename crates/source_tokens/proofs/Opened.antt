-- Counting open brackets, one token after another.
use Rattle.std.proofs.Common.{◌≡◌, ℕ, ◌≤◌, ◌<◌, ◌+◌, true, List, [], ◌∷◌, drop, nat_lt, ap, sym, ◌∙◌, arith}
use Rattle.std.specs.Prelude.{max}
use Rattle.std.proofs.lemmas.Bool.Decides.{nat_tests}
use Rattle.source_tokens.specs.Brackets.{open_behind, most_open}
use Rattle.source_tokens.specs.Scans.{tokens_of}
use Rattle.source_tokens.specs.declared.token.Placed.{Placed}
use Rattle.source_tokens.specs.declared.token.Token.{Token}

least : (n : ℕ) (tokens : List Token) → n ≤ most_open n tokens
least n [] = omega arith
least n (t ∷ tokens) = omega arith

over : (n : ℕ) (tokens : List Token) → 64 < n → nat_lt 64 (most_open n tokens) ≡ true
over n tokens h = let more : 64 < most_open n tokens = omega (arith, h, least n tokens) in grind (arith, nat_tests, more)

max_over : (n m : ℕ) → n ≤ 64 → nat_lt 64 (max n m) ≡ nat_lt 64 m
max_over n m h = grind (arith, nat_tests, h)

-- what is open so far is few, and the rest tells of all
pub record OpenSo (tokens : List Placed) (at count : ℕ) : Type 0 where
  pub few : count ≤ 64
  pub same : nat_lt 64 (most_open count (tokens_of (drop at tokens))) ≡ nat_lt 64 (most_open 0 (tokens_of tokens))

next : (tokens : List Placed) (at count : ℕ) (p : Placed) → OpenSo tokens at count → drop at tokens ≡ p ∷ drop (at + 1) tokens
    → nat_lt 64 (most_open (open_behind count p.token) (tokens_of (drop (at + 1) tokens))) ≡ nat_lt 64 (most_open 0 (tokens_of tokens))
next tokens at count p before is =
    sym (max_over count (most_open (open_behind count p.token) (tokens_of (drop (at + 1) tokens))) before.few)
    ∙ ap (λ ts. nat_lt 64 (most_open count (tokens_of ts))) (sym is) ∙ before.same

pub goes_over : (tokens : List Placed) (at count : ℕ) (p : Placed) → OpenSo tokens at count → drop at tokens ≡ p ∷ drop (at + 1) tokens → 64 < open_behind count p.token
    → true ≡ nat_lt 64 (most_open 0 (tokens_of tokens))
goes_over tokens at count p before is h = sym (over _ _ h) ∙ next tokens at count p before is

pub goes_on : (tokens : List Placed) (at count : ℕ) (p : Placed) → OpenSo tokens at count → drop at tokens ≡ p ∷ drop (at + 1) tokens → open_behind count p.token ≤ 64
    → OpenSo tokens (at + 1) (open_behind count p.token)
goes_on tokens at count p before is h = record { few = h; same = next tokens at count p before is }
