-- Tokens spell at most one tree.
use Rattle.std.proofs.Common.{◌≡◌, refl, sym, ◌∙◌, ap, subst, inl, inr, arith}
use Rattle.std.proofs.lemmas.Bool.{cases_lt}
use Rattle.std.specs.Prelude.{ℕ, ◌<◌, ◌≤◌, max, List, [], ◌∷◌, length, Some, None}
use Rattle.std.specs.List.{AllByRecursion}
use Rattle.source_tokens.specs.Scans.{tokens_of}
use Rattle.source_tokens.specs.declared.token.Placed.{Placed}
use Rattle.source_tokens.specs.declared.token.Token.{Token}
use Rattle.source_tree.specs.declared.program.Client.{Client}
use Rattle.source_tree.specs.declared.program.Program.{Program}
use Rattle.source_tree.specs.Limits.{IsLow}
use Rattle.source_tree.specs.Programs.{SpellsProgram}
use Rattle.source_reader.specs.declared.reading.Reading.{Reading}
use Rattle.source_reader.specs.declared.reading.Reading.TheVariants as r
use Rattle.source_tree.specs.Programs.{HasTree}
use Rattle.source_reader.specs.Answers.{IsReading}
use Rattle.source_reader.specs.Sources.{program_at}
use Rattle.source_reader.proofs.Heights.{within_yes, within_no}
use Rattle.source_reader.proofs.Programs.{clients_height, kept, program_again}

-- a tree is read where its bodies aren't too high, and nothing is read where they are
pub read_low : (p : Program) (tokens : List Token) (depth high : ℕ) → SpellsProgram p tokens → length tokens ≤ depth → clients_height p.clients ≤ high → program_at depth high tokens ≡ Some p
read_low p tokens depth high h deep low = program_again p tokens h depth high deep ∙ ap kept (within_yes high p (clients_height p.clients) [] low)

pub read_high : (p : Program) (tokens : List Token) (depth high : ℕ) → SpellsProgram p tokens → length tokens ≤ depth → high < clients_height p.clients → program_at depth high tokens ≡ None
read_high p tokens depth high h deep above = program_again p tokens h depth high deep ∙ ap kept (within_no high p (clients_height p.clients) [] above)

long : (tokens : List Placed) → length (tokens_of tokens) ≤ length tokens
long [] = omega arith
long (p ∷ ps) = let h : length (tokens_of ps) ≤ length ps = long ps in omega arith

some_same : {A : Type 0} (a b : A) → Some a ≡ Some b → a ≡ b
some_same a b h = cc

pub one_program : (p q : Program) (tokens : List Token) → SpellsProgram p tokens → SpellsProgram q tokens → p ≡ q
one_program p q tokens h i =
    let high : ℕ = max (clients_height p.clients) (clients_height q.clients) in
    some_same p q
    (sym (read_low p tokens (length tokens) (max (clients_height p.clients) (clients_height q.clients)) h (omega arith) (omega arith))
    ∙ read_low q tokens (length tokens) (max (clients_height p.clients) (clients_height q.clients)) i (omega arith) (omega arith))

pub all_low : (xs : List Client) → clients_height xs ≤ 32 → AllByRecursion IsLow xs
all_low [] low = tt
all_low (x ∷ xs) low = ((omega arith), all_low xs (omega arith))

pub height_low : (xs : List Client) → AllByRecursion IsLow xs → clients_height xs ≤ 32
height_low [] low = omega arith
height_low (x ∷ xs) (low, others) = let h : clients_height xs ≤ 32 = height_low xs others in omega arith

pub one_reading : (x y : Reading) (p : Program) (tokens : List Token) → SpellsProgram p tokens → IsReading tokens x → IsReading tokens y → x ≡ y
one_reading (r.Tree p) (r.Tree q) _ tokens h (i, low) (j, low') = ap r.Tree (one_program p q tokens i j)
one_reading (r.Tree p) r.TooHigh _ tokens h (i, low) none = absurd (none p i low)
one_reading r.TooHigh (r.Tree p) _ tokens h none (i, low) = absurd (none p i low)
one_reading r.TooHigh r.TooHigh _ tokens h none none' = refl

-- what the code answers
pub tree_read : (tokens : List Placed) (p : Program) → HasTree (tokens_of tokens) → Some p ≡ program_at (length tokens) 32 (tokens_of tokens) → IsReading (tokens_of tokens) (r.Tree p)
tree_read tokens p (q, h) read = elim (cases_lt 32 (clients_height q.clients)) [
  | inl above ↦ absurd (let e : Some p ≡ None = read ∙ read_high q (tokens_of tokens) (length tokens) 32 h (long tokens) above in cc)
  | inr low ↦ let same : q ≡ p = some_same q p (sym (read_low q (tokens_of tokens) (length tokens) 32 h (long tokens) low) ∙ sym read) in
      subst (λ p. IsReading (tokens_of tokens) (r.Tree p)) same (h, all_low q.clients low)
]

pub high_read : (tokens : List Placed) → None ≡ program_at (length tokens) 32 (tokens_of tokens) → IsReading (tokens_of tokens) r.TooHigh
high_read tokens read = λ p h low. absurd (let e : Some p ≡ None = sym (read_low p (tokens_of tokens) (length tokens) 32 h (long tokens) (height_low p.clients low)) ∙ sym read in cc)
