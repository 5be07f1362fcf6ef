-- One turn of the loops over statements and names.
use Rattle.std.proofs.Common.{◌≡◌, ◌∙◌, refl, ap, arith}
use Rattle.std.specs.Prelude.{ℕ, zero, suc, ◌+◌, ◌-◌, ◌<◌, max, List, [], ◌∷◌, ◌++◌, length, Some, None}
use Rattle.source_tokens.specs.declared.terminal.Terminal.TheVariants as t
use Rattle.source_tokens.specs.declared.token.Token.{Token}
use Rattle.source_tree.specs.declared.expression.Level.TheVariants as l
use Rattle.source_tree.specs.declared.statement.Statement.{Statement}
use Rattle.source_reader.specs.Reading.{ReadsHigh, ◌>>=◌, behind, name_at, level_at}
use Rattle.source_reader.specs.Bodies.{names_by, statement_by, body_by, block_at}

pub body_step : (m n : ℕ) (statement : ℕ → List Token → ReadsHigh Statement) (high : ℕ) (body : List Statement) (next : Statement) (h i : ℕ) (tokens rest : List Token) → n < m
    → behind t.CloseBrace tokens ≡ None → statement high tokens ≡ Some (next, i, rest)
    → body_by (m - n) statement high body h tokens ≡ body_by (m - (n + 1)) statement high (body ++ next ∷ []) (max h i) rest
unfolding body_by
body_step m n statement high body next h i tokens rest more is read =
    let count : m - n ≡ suc (m - (n + 1)) = omega arith in
    rw (count, body_by) (ap (λ o. elim o [ Some rest ↦ Some (body, h, rest) | None ↦ statement high tokens >>= λ next. body_by (m - (n + 1)) statement high (body ++ next.0 ∷ []) (max h next.1) next.2 ]) is
    ∙ ap (λ o. o >>= λ next. body_by (m - (n + 1)) statement high (body ++ next.0 ∷ []) (max h next.1) next.2) read)

pub body_closed : (m n : ℕ) (statement : ℕ → List Token → ReadsHigh Statement) (high : ℕ) (body : List Statement) (h : ℕ) (tokens rest : List Token) → n < m
    → behind t.CloseBrace tokens ≡ Some rest → body_by (m - n) statement high body h tokens ≡ Some (body, h, rest)
unfolding body_by
body_closed m n statement high body h tokens rest more is =
    let count : m - n ≡ suc (m - (n + 1)) = omega arith in
    rw (count, body_by) (ap (λ o. elim o [ Some rest ↦ Some (body, h, rest) | None ↦ statement high tokens >>= λ next. body_by (m - (n + 1)) statement high (body ++ next.0 ∷ []) (max h next.1) next.2 ]) is)

pub body_fails : (m n : ℕ) (statement : ℕ → List Token → ReadsHigh Statement) (high : ℕ) (body : List Statement) (h : ℕ) (tokens : List Token) → n < m
    → behind t.CloseBrace tokens ≡ None → statement high tokens ≡ None → body_by (m - n) statement high body h tokens ≡ None
unfolding body_by
body_fails m n statement high body h tokens more is read =
    let count : m - n ≡ suc (m - (n + 1)) = omega arith in
    rw (count, body_by) (ap (λ o. elim o [ Some rest ↦ Some (body, h, rest) | None ↦ statement high tokens >>= λ next. body_by (m - (n + 1)) statement high (body ++ next.0 ∷ []) (max h next.1) next.2 ]) is
    ∙ ap (λ o. o >>= λ next. body_by (m - (n + 1)) statement high (body ++ next.0 ∷ []) (max h next.1) next.2) read)

pub names_end : (m n : ℕ) (names : List (List ℕ)) (x : List ℕ) (tokens after : List Token) → n < m → name_at tokens ≡ Some (x, after) → behind t.Comma after ≡ None
    → names_by (m - n) names tokens ≡ (behind t.In after >>= λ rest. Some (names ++ x ∷ [], rest))
unfolding names_by
names_end m n names x tokens after more read is =
    let count : m - n ≡ suc (m - (n + 1)) = omega arith in
    rw (count, names_by, read) (ap (λ o. elim o [ Some rest ↦ names_by (m - (n + 1)) (names ++ x ∷ []) rest | None ↦ behind t.In after >>= λ rest. Some (names ++ x ∷ [], rest) ]) is)

pub names_step : (m n : ℕ) (names : List (List ℕ)) (x : List ℕ) (tokens after rest : List Token) → n < m → name_at tokens ≡ Some (x, after) → behind t.Comma after ≡ Some rest
    → names_by (m - n) names tokens ≡ names_by (m - (n + 1)) (names ++ x ∷ []) rest
unfolding names_by
names_step m n names x tokens after rest more read is =
    let count : m - n ≡ suc (m - (n + 1)) = omega arith in
    rw (count, names_by, read) (ap (λ o. elim o [ Some rest ↦ names_by (m - (n + 1)) (names ++ x ∷ []) rest | None ↦ behind t.In after >>= λ rest. Some (names ++ x ∷ [], rest) ]) is)

pub names_closed : (m n : ℕ) (names : List (List ℕ)) (x : List ℕ) (tokens after rest : List Token) → n < m → name_at tokens ≡ Some (x, after) → behind t.Comma after ≡ None → behind t.In after ≡ Some rest
    → names_by (m - n) names tokens ≡ Some (names ++ x ∷ [], rest)
names_closed m n names x tokens after rest more read is closed =
    names_end m n names x tokens after more read is ∙ ap (λ o. o >>= λ rest. Some (names ++ x ∷ [], rest)) closed

pub names_fail : (m n : ℕ) (names : List (List ℕ)) (tokens : List Token) → n < m → name_at tokens ≡ None → names_by (m - n) names tokens ≡ None
unfolding names_by
names_fail m n names tokens more read = let count : m - n ≡ suc (m - (n + 1)) = omega arith in rw (count, names_by, read) refl

pub block_inner : (depth high : ℕ) (tokens ts : List Token) → 0 < depth → behind t.OpenBrace tokens ≡ Some ts
    → block_at depth high tokens ≡ body_by (length ts) (statement_by (level_at (depth - 1) l.Choice) (block_at (depth - 1))) high [] 0 ts
unfolding block_at
block_inner zero high tokens ts more is = absurd (omega arith)
block_inner (suc depth) high tokens ts more is = let count : suc depth - 1 ≡ depth = omega arith in rw (count, is) refl

pub block_fails : (depth high : ℕ) (tokens : List Token) → behind t.OpenBrace tokens ≡ None → block_at depth high tokens ≡ None
unfolding block_at
block_fails zero high tokens is = refl
block_fails (suc depth) high tokens is = rw is refl

pub ruleset names = (names_step, names_end)

pub ruleset bodies = (body_step, body_closed)
