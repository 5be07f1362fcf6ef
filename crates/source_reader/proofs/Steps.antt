-- One turn of each loop.
use Rattle.std.proofs.Common.{◌≡◌, ◌∙◌, refl, ap, arith}
use Rattle.std.specs.Prelude.{ℕ, zero, suc, ◌+◌, ◌-◌, ◌<◌, ◌≤◌, max, List, [], ◌∷◌, ◌++◌, Some, None}
use Rattle.source_tokens.specs.declared.terminal.Terminal.TheVariants as t
use Rattle.source_tokens.specs.declared.token.Token.{Token}
use Rattle.source_tree.specs.declared.expression.Operator.{Operator}
use Rattle.source_tree.specs.declared.expression.Level.{Level}
use Rattle.source_tree.specs.declared.expression.Expression.{Expression}
use Rattle.source_tree.specs.declared.expression.Expression.TheVariants as e
use Rattle.source_reader.specs.Reading.{Reader, ◌>>=◌, behind, operator_at, keys_by, chain_by, level_by, level_at}
use Rattle.source_reader.proofs.Heights.{within_yes}

pub chain_step : (m n : ℕ) (level : Level) (operand : Reader) (high : ℕ) (left right : Expression) (h i : ℕ) (op : Operator) (tokens after rest : List Token) → n < m
    → operator_at level tokens ≡ Some (op, after) → operand (high - 1) after ≡ Some (right, i, rest) → max h i < high
    → chain_by (m - n) level operand high left h tokens ≡ chain_by (m - (n + 1)) level operand high (e.Binary op left right) (max h i + 1) rest
unfolding chain_by
chain_step m n level operand high left right h i op tokens after rest more is read low =
    let count : m - n ≡ suc (m - (n + 1)) = omega arith in
    let fits : max h i + 1 ≤ high = omega arith in
    rw (count, chain_by, is, read, within_yes high (e.Binary op left right) (max h i + 1) rest fits) refl

pub keys_step : (m n : ℕ) (inner : Reader) (high : ℕ) (keys : List Expression) (key : Expression) (h i : ℕ) (tokens after rest : List Token) → n < m
    → inner high tokens ≡ Some (key, i, after) → behind t.Comma after ≡ Some rest
    → keys_by (m - n) inner high keys h tokens ≡ keys_by (m - (n + 1)) inner high (keys ++ key ∷ []) (max h i) rest
unfolding keys_by
keys_step m n inner high keys key h i tokens after rest more read is =
    let count : m - n ≡ suc (m - (n + 1)) = omega arith in
    rw (count, keys_by, read) (ap (λ o. elim o [
      | Some rest ↦ keys_by (m - (n + 1)) inner high (keys ++ key ∷ []) (max h i) rest
      | None ↦ behind t.CloseBracket after >>= λ rest. Some (keys ++ key ∷ [], max h i, rest)
    ]) is)

pub keys_end : (m n : ℕ) (inner : Reader) (high : ℕ) (keys : List Expression) (key : Expression) (h i : ℕ) (tokens after : List Token) → n < m
    → inner high tokens ≡ Some (key, i, after) → behind t.Comma after ≡ None
    → keys_by (m - n) inner high keys h tokens ≡ (behind t.CloseBracket after >>= λ rest. Some (keys ++ key ∷ [], max h i, rest))
unfolding keys_by
keys_end m n inner high keys key h i tokens after more read is =
    let count : m - n ≡ suc (m - (n + 1)) = omega arith in
    rw (count, keys_by, read) (ap (λ o. elim o [
      | Some rest ↦ keys_by (m - (n + 1)) inner high (keys ++ key ∷ []) (max h i) rest
      | None ↦ behind t.CloseBracket after >>= λ rest. Some (keys ++ key ∷ [], max h i, rest)
    ]) is)

pub level_inner : (depth : ℕ) (level : Level) (high : ℕ) (tokens : List Token) → 0 < depth → level_at depth level high tokens ≡ level_by level (level_at (depth - 1)) high tokens
unfolding level_at
level_inner zero level high tokens more = absurd (omega arith)
level_inner (suc depth) level high tokens more = let count : suc depth - 1 ≡ depth = omega arith in rw count refl

pub keys_closed : (m n : ℕ) (inner : Reader) (high : ℕ) (keys : List Expression) (key : Expression) (h i : ℕ) (tokens after rest : List Token) → n < m
    → inner high tokens ≡ Some (key, i, after) → behind t.Comma after ≡ None → behind t.CloseBracket after ≡ Some rest
    → keys_by (m - n) inner high keys h tokens ≡ Some (keys ++ key ∷ [], max h i, rest)
keys_closed m n inner high keys key h i tokens after rest more read is closed =
    keys_end m n inner high keys key h i tokens after more read is ∙ ap (λ o. o >>= λ rest. Some (keys ++ key ∷ [], max h i, rest)) closed

pub ruleset keys = (keys_step, keys_end)

pub ruleset inner = (level_inner)
