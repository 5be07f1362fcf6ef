-- How deep brackets nest in a drill.
use Rattle.std.proofs.Common.{ℕ, zero, suc, ◌/◌, ◌^◌, ◌≤◌, List, [], ◌∷◌, ◌++◌, subst, sym, append_assoc, arith}
use Rattle.source_tokens.specs.Brackets.{open_behind, most_open}
use Rattle.source_tokens.specs.declared.token.Token.{Token}
use Rattle.source_tokens.specs.declared.terminal.Terminal.TheVariants as t
use Rattle.source_tokens.specs.declared.token.Token.TheVariants.{Fixed}
use Rattle.drill_source.proofs.Trees.{declaration_tokens, group_tokens, body_tokens, client_tokens, drill_tokens}

-- the brace of the client is open before a group and behind it
group : (bits x : ℕ) (ts : List Token) → most_open 1 ts ≤ 4 → most_open 1 (group_tokens bits x ++ ts) ≤ 4
group zero x ts h = omega (arith, h)
group (suc zero) x ts h = omega (arith, h)
group (suc (suc zero)) x ts h = omega (arith, h)
group (suc (suc (suc zero))) x ts h = omega (arith, h)
group (suc (suc (suc (suc zero)))) x ts h = omega (arith, h)
group (suc (suc (suc (suc (suc zero))))) x ts h = omega (arith, h)
group (suc (suc (suc (suc (suc (suc zero)))))) x ts h = omega (arith, h)
group (suc (suc (suc (suc (suc (suc (suc bits))))))) x ts h = omega (arith, h)

body : (xs : List ℕ) (ts : List Token) → most_open 0 ts ≤ 4 → most_open 1 (body_tokens xs ++ ts) ≤ 4
body [] ts h = omega (arith, h)
body (x ∷ xs) ts h =
    subst (λ us. most_open 1 us ≤ 4) (sym (append_assoc (group_tokens (x / 2 ^ 61) x) (body_tokens xs) ts)) (group (x / 2 ^ 61) x (body_tokens xs ++ ts) (body xs ts h))

client : (c : ℕ) (xs : List ℕ) (ts : List Token) → most_open 0 ts ≤ 4 → most_open 0 (client_tokens c xs ++ ts) ≤ 4
client c xs ts h = let inner = body xs ts h in omega (arith, inner)

abbrev behind : ℕ → List Token → ℕ
behind n [] = n
behind n (w ∷ us) = behind (open_behind n w) us

parts : (n : ℕ) (us ts : List Token) → most_open n us ≤ 4 → most_open (behind n us) ts ≤ 4 → most_open n (us ++ ts) ≤ 4
parts n [] ts h i = i
parts n (w ∷ us) ts h i = let more = parts (open_behind n w) us ts (omega (arith, h)) i in omega (arith, h, more)

schema : (ts : List Token) → most_open 0 ts ≤ 4 → most_open 0 (Fixed t.Schema ∷ Fixed t.OpenBrace ∷ (declaration_tokens ++ ts)) ≤ 4
schema ts h = parts 0 (Fixed t.Schema ∷ Fixed t.OpenBrace ∷ declaration_tokens) ts (omega arith) h

pub nested : (ks ls ms ns : List ℕ) → most_open 0 (drill_tokens ks ls ms ns) ≤ 4
nested ks ls ms ns =
    let fourth = client_tokens 3 ns ++ [] in
    let third = client_tokens 2 ms ++ fourth in
    let second = client_tokens 1 ls ++ third in
    schema (client_tokens 0 ks ++ second) (client 0 ks second (client 1 ls third (client 2 ms fourth (client 3 ns [] (omega arith)))))
