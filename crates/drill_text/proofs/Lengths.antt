-- How long a drill is.
use Rattle.std.proofs.Common.{◌≡◌, ap, ◌∙◌, ℕ, zero, suc, ◌+◌, ◌*◌, ◌/◌, ◌%◌, ◌^◌, ◌<◌, ◌≤◌, List, [], ◌++◌, length, arith}
use Rattle.std.specs.Prelude.{codes, decimal}
use Rattle.std.specs.List.{flat_map, range_with_len}
use Rattle.std.proofs.lemmas.Fmt.{length-decimal-le}
use Rattle.std.proofs.lemmas.List.{length-append}
use Rattle.drill_text.specs.Drills.{number_at, amount_of, item_of, group_by, group_text, groups_text, client_text, schema_text, drill_text}

below_hundred : (n : ℕ) → n % 100 < 100
below_hundred n = omega arith

below_ten : (n : ℕ) → n % 10 < 10
below_ten n = omega arith

amount_short : (x : ℕ) → length (amount_of x) ≤ 2
amount_short x = let l = below_hundred (x / 2 ^ 40) in length-decimal-le 2 (x / 2 ^ 40 % 100) (omega arith) (omega arith) (omega arith)

item_short : (x : ℕ) → length (item_of x) ≤ 1
item_short x = let l = below_ten (x / 2 ^ 50) in length-decimal-le 1 (x / 2 ^ 50 % 10) (omega arith) (omega arith) (omega arith)

three : (a b c : List ℕ) → length (a ++ b ++ c) ≡ length a + length b + length c
three a b c = length-append (a ++ b) c ∙ ap (λ (n : ℕ). n + length c) (length-append a b)

five : (a b c d e : List ℕ) → length (a ++ b ++ c ++ d ++ e) ≡ length a + length b + length c + length d + length e
five a b c d e = three (a ++ b ++ c) d e ∙ ap (λ (n : ℕ). n + length d + length e) (three a b c)

group_short : (bits x : ℕ) → length (group_by bits x) ≤ 49
group_short zero x = let a = amount_short x in omega (arith, three (codes "total.add(") (amount_of x) (codes ");\n"))
group_short (suc zero) x =
    let a = amount_short x in let i = item_short x in
    omega (arith, five (codes "Stock[\"k") (item_of x) (codes "\"].n.add(") (amount_of x) (codes ");\n"))
group_short (suc (suc zero)) x =
    let a = amount_short x in let i = item_short x in
    omega (arith, five (codes "Stock[\"k") (item_of x) (codes "\"].note.setIfEmpty(\"") (amount_of x) (codes "\");\n"))
group_short (suc (suc (suc zero))) x =
    let a = amount_short x in omega (arith, three (codes "if true { var o = new Order; o.count.add(") (amount_of x) (codes "); }\n"))
group_short (suc (suc (suc (suc zero)))) x = omega arith
group_short (suc (suc (suc (suc (suc zero))))) x = omega arith
group_short (suc (suc (suc (suc (suc (suc zero)))))) x = omega arith
group_short (suc (suc (suc (suc (suc (suc (suc bits))))))) x = omega arith

all_short : (f : ℕ → List ℕ) (most : ℕ) → ((k : ℕ) → length (f k) ≤ most) → (a n : ℕ) → length (flat_map f (range_with_len a n)) ≤ most * n
all_short f most each a zero = omega arith
all_short f most each a (suc n) =
    let first = each a in
    let rest = all_short f most each (a + 1) n in
    omega (arith, length-append (f a) (flat_map f (range_with_len (a + 1) n)))

groups_short : (n c : ℕ) → length (groups_text n c n) ≤ 49 * n
groups_short n c =
    all_short (λ j. group_text (number_at n (c * n + j + 1))) 49 (λ j. group_short (number_at n (c * n + j + 1) / 2 ^ 61) (number_at n (c * n + j + 1))) 0 n

client_short : (n c : ℕ) → c < 10 → length (client_text n c) ≤ 49 * n + 21
client_short n c l =
    let groups = groups_short n c in
    let digit = length-decimal-le 1 c (omega arith) (omega arith) (omega arith) in
    omega (arith, five (codes "client c") (decimal c) (codes " {\n") (groups_text n c n) (codes "flush;\n}\n"))

pub drill_short : (n : ℕ) → n ≤ 1000 → length (drill_text n) ≤ 262144
drill_short n l =
    let a = client_short n 0 (omega arith) in
    let b = client_short n 1 (omega arith) in
    let c = client_short n 2 (omega arith) in
    let d = client_short n 3 (omega arith) in
    let t0 = client_text n 0 in let t1 = client_text n 1 in let t2 = client_text n 2 in let t3 = client_text n 3 in
    omega (arith, length-append schema_text (t0 ++ (t1 ++ (t2 ++ (t3 ++ [])))), length-append t0 (t1 ++ (t2 ++ (t3 ++ []))), length-append t1 (t2 ++ (t3 ++ [])), length-append t2 (t3 ++ []), length-append t3 [])
