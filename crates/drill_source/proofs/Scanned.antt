-- A drill's text is scanned to its tokens.
use Rattle.std.proofs.Common.{◌≡◌, ℕ, zero, suc, ◌+◌, ◌*◌, ◌/◌, ◌%◌, ◌^◌, ◌<◌, ◌≤◌, false, cond, List, [], ◌∷◌, ◌++◌, map, refl, ap, sym, ◌∙◌, subst, arith, append_assoc}
use Rattle.std.specs.Prelude.{codes, decimal, All, ◌==◌, ◌||◌}
use Rattle.std.specs.List.{flat_map, range_with_len}
use Rattle.std.specs.Str.Parse.{AllDigits}
use Rattle.std.proofs.lemmas.Bool.Decides.{nat_tests}
use Rattle.std.proofs.lemmas.Fmt.{decimal_is_IsNumeral}
use Rattle.std.proofs.lemmas.List.Elements.{All-nil, All-cons}
use Rattle.std.proofs.lemmas.Str.Parse.{digit_from_value}
use Rattle.cloud_base.specs.Values.{IsPrintable}
use Rattle.drill_text.specs.Drills.{number_at, amount_of, item_of, group_by, group_text, groups_text, client_text, drill_text}
use Rattle.source_tokens.specs.declared.token.Token.{Token}
use Rattle.source_tokens.specs.declared.token.Token.TheVariants.{Number, Text}
use Rattle.source_tokens.proofs.Lexing.{Lexes, with_escape, lexes_nothing, lexes_number, lexes_text}
use Rattle.drill_source.proofs.Trees.{amount, key_bytes, group_tokens, draws, body_tokens, client_tokens, drill_tokens}
use Rattle.drill_source.proofs.Pieces as piece

-- ---- numbers between quotes
no_escape : (c : ℕ) → 48 ≤ c → c ≤ 57 → ((c == 34) || (c == 92)) ≡ false
no_escape c h k = grind (arith, nat_tests, h, k)

escaped_digits : (ds : List ℕ) → AllDigits 10 ds → flat_map with_escape ds ≡ ds
escaped_digits [] h = refl
escaped_digits (d ∷ ds) h =
    let k = digit_from_value d h.0 in
    ap (λ b. cond b (92 ∷ d ∷ []) (d ∷ []) ++ flat_map with_escape ds) (no_escape d k.0 k.1) ∙ ap (λ (l : List ℕ). d ∷ l) (escaped_digits ds h.1)

printable_digits : (ds : List ℕ) → AllDigits 10 ds → All IsPrintable ds
printable_digits [] h = All-nil IsPrintable
printable_digits (d ∷ ds) h = let k = digit_from_value d h.0 in All-cons IsPrintable d ds (omega (arith, k.0), omega (arith, k.1)) (printable_digits ds h.1)

quoted : (bytes rest : List ℕ) (ts : List Token) → flat_map with_escape bytes ≡ bytes → All IsPrintable bytes → Lexes rest ts → Lexes (34 ∷ (bytes ++ (34 ∷ rest))) (Text bytes ∷ ts)
quoted bytes rest ts plain printable h = subst (λ (l : List ℕ). Lexes (34 ∷ (l ++ (34 ∷ rest))) (Text bytes ∷ ts)) plain (lexes_text bytes rest ts printable h)

digits_in : (n : ℕ) → n < 100 → AllDigits 10 (decimal n)
digits_in n h = (decimal_is_IsNumeral n (omega (arith, h))).0.1

below_hundred : (n : ℕ) → n % 100 < 100
below_hundred n = omega arith

below_ten : (n : ℕ) → n % 10 < 100
below_ten n = omega arith

pub amount_below : (x : ℕ) → amount x < 100
amount_below x = below_hundred (x / 2 ^ 40)

quoted_amount : (x : ℕ) (rest : List ℕ) (ts : List Token) → Lexes rest ts → Lexes (34 ∷ (amount_of x ++ (34 ∷ rest))) (Text (amount_of x) ∷ ts)
quoted_amount x rest ts h =
    let ds = digits_in (amount x) (amount_below x) in
    quoted (amount_of x) rest ts (escaped_digits (amount_of x) ds) (printable_digits (amount_of x) ds) h

quoted_key : (x : ℕ) (rest : List ℕ) (ts : List Token) → Lexes rest ts → Lexes (34 ∷ (key_bytes x ++ (34 ∷ rest))) (Text (key_bytes x) ∷ ts)
quoted_key x rest ts h =
    let ds = digits_in (x / 2 ^ 50 % 10) (below_ten (x / 2 ^ 50)) in
    quoted (key_bytes x) rest ts (ap (λ (l : List ℕ). 107 ∷ l) (escaped_digits (item_of x) ds)) (All-cons IsPrintable 107 (item_of x) (omega arith, omega arith) (printable_digits (item_of x) ds)) h

-- ---- groups
numbered : (x : ℕ) (rest : List ℕ) (ts : List Token) → Lexes (41 ∷ rest) ts → Lexes (amount_of x ++ (41 ∷ rest)) (Number (amount x) ∷ ts)
numbered x rest ts h = let low = amount_below x in lexes_number (amount x) (41 ∷ rest) ts (omega (arith, low)) refl h

-- two parts and what stands behind them
regrouped : (a b rest : List ℕ) (ts : List Token) → Lexes (a ++ (b ++ rest)) ts → Lexes ((a ++ b) ++ rest) ts
regrouped a b rest ts h = subst (λ (l : List ℕ). Lexes l ts) (sym (append_assoc a b rest)) h

-- four parts and what stands behind them
regrouped_four : (a b c d rest : List ℕ) (ts : List Token) → Lexes (a ++ (b ++ (c ++ (d ++ rest)))) ts → Lexes ((((a ++ b) ++ c) ++ d) ++ rest) ts
regrouped_four a b c d rest ts h = regrouped ((a ++ b) ++ c) d rest ts (regrouped (a ++ b) c (d ++ rest) ts (regrouped a b (c ++ (d ++ rest)) ts h))

lexes_group : (bits x : ℕ) (rest : List ℕ) (ts : List Token) → Lexes rest ts → Lexes (group_by bits x ++ rest) (group_tokens bits x ++ ts)
lexes_group zero x rest ts h =
    regrouped (codes "total.add(" ++ amount_of x) (codes ");\n") rest _
    (piece.lexes_total (amount_of x ++ (codes ");\n" ++ rest)) _ (numbered x (codes ";\n" ++ rest) _ (piece.lexes_shut rest ts h)))
lexes_group (suc zero) x rest ts h =
    regrouped_four (codes "Stock[\"k" ++ item_of x) (codes "\"].n.add(") (amount_of x) (codes ");\n") rest _
    (piece.lexes_stock (34 ∷ (key_bytes x ++ (34 ∷ (codes "].n.add(" ++ (amount_of x ++ (codes ");\n" ++ rest)))))) _
    (quoted_key x (codes "].n.add(" ++ (amount_of x ++ (codes ");\n" ++ rest))) _
    (piece.lexes_number_of (amount_of x ++ (codes ");\n" ++ rest)) _ (numbered x (codes ";\n" ++ rest) _ (piece.lexes_shut rest ts h)))))
lexes_group (suc (suc zero)) x rest ts h =
    regrouped_four (codes "Stock[\"k" ++ item_of x) (codes "\"].note.setIfEmpty(\"") (amount_of x) (codes "\");\n") rest _
    (piece.lexes_stock (34 ∷ (key_bytes x ++ (34 ∷ (codes "].note.setIfEmpty(" ++ (34 ∷ (amount_of x ++ (34 ∷ (codes ");\n" ++ rest)))))))) _
    (quoted_key x (codes "].note.setIfEmpty(" ++ (34 ∷ (amount_of x ++ (34 ∷ (codes ");\n" ++ rest))))) _
    (piece.lexes_note_of (34 ∷ (amount_of x ++ (34 ∷ (codes ");\n" ++ rest)))) _ (quoted_amount x (codes ");\n" ++ rest) _ (piece.lexes_shut rest ts h)))))
lexes_group (suc (suc (suc zero))) x rest ts h =
    regrouped (codes "if true { var o = new Order; o.count.add(" ++ amount_of x) (codes "); }\n") rest _
    (piece.lexes_create (amount_of x ++ (codes "); }\n" ++ rest)) _ (numbered x (codes "; }\n" ++ rest) _ (piece.lexes_created rest ts h)))
lexes_group (suc (suc (suc (suc zero)))) x rest ts h = piece.lexes_print rest ts h
lexes_group (suc (suc (suc (suc (suc zero))))) x rest ts h = piece.lexes_each rest ts h
lexes_group (suc (suc (suc (suc (suc (suc zero)))))) x rest ts h = piece.lexes_yield rest ts h
lexes_group (suc (suc (suc (suc (suc (suc (suc bits))))))) x rest ts h = piece.lexes_flush rest ts h

-- ---- clients
lexes_body : (draw : ℕ → ℕ) (js rest : List ℕ) (ts : List Token) → Lexes rest ts
    → Lexes (flat_map (λ (j : ℕ). group_text (draw j)) js ++ (codes "flush;\n}\n" ++ rest)) (body_tokens (map draw js) ++ ts)
lexes_body draw [] rest ts h = piece.lexes_last rest ts h
lexes_body draw (j ∷ js) rest ts h =
    let x = draw j in
    let more = flat_map (λ (j : ℕ). group_text (draw j)) js in
    let tail = codes "flush;\n}\n" ++ rest in
    regrouped (group_text x) more tail _
    (subst (λ us. Lexes (group_text x ++ (more ++ tail)) us) (sym (append_assoc (group_tokens (x / 2 ^ 61) x) (body_tokens (map draw js)) ts))
    (lexes_group (x / 2 ^ 61) x (more ++ tail) (body_tokens (map draw js) ++ ts) (lexes_body draw js rest ts h)))

lexes_client : (n c : ℕ) (rest : List ℕ) (ts : List Token) → piece.Heads c → Lexes rest ts → Lexes (client_text n c ++ rest) (client_tokens c (draws n c) ++ ts)
lexes_client n c rest ts head h =
    let front = codes "client c" ++ decimal c ++ codes " {\n" in
    let body = lexes_body (λ (j : ℕ). number_at n (c * n + j + 1)) (range_with_len 0 n) rest ts h in
    regrouped (front ++ groups_text n c n) (codes "flush;\n}\n") rest _
    (regrouped front (groups_text n c n) (codes "flush;\n}\n" ++ rest) _ (head _ _ body))

-- ---- the whole
pub lexes_drill : (n : ℕ) → Lexes (drill_text n) (drill_tokens (draws n 0) (draws n 1) (draws n 2) (draws n 3))
lexes_drill n =
    let d = lexes_client n 3 [] [] piece.lexes_client_3 lexes_nothing in
    let c = lexes_client n 2 _ _ piece.lexes_client_2 d in
    let b = lexes_client n 1 _ _ piece.lexes_client_1 c in
    let a = lexes_client n 0 _ _ piece.lexes_client_0 b in
    piece.lexes_schema _ _ a
