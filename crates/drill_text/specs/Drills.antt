-- The source text of a drill: four clients whose statements a number tells.
use Rattle.std.specs.Prelude.{◌≡◌, refl, ℕ, zero, suc, ◌+◌, ◌*◌, ◌/◌, ◌%◌, ◌^◌, List, [], ◌∷◌, ◌++◌, codes, decimal, slice_index_or}
use Rattle.std.specs.Fmt.{digits}
use Rattle.std.specs.List.{flat_map, range_with_len}

-- the number that follows a number, and draw k behind a seed
abbrev pub number_after : ℕ → ℕ
number_after x = (x * 6364136223846793005 + 1442695040888963407) % 2 ^ 64

abbrev pub number_at : ℕ → ℕ → ℕ
number_at seed zero = seed
number_at seed (suc k) = number_after (number_at seed k)

-- what a draw says of its group: a number below 100, and a digit
abbrev pub amount_of : ℕ → List ℕ
amount_of x = decimal (x / 2 ^ 40 % 100)

abbrev pub item_of : ℕ → List ℕ
item_of x = decimal (x / 2 ^ 50 % 10)

-- the line of a group is by the top three bits of its draw
abbrev pub group_by : ℕ → ℕ → List ℕ
group_by bits x = slice_index_or (
    (codes "total.add(" ++ amount_of x ++ codes ");\n")
    ∷ (codes "Stock[\"k" ++ item_of x ++ codes "\"].n.add(" ++ amount_of x ++ codes ");\n")
    ∷ (codes "Stock[\"k" ++ item_of x ++ codes "\"].note.setIfEmpty(\"" ++ amount_of x ++ codes "\");\n")
    ∷ (codes "if true { var o = new Order; o.count.add(" ++ amount_of x ++ codes "); }\n")
    ∷ codes "print total;\n"
    ∷ codes "foreach o in all Order { delete o; }\n"
    ∷ codes "yield;\n"
    ∷ []) bits (codes "flush;\n")

abbrev pub group_text : ℕ → List ℕ
group_text x = group_by (x / 2 ^ 61) x

-- the first `count` groups of client c; group j has draw c * n + j + 1 of the sequence that n begins
abbrev pub groups_text : ℕ → ℕ → ℕ → List ℕ
groups_text n c count = flat_map (λ j. group_text (number_at n (c * n + j + 1))) (range_with_len 0 count)

abbrev pub client_text : ℕ → ℕ → List ℕ
client_text n c = codes "client c" ++ decimal c ++ codes " {\n" ++ groups_text n c n ++ codes "flush;\n}\n"

abbrev pub schema_text : List ℕ
schema_text = codes "schema { global total : CInt; array Stock[item: string] { n: CInt; note: CString } entity Order { count: CInt } }\n"

abbrev pub drill_text : ℕ → List ℕ
drill_text n = schema_text ++ flat_map (client_text n) (range_with_len 0 4)

-- the drill of 1, whose draws have the bits 3, 4, 5 and 3
pub example_drill : drill_text 1 ≡ schema_text
    ++ codes "client c0 {\nif true { var o = new Order; o.count.add(71); }\nflush;\n}\n"
    ++ codes "client c1 {\nprint total;\nflush;\n}\n"
    ++ codes "client c2 {\nforeach o in all Order { delete o; }\nflush;\n}\n"
    ++ codes "client c3 {\nif true { var o = new Order; o.count.add(81); }\nflush;\n}\n"
unfolding digits
example_drill = refl
