-- How values are printed.
use Rattle.std.specs.Prelude.{ℕ, ◌==◌, ◌||◌, Bool, true, false, List, [], ◌∷◌, ◌++◌, if◌then◌else◌, codes, decimal}
use Rattle.std.specs.Fmt.{signed_decimal}
use Rattle.std.specs.List.{flat_map, join_by}
use Rattle.cloud_base.specs.Values.{Id}
use Rattle.cloud_base.specs.declared.key.Key.{Key}
use Rattle.cloud_base.specs.declared.update.Answer.{Answer}

-- a byte of a text: a backslash stands before a quote and before a backslash
abbrev pub escaped : ℕ → List ℕ
escaped byte = if (byte == 34) || (byte == 92) then 92 ∷ byte ∷ [] else byte ∷ []

-- a text, in quotes
abbrev pub quoted : List ℕ → List ℕ
quoted bytes = codes "\"" ++ flat_map escaped bytes ++ codes "\""

-- `@client.serial`
abbrev pub id_text : Id → List ℕ
id_text id = codes "@" ++ decimal id.client ++ codes "." ++ decimal id.serial

abbrev pub key_text : Key → List ℕ
key_text (Key.Int number) = signed_decimal number
key_text (Key.Text bytes) = quoted bytes
key_text (Key.Ref id) = id_text id

-- one after another, with a comma and a space between them
abbrev pub keys_text : List Key → List ℕ
keys_text = join_by key_text (codes ", ")

-- a key list: `("a", 1)`, and `()` where it has no keys
abbrev pub tuple_text : List Key → List ℕ
tuple_text keys = codes "(" ++ keys_text keys ++ codes ")"

abbrev pub truth_text : Bool → List ℕ
truth_text true = codes "true"
truth_text false = codes "false"

abbrev pub answer_text : Answer → List ℕ
answer_text (Answer.Int number) = signed_decimal number
answer_text (Answer.Text bytes) = quoted bytes
answer_text (Answer.Truth truth) = truth_text truth
answer_text (Answer.Id id) = id_text id
answer_text (Answer.Ids ids) = codes "[" ++ join_by id_text (codes ", ") ids ++ codes "]"
answer_text (Answer.Tuples tuples) = codes "[" ++ join_by tuple_text (codes ", ") tuples ++ codes "]"
