-- A drill is within the limits.
use Rattle.std.proofs.Common.{◌≡◌, ℕ, zero, suc, ◌/◌, ◌%◌, ◌^◌, ◌<◌, ◌≤◌, List, [], ◌∷◌, ◌++◌, subst, sym, arith}
use Rattle.std.specs.Prelude.{⊤, codes, true}
use Rattle.std.specs.List.{AllByRecursion}
use Rattle.std.proofs.lemmas.Fmt.{length-decimal-le}
use Rattle.drill_text.specs.Drills.{amount_of}
use Rattle.source_tokens.specs.declared.token.Token.{Token}
use Rattle.source_tokens.specs.declared.token.Token.TheVariants.{Name, Number, Text, Fixed}
use Rattle.source_tree.specs.Forms.{height_number, height_text, height_truth, height_place_name, height_place_field, height_place_entry, height_create, height_update, height_delete, height_if, height_for_all, height_print, height_yield, height_flush}
use Rattle.source_tree.specs.Heights.{height, statement_height, body_height}
use Rattle.source_tree.specs.Limits.{IsNumber, IsShort, IsWithin}
use Rattle.source_tree.specs.Words.{program_words, numbers_of, texts_of}
use Rattle.source_tree.specs.declared.expression.Expression.TheVariants as e
use Rattle.source_tree.specs.declared.expression.Place.TheVariants as place
use Rattle.source_tree.specs.declared.statement.Operation.TheVariants as o
use Rattle.source_tree.specs.declared.statement.Statement.TheVariants as s
use Rattle.drill_source.proofs.Scanned.{amount_below}
use Rattle.drill_source.proofs.Trees.{amount, key_bytes, create_block, group_tokens, group_tree, body_tokens, body_tree, client_tokens, drill_tokens, drill_tree}

-- ---- numbers and texts
abbrev Suits : List Token → Type 0
Suits [] = ⊤
Suits (Name x ∷ ts) = Suits ts
Suits (Number n ∷ ts) = IsNumber n × Suits ts
Suits (Text bytes ∷ ts) = IsShort bytes × Suits ts
Suits (Fixed t ∷ ts) = Suits ts

numbers : (ts : List Token) → Suits ts → AllByRecursion IsNumber (numbers_of ts)
numbers [] h = tt
numbers (Name x ∷ ts) h = numbers ts h
numbers (Number n ∷ ts) h = (h.0, numbers ts h.1)
numbers (Text bytes ∷ ts) h = numbers ts h.1
numbers (Fixed t ∷ ts) h = numbers ts h

texts : (ts : List Token) → Suits ts → AllByRecursion IsShort (texts_of ts)
texts [] h = tt
texts (Name x ∷ ts) h = texts ts h
texts (Number n ∷ ts) h = texts ts h.1
texts (Text bytes ∷ ts) h = (h.0, texts ts h.1)
texts (Fixed t ∷ ts) h = texts ts h

joined : (us vs : List Token) → Suits us → Suits vs → Suits (us ++ vs)
joined [] vs h i = i
joined (Name x ∷ us) vs h i = joined us vs h i
joined (Number n ∷ us) vs h i = (h.0, joined us vs h.1 i)
joined (Text bytes ∷ us) vs h i = (h.0, joined us vs h.1 i)
joined (Fixed t ∷ us) vs h i = joined us vs h i

number : (x : ℕ) → IsNumber (amount x)
number x = let l = amount_below x in omega (arith, l)

short : (x : ℕ) → IsShort (amount_of x)
short x = let l = amount_below x in let m = length-decimal-le 2 (amount x) (omega arith) (omega arith) (omega arith) in omega (arith, m)

below_ten : (n : ℕ) → n % 10 < 10
below_ten n = omega arith

key : (x : ℕ) → IsShort (key_bytes x)
key x = let l = below_ten (x / 2 ^ 50) in let m = length-decimal-le 1 (x / 2 ^ 50 % 10) (omega arith) (omega arith) (omega arith) in omega (arith, m)

group_suits : (bits x : ℕ) → Suits (group_tokens bits x)
group_suits zero x = (number x, tt)
group_suits (suc zero) x = (key x, (number x, tt))
group_suits (suc (suc zero)) x = (key x, (short x, tt))
group_suits (suc (suc (suc zero))) x = (number x, tt)
group_suits (suc (suc (suc (suc zero)))) x = tt
group_suits (suc (suc (suc (suc (suc zero))))) x = tt
group_suits (suc (suc (suc (suc (suc (suc zero)))))) x = tt
group_suits (suc (suc (suc (suc (suc (suc (suc bits))))))) x = tt

body_suits : (xs : List ℕ) → Suits (body_tokens xs)
body_suits [] = tt
body_suits (x ∷ xs) = joined (group_tokens (x / 2 ^ 61) x) (body_tokens xs) (group_suits (x / 2 ^ 61) x) (body_suits xs)

suits : (ks ls ms ns : List ℕ) → Suits (drill_tokens ks ls ms ns)
suits ks ls ms ns =
    let fourth = client_tokens 3 ns ++ [] in
    let third = client_tokens 2 ms ++ fourth in
    let second = client_tokens 1 ls ++ third in
    joined (client_tokens 0 ks) second (body_suits ks) (joined (client_tokens 1 ls) third (body_suits ls) (joined (client_tokens 2 ms) fourth (body_suits ms) (joined (client_tokens 3 ns) [] (body_suits ns) tt)))

-- ---- heights
create_low : (x : ℕ) → body_height (create_block x) ≤ 3
create_low x =
    omega (arith, height_create (codes "o") (codes "Order") [], height_update (place.Field (codes "o") (codes "count")) o.Add (e.Number (amount x)), height_place_field (codes "o") (codes "count"), height_number (amount x))

entry_low : (key property : List ℕ) → height (e.Place (place.Entry (codes "Stock") (e.Text key ∷ []) property)) ≡ 2
entry_low key property = omega (arith, height_place_entry (codes "Stock") (e.Text key ∷ []) property, height_text key)

group_low : (bits x : ℕ) → statement_height (group_tree bits x) ≤ 4
group_low zero x = omega (arith, height_update (place.Name (codes "total")) o.Add (e.Number (amount x)), height_place_name (codes "total"), height_number (amount x))
group_low (suc zero) x =
    let entry = place.Entry (codes "Stock") (e.Text (key_bytes x) ∷ []) (codes "n") in
    omega (arith, height_update entry o.Add (e.Number (amount x)), entry_low (key_bytes x) (codes "n"), height_number (amount x))
group_low (suc (suc zero)) x =
    let entry = place.Entry (codes "Stock") (e.Text (key_bytes x) ∷ []) (codes "note") in
    omega (arith, height_update entry o.SetIfEmpty (e.Text (amount_of x)), entry_low (key_bytes x) (codes "note"), height_text (amount_of x))
group_low (suc (suc (suc zero))) x = omega (arith, height_if (e.Truth true) (create_block x), height_truth true, create_low x)
group_low (suc (suc (suc (suc zero)))) x = omega (arith, height_print (e.Place (place.Name (codes "total"))), height_place_name (codes "total"))
group_low (suc (suc (suc (suc (suc zero))))) x = omega (arith, height_for_all (codes "o") (codes "Order") (s.Delete (codes "o") ∷ []), height_delete (codes "o"))
group_low (suc (suc (suc (suc (suc (suc zero)))))) x = omega (arith, height_yield)
group_low (suc (suc (suc (suc (suc (suc (suc bits))))))) x = omega (arith, height_flush)

body_low : (xs : List ℕ) → body_height (body_tree xs) ≤ 4
body_low [] = omega (arith, height_flush)
body_low (x ∷ xs) = omega (arith, group_low (x / 2 ^ 61) x, body_low xs)

low : (xs : List ℕ) → body_height (body_tree xs) ≤ 32
low xs = let h = body_low xs in omega (arith, h)

-- ---- the whole
pub limited : (ks ls ms ns : List ℕ) → numbers_of (program_words (drill_tree ks ls ms ns)) ≡ numbers_of (drill_tokens ks ls ms ns)
    → texts_of (program_words (drill_tree ks ls ms ns)) ≡ texts_of (drill_tokens ks ls ms ns) → IsWithin (drill_tree ks ls ms ns)
limited ks ls ms ns same_numbers same_texts = record {
  numbers = subst (AllByRecursion IsNumber) (sym same_numbers) (numbers (drill_tokens ks ls ms ns) (suits ks ls ms ns));
  texts = subst (AllByRecursion IsShort) (sym same_texts) (texts (drill_tokens ks ls ms ns) (suits ks ls ms ns));
  height = (low ks, (low ls, (low ms, (low ns, tt))));
  names = omega arith;
  clients = omega arith;
  steps = omega arith;
}
