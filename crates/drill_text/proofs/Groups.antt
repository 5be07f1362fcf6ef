-- Groups and clients, one after another.
use Rattle.std.proofs.Common.{◌≡◌, ap, sym, ◌∙◌, ℕ, zero, suc, ◌+◌, ◌*◌, List, [], ◌∷◌, ◌++◌, append-nil, arith}
use Rattle.std.specs.List.{flat_map, range_with_len}
use Rattle.std.proofs.lemmas.List.{append_assoc}
use Rattle.std.proofs.lemmas.Grind.{flat_map-append}
use Rattle.drill_text.specs.Drills.{number_after, number_at, group_text, groups_text, client_text}

range_more : (a n : ℕ) → range_with_len a (n + 1) ≡ range_with_len a n ++ (a + n) ∷ []
range_more a zero = let here : a ≡ a + 0 = omega arith in ap (λ (k : ℕ). k ∷ []) here
range_more a (suc n) =
    let there : (a + 1) + n ≡ a + suc n = omega arith in
    let more : suc n + 1 ≡ suc (n + 1) = omega arith in
    ap (range_with_len a) more ∙ ap (λ (l : List ℕ). a ∷ l) (range_more (a + 1) n ∙ ap (λ (k : ℕ). range_with_len (a + 1) n ++ k ∷ []) there)

each_more : (f : ℕ → List ℕ) (n : ℕ) → flat_map f (range_with_len 0 (n + 1)) ≡ flat_map f (range_with_len 0 n) ++ f n
each_more f n =
    let here : 0 + n ≡ n = omega arith in
    ap (flat_map f) (range_more 0 n) ∙ flat_map-append f (range_with_len 0 n) ((0 + n) ∷ [])
    ∙ ap (λ (l : List ℕ). flat_map f (range_with_len 0 n) ++ l) (append-nil (f (0 + n)) ∙ ap f here)

-- one group more
pub groups_more : (n c count : ℕ) → groups_text n c (count + 1) ≡ groups_text n c count ++ group_text (number_at n (c * n + count + 1))
groups_more n c count = each_more (λ j. group_text (number_at n (c * n + j + 1))) count

pub number_more : (n k : ℕ) → number_at n (k + 1) ≡ number_after (number_at n k)
number_more n k = let next : k + 1 ≡ suc k = omega arith in ap (number_at n) next

-- one client more
pub clients_more : (n count : ℕ) → flat_map (client_text n) (range_with_len 0 (count + 1)) ≡ flat_map (client_text n) (range_with_len 0 count) ++ client_text n count
clients_more n count = each_more (client_text n) count

-- one group more is written
pub group_step : (old before now : List ℕ) (n c count x y : ℕ) → before ≡ old ++ groups_text n c count → x ≡ number_at n (c * n + count) → y ≡ number_after x
    → now ≡ before ++ group_text y → (now ≡ old ++ groups_text n c (count + 1)) × (y ≡ number_at n (c * n + (count + 1)))
group_step old before now n c count x y text number next written =
    let place : c * n + count + 1 ≡ c * n + (count + 1) = omega arith in
    let drawn : y ≡ number_at n (c * n + count + 1) = next ∙ ap number_after number ∙ sym (number_more n (c * n + count)) in (
      written ∙ ap (λ (l : List ℕ). l ++ group_text y) text ∙ append_assoc old (groups_text n c count) (group_text y)
          ∙ ap (λ (k : ℕ). old ++ (groups_text n c count ++ group_text k)) drawn ∙ ap (λ (l : List ℕ). old ++ l) (sym (groups_more n c count)),
      drawn ∙ ap (number_at n) place,
    )

-- one client more is written
pub client_step : (first old now : List ℕ) (n count last : ℕ) → old ≡ first ++ flat_map (client_text n) (range_with_len 0 count) → now ≡ old ++ client_text n count
    → last ≡ number_at n (count * n + n)
    → (now ≡ first ++ flat_map (client_text n) (range_with_len 0 (count + 1))) × (last ≡ number_at n ((count + 1) * n))
client_step first old now n count last text written number =
    let place : count * n + n ≡ (count + 1) * n = omega arith in (
      written ∙ ap (λ (l : List ℕ). l ++ client_text n count) text
          ∙ append_assoc first (flat_map (client_text n) (range_with_len 0 count)) (client_text n count) ∙ ap (λ (l : List ℕ). first ++ l) (sym (clients_more n count)),
      number ∙ ap (number_at n) place,
    )
