-- Counting, one item after another, and what holds of each of them.
use Rattle.std.proofs.Common.{◌≡◌, ℕ, ◌≤◌, ◌<◌, ◌+◌, List, [], ◌∷◌, ◌++◌, length, drop, refl, ap, sym, ◌∙◌, subst, arith, map}
use Rattle.std.specs.Prelude.{fold, sum, IsTrue, ◌↔◌, true, false}
use Rattle.std.proofs.lemmas.List.{drop_all}
use Rattle.std.specs.List.{AllByRecursion}
use Rattle.source_tokens.specs.Scans.{tokens_of}
use Rattle.source_tokens.specs.declared.token.Placed.{Placed}
use Rattle.source_tokens.specs.declared.token.Token.{Token}
use Rattle.source_tokens.specs.declared.token.Token.TheVariants.{Name, Number, Text, Fixed}
use Rattle.source_tree.specs.Limits.{IsNumber, IsShort}
use Rattle.source_tree.specs.Words.{numbers_of, texts_of}

numbers_first : (token : Token) (tokens : List Token) → numbers_of (token ∷ tokens) ≡ numbers_of (token ∷ []) ++ numbers_of tokens
numbers_first (Name x) tokens = refl
numbers_first (Number n) tokens = refl
numbers_first (Text bytes) tokens = refl
numbers_first (Fixed w) tokens = refl

texts_first : (token : Token) (tokens : List Token) → texts_of (token ∷ tokens) ≡ texts_of (token ∷ []) ++ texts_of tokens
texts_first (Name x) tokens = refl
texts_first (Number n) tokens = refl
texts_first (Text bytes) tokens = refl
texts_first (Fixed w) tokens = refl

pub both : {A : Type 0} (P : A → Type 0) (xs ys : List A) → AllByRecursion P xs → AllByRecursion P ys → AllByRecursion P (xs ++ ys)
both P [] ys h k = k
both P (x ∷ xs) ys h k = (h.0, both P xs ys h.1 k)

parts : {A : Type 0} (P : A → Type 0) (xs ys : List A) → AllByRecursion P (xs ++ ys) → AllByRecursion P xs × AllByRecursion P ys
parts P [] ys h = (tt, h)
parts P (x ∷ xs) ys h = let more = parts P xs ys h.1 in ((h.0, more.0), more.1)

-- so far all hold, and the tokens that are left tell of all
abbrev pub NumbersOn : List Placed → ℕ → Type 0
NumbersOn tokens at = AllByRecursion IsNumber (numbers_of (tokens_of (drop at tokens))) ↔ AllByRecursion IsNumber (numbers_of (tokens_of tokens))

abbrev pub TextsOn : List Placed → ℕ → Type 0
TextsOn tokens at = AllByRecursion IsShort (texts_of (tokens_of (drop at tokens))) ↔ AllByRecursion IsShort (texts_of (tokens_of tokens))

numbers_split : (tokens : List Placed) (at : ℕ) (p : Placed) → drop at tokens ≡ p ∷ drop (at + 1) tokens → numbers_of (tokens_of (drop at tokens)) ≡ numbers_of (p.token ∷ []) ++ numbers_of (tokens_of (drop (at + 1) tokens))
numbers_split tokens at p is = ap (λ ts. numbers_of (tokens_of ts)) is ∙ numbers_first p.token (tokens_of (drop (at + 1) tokens))

texts_split : (tokens : List Placed) (at : ℕ) (p : Placed) → drop at tokens ≡ p ∷ drop (at + 1) tokens → texts_of (tokens_of (drop at tokens)) ≡ texts_of (p.token ∷ []) ++ texts_of (tokens_of (drop (at + 1) tokens))
texts_split tokens at p is = ap (λ ts. texts_of (tokens_of ts)) is ∙ texts_first p.token (tokens_of (drop (at + 1) tokens))

pub numbers_go : (tokens : List Placed) (at : ℕ) (p : Placed) → NumbersOn tokens at → drop at tokens ≡ p ∷ drop (at + 1) tokens → AllByRecursion IsNumber (numbers_of (p.token ∷ [])) → NumbersOn tokens (at + 1)
numbers_go tokens at p before is here = (
  λ h. before.0 (subst (AllByRecursion IsNumber) (sym (numbers_split tokens at p is)) (both IsNumber _ _ here h)),
  λ h. (parts IsNumber (numbers_of (p.token ∷ [])) _ (subst (AllByRecursion IsNumber) (numbers_split tokens at p is) (before.1 h))).1,
)

pub numbers_stop : (tokens : List Placed) (at : ℕ) (p : Placed) → NumbersOn tokens at → drop at tokens ≡ p ∷ drop (at + 1) tokens → ¬ AllByRecursion IsNumber (numbers_of (p.token ∷ [])) → IsTrue false ↔ AllByRecursion IsNumber (numbers_of (tokens_of tokens))
numbers_stop tokens at p before is here = (
  λ h. absurd (cc h),
  λ h. absurd (here (parts IsNumber (numbers_of (p.token ∷ [])) _ (subst (AllByRecursion IsNumber) (numbers_split tokens at p is) (before.1 h))).0),
)

pub numbers_end : (tokens : List Placed) (at : ℕ) → NumbersOn tokens at → length tokens ≤ at → IsTrue true ↔ AllByRecursion IsNumber (numbers_of (tokens_of tokens))
numbers_end tokens at before all = (
  λ h. before.0 (subst (λ ts. AllByRecursion IsNumber (numbers_of (tokens_of ts))) (sym (drop_all at tokens all)) tt),
  λ h. refl,
)

pub texts_go : (tokens : List Placed) (at : ℕ) (p : Placed) → TextsOn tokens at → drop at tokens ≡ p ∷ drop (at + 1) tokens → AllByRecursion IsShort (texts_of (p.token ∷ [])) → TextsOn tokens (at + 1)
texts_go tokens at p before is here = (
  λ h. before.0 (subst (AllByRecursion IsShort) (sym (texts_split tokens at p is)) (both IsShort _ _ here h)),
  λ h. (parts IsShort (texts_of (p.token ∷ [])) _ (subst (AllByRecursion IsShort) (texts_split tokens at p is) (before.1 h))).1,
)

pub texts_stop : (tokens : List Placed) (at : ℕ) (p : Placed) → TextsOn tokens at → drop at tokens ≡ p ∷ drop (at + 1) tokens → ¬ AllByRecursion IsShort (texts_of (p.token ∷ [])) → IsTrue false ↔ AllByRecursion IsShort (texts_of (tokens_of tokens))
texts_stop tokens at p before is here = (
  λ h. absurd (cc h),
  λ h. absurd (here (parts IsShort (texts_of (p.token ∷ [])) _ (subst (AllByRecursion IsShort) (texts_split tokens at p is) (before.1 h))).0),
)

pub texts_end : (tokens : List Placed) (at : ℕ) → TextsOn tokens at → length tokens ≤ at → IsTrue true ↔ AllByRecursion IsShort (texts_of (tokens_of tokens))
texts_end tokens at before all = (
  λ h. before.0 (subst (λ ts. AllByRecursion IsShort (texts_of (tokens_of ts))) (sym (drop_all at tokens all)) tt),
  λ h. refl,
)

-- what room is left behind the items before a place
abbrev pub RoomLeft : {A : Type 0} → (A → ℕ) → ℕ → List A → ℕ → ℕ → Type 0
RoomLeft f most xs at room = sum (map f xs) + room ≡ most + sum (map f (drop at xs))

pub added : (n : ℕ) (ns : List ℕ) → fold ◌+◌ n ns ≡ n + fold ◌+◌ 0 ns
added n [] = omega arith
added n (m ∷ ns) = omega (arith, added (n + m) ns, added (0 + m) ns)

sum_split : {A : Type 0} (f : A → ℕ) (xs : List A) (at : ℕ) (x : A) → drop at xs ≡ x ∷ drop (at + 1) xs → sum (map f (drop at xs)) ≡ f x + sum (map f (drop (at + 1) xs))
sum_split f xs at x is = ap (λ ys. sum (map f ys)) is ∙ added (0 + f x) (map f (drop (at + 1) xs)) ∙ omega arith

pub room_go : {A : Type 0} (f : A → ℕ) (most : ℕ) (xs : List A) (at room left : ℕ) (x : A) → RoomLeft f most xs at room → drop at xs ≡ x ∷ drop (at + 1) xs → left + f x ≡ room → RoomLeft f most xs (at + 1) left
room_go f most xs at room left x before is h = omega (arith, before, sum_split f xs at x is, h)

pub room_stop : {A : Type 0} (f : A → ℕ) (most : ℕ) (xs : List A) (at room : ℕ) (x : A) → RoomLeft f most xs at room → drop at xs ≡ x ∷ drop (at + 1) xs → room < f x → IsTrue false ↔ (sum (map f xs) ≤ most)
room_stop f most xs at room x before is h = (λ k. absurd (cc k), λ k. absurd (omega (arith, before, sum_split f xs at x is, h, k)))

pub room_end : {A : Type 0} (f : A → ℕ) (most : ℕ) (xs : List A) (at room : ℕ) → RoomLeft f most xs at room → length xs ≤ at → IsTrue true ↔ (sum (map f xs) ≤ most)
room_end f most xs at room before all =
    let none : sum (map f (drop at xs)) ≡ 0 = ap (λ ys. sum (map f ys)) (drop_all at xs all) in
    (λ h. omega (arith, before, none), λ h. refl)
