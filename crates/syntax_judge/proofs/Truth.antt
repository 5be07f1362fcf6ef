-- What tests say that come out true.
use Rattle.std.proofs.Common.{◌≡◌, ◌⊎◌, inl, inr, Bool, true, false, ◌&&◌, ◌||◌, List, [], ◌∷◌, Option, Some, None, is_none, refl, ap, sym, subst, ◌∙◌, true≢false}
use Rattle.std.specs.List.{list_all, list_any}
use denote.Enum.Bare.{sameb, same_true, true_same}
use Rattle.source_tokens.specs.contracts.terminal.Terminal.{the_type}
use Rattle.syntax_judge.specs.contracts.symbol.Part.{the_type as the_part}
use Rattle.syntax_judge.specs.declared.kind.Kind.{Kind}
use Rattle.syntax_judge.specs.declared.kind.Kind.TheVariants as k
use Rattle.source_tokens.specs.declared.terminal.Terminal.TheVariants as t
use Rattle.syntax_judge.specs.declared.symbol.Symbol.{Symbol}
use Rattle.syntax_judge.specs.declared.symbol.Symbol.TheVariants as s
use Rattle.syntax_judge.proofs.Checks.{kinds, has, same_symbols, implies}
use Rattle.syntax_judge.specs.Programs.{IsOneOf}
use Rattle.syntax_judge.specs.Tables.{is_same_kind, is_empty}
use Rattle.syntax_judge.specs.declared.symbol.Symbol.TheVariants.{Open}

pub never : {A : Type 0} → false ≡ true → A
never h = absurd (true≢false (sym h))

pub both : (a b : Bool) → (a && b) ≡ true → (a ≡ true) × (b ≡ true)
both true b h = (refl, h)
both false b h = never h

pub either : (a b : Bool) → (a || b) ≡ true → (a ≡ true) ⊎ (b ≡ true)
either true b h = inl refl
either false b h = inr h

pub follows : (a b : Bool) → implies a b ≡ true → a ≡ true → b ≡ true
follows true b h e = h
follows false b h e = never e

pub all_at : {A : Type 0} (f : A → Bool) (xs : List A) (x : A) → list_all f xs ≡ true → IsOneOf x xs → f x ≡ true
all_at f [] x h i = absurd i
all_at f (y ∷ ys) x h (inl e) = subst (λ z. f z ≡ true) e (both (f y) (list_all f ys) h).0
all_at f (y ∷ ys) x h (inr i) = all_at f ys x (both (f y) (list_all f ys) h).1 i

-- a stronger test for each is one for all
pub all_by : {A : Type 0} (f g : A → Bool) (xs : List A) → ((x : A) → f x ≡ true → g x ≡ true) → list_all f xs ≡ true → list_all g xs ≡ true
all_by f g [] weaker h = refl
all_by f g (x ∷ xs) weaker h = let parts = both (f x) (list_all f xs) h in ap (λ b. b && list_all g xs) (weaker x parts.0) ∙ all_by f g xs weaker parts.1

pub same_is : (j k : Kind) → is_same_kind j k ≡ true → j ≡ k
same_is k.Name k.Name h = refl
same_is k.Number k.Number h = refl
same_is k.Text k.Text h = refl
same_is (k.Fixed a) (k.Fixed b) h = ap k.Fixed (same_true the_type tt a b h)
same_is _ _ h = never h

pub is_same : (k : Kind) → is_same_kind k k ≡ true
is_same k.Name = refl
is_same k.Number = refl
is_same k.Text = refl
is_same (k.Fixed a) = true_same the_type a a refl

pub has_is : (ks : List Kind) (k : Kind) → has ks k ≡ true → IsOneOf k ks
has_is [] k h = never h
has_is (j ∷ ks) k h = elim (either (is_same_kind k j) (has ks k) h) [ inl e ↦ inl (sym (same_is k j e)) | inr e ↦ inr (has_is ks k e) ]

has_kind : (k : Kind) → has kinds k ≡ true
has_kind k.Name = refl
has_kind k.Number = refl
has_kind k.Text = refl
has_kind (k.Fixed t.Add) = refl
has_kind (k.Fixed _) = refl

pub is_kind : (k : Kind) → IsOneOf k kinds
is_kind k = has_is kinds k (has_kind k)

pub same_symbols_is : (a b : List Symbol) → same_symbols a b ≡ true → a ≡ b
same_symbols_is [] [] h = refl
same_symbols_is (s.Token j ∷ a) (s.Token k ∷ b) h =
    let parts = both (is_same_kind j k) (same_symbols a b) h in
    ap (λ k. s.Token k ∷ a) (same_is j k parts.0) ∙ ap (λ st. s.Token k ∷ st) (same_symbols_is a b parts.1)
same_symbols_is (s.Open p ∷ a) (s.Open q ∷ b) h =
    let parts = both (sameb the_part p q) (same_symbols a b) h in
    ap (λ p. s.Open p ∷ a) (same_true the_part tt p q parts.0) ∙ ap (λ st. s.Open q ∷ st) (same_symbols_is a b parts.1)
same_symbols_is _ _ h = never h

pub empty_is : (ways : List (List Symbol)) → list_any is_empty ways ≡ true → IsOneOf [] ways
empty_is [] h = never h
empty_is ([] ∷ ways) h = inl refl
empty_is ((s ∷ st) ∷ ways) h = inr (empty_is ways h)

got : {A : Type 0} → Option A → A → A
got (Some x) y = x
got None y = y

pub some_one : {A : Type 0} (a b : A) → Some a ≡ Some b → a ≡ b
unfolding got
some_one a b e = ap (λ o. got o a) e

pub none_some : {A X : Type 0} (a : A) → None ≡ Some a → X
none_some a e = absurd (true≢false (ap is_none e))
