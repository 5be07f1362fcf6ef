-- One token of a derivation: what is left of the stack stands for the tokens behind it.
use Rattle.std.proofs.Common.{◌≡◌, Bool, true, false, not, ◌&&◌, List, [], ◌∷◌, ◌++◌, Option, Some, None, is_some, refl, ap, sym, subst, ◌∙◌, append-nil}
use Rattle.std.specs.List.{list_all}
use Rattle.std.proofs.lemmas.List.Folds.{list_all-append}
use Rattle.syntax_judge.specs.declared.kind.Kind.{Kind}
use Rattle.syntax_judge.specs.declared.symbol.Part.{Part}
use Rattle.syntax_judge.specs.declared.symbol.Part.TheVariants as p
use Rattle.syntax_judge.specs.declared.symbol.Symbol.{Symbol}
use Rattle.syntax_judge.specs.declared.symbol.Symbol.TheVariants as s
use Rattle.syntax_judge.proofs.Truth.{never, both, follows, all_at, all_by, is_same, has_is, is_kind, same_symbols_is, none_some}
use Rattle.syntax_judge.proofs.Over.{over, advance_over}
use Rattle.syntax_judge.proofs.Carried.{Carries, carried}
use Rattle.syntax_judge.proofs.Checks.{kinds, has, clash, starts, fine, agrees, implies, way_fits, way_passes, passes}
use Rattle.syntax_judge.specs.Grammar.{productions}
use Rattle.syntax_judge.specs.Programs.{IsOneOf, Derives, nothing, takes, becomes}
use Rattle.syntax_judge.specs.Tables.{is_same_kind, is_nullable, token_left, table_at, table, most_deep, advance, are_nullable}
use Rattle.syntax_judge.specs.declared.symbol.Symbol.TheVariants.{Open}

-- each part passes its test
passed : (q : Part) → passes q ≡ true
unfolding table_at
passed p.Program = refl
passed _ = refl

pub way_passed : (q : Part) (way : List Symbol) → IsOneOf way (productions q) → way_passes q way ≡ true
way_passed q way i = all_at (way_passes q) (productions q) way (both (list_all (way_passes q) (productions q)) _ (passed q)).0 i

-- the tokens behind a stack
abbrev pub Stepped : List Symbol → List Kind → Type 0
Stepped st [] = are_nullable st ≡ true
Stepped st (k ∷ ts) = (after : List Symbol) × (advance st k ≡ Some after) × Derives after ts

-- ---- a fine stack stays fine

no_start_by : (outer : List Kind) (st : List Symbol) (k : Kind) (o : Option (List Symbol)) (b : Bool) → (not (is_some o) && implies b (has outer k)) ≡ true
    → (has outer k ≡ true → not (starts st k) ≡ true) → not (is_some (over table st k b o)) ≡ true
no_start_by outer st k (Some q) b h f = never h
no_start_by outer st k None true h f = f h
no_start_by outer st k None false h f = refl

fine_over : (outer : List Kind) (way st : List Symbol) → way_fits outer way ≡ true → list_all (λ k. not (starts st k)) outer ≡ true → fine st ≡ true → fine (way ++ st) ≡ true
fine_over outer [] st w apart f = f
fine_over outer (x ∷ way) st w apart f =
    let parts = both (list_all (λ k. not (starts way k) && implies (are_nullable way) (has outer k)) (clash x)) (way_fits outer way) w in
    let here : list_all (λ k. not (starts (way ++ st) k)) (clash x) ≡ true =
    all_by (λ k. not (starts way k) && implies (are_nullable way) (has outer k)) (λ k. not (starts (way ++ st) k)) (clash x)
    (λ k h. ap (λ o. not (is_some o)) (advance_over table way st k)
    ∙ no_start_by outer st k (advance way k) (are_nullable way) h (λ e. all_at (λ k. not (starts st k)) outer k apart (has_is outer k e)))
    parts.0 in
    ap (λ b. b && fine (way ++ st)) here ∙ fine_over outer way st parts.1 apart f

pub fine_way : (q : Part) (way st : List Symbol) → IsOneOf way (productions q) → fine (s.Open q ∷ st) ≡ true → fine (way ++ st) ≡ true
fine_way q way st i f =
    let parts = both (list_all (λ k. not (starts st k)) (clash (s.Open q))) (fine st) f in
    let test = both (list_all (λ k. agrees (advance way k) (table (s.Open q) k)) kinds) _ (way_passed q way i) in
    fine_over (clash (s.Open q)) way st (both (way_fits (clash (s.Open q)) way) _ test.1).0 parts.0 parts.1

-- ---- from a derivation to the step

grown_by : (st : List Symbol) (k : Kind) (after : List Symbol) (o r : Option (List Symbol)) (a n : Bool) → agrees o r ≡ true → implies a n ≡ true
    → (n ≡ true → is_some r ≡ true → not (starts st k) ≡ true) → over table st k a o ≡ Some after
    → elim r [ Some left ↦ Some (left ++ st) | None ↦ elim n [ true ↦ advance st k | false ↦ None ] ] ≡ Some after
grown_by st k after (Some q) (Some r) a n same empty apart h = ap (λ u. Some (u ++ st)) (sym (same_symbols_is q r same)) ∙ h
grown_by st k after (Some q) None a n same empty apart h = never same
grown_by st k after None r false n same empty apart h = none_some after h
grown_by st k after None r true false same empty apart h = never empty
grown_by st k after None None true true same empty apart h = h
grown_by st k after None (Some r) true true same empty apart h = never (ap (λ o. not (is_some o)) (sym h) ∙ apart refl refl)

grown : (q : Part) (way st : List Symbol) (ts : List Kind) → IsOneOf way (productions q) → fine (s.Open q ∷ st) ≡ true → Stepped (way ++ st) ts → Stepped (s.Open q ∷ st) ts
grown q way st [] i f h =
    let test = both (list_all (λ k. agrees (advance way k) (table (s.Open q) k)) kinds) _ (way_passed q way i) in
    let empty = (both (way_fits (clash (s.Open q)) way) (implies (are_nullable way) (is_nullable (s.Open q))) test.1).1 in
    let parts = both (are_nullable way) (are_nullable st) (sym (list_all-append is_nullable way st) ∙ h) in
    ap (λ b. b && are_nullable st) (follows (are_nullable way) (is_nullable (s.Open q)) empty parts.0) ∙ parts.1
grown q way st (k ∷ ts) i f (after, e, d) =
    let test = both (list_all (λ k. agrees (advance way k) (table (s.Open q) k)) kinds) _ (way_passed q way i) in
    let same = all_at (λ k. agrees (advance way k) (table (s.Open q) k)) kinds k test.0 (is_kind k) in
    let empty = (both (way_fits (clash (s.Open q)) way) (implies (are_nullable way) (is_nullable (s.Open q))) test.1).1 in
    let ends = (both (list_all (way_passes q) (productions q)) (implies (is_nullable (s.Open q)) (list_all (λ k. implies (is_some (table (s.Open q) k)) (has (clash (s.Open q)) k)) kinds)) (passed q)).1 in
    let apart = (both (list_all (λ k. not (starts st k)) (clash (s.Open q))) (fine st) f).0 in
    let clashes : is_nullable (s.Open q) ≡ true → is_some (table (s.Open q) k) ≡ true → not (starts st k) ≡ true =
    λ n r. all_at (λ k. not (starts st k)) (clash (s.Open q)) k apart
    (has_is (clash (s.Open q)) k (follows (is_some (table (s.Open q) k)) (has (clash (s.Open q)) k)
    (all_at (λ k. implies (is_some (table (s.Open q) k)) (has (clash (s.Open q)) k)) kinds k
    (follows (is_nullable (s.Open q)) (list_all (λ k. implies (is_some (table (s.Open q) k)) (has (clash (s.Open q)) k)) kinds) ends n) (is_kind k)) r)) in
    (after, grown_by st k after (advance way k) (table (s.Open q) k) (are_nullable way) (is_nullable (s.Open q)) same empty clashes (sym (advance_over table way st k) ∙ e), d)

taken_by : (st : List Symbol) (b : Bool) → b ≡ true → elim (token_left b) as (λ _. Option (List Symbol)) [ Some left ↦ Some (left ++ st) | None ↦ None ] ≡ Some st
taken_by st true h = refl
taken_by st false h = never h

pub stepped : (st : List Symbol) (ts : List Kind) → Derives st ts → fine st ≡ true → Stepped st ts
unfolding table_at
stepped st ts nothing f = refl
stepped st ts (takes k rest more d) f = (rest, taken_by rest (is_same_kind k k) (is_same k), d)
stepped st ts (becomes q way rest more i d) f = grown q way rest more i f (stepped (way ++ rest) more d (fine_way q way rest i f))

-- ---- and back, for any stack

pub derives_back : (st : List Symbol) (k : Kind) (after : List Symbol) (ts : List Kind) → advance st k ≡ Some after → Derives after ts → Derives st (k ∷ ts)
derives_back st k after ts h d =
    let R : List Symbol → List Symbol → Type 0 = λ st after. Derives after ts → Derives st (k ∷ ts) in
    let c : Carries k R = record { taken = λ st d. takes k st ts d; became = λ q way st after i back d. becomes q way st (k ∷ ts) i (back d) } in
    subst (λ u. Derives u (k ∷ ts)) (append-nil st) (carried k R c most_deep st [] after h (subst (λ u. Derives u ts) (sym (append-nil after)) d))

pub fine_after : (st : List Symbol) (k : Kind) (after : List Symbol) → advance st k ≡ Some after → fine st ≡ true → fine after ≡ true
fine_after st k after h f =
    let R : List Symbol → List Symbol → Type 0 = λ st after. fine st ≡ true → fine after ≡ true in
    let c : Carries k R = record { taken = λ st f. f; became = λ q way st after i on f. on (fine_way q way st i f) } in
    subst (λ u. fine u ≡ true) (append-nil after) (carried k R c most_deep st [] after h (subst (λ u. fine u ≡ true) (sym (append-nil st)) f))
