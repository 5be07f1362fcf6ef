-- Variables for several names, one after another.
use Rattle.std.proofs.Common.{◌≡◌, refl, ℕ, ◌+◌, ◌<◌, ◌≤◌, zero, suc, List, [], ◌∷◌, ◌++◌, length, drop, get_or, Option, sym, ap, ◌∙◌, append_assoc, arith}
use Rattle.std.specs.Prelude.{slice_get}
use Rattle.std.proofs.Math.Seq.{drop-nil}
use Rattle.std.proofs.lemmas.List.{drop_more, length-append}
use Rattle.std.proofs.lemmas.Option.{slice_get_past}
use Rattle.cloud_base.specs.declared.schema.KeyType.{KeyType}
use Rattle.kind_rules.specs.Names.{Variable}
use Rattle.kind_rules.specs.Statements.{variable, variables, most_visible}
use Rattle.kind_bodies.specs.Found.{due_kind}

first : (x : List ℕ) (xs : List (List ℕ)) (types : List KeyType) (at : ℕ) → variables (x ∷ xs) (drop at types) ≡ variable x (due_kind (slice_get types at)) ∷ variables xs (drop (at + 1) types)
first x xs [] at = ap (variables (x ∷ xs)) (drop-nil at) ∙ ap (λ (o : Option KeyType). variable x (due_kind o) ∷ variables xs []) (sym (slice_get_past [] at (omega arith)))
    ∙ ap (λ (ts : List KeyType). variable x (due_kind (slice_get [] at)) ∷ variables xs ts) (sym (drop-nil (at + 1)))
first x xs (type ∷ types) zero = refl
first x xs (type ∷ types) (suc at) =
    let next : suc at + 1 ≡ suc (at + 1) = omega arith in
    first x xs types at ∙ ap (λ n. variable x (due_kind (slice_get types at)) ∷ variables xs (drop n (type ∷ types))) (sym next)

-- one more variable is declared
pub one_more : (xs : List (List ℕ)) (types : List KeyType) (at : ℕ) (x : List ℕ) (visible new all : List Variable) → at < length xs → x ≡ get_or xs at x
    → new ≡ visible ++ variable x (due_kind (slice_get types at)) ∷ []
    → length visible + length (drop at xs) ≤ most_visible → visible ++ variables (drop at xs) (drop at types) ≡ all
    → (length new + length (drop (at + 1) xs) ≤ most_visible) × (new ++ variables (drop (at + 1) xs) (drop (at + 1) types) ≡ all)
one_more xs types at x visible new all more is made room h =
    let split : drop at xs ≡ x ∷ drop (at + 1) xs = drop_more xs at x more ∙ ap (λ (y : List ℕ). y ∷ drop (at + 1) xs) (sym is) in
    let this = variable x (due_kind (slice_get types at)) in
    let longer : length new ≡ length visible + 1 = ap length made ∙ length-append visible (this ∷ []) in
    let left : length (drop at xs) ≡ suc (length (drop (at + 1) xs)) = ap length split in (
      omega arith,
      ap (λ (v : List Variable). v ++ variables (drop (at + 1) xs) (drop (at + 1) types)) made ∙ append_assoc visible (this ∷ []) (variables (drop (at + 1) xs) (drop (at + 1) types))
          ∙ ap (λ (vs : List Variable). visible ++ vs) (sym (ap (λ (ys : List (List ℕ)). variables ys (drop at types)) split ∙ first x (drop (at + 1) xs) types at)) ∙ h,
    )
