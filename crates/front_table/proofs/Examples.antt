-- Small states of a table that meet the rule of a chronicle, and some that don't.
use Rattle.std.proofs.Common.{◌≡◌, ℕ, zero, suc, true, false, List, [], ◌∷◌, length, sym, refl, ap, ◌∙◌, subst, arith}
use mathlib.Core.Option.{some-injective, some-ne-none}
use mathlib.Core.List.{IsPrefix}
use Rattle.front_table.specs.declared.view.View.{View}
use Rattle.front_table.specs.Chronicle.{Lives, Fits, IsKept, view, spent}

-- a writer of two entries, a front of the first, and a seat that was joined into another
abbrev three_views : List (View ℕ)
three_views = view true (5 ∷ 6 ∷ []) [] [] ∷ view false (5 ∷ []) [] [] ∷ spent ∷ []

each_fits : (k : ℕ) (v : View ℕ) → Lives three_views k v → Fits 0 (5 ∷ 6 ∷ []) k v
each_fits zero v h = subst (λ (w : View ℕ). Fits 0 (5 ∷ 6 ∷ []) 0 w) (some-injective _ v h.0) (record { writer = λ _. (refl, refl); front = ([], refl); before = (5 ∷ 6 ∷ [], refl); joined = (5 ∷ 6 ∷ [], refl) })
each_fits (suc zero) v h = subst (λ (w : View ℕ). Fits 0 (5 ∷ 6 ∷ []) 1 w) (some-injective _ v h.0) (record { writer = λ e. absurd (cc e); front = (6 ∷ [], refl); before = (5 ∷ [], refl); joined = (5 ∷ [], refl) })
each_fits (suc (suc zero)) v h = absurd (cc (ap (λ (w : View ℕ). w.is_spent) (some-injective _ v h.0), h.1))
each_fits (suc (suc (suc k))) v h = absurd (some-ne-none v (sym h.0))

pub example_writer_and_front : IsKept (2 ∷ []) three_views
example_writer_and_front = record { seat = 0; writer = view true (5 ∷ 6 ∷ []) [] []; lives = (refl, refl); writes = refl; word = refl; room = omega arith; each = each_fits }

pub example_two_writers : ¬ IsKept {E = ℕ} (1 ∷ []) (view true (5 ∷ []) [] [] ∷ view true (5 ∷ []) [] [] ∷ [])
example_two_writers h =
    let first : 0 ≡ h.seat = ((h.each 0 _ (refl, refl)).writer refl).0 in
    let second : 1 ≡ h.seat = ((h.each 1 _ (refl, refl)).writer refl).0 in
    absurd (omega arith)

pub example_another_number : ¬ IsKept {E = ℕ} (3 ∷ []) (view true (5 ∷ []) [] [] ∷ [])
example_another_number h =
    let list : 5 ∷ [] ≡ h.writer.list = ((h.each 0 _ (refl, refl)).writer refl).1 in
    absurd (cc (h.word ∙ ap (λ (l : List ℕ). length l ∷ []) (sym list)))

pub example_another_list : ¬ IsKept {E = ℕ} (1 ∷ []) (view true (5 ∷ []) [] [] ∷ view false (7 ∷ []) [] [] ∷ [])
example_another_list h =
    let list : 5 ∷ [] ≡ h.writer.list = ((h.each 0 _ (refl, refl)).writer refl).1 in
    let front : IsPrefix (7 ∷ []) (5 ∷ []) = subst (λ (l : List ℕ). IsPrefix (7 ∷ []) l) (sym list) (h.each 1 _ (refl, refl)).front in
    absurd (cc front.1)
