-- Texts put together byte by byte.
use Rattle.std.proofs.Common.{◌≡◌, sym, ◌∙◌, ap, subst, ℕ, ◌+◌, ◌<◌, ◌≤◌, List, [], ◌∷◌, ◌++◌, length, take, get_or, All, arith, append_assoc, length-append}
use Rattle.std.proofs.lemmas.List.{take_all, take-append-le, take_more, append-nil, length-take}
use Rattle.std.proofs.lemmas.List.Elements.{All-append, All-take}
use Rattle.cloud_base.specs.Values.{IsText, IsPrintable}
use Rattle.cloud_base.specs.Texts.{cat_text}

-- one more byte where there is room, and where there is none
room : (n : ℕ) (zs : List ℕ) (y : ℕ) → length (take n zs) < n → take n zs ++ y ∷ [] ≡ take n (zs ++ y ∷ [])
room n zs y h =
    let short : length zs < n = omega (arith, length-take n zs, h) in
    let all : take n zs ≡ zs = take_all n zs (omega arith) in
    rw all (sym (take_all n (zs ++ y ∷ []) (omega (arith, length-append zs (y ∷ [])))))

full : (n : ℕ) (zs : List ℕ) (y : ℕ) → n ≤ length (take n zs) → take n zs ≡ take n (zs ++ y ∷ [])
full n zs y h = sym (take-append-le n zs (y ∷ []) (omega (arith, length-take n zs, h)))

grows : (xs ys : List ℕ) (i : ℕ) → i < length ys → xs ++ take (i + 1) ys ≡ (xs ++ take i ys) ++ get_or ys i 0 ∷ []
grows xs ys i h = ap (λ zs. xs ++ zs) (take_more ys i 0 h) ∙ sym (append_assoc xs (take i ys) (get_or ys i 0 ∷ []))

pub cat_room : (xs ys bytes : List ℕ) (i : ℕ) → i < length ys → bytes ≡ cat_text xs (take i ys) → length bytes < 128 → bytes ++ get_or ys i 0 ∷ [] ≡ cat_text xs (take (i + 1) ys)
unfolding cat_text
cat_room xs ys bytes i h e l = rw (e, grows xs ys i h) (room 128 (xs ++ take i ys) (get_or ys i 0) (rw e at l))

pub cat_full : (xs ys bytes : List ℕ) (i : ℕ) → i < length ys → bytes ≡ cat_text xs (take i ys) → 128 ≤ length bytes → bytes ≡ cat_text xs (take (i + 1) ys)
unfolding cat_text
cat_full xs ys bytes i h e l = e ∙ rw (grows xs ys i h) (full 128 (xs ++ take i ys) (get_or ys i 0) (rw e at l))

pub cat_nothing : (xs : List ℕ) → length xs ≤ 128 → xs ≡ cat_text xs []
unfolding cat_text
cat_nothing xs h = sym (take_all 128 (xs ++ []) (rw append-nil h) ∙ append-nil xs)

pub cat_is_text : (xs ys bytes : List ℕ) (i : ℕ) → IsText xs → IsText ys → bytes ≡ cat_text xs (take i ys) → IsText bytes
unfolding cat_text
cat_is_text xs ys bytes i a b e =
    let printable : All IsPrintable (cat_text xs (take i ys)) = All-take IsPrintable 128 (xs ++ take i ys) (All-append IsPrintable xs (take i ys) a.1 (All-take IsPrintable i ys b.1)) in
    subst IsText (sym e) (omega (arith, length-take 128 (xs ++ take i ys)), printable)
