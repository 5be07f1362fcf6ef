-- Reading one value after the other, as a loop does.
use Rattle.std.proofs.Common.{◌≡◌, refl, sym, ◌∙◌, ap, subst, ℕ, zero, suc, ◌+◌, ◌-◌, ◌<◌, ◌≤◌, List, [], ◌∷◌, ◌++◌, length, drop, get_or, Result, Ok, Err, append_assoc, arith, add-one, length-append}
use Rattle.std.specs.Prelude.{Option, Some, None, slice_get}
use Rattle.std.proofs.lemmas.List.{append-nil, length-drop}
use Rattle.std.proofs.Math.Seq.{drop-cons}
use Rattle.cloud_base.specs.declared.key.Key.{Key}
use Rattle.cloud_base.specs.declared.schema.KeyType.{KeyType}
use Rattle.packet_bytes.specs.declared.fault.WireFault.{WireFault}
use Rattle.packet_bytes.specs.declared.fault.ReadFault.{ReadFault}
use Rattle.packet_bytes.specs.Left.{Left, Field, Read, Reader, then_read, ◌>>=◌, give}
use Rattle.packet_bytes.specs.Reading.{key_at, keys_at, elements_at}

-- what was read before, and what is still read
abbrev pub with_front : {A : Type 0} → List A → Read (List A) → Read (List A)
with_front front (Ok x) = Ok (front ++ x.0, x.1)
with_front front (Err fault) = Err fault

-- one value, and then the others
abbrev cons_read : {A : Type 0} → ℕ → A → Read (List A) → Read (List A)
cons_read at x r = then_read at r (λ xs. give (x ∷ xs.value))

regroup : {A : Type 0} (at : ℕ) (front : List A) (x : A) (r : Read (List A)) → with_front front (cons_read at x r) ≡ with_front (front ++ x ∷ []) r
regroup at front x (Ok y) = ap (λ xs. Ok (xs, y.1)) (sym (append_assoc front (x ∷ []) y.0))
regroup at front x (Err fault) = refl

nothing_more : {A : Type 0} (front : List A) (left : Left) → with_front front (Ok ([], left)) ≡ Ok (front, left)
nothing_more front left = ap (λ xs. Ok (xs, left)) (append-nil front)

-- ---- keys

pub keys_go_on : (front : List Key) (types : List KeyType) (i : ℕ) (kind : KeyType) (left after : Left) (key : Key) (total : Read (List Key)) → i < length types → key_at (get_or types i kind) left ≡ Ok (key, after)
    → with_front front (keys_at (drop i types) left) ≡ total → with_front (front ++ key ∷ []) (keys_at (drop (i + 1) types) after) ≡ total
unfolding keys_at
keys_go_on front types i kind left after key total lt read so_far =
    let next : drop i types ≡ get_or types i kind ∷ drop (i + 1) types = rw add-one (drop-cons types i kind lt) in
    let one : keys_at (drop i types) left ≡ cons_read after.at key (keys_at (drop (i + 1) types) after) =
    ap (λ (ts : List KeyType). keys_at ts left) next ∙ ap (λ (r : Read Key). then_read left.at r (λ key. keys_at (drop (i + 1) types) >>= λ keys. give (key.value ∷ keys.value))) read in
    sym (regroup after.at front key (keys_at (drop (i + 1) types) after)) ∙ ap (with_front front) (sym one) ∙ so_far

pub keys_fail : (front : List Key) (types : List KeyType) (i : ℕ) (kind : KeyType) (left : Left) (fault : WireFault) (total : Read (List Key)) → i < length types → key_at (get_or types i kind) left ≡ Err fault
    → with_front front (keys_at (drop i types) left) ≡ total → total ≡ Err fault
unfolding keys_at
keys_fail front types i kind left fault total lt read so_far =
    let next : drop i types ≡ get_or types i kind ∷ drop (suc i) types = drop-cons types i kind lt in
    let one : keys_at (drop i types) left ≡ Err fault =
    ap (λ (ts : List KeyType). keys_at ts left) next ∙ ap (λ (r : Read Key). then_read left.at r (λ key. keys_at (drop (suc i) types) >>= λ keys. give (key.value ∷ keys.value))) read in
    sym so_far ∙ ap (with_front front) one

nil_of : {A : Type 0} (xs : List A) → length xs ≡ 0 → xs ≡ []
nil_of [] e = refl
nil_of (x ∷ xs) e = absurd (omega (arith, e))

pub keys_done : (front : List Key) (types : List KeyType) (i : ℕ) (left : Left) (total : Read (List Key)) → length types ≤ i
    → with_front front (keys_at (drop i types) left) ≡ total → total ≡ Ok (front, left)
unfolding keys_at
keys_done front types i left total le so_far =
    let none : drop i types ≡ [] = nil_of (drop i types) (omega (arith, length-drop i types)) in
    sym so_far ∙ ap (λ (ts : List KeyType). with_front front (keys_at ts left)) none ∙ nothing_more front left

-- ---- elements

-- the last of them
abbrev pub last_of : {A : Type 0} → List A → Option A
last_of xs = slice_get xs (length xs - 1)

last_pushed : {A : Type 0} (xs : List A) (x : A) → last_of (xs ++ x ∷ []) ≡ Some x
last_pushed xs x = let e : length (xs ++ x ∷ []) - 1 ≡ length xs = omega (arith, length-append xs (x ∷ [])) in ap (slice_get (xs ++ x ∷ [])) e ∙ at_end xs x
  where
    at_end : {A : Type 0} (xs : List A) (x : A) → slice_get (xs ++ x ∷ []) (length xs) ≡ Some x
    at_end [] x = refl
    at_end (y ∷ xs) x = at_end xs x

module _ {A : Type 0} (one : Option A → Reader A) where
  pub elements_go_on : (front : List A) (count i : ℕ) (left after : Left) (x : A) (total : Read (List A)) → i < count → one (last_of front) left ≡ Ok (x, after)
      → with_front front (elements_at one (count - i) (last_of front) left) ≡ total → with_front (front ++ x ∷ []) (elements_at one (count - (i + 1)) (last_of (front ++ x ∷ [])) after) ≡ total
  unfolding elements_at
  elements_go_on front count i left after x total lt read so_far =
      let k : count - i ≡ suc (count - (i + 1)) = omega arith in
      let first : elements_at one (count - i) (last_of front) left ≡ cons_read after.at x (elements_at one (count - (i + 1)) (Some x) after) =
      ap (λ (n : ℕ). elements_at one n (last_of front) left) k
      ∙ ap (λ (r : Read A). then_read left.at r (λ first. elements_at one (count - (i + 1)) (Some first.value) >>= λ others. give (first.value ∷ others.value))) read in
      ap (λ (o : Option A). with_front (front ++ x ∷ []) (elements_at one (count - (i + 1)) o after)) (last_pushed front x)
      ∙ sym (regroup after.at front x (elements_at one (count - (i + 1)) (Some x) after))
      ∙ ap (with_front front) (sym first)
      ∙ so_far

  pub elements_fail : (front : List A) (count i : ℕ) (left : Left) (fault : WireFault) (total : Read (List A)) → i < count → one (last_of front) left ≡ Err fault
      → with_front front (elements_at one (count - i) (last_of front) left) ≡ total → total ≡ Err fault
  unfolding elements_at
  elements_fail front count i left fault total lt read so_far =
      let k : count - i ≡ suc (count - (i + 1)) = omega arith in
      let first : elements_at one (count - i) (last_of front) left ≡ Err fault =
      ap (λ (n : ℕ). elements_at one n (last_of front) left) k
      ∙ ap (λ (r : Read A). then_read left.at r (λ first. elements_at one (count - (i + 1)) (Some first.value) >>= λ others. give (first.value ∷ others.value))) read in
      sym so_far ∙ ap (with_front front) first

  pub elements_done : (front : List A) (count i : ℕ) (left : Left) (total : Read (List A)) → count ≤ i
      → with_front front (elements_at one (count - i) (last_of front) left) ≡ total → total ≡ Ok (front, left)
  unfolding elements_at
  elements_done front count i left total le so_far =
      let k : count - i ≡ 0 = omega arith in
      sym so_far ∙ ap (λ (n : ℕ). with_front front (elements_at one n (last_of front) left)) k ∙ nothing_more front left
