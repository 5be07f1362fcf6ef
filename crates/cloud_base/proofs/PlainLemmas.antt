-- The plain value after one more change.
use Rattle.std.proofs.Common.{◌≡◌, refl, sym, ◌∙◌, ap, ℕ, Bool, true, false, cond, List, [], ◌∷◌, ◌++◌}
use Rattle.std.specs.Prelude.{ℤ, pos, ◌+ℤ◌, FitsSigned}
use Rattle.std.specs.Int.{w64, int_wrap}
use Rattle.std.proofs.lemmas.Int.{int_wrap-add_left, int_wrap_fits, SFits-int_wrap, ints}
use Rattle.std.proofs.Common.{arith}
use Rattle.cloud_base.specs.PlainCell.{has_set, last_set, adds_after, plain_int, if_empty, walk_text, plain_text, plain_value, default_of}
use Rattle.cloud_base.specs.declared.schema.CellType.{CellType}
use Rattle.cloud_base.specs.declared.schema.CellType.TheVariants.{Int as IntCell, Text as TextCell}
use Rattle.cloud_base.specs.declared.update.CellChange.{CellChange}
use Rattle.cloud_base.specs.declared.update.CellChange.TheVariants.{Add, SetInt, SetText, SetIfEmpty}

-- ---- integers

set_at_end : (changes : List CellChange) (n : ℤ) → has_set (changes ++ SetInt n ∷ []) ≡ true
set_at_end [] n = refl
set_at_end (Add m ∷ changes) n = set_at_end changes n
set_at_end (SetInt m ∷ changes) n = refl
set_at_end (SetText t ∷ changes) n = set_at_end changes n
set_at_end (SetIfEmpty t ∷ changes) n = set_at_end changes n

set_is_last : (changes : List CellChange) (n : ℤ) → last_set (changes ++ SetInt n ∷ []) ≡ n
set_is_last [] n = refl
set_is_last (Add m ∷ changes) n = set_is_last changes n
set_is_last (SetInt m ∷ changes) n = ap (λ b. cond b (last_set (changes ++ SetInt n ∷ [])) m) (set_at_end changes n) ∙ set_is_last changes n
set_is_last (SetText t ∷ changes) n = set_is_last changes n
set_is_last (SetIfEmpty t ∷ changes) n = set_is_last changes n

none_after : (changes : List CellChange) (n : ℤ) → adds_after (changes ++ SetInt n ∷ []) ≡ pos 0
none_after [] n = refl
none_after (Add m ∷ changes) n = ap (λ b. cond b (adds_after (changes ++ SetInt n ∷ [])) (m +ℤ adds_after (changes ++ SetInt n ∷ []))) (set_at_end changes n) ∙ none_after changes n
none_after (SetInt m ∷ changes) n = none_after changes n
none_after (SetText t ∷ changes) n = none_after changes n
none_after (SetIfEmpty t ∷ changes) n = none_after changes n

add_zero : (n : ℤ) → n +ℤ pos 0 ≡ n
add_zero n = omega (arith, ints)

zero_add : (n : ℤ) → pos 0 +ℤ n ≡ n
zero_add n = omega (arith, ints)

pub int_set : (changes : List CellChange) (n : ℤ) → plain_int (changes ++ SetInt n ∷ []) ≡ int_wrap w64 n
unfolding plain_int
int_set changes n = ap (int_wrap w64) ((λ i. set_is_last changes n i +ℤ none_after changes n i) ∙ add_zero n)

-- one more change that is no set
keeps_set : (changes : List CellChange) (c : CellChange) → has_set (c ∷ []) ≡ false → has_set (changes ++ c ∷ []) ≡ has_set changes
keeps_set [] c h = h
keeps_set (Add m ∷ changes) c h = keeps_set changes c h
keeps_set (SetInt m ∷ changes) c h = refl
keeps_set (SetText t ∷ changes) c h = keeps_set changes c h
keeps_set (SetIfEmpty t ∷ changes) c h = keeps_set changes c h

keeps_last : (changes : List CellChange) (c : CellChange) → has_set (c ∷ []) ≡ false → last_set (c ∷ []) ≡ pos 0 → last_set (changes ++ c ∷ []) ≡ last_set changes
keeps_last [] c h z = z
keeps_last (Add m ∷ changes) c h z = keeps_last changes c h z
keeps_last (SetInt m ∷ changes) c h z = λ i. cond (keeps_set changes c h i) (keeps_last changes c h z i) m
keeps_last (SetText t ∷ changes) c h z = keeps_last changes c h z
keeps_last (SetIfEmpty t ∷ changes) c h z = keeps_last changes c h z

-- the sum of the adds of a change
part : CellChange → ℤ
part (Add n) = n
part (SetInt n) = pos 0
part (SetText t) = pos 0
part (SetIfEmpty t) = pos 0

alone : (c : CellChange) → adds_after (c ∷ []) ≡ part c
unfolding part
alone (Add n) = add_zero n
alone (SetInt n) = refl
alone (SetText t) = refl
alone (SetIfEmpty t) = refl

regroup : (m n k : ℤ) → m +ℤ (n +ℤ k) ≡ (m +ℤ n) +ℤ k
regroup m n k = omega (arith, ints)

more_adds : (changes : List CellChange) (c : CellChange) → has_set (c ∷ []) ≡ false → adds_after (changes ++ c ∷ []) ≡ adds_after changes +ℤ part c
more_adds [] c h = alone c ∙ sym (zero_add (part c))
more_adds (SetInt m ∷ changes) c h = more_adds changes c h
more_adds (SetText t ∷ changes) c h = more_adds changes c h
more_adds (SetIfEmpty t ∷ changes) c h = more_adds changes c h
more_adds (Add m ∷ changes) c h =
    let e = more_adds changes c h in
    let P : Bool → Type 0 = λ b. cond b (adds_after (changes ++ c ∷ [])) (m +ℤ adds_after (changes ++ c ∷ [])) ≡ cond b (adds_after changes) (m +ℤ adds_after changes) +ℤ part c in
    ap (λ b. cond b (adds_after (changes ++ c ∷ [])) (m +ℤ adds_after (changes ++ c ∷ []))) (keeps_set changes c h)
    ∙ (elim (has_set changes) as P [ true ↦ e | false ↦ ap (λ z. m +ℤ z) e ∙ regroup m (adds_after changes) (part c) ])

int_more : (changes : List CellChange) (c : CellChange) → has_set (c ∷ []) ≡ false → last_set (c ∷ []) ≡ pos 0 → plain_int (changes ++ c ∷ []) ≡ int_wrap w64 (plain_int changes +ℤ part c)
unfolding plain_int
int_more changes c h z =
    ap (int_wrap w64) ((λ i. keeps_last changes c h z i +ℤ more_adds changes c h i) ∙ regroup (last_set changes) (adds_after changes) (part c))
    ∙ sym (int_wrap-add_left w64 (last_set changes +ℤ adds_after changes) (part c))

pub int_add : (changes : List CellChange) (n : ℤ) → plain_int (changes ++ Add n ∷ []) ≡ int_wrap w64 (plain_int changes +ℤ n)
unfolding part
int_add changes n = int_more changes (Add n) refl refl

pub int_fits : (changes : List CellChange) → FitsSigned w64 (plain_int changes)
unfolding plain_int
int_fits changes = SFits-int_wrap w64 (last_set changes +ℤ adds_after changes)

-- ---- texts

pub walk_on : (now : List ℕ) (first second : List CellChange) → walk_text now (first ++ second) ≡ walk_text (walk_text now first) second
walk_on now [] second = refl
walk_on now (Add n ∷ first) second = walk_on now first second
walk_on now (SetInt n ∷ first) second = walk_on now first second
walk_on now (SetText t ∷ first) second = walk_on t first second
walk_on now (SetIfEmpty t ∷ first) second = walk_on (if_empty now t) first second

pub text_more : (changes : List CellChange) (c : CellChange) → plain_text (changes ++ c ∷ []) ≡ walk_text (plain_text changes) (c ∷ [])
unfolding plain_text
text_more changes c = walk_on [] changes (c ∷ [])

-- a change of text leaves the integer
int_same : (changes : List CellChange) (c : CellChange) → has_set (c ∷ []) ≡ false → last_set (c ∷ []) ≡ pos 0 → part c ≡ pos 0 → plain_int (changes ++ c ∷ []) ≡ plain_int changes
int_same changes c h z p =
    int_more changes c h z
    ∙ ap (λ n. int_wrap w64 (plain_int changes +ℤ n)) p
    ∙ ap (int_wrap w64) (add_zero (plain_int changes))
    ∙ int_wrap_fits w64 (plain_int changes) (int_fits changes)

pub int_text : (changes : List CellChange) (t : List ℕ) → (plain_int (changes ++ SetText t ∷ []) ≡ plain_int changes) × (plain_int (changes ++ SetIfEmpty t ∷ []) ≡ plain_int changes)
unfolding part
int_text changes t = (int_same changes (SetText t) refl refl refl, int_same changes (SetIfEmpty t) refl refl refl)

pub text_walk : (first second : List CellChange) → plain_text (first ++ second) ≡ walk_text (plain_text first) second
unfolding plain_text
text_walk first second = walk_on [] first second

-- ---- no changes

pub nothing_is_default : (type : CellType) → plain_value type [] ≡ default_of type
unfolding plain_value plain_int plain_text int_wrap
nothing_is_default IntCell = refl
nothing_is_default TextCell = refl
