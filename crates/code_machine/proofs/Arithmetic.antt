-- Quotients and remainders in the bits of a number.
use Rattle.std.proofs.Common.{◌≡◌, refl, sym, ap, ◌∙◌, subst, arith, to_z, of_z}
use Rattle.std.proofs.Math.Nat.{div-le_self, mod-le}
use Rattle.std.proofs.lemmas.Int.{SFits-int_wrap, int_wrap_fits, to_z-of_z, wrapping_neg_is}
use Rattle.std.specs.Prelude.{ℕ, zero, suc, ◌-◌, ◌%◌, ◌/◌, ◌^◌, ◌<◌, ◌≤◌, ℤ, pos, negsuc, neg_ℤ, FitsSigned, int_div, int_rem, unsigned_abs}
use Rattle.std.specs.Int.{w64, int_wrap, int_wrapping_div, int_wrapping_neg, cast_signed, cast_unsigned}

-- a small enough number is wrapped to what its bits are
wraps_as_cast : (z : ℤ) → unsigned_abs z < 2 ^ 64 → cast_signed w64 (cast_unsigned w64 z) ≡ int_wrap w64 z
unfolding int_wrap
wraps_as_cast (pos n) h = let e : n ≡ n % 2 ^ 64 = omega arith in ap (cast_signed w64) e
wraps_as_cast (negsuc n) h = let e : 2 ^ 64 - suc n ≡ 2 ^ 64 - 1 - n % 2 ^ 64 = omega arith in ap (cast_signed w64) e

abs_neg : (n : ℕ) → unsigned_abs (neg_ℤ (pos n)) ≡ n
abs_neg zero = refl
abs_neg (suc n) = refl

small : (a : ℤ) → FitsSigned w64 a → unsigned_abs a ≤ 2 ^ 63
small (pos n) f = omega (arith, f.sfits)
small (negsuc n) f = omega (arith, f.sfits)

quotient_small : (a b : ℤ) → unsigned_abs (int_div a b) ≤ unsigned_abs a
quotient_small (pos a) (pos b) = div-le_self a b
quotient_small (pos a) (negsuc b) = omega (arith, abs_neg (a / suc b), div-le_self a (suc b))
quotient_small (negsuc a) (pos b) = omega (arith, abs_neg (suc a / b), div-le_self (suc a) b)
quotient_small (negsuc a) (negsuc b) = div-le_self (suc a) (suc b)

-- a result in its bits
pub result_is : (r z : ℤ) → r ≡ int_wrap w64 z → to_z w64 (of_z w64 r) ≡ int_wrap w64 z
result_is r z e = to_z-of_z w64 r (subst (FitsSigned w64) (sym e) (SFits-int_wrap w64 z)) ∙ e

-- what the code's bits of two numbers give
pub quotient_wraps : (a b : ℤ) → FitsSigned w64 a → FitsSigned w64 b → int_wrapping_div w64 (to_z w64 (of_z w64 a)) (to_z w64 (of_z w64 b)) ≡ int_wrap w64 (int_div a b)
quotient_wraps a b f g = (λ i. int_wrapping_div w64 (to_z-of_z w64 a f i) (to_z-of_z w64 b g i)) ∙ wraps_as_cast (int_div a b) (omega (arith, quotient_small a b, small a f))

neg_fits : (n m : ℕ) → n ≤ suc m → m < 2 ^ 63 → FitsSigned w64 (neg_ℤ (pos n))
neg_fits zero m l h = record { sfits = omega arith }
neg_fits (suc n) m l h = record { sfits = omega arith }

remainder_fits : (a b : ℤ) → FitsSigned w64 a → FitsSigned w64 (int_rem a b)
remainder_fits (pos a) b f = record { sfits = omega (arith, mod-le a (unsigned_abs b), f.sfits) }
remainder_fits (negsuc a) b f = neg_fits (suc a % unsigned_abs b) a (mod-le (suc a) (unsigned_abs b)) f.sfits

pub remainder_wraps : (a b : ℤ) → FitsSigned w64 a → FitsSigned w64 b → int_rem (to_z w64 (of_z w64 a)) (to_z w64 (of_z w64 b)) ≡ int_wrap w64 (int_rem a b)
remainder_wraps a b f g = (λ i. int_rem (to_z-of_z w64 a f i) (to_z-of_z w64 b g i)) ∙ sym (int_wrap_fits w64 (int_rem a b) (remainder_fits a b f))

pub negation_wraps : (a : ℤ) → FitsSigned w64 a → int_wrapping_neg w64 (to_z w64 (of_z w64 a)) ≡ int_wrap w64 (neg_ℤ a)
negation_wraps a f = (λ i. int_wrapping_neg w64 (to_z-of_z w64 a f i)) ∙ wrapping_neg_is w64 a f
