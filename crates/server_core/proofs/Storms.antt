-- The fates of a storm, one after another.
use Rattle.std.proofs.Common.{◌≡◌, ◌≢◌, ℕ, zero, suc, ◌-◌, ◌/◌, ◌^◌, refl, ap, arith}
use Rattle.std.specs.Prelude.{nat_lt, if◌then◌else◌}
use Rattle.std.proofs.lemmas.Bool.Decides.{nat_tests}
use Rattle.cloud_base.specs.declared.schedule.Fate.TheVariants.{Pass}
use Rattle.server_core.specs.Weathers.{IsFirst, number_after, number_at, fate_of, storm_fate, coming}

-- a number begins where the one before has gone one further
number_further : (x k : ℕ) → number_at (number_after x) k ≡ number_at x (suc k)
number_further x zero = refl
number_further x (suc k) = ap number_after (number_further x k)

-- the tests of two draws whose limits are as far apart are the same
later_test : (k left : ℕ) → left ≢ 0 → nat_lt k (left - 1) ≡ nat_lt (suc k) left
later_test k left some = grind (arith, nat_tests)

choice : {A : Type 0} {b c : _} {x y : A} (z : A) → b ≡ c → x ≡ y → if b then x else z ≡ if c then y else z
choice z e f = cc

pub calm : (x left : ℕ) → left ≡ 0 → IsFirst Pass (coming x left) (coming x left)
calm x left none = record {
  first = grind (arith, nat_tests);
  others = λ k. grind (arith, nat_tests);
}

pub drawn : (x left : ℕ) → left ≢ 0 → IsFirst (fate_of (number_after x / 2 ^ 61)) (coming x left) (coming (number_after x) (left - 1))
drawn x left some = record {
  first = grind (arith, nat_tests);
  others = λ k. choice Pass (later_test k left some) (ap (λ n. fate_of (n / 2 ^ 61)) (number_further x (suc k)));
}

-- the first 999 draws are by their numbers
pub begun : (seed k : ℕ) → coming seed 999 k ≡ storm_fate seed (suc k)
begun seed k = choice {x = fate_of (number_at seed (suc k) / 2 ^ 61)} Pass (grind (arith, nat_tests)) refl
