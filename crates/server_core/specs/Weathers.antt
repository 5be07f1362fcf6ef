-- What happens to packets, one after another.
use Rattle.std.specs.Prelude.{◌≡◌, refl, ℕ, zero, suc, ◌+◌, ◌*◌, ◌/◌, ◌%◌, ◌^◌, nat_lt, if◌then◌else◌, List, [], ◌∷◌, length, Option, Some, None, slice_index_or}
use Rattle.cloud_base.specs.declared.schedule.Fate.{Fate}
use Rattle.cloud_base.specs.declared.schedule.Fate.TheVariants.{Pass, LosePush, LoseReply, Twice, Hold}

-- the first n of the fates that come
abbrev pub next_fates : (ℕ → Fate) → ℕ → List Fate
next_fates fates zero = []
next_fates fates (suc n) = fates 0 ∷ next_fates (λ k. fates (suc k)) n

-- a fate is the first of those that came next, and the others come next
pub record IsFirst (fate : Fate) (before after : ℕ → Fate) : Type 0 where
  pub first : before 0 ≡ fate
  pub others : (k : ℕ) → after k ≡ before (suc k)

-- a weather that tells its fates tells a fate before it draws it, and goes on telling
abbrev pub Draws : Fate → Option (ℕ → Fate) → Option (ℕ → Fate) → Type 0
Draws fate None after = after ≡ None
Draws fate (Some before) None = ⊥
Draws fate (Some before) (Some after) = IsFirst fate before after

-- fates are the first of those that came next, and the others come next
pub record AreFirst (fates : List Fate) (before after : ℕ → Fate) : Type 0 where
  pub first : next_fates before (length fates) ≡ fates
  pub others : (k : ℕ) → after k ≡ before (length fates + k)

-- fates that a weather draws one after another
abbrev pub DrawsAll : List Fate → Option (ℕ → Fate) → Option (ℕ → Fate) → Type 0
DrawsAll fates None after = after ≡ None
DrawsAll fates (Some before) None = ⊥
DrawsAll fates (Some before) (Some after) = AreFirst fates before after

-- the number that follows a number in a storm
abbrev pub number_after : ℕ → ℕ
number_after x = (x * 6364136223846793005 + 1442695040888963407) % 2 ^ 64

-- the number of draw k
abbrev pub number_at : ℕ → ℕ → ℕ
number_at seed zero = seed
number_at seed (suc k) = number_after (number_at seed k)

-- the fate of three bits
abbrev pub fate_of : ℕ → Fate
fate_of bits = slice_index_or (LosePush ∷ LoseReply ∷ Twice ∷ Hold ∷ []) bits Pass

-- the fate of draw k, counted from 1, is by the top three bits of its number, until the thousandth draw
abbrev pub storm_fate : ℕ → ℕ → Fate
storm_fate seed k = if nat_lt k 1000 then fate_of (number_at seed k / 2 ^ 61) else Pass

-- the fates that come behind a number, of which so many are left
abbrev pub coming : ℕ → ℕ → ℕ → Fate
coming number left k = if nat_lt k left then fate_of (number_at number (suc k) / 2 ^ 61) else Pass

-- the first fates of the storm of seed 3, and two about its thousandth
pub example_storm : (next_fates (λ k. storm_fate 3 (suc k)) 5 ≡ LosePush ∷ Twice ∷ Pass ∷ Twice ∷ Pass ∷ [])
    × (storm_fate 29 1 ≡ LosePush) × (storm_fate 3 1000 ≡ Pass)
example_storm = (refl, refl, refl)
