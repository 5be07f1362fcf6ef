-- Counts that rise, and causes of a refusal.
use Rattle.std.specs.Prelude.{◌≡◌, refl, ℕ, ◌+◌, ◌-◌, ◌^◌, ◌≤◌, min, Result, Ok, Err, OnErr, OnOk}
use Rattle.std.proofs.Common.{lit≤, le→leb}

-- one more, up to the end of the type
abbrev pub counted : ℕ → ℕ
counted n = min (n + 1) (2 ^ 64 - 1)

-- the count rose, or stands at the end of its type
abbrev pub Rose : ℕ → ℕ → Type 0
Rose before now = counted before ≤ now

-- a refusal comes only where the count rose, and any other answer leaves it
pub record HasCause {T E : Type 0} (before now : ℕ) (result : Result T E) : Type 0 where
  pub later : before ≤ now
  pub failed : OnErr result (Rose before now)
  pub kept : OnOk result (now ≡ before)

-- the count of faults, where it counts each refusal once and nothing else
abbrev pub FaultCount : {T E : Type 0} → ℕ → ℕ → Result T E → Type 0
FaultCount before now (Ok answer) = now ≡ before
FaultCount before now (Err e) = now ≡ counted before

-- a count that stands hasn't risen, but at the end of its type it may stand
pub example_rose : Rose 4 5 × (¬ Rose 4 4) × Rose (2 ^ 64 - 1) (2 ^ 64 - 1)
example_rose = (lit≤ tt, λ h. le→leb 5 4 h, lit≤ tt)

-- a refusal where the count rose, an answer where it stands, and a refusal without a cause
pub example_cause : HasCause {T = ℕ} {E = ℕ} 4 5 (Err 0) × HasCause {T = ℕ} {E = ℕ} 4 4 (Ok 0) × ¬ HasCause {T = ℕ} {E = ℕ} 4 4 (Err 0)
example_cause = (record { later = lit≤ tt; failed = lit≤ tt; kept = tt }, record { later = lit≤ tt; failed = tt; kept = refl }, λ h. le→leb 5 4 h.failed)

-- a refusal is counted once, also where the count has come to its end, and an answer isn't counted
pub example_fault_count : FaultCount {T = ℕ} {E = ℕ} 4 5 (Err 0) × FaultCount {T = ℕ} {E = ℕ} (2 ^ 64 - 1) (2 ^ 64 - 1) (Err 0) × FaultCount {T = ℕ} {E = ℕ} 4 4 (Ok 0)
example_fault_count = (refl, refl, refl)
