-- What a read hands out and what a write takes, where the object tells it.
use Rattle.std.specs.Prelude.{◌≡◌, ◌≢◌, refl, ◌∷◌, ℕ, ◌≤◌, ◌-◌, ◌+◌, ◌^◌, List, [], ◌++◌, ◌⊎◌, length, take, drop, min, Bool, false, if◌then◌else◌, ◌==◌, Option, Some, None, Result, Ok, Err}
use Rattle.std.proofs.Common.{ap, lit≤, le→leb}
use Rattle.std.proofs.Math.Nat.{suc-ne-zero}
use Rattle.cloud_base.specs.Causes.{Rose, counted}

-- a read of a source that had these bytes left: the first of them are handed out and the others stay;
-- 0 comes exactly where nothing is left, and a refusal leaves all
abbrev pub Hands : {E : Type 0} → List ℕ → Option (List ℕ) → Result ℕ E → List ℕ → Type 0
Hands bytes after (Ok n) into =
    (n ≤ length bytes) × (take n into ≡ take n bytes) × (after ≡ Some (drop n bytes)) × (n ≡ 0 → bytes ≡ [])
Hands bytes after (Err e) into = after ≡ Some bytes

-- the same, where the source tells what is left
abbrev pub HandsOut : {E : Type 0} → Option (List ℕ) → Option (List ℕ) → Result ℕ E → List ℕ → Type 0
HandsOut None after result into = after ≡ None
HandsOut (Some bytes) after result into = Hands bytes after result into

-- an answer of 0 comes only where the count of ends rose, and any other answer leaves it
abbrev pub Ends : {E : Type 0} → ℕ → ℕ → Result ℕ E → Type 0
Ends before now (Ok n) = (before ≤ now) × (n ≡ 0 → Rose before now) × (n ≢ 0 → now ≡ before)
Ends before now (Err e) = now ≡ before

-- the count of ends, where it counts each answer of 0 once and nothing else
abbrev pub EndCount : {E : Type 0} → ℕ → ℕ → Result ℕ E → Type 0
EndCount before now (Ok n) = now ≡ (if n == 0 then counted before else before)
EndCount before now (Err e) = now ≡ before

-- a write of a piece: as many first bytes of it as were answered are held behind what was held, and a
-- refusal adds nothing
abbrev pub Takes : {E : Type 0} → Option (List ℕ) → Option (List ℕ) → Result ℕ E → List ℕ → Type 0
Takes None after result piece = after ≡ None
Takes (Some held) after (Ok n) piece = after ≡ Some (held ++ take n piece)
Takes (Some held) after (Err e) piece = after ≡ Some held

-- a refusal, and a write of nothing of a piece that isn't empty, come only where the count of faults rose;
-- any other answer leaves it
abbrev pub TakesCause : {E : Type 0} → ℕ → ℕ → Result ℕ E → List ℕ → Type 0
TakesCause before now (Ok n) piece =
    (before ≤ now) × (n ≡ 0 → piece ≢ [] → Rose before now) × ((1 ≤ n) ⊎ (piece ≡ []) → now ≡ before)
TakesCause before now (Err e) piece = (before ≤ now) × Rose before now

-- a source in memory: what is left, the most bytes of a read, the calls before the one that fails, and its counts
pub record Reading : Type 0 where
  pub left : List ℕ
  pub piece : ℕ
  pub fails_in : Option ℕ
  pub faults : ℕ
  pub ends : ℕ

-- what a call does to the count of calls before the failing one
abbrev pub one_sooner : Option ℕ → Option ℕ
one_sooner None = None
one_sooner (Some n) = if n == 0 then None else Some (n - 1)

abbrev pub fails_now : Option ℕ → Bool
fails_now None = false
fails_now (Some n) = n == 0

-- how many bytes a read hands out
abbrev pub read_count : Reading → ℕ → ℕ
read_count r room = min (min r.piece room) (length r.left)

-- a source in memory after a read into `room` bytes
abbrev pub after_read : Reading → ℕ → Reading
after_read r room = if fails_now r.fails_in then record r { fails_in = None; faults = counted r.faults } else record r { left = drop (read_count r room) r.left; fails_in = one_sooner r.fails_in; ends = if read_count r room == 0 then counted r.ends else r.ends }

-- what that read answers: a refusal, or a count
abbrev pub read_answer : Reading → ℕ → Option ℕ
read_answer r room = if fails_now r.fails_in then None else Some (read_count r room)

-- a sink in memory: what it holds, the most bytes of a write, the most bytes in all, and its count
pub record Writing : Type 0 where
  pub held : List ℕ
  pub piece : ℕ
  pub room : ℕ
  pub faults : ℕ

-- how many bytes of a piece a write takes
abbrev pub write_count : Writing → List ℕ → ℕ
write_count w piece = min (min w.piece (length piece)) (w.room - length w.held)

-- a sink in memory after a write
abbrev pub after_write : Writing → List ℕ → Writing
after_write w piece = if length w.held == w.room then record w { faults = counted w.faults } else record w { held = w.held ++ take (write_count w piece) piece }

-- what that write answers: a refusal, or a count
abbrev pub write_answer : Writing → List ℕ → Option ℕ
write_answer w piece = if length w.held == w.room then None else Some (write_count w piece)

module _ where
  -- the first byte is handed out, and the other one stays
  pub example_hands : Hands {E = ℕ} (97 ∷ 98 ∷ []) (Some (98 ∷ [])) (Ok 1) (97 ∷ 0 ∷ [])
  example_hands = (lit≤ tt, refl, refl, λ e. absurd (suc-ne-zero 0 e))

  -- an end is counted, and an answer of one byte isn't an end
  pub example_ends : Ends {E = ℕ} 4 5 (Ok 0) × Ends {E = ℕ} 4 4 (Ok 1)
  example_ends = ((lit≤ tt, λ e. lit≤ tt, λ no. absurd (no refl)), (lit≤ tt, λ e. absurd (suc-ne-zero 0 e), λ no. refl))

  -- an end is counted once, and neither an answer of two bytes nor a refusal is an end
  pub example_end_count : EndCount {E = ℕ} 4 5 (Ok 0) × EndCount {E = ℕ} 4 4 (Ok 2) × EndCount {E = ℕ} 4 4 (Err 0)
  example_end_count = (refl, refl, refl)

  pub example_takes : Takes {E = ℕ} (Some (97 ∷ [])) (Some (97 ∷ 98 ∷ [])) (Ok 1) (98 ∷ 99 ∷ [])
  example_takes = refl

  -- a refusal that is counted, a write of one byte, a write of nothing that isn't counted, and a
  -- refusal at which a count beyond the end of its type falls
  pub example_takes_cause : TakesCause {E = ℕ} 4 5 (Err 0) (98 ∷ []) × TakesCause {E = ℕ} 4 4 (Ok 1) (98 ∷ []) × (¬ TakesCause {E = ℕ} 4 4 (Ok 0) (98 ∷ [])) × ¬ TakesCause {E = ℕ} (2 ^ 64 + 5) (2 ^ 64 - 1) (Err 0) (98 ∷ [])
  example_takes_cause = ((lit≤ tt, lit≤ tt), (lit≤ tt, λ e some. absurd (suc-ne-zero 0 e), λ c. refl), λ h. le→leb 5 4 (h.1 refl (λ e. suc-ne-zero 0 (ap length e))), λ h. le→leb (2 ^ 64 + 5) (2 ^ 64 - 1) h.0)

  -- three bytes are left, a call hands out two at most, and the call after the next one fails
  abbrev three : Reading
  three = record { left = 97 ∷ 98 ∷ 99 ∷ []; piece = 2; fails_in = Some 2; faults = 0; ends = 0 }

  abbrev one : Reading
  one = record { left = 99 ∷ []; piece = 2; fails_in = Some 1; faults = 0; ends = 0 }

  abbrev none : Reading
  none = record { left = []; piece = 2; fails_in = Some 0; faults = 0; ends = 0 }

  pub example_reads : (read_answer three 8 ≡ Some 2) × (after_read three 8 ≡ one) × (read_answer one 8 ≡ Some 1) × (after_read one 8 ≡ none)
  example_reads = (refl, refl, refl, refl)

  -- the third call fails and is counted, and the one after it tells the end
  pub example_fault : (read_answer none 8 ≡ None) × (after_read none 8 ≡ record none { fails_in = None; faults = 1 }) × (after_read (after_read none 8) 8 ≡ record none { fails_in = None; faults = 1; ends = 1 })
  example_fault = (refl, refl, refl)

  abbrev room_for_two : Writing
  room_for_two = record { held = 97 ∷ []; piece = 4; room = 2; faults = 0 }

  abbrev full : Writing
  full = record { held = 97 ∷ 98 ∷ []; piece = 4; room = 2; faults = 0 }

  -- what there is room for is taken, and the call that finds the sink full fails
  pub example_writes : (write_answer room_for_two (98 ∷ 99 ∷ []) ≡ Some 1) × (after_write room_for_two (98 ∷ 99 ∷ []) ≡ full) × (write_answer full (99 ∷ []) ≡ None) × (after_write full (99 ∷ []) ≡ record full { faults = 1 })
  example_writes = (refl, refl, refl, refl)
