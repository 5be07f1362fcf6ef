-- What a call took from a source and gave to a sink, where these tell it.
use Rattle.std.specs.Prelude.{◌≡◌, refl, ℕ, ◌+◌, ◌<◌, ◌≤◌, List, [], ◌++◌, length, take, drop, Option, Some, None, Result, IsErrOf, OnOk, OnErr, IfOk, codes}
use Rattle.std.proofs.Common.{ap, lit<, lit≤}
use Rattle.std.proofs.Math.Nat.{suc-ne-zero}
use Rattle.cloud_base.specs.Causes.{Rose}
use Rattle.cloud_parse.specs.Parse.{most_source_bytes}
use Rattle.cloud_run.specs.declared.flows.Found.{Found}
use Rattle.cloud_run.specs.declared.flows.Found.TheVariants as found
use Rattle.cloud_run.specs.declared.flows.ReadError.{ReadError}
use Rattle.cloud_run.specs.declared.flows.ReadError.TheVariants as error

-- the most bytes that are read: one more than a source may have
abbrev pub most_read : ℕ
most_read = most_source_bytes + 1

-- of what the source had left some first bytes were handed out, at most so many
abbrev pub HandedOut : ℕ → Option (List ℕ) → Option (List ℕ) → Type 0
HandedOut most None after = after ≡ None
HandedOut most (Some bytes) after = (n : ℕ) × (n ≤ most) × (after ≡ Some (drop n bytes))

-- what was taken and what is left make what was left at first
abbrev pub Parts : Option (List ℕ) → Option (List ℕ) → List ℕ → Type 0
Parts None after taken = after ≡ None
Parts (Some bytes) None taken = ⊥
Parts (Some bytes) (Some left) taken = bytes ≡ taken ++ left

-- nothing is left
abbrev pub AtEnd : Option (List ℕ) → Type 0
AtEnd None = Unit {0}
AtEnd (Some left) = left ≡ []

-- the sink took the whole text
abbrev pub Got : Option (List ℕ) → Option (List ℕ) → List ℕ → Type 0
Got None after text = after ≡ None
Got (Some held) after text = after ≡ Some (held ++ text)

-- the sink took a prefix of the text that isn't the whole
abbrev pub GotPart : Option (List ℕ) → Option (List ℕ) → List ℕ → Type 0
GotPart None after text = after ≡ None
GotPart (Some held) after text = (n : ℕ) × (n < length text) × (after ≡ Some (held ++ take n text))

-- What reading did to a source, by its answer. `left` is what the source tells that it has left, and it counts faults and
-- ends.
pub record Reads {S T : Type 0} (left : S → Option (List ℕ)) (faults ends : S → ℕ) (most : ℕ)
    (source source' : S) (result : Result T ReadError) : Type 0 where
  -- it failed only where the count of faults rose
  pub fault : IsErrOf result error.Failed → Rose (faults source) (faults source')
  -- with any other answer that count stands
  pub no_fault : ¬ IsErrOf result error.Failed → faults source' ≡ faults source
  -- of what was left at most so many first bytes were handed out
  pub handed : HandedOut most (left source) (left source')
  -- the count of ends doesn't fall
  pub later : ends source ≤ ends source'
  -- where nothing was answered it stands
  pub unended : OnErr result (ends source' ≡ ends source)

-- One read, whose bytes go to the end of what was taken before.
pub record ReadsPiece {S : Type 0} (left : S → Option (List ℕ)) (faults ends : S → ℕ) (most : ℕ)
    (source source' : S) (taken taken' : List ℕ) (result : Result Found ReadError) : Type 0 where
  pub reads : Reads left faults ends most source source' result
  -- with what was taken before, what was taken and what is left make what was left at first
  pub parts : OnOk result ((first : Option (List ℕ)) → Parts first (left source) taken
      → Parts first (left source') taken')
  -- at the end nothing is left
  pub end : IfOk result (λ f. f ≡ found.End → AtEnd (left source'))
  -- at the end the count of ends rose
  pub seen : IfOk result (λ f. f ≡ found.End → Rose (ends source) (ends source'))
  -- where there were bytes it stands
  pub unseen : IfOk result (λ f. f ≡ found.Bytes → ends source' ≡ ends source)

-- All that a source has left was taken, or one byte more than a source may have of it.
pub record ReadsAll {S : Type 0} (left : S → Option (List ℕ)) (faults ends : S → ℕ)
    (source source' : S) (result : Result (List ℕ) ReadError) : Type 0 where
  pub reads : Reads left faults ends most_read source source' result
  -- what was taken and what is left make what was left at first
  pub parts : IfOk result (λ taken. Parts (left source) (left source') taken)
  -- of a source that isn't too long all was taken
  pub end : IfOk result (λ taken. length taken ≤ most_source_bytes → AtEnd (left source'))
  -- and its end was seen: the count of ends rose
  pub seen : IfOk result (λ taken. length taken ≤ most_source_bytes → Rose (ends source) (ends source'))
  -- of one that is too long no end was seen
  pub unseen : IfOk result (λ taken. most_source_bytes < length taken → ends source' ≡ ends source)

pub example_parts : Parts (Some (codes "play")) (Some (codes "ay")) (codes "pl")
example_parts = refl

pub example_got : Got (Some (codes "fork ")) (Some (codes "fork 0 1 a")) (codes "0 1 a")
example_got = refl

-- of four bytes two were handed out, and three may be at most
pub example_handed_out : HandedOut 3 (Some (codes "play")) (Some (codes "ay"))
example_handed_out = (2, lit≤ tt, refl)

pub example_at_end : AtEnd (Some []) × ¬ AtEnd (Some (codes "ay"))
example_at_end = (refl, λ e. suc-ne-zero 1 (ap length e))

-- four bytes of ten were taken
pub example_got_part : GotPart (Some (codes "> ")) (Some (codes "> fork")) (codes "fork 0 1 a")
example_got_part = (4, lit< tt, refl)
