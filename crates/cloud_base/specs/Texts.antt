-- Why bytes are no text, and two texts put together.
use Rattle.std.specs.Prelude.{◌≡◌, ℕ, ◌≤◌, ◌<◌, List, [], ◌∷◌, ◌++◌, length, take, replicate, refl, All, slice_index}
use Rattle.std.proofs.Common.{lit<, lit≤, le→leb}
use Rattle.std.proofs.lemmas.List.Elements.{All-nil, All-cons}
use Rattle.cloud_base.specs.Values.{IsPrintable, most_text_bytes}
use Rattle.cloud_base.specs.declared.text.TextFault.{TextFault}
use Rattle.cloud_base.specs.declared.text.TextFault.TheVariants.{TooLong, BadByte}

-- the bytes are too many, or else the byte at a place is the first that isn't printable
abbrev pub HasFault : List ℕ → TextFault → Type 0
HasFault bytes (TooLong len) = (most_text_bytes < length bytes) × (len ≡ length bytes)
HasFault bytes (BadByte at) =
    (length bytes ≤ most_text_bytes)
    × (at < length bytes)
    × (¬ IsPrintable (slice_index bytes at))
    × All IsPrintable (take at bytes)

-- a text of 129 letters, and one with a line feed behind a letter
pub example_faults : HasFault (replicate 129 120) (TooLong 129) × HasFault (97 ∷ 10 ∷ []) (BadByte 1)
example_faults = ((lit< tt, refl), (lit≤ tt, lit< tt, λ h. le→leb 32 10 h.0, All-cons IsPrintable 97 [] (lit≤ tt, lit< tt) (All-nil IsPrintable)))

-- the first bytes of two texts in order, as many as a text may have
unfoldable pub cat_text : List ℕ → List ℕ → List ℕ
cat_text first second = take most_text_bytes (first ++ second)

-- a text of 100 letters put to itself
pub example_cut : cat_text (replicate 100 120) (replicate 100 120) ≡ replicate 128 120
unfolding cat_text
example_cut = refl
