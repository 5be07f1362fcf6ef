-- One turn of the loop over the lines of items.
use Rattle.std.proofs.Common.{◌≡◌, refl, sym, ◌∙◌, ap}
use Rattle.std.proofs.lemmas.List.{append_assoc, append-nil}
use Rattle.std.specs.Prelude.{ℕ, Bool, true, false, ◌||◌, if◌then◌else◌, List, [], ◌∷◌, ◌++◌}
use Rattle.source_tokens.specs.declared.token.Placed.{Placed}
use Rattle.source_reader.specs.Lines.{is_client, opens, begins, noted, lines_from}

one_noted : (b : Bool) (line : ℕ) (ls : List ℕ) → (if b then line ∷ ls else ls) ≡ noted b line ++ ls
one_noted true line ls = refl
one_noted false line ls = refl

pub lines_next : (lines : List ℕ) (inside opened : Bool) (p : Placed) (ps : List Placed)
    → lines ++ lines_from inside opened (p ∷ ps) ≡ (lines ++ noted (begins inside opened p.token) p.line) ++ lines_from (inside || is_client p.token) (opens p.token) ps
unfolding lines_from
lines_next lines inside opened p ps =
    ap (λ ls. lines ++ ls) (one_noted (begins inside opened p.token) p.line (lines_from (inside || is_client p.token) (opens p.token) ps))
    ∙ sym (append_assoc lines (noted (begins inside opened p.token) p.line) (lines_from (inside || is_client p.token) (opens p.token) ps))

pub lines_last : (lines : List ℕ) (inside opened : Bool) → lines ++ lines_from inside opened [] ≡ lines
unfolding lines_from
lines_last lines inside opened = append-nil lines
