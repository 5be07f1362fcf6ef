-- What holds of each step of a derivation holds of a token's whole advance.
use Rattle.std.proofs.Common.{◌≡◌, ℕ, zero, suc, inl, inr, Bool, true, false, List, [], ◌∷◌, ◌++◌, Option, Some, None, refl, sym, subst, ◌∙◌, append_assoc}
use Rattle.syntax_judge.specs.declared.kind.Kind.{Kind}
use Rattle.syntax_judge.specs.declared.symbol.Part.{Part}
use Rattle.syntax_judge.specs.declared.symbol.Symbol.{Symbol}
use Rattle.syntax_judge.specs.declared.symbol.Symbol.TheVariants as s
use Rattle.syntax_judge.proofs.Truth.{never, same_is, empty_is, some_one, none_some}
use Rattle.syntax_judge.specs.Grammar.{productions}
use Rattle.syntax_judge.specs.Programs.{IsOneOf}
use Rattle.syntax_judge.specs.Tables.{Table, is_nullable, is_same_kind, advance_by, first_way, token_left, table_at}

-- R leads from a stack before the token to one behind it
pub record Carries (k : Kind) (R : List Symbol → List Symbol → Type 0) : Type 0 where
  pub taken : (st : List Symbol) → R (s.Token k ∷ st) st
  pub became : (p : Part) (way st after : List Symbol) → IsOneOf way (productions p) → R (way ++ st) after → R (s.Open p ∷ st) after

vanished : (k : Kind) (R : List Symbol → List Symbol → Type 0) → Carries k R → (x : Symbol) (st after : List Symbol) → is_nullable x ≡ true → R st after → R (x ∷ st) after
vanished k R c (s.Token j) st after n r = never n
vanished k R c (s.Open p) st after n r = c.became p [] st after (empty_is (productions p) n) r

module _ (k : Kind) (R : List Symbol → List Symbol → Type 0) (c : Carries k R) where
  abbrev Row : Table → Type 0
  Row table = (x : Symbol) (left st : List Symbol) → table x k ≡ Some left → R (x ∷ st) (left ++ st)

  -- the table's answer, and whether the symbol may stand for nothing
  one : (table : Table) (x : Symbol) (way st after : List Symbol) (o : Option (List Symbol)) (n : Bool) → table x k ≡ o → is_nullable x ≡ n → Row table
      → (advance_by table way k ≡ Some after → R (way ++ st) (after ++ st))
      → elim o [ Some left ↦ Some (left ++ way) | None ↦ elim n [ true ↦ advance_by table way k | false ↦ None ] ] ≡ Some after → R (x ∷ (way ++ st)) (after ++ st)
  one table x way st after (Some left) n e m row below h =
      subst (λ u. R (x ∷ (way ++ st)) (u ++ st)) (some_one (left ++ way) after h)
      (subst (λ u. R (x ∷ (way ++ st)) u) (sym (append_assoc left way st)) (row x left (way ++ st) e))
  one table x way st after None true e m row below h = vanished k R c x (way ++ st) (after ++ st) m (below h)
  one table x way st after None false e m row below h = none_some after h

  by_rows : (table : Table) → Row table → (way st after : List Symbol) → advance_by table way k ≡ Some after → R (way ++ st) (after ++ st)
  by_rows table row [] st after h = none_some after h
  by_rows table row (x ∷ way) st after h = one table x way st after (table x k) (is_nullable x) refl refl row (by_rows table row way st after) h

  token_row : (j : Kind) (left st : List Symbol) (b : Bool) → is_same_kind j k ≡ b → token_left b ≡ Some left → R (s.Token j ∷ st) (left ++ st)
  token_row j left st true e h =
      subst (λ u. R (s.Token j ∷ st) (u ++ st)) (some_one [] left h) (subst (λ i. R (s.Token i ∷ st) st) (sym (same_is j k e)) (c.taken st))
  token_row j left st false e h = none_some left h

  way_row : (table : Table) → Row table → (p : Part) (left st way : List Symbol) (ways : List (List Symbol)) (o : Option (List Symbol)) → advance_by table way k ≡ o → IsOneOf way (productions p)
      → (first_way table ways k ≡ Some left → R (s.Open p ∷ st) (left ++ st))
      → elim o [ Some found ↦ Some found | None ↦ first_way table ways k ] ≡ Some left → R (s.Open p ∷ st) (left ++ st)
  way_row table row p left st way ways (Some found) e i below h = c.became p way st (left ++ st) i (by_rows table row way st left (e ∙ h))
  way_row table row p left st way ways None e i below h = below h

  part_row : (table : Table) → Row table → (p : Part) (left st : List Symbol) (ways : List (List Symbol)) → ((way : List Symbol) → IsOneOf way ways → IsOneOf way (productions p)) → first_way table ways k ≡ Some left → R (s.Open p ∷ st) (left ++ st)
  part_row table row p left st [] within h = none_some left h
  part_row table row p left st (way ∷ ways) within h =
      way_row table row p left st way ways (advance_by table way k) refl (within way (inl refl)) (part_row table row p left st ways (λ w i. within w (inr i))) h

  row_at : (n : ℕ) → Row (table_at n)
  unfolding table_at
  row_at n (s.Token j) left st h = token_row j left st (is_same_kind j k) refl h
  row_at zero (s.Open p) left st h = none_some left h
  row_at (suc n) (s.Open p) left st h = part_row (table_at n) (row_at n) p left st (productions p) (λ w i. i) h

  pub carried : (n : ℕ) (way st after : List Symbol) → advance_by (table_at n) way k ≡ Some after → R (way ++ st) (after ++ st)
  carried n way st after h = by_rows (table_at n) (row_at n) way st after h
