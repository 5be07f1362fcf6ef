-- A stack over another.
use Rattle.std.proofs.Common.{◌≡◌, Bool, true, false, ◌&&◌, List, [], ◌∷◌, ◌++◌, Option, Some, None, refl, ap, sym, append_assoc}
use Rattle.syntax_judge.specs.declared.kind.Kind.{Kind}
use Rattle.syntax_judge.specs.declared.symbol.Symbol.{Symbol}
use Rattle.syntax_judge.specs.Tables.{Table, is_nullable, advance_by, are_nullable}

-- what is left, by what is left of the upper stack, which may stand for nothing or not
abbrev pub over : Table → List Symbol → Kind → Bool → Option (List Symbol) → Option (List Symbol)
over table st k empty (Some left) = Some (left ++ st)
over table st k true None = advance_by table st k
over table st k false None = None

one_over : (table : Table) (o : Option (List Symbol)) (n b : Bool) (upper st : List Symbol) (k : Kind)
    → advance_by table (upper ++ st) k ≡ over table st k b (advance_by table upper k)
    → elim o [ Some left ↦ Some (left ++ (upper ++ st)) | None ↦ elim n [ true ↦ advance_by table (upper ++ st) k | false ↦ None ] ]
    ≡ over table st k (n && b) (elim o [ Some left ↦ Some (left ++ upper) | None ↦ elim n [ true ↦ advance_by table upper k | false ↦ None ] ])
one_over table (Some left) n b upper st k h = ap Some (sym (append_assoc left upper st))
one_over table None true b upper st k h = h
one_over table None false b upper st k h = refl

pub advance_over : (table : Table) (upper st : List Symbol) (k : Kind) → advance_by table (upper ++ st) k ≡ over table st k (are_nullable upper) (advance_by table upper k)
advance_over table [] st k = refl
advance_over table (s ∷ upper) st k = one_over table (table s k) (is_nullable s) (are_nullable upper) upper st k (advance_over table upper st k)
