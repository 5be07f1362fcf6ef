-- What contracts see of a writer and of a front: which chronicle it is of, and its list.
use Rattle.std.specs.Prelude.{◌≡◌, ℕ, List, [], ◌∷◌, length, nat_lt, if◌then◌else◌, refl}
use Rattle.std.specs.Coded.{Coded, code_by, coded×, coded_list}
use Rattle.atomic_table.specs.Seated.{TableId, table_id_coded}

pub record TokenView (E : Type 0) : Type 0 where
  pub chronicle : TableId
  pub list : List E

abbrev pub token_view_coded : {E : Type 0} → Coded E → Coded (TokenView E)
token_view_coded {E} c = code_by (TableId × List E) (coded× table_id_coded (coded_list c)) (λ g. (g.chronicle, g.list)) (λ p. record { chronicle = p.0; list = p.1 }) (λ _. refl)

-- the longer of two lists, and the first where neither is longer
abbrev pub longer : {E : Type 0} → List E → List E → List E
longer xs ys = if nat_lt (length xs) (length ys) then ys else xs

pub example_second_is_longer : longer {E = ℕ} (5 ∷ []) (5 ∷ 6 ∷ []) ≡ 5 ∷ 6 ∷ []
example_second_is_longer = refl

pub example_first_is_longer : longer {E = ℕ} (5 ∷ 6 ∷ []) (5 ∷ []) ≡ 5 ∷ 6 ∷ []
example_first_is_longer = refl

pub example_neither_is_longer : longer {E = ℕ} (5 ∷ []) (7 ∷ []) ≡ 5 ∷ []
example_neither_is_longer = refl
