-- The names of clients, and what is left of clients behind the first ones.
use Rattle.std.proofs.Common.{◌≡◌, refl, ℕ, suc, ◌||◌, Bool, true, false, List, [], ◌∷◌, Option, Some, None, option_map, is_some, sym, ap, ◌∙◌, if◌then◌else◌}
use Rattle.std.specs.List.{list_any}
use Rattle.std.specs.Option.{MatchOption}
use Rattle.std.specs.Str.{bytes_eq}
use Rattle.source_tree.specs.declared.program.Client.{Client}
use Rattle.source_tree.specs.declared.program.Item.{Item}
use Rattle.kind_rules.specs.Expressions.{unless}
use Rattle.kind_rules.specs.Names.{first_place, is_among}
use Rattle.kind_rules.specs.Programs.{client_names, client_number, item_name, turn_rules}
use Rattle.kind_rules.specs.Statements.{number_or_zero}

pub among_names : (name : List ℕ) (cs : List Client) → is_among name (client_names cs) ≡ list_any (λ (c : Client). bytes_eq c.name name) cs
among_names name [] = refl
among_names name (c ∷ cs) = ap (λ rest. bytes_eq c.name name || rest) (among_names name cs)

pub place_in_names : (name : List ℕ) (cs : List Client) → first_place (λ x. bytes_eq x name) (client_names cs) ≡ first_place (λ (c : Client). bytes_eq c.name name) cs
place_in_names name [] = refl
place_in_names name (c ∷ cs) = ap (λ rest. if bytes_eq c.name name then Some 0 else option_map suc rest) (place_in_names name cs)

number_by : (b : Bool) (o : Option ℕ) (d : Bool) → is_some o ≡ d → is_some (if b then Some 0 else option_map suc o) ≡ b || d
number_by true o d e = refl
number_by false None d e = e
number_by false (Some n) d e = e

among_place : (name : List ℕ) (xs : List (List ℕ)) → is_some (first_place (λ x. bytes_eq x name) xs) ≡ is_among name xs
among_place name [] = refl
among_place name (x ∷ xs) = number_by (bytes_eq x name) (first_place (λ y. bytes_eq y name) xs) (is_among name xs) (among_place name xs)

-- whose turn it is
pub turn : (names : List (List ℕ)) (item : Item) (o : Option ℕ) → o ≡ first_place (λ x. bytes_eq x (item_name item)) names → MatchOption o (turn_rules names item ≡ 11 ∷ []) (λ n. (turn_rules names item ≡ []) × (n ≡ client_number names (item_name item)))
turn names item None e = ap (λ b. unless b 11) (sym (among_place (item_name item) names) ∙ ap is_some (sym e))
turn names item (Some n) e = (ap (λ b. unless b 11) (sym (among_place (item_name item) names) ∙ ap is_some (sym e)), ap number_or_zero e)
