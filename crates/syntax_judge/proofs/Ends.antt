-- What some tokens leave of a stack, and tokens that end a symbol.
use Rattle.std.specs.Prelude.{ℕ, zero, suc, List, [], ◌∷◌, Option, Some, option_and_then}
use Rattle.std.specs.List.{flat_map}
use Rattle.syntax_judge.specs.Grammar.{productions}
use Rattle.syntax_judge.specs.Tables.{advance}
use Rattle.syntax_judge.specs.declared.kind.Kind.{Kind}
use Rattle.syntax_judge.specs.declared.symbol.Symbol.{Symbol}
use Rattle.syntax_judge.specs.declared.symbol.Symbol.TheVariants as s

-- what some tokens leave of a stack
abbrev pub advance_all : List Symbol → List Kind → Option (List Symbol)
advance_all st [] = Some st
advance_all st (k ∷ ts) = option_and_then (λ after. advance_all after ts) (advance st k)

abbrev first_of : List (List Symbol) → List Symbol
first_of [] = []
first_of (way ∷ ways) = way

-- tokens that end a symbol, by the first way of each part
abbrev pub finish_at : ℕ → Symbol → List Kind
finish_at depth (s.Token k) = k ∷ []
finish_at zero (s.Open p) = []
finish_at (suc depth) (s.Open p) = flat_map (finish_at depth) (first_of (productions p))

abbrev pub finish : Symbol → List Kind
finish = finish_at 12
