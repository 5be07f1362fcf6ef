-- What is a program to the grammar, and what a judge of syntax answers.
use Rattle.std.proofs.Common.{inl}
use Rattle.std.specs.Prelude.{◌≡◌, ◌⊎◌, refl, ◌+◌, ◌<◌, List, [], ◌∷◌, ◌++◌, length, take, map, codes}
use Rattle.source_tokens.specs.Lexemes.{lexeme_at}
use Rattle.source_tokens.specs.Scans.{scan, scan_behind, tokens_of}
use Rattle.source_tokens.specs.Terminals.{reserved, words}
use Rattle.source_tokens.specs.declared.token.Placed.{Placed}
use Rattle.source_tokens.specs.declared.token.Token.{Token}
use Rattle.source_tokens.specs.declared.token.Token.TheVariants.{Name, Number, Text, Fixed}
use Rattle.syntax_judge.specs.Grammar.{productions}
use Rattle.syntax_judge.specs.declared.kind.Kind.{Kind}
use Rattle.syntax_judge.specs.declared.kind.Kind.TheVariants as k
use Rattle.syntax_judge.specs.declared.symbol.Part.{Part}
use Rattle.syntax_judge.specs.declared.symbol.Part.TheVariants as p
use Rattle.syntax_judge.specs.declared.symbol.Symbol.{Symbol}
use Rattle.syntax_judge.specs.declared.symbol.Symbol.TheVariants as s
use Rattle.syntax_judge.specs.declared.verdict.Verdict.{Verdict}
use Rattle.syntax_judge.specs.declared.verdict.Verdict.TheVariants as v
use Rattle.syntax_judge.specs.declared.symbol.Symbol.TheVariants.{Open}

-- what syntax sees of a token
abbrev pub kind_of : Token → Kind
kind_of (Name name) = k.Name
kind_of (Number number) = k.Number
kind_of (Text text) = k.Text
kind_of (Fixed terminal) = k.Fixed terminal

abbrev pub kinds_in : List Placed → List Kind
kinds_in tokens = map kind_of (tokens_of tokens)

abbrev pub IsOneOf : {A : Type 0} → A → List A → Type 0
IsOneOf a [] = ⊥
IsOneOf a (x ∷ xs) = (x ≡ a) ⊎ IsOneOf a xs

-- the symbols, one after the other, stand for tokens of these kinds: a token for itself, a part for what one of
-- its ways stands for
pub data Derives : List Symbol → List Kind → Type 0 where
  nothing : Derives [] []
  takes : (kind : Kind) (symbols : List Symbol) (kinds : List Kind) → Derives symbols kinds → Derives (s.Token kind ∷ symbols) (kind ∷ kinds)
  becomes : (p : Part) (way symbols : List Symbol) (kinds : List Kind) → IsOneOf way (productions p) → Derives (way ++ symbols) kinds → Derives (s.Open p ∷ symbols) kinds

abbrev pub start : List Symbol
start = Open p.Program ∷ []

-- tokens of these kinds are a program
abbrev pub IsProgram : List Kind → Type 0
IsProgram kinds = Derives start kinds

-- with some more behind them they are
abbrev pub Begins : List Kind → Type 0
Begins kinds = (more : List Kind) × IsProgram (kinds ++ more)

-- Accepted: they are a program. Fails at n: those before n begin one, those up to and with n begin none. Ends too
-- soon: they begin one and are none.
abbrev pub JudgeAnswers : List Kind → Verdict → Type 0
JudgeAnswers kinds v.Accepted = IsProgram kinds
JudgeAnswers kinds (v.FailsAt n) = (n < length kinds) × Begins (take n kinds) × (¬ Begins (take (n + 1) kinds))
JudgeAnswers kinds v.EndsTooSoon = Begins kinds × (¬ IsProgram kinds)

-- a smallest program: no declaration, and one client with nothing to do
pub example_program : IsProgram (kinds_in (scan (codes "schema {} client c {}")).tokens)
unfolding scan_behind lexeme_at reserved words
example_program =
    becomes p.Program _ _ _ (inl refl)
    (takes _ _ _ (takes _ _ _
    (becomes p.DeclarationTail _ _ _ (inl refl)
    (takes _ _ _
    (becomes p.Client _ _ _ (inl refl)
    (takes _ _ _ (takes _ _ _
    (becomes p.Block _ _ _ (inl refl)
    (takes _ _ _
    (becomes p.StatementTail _ _ _ (inl refl)
    (takes _ _ _ (becomes p.ClientTail _ _ _ (inl refl) nothing))))))))))))

-- what stands before the braces begins a program
pub example_begins : Begins (kinds_in (scan (codes "schema {} client c")).tokens)
unfolding scan_behind lexeme_at reserved words
example_begins = (kinds_in (scan (codes "{}")).tokens, example_program)
