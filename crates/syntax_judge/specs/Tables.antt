-- How tokens are judged one after the other: what each leaves of a stack of symbols. The table of what a token
-- leaves of a symbol is computed from the grammar.
use Rattle.std.specs.Prelude.{◌≡◌, refl, ℕ, zero, suc, ◌+◌, Bool, true, false, if◌then◌else◌, List, [], ◌∷◌, ◌++◌, reverse, Option, Some, None, codes}
use Rattle.std.specs.List.{list_any, list_all}
use denote.Enum.Bare.{sameb}
use Rattle.source_tokens.specs.contracts.terminal.Terminal.{the_type}
use Rattle.source_tokens.specs.Lexemes.{lexeme_at}
use Rattle.source_tokens.specs.Scans.{scan, scan_behind}
use Rattle.source_tokens.specs.Terminals.{reserved, words}
use Rattle.syntax_judge.specs.Grammar.{productions}
use Rattle.syntax_judge.specs.Programs.{start, kinds_in}
use Rattle.syntax_judge.specs.declared.kind.Kind.{Kind}
use Rattle.syntax_judge.specs.declared.kind.Kind.TheVariants as k
use Rattle.syntax_judge.specs.declared.symbol.Symbol.{Symbol}
use Rattle.syntax_judge.specs.declared.symbol.Symbol.TheVariants as s
use Rattle.syntax_judge.specs.declared.verdict.Verdict.{Verdict}
use Rattle.syntax_judge.specs.declared.verdict.Verdict.TheVariants as v

abbrev pub is_same_kind : Kind → Kind → Bool
is_same_kind k.Name k.Name = true
is_same_kind k.Number k.Number = true
is_same_kind k.Text k.Text = true
is_same_kind (k.Fixed a) (k.Fixed b) = sameb the_type a b
is_same_kind _ _ = false

abbrev pub is_empty : {A : Type 0} → List A → Bool
is_empty [] = true
is_empty (x ∷ xs) = false

-- May it stand for no tokens?
abbrev pub is_nullable : Symbol → Bool
is_nullable (s.Token kind) = false
is_nullable (s.Open p) = list_any is_empty (productions p)

abbrev pub are_nullable : List Symbol → Bool
are_nullable stack = list_all is_nullable stack

-- what is left of a symbol behind its first token, and none where it can't begin with that
abbrev pub Table : Type 0
Table = Symbol → Kind → Option (List Symbol)

-- what is left of a stack behind a token: of the first symbol that has it, where those before it may stand for nothing
abbrev pub advance_by : Table → List Symbol → Kind → Option (List Symbol)
advance_by table [] kind = None
advance_by table (symbol ∷ stack) kind = elim (table symbol kind) [
  | Some left ↦ Some (left ++ stack)
  | None ↦ elim (is_nullable symbol) [ true ↦ advance_by table stack kind | false ↦ None ]
]

-- by the first of these ways that can begin with the token
abbrev pub first_way : Table → List (List Symbol) → Kind → Option (List Symbol)
first_way table [] kind = None
first_way table (way ∷ ways) kind = elim (advance_by table way kind) [ Some left ↦ Some left | None ↦ first_way table ways kind ]

abbrev pub token_left : Bool → Option (List Symbol)
token_left true = Some []
token_left false = None

-- a part becomes one of its ways, at most so many times before the token
unfoldable pub table_at : ℕ → Table
table_at depth (s.Token wanted) kind = token_left (is_same_kind wanted kind)
table_at zero (s.Open p) kind = None
table_at (suc depth) (s.Open p) kind = first_way (table_at depth) (productions p) kind

-- as deep as the grammar needs: from a statement's value to a factor
abbrev pub most_deep : ℕ
most_deep = 9

abbrev pub table : Table
table = table_at most_deep

abbrev pub advance : List Symbol → Kind → Option (List Symbol)
advance = advance_by table

-- the verdict on tokens of these kinds, the first of which has this place, before this stack
abbrev pub verdict_from : ℕ → List Symbol → List Kind → Verdict
verdict_from n stack [] = if are_nullable stack then v.Accepted else v.EndsTooSoon
verdict_from n stack (kind ∷ kinds) = elim (advance stack kind) [
  | Some after ↦ verdict_from (n + 1) after kinds
  | None ↦ v.FailsAt n
]

abbrev pub verdict_of : List Kind → Verdict
verdict_of kinds = verdict_from 0 start kinds

-- what a try answers and leaves of the stack, whose top is the end of the list here
abbrev pub outcome : List Symbol → Option (List Symbol) → Bool × List Symbol
outcome below (Some left) = (true, below ++ reverse left)
outcome below None = (false, below)

abbrev pub if_found : Bool → List Symbol → Option (List Symbol)
if_found true stack = Some stack
if_found false stack = None

abbrev judged_text : List ℕ → Verdict
judged_text text = verdict_of (kinds_in (scan text).tokens)

pub example_accepted : judged_text (codes "schema {} client c { print 1 + 2 < 4; }") ≡ v.Accepted
unfolding table_at scan_behind lexeme_at reserved words
example_accepted = refl

-- a comparison has two sides, so the second < is the fault
pub example_fails : judged_text (codes "schema {} client c { print 1 < 2 < 4; }") ≡ v.FailsAt 10
unfolding table_at scan_behind lexeme_at reserved words
example_fails = refl

-- there is no program without a client, and none with a block that isn't closed
pub example_too_soon : (judged_text [] ≡ v.EndsTooSoon) × (judged_text (codes "schema {}") ≡ v.EndsTooSoon) × (judged_text (codes "schema {} client c { yield;") ≡ v.EndsTooSoon)
unfolding table_at scan_behind lexeme_at reserved words
example_too_soon = (refl, refl, refl)
