-- The fixed tokens: how each is written, which are reserved words and which are symbols.
use Rattle.std.specs.Prelude.{◌≡◌, refl, ℕ, List, [], ◌∷◌, codes, find, filter, slice_index, ◌==◌, length, Option, Some, None}
use Rattle.std.specs.Str.{bytes_eq}
use Rattle.cloud_base.specs.Values.{IsName}
use Rattle.source_tokens.specs.declared.terminal.Terminal.{Terminal}
use Rattle.source_tokens.specs.declared.terminal.Terminal.TheVariants as variants

abbrev pub terminal_text : Terminal → List ℕ
terminal_text variants.Add = codes "add"
terminal_text variants.Alive = codes "alive"
terminal_text variants.All = codes "all"
terminal_text variants.And = codes "and"
terminal_text variants.Array = codes "array"
terminal_text variants.CInt = codes "CInt"
terminal_text variants.CString = codes "CString"
terminal_text variants.Client = codes "client"
terminal_text variants.Delete = codes "delete"
terminal_text variants.Else = codes "else"
terminal_text variants.Entity = codes "entity"
terminal_text variants.Entries = codes "entries"
terminal_text variants.False = codes "false"
terminal_text variants.Flush = codes "flush"
terminal_text variants.Foreach = codes "foreach"
terminal_text variants.Global = codes "global"
terminal_text variants.Hold = codes "hold"
terminal_text variants.If = codes "if"
terminal_text variants.In = codes "in"
terminal_text variants.Int = codes "int"
terminal_text variants.LosePush = codes "losepush"
terminal_text variants.LoseReply = codes "losereply"
terminal_text variants.New = codes "new"
terminal_text variants.Not = codes "not"
terminal_text variants.Or = codes "or"
terminal_text variants.Pass = codes "pass"
terminal_text variants.Print = codes "print"
terminal_text variants.Schedule = codes "schedule"
terminal_text variants.Schema = codes "schema"
terminal_text variants.Serve = codes "serve"
terminal_text variants.Set = codes "set"
terminal_text variants.SetIfEmpty = codes "setIfEmpty"
terminal_text variants.String = codes "string"
terminal_text variants.True = codes "true"
terminal_text variants.Twice = codes "twice"
terminal_text variants.Var = codes "var"
terminal_text variants.While = codes "while"
terminal_text variants.Yield = codes "yield"
terminal_text variants.OpenBrace = codes "{"
terminal_text variants.CloseBrace = codes "}"
terminal_text variants.OpenBracket = codes "["
terminal_text variants.CloseBracket = codes "]"
terminal_text variants.OpenParen = codes "("
terminal_text variants.CloseParen = codes ")"
terminal_text variants.Colon = codes ":"
terminal_text variants.Semicolon = codes ";"
terminal_text variants.Comma = codes ","
terminal_text variants.Dot = codes "."
terminal_text variants.Assign = codes "="
terminal_text variants.Equal = codes "=="
terminal_text variants.NotEqual = codes "!="
terminal_text variants.Less = codes "<"
terminal_text variants.LessOrEqual = codes "<="
terminal_text variants.Greater = codes ">"
terminal_text variants.GreaterOrEqual = codes ">="
terminal_text variants.Plus = codes "+"
terminal_text variants.Concat = codes "++"
terminal_text variants.Minus = codes "-"
terminal_text variants.Times = codes "*"
terminal_text variants.Divide = codes "/"
terminal_text variants.Remainder = codes "%"

-- the 38 reserved words: what is written so is no name
unfoldable pub words : List Terminal
words =
    variants.Add ∷ variants.Alive ∷ variants.All ∷ variants.And ∷ variants.Array ∷ variants.CInt ∷
    variants.CString ∷ variants.Client ∷ variants.Delete ∷ variants.Else ∷ variants.Entity ∷
    variants.Entries ∷ variants.False ∷ variants.Flush ∷ variants.Foreach ∷ variants.Global ∷
    variants.Hold ∷ variants.If ∷ variants.In ∷ variants.Int ∷ variants.LosePush ∷
    variants.LoseReply ∷ variants.New ∷ variants.Not ∷ variants.Or ∷ variants.Pass ∷
    variants.Print ∷ variants.Schedule ∷ variants.Schema ∷ variants.Serve ∷ variants.Set ∷
    variants.SetIfEmpty ∷ variants.String ∷ variants.True ∷ variants.Twice ∷ variants.Var ∷
    variants.While ∷ variants.Yield ∷ []

-- the 23 symbols, those of two bytes before those of one, so that the first that a text begins with is
-- the longest
abbrev pub symbols : List Terminal
symbols =
    variants.Equal ∷ variants.NotEqual ∷ variants.LessOrEqual ∷ variants.GreaterOrEqual ∷
    variants.Concat ∷ variants.OpenBrace ∷ variants.CloseBrace ∷ variants.OpenBracket ∷
    variants.CloseBracket ∷ variants.OpenParen ∷ variants.CloseParen ∷ variants.Colon ∷
    variants.Semicolon ∷ variants.Comma ∷ variants.Dot ∷ variants.Assign ∷ variants.Less ∷
    variants.Greater ∷ variants.Plus ∷ variants.Minus ∷ variants.Times ∷ variants.Divide ∷
    variants.Remainder ∷ []

-- the terminal of a list that is written so
abbrev pub written_so : List Terminal → List ℕ → Option Terminal
written_so terminals word = find (λ t. bytes_eq (terminal_text t) word) terminals

-- the reserved word that is written so
unfoldable pub reserved : List ℕ → Option Terminal
reserved word = written_so words word

-- the reserved words that begin with a byte
unfoldable pub words_from : ℕ → List Terminal
words_from first = filter (λ t. slice_index (terminal_text t) 0 == first) words

-- a name that is no reserved word
abbrev pub IsIdentifier : List ℕ → Type 0
IsIdentifier word = IsName word × (reserved word ≡ None)

-- the bytes of a symbol and of a reserved word
pub example_terminal_text : (terminal_text variants.LessOrEqual ≡ 60 ∷ 61 ∷ []) × (terminal_text variants.In ≡ 105 ∷ 110 ∷ [])
example_terminal_text = (refl, refl)

-- a capital letter is another byte than the small one
pub example_capital : (terminal_text variants.CInt ≡ 67 ∷ 73 ∷ 110 ∷ 116 ∷ []) × (terminal_text variants.Int ≡ 105 ∷ 110 ∷ 116 ∷ [])
example_capital = (refl, refl)

pub example_reserved : (reserved (codes "while") ≡ Some variants.While) × (reserved (codes "whiles") ≡ None) × (reserved (codes "While") ≡ None) × (length words ≡ 38) × (length symbols ≡ 23)
unfolding reserved words
example_reserved = (refl, refl, refl, refl, refl)

pub example_identifier : IsIdentifier (codes "grocery") × ¬ IsIdentifier (codes "print")
unfolding reserved words
example_identifier = ((refl, refl), λ h. absurd (cc h.1))
