-- No two fixed tokens are written alike.
use Rattle.std.proofs.Common.{◌≡◌, ℕ, List, ◌++◌, refl, ap, sym, ◌∙◌, Option, Some}
use Rattle.std.specs.Prelude.{find}
use Rattle.std.specs.Str.{bytes_eq}
use Rattle.source_tokens.specs.Terminals.{terminal_text, words, symbols}
use Rattle.source_tokens.specs.declared.terminal.Terminal.{Terminal}
use Rattle.source_tokens.specs.declared.terminal.Terminal.TheVariants as variants

-- the fixed token that is written so
written : List ℕ → Option Terminal
written text = find (λ t. bytes_eq (terminal_text t) text) (words ++ symbols)

written_back : (t : Terminal) → written (terminal_text t) ≡ Some t
unfolding written words
written_back variants.Add = refl
written_back variants.Alive = refl
written_back variants.All = refl
written_back variants.And = refl
written_back variants.Array = refl
written_back variants.CInt = refl
written_back variants.CString = refl
written_back variants.Client = refl
written_back variants.Delete = refl
written_back variants.Else = refl
written_back variants.Entity = refl
written_back variants.Entries = refl
written_back variants.False = refl
written_back variants.Flush = refl
written_back variants.Foreach = refl
written_back variants.Global = refl
written_back variants.Hold = refl
written_back variants.If = refl
written_back variants.In = refl
written_back variants.Int = refl
written_back variants.LosePush = refl
written_back variants.LoseReply = refl
written_back variants.New = refl
written_back variants.Not = refl
written_back variants.Or = refl
written_back variants.Pass = refl
written_back variants.Print = refl
written_back variants.Schedule = refl
written_back variants.Schema = refl
written_back variants.Serve = refl
written_back variants.Set = refl
written_back variants.SetIfEmpty = refl
written_back variants.String = refl
written_back variants.True = refl
written_back variants.Twice = refl
written_back variants.Var = refl
written_back variants.While = refl
written_back variants.Yield = refl
written_back variants.OpenBrace = refl
written_back variants.CloseBrace = refl
written_back variants.OpenBracket = refl
written_back variants.CloseBracket = refl
written_back variants.OpenParen = refl
written_back variants.CloseParen = refl
written_back variants.Colon = refl
written_back variants.Semicolon = refl
written_back variants.Comma = refl
written_back variants.Dot = refl
written_back variants.Assign = refl
written_back variants.Equal = refl
written_back variants.NotEqual = refl
written_back variants.Less = refl
written_back variants.LessOrEqual = refl
written_back variants.Greater = refl
written_back variants.GreaterOrEqual = refl
written_back variants.Plus = refl
written_back variants.Concat = refl
written_back variants.Minus = refl
written_back variants.Times = refl
written_back variants.Divide = refl
written_back variants.Remainder = refl

-- no two are written alike
pub one_text : (a b : Terminal) → terminal_text a ≡ terminal_text b → a ≡ b
one_text a b h =
    let both : Some a ≡ Some b = sym (written_back a) ∙ ap written h ∙ written_back b in
    cc both
