-- The fixed pieces of a canonical text, each with its tokens.
use Rattle.std.proofs.Common.{ℕ, List, ◌∷◌, ◌++◌, ap}
use Rattle.std.specs.Prelude.{codes}
use Rattle.source_tokens.specs.Lexemes.{lexeme_at}
use Rattle.source_tokens.specs.Scans.{scan_behind}
use Rattle.source_tokens.specs.Terminals.{reserved, words}
use Rattle.source_tokens.specs.declared.terminal.Terminal.TheVariants as t
use Rattle.source_tokens.specs.declared.token.Token.{Token}
use Rattle.source_tokens.specs.declared.token.Token.TheVariants.{Fixed}
use Rattle.source_tokens.proofs.Lexing.{Lexes}

pub lexes_or : (rest : List ℕ) (ts : List Token) → Lexes rest ts → Lexes (codes " or " ++ rest) (Fixed t.Or ∷ ts)
unfolding scan_behind lexeme_at reserved words
lexes_or rest ts h = record { read = λ at line. ap (λ us. Fixed t.Or ∷ us) (h.read _ _); whole = λ at line. h.whole _ _ }

pub lexes_and : (rest : List ℕ) (ts : List Token) → Lexes rest ts → Lexes (codes " and " ++ rest) (Fixed t.And ∷ ts)
unfolding scan_behind lexeme_at reserved words
lexes_and rest ts h = record { read = λ at line. ap (λ us. Fixed t.And ∷ us) (h.read _ _); whole = λ at line. h.whole _ _ }

pub lexes_equal : (rest : List ℕ) (ts : List Token) → Lexes rest ts → Lexes (codes " == " ++ rest) (Fixed t.Equal ∷ ts)
unfolding scan_behind lexeme_at reserved words
lexes_equal rest ts h = record { read = λ at line. ap (λ us. Fixed t.Equal ∷ us) (h.read _ _); whole = λ at line. h.whole _ _ }

pub lexes_not_equal : (rest : List ℕ) (ts : List Token) → Lexes rest ts → Lexes (codes " != " ++ rest) (Fixed t.NotEqual ∷ ts)
unfolding scan_behind lexeme_at reserved words
lexes_not_equal rest ts h = record { read = λ at line. ap (λ us. Fixed t.NotEqual ∷ us) (h.read _ _); whole = λ at line. h.whole _ _ }

pub lexes_less : (rest : List ℕ) (ts : List Token) → Lexes rest ts → Lexes (codes " < " ++ rest) (Fixed t.Less ∷ ts)
unfolding scan_behind lexeme_at reserved words
lexes_less rest ts h = record { read = λ at line. ap (λ us. Fixed t.Less ∷ us) (h.read _ _); whole = λ at line. h.whole _ _ }

pub lexes_less_or_equal : (rest : List ℕ) (ts : List Token) → Lexes rest ts → Lexes (codes " <= " ++ rest) (Fixed t.LessOrEqual ∷ ts)
unfolding scan_behind lexeme_at reserved words
lexes_less_or_equal rest ts h = record { read = λ at line. ap (λ us. Fixed t.LessOrEqual ∷ us) (h.read _ _); whole = λ at line. h.whole _ _ }

pub lexes_greater : (rest : List ℕ) (ts : List Token) → Lexes rest ts → Lexes (codes " > " ++ rest) (Fixed t.Greater ∷ ts)
unfolding scan_behind lexeme_at reserved words
lexes_greater rest ts h = record { read = λ at line. ap (λ us. Fixed t.Greater ∷ us) (h.read _ _); whole = λ at line. h.whole _ _ }

pub lexes_greater_or_equal : (rest : List ℕ) (ts : List Token) → Lexes rest ts → Lexes (codes " >= " ++ rest) (Fixed t.GreaterOrEqual ∷ ts)
unfolding scan_behind lexeme_at reserved words
lexes_greater_or_equal rest ts h = record { read = λ at line. ap (λ us. Fixed t.GreaterOrEqual ∷ us) (h.read _ _); whole = λ at line. h.whole _ _ }

pub lexes_plus : (rest : List ℕ) (ts : List Token) → Lexes rest ts → Lexes (codes " + " ++ rest) (Fixed t.Plus ∷ ts)
unfolding scan_behind lexeme_at reserved words
lexes_plus rest ts h = record { read = λ at line. ap (λ us. Fixed t.Plus ∷ us) (h.read _ _); whole = λ at line. h.whole _ _ }

pub lexes_minus : (rest : List ℕ) (ts : List Token) → Lexes rest ts → Lexes (codes " - " ++ rest) (Fixed t.Minus ∷ ts)
unfolding scan_behind lexeme_at reserved words
lexes_minus rest ts h = record { read = λ at line. ap (λ us. Fixed t.Minus ∷ us) (h.read _ _); whole = λ at line. h.whole _ _ }

pub lexes_concat : (rest : List ℕ) (ts : List Token) → Lexes rest ts → Lexes (codes " ++ " ++ rest) (Fixed t.Concat ∷ ts)
unfolding scan_behind lexeme_at reserved words
lexes_concat rest ts h = record { read = λ at line. ap (λ us. Fixed t.Concat ∷ us) (h.read _ _); whole = λ at line. h.whole _ _ }

pub lexes_times : (rest : List ℕ) (ts : List Token) → Lexes rest ts → Lexes (codes " * " ++ rest) (Fixed t.Times ∷ ts)
unfolding scan_behind lexeme_at reserved words
lexes_times rest ts h = record { read = λ at line. ap (λ us. Fixed t.Times ∷ us) (h.read _ _); whole = λ at line. h.whole _ _ }

pub lexes_divide : (rest : List ℕ) (ts : List Token) → Lexes rest ts → Lexes (codes " / " ++ rest) (Fixed t.Divide ∷ ts)
unfolding scan_behind lexeme_at reserved words
lexes_divide rest ts h = record { read = λ at line. ap (λ us. Fixed t.Divide ∷ us) (h.read _ _); whole = λ at line. h.whole _ _ }

pub lexes_remainder : (rest : List ℕ) (ts : List Token) → Lexes rest ts → Lexes (codes " % " ++ rest) (Fixed t.Remainder ∷ ts)
unfolding scan_behind lexeme_at reserved words
lexes_remainder rest ts h = record { read = λ at line. ap (λ us. Fixed t.Remainder ∷ us) (h.read _ _); whole = λ at line. h.whole _ _ }

pub lexes_negative : (rest : List ℕ) (ts : List Token) → Lexes rest ts → Lexes (codes "-" ++ rest) (Fixed t.Minus ∷ ts)
unfolding scan_behind lexeme_at reserved words
lexes_negative rest ts h = record { read = λ at line. ap (λ us. Fixed t.Minus ∷ us) (h.read _ _); whole = λ at line. h.whole _ _ }

pub lexes_not : (rest : List ℕ) (ts : List Token) → Lexes rest ts → Lexes (codes "not " ++ rest) (Fixed t.Not ∷ ts)
unfolding scan_behind lexeme_at reserved words
lexes_not rest ts h = record { read = λ at line. ap (λ us. Fixed t.Not ∷ us) (h.read _ _); whole = λ at line. h.whole _ _ }

pub lexes_alive : (rest : List ℕ) (ts : List Token) → Lexes rest ts → Lexes (codes "alive " ++ rest) (Fixed t.Alive ∷ ts)
unfolding scan_behind lexeme_at reserved words
lexes_alive rest ts h = record { read = λ at line. ap (λ us. Fixed t.Alive ∷ us) (h.read _ _); whole = λ at line. h.whole _ _ }

pub lexes_open : (rest : List ℕ) (ts : List Token) → Lexes rest ts → Lexes (codes "(" ++ rest) (Fixed t.OpenParen ∷ ts)
unfolding scan_behind lexeme_at reserved words
lexes_open rest ts h = record { read = λ at line. ap (λ us. Fixed t.OpenParen ∷ us) (h.read _ _); whole = λ at line. h.whole _ _ }

pub lexes_close : (rest : List ℕ) (ts : List Token) → Lexes rest ts → Lexes (codes ")" ++ rest) (Fixed t.CloseParen ∷ ts)
unfolding scan_behind lexeme_at reserved words
lexes_close rest ts h = record { read = λ at line. ap (λ us. Fixed t.CloseParen ∷ us) (h.read _ _); whole = λ at line. h.whole _ _ }

pub lexes_dot : (rest : List ℕ) (ts : List Token) → Lexes rest ts → Lexes (codes "." ++ rest) (Fixed t.Dot ∷ ts)
unfolding scan_behind lexeme_at reserved words
lexes_dot rest ts h = record { read = λ at line. ap (λ us. Fixed t.Dot ∷ us) (h.read _ _); whole = λ at line. h.whole _ _ }

pub lexes_open_bracket : (rest : List ℕ) (ts : List Token) → Lexes rest ts → Lexes (codes "[" ++ rest) (Fixed t.OpenBracket ∷ ts)
unfolding scan_behind lexeme_at reserved words
lexes_open_bracket rest ts h = record { read = λ at line. ap (λ us. Fixed t.OpenBracket ∷ us) (h.read _ _); whole = λ at line. h.whole _ _ }

pub lexes_close_bracket : (rest : List ℕ) (ts : List Token) → Lexes rest ts → Lexes (codes "]" ++ rest) (Fixed t.CloseBracket ∷ ts)
unfolding scan_behind lexeme_at reserved words
lexes_close_bracket rest ts h = record { read = λ at line. ap (λ us. Fixed t.CloseBracket ∷ us) (h.read _ _); whole = λ at line. h.whole _ _ }

pub lexes_comma : (rest : List ℕ) (ts : List Token) → Lexes rest ts → Lexes (codes ", " ++ rest) (Fixed t.Comma ∷ ts)
unfolding scan_behind lexeme_at reserved words
lexes_comma rest ts h = record { read = λ at line. ap (λ us. Fixed t.Comma ∷ us) (h.read _ _); whole = λ at line. h.whole _ _ }

pub lexes_var : (rest : List ℕ) (ts : List Token) → Lexes rest ts → Lexes (codes "var " ++ rest) (Fixed t.Var ∷ ts)
unfolding scan_behind lexeme_at reserved words
lexes_var rest ts h = record { read = λ at line. ap (λ us. Fixed t.Var ∷ us) (h.read _ _); whole = λ at line. h.whole _ _ }

pub lexes_assign : (rest : List ℕ) (ts : List Token) → Lexes rest ts → Lexes (codes " = " ++ rest) (Fixed t.Assign ∷ ts)
unfolding scan_behind lexeme_at reserved words
lexes_assign rest ts h = record { read = λ at line. ap (λ us. Fixed t.Assign ∷ us) (h.read _ _); whole = λ at line. h.whole _ _ }

pub lexes_new : (rest : List ℕ) (ts : List Token) → Lexes rest ts → Lexes (codes " = new " ++ rest) (Fixed t.Assign ∷ Fixed t.New ∷ ts)
unfolding scan_behind lexeme_at reserved words
lexes_new rest ts h = record { read = λ at line. ap (λ us. Fixed t.Assign ∷ Fixed t.New ∷ us) (h.read _ _); whole = λ at line. h.whole _ _ }

pub lexes_end : (rest : List ℕ) (ts : List Token) → Lexes rest ts → Lexes (codes ";\n" ++ rest) (Fixed t.Semicolon ∷ ts)
unfolding scan_behind lexeme_at reserved words
lexes_end rest ts h = record { read = λ at line. ap (λ us. Fixed t.Semicolon ∷ us) (h.read _ _); whole = λ at line. h.whole _ _ }

pub lexes_close_end : (rest : List ℕ) (ts : List Token) → Lexes rest ts → Lexes (codes ");\n" ++ rest) (Fixed t.CloseParen ∷ Fixed t.Semicolon ∷ ts)
unfolding scan_behind lexeme_at reserved words
lexes_close_end rest ts h = record { read = λ at line. ap (λ us. Fixed t.CloseParen ∷ Fixed t.Semicolon ∷ us) (h.read _ _); whole = λ at line. h.whole _ _ }

pub lexes_add : (rest : List ℕ) (ts : List Token) → Lexes rest ts → Lexes (codes ".add(" ++ rest) (Fixed t.Dot ∷ Fixed t.Add ∷ Fixed t.OpenParen ∷ ts)
unfolding scan_behind lexeme_at reserved words
lexes_add rest ts h = record { read = λ at line. ap (λ us. Fixed t.Dot ∷ Fixed t.Add ∷ Fixed t.OpenParen ∷ us) (h.read _ _); whole = λ at line. h.whole _ _ }

pub lexes_set : (rest : List ℕ) (ts : List Token) → Lexes rest ts → Lexes (codes ".set(" ++ rest) (Fixed t.Dot ∷ Fixed t.Set ∷ Fixed t.OpenParen ∷ ts)
unfolding scan_behind lexeme_at reserved words
lexes_set rest ts h = record { read = λ at line. ap (λ us. Fixed t.Dot ∷ Fixed t.Set ∷ Fixed t.OpenParen ∷ us) (h.read _ _); whole = λ at line. h.whole _ _ }

pub lexes_set_if_empty : (rest : List ℕ) (ts : List Token) → Lexes rest ts → Lexes (codes ".setIfEmpty(" ++ rest) (Fixed t.Dot ∷ Fixed t.SetIfEmpty ∷ Fixed t.OpenParen ∷ ts)
unfolding scan_behind lexeme_at reserved words
lexes_set_if_empty rest ts h = record { read = λ at line. ap (λ us. Fixed t.Dot ∷ Fixed t.SetIfEmpty ∷ Fixed t.OpenParen ∷ us) (h.read _ _); whole = λ at line. h.whole _ _ }

pub lexes_delete : (rest : List ℕ) (ts : List Token) → Lexes rest ts → Lexes (codes "delete " ++ rest) (Fixed t.Delete ∷ ts)
unfolding scan_behind lexeme_at reserved words
lexes_delete rest ts h = record { read = λ at line. ap (λ us. Fixed t.Delete ∷ us) (h.read _ _); whole = λ at line. h.whole _ _ }

pub lexes_if : (rest : List ℕ) (ts : List Token) → Lexes rest ts → Lexes (codes "if " ++ rest) (Fixed t.If ∷ ts)
unfolding scan_behind lexeme_at reserved words
lexes_if rest ts h = record { read = λ at line. ap (λ us. Fixed t.If ∷ us) (h.read _ _); whole = λ at line. h.whole _ _ }

pub lexes_while : (rest : List ℕ) (ts : List Token) → Lexes rest ts → Lexes (codes "while " ++ rest) (Fixed t.While ∷ ts)
unfolding scan_behind lexeme_at reserved words
lexes_while rest ts h = record { read = λ at line. ap (λ us. Fixed t.While ∷ us) (h.read _ _); whole = λ at line. h.whole _ _ }

pub lexes_foreach : (rest : List ℕ) (ts : List Token) → Lexes rest ts → Lexes (codes "foreach " ++ rest) (Fixed t.Foreach ∷ ts)
unfolding scan_behind lexeme_at reserved words
lexes_foreach rest ts h = record { read = λ at line. ap (λ us. Fixed t.Foreach ∷ us) (h.read _ _); whole = λ at line. h.whole _ _ }

pub lexes_in_all : (rest : List ℕ) (ts : List Token) → Lexes rest ts → Lexes (codes " in all " ++ rest) (Fixed t.In ∷ Fixed t.All ∷ ts)
unfolding scan_behind lexeme_at reserved words
lexes_in_all rest ts h = record { read = λ at line. ap (λ us. Fixed t.In ∷ Fixed t.All ∷ us) (h.read _ _); whole = λ at line. h.whole _ _ }

pub lexes_in_entries : (rest : List ℕ) (ts : List Token) → Lexes rest ts → Lexes (codes " in entries " ++ rest) (Fixed t.In ∷ Fixed t.Entries ∷ ts)
unfolding scan_behind lexeme_at reserved words
lexes_in_entries rest ts h = record { read = λ at line. ap (λ us. Fixed t.In ∷ Fixed t.Entries ∷ us) (h.read _ _); whole = λ at line. h.whole _ _ }

pub lexes_print : (rest : List ℕ) (ts : List Token) → Lexes rest ts → Lexes (codes "print " ++ rest) (Fixed t.Print ∷ ts)
unfolding scan_behind lexeme_at reserved words
lexes_print rest ts h = record { read = λ at line. ap (λ us. Fixed t.Print ∷ us) (h.read _ _); whole = λ at line. h.whole _ _ }

pub lexes_yield : (rest : List ℕ) (ts : List Token) → Lexes rest ts → Lexes (codes "yield;\n" ++ rest) (Fixed t.Yield ∷ Fixed t.Semicolon ∷ ts)
unfolding scan_behind lexeme_at reserved words
lexes_yield rest ts h = record { read = λ at line. ap (λ us. Fixed t.Yield ∷ Fixed t.Semicolon ∷ us) (h.read _ _); whole = λ at line. h.whole _ _ }

pub lexes_flush : (rest : List ℕ) (ts : List Token) → Lexes rest ts → Lexes (codes "flush;\n" ++ rest) (Fixed t.Flush ∷ Fixed t.Semicolon ∷ ts)
unfolding scan_behind lexeme_at reserved words
lexes_flush rest ts h = record { read = λ at line. ap (λ us. Fixed t.Flush ∷ Fixed t.Semicolon ∷ us) (h.read _ _); whole = λ at line. h.whole _ _ }

pub lexes_begin : (rest : List ℕ) (ts : List Token) → Lexes rest ts → Lexes (codes "{\n" ++ rest) (Fixed t.OpenBrace ∷ ts)
unfolding scan_behind lexeme_at reserved words
lexes_begin rest ts h = record { read = λ at line. ap (λ us. Fixed t.OpenBrace ∷ us) (h.read _ _); whole = λ at line. h.whole _ _ }

pub lexes_finish : (rest : List ℕ) (ts : List Token) → Lexes rest ts → Lexes (codes "}" ++ rest) (Fixed t.CloseBrace ∷ ts)
unfolding scan_behind lexeme_at reserved words
lexes_finish rest ts h = record { read = λ at line. ap (λ us. Fixed t.CloseBrace ∷ us) (h.read _ _); whole = λ at line. h.whole _ _ }

pub lexes_else : (rest : List ℕ) (ts : List Token) → Lexes rest ts → Lexes (codes " else " ++ rest) (Fixed t.Else ∷ ts)
unfolding scan_behind lexeme_at reserved words
lexes_else rest ts h = record { read = λ at line. ap (λ us. Fixed t.Else ∷ us) (h.read _ _); whole = λ at line. h.whole _ _ }

pub lexes_feed : (rest : List ℕ) (ts : List Token) → Lexes rest ts → Lexes (codes "\n" ++ rest) (ts)
unfolding scan_behind lexeme_at reserved words
lexes_feed rest ts h = record { read = λ at line. h.read _ _; whole = λ at line. h.whole _ _ }

pub lexes_blank : (rest : List ℕ) (ts : List Token) → Lexes rest ts → Lexes (codes " " ++ rest) (ts)
unfolding scan_behind lexeme_at reserved words
lexes_blank rest ts h = record { read = λ at line. h.read _ _; whole = λ at line. h.whole _ _ }

pub lexes_two : (rest : List ℕ) (ts : List Token) → Lexes rest ts → Lexes (codes "  " ++ rest) (ts)
unfolding scan_behind lexeme_at reserved words
lexes_two rest ts h = record { read = λ at line. h.read _ _; whole = λ at line. h.whole _ _ }

pub lexes_four : (rest : List ℕ) (ts : List Token) → Lexes rest ts → Lexes (codes "    " ++ rest) (ts)
unfolding scan_behind lexeme_at reserved words
lexes_four rest ts h = record { read = λ at line. h.read _ _; whole = λ at line. h.whole _ _ }

pub lexes_schema : (rest : List ℕ) (ts : List Token) → Lexes rest ts → Lexes (codes "schema {\n" ++ rest) (Fixed t.Schema ∷ Fixed t.OpenBrace ∷ ts)
unfolding scan_behind lexeme_at reserved words
lexes_schema rest ts h = record { read = λ at line. ap (λ us. Fixed t.Schema ∷ Fixed t.OpenBrace ∷ us) (h.read _ _); whole = λ at line. h.whole _ _ }

pub lexes_finished : (rest : List ℕ) (ts : List Token) → Lexes rest ts → Lexes (codes "}\n" ++ rest) (Fixed t.CloseBrace ∷ ts)
unfolding scan_behind lexeme_at reserved words
lexes_finished rest ts h = record { read = λ at line. ap (λ us. Fixed t.CloseBrace ∷ us) (h.read _ _); whole = λ at line. h.whole _ _ }

pub lexes_global : (rest : List ℕ) (ts : List Token) → Lexes rest ts → Lexes (codes "  global " ++ rest) (Fixed t.Global ∷ ts)
unfolding scan_behind lexeme_at reserved words
lexes_global rest ts h = record { read = λ at line. ap (λ us. Fixed t.Global ∷ us) (h.read _ _); whole = λ at line. h.whole _ _ }

pub lexes_typed : (rest : List ℕ) (ts : List Token) → Lexes rest ts → Lexes (codes " : " ++ rest) (Fixed t.Colon ∷ ts)
unfolding scan_behind lexeme_at reserved words
lexes_typed rest ts h = record { read = λ at line. ap (λ us. Fixed t.Colon ∷ us) (h.read _ _); whole = λ at line. h.whole _ _ }

pub lexes_of : (rest : List ℕ) (ts : List Token) → Lexes rest ts → Lexes (codes ": " ++ rest) (Fixed t.Colon ∷ ts)
unfolding scan_behind lexeme_at reserved words
lexes_of rest ts h = record { read = λ at line. ap (λ us. Fixed t.Colon ∷ us) (h.read _ _); whole = λ at line. h.whole _ _ }

pub lexes_array : (rest : List ℕ) (ts : List Token) → Lexes rest ts → Lexes (codes "  array " ++ rest) (Fixed t.Array ∷ ts)
unfolding scan_behind lexeme_at reserved words
lexes_array rest ts h = record { read = λ at line. ap (λ us. Fixed t.Array ∷ us) (h.read _ _); whole = λ at line. h.whole _ _ }

pub lexes_entity : (rest : List ℕ) (ts : List Token) → Lexes rest ts → Lexes (codes "  entity " ++ rest) (Fixed t.Entity ∷ ts)
unfolding scan_behind lexeme_at reserved words
lexes_entity rest ts h = record { read = λ at line. ap (λ us. Fixed t.Entity ∷ us) (h.read _ _); whole = λ at line. h.whole _ _ }

pub lexes_begin_properties : (rest : List ℕ) (ts : List Token) → Lexes rest ts → Lexes (codes " {\n" ++ rest) (Fixed t.OpenBrace ∷ ts)
unfolding scan_behind lexeme_at reserved words
lexes_begin_properties rest ts h = record { read = λ at line. ap (λ us. Fixed t.OpenBrace ∷ us) (h.read _ _); whole = λ at line. h.whole _ _ }

pub lexes_finish_properties : (rest : List ℕ) (ts : List Token) → Lexes rest ts → Lexes (codes "  }\n" ++ rest) (Fixed t.CloseBrace ∷ ts)
unfolding scan_behind lexeme_at reserved words
lexes_finish_properties rest ts h = record { read = λ at line. ap (λ us. Fixed t.CloseBrace ∷ us) (h.read _ _); whole = λ at line. h.whole _ _ }

pub lexes_client : (rest : List ℕ) (ts : List Token) → Lexes rest ts → Lexes (codes "client " ++ rest) (Fixed t.Client ∷ ts)
unfolding scan_behind lexeme_at reserved words
lexes_client rest ts h = record { read = λ at line. ap (λ us. Fixed t.Client ∷ us) (h.read _ _); whole = λ at line. h.whole _ _ }

pub lexes_schedule : (rest : List ℕ) (ts : List Token) → Lexes rest ts → Lexes (codes "schedule {\n" ++ rest) (Fixed t.Schedule ∷ Fixed t.OpenBrace ∷ ts)
unfolding scan_behind lexeme_at reserved words
lexes_schedule rest ts h = record { read = λ at line. ap (λ us. Fixed t.Schedule ∷ Fixed t.OpenBrace ∷ us) (h.read _ _); whole = λ at line. h.whole _ _ }

pub lexes_serve : (rest : List ℕ) (ts : List Token) → Lexes rest ts → Lexes (codes "  serve " ++ rest) (Fixed t.Serve ∷ ts)
unfolding scan_behind lexeme_at reserved words
lexes_serve rest ts h = record { read = λ at line. ap (λ us. Fixed t.Serve ∷ us) (h.read _ _); whole = λ at line. h.whole _ _ }
