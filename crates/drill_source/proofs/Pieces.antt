-- The fixed pieces of a drill's text, each with its tokens.
use Rattle.std.proofs.Common.{ℕ, List, ◌∷◌, ◌++◌, ap}
use Rattle.std.specs.Prelude.{codes, decimal}
use Rattle.std.specs.Fmt.{digits}
use Rattle.drill_text.specs.Drills.{schema_text}
use Rattle.source_tokens.specs.Lexemes.{lexeme_at}
use Rattle.source_tokens.specs.Scans.{scan_behind}
use Rattle.source_tokens.specs.Terminals.{reserved, words}
use Rattle.source_tokens.specs.declared.terminal.Terminal.TheVariants as t
use Rattle.source_tokens.specs.declared.token.Token.{Token}
use Rattle.source_tokens.specs.declared.token.Token.TheVariants.{Name, Fixed}
use Rattle.source_tokens.proofs.Lexing.{Lexes}
use Rattle.drill_source.proofs.Trees.{client_name, declaration_tokens}

pub lexes_total : (rest : List ℕ) (ts : List Token) → Lexes rest ts → Lexes (codes "total.add(" ++ rest) (Name (codes "total") ∷ Fixed t.Dot ∷ Fixed t.Add ∷ Fixed t.OpenParen ∷ ts)
unfolding scan_behind lexeme_at reserved words
lexes_total rest ts h = record { read = λ at line. ap (λ us. Name (codes "total") ∷ Fixed t.Dot ∷ Fixed t.Add ∷ Fixed t.OpenParen ∷ us) (h.read _ _); whole = λ at line. h.whole _ _ }

pub lexes_shut : (rest : List ℕ) (ts : List Token) → Lexes rest ts → Lexes (codes ");\n" ++ rest) (Fixed t.CloseParen ∷ Fixed t.Semicolon ∷ ts)
unfolding scan_behind lexeme_at reserved words
lexes_shut rest ts h = record { read = λ at line. ap (λ us. Fixed t.CloseParen ∷ Fixed t.Semicolon ∷ us) (h.read _ _); whole = λ at line. h.whole _ _ }

pub lexes_stock : (rest : List ℕ) (ts : List Token) → Lexes rest ts → Lexes (codes "Stock[" ++ rest) (Name (codes "Stock") ∷ Fixed t.OpenBracket ∷ ts)
unfolding scan_behind lexeme_at reserved words
lexes_stock rest ts h = record { read = λ at line. ap (λ us. Name (codes "Stock") ∷ Fixed t.OpenBracket ∷ us) (h.read _ _); whole = λ at line. h.whole _ _ }

pub lexes_number_of : (rest : List ℕ) (ts : List Token) → Lexes rest ts
    → Lexes (codes "].n.add(" ++ rest) (Fixed t.CloseBracket ∷ Fixed t.Dot ∷ Name (codes "n") ∷ Fixed t.Dot ∷ Fixed t.Add ∷ Fixed t.OpenParen ∷ ts)
unfolding scan_behind lexeme_at reserved words
lexes_number_of rest ts h = record {
  read = λ at line. ap (λ us. Fixed t.CloseBracket ∷ Fixed t.Dot ∷ Name (codes "n") ∷ Fixed t.Dot ∷ Fixed t.Add ∷ Fixed t.OpenParen ∷ us) (h.read _ _);
  whole = λ at line. h.whole _ _;
}

pub lexes_note_of : (rest : List ℕ) (ts : List Token) → Lexes rest ts
    → Lexes (codes "].note.setIfEmpty(" ++ rest) (Fixed t.CloseBracket ∷ Fixed t.Dot ∷ Name (codes "note") ∷ Fixed t.Dot ∷ Fixed t.SetIfEmpty ∷ Fixed t.OpenParen ∷ ts)
unfolding scan_behind lexeme_at reserved words
lexes_note_of rest ts h = record {
  read = λ at line. ap (λ us. Fixed t.CloseBracket ∷ Fixed t.Dot ∷ Name (codes "note") ∷ Fixed t.Dot ∷ Fixed t.SetIfEmpty ∷ Fixed t.OpenParen ∷ us) (h.read _ _);
  whole = λ at line. h.whole _ _;
}

pub lexes_create : (rest : List ℕ) (ts : List Token) → Lexes rest ts
    → Lexes (codes "if true { var o = new Order; o.count.add(" ++ rest) (Fixed t.If ∷ Fixed t.True ∷ Fixed t.OpenBrace ∷ Fixed t.Var ∷ Name (codes "o") ∷ Fixed t.Assign ∷ Fixed t.New
    ∷ Name (codes "Order") ∷ Fixed t.Semicolon ∷ Name (codes "o") ∷ Fixed t.Dot ∷ Name (codes "count") ∷ Fixed t.Dot ∷ Fixed t.Add ∷ Fixed t.OpenParen ∷ ts)
unfolding scan_behind lexeme_at reserved words
lexes_create rest ts h = record {
  read = λ at line.
      ap (λ us. Fixed t.If ∷ Fixed t.True ∷ Fixed t.OpenBrace ∷ Fixed t.Var ∷ Name (codes "o") ∷ Fixed t.Assign ∷ Fixed t.New
      ∷ Name (codes "Order") ∷ Fixed t.Semicolon ∷ Name (codes "o") ∷ Fixed t.Dot ∷ Name (codes "count") ∷ Fixed t.Dot ∷ Fixed t.Add ∷ Fixed t.OpenParen ∷ us) (h.read _ _);
  whole = λ at line. h.whole _ _;
}

pub lexes_created : (rest : List ℕ) (ts : List Token) → Lexes rest ts → Lexes (codes "); }\n" ++ rest) (Fixed t.CloseParen ∷ Fixed t.Semicolon ∷ Fixed t.CloseBrace ∷ ts)
unfolding scan_behind lexeme_at reserved words
lexes_created rest ts h = record { read = λ at line. ap (λ us. Fixed t.CloseParen ∷ Fixed t.Semicolon ∷ Fixed t.CloseBrace ∷ us) (h.read _ _); whole = λ at line. h.whole _ _ }

pub lexes_print : (rest : List ℕ) (ts : List Token) → Lexes rest ts → Lexes (codes "print total;\n" ++ rest) (Fixed t.Print ∷ Name (codes "total") ∷ Fixed t.Semicolon ∷ ts)
unfolding scan_behind lexeme_at reserved words
lexes_print rest ts h = record { read = λ at line. ap (λ us. Fixed t.Print ∷ Name (codes "total") ∷ Fixed t.Semicolon ∷ us) (h.read _ _); whole = λ at line. h.whole _ _ }

pub lexes_each : (rest : List ℕ) (ts : List Token) → Lexes rest ts
    → Lexes (codes "foreach o in all Order { delete o; }\n" ++ rest) (Fixed t.Foreach ∷ Name (codes "o") ∷ Fixed t.In ∷ Fixed t.All ∷ Name (codes "Order") ∷ Fixed t.OpenBrace
    ∷ Fixed t.Delete ∷ Name (codes "o") ∷ Fixed t.Semicolon ∷ Fixed t.CloseBrace ∷ ts)
unfolding scan_behind lexeme_at reserved words
lexes_each rest ts h = record {
  read = λ at line.
      ap (λ us. Fixed t.Foreach ∷ Name (codes "o") ∷ Fixed t.In ∷ Fixed t.All ∷ Name (codes "Order") ∷ Fixed t.OpenBrace
      ∷ Fixed t.Delete ∷ Name (codes "o") ∷ Fixed t.Semicolon ∷ Fixed t.CloseBrace ∷ us) (h.read _ _);
  whole = λ at line. h.whole _ _;
}

pub lexes_yield : (rest : List ℕ) (ts : List Token) → Lexes rest ts → Lexes (codes "yield;\n" ++ rest) (Fixed t.Yield ∷ Fixed t.Semicolon ∷ ts)
unfolding scan_behind lexeme_at reserved words
lexes_yield rest ts h = record { read = λ at line. ap (λ us. Fixed t.Yield ∷ Fixed t.Semicolon ∷ us) (h.read _ _); whole = λ at line. h.whole _ _ }

pub lexes_flush : (rest : List ℕ) (ts : List Token) → Lexes rest ts → Lexes (codes "flush;\n" ++ rest) (Fixed t.Flush ∷ Fixed t.Semicolon ∷ ts)
unfolding scan_behind lexeme_at reserved words
lexes_flush rest ts h = record { read = λ at line. ap (λ us. Fixed t.Flush ∷ Fixed t.Semicolon ∷ us) (h.read _ _); whole = λ at line. h.whole _ _ }

pub lexes_last : (rest : List ℕ) (ts : List Token) → Lexes rest ts → Lexes (codes "flush;\n}\n" ++ rest) (Fixed t.Flush ∷ Fixed t.Semicolon ∷ Fixed t.CloseBrace ∷ ts)
unfolding scan_behind lexeme_at reserved words
lexes_last rest ts h = record { read = λ at line. ap (λ us. Fixed t.Flush ∷ Fixed t.Semicolon ∷ Fixed t.CloseBrace ∷ us) (h.read _ _); whole = λ at line. h.whole _ _ }

pub lexes_schema : (rest : List ℕ) (ts : List Token) → Lexes rest ts → Lexes (schema_text ++ rest) (Fixed t.Schema ∷ Fixed t.OpenBrace ∷ (declaration_tokens ++ ts))
unfolding scan_behind lexeme_at reserved words
lexes_schema rest ts h = record { read = λ at line. ap (λ us. Fixed t.Schema ∷ Fixed t.OpenBrace ∷ (declaration_tokens ++ us)) (h.read _ _); whole = λ at line. h.whole _ _ }

abbrev pub Heads : ℕ → Type 0
Heads c = (rest : List ℕ) (ts : List Token) → Lexes rest ts → Lexes ((codes "client c" ++ decimal c ++ codes " {\n") ++ rest) (Fixed t.Client ∷ Name (client_name c) ∷ Fixed t.OpenBrace ∷ ts)

pub lexes_client_0 : Heads 0
unfolding scan_behind lexeme_at reserved words digits
lexes_client_0 rest ts h = record { read = λ at line. ap (λ us. Fixed t.Client ∷ Name (client_name 0) ∷ Fixed t.OpenBrace ∷ us) (h.read _ _); whole = λ at line. h.whole _ _ }

pub lexes_client_1 : Heads 1
unfolding scan_behind lexeme_at reserved words digits
lexes_client_1 rest ts h = record { read = λ at line. ap (λ us. Fixed t.Client ∷ Name (client_name 1) ∷ Fixed t.OpenBrace ∷ us) (h.read _ _); whole = λ at line. h.whole _ _ }

pub lexes_client_2 : Heads 2
unfolding scan_behind lexeme_at reserved words digits
lexes_client_2 rest ts h = record { read = λ at line. ap (λ us. Fixed t.Client ∷ Name (client_name 2) ∷ Fixed t.OpenBrace ∷ us) (h.read _ _); whole = λ at line. h.whole _ _ }

pub lexes_client_3 : Heads 3
unfolding scan_behind lexeme_at reserved words digits
lexes_client_3 rest ts h = record { read = λ at line. ap (λ us. Fixed t.Client ∷ Name (client_name 3) ∷ Fixed t.OpenBrace ∷ us) (h.read _ _); whole = λ at line. h.whole _ _ }
