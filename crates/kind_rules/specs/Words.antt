-- The numbers and texts that the tree of a source may have.
use Rattle.std.specs.Prelude.{⊤}
use Rattle.cloud_base.specs.Values.{IsText}
use Rattle.source_tokens.specs.Terminals.{IsIdentifier}
use Rattle.source_tokens.specs.declared.token.Token.{Token}
use Rattle.source_tokens.specs.declared.token.Token.TheVariants.{Name, Number, Text, Fixed}
use Rattle.source_tree.specs.Limits.{IsNumber}

-- a name is an identifier, a number has 63 bits, and a text is one
abbrev pub IsFitWord : Token → Type 0
IsFitWord (Name x) = IsIdentifier x
IsFitWord (Number n) = IsNumber n
IsFitWord (Text bytes) = IsText bytes
IsFitWord (Fixed t) = ⊤
