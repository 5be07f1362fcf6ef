-- What is read of the tokens of a source.
use Rattle.std.specs.Prelude.{List}
use Rattle.std.specs.List.{AllByRecursion}
use Rattle.source_tokens.specs.declared.token.Token.{Token}
use Rattle.source_tree.specs.declared.program.Program.{Program}
use Rattle.source_tree.specs.Limits.{IsLow}
use Rattle.source_tree.specs.Programs.{SpellsProgram}
use Rattle.source_reader.specs.declared.reading.Reading.{Reading}
use Rattle.source_reader.specs.declared.reading.Reading.TheVariants as r

-- the tree that has these tokens, where its bodies aren't too high
abbrev pub IsReading : List Token → Reading → Type 0
IsReading tokens (r.Tree p) = SpellsProgram p tokens × AllByRecursion IsLow p.clients
IsReading tokens r.TooHigh = (p : Program) → SpellsProgram p tokens → ¬ AllByRecursion IsLow p.clients
