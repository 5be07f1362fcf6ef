-- Which programs are trees of sources: those that tokens spell and that are within the limits.
use Rattle.std.specs.Prelude.{ℕ, ◌+◌, ◌≤◌, ◌<◌, ◌^◌, List, length, sum, map, All, Option, Some, None}
use Rattle.std.specs.List.{AllByRecursion}
use Rattle.cloud_base.specs.Values.{most_text_bytes, most_clients}
use Rattle.source_tokens.specs.Scans.{IsToken}
use Rattle.source_tokens.specs.declared.token.Token.{Token}
use Rattle.source_tokens.specs.declared.token.Token.TheVariants.{Name, Number, Text, Fixed}
use Rattle.source_tree.specs.declared.program.Declaration.{Declaration}
use Rattle.source_tree.specs.declared.program.Declaration.TheVariants as d
use Rattle.source_tree.specs.declared.program.Client.{Client}
use Rattle.source_tree.specs.declared.program.Item.{Item}
use Rattle.source_tree.specs.declared.program.Item.TheVariants as i
use Rattle.source_tree.specs.declared.program.Program.{Program}
use Rattle.source_tree.specs.Heights.{body_height}
use Rattle.source_tree.specs.Words.{program_words, numbers_of, texts_of}
use Rattle.source_tree.specs.Programs.{SpellsProgram}

-- some tokens of a source spell the program
abbrev pub IsSpelled : Program → Type 0
IsSpelled p = (tokens : List Token) × SpellsProgram p tokens × AllByRecursion IsToken tokens

-- the greatest number
abbrev pub most_number : ℕ
most_number = 9223372036854775807

-- the greatest height of a body
abbrev pub most_height : ℕ
most_height = 32

-- the most globals, arrays, entities, keys and properties together
abbrev pub most_names : ℕ
most_names = 256

-- the most steps of a schedule
abbrev pub most_steps : ℕ
most_steps = 100000

abbrev pub IsNumber : ℕ → Type 0
IsNumber n = n ≤ most_number

abbrev pub IsShort : List ℕ → Type 0
IsShort bytes = length bytes ≤ most_text_bytes

abbrev pub IsLow : Client → Type 0
IsLow client = body_height client.body ≤ most_height

-- how many names a declaration gives
abbrev pub names_in : Declaration → ℕ
names_in (d.Global property) = 1
names_in (d.Array n keys properties) = 1 + (length keys + length properties)
names_in (d.Entity n keys properties) = 1 + (length keys + length properties)

-- how many names the declarations give
abbrev pub names_count : List Declaration → ℕ
names_count ds = sum (map names_in ds)

abbrev pub steps_in : Item → ℕ
steps_in (i.Steps n count) = count
steps_in (i.Serve n fate) = 0

-- the numbers of a schedule together
abbrev pub steps_count : Option (List Item) → ℕ
steps_count None = 0
steps_count (Some items) = sum (map steps_in items)

pub record IsWithin (p : Program) : Type 0 where
  pub numbers : AllByRecursion IsNumber (numbers_of (program_words p))
  pub texts : AllByRecursion IsShort (texts_of (program_words p))
  pub height : AllByRecursion IsLow p.clients
  pub names : names_count p.declarations ≤ most_names
  pub clients : length p.clients ≤ most_clients
  pub steps : steps_count p.schedule ≤ most_steps

-- a tree of a source
pub record IsTree (p : Program) : Type 0 where
  pub spelled : IsSpelled p
  pub within : IsWithin p
