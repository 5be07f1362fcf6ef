-- Which texts are accepted sources.
use Rattle.std.specs.Prelude.{◌≡◌, ℕ, List, Ok, None}
use Rattle.cloud_parse.specs.Parse.{ParseAnswers}
use Rattle.cloud_parse.specs.declared.parsed.Parsed.{Parsed}
use Rattle.kind_rules.specs.Answers.{first_fault}
use Rattle.kind_rules.specs.Programs.{items_of}

-- a text that is parsed to a tree in which no rule of kinds fails
pub record IsSource (text : List ℕ) : Type 0 where
  pub parsed : Parsed
  pub answers : ParseAnswers text (Ok parsed)
  pub keeps : first_fault (items_of parsed.tree parsed.lines) ≡ None
