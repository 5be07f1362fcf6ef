-- Which words are which command.
use Rattle.std.specs.Prelude.{◌≡◌, refl, List, [], ◌∷◌, ℕ, Bool, true, Option, Some, None, if◌then◌else◌, codes}
use Rattle.std.specs.Str.{bytes_eq}
use Rattle.cloud_run.specs.declared.command.Command.{Command}
use Rattle.cloud_run.specs.declared.command.Command.TheVariants.{Check, Code, Play}

-- the command whose words these are, if there is one
abbrev pub command_of : List (List ℕ) → Option Command
command_of [] = None
command_of (word ∷ []) = if bytes_eq word (codes "check") then Some Check else if bytes_eq word (codes "code") then Some Code else if bytes_eq word (codes "play") then Some Play else None
command_of (word ∷ next ∷ words) = None

-- does the command read a source?
abbrev pub reads_source : Command → Bool
reads_source Check = true
reads_source Code = true
reads_source Play = true

pub example_commands : (command_of (codes "check" ∷ []) ≡ Some Check) × (command_of (codes "code" ∷ []) ≡ Some Code) × (command_of (codes "play" ∷ []) ≡ Some Play)
example_commands = (refl, refl, refl)

-- no words, another word, a word more and an empty word more are no command
pub example_none : (command_of [] ≡ None) × (command_of (codes "Play" ∷ []) ≡ None) × (command_of (codes "play" ∷ codes "x" ∷ []) ≡ None) × (command_of (codes "play" ∷ [] ∷ []) ≡ None)
example_none = (refl, refl, refl, refl)
