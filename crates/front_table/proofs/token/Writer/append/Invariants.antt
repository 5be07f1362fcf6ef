use Rattle.std.proofs.Common.{[], ◌∷◌}
use Rattle.front_table.proofs.token.Writer.append.Given as goal

-- the step appends the entry that was handed in
abbrev pub ghosts-append_named : goal.ghosts-append_named
ghosts-append_named g a = record { entries = a.entry.now ∷ [] }
