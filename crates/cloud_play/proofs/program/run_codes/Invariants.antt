use Rattle.cloud_play.specs.Playings.{named_of}
use Rattle.cloud_play.proofs.program.run_codes.Given as goal

-- the run is that of this server and these clients
abbrev pub ghosts-play : goal.ghosts-play
ghosts-play a = record { name = named_of a.server a.runners.items }
