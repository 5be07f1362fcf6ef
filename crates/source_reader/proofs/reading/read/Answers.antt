use Rattle.std.proofs.Common.{rules, ◌≡◌, Some, length}
use Rattle.source_tokens.specs.Scans.{tokens_of}
use Rattle.source_reader.specs.Sources.{program_at}
use Rattle.source_reader.proofs.Unique.{tree_read}
use Rattle.source_reader.proofs.reading.read.Goals as goal

pub returns-in-Some : goal.returns-in-Some
returns-in-Some c =
    let read : Some c.in-Some.program ≡ program_at (length c.args.tokens.now) 32 (tokens_of c.args.tokens.now) = search rules in
    tree_read c.args.tokens.now c.in-Some.program c.requires read
