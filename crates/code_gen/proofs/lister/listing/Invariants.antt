use Rattle.std.proofs.Common.{◌≡◌, ◌++◌, drop}
use Rattle.code_gen.specs.Listings.{clients_text, listing_of}
use Rattle.code_gen.proofs.lister.listing.Given as goal

-- what stands so far, and the clients that are left, make all
abbrev pub invariant-loop-client : goal.invariant-loop-client
invariant-loop-client l = l.out.items ++ clients_text l.program.schema (drop l.client l.program.names) (drop l.client l.program.bodies) ≡ listing_of l.program
