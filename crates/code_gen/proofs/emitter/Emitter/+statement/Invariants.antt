use Rattle.std.proofs.Common.{◌≡◌, ◌≤◌, ◌++◌, length, drop}
use Rattle.typed_program.specs.Kinds.{most_slots}
use Rattle.code_gen.specs.Compile.{block_code}
use Rattle.code_gen.specs.Reach.{block_reach}
use Rattle.code_gen.proofs.emitter.Emitter.+statement.Given as goal

-- what stands so far, and the statements that are left, make all
abbrev pub invariant-block-loop-statement : goal.invariant-block-loop-statement
invariant-block-loop-statement l =
    record {
      code : l.self ++ block_code l.schema (drop l.statement-index l.block) (length l.self) ≡ l.fn.self ++ block_code l.schema l.block (length l.fn.self);
      reach : block_reach l.schema (drop l.statement-index l.block) ≤ most_slots;
    }
