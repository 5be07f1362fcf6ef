use Rattle.std.proofs.Common.{drop}
use Rattle.kind_bodies.specs.Settles.{settled_block, AreFitStatements}
use Rattle.kind_bodies.proofs.Blocks.{Ahead}
use Rattle.kind_bodies.proofs.statement.+statement.Given as goal

-- what comes of the statements that are left, from here on, makes with those so far what comes of all
abbrev pub invariant-block-loop-source : goal.invariant-block-loop-source
invariant-block-loop-source l =
    record {
      ahead : Ahead (settled_block l.declared (drop l.source-index l.body) l.variables l.rest) (settled_block l.declared l.body l.fn.variables l.lines) l.typed;
      fit : AreFitStatements (drop l.source-index l.body);
    }
