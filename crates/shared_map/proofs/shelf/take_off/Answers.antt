use Rattle.std.proofs.Common.{◌∙◌, ap}
use Rattle.shared_map.specs.Shelves.{pointed, unflagged}
use Rattle.shared_map.proofs.EditLemmas.{flag_placed, flag_missed, misses_gap}
use Rattle.shared_map.proofs.shelf.take_off.Goals as goal

pub returns-in-Ok-clause-is : goal.returns-in-Ok-clause-is
returns-in-Ok-clause-is g c =
    let es = pointed c.args.entries.now in
    ap (λ l. unflagged l es) c.set.ensures ∙ flag_placed g.K.Ord.cmp c.args.gone.now es c.args.key.now c.in-Ok.at c.requires.flags c.in-Ok.ensures

pub returns-in-Err-clause-is : goal.returns-in-Err-clause-is
returns-in-Err-clause-is g c =
    let es = pointed c.args.entries.now in
    flag_missed g.K.Ord.cmp c.args.gone.now es c.args.key.now (misses_gap g.K.Ord.cmp es c.args.key.now c.in-Err.field-0 c.in-Err.ensures)
