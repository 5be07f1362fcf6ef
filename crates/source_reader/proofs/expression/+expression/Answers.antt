use Rattle.std.proofs.Common.{rules, ◌≡◌, sym, ◌∙◌, ◌<◌, ◌+◌, ◌-◌, [], ◌∷◌, ◌++◌, length, max, Some}
use Rattle.source_tokens.specs.Scans.{tokens_of}
use Rattle.source_tree.specs.declared.expression.Level.TheVariants as level
use Rattle.source_reader.specs.Reading.{keys_by, level_at}
use Rattle.source_reader.proofs.Steps.{keys_step, keys_closed}
use Rattle.source_reader.proofs.expression.+expression.Goals as goal

pub keys_at-loop-turn-preserved : goal.keys_at-loop-turn-preserved
keys_at-loop-turn-preserved t c =
    let step : keys_by (length c.args.tokens.now - c.loop-turn._turn) (level_at c.args.depth level.Choice) c.args.high c.loop-turn.keys c.loop-turn.height (tokens_of c.loop-turn.rest.now)
    ≡ keys_by (length c.args.tokens.now - (c.loop-turn._turn + 1)) (level_at c.args.depth level.Choice) c.args.high (c.loop-turn.keys ++ c.in-Some.key ∷ []) (max c.loop-turn.height c.in-Some.key_height)
    (tokens_of c.in-Some-behind.after.now)
    = keys_step (length c.args.tokens.now) c.loop-turn._turn (level_at c.args.depth level.Choice) c.args.high c.loop-turn.keys c.in-Some.key c.loop-turn.height c.in-Some.key_height (tokens_of c.loop-turn.rest.now)
    (tokens_of c.in-Some.after.now) (tokens_of c.in-Some-behind.after.now) (search rules) (search rules) (search rules) in
    search (rules, step)

pub keys_at-returns-in-None : goal.keys_at-returns-in-None
keys_at-returns-in-None t c =
    let last : keys_by (length c.args.tokens.now - c.loop-turn._turn) (level_at c.args.depth level.Choice) c.args.high c.loop-turn.keys c.loop-turn.height (tokens_of c.loop-turn.rest.now)
    ≡ Some (c.loop-turn.keys ++ c.in-Some.key ∷ [], max c.loop-turn.height c.in-Some.key_height, tokens_of c.in-Some-behind-2.rest.now)
    = keys_closed (length c.args.tokens.now) c.loop-turn._turn (level_at c.args.depth level.Choice) c.args.high c.loop-turn.keys c.in-Some.key c.loop-turn.height c.in-Some.key_height (tokens_of c.loop-turn.rest.now)
    (tokens_of c.in-Some.after.now) (tokens_of c.in-Some-behind-2.rest.now) (search rules) (search rules) (search rules) (search rules) in
    search (rules, last)
