use Rattle.std.proofs.Common.{rules, ◌≡◌, ◌<◌, ◌+◌, ◌∷◌, length, drop, ap, ◌∙◌}
use Rattle.std.proofs.lemmas.List.{drop_more}
use Rattle.source_tokens.specs.Brackets.{open_behind}
use Rattle.source_tokens.proofs.Opened.{goes_over}
use Rattle.source_tokens.proofs.brackets.has_too_many_open.Goals as goal

pub returns-then-count-gt-MOST_OPEN : goal.returns-then-count-gt-MOST_OPEN
returns-then-count-gt-MOST_OPEN c =
    let i = c.loop-placed.placed-index in
    let p = c.placed-item.result in
    let some : i < length c.args.tokens.now = search rules in
    let split : drop i c.args.tokens.now ≡ p ∷ drop (i + 1) c.args.tokens.now = drop_more c.args.tokens.now i p some ∙ ap (λ x. x ∷ drop (i + 1) c.args.tokens.now) (search rules) in
    let many : 64 < open_behind c.loop-placed.count p.token = search rules in
    goes_over c.args.tokens.now i c.loop-placed.count p c.loop-placed.invariant split many
