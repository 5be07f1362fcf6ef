use Rattle.std.proofs.Common.{rules, ◌≡◌, ◌+◌, ◌-◌, ◌<◌, ◌≤◌, ◌∷◌, length, drop, ap, ◌∙◌, arith}
use Rattle.std.proofs.lemmas.List.{drop_more}
use Rattle.source_tree.specs.Limits.{names_in, most_names}
use Rattle.cloud_parse.proofs.Counted.{room_go}
use Rattle.cloud_parse.proofs.limits.are_names_few.Goals as goal

pub loop-declaration-preserved : goal.loop-declaration-preserved
loop-declaration-preserved c =
    let i = c.loop-declaration.declaration-index in
    let ds = c.args.declarations.now in
    let d = c.declaration-item.result in
    let some : i < length ds = search rules in
    let split : drop i ds ≡ d ∷ drop (i + 1) ds = drop_more ds i d some ∙ ap (λ x. x ∷ drop (i + 1) ds) (search rules) in
    let fits : c.names_in-names.result ≤ c.loop-declaration.room = search rules in
    let small : c.loop-declaration.room ≤ 256 = c.loop-declaration.invariant.few in
    let same : (c.loop-declaration.room - c.names_in-names.result) + names_in d ≡ c.loop-declaration.room = omega (arith, fits, small, c.names_in-names.ensures) in
    record {
      left = room_go names_in most_names ds i c.loop-declaration.room (c.loop-declaration.room - c.names_in-names.result) d c.loop-declaration.invariant.left split same;
      few = omega (arith, small);
    }
