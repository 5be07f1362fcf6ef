use Rattle.std.proofs.Common.{◌≡◌, ℕ, List, ◌++◌, ◌≤◌, length, ap, sym, subst, ◌∙◌, arith}
use Rattle.std.specs.List.{flat_map, range_with_len}
use Rattle.drill_text.specs.Drills.{client_text, schema_text, drill_text}
use Rattle.drill_text.proofs.Groups.{client_step}
use Rattle.drill_text.proofs.Lengths.{drill_short}
use Rattle.drill_text.proofs.text.drill.Goals as goal

pub loop-client-preserved : goal.loop-client-preserved
loop-client-preserved c =
    client_step c.write.new.out.items c.loop-client.out.items c.write_client.new.out.items c.args.n c.loop-client.client c.in_ok-number.number
    c.loop-client.invariant.0 c.in_ok-number.ensures.text c.in_ok-number.ensures.last

pub returns-clause-short : goal.returns-clause-short
returns-clause-short c = λ few.
    let four : c.loop-client.client ≡ 4 = omega arith in
    let first : c.write.new.out.items ≡ schema_text = c.in_ok-write.ensures ∙ ap (λ (l : List ℕ). l ++ schema_text) c.new-out.ensures.items in
    let text : c.loop-client.out.items ≡ drill_text c.args.n =
    c.loop-client.invariant.0
    ∙ ap (λ (k : ℕ). c.write.new.out.items ++ flat_map (client_text c.args.n) (range_with_len 0 k)) four
    ∙ ap (λ (l : List ℕ). l ++ flat_map (client_text c.args.n) (range_with_len 0 4)) first in
    subst (λ (l : List ℕ). length l ≤ 262144) (sym text) (drill_short c.args.n few)
