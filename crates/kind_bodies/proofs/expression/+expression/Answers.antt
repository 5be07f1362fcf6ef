use Rattle.std.proofs.Common.{rules, ◌≡◌, ◌+◌, ◌++◌, ◌∷◌, [], subst, ap, sym, ◌∙◌, drop, List, Option, append_assoc}
use Rattle.cloud_base.specs.declared.schema.KeyType.{KeyType}
use Rattle.typed_program.specs.declared.expression.Expression.{Expression}
use Rattle.std.specs.Prelude.{slice_get}
use Rattle.kind_rules.specs.Statements.{scope_of}
use Rattle.kind_bodies.specs.declared.found.Keys.{Keys}
use Rattle.kind_bodies.specs.declared.found.Found.{Found}
use Rattle.source_tree.specs.declared.expression.Expression.{the_lemmas}
use Rattle.kind_bodies.specs.Found.{AreFit, judged, judged_keys, key_rule, lower}
use Rattle.kind_bodies.proofs.Fits.{minus_at, not_at, left_at, right_at, keys_at, key_fits}
use Rattle.kind_bodies.proofs.Places.{keys_step, keys_end, left_at_key}
use Rattle.kind_bodies.proofs.Rules.{lower_assoc}
use Rattle.kind_bodies.proofs.Forms.{both_at}
use Rattle.kind_bodies.proofs.expression.+expression.Goals as goal

pub judge-array_entry-requires : goal.judge-array_entry-requires
judge-array_entry-requires t c = (search (rules, the_lemmas), keys_at _ _ _ _ _ _ c.requires c.in-Place.is c.in-Entry.is c.as_slice-keys.ensures)

pub judge-judge-requires : goal.judge-judge-requires
judge-judge-requires t c = (search (rules, the_lemmas), minus_at _ _ _ c.requires c.in-Minus.is c.get.ensures)

pub judge-judge-requires-in-Not : goal.judge-judge-requires-in-Not
judge-judge-requires-in-Not t c = (search (rules, the_lemmas), not_at _ _ _ c.requires c.in-Not.is c.get-in-Not.ensures)

pub judge-judge-requires-in-Binary : goal.judge-judge-requires-in-Binary
judge-judge-requires-in-Binary t c = (search (rules, the_lemmas), left_at _ _ _ _ _ c.requires c.in-Binary.is c.get-in-Binary.ensures)

pub judge-judge-requires-in-Binary-2 : goal.judge-judge-requires-in-Binary-2
judge-judge-requires-in-Binary-2 t c = (search (rules, the_lemmas), right_at _ _ _ _ _ c.requires c.in-Binary.is c.get-in-Binary-2.ensures)

pub judge-returns-in_ok-right-in-Binary : goal.judge-returns-in_ok-right-in-Binary
judge-returns-in_ok-right-in-Binary t c = both_at _ _ _ _ _ _ _ _ _ _ c.in-Binary.is c.get-in-Binary.ensures c.get-in-Binary-2.ensures c.in_ok-left-in-Binary.ensures c.in_ok-right-in-Binary.ensures c.binary.ensures

pub judge_keys-judge-requires : goal.judge_keys-judge-requires
judge_keys-judge-requires t c = (search (rules, the_lemmas), key_fits c.args.keys.now c.loop-place.place c.index-keys-place.result c.loop-place-test.true c.index-keys-place.is c.loop-place.invariant.fit)

pub judge_keys-loop-place-preserved : goal.judge_keys-loop-place-preserved
unfolding AreFit
judge_keys-loop-place-preserved t c =
    let scope = scope_of c.args.declared.now c.args.variables.now in
    let types = c.args.types.now in
    let keys = c.args.keys.now in
    let at = c.loop-place.place in
    let split = left_at_key keys at c.index-keys-place.result c.loop-place-test.true c.index-keys-place.is in
    let step = keys_step scope types keys at c.index-keys-place.result split in
    let rest = judged_keys scope (drop (at + 1) types) (drop (at + 1) keys) in
    let found : c.in_ok-found.found ≡ judged scope c.index-keys-place.result = c.in_ok-found.ensures in
    let due : c.key_rule.result ≡ key_rule (slice_get types at) (judged scope c.index-keys-place.result) =
    c.key_rule.ensures ∙ ap (λ (o : Option KeyType). key_rule o c.in_ok-found.found) (c.copied.ensures ∙ c.at.ensures) ∙ ap (key_rule (slice_get types at)) found in
    record {
      rule = ap (λ x. lower x rest.rule) (c.lower-rule.ensures ∙ ap (lower c.loop-place.rule) due) ∙ lower_assoc c.loop-place.rule (key_rule (slice_get types at) (judged scope c.index-keys-place.result)) rest.rule
          ∙ ap (λ (k : Keys). lower c.loop-place.rule k.rule) (sym step) ∙ c.loop-place.invariant.rule;
      typed = ap (λ (ts : List Expression). ts ++ rest.typed) c.in_ok-push.ensures.ok ∙ append_assoc c.loop-place.typed (c.in_ok-found.found.typed ∷ []) rest.typed
          ∙ ap (λ (f : Found). c.loop-place.typed ++ f.typed ∷ rest.typed) found ∙ ap (λ (k : Keys). c.loop-place.typed ++ k.typed) (sym step) ∙ c.loop-place.invariant.typed;
      fit = (subst AreFit split c.loop-place.invariant.fit).1;
    }

pub judge_keys-returns : goal.judge_keys-returns
judge_keys-returns t c = keys_end (scope_of c.args.declared.now c.args.variables.now) c.args.types.now c.args.keys.now c.loop-place.rule c.loop-place.typed c.loop-place.place c.loop-place-test.false c.loop-place.invariant.rule c.loop-place.invariant.typed
