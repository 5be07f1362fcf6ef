use Rattle.std.proofs.Common.{◌≡◌, ◌++◌, ◌∷◌, [], ap, ◌∙◌, ℕ, List}
use Rattle.std.specs.Prelude.{slice_get}
use Rattle.typed_program.specs.declared.expression.Kind.{Kind}
use Rattle.kind_rules.specs.Statements.{variable}
use Rattle.kind_bodies.specs.Found.{due_kind}
use Rattle.kind_bodies.proofs.Names.{one_more}
use Rattle.kind_bodies.proofs.name.declare_all.Goals as goal

pub loop-place-preserved : goal.loop-place-preserved
loop-place-preserved c =
    let x = c.index-names-place.result in
    let kind : c.due_kind-kind.result ≡ due_kind (slice_get c.args.types.now c.loop-place.place) = c.due_kind-kind.ensures ∙ ap due_kind (c.copied.ensures ∙ c.at.ensures) in
    let made : c.declare.new.self ≡ c.loop-place.visible ++ variable x (due_kind (slice_get c.args.types.now c.loop-place.place)) ∷ [] =
    c.in_ok-declare.ensures.ok ∙ ap (λ (n : List ℕ). c.loop-place.visible ++ variable n c.due_kind-kind.result ∷ []) c.name.ensures.name ∙ ap (λ (k : Kind). c.loop-place.visible ++ variable x k ∷ []) kind in
    let both = one_more c.args.names.now c.args.types.now c.loop-place.place x c.loop-place.visible c.declare.new.self _ c.loop-place-test.true c.index-names-place.is made c.loop-place.invariant.room c.loop-place.invariant.all in
    record { room = both.0; all = both.1 }
