use Rattle.std.proofs.Common.{List, [], ◌++◌, sym, subst, append-nil}
use Rattle.std.proofs.lemmas.Result.{IfOk-weaker}
use Rattle.cloud_base.specs.Alike.{IsPart}
use Rattle.cloud_base.specs.Shaped.{Fit}
use Rattle.cloud_base.specs.declared.schema.Schema.{Schema}
use Rattle.cloud_base.specs.declared.update.Update.{Update}
use Rattle.change_lists.specs.Effects.{IsEffect}
use Rattle.schema_fj.specs.Held.{Held}
use Rattle.schema_fj.specs.States.{StateStands}
use Rattle.server_core.proofs.server.after_change.Goals as goal

pub returns : goal.returns
returns c =
    IfOk-weaker c.fork-2.result
    (λ (next : Held). (schema : Schema) (base delta : List Update) → StateStands schema c.join_change.new.self base delta → StateStands schema next (base ++ delta) [])
    (λ (next : Held). (schema : Schema) (log before after : List Update) → StateStands schema c.args.state.now log [] → IsEffect schema before after c.args.change.now → IsPart before log → Fit schema (log ++ after) → StateStands schema next (log ++ after) [])
    (λ next forks schema log before after stands effect part fit.
    let forked : StateStands schema c.in_ok-next.next log [] = subst (λ (l : List Update). StateStands schema c.in_ok-next.next l []) (append-nil log) (c.in_ok-next.ensures schema log [] stands) in
    let joined : StateStands schema c.join_change.new.self log after = c.in_ok-join_change.ensures.ok schema log [] before after forked effect (subst (λ (l : List Update). IsPart before l) (sym (append-nil log)) part) fit in
    forks schema log after joined)
    c.fork-2.ensures
