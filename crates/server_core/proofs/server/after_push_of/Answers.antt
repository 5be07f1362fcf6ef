use Rattle.std.proofs.Common.{List, [], ◌++◌}
use Rattle.std.proofs.lemmas.Result.{IfOk-weaker}
use Rattle.cloud_base.specs.Alike.{IsPart}
use Rattle.cloud_base.specs.Shaped.{Fit}
use Rattle.cloud_base.specs.declared.schema.Schema.{Schema}
use Rattle.cloud_base.specs.declared.update.Update.{Update}
use Rattle.batch_history.specs.Batches.{updates_in, flat}
use Rattle.change_lists.specs.Effects.{IsEffect}
use Rattle.schema_fj.specs.Held.{Held}
use Rattle.schema_fj.specs.States.{StateStands}
use Rattle.server_core.specs.Servers.{GoesOn}
use Rattle.server_core.proofs.server.after_push_of.Goals as goal

pub returns : goal.returns
returns c =
    let push = c.args.push.now in
    IfOk-weaker c.after_change.result
    (λ (next : Held). (schema : Schema) (log before after : List Update) → StateStands schema c.args.state.now log [] → IsEffect schema before after c.in_ok-change.change → IsPart before log → Fit schema (log ++ after) → StateStands schema next (log ++ after) [])
    (GoesOn push c.args.state.now)
    (λ next goes log stands part fit. goes push.schema log (flat push.past.list push.batch.base) (updates_in push.batch) stands c.in_ok-change.ensures part fit)
    c.after_change.ensures
