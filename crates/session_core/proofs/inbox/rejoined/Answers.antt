use Rattle.std.proofs.Common.{subst, sym, [], append-nil}
use Rattle.cloud_base.specs.Alike.{IsPart}
use Rattle.cloud_base.specs.declared.schema.Schema.{Schema}
use Rattle.batch_joins.specs.Joins.{all_updates}
use Rattle.change_lists.specs.Images.{IsImage}
use Rattle.session_core.proofs.inbox.rejoined.Goals as goal

pub returns : goal.returns
returns c before after fit stands part more =
    let log = all_updates c.args.reply.now.past.list in
    let image : IsImage c.args.schema.now log c.in_ok-image.image = subst (λ (s : Schema). IsImage s log c.in_ok-image.image) c.requires c.in_ok-image.ensures in
    c.in_ok-join.ensures.ok c.args.schema.now log [] before after (c.in_ok-next.ensures log fit image) stands (subst (IsPart before) (sym (append-nil log)) part) more
