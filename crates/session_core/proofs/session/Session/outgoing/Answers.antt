use Rattle.std.proofs.Common.{◌≡◌, rules}
use Rattle.std.specs.Arc.{arc_value}
use Rattle.session_core.proofs.Meets.{outgoing_push}
use Rattle.session_core.proofs.session.Session.outgoing.Goals as goal

pub new-requires : goal.new-requires
new-requires c =
    let schema : arc_value c.in_ok-schema.schema ≡ arc_value c.self.inside.schema = search rules in
    outgoing_push c.self.inside c.in-Some.outstanding c.in_ok-wire.field-0 (arc_value c.in_ok-schema.schema) c.in_ok-past.past c.in_ok-own.own c.self.invariant c.in-Some.is schema c.in_ok-wire.ensures c.in_ok-past.ensures.whole c.in_ok-own.ensures.whole
