use Rattle.std.proofs.Common.{◌≡◌, sym, ◌∙◌, ap, subst, ℕ, ◌+◌, [], ◌∷◌, ◌++◌, length, None}
use Rattle.std.specs.Prelude.{is_some}
use Rattle.packet_bytes.specs.Spelling.{spelling}
use Rattle.packet_bytes.specs.declared.wire.Wire.TheVariants.{Push}
use Rattle.packet_codec.specs.Pushes.{IsPushWire}
use Rattle.session_core.specs.Standings.{Sessioned, seen_first, updates_now}
use Rattle.session_core.specs.Sessions.{MayBegin, begun, next_batch}
use Rattle.session_core.specs.Insides.{stands_in, StandsFor}
use Rattle.session_core.proofs.Begins.{may_push}
use Rattle.session_core.proofs.Meets.{none_of, push_effect, begun_state}
use Rattle.session_core.proofs.session.Session.begin.Goals as goal

pub write_push-requires-clause-created : goal.write_push-requires-clause-created
write_push-requires-clause-created c =
    let s = stands_in c.self.inside in
    let none : s.sent ≡ None = none_of s.sent (ap (λ (v : Sessioned). is_some v.stands.sent) c.self.view_is ∙ sym c.waits.ensures ∙ c.if-waits.false) in
    let may : MayBegin s = subst (λ (v : Sessioned). MayBegin v.stands) (sym c.self.view_is) c.requires.may in
    (c.packets_are_spelled.ensures.changes s.schema s.past.list (s.own.list ++ next_batch s ∷ []) (next_batch s) c.in_ok-change.change (may_push s c.self.invariant.standing none may)
    (push_effect s c.in_ok-change.change none (c.in_ok-change.ensures s.schema (seen_first s) (updates_now s) c.self.invariant.state))).0

pub write_push-requires-clause-dead : goal.write_push-requires-clause-dead
write_push-requires-clause-dead c =
    let s = stands_in c.self.inside in
    let none : s.sent ≡ None = none_of s.sent (ap (λ (v : Sessioned). is_some v.stands.sent) c.self.view_is ∙ sym c.waits.ensures ∙ c.if-waits.false) in
    let may : MayBegin s = subst (λ (v : Sessioned). MayBegin v.stands) (sym c.self.view_is) c.requires.may in
    (c.packets_are_spelled.ensures.changes s.schema s.past.list (s.own.list ++ next_batch s ∷ []) (next_batch s) c.in_ok-change.change (may_push s c.self.invariant.standing none may)
    (push_effect s c.in_ok-change.change none (c.in_ok-change.ensures s.schema (seen_first s) (updates_now s) c.self.invariant.state))).1

pub write_push-requires-clause-cells : goal.write_push-requires-clause-cells
write_push-requires-clause-cells c =
    let s = stands_in c.self.inside in
    let none : s.sent ≡ None = none_of s.sent (ap (λ (v : Sessioned). is_some v.stands.sent) c.self.view_is ∙ sym c.waits.ensures ∙ c.if-waits.false) in
    let may : MayBegin s = subst (λ (v : Sessioned). MayBegin v.stands) (sym c.self.view_is) c.requires.may in
    (c.packets_are_spelled.ensures.changes s.schema s.past.list (s.own.list ++ next_batch s ∷ []) (next_batch s) c.in_ok-change.change (may_push s c.self.invariant.standing none may)
    (push_effect s c.in_ok-change.change none (c.in_ok-change.ensures s.schema (seen_first s) (updates_now s) c.self.invariant.state))).2

pub put_out-requires-clause-wire : goal.put_out-requires-clause-wire
put_out-requires-clause-wire c =
    let s = stands_in c.self.inside in
    let change = c.in_ok-change.change in
    let none : s.sent ≡ None = none_of s.sent (ap (λ (v : Sessioned). is_some v.stands.sent) c.self.view_is ∙ sym c.waits.ensures ∙ c.if-waits.false) in
    let wire : IsPushWire s.schema s.past.list (next_batch s) c.in_ok-wire.wire = record {
      change = change;
      effect = push_effect s change none (c.in_ok-change.ensures s.schema (seen_first s) (updates_now s) c.self.invariant.state);
      spelled = c.in_ok-wire.ensures
          ∙ ap (λ (n : ℕ). spelling (Push s.client (n + 1) c.len-base.result change)) c.self.invariant.rounds
          ∙ ap (λ (n : ℕ). spelling (Push s.client (length s.own.list + 1) n change)) c.len-base.ensures;
    } in
    subst (λ (v : Sessioned). IsPushWire v.stands.schema v.stands.past.list (next_batch v.stands) c.in_ok-wire.wire) c.self.view_is wire

pub put_out-requires-clause-state : goal.put_out-requires-clause-state
put_out-requires-clause-state c =
    let s = stands_in c.self.inside in
    let none : s.sent ≡ None = none_of s.sent (ap (λ (v : Sessioned). is_some v.stands.sent) c.self.view_is ∙ sym c.waits.ensures ∙ c.if-waits.false) in
    subst (λ (v : Sessioned). StandsFor (begun v.stands) c.in_ok-state.state) c.self.view_is
    (begun_state s c.in_ok-state.state none (c.in_ok-state.ensures s.schema (seen_first s) (updates_now s) c.self.invariant.state))
