use Rattle.std.proofs.Common.{◌≡◌, refl, sym, ◌∙◌, ap, subst, ℕ, ◌+◌, List, None, length}
use Rattle.cloud_base.specs.declared.batch.Batch.{Batch}
use Rattle.cloud_base.specs.declared.update.Event.{Event}
use Rattle.packet_codec.specs.Pushes.{IsPushWire}
use Rattle.session_core.specs.Standings.{Sessioned}
use Rattle.session_core.specs.Sessions.{MayBegin, begun, next_batch}
use Rattle.session_core.specs.Insides.{StandsFor}
use Rattle.session_core.proofs.Meets.{session_begun}
use Rattle.session_core.proofs.session.Session.put_out.Goals as goal

abbrev batch : ℕ → ℕ → ℕ → List Event → List Event → Batch
batch client round base before rest = record { client = client; round = round; base = base; before = before; rest = rest }

pub invariant_of-self : goal.invariant_of-self
invariant_of-self c =
    let a = c.self.inside in
    let events = c.take_all-before.result in
    let told : batch a.client (a.rounds + 1) c.len.result events.0 events.1 ≡ batch a.client (length a.own.list + 1) (length a.past.list) a.running.before.list a.running.rest.list =
    ap (λ (n : ℕ). batch a.client (n + 1) c.len.result events.0 events.1) c.self.invariant.rounds
    ∙ ap (λ (n : ℕ). batch a.client (length a.own.list + 1) n events.0 events.1) c.len.ensures
    ∙ ap (λ (l : List Event). batch a.client (length a.own.list + 1) (length a.past.list) l events.1) c.take_all-before.ensures.before
    ∙ ap (batch a.client (length a.own.list + 1) (length a.past.list) a.running.before.list) c.take_all-before.ensures.rest in
    session_begun a c.append.new.self (batch a.client (a.rounds + 1) c.len.result events.0 events.1) c.take_all-before.new.self c.after_push-self-inside.result c.args.wire c.args.state (a.rounds + 1)
    (record {
      batch_is = told;
      list = c.append.ensures.list;
      chronicle = c.append.ensures.same;
      before = c.take_all-before.ensures.no_before;
      rest = c.take_all-before.ensures.no_rest;
      flush_is = c.after_push-self-inside.ensures;
    })
    c.self.invariant
    (subst (λ (v : Sessioned). v.stands.sent ≡ None) (sym c.self.view_is) c.requires.none)
    (subst (λ (v : Sessioned). MayBegin v.stands) (sym c.self.view_is) c.requires.may)
    (subst (λ (v : Sessioned). IsPushWire v.stands.schema v.stands.past.list (next_batch v.stands) c.args.wire) (sym c.self.view_is) c.requires.wire)
    (subst (λ (v : Sessioned). StandsFor (begun v.stands) c.args.state) (sym c.self.view_is) c.requires.state)
    refl
