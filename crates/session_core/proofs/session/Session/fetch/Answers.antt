use Rattle.std.proofs.Common.{◌≡◌, sym, ◌∙◌, ap, subst, ℕ, Option}
use Rattle.packet_codec.specs.Replies.{Replied}
use Rattle.session_core.specs.declared.turns.Pull.{Pull}
use Rattle.session_core.specs.Standings.{Standing, Sessioned}
use Rattle.session_core.specs.Meetings.{FindsFor, without_reply}
use Rattle.session_core.proofs.Fetching.{kept_found}
use Rattle.session_core.proofs.session.Session.fetch.Goals as goal
use Rattle.session_core.proofs.session.Session.fetch.Goals.{in-Some-take_kept, in-None}

pub returns-clause-kept : goal.returns-clause-kept
returns-clause-kept g c x k = elim c.match-take_kept.branch [
  | in-Some-take_kept w ↦ c.take_kept.ensures.kept x (w.in-Some-take_kept.is ∙ sym (ap (λ (p : Pull × Option Replied). p.1) w.result-is) ∙ k)
  | in-None w ↦
      let s = c.args.self.now.stands in
      let hub = g.H.Hub.seen c.args.hub.now in
      let client : c.self.inside.client ≡ s.client =
      ap (λ (v : Sessioned). v.stands.client) c.self.view_is
      ∙ ap (λ (t : Standing). t.client) (c.take_kept.ensures.left ∙ ap (λ (o : Option Replied). without_reply o s) w.in-None.is) in
      let found = subst (λ (n : ℕ). FindsFor {S = g.row.S.Denot} n c.in-Some.round w.look_in.result.0 w.look_in.result.1 hub (g.H.Hub.seen w.look_in.new.hub)) client w.look_in.ensures in
      kept_found {S = g.row.S.Denot} s c.keeps.ensures.running hub (g.H.Hub.seen w.look_in.new.hub) c.requires c.in-Some.round (sym c.outstanding.ensures ∙ c.in-Some.is) w.look_in.result.0 w.look_in.result.1 found x
      (sym (ap (λ (p : Pull × Option Replied). p.1) w.result-is) ∙ k)
]
