use Rattle.std.proofs.Common.{◌≡◌, sym, ◌∙◌, ap, subst, Option, None}
use Rattle.packet_codec.specs.Replies.{Replied}
use Rattle.session_core.specs.Standings.{Standing, Sessioned, IsKeptReply}
use Rattle.session_core.specs.Meetings.{without_reply}
use Rattle.session_core.proofs.session.Session.ready.Goals as goal

abbrev Kept : Sessioned → Replied → Type 0
Kept v reply = IsKeptReply v.stands.schema v.stands.client v.stands.past v.stands.own v.stands.sent reply

pub rejoin-requires : goal.rejoin-requires
rejoin-requires g c =
    let old = c.args.self.now.stands in
    let left : c.fetch-pull.new.self.stands ≡ record old { reply = None } = c.fetch-pull.ensures.left ∙ ap (λ (o : Option Replied). without_reply o old) c.in-Some.is in
    subst (λ (s : Standing). IsKeptReply s.schema s.client s.past s.own s.sent c.in-Some.reply) (sym left) (c.fetch-pull.ensures.kept c.in-Some.reply c.in-Some.is)

pub keep-requires : goal.keep-requires
keep-requires g c =
    let old = c.args.self.now.stands in
    let left : c.fetch-pull.new.self.stands ≡ record old { reply = None } = c.fetch-pull.ensures.left ∙ ap (λ (o : Option Replied). without_reply o old) c.in-Some.is in
    let before : Kept c.fetch-pull.new.self c.in-Some.reply = subst (λ (s : Standing). IsKeptReply s.schema s.client s.past s.own s.sent c.in-Some.reply) (sym left) (c.fetch-pull.ensures.kept c.in-Some.reply c.in-Some.is) in
    subst (Kept c.rejoin.new.self) (sym c.rejoin.ensures.reply) (subst (λ (v : Sessioned). Kept v c.in-Some.reply) (sym c.rejoin.ensures.same) before)
