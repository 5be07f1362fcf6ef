-- What contracts see of a session, and what its type keeps.
use Rattle.std.specs.Prelude.{◌≡◌, length, is_some}
use Rattle.std.specs.Arc.{arc_value}
use Rattle.std.specs.Option.{ForSome, option_map}
use Rattle.schema_fj.specs.Held.{Held}
use Rattle.schema_fj.specs.States.{StateStands}
use Rattle.packet_codec.specs.Pushes.{IsPushWire}
use Rattle.session_core.specs.declared.session.Session.TheInside.{Inside}
use Rattle.session_core.specs.Runnings.{spare_at}
use Rattle.session_core.specs.Standings.{Standing, Sessioned, IsStanding, seen_first, updates_now}

abbrev pub stands_in : Inside → Standing
stands_in a = record {
  schema = arc_value a.schema;
  client = a.client;
  past = a.past;
  own = a.own;
  sent = option_map (λ x. x.batch) a.sent;
  before = a.running.before.list;
  rest = a.running.rest.list;
  reply = a.reply;
  flush = a.flush;
}

abbrev pub sessioned_in : Inside → Sessioned
sessioned_in a = record {
  stands = stands_in a;
  spare = spare_at (is_some (stands_in a).sent) a.running;
}

-- the state is that of the log that the session sees
abbrev pub StandsFor : Standing → Held → Type 0
StandsFor s state = StateStands s.schema state (seen_first s) (updates_now s)

pub record IsSession (a : Inside) : Type 0 where
  pub standing : IsStanding (stands_in a)
  pub state : StandsFor (stands_in a) a.state
  -- the bytes of the outstanding push are those of its batch
  pub wire : ForSome a.sent (λ x. IsPushWire (arc_value a.schema) a.past.list x.batch x.wire)
  pub rounds : a.rounds ≡ length a.own.list
