-- A client at a moment, worked.
use Rattle.std.specs.Prelude.{◌≡◌, refl, [], ◌∷◌, Some, None}
use Rattle.std.proofs.Common.{subst}
use Rattle.cloud_base.specs.declared.batch.Batch.{Batch}
use Rattle.cloud_base.specs.declared.update.Event.TheVariants.{Yield}
use Rattle.plain_vm.specs.Code.{CodeOf}
use Rattle.slot_hub.specs.Runs.{nowhere}
use Rattle.packet_codec.specs.Pushes.{Pushed, nothing}
use Rattle.session_core.specs.declared.flushing.Flushing.TheVariants.{Closed}
use Rattle.session_core.specs.Standings.{Standing}
use Rattle.played_record.specs.Clients.{fresh, yielded}
use Rattle.played_record.specs.Worlds.{World, opening}
use Rattle.played_moments.specs.Moments.{IsAmong, IsAt, Mail}

-- client 1 yielded and did nothing before: its push lies in its outbox
abbrev first : Batch
first = record { client = 1; round = 1; base = 0; before = []; rest = Yield ∷ [] }

abbrev stands : Standing
stands = record {
  schema = nothing;
  client = 1;
  past = record { chronicle = nowhere; list = [] };
  own = record { chronicle = nowhere; list = first ∷ [] };
  sent = Some first;
  before = [];
  rest = [];
  reply = None;
  flush = Closed;
}

abbrev push : Pushed
push = record { schema = nothing; wire = []; batch = first; past = stands.past; own = stands.own }

abbrev mail : Mail
mail = record { out = Some push; inbox = None; held = None; taken = 0 }

abbrev yielded_once : World
yielded_once = record opening { client = λ c. yielded c [] fresh }

-- it is where a played run says
pub example_at : (code : CodeOf) → IsAt 1 (record { code = code; stands = stands; ended = None }) mail yielded_once
example_at code = record {
  part = refl;
  behind = record {
    client = refl;
    past = ([], refl);
    own = refl;
    reply = refl;
    out = λ p e. subst (IsAmong stands.own.list) (same p e) (record { before = 0; round = refl; is = refl });
    held = λ p e. absurd (cc e);
    inbox = λ reply e. absurd (cc e);
  };
}
  where
    same : (p : Pushed) → Some push ≡ Some p → push ≡ p
    same p e = cc e
