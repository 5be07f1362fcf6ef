-- A played run at one moment, and what happens to pushes: a small server and its boxes.
use Rattle.std.specs.Prelude.{◌≡◌, refl, ℕ, ◌+◌, ◌==◌, nat_lt, if◌then◌else◌, List, [], ◌∷◌, ◌++◌, length, Option, Some, None}
use Rattle.cloud_base.specs.declared.batch.Batch.{Batch}
use Rattle.cloud_base.specs.declared.schedule.Fate.{Fate}
use Rattle.cloud_base.specs.declared.schedule.Fate.TheVariants.{Pass, LosePush, LoseReply, Twice, Hold}
use Rattle.cloud_base.specs.declared.update.Event.{Event}
use Rattle.cloud_base.specs.declared.update.Event.TheVariants.{Yield}
use Rattle.batch_history.specs.Batches.{of_client, unjoined, did_by}
use Rattle.played_record.specs.Clients.{Client, Reply, fresh, yielded}

-- the batches that were joined, and each client's part
pub record World : Type 0 where
  pub batches : List Batch
  pub client : ℕ → Client

abbrev pub opening : World
opening = record { batches = []; client = λ c. fresh }

-- client c's part is x now
abbrev pub with_client : ℕ → Client → World → World
with_client c x w = record w { client = λ k. if k == c then x else w.client k }

-- what client c did
abbrev pub did : ℕ → World → List Event
did c w = did_by w.batches c (Some (w.client c).tail)

-- ---- a push is taken

-- how many batches of a client a record has, which is the round of the last one
abbrev pub last_round : ℕ → List Batch → ℕ
last_round c batches = length (of_client c batches)

-- the client's outstanding batch is joined where its push is of the next round
abbrev pub joined : ℕ → ℕ → World → World
joined c round w = record w {
  batches = if round == last_round c w.batches + 1 then w.batches ++ unjoined (of_client c w.batches) (w.client c).tail.sent else w.batches;
}

-- a push is answered by how many batches there are once it was taken, unless it is of an earlier round than the client's last
abbrev pub reply_to : ℕ → ℕ → World → Option Reply
reply_to c round w = if nat_lt round (last_round c w.batches) then None else Some (record { round = round; base = length (joined c round w).batches })

-- a reply is put into the client's inbox, in place of what was there
abbrev pub put_in : ℕ → Option Reply → World → World
put_in c None w = w
put_in c (Some reply) w = with_client c (record (w.client c) { inbox = Some reply }) w

-- a push passes: it is taken, and its reply arrives
abbrev pub passes : ℕ → ℕ → World → World
passes c round w = put_in c (reply_to c round w) (joined c round w)

-- ---- fates

-- what happens to a push by its fate
abbrev pub fares : Fate → ℕ → ℕ → World → World
fares Pass c round w = passes c round w
fares LosePush c round w = w
fares LoseReply c round w = joined c round w
fares Twice c round w = passes c round (passes c round w)
fares Hold c round w = passes c round w

-- a copy that was held passes
abbrev pub releases : ℕ → Option ℕ → World → World
releases c None w = w
releases c (Some round) w = passes c round w

-- of a push of this fate a copy is held
abbrev pub copy_of : Fate → ℕ → Option ℕ
copy_of Hold round = Some round
copy_of Pass round = None
copy_of LosePush round = None
copy_of LoseReply round = None
copy_of Twice round = None

abbrev pub holds : ℕ → Option ℕ → World → World
holds c copy w = with_client c (record (w.client c) { held = copy }) w

abbrev pub emptied : ℕ → World → World
emptied c w = with_client c (record (w.client c) { out = None }) w

-- a push that was taken out fares by its fate; then the copy that was held passes; then a copy of this push is held, if its fate says so
abbrev pub handled : ℕ → Fate → ℕ → World → World
handled c fate round w = holds c (copy_of fate round) (releases c (w.client c).held (fares fate c round (emptied c w)))

abbrev pub served_out : ℕ → Fate → Option ℕ → World → World
served_out c fate None w = w
served_out c fate (Some round) w = handled c fate round w

-- a serve of client c: what its outbox holds is handled
abbrev pub served : ℕ → Fate → World → World
served c fate w = served_out c fate (w.client c).out w

module _ where
  abbrev yields : World → World
  yields w = with_client 1 (yielded 1 w.batches (w.client 1)) w

  -- client 1 yielded
  abbrev sent : World
  sent = yields opening

  abbrev round : ℕ → ℕ → List Event → List Event → Batch
  round n base before rest = record { client = 1; round = n; base = base; before = before; rest = rest }

  -- a push passes, is lost, or its reply is
  pub example_pass : ((served 1 Pass sent).batches ≡ round 1 0 [] (Yield ∷ []) ∷ []) × (((served 1 Pass sent).client 1).inbox ≡ Some (record { round = 1; base = 1 }))
      × (((served 1 Pass sent).client 1).out ≡ None) × (((served 1 Pass sent).client 0) ≡ fresh)
  example_pass = (refl, refl, refl, refl)

  pub example_lost : ((served 1 LosePush sent).batches ≡ []) × (((served 1 LosePush sent).client 1).out ≡ None)
      × ((served 1 LoseReply sent).batches ≡ round 1 0 [] (Yield ∷ []) ∷ []) × (((served 1 LoseReply sent).client 1).inbox ≡ None)
  example_lost = (refl, refl, refl, refl)

  -- a second copy isn't joined again, and an empty outbox is no push
  pub example_twice : ((served 1 Twice sent).batches ≡ round 1 0 [] (Yield ∷ []) ∷ []) × (served 1 Pass (served 1 Twice sent) ≡ served 1 Twice sent)
  example_twice = (refl, refl)

  -- A copy that was held is of an earlier round when the next push was joined, and isn't answered. Where the next push is lost, it is answered
  -- again.
  abbrev second : World
  second = yields (served 1 Hold sent)

  pub example_hold : (((served 1 Hold sent).client 1).held ≡ Some 1) × (((served 1 Pass second).client 1).inbox ≡ Some (record { round = 2; base = 2 }))
      × (((served 1 LosePush second).client 1).inbox ≡ Some (record { round = 1; base = 1 })) × (((served 1 LosePush second).client 1).held ≡ None)
      × (((served 1 LoseReply second).client 1).inbox ≡ None)
  example_hold = (refl, refl, refl, refl, refl)
