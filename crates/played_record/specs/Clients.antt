-- A client's part of a played run, and what happens to it where the client goes on.
use Rattle.std.specs.Prelude.{◌≡◌, refl, pos, ℕ, ◌+◌, ◌==◌, Bool, false, if◌then◌else◌, List, [], ◌∷◌, ◌++◌, length, Option, Some, None, unwrap_or}
use Rattle.std.specs.Option.{option_map, option_map_or}
use Rattle.cloud_base.specs.Events.{updates_of}
use Rattle.cloud_base.specs.declared.batch.Batch.{Batch}
use Rattle.cloud_base.specs.declared.batch.Stretch.{Stretch}
use Rattle.cloud_base.specs.declared.batch.Tail.{Tail}
use Rattle.cloud_base.specs.declared.end.End.{End}
use Rattle.cloud_base.specs.declared.update.Answer.{Answer}
use Rattle.cloud_base.specs.declared.update.CellChange.TheVariants.{Add}
use Rattle.cloud_base.specs.declared.update.Event.{Event}
use Rattle.cloud_base.specs.declared.update.Event.TheVariants.{Do, Ask, Say, Yield, Flush}
use Rattle.cloud_base.specs.declared.update.Query.{Query}
use Rattle.cloud_base.specs.declared.update.Update.{Update}
use Rattle.cloud_base.specs.declared.update.Update.TheVariants.{Cell}
use Rattle.batch_history.specs.Batches.{flat, of_client, last_seen, unjoined}

-- a reply to a round, made when the record had `base` batches
pub record Reply : Type 0 where
  pub round : ℕ
  pub base : ℕ

-- no flush is open; one is whose round isn't outstanding yet; one awaits the reply to its round
pub data Flushing : Type 0 where
  closed : Flushing
  marked : Flushing
  awaits : ℕ → Flushing

pub record Client : Type 0 where
  -- the answers that its queries got so far
  pub answers : List Answer
  -- its outstanding push, and what ran since its last one
  pub tail : Tail
  -- the round of the last reply that came out of its inbox, 0 before the first
  pub taken : ℕ
  -- the round of the push that lies in its outbox
  pub out : Option ℕ
  -- the reply that lies in its inbox
  pub inbox : Option Reply
  -- the round of the push of which a copy is held
  pub held : Option ℕ
  pub flush : Flushing
  -- how it ended, once it has
  pub end : Option End

abbrev pub fresh : Client
fresh = record {
  answers = [];
  tail = record { sent = None; now = record { base = Some 0; before = []; rest = [] } };
  taken = 0;
  out = None;
  inbox = None;
  held = None;
  flush = closed;
  end = None;
}

-- ---- what it sees

-- the batches of client c: those of the record, and the push that the record doesn't have
abbrev pub own_batches : ℕ → List Batch → Tail → List Batch
own_batches c batches tail = of_client c batches ++ unjoined (of_client c batches) tail.sent

-- since a pull, and before the first push, what was joined at its base, and what the client did since its last push; while that
-- is outstanding, what it had seen at its end, and what it did since
abbrev pub seen_from : Option ℕ → ℕ → List Batch → Tail → List Update
seen_from (Some base) c batches tail = flat batches base ++ updates_of tail.now.before ++ updates_of tail.now.rest
seen_from None c batches tail = last_seen batches [] (own_batches c batches tail) ++ updates_of tail.now.before

-- the log that client c sees
abbrev pub seen : ℕ → List Batch → Tail → List Update
seen c batches tail = seen_from tail.now.base c batches tail

-- ---- events

-- an event comes last of what ran since a pull or since the start, or of what runs before the next pull
abbrev pub noted_at : Option ℕ → Event → Stretch → Stretch
noted_at (Some base) event now = record now { rest = now.rest ++ event ∷ [] }
noted_at None event now = record now { before = now.before ++ event ∷ [] }

-- a client with one event more
abbrev pub noted : Event → Client → Client
noted event x = record x { tail = record x.tail { now = noted_at x.tail.now.base event x.tail.now } }

-- and with its answer, of a query
abbrev pub answered : Query → Answer → Client → Client
answered query answer x = record (noted (Ask query answer) x) { answers = x.answers ++ answer ∷ [] }

-- ---- the pull

-- the reply that a pull takes: the one in the inbox, where it is of the outstanding round
abbrev pub fetched : Option Batch → Option Reply → Option Reply
fetched None found = None
fetched (Some b) None = None
fetched (Some b) (Some reply) = if reply.round == b.round then Some reply else None

-- a client that took a reply goes on from there
abbrev pub took : Option Reply → Tail → Tail
took None tail = tail
took (Some reply) tail = record { sent = None; now = record { base = Some reply.base; before = tail.now.before; rest = [] } }

-- a pull: the inbox is emptied, the round that was there is kept, and the reply to the outstanding round is taken
abbrev pub pulled : Client → Client
pulled x = record x {
  tail = took (fetched x.tail.sent x.inbox) x.tail;
  taken = option_map_or (λ (reply : Reply). reply.round) x.inbox x.taken;
  inbox = None;
}

-- ---- the push

-- the batch of what ran since the last push
abbrev pub next_batch : ℕ → List Batch → Stretch → Batch
next_batch c batches now = record {
  client = c;
  round = length (of_client c batches) + 1;
  base = unwrap_or now.base 0;
  before = now.before;
  rest = now.rest;
}

-- the next round is outstanding, if none was
abbrev pub sends : ℕ → List Batch → Option Batch → Tail → Tail
sends c batches None tail = record { sent = Some (next_batch c batches tail.now); now = record { base = None; before = []; rest = [] } }
sends c batches (Some b) tail = tail

abbrev pub round_sent : Option Batch → Option ℕ
round_sent sent = option_map (λ (b : Batch). b.round) sent

-- and lies in the outbox
abbrev pub put_out : Tail → Client → Client
put_out tail x = record x { tail = tail; out = round_sent tail.sent }

-- a push
abbrev pub pushed : ℕ → List Batch → Client → Client
pushed c batches x = put_out (sends c batches x.tail.sent x.tail) x

-- ---- yields and flushes

-- a yield: its mark, a pull and a push
abbrev pub yielded : ℕ → List Batch → Client → Client
yielded c batches x = pushed c batches (pulled (noted Yield x))

-- the reply that a pull takes is the one that a flush awaits
abbrev pub is_met : Flushing → Option Reply → Bool
is_met closed got = false
is_met marked got = false
is_met (awaits round) None = false
is_met (awaits round) (Some reply) = reply.round == round

-- a round that wasn't outstanding before a push is the flush's, if it had none
abbrev pub flush_after_push : Flushing → Option Batch → Option ℕ → Flushing
flush_after_push closed sent out = closed
flush_after_push (awaits round) sent out = awaits round
flush_after_push marked (Some b) out = marked
flush_after_push marked None None = marked
flush_after_push marked None (Some round) = awaits round

abbrev pub flush_pushed : ℕ → List Batch → Client → Client
flush_pushed c batches x = record (pushed c batches x) { flush = flush_after_push x.flush x.tail.sent (pushed c batches x).out }

-- a flush turn: a pull; where it took the reply to the flush's round the flush is over, and else a push
abbrev pub turned : ℕ → List Batch → Client → Client
turned c batches x =
    if is_met x.flush (fetched x.tail.sent x.inbox) then record (pulled x) { flush = closed } else flush_pushed c batches (pulled x)

-- a flush: its mark, and a first turn
abbrev pub flushed : ℕ → List Batch → Client → Client
flushed c batches x = turned c batches (record (noted Flush x) { flush = marked })

-- what a client does with the next event of its trace
abbrev pub done : Event → ℕ → List Batch → Client → Client
done Yield c batches x = yielded c batches x
done Flush c batches x = flushed c batches x
done (Do update) c batches x = noted (Do update) x
done (Ask query answer) c batches x = noted (Ask query answer) x
done (Say value) c batches x = noted (Say value) x

module _ where
  abbrev one : Event
  one = Do (Cell 0 [] (Add (pos 1)))

  -- a client that did an update and yields: its first round is outstanding and lies in the outbox
  abbrev first : Batch
  first = record { client = 2; round = 1; base = 0; before = []; rest = one ∷ Yield ∷ [] }

  abbrev once : Client
  once = yielded 2 [] (noted one fresh)

  pub example_yield : once ≡ record fresh { tail = record { sent = Some first; now = record { base = None; before = []; rest = [] } }; out = Some 1 }
  example_yield = refl

  -- it sees its update while its push is on its way
  pub example_seen : seen 2 [] (noted one once).tail ≡ Cell 0 [] (Add (pos 1)) ∷ Cell 0 [] (Add (pos 1)) ∷ []
  example_seen = refl

  -- with no reply a further yield puts the same round out again
  pub example_again : yielded 2 [] (record once { out = None }) ≡ record once { tail = record { sent = Some first; now = record { base = None; before = Yield ∷ []; rest = [] } } }
  example_again = refl

  -- the reply to another round is dropped, and that to the outstanding one is taken
  pub example_other : pulled (record once { inbox = Some (record { round = 7; base = 3 }) }) ≡ record once { taken = 7 }
  example_other = refl

  pub example_took : (pulled (noted one (record once { inbox = Some (record { round = 1; base = 3 }) }))).tail ≡
      record { sent = None; now = record { base = Some 3; before = one ∷ []; rest = [] } }
  example_took = refl

  -- a flush behind a yield whose reply didn't come has no round; it gets one when that reply came, and is over at its reply
  abbrev flushing : Client
  flushing = flushed 2 [] once

  abbrev later : Client
  later = turned 2 (first ∷ []) (record flushing { inbox = Some (record { round = 1; base = 1 }) })

  pub example_flush : (flushing.flush ≡ marked) × (later.flush ≡ awaits 2) × ((turned 2 (first ∷ []) later).flush ≡ awaits 2)
      × ((turned 2 (first ∷ []) (record later { inbox = Some (record { round = 2; base = 5 }) })).flush ≡ closed)
  example_flush = (refl, refl, refl, refl)
