-- Yields and turns of a session are those of the played run.
use Rattle.std.proofs.Common.{◌≡◌, refl, ap, sym, ◌∙◌, subst, ℕ, Bool, List, [], ◌∷◌, ◌++◌, Option, Some, None, append-nil}
use Rattle.std.specs.Prelude.{◌≢◌, if◌then◌else◌, is_some}
use Rattle.cloud_base.specs.Events.{answers_in}
use Rattle.cloud_base.specs.declared.batch.Batch.{Batch}
use Rattle.cloud_base.specs.declared.end.End.{End}
use Rattle.cloud_base.specs.declared.update.Answer.{Answer}
use Rattle.cloud_base.specs.declared.update.Event.{Event}
use Rattle.cloud_base.specs.declared.update.Event.TheVariants.{Do, Ask, Say, Yield, Flush}
use Rattle.slot_hub.specs.Boxes.{Boxes, Seen}
use Rattle.packet_codec.specs.Pushes.{Pushed}
use Rattle.packet_codec.specs.Replies.{Replied}
use Rattle.server_core.specs.Stations.{Holding}
use Rattle.session_core.specs.declared.flushing.Flushing.{Flushing as FlushAt}
use Rattle.session_core.specs.declared.flushing.Flushing.TheVariants.{Closed}
use Rattle.session_core.specs.declared.turns.Pull.{Pull}
use Rattle.session_core.specs.declared.turns.PushOut.{PushOut}
use Rattle.session_core.specs.declared.turns.Turn.{Turn}
use Rattle.session_core.specs.declared.turns.Turn.TheVariants as turn
use Rattle.session_core.specs.declared.turns.Yielded.{Yielded}
use Rattle.session_core.specs.Standings.{Standing, tail_of}
use Rattle.session_core.specs.Sessions.{noted as its_noted, noted_at as notes_at, sends_at}
use Rattle.session_core.specs.Meetings.{IsMet, IsUnmet, Joins, Pulls, Pushes, Turns, Yields}
use Rattle.client_runner.specs.Steps.{did}
use Rattle.played_record.specs.Clients.{Client, Flushing, Reply, closed, flush_after_push, flush_pushed, is_met, noted, pulled, pushed, round_sent, sends, turned, yielded}
use Rattle.played_moments.specs.Moments.{Mail, flushing_of, mail_of}
use Rattle.played_turns.proofs.Places.{Behind, Keeps, behind_noted, keeps_noted, part, part_noted}
use Rattle.played_turns.proofs.Hubs.{Gets, Leaves, fetches_found, handed_out}
use Rattle.played_turns.proofs.Pulling.{pull_behind, pull_keeps, pull_part}
use Rattle.played_turns.proofs.Pushing.{client_sends, push_behind, push_part}
use Rattle.played_turns.proofs.Flushes.{closed_is, closed_joined, closed_sends, flush_joined, flush_sends, flush_still, met_at, met_closed, met_is, unmet_open}

-- ---- events

pub answers_last : (events : List Event) (e : Event) → answers_in (events ++ e ∷ []) ≡ answers_in events ++ answers_in (e ∷ [])
answers_last [] e = refl
answers_last (Do u ∷ events) e = answers_last events e
answers_last (Ask q a ∷ events) e = ap (λ (l : List Answer). a ∷ l) (answers_last events e)
answers_last (Say v ∷ events) e = answers_last events e
answers_last (Yield ∷ events) e = answers_last events e
answers_last (Flush ∷ events) e = answers_last events e

-- an event that is no query
pub part_quiet : (f : FlushAt) (e : Event) (s : Standing) (end : Option End) (mail : Mail) → answers_in (e ∷ []) ≡ [] → Keeps s
    → record (noted e (part s end mail)) { flush = flushing_of f s.sent } ≡ part (notes_at f e s) end mail
part_quiet f e s end mail quiet keeps =
    let same : answers_in (did s) ≡ answers_in (did s ++ e ∷ []) =
    sym (answers_last (did s) e ∙ ap (λ (l : List Answer). answers_in (did s) ++ l) quiet ∙ append-nil (answers_in (did s))) in
    ap (λ (l : List Answer). record (noted e (part s end mail)) { answers = l; flush = flushing_of f s.sent }) same
    ∙ part_noted f e s end mail keeps

-- a turn that met its flush, or didn't
abbrev turning : ℕ → List Batch → Bool → Client → Client
turning c batches met x = if met then record (pulled x) { flush = closed } else flush_pushed c batches (pulled x)

module _ {S : Type 0} (c : ℕ) (batches : List Batch) (holding : Holding) (end : Option End) where
  -- the client's part in the played run is where its session comes
  pub record Goes (boxes : Boxes S Pushed Replied) (hub hub' : Seen S Pushed Replied) (s : Standing) (x : Client) : Type 0 where
    pub leaves : Leaves c holding boxes hub hub'
    pub is : x ≡ part s end (mail_of c leaves.boxes' holding hub'.taken)
    pub behind : Behind c batches s (mail_of c leaves.boxes' holding hub'.taken)

  abbrev pub before : Boxes S Pushed Replied → Seen S Pushed Replied → Standing → Client
  before boxes hub s = part s end (mail_of c boxes holding hub.taken)

  -- ---- a pull

  record PullGoes (boxes : Boxes S Pushed Replied) (hub hub' : Seen S Pushed Replied) (old new : Standing) : Type 0 where
    leaves : Leaves c holding boxes hub hub'
    got : Option Replied
    gets : Gets old.sent (boxes.inbox c) got
    joins : Joins got old new
    is : record (pulled (before boxes hub old)) { flush = flushing_of new.flush new.sent } ≡ part new end
        (mail_of c leaves.boxes' holding hub'.taken)
    behind : Behind c batches new (mail_of c leaves.boxes' holding hub'.taken)
    keeps : Keeps new

  pull_goes : (boxes : Boxes S Pushed Replied) (hub hub' : Seen S Pushed Replied) (old new : Standing) (result : Pull)
      → hub.boxes ≡ Some boxes → Keeps old
      → Behind c batches old (mail_of c boxes holding hub.taken) → (old.sent ≡ None → boxes.inbox c ≡ None)
      → Pulls old new result hub hub' → PullGoes boxes hub hub' old new
  pull_goes boxes hub hub' old new result told keeps h quiet pulls =
      let found = fetches_found c holding boxes old.client old.sent old.reply result pulls.got hub hub' h.client told h.reply quiet pulls.fetches in
      let mail = mail_of c boxes holding hub.taken in
      let mail' = mail_of c found.leaves.boxes' holding hub'.taken in
      record {
        leaves = found.leaves;
        got = pulls.got;
        gets = found.gets;
        joins = pulls.joins;
        is = pull_part old new pulls.got end mail mail' keeps found.looks found.gets pulls.joins;
        behind = pull_behind c batches old new pulls.got mail mail' keeps found.looks found.gets pulls.joins h;
        keeps = pull_keeps old new pulls.got keeps pulls.joins;
      }

  -- ---- a push

  push_goes : (boxes : Boxes S Pushed Replied) (hub hub' : Seen S Pushed Replied) (old new : Standing) (result : PushOut)
      → hub.boxes ≡ Some boxes → Keeps old
      → Behind c batches old (mail_of c boxes holding hub.taken) → Pushes old new result hub hub'
      → Goes boxes hub hub' new (record (pushed c batches (before boxes hub old)) { flush = flushing_of new.flush new.sent })
  push_goes boxes hub hub' old new result told keeps h pushes =
      let push = pushes.push in
      let mine : push.batch.client ≡ c =
      pushes.push_is.client ∙ ap (λ (s : Standing). s.client) pushes.goes_on ∙ client_sends old.sent old ∙ h.client in
      let handed = handed_out c holding boxes push (is_some old.sent) result hub hub' mine told pushes.hands in
      let mail = mail_of c boxes holding hub.taken in
      let mail' = mail_of c handed.leaves.boxes' holding hub'.taken in
      record {
        leaves = handed.leaves;
        is = push_part c batches old new push end mail mail' handed.puts pushes.goes_on pushes.push_is.batch h;
        behind = push_behind c batches old new push mail mail' handed.puts pushes.goes_on pushes.push_is.batch keeps h;
      }

  -- ---- one behind the other

  abbrev leaves_then : (boxes : Boxes S Pushed Replied) (hub between hub' : Seen S Pushed Replied)
      → (first : Leaves c holding boxes hub between)
      → Leaves c holding first.boxes' between hub' → Leaves c holding boxes hub hub'
  leaves_then boxes hub between hub' first second = record {
    boxes' = second.boxes';
    told = second.told;
    others = λ k other. second.others k other ∙ first.others k other;
  }

  pushes_then : (boxes : Boxes S Pushed Replied) (hub between hub' : Seen S Pushed Replied) (s : Standing) (x y : Client)
      → (first : Leaves c holding boxes hub between) → y ≡ x → Goes first.boxes' between hub' s x → Goes boxes hub hub' s y
  pushes_then boxes hub between hub' s x y first same second = record {
    leaves = leaves_then boxes hub between hub' first second.leaves;
    is = same ∙ second.is;
    behind = second.behind;
  }

  -- ---- a yield

  pub yields_go : (boxes : Boxes S Pushed Replied) (hub hub' : Seen S Pushed Replied) (old new : Standing) (y : Yielded)
      → hub.boxes ≡ Some boxes → Keeps old
      → old.flush ≡ Closed → Behind c batches old (mail_of c boxes holding hub.taken) → (old.sent ≡ None → boxes.inbox c ≡ None)
      → Yields old new y hub hub'
      → Goes boxes hub hub' new (yielded c batches (before boxes hub old))
  yields_go boxes hub hub' old new y told keeps shut h quiet yields =
      let mail = mail_of c boxes holding hub.taken in
      let marked = its_noted Yield old in
      let p = yields.pulled in
      let first : noted Yield (before boxes hub old) ≡ before boxes hub marked =
      part_quiet old.flush Yield old end mail refl keeps in
      let pull = pull_goes boxes hub yields.between marked p y.pull told (keeps_noted old.flush Yield old keeps.flush keeps)
      (behind_noted c batches old.flush Yield old mail h) quiet yields.pull in
      let shut_then : p.flush ≡ Closed = closed_joined pull.got marked p pull.joins shut in
      let second : pulled (before boxes hub marked) ≡ before pull.leaves.boxes' yields.between p =
      ap (λ (f : Flushing). record (pulled (before boxes hub marked)) { flush = f })
      (closed_is old.flush old.sent shut ∙ sym (closed_is p.flush p.sent shut_then)) ∙ pull.is in
      let push = push_goes pull.leaves.boxes' yields.between hub' p new y.push pull.leaves.told pull.keeps pull.behind yields.push in
      let shut_last : new.flush ≡ Closed = ap (λ (s : Standing). s.flush) yields.push.goes_on ∙ closed_sends p.sent p shut_then in
      let z = before pull.leaves.boxes' yields.between p in
      let third : pushed c batches z ≡ record (pushed c batches z) { flush = flushing_of new.flush new.sent } =
      ap (λ (f : Flushing). record (pushed c batches z) { flush = f })
      (closed_is p.flush p.sent shut_then ∙ sym (closed_is new.flush new.sent shut_last)) in
      pushes_then boxes hub yields.between hub' new (record (pushed c batches z) { flush = flushing_of new.flush new.sent })
      (yielded c batches (before boxes hub old)) pull.leaves
      (ap (λ (x : Client). pushed c batches (pulled x)) first ∙ ap (pushed c batches) second ∙ third) push

  -- ---- a turn of a flush

  turning_is : (boxes : Boxes S Pushed Replied) (hub : Seen S Pushed Replied) (old : Standing) (got : Option Replied)
      → Gets old.sent (boxes.inbox c) got
      → turned c batches (before boxes hub old) ≡ turning c batches (met_at old.flush got) (before boxes hub old)
  turning_is boxes hub old got gets =
      ap (λ (g : Option Reply). turning c batches (is_met (flushing_of old.flush old.sent) g) (before boxes hub old)) gets.is
      ∙ ap (λ (t : Bool). turning c batches t (before boxes hub old)) (met_is old.flush old.sent (boxes.inbox c) got gets)

  met_goes : (boxes : Boxes S Pushed Replied) (hub hub' : Seen S Pushed Replied) (old new : Standing) → hub.boxes ≡ Some boxes
      → Keeps old
      → old.flush ≢ Closed → Behind c batches old (mail_of c boxes holding hub.taken) → (old.sent ≡ None → boxes.inbox c ≡ None)
      → IsMet old new hub hub'
      → Goes boxes hub hub' new (turned c batches (before boxes hub old))
  met_goes boxes hub hub' old new told keeps still h quiet met =
      let pull = pull_goes boxes hub hub' old new _ told keeps h quiet met.pull in
      let x = before boxes hub old in
      let is_over = met_closed old.flush pull.got still (sym (flush_joined pull.got old new pull.joins) ∙ met.closed) in
      record {
        leaves = pull.leaves;
        is = turning_is boxes hub old pull.got pull.gets
            ∙ ap (λ (t : Bool). turning c batches t x) is_over
            ∙ ap (λ (f : Flushing). record (pulled x) { flush = f }) (sym (closed_is new.flush new.sent met.closed))
            ∙ pull.is;
        behind = pull.behind;
      }

  unmet_goes : (boxes : Boxes S Pushed Replied) (hub hub' : Seen S Pushed Replied) (old new : Standing) (outstanding taken : ℕ)
      → hub.boxes ≡ Some boxes → Keeps old
      → Behind c batches old (mail_of c boxes holding hub.taken) → (old.sent ≡ None → boxes.inbox c ≡ None)
      → IsUnmet old new outstanding taken hub hub'
      → Goes boxes hub hub' new (turned c batches (before boxes hub old))
  unmet_goes boxes hub hub' old new outstanding taken told keeps h quiet unmet =
      let x = before boxes hub old in
      let p = unmet.pulled in
      let pull = pull_goes boxes hub unmet.between old p unmet.pull_is told keeps h quiet unmet.pull in
      let z = before pull.leaves.boxes' unmet.between p in
      let flush_is = flush_joined pull.got old p pull.joins in
      let is_open = unmet_open old.flush pull.got (subst (λ (f : FlushAt). f ≢ Closed) flush_is unmet.still) in
      let second : pulled x ≡ z =
      ap (λ (f : Flushing). record (pulled x) { flush = f }) (flush_still pull.got old p pull.joins unmet.still) ∙ pull.is in
      let push = push_goes pull.leaves.boxes' unmet.between hub' p new unmet.push_is pull.leaves.told pull.keeps pull.behind unmet.push in
      let sent : round_sent (sends c batches p.sent (tail_of p)).sent ≡ round_sent (sends_at p.sent p).sent =
      ap (λ (u : Client). round_sent u.tail.sent) push.is ∙ ap (λ (s : Standing). round_sent s.sent) unmet.push.goes_on in
      let after : flush_after_push (flushing_of p.flush p.sent) p.sent
      (round_sent (sends c batches p.sent (tail_of p)).sent) ≡ flushing_of new.flush new.sent =
      ap (flush_after_push (flushing_of p.flush p.sent) p.sent) sent
      ∙ flush_sends p.sent p refl pull.keeps.flush
      ∙ ap (λ (s : Standing). flushing_of s.flush s.sent) (sym unmet.push.goes_on) in
      let third : flush_pushed c batches z ≡ record (pushed c batches z) { flush = flushing_of new.flush new.sent } =
      ap (λ (f : Flushing). record (pushed c batches z) { flush = f }) after in
      pushes_then boxes hub unmet.between hub' new (record (pushed c batches z) { flush = flushing_of new.flush new.sent })
      (turned c batches x) pull.leaves
      (turning_is boxes hub old pull.got pull.gets
      ∙ ap (λ (t : Bool). turning c batches t x) is_open
      ∙ ap (flush_pushed c batches) second
      ∙ third) push

  pub turns_go : (boxes : Boxes S Pushed Replied) (hub hub' : Seen S Pushed Replied) (old new : Standing) (t : Turn)
      → hub.boxes ≡ Some boxes → Keeps old
      → old.flush ≢ Closed → Behind c batches old (mail_of c boxes holding hub.taken) → (old.sent ≡ None → boxes.inbox c ≡ None)
      → Turns old new t hub hub'
      → Goes boxes hub hub' new (turned c batches (before boxes hub old))
  turns_go boxes hub hub' old new turn.Done told keeps still h quiet turns =
      met_goes boxes hub hub' old new told keeps still h quiet turns
  turns_go boxes hub hub' old new (turn.NotYet outstanding taken) told keeps still h quiet turns =
      unmet_goes boxes hub hub' old new outstanding taken told keeps h quiet turns

  -- ---- nothing but what runs

  pub stays : (boxes : Boxes S Pushed Replied) (hub hub' : Seen S Pushed Replied) (s : Standing) (x : Client)
      → hub.boxes ≡ Some boxes → hub' ≡ hub
      → x ≡ before boxes hub s → Behind c batches s (mail_of c boxes holding hub.taken) → Goes boxes hub hub' s x
  stays boxes hub hub' s x told unmet is h = subst (λ (u : Seen S Pushed Replied). Goes boxes hub u s x) (sym unmet) (record {
    leaves = record { boxes' = boxes; told = told; others = λ k other. refl };
    is = is;
    behind = h;
  })
