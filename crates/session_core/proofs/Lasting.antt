-- What lasts over a turn.
use Rattle.std.proofs.Common.{◌≡◌, refl, sym, ◌∙◌, ap, subst, List, [], ◌∷◌, ◌++◌, length, Some, None, Option, Result, Ok, Err, append-nil, append_assoc, inl, inr, arith}
use Rattle.std.specs.Prelude.{◌⊎◌, ◌≤◌, ◌+◌, ℕ, Bool, true, false, is_some}
use Rattle.std.proofs.lemmas.List.{length-append}
use mathlib.Core.List.{IsPrefix}
use Rattle.cloud_base.specs.Events.{updates_of}
use Rattle.cloud_base.specs.declared.batch.Batch.{Batch}
use Rattle.cloud_base.specs.declared.update.Event.{Event}
use Rattle.cloud_base.specs.declared.update.Event.TheVariants.{Yield}
use Rattle.cloud_base.specs.declared.update.Update.{Update}
use Rattle.batch_joins.specs.Joins.{all_updates}
use Rattle.slot_hub.specs.Boxes.{Seen}
use Rattle.slot_hub.specs.declared.traits.Busy.{Busy}
use Rattle.packet_codec.specs.Pushes.{Pushed}
use Rattle.packet_codec.specs.Replies.{Replied}
use Rattle.session_core.specs.declared.flushing.Flushing.{Flushing}
use Rattle.session_core.specs.declared.turns.Pull.{Pull}
use Rattle.session_core.specs.declared.turns.Pull.TheVariants as pull
use Rattle.session_core.specs.declared.turns.PushOut.{PushOut}
use Rattle.session_core.specs.declared.turns.PushOut.TheVariants as out
use Rattle.session_core.specs.Standings.{Standing, IsRunning, seen, seen_first, updates_done, updates_now}
use Rattle.session_core.specs.Sessions.{IsLater, next_batch, noted, noted_at, noted_before, noted_rest, sends, sends_at}
use Rattle.session_core.specs.Meetings.{Fetches, FindsFor, HandsOut, Joins, Leaves, LooksIn, Pulls, Pushes, PutsOut}
use Rattle.session_core.proofs.EventLemmas.{updates_of-append}
use Rattle.session_core.proofs.Notes.{updates_now-noted}
use Rattle.session_core.proofs.Updates.{all_updates-last}

-- ---- an event more comes last

pub done_last : (s : Standing) (f : Flushing) (e : Event) → IsRunning s → updates_done (noted_at f e s) ≡ updates_done s ++ updates_of (e ∷ [])
done_last s f e h =
    ap (λ (l : List Update). all_updates s.own.list ++ l) (updates_now-noted f e s h)
    ∙ sym (append_assoc (all_updates s.own.list) (updates_now s) (updates_of (e ∷ [])))

pub seen_last : (s : Standing) (f : Flushing) (e : Event) → IsRunning s → seen (noted_at f e s) ≡ seen s ++ updates_of (e ∷ [])
seen_last s f e h =
    ap (λ (l : List Update). seen_first s ++ l) (updates_now-noted f e s h)
    ∙ sym (append_assoc (seen_first s) (updates_now s) (updates_of (e ∷ [])))

-- ---- a session later on

prefix_same : (xs : List Batch) → IsPrefix xs xs
prefix_same xs = ([], append-nil xs)

prefix_both : (xs ys zs : List Batch) → IsPrefix xs ys → IsPrefix ys zs → IsPrefix xs zs
prefix_both xs ys zs p q = (p.0 ++ q.0, sym (append_assoc xs p.0 q.0) ∙ ap (λ (l : List Batch). l ++ q.0) p.1 ∙ q.1)

later_same : (s : Standing) → IsLater s s
later_same s = record { schema = refl; client = refl; done = refl; past = prefix_same s.past.list; own = prefix_same s.own.list }

later_both : (a b d : Standing) → IsLater a b → IsLater b d → IsLater a d
later_both a b d p q = record {
  schema = q.schema ∙ p.schema;
  client = q.client ∙ p.client;
  done = q.done ∙ p.done;
  past = prefix_both a.past.list b.past.list d.past.list p.past q.past;
  own = prefix_both a.own.list b.own.list d.own.list p.own q.own;
}

marked_now : (waits : Bool) (before rest : List Event) → updates_of (noted_before waits before Yield) ++ updates_of (noted_rest waits rest Yield) ≡ updates_of before ++ updates_of rest
marked_now true before rest = ap (λ (l : List Update). l ++ updates_of rest) (updates_of-append before (Yield ∷ []) ∙ append-nil (updates_of before))
marked_now false before rest = ap (λ (l : List Update). updates_of before ++ l) (updates_of-append rest (Yield ∷ []) ∙ append-nil (updates_of rest))

later_noted : (s : Standing) → IsLater s (noted Yield s)
later_noted s = record {
  schema = refl;
  client = refl;
  done = ap (λ (l : List Update). all_updates s.own.list ++ l) (marked_now (is_some s.sent) s.before s.rest);
  past = prefix_same s.past.list;
  own = prefix_same s.own.list;
}

later_joins : (got : Option Replied) (old new : Standing) → Joins got old new → IsLater old new
later_joins None old new joins = subst (IsLater old) (sym joins) (later_same old)
later_joins (Some reply) old new joins = subst (IsLater old) (sym joins.goes_on) (record {
  schema = refl;
  client = refl;
  done = refl;
  past = joins.longer;
  own = prefix_same old.own.list;
})

later_sends : (o : Option Batch) (s : Standing) → IsLater s (sends_at o s)
later_sends (Some b) s = later_same s
later_sends None s = record {
  schema = refl;
  client = refl;
  done = append-nil (all_updates (s.own.list ++ next_batch s ∷ [])) ∙ all_updates-last s.own.list (next_batch s);
  past = prefix_same s.past.list;
  own = (next_batch s ∷ [], refl);
}

-- ---- its batches

abbrev batches : Standing → ℕ
batches s = length s.own.list

joins_batches : (got : Option Replied) (old new : Standing) → Joins got old new → batches new ≡ batches old
joins_batches None old new joins = ap batches joins
joins_batches (Some reply) old new joins = ap batches joins.goes_on

sends_batches : (o : Option Batch) (s : Standing) → batches (sends_at o s) ≤ batches s + 1
sends_batches (Some b) s = omega arith
sends_batches None s = omega (arith, length-append s.own.list (next_batch s ∷ []))

module _ {S : Type 0} where
  -- ---- the hub

  leaves_same : (c : ℕ) (hub hub' : Seen S Pushed Replied) → hub' ≡ hub → Leaves c hub hub'
  leaves_same c hub hub' same = subst (Leaves c hub) (sym same) (record {
    keeps = record { run = refl; told = refl; looks = λ slot. omega arith; busies = λ slot. omega arith };
    took = refl;
    others = λ k other. refl;
  })

  leaves_both : (c : ℕ) (a b d : Seen S Pushed Replied) → Leaves c a b → Leaves c b d → Leaves c a d
  leaves_both c a b d p q = record {
    keeps = record {
      run = q.keeps.run ∙ p.keeps.run;
      told = q.keeps.told ∙ p.keeps.told;
      looks = λ slot. let first = p.keeps.looks slot in let second = q.keeps.looks slot in omega arith;
      busies = λ slot. let first = p.keeps.busies slot in let second = q.keeps.busies slot in omega arith;
    };
    took = q.took ∙ p.took;
    others = λ k other. q.others k other ∙ p.others k other;
  }

  leaves_in : (c : ℕ) (result : Result (Option Replied) (Busy (Option Replied))) (hub hub' : Seen S Pushed Replied) → LooksIn c result hub hub' → Leaves c hub hub'
  leaves_in c result hub hub' looks = record { keeps = looks.keeps; took = looks.took; others = looks.others }

  leaves_out : (c k : ℕ) (push : Pushed) (result : Result (Option Pushed) (Busy (Option Pushed))) (hub hub' : Seen S Pushed Replied) → PutsOut k push result hub hub' → Leaves c hub hub'
  leaves_out c k push result hub hub' puts = record { keeps = puts.keeps; took = puts.took; others = λ i other. ap (λ (f : ℕ → ℕ). f i) puts.taken }

  found_leaves : (c round : ℕ) (result : Pull) (got : Option Replied) (hub hub' : Seen S Pushed Replied) → FindsFor c round result got hub hub' → Leaves c hub hub'
  found_leaves c round pull.Idle got hub hub' h = absurd h
  found_leaves c round (pull.Took number) got hub hub' h = leaves_in c (Ok (Some h.1.reply)) hub hub' h.1.looks
  found_leaves c round (pull.Nothing taken) got hub hub' h = leaves_in c (Ok h.found) hub hub' h.looks
  found_leaves c round (pull.Busy holder) got hub hub' h = leaves_in c (Err h.busy) hub hub' h.looks

  fetched_leaves : (c : ℕ) (sent : Option Batch) (kept : Option Replied) (result : Pull) (got : Option Replied) (hub hub' : Seen S Pushed Replied) → Fetches c sent kept result got hub hub' → Leaves c hub hub'
  fetched_leaves c None kept result got hub hub' h = leaves_same c hub hub' h.2
  fetched_leaves c (Some b) None result got hub hub' h = found_leaves c b.round result got hub hub' h
  fetched_leaves c (Some b) (Some reply) result got hub hub' h = leaves_same c hub hub' h.2

  handed_leaves : (c : ℕ) (push : Pushed) (again : Bool) (q : PushOut) (hub hub' : Seen S Pushed Replied) → HandsOut push again q hub hub' → Leaves c hub hub'
  handed_leaves c push again (out.New round) hub hub' h = leaves_out c push.batch.client push (Ok h.1.found) hub hub' h.1.puts
  handed_leaves c push again (out.Again round) hub hub' h = leaves_out c push.batch.client push (Ok h.1.found) hub hub' h.1.puts
  handed_leaves c push again (out.Busy holder) hub hub' h = leaves_out c push.batch.client push (Err h.busy) hub hub' h.puts

  -- ---- a turn, or a half of one, in which so many rounds may be new

  pub record Lasts (n : ℕ) (old new : Standing) (hub hub' : Seen S Pushed Replied) : Type 0 where
    pub later : IsLater old new
    pub rounds : batches new ≤ batches old + n
    pub leaves : Leaves old.client hub hub'

  pub lasts_both : (n : ℕ) (a b d : Standing) (hub between hub' : Seen S Pushed Replied) → Lasts 0 a b hub between → Lasts n b d between hub' → Lasts n a d hub hub'
  lasts_both n a b d hub between hub' p q = record {
    later = later_both a b d p.later q.later;
    rounds = let first = p.rounds in let second = q.rounds in omega arith;
    leaves = leaves_both a.client hub between hub' p.leaves (subst (λ (c : ℕ). Leaves c between hub') p.later.client q.leaves);
  }

  pub lasts_pulls : (old new : Standing) (p : Pull) (hub hub' : Seen S Pushed Replied) → Pulls old new p hub hub' → Lasts 0 old new hub hub'
  lasts_pulls old new p hub hub' h = record {
    later = later_joins h.got old new h.joins;
    rounds = let same = joins_batches h.got old new h.joins in omega arith;
    leaves = fetched_leaves old.client old.sent old.reply p h.got hub hub' h.fetches;
  }

  pub lasts_marked : (old new : Standing) (p : Pull) (hub hub' : Seen S Pushed Replied) → Pulls (noted Yield old) new p hub hub' → Lasts 0 old new hub hub'
  lasts_marked old new p hub hub' h = lasts_both 0 old (noted Yield old) new hub hub hub' (record {
    later = later_noted old;
    rounds = omega arith;
    leaves = leaves_same old.client hub hub refl;
  }) (lasts_pulls (noted Yield old) new p hub hub' h)

  lasts_sends : (old new : Standing) (hub hub' : Seen S Pushed Replied) → new ≡ sends old → Leaves old.client hub hub' → Lasts 1 old new hub hub'
  lasts_sends old new hub hub' is leaves = subst (λ (s : Standing). Lasts 1 old s hub hub') (sym is) (record {
    later = later_sends old.sent old;
    rounds = sends_batches old.sent old;
    leaves = leaves;
  })

  pub lasts_pushes : (old new : Standing) (q : PushOut) (hub hub' : Seen S Pushed Replied) → Pushes old new q hub hub' → Lasts 1 old new hub hub'
  lasts_pushes old new q hub hub' h = lasts_sends old new hub hub' h.goes_on (handed_leaves old.client h.push (is_some old.sent) q hub hub' h.hands)

  pub lasts_stayed : (old new : Standing) (hub hub' : Seen S Pushed Replied) → (new ≡ old) ⊎ (new ≡ sends old) → hub' ≡ hub → Lasts 1 old new hub hub'
  lasts_stayed old new hub hub' (inl same) hubs = subst (λ (s : Standing). Lasts 1 old s hub hub') (sym same) (record {
    later = later_same old;
    rounds = omega arith;
    leaves = leaves_same old.client hub hub' hubs;
  })
  lasts_stayed old new hub hub' (inr is) hubs = lasts_sends old new hub hub' is (leaves_same old.client hub hub' hubs)
