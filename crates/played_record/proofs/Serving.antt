-- What a serve keeps.
use Rattle.std.proofs.Common.{◌≡◌, refl, ap, sym, subst, ◌∙◌, ℕ, ◌+◌, ◌<◌, ◌≤◌, Bool, true, false, cond, List, [], ◌∷◌, ◌++◌, length, Option, Some, None, inl, inr, arith, append-nil}
use Rattle.std.specs.Prelude.{◌==◌, nat_lt, ◌≢◌, if◌then◌else◌}
use Rattle.std.specs.Option.{ForSome}
use Rattle.std.proofs.lemmas.Bool.{cases_eq, cases_lt, eq-eqb, ne_eqb, le-ltb, lt-ltb}
use Rattle.std.proofs.lemmas.List.{length-append}
use Rattle.cloud_base.specs.declared.batch.Batch.{Batch}
use Rattle.cloud_base.specs.declared.batch.Tail.{Tail}
use Rattle.cloud_base.specs.declared.schedule.Fate.{Fate}
use Rattle.cloud_base.specs.declared.schedule.Fate.TheVariants as fate
use Rattle.batch_history.specs.Batches.{of_client, unjoined, did_by}
use Rattle.batch_history.proofs.Clients.{of_client-last, of_client-other}
use Rattle.played_record.specs.Clients.{Client, Reply, own_batches}
use Rattle.played_record.specs.Worlds.{World, with_client, did, last_round, joined, reply_to, put_in, passes, fares, releases, copy_of, holds, emptied, handled, served_out, served}
use Rattle.played_record.specs.Laws.{IsClientOf, Joins}
use Rattle.played_record.proofs.Only.{client-here, client-else}
use Rattle.played_record.proofs.Told.{did_parts, run_in}

-- the record, once the outstanding batch of client c is joined, if it is
abbrev pub with_sent : ℕ → List Batch → Option Batch → List Batch
with_sent c batches sent = batches ++ unjoined (of_client c batches) sent

-- whether the record has it or not, and what it tells of client c and of others
pub record Joined (c : ℕ) (batches : List Batch) (sent : Option Batch) : Type 0 where
  pub mine : of_client c (with_sent c batches sent) ≡ of_client c batches ++ unjoined (of_client c batches) sent
  pub none : unjoined (of_client c batches ++ unjoined (of_client c batches) sent) sent ≡ []
  pub others : (k : ℕ) → k ≢ c → of_client k (with_sent c batches sent) ≡ of_client k batches

nothing_joins : (c : ℕ) (batches : List Batch) (sent : Option Batch) → unjoined (of_client c batches) sent ≡ [] → Joined c batches sent
nothing_joins c batches sent none =
    let same : with_sent c batches sent ≡ batches = ap (λ (l : List Batch). batches ++ l) none ∙ append-nil batches in
    let own : of_client c batches ++ unjoined (of_client c batches) sent ≡ of_client c batches = ap (λ (l : List Batch). of_client c batches ++ l) none ∙ append-nil (of_client c batches) in
    record {
      mine = ap (of_client c) same ∙ sym own;
      none = ap (λ (l : List Batch). unjoined l sent) own ∙ none;
      others = λ k other. ap (of_client k) same;
    }

one_joins : (c : ℕ) (batches : List Batch) (b : Batch) → b.client ≡ c → b.round ≡ length (of_client c batches) + 1 → Joined c batches (Some b)
one_joins c batches b mine round =
    let own = of_client c batches in
    let next : unjoined own (Some b) ≡ b ∷ [] = ap (λ (t : Bool). cond t (b ∷ []) []) (eq-eqb b.round (length own + 1) round) in
    let longer : length (own ++ b ∷ []) ≡ length own + 1 = length-append own (b ∷ []) in
    let whole : with_sent c batches (Some b) ≡ batches ++ b ∷ [] = ap (λ (l : List Batch). batches ++ l) next in
    let last : of_client c (batches ++ b ∷ []) ≡ own ++ b ∷ [] = subst (λ (k : ℕ). of_client k (batches ++ b ∷ []) ≡ of_client k batches ++ b ∷ []) mine (of_client-last batches b) in
    record {
      mine = ap (of_client c) whole ∙ last ∙ ap (λ (l : List Batch). own ++ l) (sym next);
      none = ap (λ (l : List Batch). unjoined (own ++ l) (Some b)) next ∙ ap (λ (t : Bool). cond t (b ∷ []) []) (ne_eqb b.round (length (own ++ b ∷ []) + 1) (λ e. omega arith));
      others = λ k other. ap (of_client k) whole ∙ of_client-other k batches b (λ e. other (sym e ∙ mine));
    }

pub joins : (c : ℕ) (batches : List Batch) (sent : Option Batch) → ForSome sent (λ (b : Batch). b.client ≡ c) → Joined c batches sent
joins c batches None own = nothing_joins c batches None refl
joins c batches (Some b) own = elim (cases_eq b.round (length (of_client c batches) + 1)) [
  | inl next ↦ one_joins c batches b (own b refl) next
  | inr there ↦ nothing_joins c batches (Some b) (ap (λ (t : Bool). cond t (b ∷ []) []) (ne_eqb b.round (length (of_client c batches) + 1) there))
]

-- ---- one part and all

-- what holds of client c's new part and of all others before, holds of all
pub at_client : (P : ℕ → Client → Type 0) (c : ℕ) (x : Client) (w : World) → P c x → ((k : ℕ) → P k (w.client k)) → (k : ℕ) → P k ((with_client c x w).client k)
at_client P c x w here all k = elim (cases_eq k c) [
  | inl e ↦ subst (λ (y : Client). P k y) (sym (ap (λ (t : Bool). if t then x else w.client k) (eq-eqb k c e))) (subst (λ (j : ℕ). P j x) (sym e) here)
  | inr other ↦ subst (λ (y : Client). P k y) (sym (client-else c k x w other)) (all k)
]

-- a part behind a longer record, which tells the same of its client's batches
rebased : (k : ℕ) (batches batches' : List Batch) (x : Client) → own_batches k batches' x.tail ≡ own_batches k batches x.tail
    → length (of_client k batches) ≤ length (of_client k batches') → IsClientOf k batches x → IsClientOf k batches' x
rebased k batches batches' x same longer h =
    let still : length (own_batches k batches' x.tail) ≡ length (own_batches k batches x.tail) = ap (λ (bs : List Batch). length bs) same in
    record {
      own = h.own;
      round = λ b e. h.round b e ∙ sym still;
      waits = h.waits;
      unpulled = h.unpulled;
      out = λ n e. let l = h.out n e in omega arith;
      held = λ n e. let l = h.held n e in omega arith;
      inbox = λ reply e. let l = h.inbox reply e in omega arith;
      apart = h.apart;
      quiet = h.quiet;
      flush = h.flush;
    }

did_same : (k : ℕ) (batches batches' : List Batch) (tail : Tail) → own_batches k batches' tail ≡ own_batches k batches tail → did_by batches' k (Some tail) ≡ did_by batches k (Some tail)
did_same k batches batches' tail same =
    did_parts k batches' tail ∙ ap (λ (bs : List Batch). run_in bs ++ (tail.now.before ++ tail.now.rest)) same ∙ sym (did_parts k batches tail)

-- ---- a push is taken

-- while client c is served: its outbox is empty, and a push is outstanding
record IsServing (c : ℕ) (w : World) : Type 0 where
  clients : (k : ℕ) → IsClientOf k w.batches (w.client k)
  batch : Batch
  sent : (w.client c).tail.sent ≡ Some batch
  out : (w.client c).out ≡ None

abbrev own_in : ℕ → World → List Batch
own_in c w = own_batches c w.batches (w.client c).tail

abbrev sent_in : ℕ → World → Option Batch
sent_in c w = (w.client c).tail.sent

-- and so on, with the same batches and events; the record is longer by the outstanding batch at most
record Kept (c : ℕ) (w v : World) : Type 0 where
  serving : IsServing c v
  own : own_in c v ≡ own_in c w
  sent : sent_in c v ≡ sent_in c w
  longer : Joins c (w.client c).tail.sent w.batches v.batches
  did : (k : ℕ) → did k v ≡ did k w

joins_then : (c : ℕ) (sent : Option Batch) (xs ys zs : List Batch) → Joined c xs sent → Joins c sent xs ys → Joins c sent ys zs → Joins c sent xs zs
joins_then c sent xs ys zs j (inl same) last = subst (λ (l : List Batch). Joins c sent l zs) same last
joins_then c sent xs ys zs j (inr more) (inl same) = inr (same ∙ more)
joins_then c sent xs ys zs j (inr more) (inr again) =
    let none : unjoined (of_client c ys) sent ≡ [] = ap (λ (l : List Batch). unjoined (of_client c l) sent) more ∙ ap (λ (l : List Batch). unjoined l sent) j.mine ∙ j.none in
    inr (again ∙ ap (λ (l : List Batch). ys ++ l) none ∙ append-nil ys ∙ more)

kept_then : (c : ℕ) (w v u : World) → IsServing c w → Kept c w v → Kept c v u → Kept c w u
kept_then c w v u h first second = record {
  serving = second.serving;
  own = second.own ∙ first.own;
  sent = second.sent ∙ first.sent;
  longer = joins_then c (sent_in c w) w.batches v.batches u.batches (joins c w.batches (sent_in c w) (h.clients c).own) first.longer
      (subst (λ (sent : Option Batch). Joins c sent v.batches u.batches) first.sent second.longer);
  did = λ k. second.did k ∙ first.did k;
}

kept_same : (c : ℕ) (w : World) → IsServing c w → Kept c w w
kept_same c w h = record { serving = h; own = refl; sent = refl; longer = inl refl; did = λ k. refl }

abbrev with_batches : World → List Batch → World
with_batches w batches = record w { batches = batches }

longer_kept : (c : ℕ) (w : World) → IsServing c w → Kept c w (with_batches w (with_sent c w.batches (w.client c).tail.sent))
longer_kept c w h =
    let sent = (w.client c).tail.sent in
    let batches = w.batches in
    let j = joins c batches sent (h.clients c).own in
    let own : own_batches c (with_sent c batches sent) (w.client c).tail ≡ own_batches c batches (w.client c).tail =
    ap (λ (l : List Batch). l ++ unjoined l sent) j.mine
    ∙ ap (λ (l : List Batch). (of_client c batches ++ unjoined (of_client c batches) sent) ++ l) j.none
    ∙ append-nil (of_client c batches ++ unjoined (of_client c batches) sent) in
    let longer : length (of_client c batches) ≤ length (of_client c (with_sent c batches sent)) =
    omega (arith, ap (λ (l : List Batch). length l) j.mine ∙ length-append (of_client c batches) (unjoined (of_client c batches) sent)) in
    let each : (k : ℕ) → (own_batches k (with_sent c batches sent) (w.client k).tail ≡ own_batches k batches (w.client k).tail)
    × (length (of_client k batches) ≤ length (of_client k (with_sent c batches sent))) =
    λ k. elim (cases_eq k c) [
      | inl e ↦ subst (λ (j : ℕ). (own_batches j (with_sent c batches sent) (w.client j).tail ≡ own_batches j batches (w.client j).tail)
          × (length (of_client j batches) ≤ length (of_client j (with_sent c batches sent)))) (sym e) (own, longer)
      | inr other ↦ let same = j.others k other in
          (ap (λ (l : List Batch). l ++ unjoined l (w.client k).tail.sent) same, omega (arith, ap (λ (l : List Batch). length l) same))
    ] in
    record {
      serving = record {
        clients = λ k. rebased k batches (with_sent c batches sent) (w.client k) (each k).0 (each k).1 (h.clients k);
        batch = h.batch;
        sent = h.sent;
        out = h.out;
      };
      own = own;
      sent = refl;
      longer = inr refl;
      did = λ k. did_same k batches (with_sent c batches sent) (w.client k).tail (each k).0;
    }

few : (t : Bool) (b : Batch) → length (cond t (b ∷ []) []) ≤ 1
few true b = omega arith
few false b = omega arith

few_sent : (own : List Batch) (sent : Option Batch) → length (unjoined own sent) ≤ 1
few_sent own None = omega arith
few_sent own (Some b) = few (b.round == length own + 1) b

-- it is joined, if it is the next one; and the record has this round then
record Taken (c round : ℕ) (w v : World) : Type 0 where
  kept : Kept c w v
  there : round ≤ length (of_client c v.batches)

joined_taken : (c round : ℕ) (w : World) → IsServing c w → round ≤ length (own_in c w) → Taken c round w (joined c round w)
joined_taken c round w h l =
    let own = of_client c w.batches in
    let sent = (w.client c).tail.sent in
    let all : length (own_in c w) ≡ length own + length (unjoined own sent) = length-append own (unjoined own sent) in
    let one = few_sent own sent in
    let made : Bool → World = λ t. with_batches w (if t then w.batches ++ unjoined own sent else w.batches) in
    elim (cases_eq round (last_round c w.batches + 1)) [
      | inl next ↦
          let j = joins c w.batches sent (h.clients c).own in
          let whole : length (of_client c (with_sent c w.batches sent)) ≡ length (own_in c w) = ap (λ (bs : List Batch). length bs) j.mine in
          subst (λ (t : Bool). Taken c round w (made t)) (sym (eq-eqb round (last_round c w.batches + 1) next))
          (record { kept = longer_kept c w h; there = omega arith })
      | inr other ↦
          let below : round ≢ length own + 1 = other in
          subst (λ (t : Bool). Taken c round w (made t)) (sym (ne_eqb round (last_round c w.batches + 1) other))
          (record { kept = kept_same c w h; there = omega arith })
    ]

-- ---- its reply

tails_same : (c : ℕ) (x : Client) (w : World) → x.tail ≡ (w.client c).tail → (k : ℕ) → ((with_client c x w).client k).tail ≡ (w.client k).tail
tails_same c x w same = at_client (λ (k : ℕ) (y : Client). y.tail ≡ (w.client k).tail) c x w same (λ k. refl)

-- a change of client c's boxes
changed_kept : (c : ℕ) (x : Client) (w : World) → IsServing c w → IsClientOf c w.batches x → x.tail ≡ (w.client c).tail → x.out ≡ None → Kept c w (with_client c x w)
changed_kept c x w h part tail out =
    let here = client-here c x w in
    let tails = tails_same c x w tail in
    record {
      serving = record {
        clients = at_client (λ (k : ℕ) (y : Client). IsClientOf k w.batches y) c x w part h.clients;
        batch = h.batch;
        sent = ap (λ (t : Tail). t.sent) (tails c) ∙ h.sent;
        out = ap (λ (y : Client). y.out) here ∙ out;
      };
      own = ap (λ (t : Tail). own_batches c w.batches t) (tails c);
      sent = ap (λ (t : Tail). t.sent) (tails c);
      longer = inl refl;
      did = λ k. ap (λ (t : Tail). did_by w.batches k (Some t)) (tails k);
    }

-- a reply is of the round that was taken
replied : (late : Bool) (round base most : ℕ) → round ≤ most → ForSome (if late then None else Some (record { round = round; base = base })) (λ (r : Reply). r.round ≤ most)
replied true round base most l r e = absurd (cc (e))
replied false round base most l r e = let same : round ≡ r.round = cc (e) in omega arith

put_in_kept : (c : ℕ) (reply : Option Reply) (w : World) → IsServing c w → ForSome reply (λ (r : Reply). r.round ≤ length (of_client c w.batches)) → Kept c w (put_in c reply w)
put_in_kept c None w h l = kept_same c w h
put_in_kept c (Some reply) w h l =
    let x = record (w.client c) { inbox = Some reply } in
    let old = h.clients c in
    let part : IsClientOf c w.batches x = record {
      own = old.own;
      round = old.round;
      waits = old.waits;
      unpulled = old.unpulled;
      out = old.out;
      held = old.held;
      inbox = λ r e. let same : reply ≡ r = cc (e) in subst (λ (r : Reply). r.round ≤ length (of_client c w.batches)) same (l reply refl);
      apart = inl h.out;
      quiet = λ e. absurd (cc (h.sent, e));
      flush = old.flush;
    } in
    changed_kept c x w h part refl h.out

passes_kept : (c round : ℕ) (w : World) → IsServing c w → round ≤ length (own_in c w) → Kept c w (passes c round w)
passes_kept c round w h l =
    let first = joined_taken c round w h l in
    let v = joined c round w in
    kept_then c w v (passes c round w) h first.kept (put_in_kept c (reply_to c round w) v first.kept.serving (replied (nat_lt round (last_round c w.batches)) round (length v.batches) (length (of_client c v.batches)) first.there))

-- ---- fates

fares_kept : (fate : Fate) (c round : ℕ) (w : World) → IsServing c w → round ≤ length (own_in c w) → Kept c w (fares fate c round w)
fares_kept fate.Pass c round w h l = passes_kept c round w h l
fares_kept fate.LosePush c round w h l = kept_same c w h
fares_kept fate.LoseReply c round w h l = (joined_taken c round w h l).kept
fares_kept fate.Twice c round w h l =
    let first = passes_kept c round w h l in
    let v = passes c round w in
    kept_then c w v (passes c round v) h first
    (passes_kept c round v first.serving (omega (arith, ap (λ (bs : List Batch). length bs) first.own)))
fares_kept fate.Hold c round w h l = passes_kept c round w h l

releases_kept : (c : ℕ) (held : Option ℕ) (w : World) → IsServing c w → ForSome held (λ (round : ℕ). round ≤ length (own_in c w)) → Kept c w (releases c held w)
releases_kept c None w h l = kept_same c w h
releases_kept c (Some round) w h l = passes_kept c round w h (l round refl)

copied : (fate : Fate) (round most : ℕ) → round ≤ most → ForSome (copy_of fate round) (λ (n : ℕ). n ≤ most)
copied fate.Pass round most l n e = absurd (cc (e))
copied fate.LosePush round most l n e = absurd (cc (e))
copied fate.LoseReply round most l n e = absurd (cc (e))
copied fate.Twice round most l n e = absurd (cc (e))
copied fate.Hold round most l n e = let same : round ≡ n = cc (e) in omega arith

holds_kept : (c : ℕ) (copy : Option ℕ) (w : World) → IsServing c w → ForSome copy (λ (round : ℕ). round ≤ length (own_in c w)) → Kept c w (holds c copy w)
holds_kept c copy w h l =
    let old = h.clients c in
    let part : IsClientOf c w.batches (record (w.client c) { held = copy }) = record {
      own = old.own;
      round = old.round;
      waits = old.waits;
      unpulled = old.unpulled;
      out = old.out;
      held = l;
      inbox = old.inbox;
      apart = old.apart;
      quiet = old.quiet;
      flush = old.flush;
    } in
    changed_kept c (record (w.client c) { held = copy }) w h part refl h.out

sent_there : (sent : Option Batch) (out : Option ℕ) (round : ℕ) → (sent ≡ None → (out ≡ None)) → out ≡ Some round → (b : Batch) × (sent ≡ Some b)
sent_there None out round quiet is = absurd (cc (quiet refl, is))
sent_there (Some b) out round quiet is = (b, refl)

-- a push was taken out of the outbox
emptied_serves : (c round : ℕ) (w : World) → ((k : ℕ) → IsClientOf k w.batches (w.client k)) → (w.client c).out ≡ Some round → IsServing c (emptied c w)
emptied_serves c round w h is =
    let old = h c in
    let x = record (w.client c) { out = None } in
    let there = sent_there (w.client c).tail.sent (w.client c).out round (λ e. (old.quiet e).0) is in
    let part : IsClientOf c w.batches x = record {
      own = old.own;
      round = old.round;
      waits = old.waits;
      unpulled = old.unpulled;
      out = λ n e. absurd (cc (e));
      held = old.held;
      inbox = old.inbox;
      apart = inl refl;
      quiet = λ e. absurd (cc (there.1, e));
      flush = old.flush;
    } in
    let here = client-here c x w in
    record {
      clients = at_client (λ (k : ℕ) (y : Client). IsClientOf k w.batches y) c x w part h;
      batch = there.0;
      sent = ap (λ (y : Client). y.tail.sent) here ∙ there.1;
      out = ap (λ (y : Client). y.out) here;
    }

-- what a serve keeps of all clients
pub record ServeKeeps (c : ℕ) (w v : World) : Type 0 where
  pub longer : Joins c (w.client c).tail.sent w.batches v.batches
  pub clients : (k : ℕ) → IsClientOf k v.batches (v.client k)
  pub did : (k : ℕ) → did k v ≡ did k w

handled_keeps : (c : ℕ) (fate : Fate) (round : ℕ) (w : World) → ((k : ℕ) → IsClientOf k w.batches (w.client k)) → (w.client c).out ≡ Some round → ServeKeeps c w (handled c fate round w)
handled_keeps c fate round w h is =
    let u = emptied c w in
    let tails = tails_same c (record (w.client c) { out = None }) w refl in
    let empty = emptied_serves c round w h is in
    let own : length (own_in c u) ≡ length (own_in c w) = ap (λ (t : Tail). length (own_batches c w.batches t)) (tails c) in
    let below = (h c).out round is in
    let first = fares_kept fate c round u empty (omega arith) in
    let v = fares fate c round u in
    let same : length (own_in c v) ≡ length (own_in c u) = ap (λ (bs : List Batch). length bs) first.own in
    let second = releases_kept c (w.client c).held v first.serving (λ n e. let l = (h c).held n e in omega arith) in
    let y = releases c (w.client c).held v in
    let again : length (own_in c y) ≡ length (own_in c v) = ap (λ (bs : List Batch). length bs) second.own in
    let third = holds_kept c (copy_of fate round) y second.serving (copied fate round (length (own_in c y)) (omega arith)) in
    let whole = kept_then c u v (holds c (copy_of fate round) y) empty first
    (kept_then c v y (holds c (copy_of fate round) y) first.serving second third) in
    record {
      longer = subst (λ (sent : Option Batch). Joins c sent w.batches (handled c fate round w).batches) (ap (λ (t : Tail). t.sent) (tails c)) whole.longer;
      clients = third.serving.clients;
      did = λ k. third.did k ∙ second.did k ∙ first.did k ∙ ap (λ (t : Tail). did_by w.batches k (Some t)) (tails k);
    }

served_by : (c : ℕ) (fate : Fate) (out : Option ℕ) (w : World) → ((k : ℕ) → IsClientOf k w.batches (w.client k)) → (w.client c).out ≡ out → ServeKeeps c w (served_out c fate out w)
served_by c fate None w h is = record { longer = inl refl; clients = h; did = λ k. refl }
served_by c fate (Some round) w h is = handled_keeps c fate round w h is

pub served_keeps : (c : ℕ) (fate : Fate) (w : World) → ((k : ℕ) → IsClientOf k w.batches (w.client k)) → ServeKeeps c w (served c fate w)
served_keeps c fate w h = served_by c fate (w.client c).out w h refl

-- ---- a push that passes is answered

-- a reply to this round lies in the inbox
pub record IsAnswered (c round : ℕ) (w : World) : Type 0 where
  pub reply : Reply
  pub lies : (w.client c).inbox ≡ Some reply
  pub same : reply.round ≡ round

put_in_answers : (c round base : ℕ) (w : World) → IsAnswered c round (put_in c (Some (record { round = round; base = base })) w)
put_in_answers c round base w =
    let reply : Reply = record { round = round; base = base } in
    record { reply = reply; lies = ap (λ (x : Client). x.inbox) (client-here c (record (w.client c) { inbox = Some reply }) w); same = refl }

-- where the round isn't below the last
passes_answers : (c round : ℕ) (w : World) → last_round c w.batches ≤ round → IsAnswered c round (passes c round w)
passes_answers c round w l =
    let v = joined c round w in
    let made : Bool → World = λ late. put_in c (if late then None else Some (record { round = round; base = length v.batches })) v in
    subst (λ (late : Bool). IsAnswered c round (made late)) (sym (le-ltb round (last_round c w.batches) l)) (put_in_answers c round (length v.batches) v)

-- and otherwise the inbox stays
passes_late : (c round : ℕ) (w : World) → round < last_round c w.batches → ((passes c round w).client c).inbox ≡ (w.client c).inbox
passes_late c round w l =
    let v = joined c round w in
    let made : Bool → World = λ late. put_in c (if late then None else Some (record { round = round; base = length v.batches })) v in
    ap (λ (late : Bool). ((made late).client c).inbox) (lt-ltb round (last_round c w.batches) l)

-- a held copy is of that round too, or is late
releases_answers : (c round : ℕ) (held : Option ℕ) (w : World) → IsAnswered c round w → ForSome held (λ (n : ℕ). n ≤ round) → round ≤ last_round c w.batches
    → IsAnswered c round (releases c held w)
releases_answers c round None w a l there = a
releases_answers c round (Some n) w a l there = elim (cases_lt n (last_round c w.batches)) [
  | inl late ↦ record { reply = a.reply; lies = passes_late c n w late ∙ a.lies; same = a.same }
  | inr next ↦
      let below = l n refl in
      let number : n ≡ round = omega arith in
      subst (λ (k : ℕ). IsAnswered c k (passes c n w)) number (passes_answers c n w next)
]

put_in_batches : (c : ℕ) (reply : Option Reply) (w : World) → (put_in c reply w).batches ≡ w.batches
put_in_batches c None w = refl
put_in_batches c (Some reply) w = refl

handled_answers : (c round : ℕ) (w : World) → ((k : ℕ) → IsClientOf k w.batches (w.client k)) → (w.client c).out ≡ Some round → round ≡ length (own_in c w)
    → IsAnswered c round (handled c fate.Pass round w)
handled_answers c round w h is whole =
    let u = emptied c w in
    let tails = tails_same c (record (w.client c) { out = None }) w refl in
    let empty = emptied_serves c round w h is in
    let own : length (own_in c u) ≡ length (own_in c w) = ap (λ (t : Tail). length (own_batches c w.batches t)) (tails c) in
    let taken = joined_taken c round u empty (omega arith) in
    let v = passes c round u in
    let parts : length (own_in c u) ≡ length (of_client c u.batches) + length (unjoined (of_client c u.batches) (sent_in c u)) =
    length-append (of_client c u.batches) (unjoined (of_client c u.batches) (sent_in c u)) in
    let passed = passes_answers c round u (omega arith) in
    let there : round ≤ last_round c v.batches = subst (λ (bs : List Batch). round ≤ length (of_client c bs)) (sym (put_in_batches c (reply_to c round u) (joined c round u))) taken.there in
    let released = releases_answers c round (w.client c).held v passed (λ n e. let l = (h c).held n e in omega arith) there in
    let y = releases c (w.client c).held v in
    record { reply = released.reply; lies = ap (λ (x : Client). x.inbox) (client-here c (record (y.client c) { held = None }) y) ∙ released.lies; same = released.same }

-- the outstanding push lies in the outbox: a serve puts its reply into the inbox
pub pass_answers : (c : ℕ) (b : Batch) (w : World) → ((k : ℕ) → IsClientOf k w.batches (w.client k)) → (w.client c).tail.sent ≡ Some b → (w.client c).out ≡ Some b.round
    → IsAnswered c b.round (served c fate.Pass w)
pass_answers c b w h sent is =
    subst (λ (out : Option ℕ). IsAnswered c b.round (served_out c fate.Pass out w)) (sym is) (handled_answers c b.round w h is ((h c).round b sent))

-- a record with the outstanding batch of client c tells the same of each client's own batches
pub own_longer : (c : ℕ) (sent : Option Batch) (batches batches' : List Batch) → ForSome sent (λ (b : Batch). b.client ≡ c) → Joins c sent batches batches'
    → (k : ℕ) (tail : Tail) → (k ≡ c → tail.sent ≡ sent) → own_batches k batches' tail ≡ own_batches k batches tail
own_longer c sent batches batches' own (inl same) k tail here = ap (λ (bs : List Batch). own_batches k bs tail) same
own_longer c sent batches batches' own (inr more) k tail here =
    let j = joins c batches sent own in
    ap (λ (bs : List Batch). own_batches k bs tail) more ∙ elim (cases_eq k c) [
      | inl e ↦
          ap (λ (o : Option Batch). of_client k (with_sent c batches sent) ++ unjoined (of_client k (with_sent c batches sent)) o) (here e)
          ∙ ap (λ (n : ℕ). of_client n (with_sent c batches sent) ++ unjoined (of_client n (with_sent c batches sent)) sent) e
          ∙ ap (λ (l : List Batch). l ++ unjoined l sent) j.mine
          ∙ ap (λ (l : List Batch). (of_client c batches ++ unjoined (of_client c batches) sent) ++ l) j.none
          ∙ append-nil (of_client c batches ++ unjoined (of_client c batches) sent)
          ∙ sym (ap (λ (n : ℕ). of_client n batches ++ unjoined (of_client n batches) sent) e)
          ∙ sym (ap (λ (o : Option Batch). of_client k batches ++ unjoined (of_client k batches) o) (here e))
      | inr other ↦ ap (λ (l : List Batch). l ++ unjoined l tail.sent) (j.others k other)
    ]

-- a serve leaves each client its own batches
pub own_served : (c : ℕ) (fate : Fate) (w : World) → ((k : ℕ) → IsClientOf k w.batches (w.client k)) → (k : ℕ)
    → own_batches k (served c fate w).batches (w.client k).tail ≡ own_batches k w.batches (w.client k).tail
own_served c fate w h k = own_longer c (w.client c).tail.sent w.batches (served c fate w).batches (h c).own (served_keeps c fate w h).longer k (w.client k).tail
    (λ e. ap (λ (j : ℕ). (w.client j).tail.sent) e)
