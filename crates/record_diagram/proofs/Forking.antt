-- The invariant where a revision is forked: for a client that opens, that will pull, that pushes, and that sends.
use Rattle.cloud_base.specs.declared.update.Answer.{Answer}
use Rattle.cloud_base.specs.declared.update.Query.{Query}
use Rattle.cloud_base.specs.declared.update.Update.{Update}
use Rattle.record_diagram.proofs.Invariant.{Awaits, Drawn, IsAt, Joinable, Marked, Standing, Stands, Status, idle, parted, stands}
use Rattle.record_diagram.proofs.Moves.{joinable_Fork, joinable_opened, joinable_pushed, received_Fork, stands_Fork}
use Rattle.record_diagram.proofs.OneMore.{fits_Fork_own, fits_Fork_server, fits_Join_server, laws_more}
use Rattle.record_diagram.proofs.Onward.{by_client, is_at_by, others_kept, standing_of}
use Rattle.record_diagram.proofs.Others.{IsOf, is_at_kept, joinable_kept, marked_kept, on_by, remembers_kept, stands_kept}
use Rattle.record_diagram.proofs.Whose.{not_server, of_Fork, of_push}
use Rattle.record_diagram.specs.Steps.{Drawing}
use Rattle.revision_diagram.proofs.Draws.{live-Join, revisions-Fork, revisions-Join}
use Rattle.revision_diagram.proofs.Frames.{just_forked, untouched_Fork, untouched_Join}
use Rattle.revision_diagram.proofs.KeepsOnce.{put-else, put-here}
use Rattle.revision_diagram.proofs.Kept.{live-there}
use Rattle.revision_diagram.proofs.Logs.{log-Join}
use Rattle.revision_diagram.specs.Diagram.{live, past, path, put, revisions}
use Rattle.revision_diagram.specs.Once.{stands_on}
use Rattle.revision_diagram.specs.Right.{log}
use Rattle.revision_diagram.specs.Story.{has_seen, story}
use Rattle.revision_diagram.specs.Untouched.{JustForked, Untouched}
use Rattle.revision_diagram.specs.declared.step.Step.{Step}
use Rattle.revision_diagram.specs.declared.step.Step.TheVariants.{Fork, Join}
use Rattle.std.proofs.Common.{Bool, List, None, Option, Some, [], ap, arith, false, refl, subst, sym, true, ℕ, ◌++◌, ◌+◌, ◌<◌, ◌∙◌, ◌∷◌, ◌≡◌}
use Rattle.std.proofs.lemmas.List.{append_assoc}
use Rattle.std.specs.List.{last_or}
use Rattle.std.specs.Prelude.{IsTrue, ◌≢◌}

-- revision k is new, and stands for c
abbrev pub stood : ℕ → ℕ → Drawing → Drawing
stood c k d = record d { next = k + 1; standing = put c k d.standing }

-- revision k is new, and is received for c
abbrev pub got : ℕ → ℕ → Drawing → Drawing
got c k d = record d { next = k + 1; received = put c k d.received }

-- k stands for c with status v
pub clients_stood : (longer : List Step) (c k : ℕ) (d : Drawing) (v : Status) (status : ℕ → Status) → ((x : ℕ) → x ≢ c → IsAt longer x (d.standing x) (d.received x) (status x)) → IsAt longer c k (d.received c) v → (x : ℕ) → IsAt longer x (put c k d.standing x) (d.received x) (put c v status x)
clients_stood longer c k d v status others here =
    by_client (λ x. IsAt longer x (put c k d.standing x) (d.received x) (put c v status x)) c
    (is_at_by longer c (put c k d.standing c) (d.received c) k (d.received c) (put c v status c) v (put-here c c k d.standing refl) refl (put-here c c v status refl) here)
    (λ x other. is_at_by longer x (put c k d.standing x) (d.received x) (d.standing x) (d.received x) (put c v status x) (status x) (put-else c x k d.standing other) refl (put-else c x v status other) (others x other))

clients_got : (longer : List Step) (c k : ℕ) (d : Drawing) (v : Status) (status : ℕ → Status) → ((x : ℕ) → x ≢ c → IsAt longer x (d.standing x) (d.received x) (status x)) → IsAt longer c (d.standing c) k v → (x : ℕ) → IsAt longer x (d.standing x) (put c k d.received x) (put c v status x)
clients_got longer c k d v status others here =
    by_client (λ x. IsAt longer x (d.standing x) (put c k d.received x) (put c v status x)) c
    (is_at_by longer c (d.standing c) (put c k d.received c) (d.standing c) k (put c v status c) v refl (put-here c c k d.received refl) (put-here c c v status refl) here)
    (λ x other. is_at_by longer x (d.standing x) (put c k d.received x) (d.standing x) (d.received x) (put c v status x) (status x) refl (put-else c x k d.received other) (put-else c x v status other) (others x other))

-- OPENING: a fork of the server stands
opened : (is_answer : List Update → Query → Answer → Type 0) (front : List Step) (d : Drawing) (joined : List Update) (status : ℕ → Status) (c : ℕ) → status c ≡ idle → Drawn is_answer front d joined status → Drawn is_answer (front ++ Fork 0 c ∷ []) (stood c (revisions front) d) joined (put c (stands joined [] None false) status)
opened is_answer front d joined status c at h =
    let untold : story front c ≡ [] = subst (λ (v : Status). IsAt front c (d.standing c) (d.received c) v) at (h.client c) in
    let n : ℕ = revisions front in
    let t : Step = Fork 0 c in
    let u : Untouched front (front ++ Fork 0 c ∷ []) 0 = untouched_Fork front 0 c 0 h.server in
    let now : IsAt (front ++ Fork 0 c ∷ []) c (revisions front) (d.received c) (stands joined [] None false) = record { stands = stands_Fork front 0 c joined h.server h.logs (subst (λ (places : List ℕ). IsTrue (has_seen front 0 (last_or None places))) (sym untold) refl); joins = joinable_opened front c h.server; awaits = tt; at_mark = tt } in
    record {
      laws = laws_more is_answer front t h.laws (fits_Fork_server is_answer front c h.server);
      next = sym (revisions-Fork front 0 c);
      server = u.live h.server;
      logs = u.log ∙ h.logs;
      client = clients_stood (front ++ t ∷ []) c n d (stands joined [] None false) status (others_kept is_answer front t c d joined status h (of_Fork front 0 c h.server)) now;
    }

pub drawn_opened : (is_answer : List Update → Query → Answer → Type 0) (front : List Step) (d : Drawing) (joined : List Update) (status : ℕ → Status) (c : ℕ) → status c ≡ idle → Drawn is_answer front d joined status → Drawn is_answer (front ++ Fork 0 c ∷ []) (stood c d.next d) joined (put c (stands joined [] None false) status)
drawn_opened is_answer front d joined status c at h = subst (λ (k : ℕ). Drawn is_answer (front ++ Fork 0 c ∷ []) (stood c k d) joined (put c (stands joined [] None false) status)) (sym h.next) (opened is_answer front d joined status c at h)

-- RECEIVING: a fork of the server waits for the pull
received : (is_answer : List Update → Query → Answer → Type 0) (front : List Step) (d : Drawing) (joined : List Update) (status : ℕ → Status) (c : ℕ) (seen own : List Update) (marked : Bool) → status c ≡ stands seen own None marked → Drawn is_answer front d joined status → Drawn is_answer (front ++ Fork 0 c ∷ []) (got c (revisions front) d) joined (put c (stands seen own (Some joined) marked) status)
received is_answer front d joined status c seen own marked at h =
    let n : ℕ = revisions front in
    let s : ℕ = d.standing c in
    let t : Step = Fork 0 c in
    let here : Standing front c (d.standing c) (d.received c) seen own None marked = standing_of is_answer front d joined status c seen own None marked h at in
    let there : d.standing c < revisions front = live-there front s here.stands.live in
    let u : Untouched front (front ++ Fork 0 c ∷ []) 0 = untouched_Fork front 0 c 0 h.server in
    let w : Untouched front (front ++ Fork 0 c ∷ []) (d.standing c) = untouched_Fork front 0 c s here.stands.live in
    let wait : Awaits (front ++ Fork 0 c ∷ []) c (d.standing c) (revisions front) joined = record {
      received = received_Fork front c joined h.server h.logs;
      joins = joinable_Fork front c s h.server here.stands.live here.joins;
      other = λ e. omega arith;
    } in
    let now : IsAt (front ++ Fork 0 c ∷ []) c (d.standing c) (revisions front) (stands seen own (Some joined) marked) = record {
      stands = stands_kept front t c s seen own w (remembers_kept front t c s w refl here.stands.remembers) here.stands;
      joins = joinable_kept front (front ++ t ∷ []) 0 s w u.past (λ i k. on_by (path front 0) (path (front ++ t ∷ []) 0) i (sym u.path) k) (λ i k e. ap (λ (p : List ℕ). stands_on p i) u.path ∙ e) here.joins;
      awaits = wait;
      at_mark = marked_kept front t c marked refl here.at_mark;
    } in
    record {
      laws = laws_more is_answer front t h.laws (fits_Fork_server is_answer front c h.server);
      next = sym (revisions-Fork front 0 c);
      server = u.live h.server;
      logs = u.log ∙ h.logs;
      client = clients_got (front ++ t ∷ []) c n d (stands seen own (Some joined) marked) status (others_kept is_answer front t c d joined status h (of_Fork front 0 c h.server)) now;
    }

pub drawn_received : (is_answer : List Update → Query → Answer → Type 0) (front : List Step) (d : Drawing) (joined : List Update) (status : ℕ → Status) (c : ℕ) (seen own : List Update) (marked : Bool) → status c ≡ stands seen own None marked → Drawn is_answer front d joined status → Drawn is_answer (front ++ Fork 0 c ∷ []) (got c d.next d) joined (put c (stands seen own (Some joined) marked) status)
drawn_received is_answer front d joined status c seen own marked at h = subst (λ (k : ℕ). Drawn is_answer (front ++ Fork 0 c ∷ []) (got c k d) joined (put c (stands seen own (Some joined) marked) status)) (sym h.next) (received is_answer front d joined status c seen own marked at h)

-- SENDING: a fork of the standing revision stands, and is never joined
sent : (is_answer : List Update → Query → Answer → Type 0) (front : List Step) (d : Drawing) (joined : List Update) (status : ℕ → Status) (c : ℕ) (seen own : List Update) (base : Option (List Update)) → status c ≡ stands seen own base true → Drawn is_answer front d joined status → Drawn is_answer (front ++ Fork (d.standing c) c ∷ []) (stood c (revisions front) d) joined (put c (parted seen) status)
sent is_answer front d joined status c seen own base at h =
    let n : ℕ = revisions front in
    let s : ℕ = d.standing c in
    let t : Step = Fork s c in
    let here : Standing front c (d.standing c) (d.received c) seen own base true = standing_of is_answer front d joined status c seen own base true h at in
    let u : Untouched front (front ++ Fork (d.standing c) c ∷ []) 0 = untouched_Fork front s c 0 h.server in
    let now : IsAt (front ++ Fork (d.standing c) c ∷ []) c (revisions front) (d.received c) (parted seen) = ([], stands_Fork front s c seen here.stands.live here.stands.sees here.stands.remembers) in
    record {
      laws = laws_more is_answer front t h.laws (fits_Fork_own is_answer front c s here.stands.live here.stands.owner here.at_mark);
      next = sym (revisions-Fork front s c);
      server = u.live h.server;
      logs = u.log ∙ h.logs;
      client = clients_stood (front ++ t ∷ []) c n d (parted seen) status (others_kept is_answer front t c d joined status h (of_Fork front s c h.server)) now;
    }

pub drawn_sent : (is_answer : List Update → Query → Answer → Type 0) (front : List Step) (d : Drawing) (joined : List Update) (status : ℕ → Status) (c : ℕ) (seen own : List Update) (base : Option (List Update)) → status c ≡ stands seen own base true → Drawn is_answer front d joined status → Drawn is_answer (front ++ Fork (d.standing c) c ∷ []) (stood c d.next d) joined (put c (parted seen) status)
drawn_sent is_answer front d joined status c seen own base at h = subst (λ (k : ℕ). Drawn is_answer (front ++ Fork (d.standing c) c ∷ []) (stood c k d) joined (put c (parted seen) status)) (sym h.next) (sent is_answer front d joined status c seen own base at h)

-- PUSHING: a fork of the standing revision stands, and the old one is joined into the server
pushed : (is_answer : List Update → Query → Answer → Type 0) (front : List Step) (d : Drawing) (joined : List Update) (status : ℕ → Status) (c : ℕ) (seen own : List Update) → status c ≡ stands seen own None true → Drawn is_answer front d joined status → Drawn is_answer ((front ++ Fork (d.standing c) c ∷ []) ++ Join 0 (d.standing c) ∷ []) (stood c (revisions front) d) (joined ++ own) (put c (stands seen [] None true) status)
pushed is_answer front d joined status c seen own at h =
    let n : ℕ = revisions front in
    let s : ℕ = d.standing c in
    let t : Step = Fork s c in
    let j : Step = Join 0 s in
    let mid : List Step = front ++ Fork s c ∷ [] in
    let here : Standing front c (d.standing c) (d.received c) seen own None true = standing_of is_answer front d joined status c seen own None true h at in
    let there : d.standing c < revisions front = live-there front s here.stands.live in
    let f : JustForked front (front ++ Fork (d.standing c) c ∷ []) (d.standing c) c (revisions front) = just_forked front s c here.stands.live in
    let u : Untouched front (front ++ Fork (d.standing c) c ∷ []) 0 = untouched_Fork front s c 0 h.server in
    let w : Untouched front (front ++ Fork (d.standing c) c ∷ []) (d.standing c) = untouched_Fork front s c s here.stands.live in
    let mid_stands : Stands (front ++ Fork (d.standing c) c ∷ []) c (d.standing c) seen own = stands_kept front t c s seen own w (remembers_kept front t c s w refl here.stands.remembers) here.stands in
    let mid_joins : Joinable (front ++ Fork (d.standing c) c ∷ []) 0 (d.standing c) = joinable_kept front mid 0 s w u.past (λ i k. on_by (path front 0) (path mid 0) i (sym u.path) k) (λ i k e. ap (λ (p : List ℕ). stands_on p i) u.path ∙ e) here.joins in
    let mid_new : Stands (front ++ Fork (d.standing c) c ∷ []) c (revisions front) seen [] = stands_Fork front s c seen here.stands.live here.stands.sees here.stands.remembers in
    let mid_marked : Marked (front ++ Fork (d.standing c) c ∷ []) c = marked_kept front t c true refl here.at_mark in
    let other : revisions front ≢ d.standing c = λ e. omega arith in
    let not_zero : revisions front ≢ 0 = not_server mid c n f.owned in
    let v : Untouched (front ++ Fork (d.standing c) c ∷ []) ((front ++ Fork (d.standing c) c ∷ []) ++ Join 0 (d.standing c) ∷ []) (revisions front) = untouched_Join mid 0 s n f.is_live not_zero other in
    let of_mid : IsOf (front ++ Fork (d.standing c) c ∷ []) (Join 0 (d.standing c)) c = of_push mid c s seen own mid_stands (u.live h.server) in
    let now : IsAt ((front ++ Fork (d.standing c) c ∷ []) ++ Join 0 (d.standing c) ∷ []) c (revisions front) (d.received c) (stands seen [] None true) = record {
      stands = stands_kept mid j c n seen [] v (remembers_kept mid j c n v refl mid_new.remembers) mid_new;
      joins = joinable_pushed mid n s not_zero other f.is_live (u.live h.server) (f.has_path ∙ sym w.path) f.whole (subst (λ (i : ℕ). IsTrue (past mid s i)) (sym f.forked_at) f.knows) mid_joins;
      awaits = tt;
      at_mark = marked_kept mid j c true refl mid_marked;
    } in
    record {
      laws = laws_more is_answer mid j (laws_more is_answer front t h.laws (fits_Fork_own is_answer front c s here.stands.live here.stands.owner here.at_mark)) (fits_Join_server is_answer mid c s (u.live h.server) mid_stands.live mid_stands.owner mid_joins mid_marked);
      next = sym (revisions-Join mid 0 s ∙ revisions-Fork front s c);
      server = live-Join mid 0 s 0 ∙ put-else s 0 false (live mid) (λ e. not_server mid c s mid_stands.owner (sym e)) ∙ u.live h.server;
      logs = log-Join mid 0 s 0 ∙ ap (λ (l : List Update). log mid 0 ++ l) mid_stands.owns ∙ ap (λ (l : List Update). l ++ own) (u.log ∙ h.logs);
      client = clients_stood (mid ++ j ∷ []) c n d (stands seen [] None true) status
          (λ x not_c. is_at_kept mid j c x (d.standing x) (d.received x) (status x) of_mid not_c (others_kept is_answer front t c d joined status h (of_Fork front s c h.server) x not_c)) now;
    }

pub drawn_pushed : (is_answer : List Update → Query → Answer → Type 0) (front : List Step) (d : Drawing) (joined : List Update) (status : ℕ → Status) (c : ℕ) (seen own : List Update) → status c ≡ stands seen own None true → Drawn is_answer front d joined status → Drawn is_answer (front ++ Fork (d.standing c) c ∷ Join 0 (d.standing c) ∷ []) (stood c d.next d) (joined ++ own) (put c (stands seen [] None true) status)
drawn_pushed is_answer front d joined status c seen own at h =
    let s : ℕ = d.standing c in
    subst (λ (l : List Step). Drawn is_answer l (stood c d.next d) (joined ++ own) (put c (stands seen [] None true) status)) (append_assoc front (Fork s c ∷ []) (Join 0 s ∷ []))
    (subst (λ (k : ℕ). Drawn is_answer ((front ++ Fork (d.standing c) c ∷ []) ++ Join 0 (d.standing c) ∷ []) (stood c k d) (joined ++ own) (put c (stands seen [] None true) status)) (sym h.next) (pushed is_answer front d joined status c seen own at h))
