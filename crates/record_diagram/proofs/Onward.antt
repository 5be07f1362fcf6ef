-- The invariant at one step more, or at the two steps of a push.
use Rattle.cloud_base.specs.declared.update.Answer.{Answer}
use Rattle.cloud_base.specs.declared.update.Event.{Event}
use Rattle.cloud_base.specs.declared.update.Query.{Query}
use Rattle.cloud_base.specs.declared.update.Update.{Update}
use Rattle.record_diagram.proofs.Acts.{standing_Do, standing_silent, stands_Do}
use Rattle.record_diagram.proofs.Invariant.{Drawn, IsAt, Marked, Received, RightAt, Standing, Stands, Status, is_mark_event, noted, parted, stands}
use Rattle.record_diagram.proofs.Moves.{joinable_pulled, stands_pulled}
use Rattle.record_diagram.proofs.OneMore.{Fits, fits_Join_own, fits_event, laws_more}
use Rattle.record_diagram.proofs.Others.{IsOf, is_at_kept, marked_kept, remembers_act, stands_kept}
use Rattle.record_diagram.proofs.Whose.{not_server, of_Do, of_Join, of_act}
use Rattle.record_diagram.specs.Steps.{Drawing, event_step}
use Rattle.revision_diagram.proofs.Draws.{path-Ask, path-Mark, path-Say, revisions-Join, revisions-act}
use Rattle.revision_diagram.proofs.Frames.{untouched_Do, untouched_Join, untouched_act}
use Rattle.revision_diagram.proofs.KeepsOnce.{put-else, put-here}
use Rattle.revision_diagram.proofs.Logs.{log-Ask, log-Mark, log-Say}
use Rattle.revision_diagram.proofs.Stories.{is_marked-Mark}
use Rattle.revision_diagram.specs.Diagram.{acts_on, is_of, live, owner, put}
use Rattle.revision_diagram.specs.Untouched.{Untouched}
use Rattle.revision_diagram.specs.declared.step.Step.{Step}
use Rattle.revision_diagram.specs.declared.step.Step.TheVariants.{Ask, Join, Mark, Say}
use Rattle.std.proofs.Common.{Bool, List, None, Option, Some, [], ap, false, inl, inr, refl, subst, sym, true, ℕ, ◌++◌, ◌∙◌, ◌∷◌, ◌≡◌}
use Rattle.std.proofs.lemmas.Bool.{cases_eq, eq-eqb}
use Rattle.std.specs.Prelude.{IsTrue, ◌≢◌}
use Rattle.cloud_base.specs.declared.update.Event.TheVariants as event

pub by_client : (P : ℕ → Type 0) (c : ℕ) → P c → ((d : ℕ) → d ≢ c → P d) → (d : ℕ) → P d
by_client P c here else d = elim (cases_eq d c) [ inl same ↦ subst P (sym same) here | inr other ↦ else d other ]

pub is_at_by : (front : List Step) (c s q x y : ℕ) (v w : Status) → s ≡ x → q ≡ y → v ≡ w → IsAt front c x y w → IsAt front c s q v
is_at_by front c s q x y v w e f g h = subst (λ (a : ℕ). IsAt front c a q v) (sym e) (subst (λ (b : ℕ). IsAt front c x b v) (sym f) (subst (λ (t : Status). IsAt front c x y t) (sym g) h))

-- c's status is v from now on, s stands and q is received; the others are where they were
pub clients_after : (longer : List Step) (c s q : ℕ) (v : Status) (standing received : ℕ → ℕ) (status : ℕ → Status) → ((d : ℕ) → d ≢ c → IsAt longer d (standing d) (received d) (status d)) → IsAt longer c s q v → (d : ℕ) → IsAt longer d (put c s standing d) (put c q received d) (put c v status d)
clients_after longer c s q v standing received status others here =
    by_client (λ d. IsAt longer d (put c s standing d) (put c q received d) (put c v status d)) c
    (is_at_by longer c (put c s standing c) (put c q received c) s q (put c v status c) v (put-here c c s standing refl) (put-here c c q received refl) (put-here c c v status refl) here)
    (λ d other. is_at_by longer d (put c s standing d) (put c q received d) (standing d) (received d) (put c v status d) (status d) (put-else c d s standing other) (put-else c d q received other) (put-else c d v status other) (others d other))

pub clients_same : (longer : List Step) (c : ℕ) (v : Status) (standing received : ℕ → ℕ) (status : ℕ → Status) → ((d : ℕ) → d ≢ c → IsAt longer d (standing d) (received d) (status d)) → IsAt longer c (standing c) (received c) v → (d : ℕ) → IsAt longer d (standing d) (received d) (put c v status d)
clients_same longer c v standing received status others here =
    by_client (λ d. IsAt longer d (standing d) (received d) (put c v status d)) c
    (subst (λ (t : Status). IsAt longer c (standing c) (received c) t) (sym (put-here c c v status refl)) here)
    (λ d other. subst (λ (t : Status). IsAt longer d (standing d) (received d) t) (sym (put-else c d v status other)) (others d other))

pub others_kept : (is_answer : List Update → Query → Answer → Type 0) (front : List Step) (t : Step) (c : ℕ) (d : Drawing) (joined : List Update) (status : ℕ → Status) → Drawn is_answer front d joined status → IsOf front t c → (x : ℕ) → x ≢ c → IsAt (front ++ t ∷ []) x (d.standing x) (d.received x) (status x)
others_kept is_answer front t c d joined status h of x other = is_at_kept front t c x (d.standing x) (d.received x) (status x) of other (h.client x)

-- the client's standing revision, where its status says that it has one
pub standing_of : (is_answer : List Update → Query → Answer → Type 0) (front : List Step) (d : Drawing) (joined : List Update) (status : ℕ → Status) (c : ℕ) (seen own : List Update) (base : Option (List Update)) (marked : Bool) → Drawn is_answer front d joined status → status c ≡ stands seen own base marked → Standing front c (d.standing c) (d.received c) seen own base marked
standing_of is_answer front d joined status c seen own base marked h e = subst (λ (v : Status). IsAt front c (d.standing c) (d.received c) v) e (h.client c)

-- EVENT: a Do, Ask, Say or Mark that c does
drawn_act : (is_answer : List Update → Query → Answer → Type 0) (front : List Step) (t : Step) (d : Drawing) (joined : List Update) (status : ℕ → Status) (c s : ℕ) (v : Status) → acts_on t ≡ Some s → Fits is_answer front t → IsOf front t c → Untouched front (front ++ t ∷ []) 0 → Drawn is_answer front d joined status → IsAt (front ++ t ∷ []) c (d.standing c) (d.received c) v → Drawn is_answer (front ++ t ∷ []) d joined (put c v status)
drawn_act is_answer front t d joined status c s v acts fits of u h here = record {
  laws = laws_more is_answer front t h.laws fits;
  next = h.next ∙ sym (revisions-act front t s acts);
  server = u.live h.server;
  logs = u.log ∙ h.logs;
  client = clients_same (front ++ t ∷ []) c v d.standing d.received status (others_kept is_answer front t c d joined status h of) here;
}

-- an Ask, Say or Mark leaves every revision
left : (front : List Step) (s : ℕ) (e : Event) → noted [] e ≡ [] → (x : ℕ) → IsTrue (live front x) → Untouched front (front ++ event_step s e ∷ []) x
left front s (event.Do u) n x l = cc
left front s (event.Ask q a) n x l = untouched_act front (Ask s q a) s x refl l (path-Ask front s q a x) (log-Ask front s q a x)
left front s (event.Say v) n x l = untouched_act front (Say s v) s x refl l (path-Say front s v x) (log-Say front s v x)
left front s event.Yield n x l = untouched_act front (Mark s false) s x refl l (path-Mark front s false x) (log-Mark front s false x)
left front s event.Flush n x l = untouched_act front (Mark s true) s x refl l (path-Mark front s true x) (log-Mark front s true x)

of_event : (front : List Step) (c s : ℕ) (e : Event) → owner front s ≡ Some c → IsTrue (live front 0) → IsOf front (event_step s e) c
of_event front c s (event.Do u) mine server = of_Do front u c s mine server
of_event front c s (event.Ask q a) mine server = of_act front (Ask s q a) c s refl mine server (path-Ask front s q a) (log-Ask front s q a)
of_event front c s (event.Say v) mine server = of_act front (Say s v) c s refl mine server (path-Say front s v) (log-Say front s v)
of_event front c s event.Yield mine server = of_act front (Mark s false) c s refl mine server (path-Mark front s false) (log-Mark front s false)
of_event front c s event.Flush mine server = of_act front (Mark s true) c s refl mine server (path-Mark front s true) (log-Mark front s true)

server_left : (front : List Step) (c s : ℕ) (e : Event) → owner front s ≡ Some c → IsTrue (live front 0) → Untouched front (front ++ event_step s e ∷ []) 0
server_left front c s (event.Do u) mine server = untouched_Do front s u 0 server (λ e. not_server front c s mine (sym e))
server_left front c s (event.Ask q a) mine server = left front s (event.Ask q a) refl 0 server
server_left front c s (event.Say v) mine server = left front s (event.Say v) refl 0 server
server_left front c s event.Yield mine server = left front s event.Yield refl 0 server
server_left front c s event.Flush mine server = left front s event.Flush refl 0 server

pub acts_event : (s : ℕ) (e : Event) → acts_on (event_step s e) ≡ Some s
acts_event s (event.Do u) = refl
acts_event s (event.Ask q a) = refl
acts_event s (event.Say v) = refl
acts_event s event.Yield = refl
acts_event s event.Flush = refl

marked_by : (front : List Step) (c s : ℕ) (flush : Bool) → owner front s ≡ Some c → Marked (front ++ Mark s flush ∷ []) c
marked_by front c s flush mine = is_marked-Mark front s c flush (ap (is_of c) mine ∙ eq-eqb c c refl)

standing_event : (front : List Step) (c s q : ℕ) (e : Event) (seen own : List Update) (base : Option (List Update)) (marked : Bool) → IsTrue (live front 0) → Standing front c s q seen own base marked → Standing (front ++ event_step s e ∷ []) c s q (noted seen e) (noted own e) base (is_mark_event e)
standing_event front c s q (event.Do u) seen own base marked server h = standing_Do front c s q u seen own base marked server h
standing_event front c s q (event.Ask p a) seen own base marked server h = standing_silent front (Ask s p a) c s q seen own base marked false (left front s (event.Ask p a) refl) server (remembers_act front (Ask s p a) c s refl h.stands.owner) tt h
standing_event front c s q (event.Say v) seen own base marked server h = standing_silent front (Say s v) c s q seen own base marked false (left front s (event.Say v) refl) server (remembers_act front (Say s v) c s refl h.stands.owner) tt h
standing_event front c s q event.Yield seen own base marked server h = standing_silent front (Mark s false) c s q seen own base marked true (left front s event.Yield refl) server (remembers_act front (Mark s false) c s refl h.stands.owner) (marked_by front c s false h.stands.owner) h
standing_event front c s q event.Flush seen own base marked server h = standing_silent front (Mark s true) c s q seen own base marked true (left front s event.Flush refl) server (remembers_act front (Mark s true) c s refl h.stands.owner) (marked_by front c s true h.stands.owner) h

pub drawn_event : (is_answer : List Update → Query → Answer → Type 0) (front : List Step) (d : Drawing) (joined : List Update) (status : ℕ → Status) (c : ℕ) (e : Event) (seen own : List Update) (base : Option (List Update)) (marked : Bool) → status c ≡ stands seen own base marked → RightAt is_answer seen e → Drawn is_answer front d joined status → Drawn is_answer (front ++ event_step (d.standing c) e ∷ []) d joined (put c (stands (noted seen e) (noted own e) base (is_mark_event e)) status)
drawn_event is_answer front d joined status c e seen own base marked at right h =
    let s : ℕ = d.standing c in
    let here : Standing front c (d.standing c) (d.received c) seen own base marked = standing_of is_answer front d joined status c seen own base marked h at in
    drawn_act is_answer front (event_step s e) d joined status c s (stands (noted seen e) (noted own e) base (is_mark_event e)) (acts_event s e)
    (fits_event is_answer front c s seen own e here.stands right)
    (of_event front c s e here.stands.owner h.server)
    (server_left front c s e here.stands.owner h.server)
    h (standing_event front c s (d.received c) e seen own base marked h.server here)

-- an event on a revision that is never joined again
stands_event : (front : List Step) (c s : ℕ) (e : Event) (seen own : List Update) → Stands front c s seen own → Stands (front ++ event_step s e ∷ []) c s (noted seen e) (noted own e)
stands_event front c s (event.Do u) seen own h = stands_Do front c s u seen own h
stands_event front c s (event.Ask p a) seen own h = stands_kept front (Ask s p a) c s seen own (left front s (event.Ask p a) refl s h.live) (remembers_act front (Ask s p a) c s refl h.owner) h
stands_event front c s (event.Say v) seen own h = stands_kept front (Say s v) c s seen own (left front s (event.Say v) refl s h.live) (remembers_act front (Say s v) c s refl h.owner) h
stands_event front c s event.Yield seen own h = stands_kept front (Mark s false) c s seen own (left front s event.Yield refl s h.live) (remembers_act front (Mark s false) c s refl h.owner) h
stands_event front c s event.Flush seen own h = stands_kept front (Mark s true) c s seen own (left front s event.Flush refl s h.live) (remembers_act front (Mark s true) c s refl h.owner) h

pub drawn_event_parted : (is_answer : List Update → Query → Answer → Type 0) (front : List Step) (d : Drawing) (joined : List Update) (status : ℕ → Status) (c : ℕ) (e : Event) (seen : List Update) → status c ≡ parted seen → RightAt is_answer seen e → Drawn is_answer front d joined status → Drawn is_answer (front ++ event_step (d.standing c) e ∷ []) d joined (put c (parted (noted seen e)) status)
drawn_event_parted is_answer front d joined status c e seen at right h =
    let s : ℕ = d.standing c in
    let both : (own : List Update) × Stands front c (d.standing c) seen own = subst (λ (v : Status). IsAt front c (d.standing c) (d.received c) v) at (h.client c) in
    drawn_act is_answer front (event_step s e) d joined status c s (parted (noted seen e)) (acts_event s e)
    (fits_event is_answer front c s seen both.0 e both.1 right)
    (of_event front c s e both.1.owner h.server)
    (server_left front c s e both.1.owner h.server)
    h (noted both.0 e, stands_event front c s e seen both.0 both.1)

-- PULL: the standing revision is joined into the received one
pub drawn_pull : (is_answer : List Update → Query → Answer → Type 0) (front : List Step) (d : Drawing) (joined : List Update) (status : ℕ → Status) (c : ℕ) (seen own base : List Update) → status c ≡ stands seen own (Some base) true → Drawn is_answer front d joined status → Drawn is_answer (front ++ Join (d.received c) (d.standing c) ∷ []) (record d { standing = put c (d.received c) d.standing }) joined (put c (stands (base ++ own) own None true) status)
drawn_pull is_answer front d joined status c seen own base at h =
    let s : ℕ = d.standing c in
    let q : ℕ = d.received c in
    let t : Step = Join q s in
    let here : Standing front c (d.standing c) (d.received c) seen own (Some base) true = standing_of is_answer front d joined status c seen own (Some base) true h at in
    let r : Received front c (d.received c) base = here.awaits.received in
    let of : IsOf front (Join (d.received c) (d.standing c)) c = of_Join front c q s r.owner here.stands.owner h.server in
    let u : Untouched front (front ++ Join (d.received c) (d.standing c) ∷ []) 0 = untouched_Join front q s 0 h.server (λ e. not_server front c q r.owner (sym e)) (λ e. not_server front c s here.stands.owner (sym e)) in
    let others : (x : ℕ) → x ≢ c → IsAt (front ++ Join (d.received c) (d.standing c) ∷ []) x (d.standing x) (d.received x) (status x) = others_kept is_answer front t c d joined status h of in
    let v : Status = stands (base ++ own) own None true in
    let now : IsAt (front ++ t ∷ []) c q q v = record {
      stands = stands_pulled front c q s seen own base (λ e. here.awaits.other (sym e)) here.stands r;
      joins = joinable_pulled front c q s base h.server here.stands.owner here.joins r;
      awaits = tt;
      at_mark = marked_kept front t c true refl here.at_mark;
    } in
    record {
      laws = laws_more is_answer front t h.laws (fits_Join_own is_answer front c q s r.live r.owner here.awaits.other here.stands.live here.stands.owner here.awaits.joins here.at_mark);
      next = h.next ∙ sym (revisions-Join front q s);
      server = u.live h.server;
      logs = u.log ∙ h.logs;
      client = by_client (λ x. IsAt (front ++ t ∷ []) x (put c q d.standing x) (d.received x) (put c v status x)) c
          (is_at_by (front ++ t ∷ []) c (put c q d.standing c) (d.received c) q q (put c v status c) v (put-here c c q d.standing refl) refl (put-here c c v status refl) now)
          (λ x other. is_at_by (front ++ t ∷ []) x (put c q d.standing x) (d.received x) (d.standing x) (d.received x) (put c v status x) (status x) (put-else c x q d.standing other) refl (put-else c x v status other) (others x other));
    }
