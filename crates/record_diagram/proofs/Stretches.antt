-- A stretch: its events, the pull in it, and the push behind it.
use Rattle.batch_history.specs.Right.{RightEvents}
use Rattle.cloud_base.specs.Events.{EndsAtMark, IsMark, updates_of}
use Rattle.cloud_base.specs.declared.batch.Stretch.{Stretch}
use Rattle.cloud_base.specs.declared.update.Answer.{Answer}
use Rattle.cloud_base.specs.declared.update.Event.{Event}
use Rattle.cloud_base.specs.declared.update.Query.{Query}
use Rattle.cloud_base.specs.declared.update.Update.{Update}
use Rattle.record_diagram.proofs.Draw.{leads_events, leads_idle, leads_pull, leads_then, leads_to, marked_after, put-put}
use Rattle.record_diagram.proofs.Invariant.{Status, is_mark_event, stands}
use Rattle.record_diagram.proofs.Statuses.{Leads}
use Rattle.record_diagram.specs.Steps.{Draws, events_on, pull, pull_if, run_stretch, ◌then◌}
use Rattle.revision_diagram.proofs.KeepsOnce.{put-here}
use Rattle.revision_diagram.specs.Diagram.{put}
use Rattle.std.proofs.Common.{Bool, List, None, Option, Some, [], ap, false, refl, subst, sym, true, ℕ, ◌++◌, ◌∙◌, ◌∷◌, ◌≡◌}
use Rattle.std.specs.List.{last_or}
use Rattle.std.specs.Prelude.{◌≢◌}
use Rattle.cloud_base.specs.declared.update.Event.TheVariants as event

-- one draw of c after another
pub leads_on : (is_answer : List Update → Query → Answer → Type 0) (c : ℕ) (first second : Draws) (joined joined_mid joined_then : List Update) (status : ℕ → Status) (v w : Status) → Leads is_answer first joined status joined_mid (put c v status) → Leads is_answer second joined_mid (put c v status) joined_then (put c w (put c v status)) → Leads is_answer (first then second) joined status joined_then (put c w status)
leads_on is_answer c first second joined joined_mid joined_then status v w h k =
    leads_to is_answer (first then second) joined joined_then status (put c w (put c v status)) (put c w status) (put-put c w v status)
    (leads_then is_answer first second joined joined_mid joined_then status (put c v status) (put c w (put c v status)) h k)

-- events that end at a mark leave the client at one
mark_event : (e : Event) → IsMark (Some e) → is_mark_event e ≡ true
mark_event (event.Do u) h = elim h [ ]
mark_event (event.Ask q a) h = elim h [ ]
mark_event (event.Say v) h = elim h [ ]
mark_event event.Yield h = refl
mark_event event.Flush h = refl

marked_from : (events : List Event) (last : Option Event) (marked : Bool) → (IsMark last → marked ≡ true) → IsMark (last_or last events) → marked_after marked events ≡ true
marked_from [] last marked h k = h k
marked_from (e ∷ events) last marked h k = marked_from events (Some e) (is_mark_event e) (mark_event e) k

pub marked_still : (events : List Event) → EndsAtMark events → marked_after true events ≡ true
marked_still [] h = refl
marked_still (e ∷ events) h = marked_from events (Some e) (is_mark_event e) (mark_event e) h

pub marked_some : (events : List Event) (marked : Bool) → events ≢ [] → EndsAtMark events → marked_after marked events ≡ true
marked_some [] marked some h = absurd (some refl)
marked_some (e ∷ events) marked some h = marked_from events (Some e) (is_mark_event e) (mark_event e) h

-- an opening stretch, which has nothing before a pull
pub leads_opening : (is_answer : List Update → Query → Answer → Type 0) (c : ℕ) (p : Stretch) (joined : List Update) (status : ℕ → Status) (seen own : List Update) (marked : Bool) → status c ≡ stands seen own None marked → p.before ≡ [] → RightEvents is_answer seen p.rest → Leads is_answer (run_stretch c true p) joined status joined (put c (stands (seen ++ updates_of p.rest) (own ++ updates_of p.rest) None (marked_after marked p.rest)) status)
leads_opening is_answer c p joined status seen own marked at empty right =
    let v : Status = stands (seen ++ updates_of p.rest) (own ++ updates_of p.rest) None (marked_after marked p.rest) in
    subst (λ (events : List Event). Leads is_answer ((events_on c events then pull_if false c) then events_on c p.rest) joined status joined (put c v status)) (sym empty)
    (leads_then is_answer (events_on c [] then pull_if false c) (events_on c p.rest) joined joined joined status status (put c v status)
    (leads_then is_answer (events_on c []) (pull_if false c) joined joined joined status status status (leads_idle is_answer joined status) (leads_idle is_answer joined status))
    (leads_events is_answer c p.rest joined status seen own None marked at right))

-- a stretch with a pull
pub leads_pulling : (is_answer : List Update → Query → Answer → Type 0) (c n : ℕ) (before rest : List Event) (joined : List Update) (status : ℕ → Status) (seen base : List Update) → status c ≡ stands seen [] (Some base) true → EndsAtMark before → RightEvents is_answer seen before → RightEvents is_answer (base ++ updates_of before) rest
    → Leads is_answer (run_stretch c false (record { base = Some n; before = before; rest = rest })) joined status joined (put c (stands ((base ++ updates_of before) ++ updates_of rest) (updates_of before ++ updates_of rest) None (marked_after true rest)) status)
leads_pulling is_answer c n before rest joined status seen base at ends right_before right_rest =
    let v : Status = stands (seen ++ updates_of before) (updates_of before) (Some base) (marked_after true before) in
    let w : Status = stands (base ++ updates_of before) (updates_of before) None true in
    let z : Status = stands ((base ++ updates_of before) ++ updates_of rest) (updates_of before ++ updates_of rest) None (marked_after true rest) in
    let is_v : put c v status c ≡ stands (seen ++ updates_of before) (updates_of before) (Some base) true = put-here c c v status refl ∙ ap (λ (m : Bool). stands (seen ++ updates_of before) (updates_of before) (Some base) m) (marked_still before ends) in
    leads_on is_answer c (events_on c before then pull c) (events_on c rest) joined joined joined status w z
    (leads_on is_answer c (events_on c before) (pull c) joined joined joined status v w
    (leads_events is_answer c before joined status seen [] (Some base) true at right_before)
    (leads_pull is_answer c joined (put c v status) (seen ++ updates_of before) (updates_of before) base is_v))
    (leads_events is_answer c rest joined (put c w status) (base ++ updates_of before) (updates_of before) None true (put-here c c w status refl) right_rest)

-- a stretch that receives nothing
pub leads_before : (is_answer : List Update → Query → Answer → Type 0) (c : ℕ) (opening : Bool) (before : List Event) (joined : List Update) (status : ℕ → Status) (v : Status) → Leads is_answer (events_on c before) joined status joined (put c v status) → Leads is_answer (run_stretch c opening (record { base = None; before = before; rest = [] })) joined status joined (put c v status)
leads_before is_answer c true before joined status v h =
    leads_then is_answer (events_on c before then pull_if false c) (events_on c []) joined joined joined status (put c v status) (put c v status)
    (leads_then is_answer (events_on c before) (pull_if false c) joined joined joined status (put c v status) (put c v status) h (leads_idle is_answer joined (put c v status)))
    (leads_idle is_answer joined (put c v status))
leads_before is_answer c false before joined status v h =
    leads_then is_answer (events_on c before then pull_if false c) (events_on c []) joined joined joined status (put c v status) (put c v status)
    (leads_then is_answer (events_on c before) (pull_if false c) joined joined joined status (put c v status) (put c v status) h (leads_idle is_answer joined (put c v status)))
    (leads_idle is_answer joined (put c v status))
