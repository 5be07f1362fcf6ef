-- A step of one client leaves every other one where it is.
use Rattle.cloud_base.specs.declared.update.Update.{Update}
use Rattle.record_diagram.proofs.Invariant.{AwaitsIf, IsAt, Joinable, MarkedIf, Received, Remembers, Standing, Stands, Status, idle, own_part, parted, shared_part, stands}
use Rattle.revision_diagram.proofs.Draws.{past-act}
use Rattle.revision_diagram.proofs.Frames.{client_at-kept}
use Rattle.revision_diagram.proofs.KeepsOnce.{put-here}
use Rattle.revision_diagram.proofs.Stories.{is_marked-kept, last_story-told, story-untold}
use Rattle.revision_diagram.specs.Diagram.{acts_on, fork, fork_length, is_of, live, owner, past, path, with_place}
use Rattle.revision_diagram.specs.Meeting.{client_at}
use Rattle.revision_diagram.specs.Once.{stands_on}
use Rattle.revision_diagram.specs.Right.{log}
use Rattle.revision_diagram.specs.Story.{has_seen, is_act_of, is_told, story}
use Rattle.revision_diagram.specs.Untouched.{Untouched}
use Rattle.revision_diagram.specs.declared.step.Step.{Step}
use Rattle.std.proofs.Common.{Bool, List, None, Option, Some, [], ap, drop, false, inl, inr, length, refl, subst, sym, take, true, ℕ, ◌++◌, ◌∙◌, ◌∷◌, ◌≡◌, ◌⊎◌}
use Rattle.std.proofs.lemmas.Bool.{cases_Bool, eq-eqb, false≢true, or_right}
use Rattle.std.specs.List.{last_or}
use Rattle.std.specs.Prelude.{IsTrue, ◌==◌, ◌≢◌}

pub shared_kept : (front longer : List Step) (x : ℕ) → Untouched front longer x → shared_part longer x ≡ shared_part front x
shared_kept front longer x u = ap (λ (n : ℕ). take n (path longer x)) u.fork_length ∙ ap (take (fork_length front x)) u.path

pub own_kept : (front longer : List Step) (x : ℕ) → Untouched front longer x → own_part longer x ≡ own_part front x
own_kept front longer x u = ap (λ (n : ℕ). drop n (path longer x)) u.fork_length ∙ ap (drop (fork_length front x)) u.path

-- a place on an equal list
pub on_by : (xs ys : List ℕ) (i : ℕ) → xs ≡ ys → IsTrue (stands_on xs i) → IsTrue (stands_on ys i)
on_by xs ys i e h = subst (λ (t : List ℕ). IsTrue (stands_on t i)) e h

seen_moved : (front longer : List Step) (x r : ℕ) (last : Option ℕ) → ((i : ℕ) → IsTrue (past front x i) → IsTrue (past longer r i)) → IsTrue (has_seen front x last) → IsTrue (has_seen longer r last)
seen_moved front longer x r None pasts h = refl
seen_moved front longer x r (Some i) pasts h = pasts i h

-- where c does nothing, r still knows what x knew
pub remembers_in : (front : List Step) (t : Step) (c x r : ℕ) → is_told c front t ≡ false → ((i : ℕ) → IsTrue (past front x i) → IsTrue (past (front ++ t ∷ []) r i)) → Remembers front c x → Remembers (front ++ t ∷ []) c r
remembers_in front t c x r untold pasts h =
    subst (λ (places : List ℕ). IsTrue (has_seen (front ++ t ∷ []) r (last_or None places))) (sym (story-untold front t c untold))
    (seen_moved front (front ++ t ∷ []) x r (last_or None (story front c)) pasts h)

pub remembers_kept : (front : List Step) (t : Step) (c s : ℕ) → Untouched front (front ++ t ∷ []) s → is_told c front t ≡ false → Remembers front c s → Remembers (front ++ t ∷ []) c s
remembers_kept front t c s u untold h = remembers_in front t c s s untold u.past h

-- what c does on s is in the past of s
pub remembers_act : (front : List Step) (t : Step) (c s : ℕ) → acts_on t ≡ Some s → owner front s ≡ Some c → Remembers (front ++ t ∷ []) c s
remembers_act front t c s acts mine =
    let told : is_told c front t ≡ true = ap (is_act_of c front) acts ∙ ap (is_of c) mine ∙ eq-eqb c c refl in
    let more : ℕ → Bool = with_place (past front s) (length front) in
    subst (λ (o : Option ℕ). IsTrue (has_seen (front ++ t ∷ []) s o)) (sym (last_story-told front t c told))
    (past-act front t s s (length front) acts ∙ ap (λ (p : ℕ → Bool). p (length front)) (put-here s s more (past front) refl) ∙ or_right (past front s (length front)) (length front == length front) (eq-eqb (length front) (length front) refl))

pub stands_kept : (front : List Step) (t : Step) (c s : ℕ) (seen own : List Update) → Untouched front (front ++ t ∷ []) s → Remembers (front ++ t ∷ []) c s → Stands front c s seen own → Stands (front ++ t ∷ []) c s seen own
stands_kept front t c s seen own u r h =
    let longer : List Step = front ++ t ∷ [] in
    record {
      live = u.live h.live;
      owner = u.owner ∙ h.owner;
      sees = u.log ∙ h.sees;
      owns = ap (λ (n : ℕ). drop n (log longer s)) u.fork_length ∙ ap (drop (fork_length front s)) u.log ∙ h.owns;
      remembers = r;
      mine = λ i k. client_at-kept front t i c (h.mine i (on_by (own_part longer s) (own_part front s) i (own_kept front longer s u) k));
    }

-- r's path and past may grow, by what s has not past its fork
pub joinable_kept : (front longer : List Step) (r s : ℕ) → Untouched front longer s
    → ((i : ℕ) → IsTrue (past front r i) → IsTrue (past longer r i))
    → ((i : ℕ) → IsTrue (stands_on (path front r) i) → IsTrue (stands_on (path longer r) i))
    → ((i : ℕ) → IsTrue (stands_on (own_part front s) i) → stands_on (path front r) i ≡ false → stands_on (path longer r) i ≡ false)
    → Joinable front r s → Joinable longer r s
joinable_kept front longer r s u pasts paths new h = record {
  knows = subst (λ (i : ℕ). IsTrue (past longer r i)) (sym u.fork) (pasts (fork front s) h.knows);
  shared = λ i k. paths i (h.shared i (on_by (shared_part longer s) (shared_part front s) i (shared_kept front longer s u) k));
  fresh = λ i k. let mine : IsTrue (stands_on (own_part front s) i) = on_by (own_part longer s) (own_part front s) i (own_kept front longer s u) k in new i mine (h.fresh i mine);
}

pub received_kept : (front longer : List Step) (c q : ℕ) (base : List Update) → Untouched front longer q
    → ((i : ℕ) → IsTrue (past front 0 i) → IsTrue (past longer 0 i))
    → ((i : ℕ) → IsTrue (stands_on (path front 0) i) → IsTrue (stands_on (path longer 0) i))
    → Received front c q base → Received longer c q base
received_kept front longer c q base u pasts paths h = record {
  live = u.live h.live;
  owner = u.owner ∙ h.owner;
  logs = u.log ∙ h.logs;
  whole = u.fork_length ∙ h.whole ∙ ap (λ (p : List ℕ). length p) (sym u.path);
  knows = subst (λ (i : ℕ). IsTrue (past longer 0 i)) (sym u.fork) (pasts (fork front q) h.knows);
  within = λ i k. paths i (h.within i (on_by (path longer q) (path front q) i u.path k));
}

-- the step is one of c, or for c: it leaves the others' revisions, and the server gets nothing of them
pub record IsOf (front : List Step) (t : Step) (c : ℕ) : Type 0 where
  pub others : (d x : ℕ) → d ≢ c → IsTrue (live front x) → owner front x ≡ Some d → Untouched front (front ++ t ∷ []) x
  pub pasts : (i : ℕ) → IsTrue (past front 0 i) → IsTrue (past (front ++ t ∷ []) 0 i)
  pub paths : (i : ℕ) → IsTrue (stands_on (path front 0) i) → IsTrue (stands_on (path (front ++ t ∷ []) 0) i)
  pub new : (i : ℕ) → IsTrue (stands_on (path (front ++ t ∷ []) 0) i) → (IsTrue (stands_on (path front 0) i)) ⊎ (client_at front i ≡ Some c)
  pub untold : (d : ℕ) → d ≢ c → is_told d front t ≡ false

-- what is d's own does not come onto the server's path
still_fresh : (front : List Step) (t : Step) (c d s : ℕ) (seen own : List Update) → IsOf front t c → d ≢ c → Stands front d s seen own → (i : ℕ) → IsTrue (stands_on (own_part front s) i) → stands_on (path front 0) i ≡ false → stands_on (path (front ++ t ∷ []) 0) i ≡ false
still_fresh front t c d s seen own of other h i mine fresh = elim (cases_Bool (stands_on (path (front ++ t ∷ []) 0) i)) [
  | inl there ↦ elim (of.new i there) [
    | inl was ↦ absurd (false≢true (sym fresh ∙ was))
    | inr theirs ↦ let e : Some d ≡ Some c = sym (h.mine i mine) ∙ theirs in absurd (other cc)
  ]
  | inr none ↦ none
]

pub marked_kept : (front : List Step) (t : Step) (c : ℕ) (marked : Bool) → is_told c front t ≡ false → MarkedIf marked front c → MarkedIf marked (front ++ t ∷ []) c
marked_kept front t c true untold h = is_marked-kept front t c untold ∙ h
marked_kept front t c false untold h = tt

awaits_kept : (front : List Step) (t : Step) (c d s q : ℕ) (base : Option (List Update)) → IsOf front t c → d ≢ c → Untouched front (front ++ t ∷ []) s → AwaitsIf front d s q base → AwaitsIf (front ++ t ∷ []) d s q base
awaits_kept front t c d s q None of other u h = tt
awaits_kept front t c d s q (Some base) of other u h =
    let longer : List Step = front ++ t ∷ [] in
    let v : Untouched front (front ++ t ∷ []) q = of.others d q other h.received.live h.received.owner in
    record {
      received = received_kept front longer d q base v of.pasts of.paths h.received;
      joins = joinable_kept front longer q s u v.past (λ i k. on_by (path front q) (path longer q) i (sym v.path) k) (λ i k e. ap (λ (p : List ℕ). stands_on p i) v.path ∙ e) h.joins;
      other = h.other;
    }

pub standing_kept : (front : List Step) (t : Step) (c d s q : ℕ) (seen own : List Update) (base : Option (List Update)) (marked : Bool) → IsOf front t c → d ≢ c → Standing front d s q seen own base marked → Standing (front ++ t ∷ []) d s q seen own base marked
standing_kept front t c d s q seen own base marked of other h =
    let longer : List Step = front ++ t ∷ [] in
    let u : Untouched front (front ++ t ∷ []) s = of.others d s other h.stands.live h.stands.owner in
    record {
      stands = stands_kept front t d s seen own u (remembers_kept front t d s u (of.untold d other) h.stands.remembers) h.stands;
      joins = joinable_kept front longer 0 s u of.pasts of.paths (still_fresh front t c d s seen own of other h.stands) h.joins;
      awaits = awaits_kept front t c d s q base of other u h.awaits;
      at_mark = marked_kept front t d marked (of.untold d other) h.at_mark;
    }

pub is_at_kept : (front : List Step) (t : Step) (c d s q : ℕ) (status : Status) → IsOf front t c → d ≢ c → IsAt front d s q status → IsAt (front ++ t ∷ []) d s q status
is_at_kept front t c d s q idle of other h = story-untold front t d (of.untold d other) ∙ h
is_at_kept front t c d s q (stands seen own base marked) of other h = standing_kept front t c d s q seen own base marked of other h
is_at_kept front t c d s q (parted seen) of other h = (h.0, stands_kept front t d s seen h.0 (of.others d s other h.1.live h.1.owner) (remembers_kept front t d s (of.others d s other h.1.live h.1.owner) (of.untold d other) h.1.remembers) h.1)
