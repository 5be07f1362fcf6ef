-- The laws at one step more.
use Rattle.revision_diagram.proofs.Apart.{joins_apart-members}
use Rattle.cloud_base.specs.declared.update.Answer.{Answer}
use Rattle.cloud_base.specs.declared.update.Event.{Event}
use Rattle.cloud_base.specs.declared.update.Query.{Query}
use Rattle.cloud_base.specs.declared.update.Update.{Update}
use Rattle.record_diagram.proofs.Invariant.{Joinable, Laws, Marked, Remembers, RightAt, Stands}
use Rattle.record_diagram.specs.SeenAt.{AnswerAt}
use Rattle.record_diagram.proofs.Whose.{not_server}
use Rattle.record_diagram.specs.Steps.{event_step}
use Rattle.revision_diagram.proofs.KeepsOnce.{Once-step}
use Rattle.revision_diagram.proofs.Kept.{lawful-Join, served}
use Rattle.revision_diagram.proofs.Places.{EachStep-more}
use Rattle.revision_diagram.specs.Diagram.{acts_on, is_of, live, owner}
use Rattle.revision_diagram.specs.Lawful.{is_lawful}
use Rattle.revision_diagram.specs.Meeting.{below_server, has_marked, is_at_mark, is_at_or_above, is_client, is_placed}
use Rattle.revision_diagram.specs.Once.{joins_apart}
use Rattle.revision_diagram.specs.Story.{has_seen, is_in_line, story}
use Rattle.revision_diagram.specs.declared.step.Step.{Step}
use Rattle.revision_diagram.specs.declared.step.Step.TheVariants.{Fork, Join}
use Rattle.std.proofs.Common.{List, None, Option, Some, [], ap, false, inl, inr, refl, subst, sym, ℕ, ◌++◌, ◌∙◌, ◌∷◌, ◌≡◌}
use Rattle.std.proofs.lemmas.Bool.{cases_eq, eq-eqb, ne_eqb, or_left, or_right}
use Rattle.std.specs.List.{last_or}
use Rattle.std.specs.Prelude.{IsTrue, not, ◌==◌, ◌≢◌}
use Rattle.cloud_base.specs.declared.update.Event.TheVariants as event

-- what the laws ask of a step
pub record Fits (is_answer : List Update → Query → Answer → Type 0) (front : List Step) (t : Step) : Type 0 where
  pub allowed : IsTrue (is_lawful front t)
  pub apart : IsTrue (joins_apart front t)
  pub placed_well : IsTrue (is_placed below_server front t)
  pub at_mark : IsTrue (is_at_mark below_server front t)
  pub is_right : AnswerAt is_answer front t
  pub in_line : (c : ℕ) → IsTrue (is_in_line c front (acts_on t))

pub laws_more : (is_answer : List Update → Query → Answer → Type 0) (front : List Step) (t : Step) → Laws is_answer front → Fits is_answer front t → Laws is_answer (front ++ t ∷ [])
laws_more is_answer front t h f = record {
  lawful = (EachStep-more (λ front s. IsTrue (is_lawful front s)) front t).1 (h.lawful, f.allowed);
  once = Once-step front t h.once f.allowed f.apart;
  placed = (EachStep-more (λ front s. IsTrue (is_placed below_server front s)) front t).1 (h.placed, f.placed_well);
  at_marks = (EachStep-more (λ front s. IsTrue (is_at_mark below_server front s)) front t).1 (h.at_marks, f.at_mark);
  line = λ c. (EachStep-more (λ front s. IsTrue (is_in_line c front (acts_on s))) front t).1 (h.line c, f.in_line c);
  right = (EachStep-more (AnswerAt is_answer) front t).1 (h.right, f.is_right);
}

events_in_line : (front : List Step) (c s : ℕ) → owner front s ≡ Some c → Remembers front c s → (d : ℕ) → IsTrue (is_in_line d front (Some s))
events_in_line front c s mine knew d = elim (cases_eq d c) [
  | inl same ↦ or_right (not (is_of d (owner front s))) (has_seen front s (last_or None (story front d))) (subst (λ (x : ℕ). Remembers front x s) (sym same) knew)
  | inr other ↦ or_left (not (is_of d (owner front s))) (has_seen front s (last_or None (story front d))) (ap (λ (o : Option ℕ). not (is_of d o)) mine ∙ ap not (ne_eqb c d (λ e. other (sym e))))
]

-- an event of c on s
pub fits_event : (is_answer : List Update → Query → Answer → Type 0) (front : List Step) (c s : ℕ) (seen own : List Update) (e : Event) → Stands front c s seen own → RightAt is_answer seen e → Fits is_answer front (event_step s e)
fits_event is_answer front c s seen own (event.Do u) h r = record { allowed = h.live; apart = refl; placed_well = ap (is_client below_server) h.owner; at_mark = refl; is_right = tt; in_line = events_in_line front c s h.owner h.remembers }
fits_event is_answer front c s seen own (event.Ask q a) h r = record { allowed = h.live; apart = refl; placed_well = ap (is_client below_server) h.owner; at_mark = refl; is_right = subst (λ (l : List Update). is_answer l q a) (sym h.sees) r; in_line = events_in_line front c s h.owner h.remembers }
fits_event is_answer front c s seen own (event.Say v) h r = record { allowed = h.live; apart = refl; placed_well = ap (is_client below_server) h.owner; at_mark = refl; is_right = tt; in_line = events_in_line front c s h.owner h.remembers }
fits_event is_answer front c s seen own event.Yield h r = record { allowed = h.live; apart = refl; placed_well = ap (is_client below_server) h.owner; at_mark = refl; is_right = tt; in_line = events_in_line front c s h.owner h.remembers }
fits_event is_answer front c s seen own event.Flush h r = record { allowed = h.live; apart = refl; placed_well = ap (is_client below_server) h.owner; at_mark = refl; is_right = tt; in_line = events_in_line front c s h.owner h.remembers }

-- a fork of the server
pub fits_Fork_server : (is_answer : List Update → Query → Answer → Type 0) (front : List Step) (c : ℕ) → IsTrue (live front 0) → Fits is_answer front (Fork 0 c)
fits_Fork_server is_answer front c server =
    let none : owner front 0 ≡ None = (served front).nobodys in
    record { allowed = server; apart = refl; placed_well = ap (λ (o : Option ℕ). is_at_or_above below_server o (Some c)) none; at_mark = ap (has_marked below_server front) none; is_right = tt; in_line = λ d. refl }

-- a fork of c's own revision, for c
pub fits_Fork_own : (is_answer : List Update → Query → Answer → Type 0) (front : List Step) (c s : ℕ) → IsTrue (live front s) → owner front s ≡ Some c → Marked front c → Fits is_answer front (Fork s c)
fits_Fork_own is_answer front c s lives mine m = record {
  allowed = lives;
  apart = refl;
  placed_well = ap (λ (o : Option ℕ). is_at_or_above below_server o (Some c)) mine ∙ or_left (c == c) false (eq-eqb c c refl);
  at_mark = ap (has_marked below_server front) mine ∙ m;
  is_right = tt;
  in_line = λ d. refl;
}

joins_apart_of : (front : List Step) (r s : ℕ) → Joinable front r s → IsTrue (joins_apart front (Join r s))
joins_apart_of front r s h = (joins_apart-members front r s).1 (h.shared, h.fresh)

-- a join of c's s into the server, or into another one of c's
pub fits_Join_server : (is_answer : List Update → Query → Answer → Type 0) (front : List Step) (c s : ℕ) → IsTrue (live front 0) → IsTrue (live front s) → owner front s ≡ Some c → Joinable front 0 s → Marked front c → Fits is_answer front (Join 0 s)
fits_Join_server is_answer front c s server lives mine h m =
    let none : owner front 0 ≡ None = (served front).nobodys in
    let other : s ≢ 0 = not_server front c s mine in
    record {
      allowed = lawful-Join front 0 s server lives other other h.knows;
      apart = joins_apart_of front 0 s h;
      placed_well = ap (λ (o : Option ℕ). is_at_or_above below_server o (owner front s)) none ∙ ap (is_at_or_above below_server None) mine;
      at_mark = ap (has_marked below_server front) mine ∙ m;
      is_right = tt;
      in_line = λ d. refl;
    }

pub fits_Join_own : (is_answer : List Update → Query → Answer → Type 0) (front : List Step) (c q s : ℕ) → IsTrue (live front q) → owner front q ≡ Some c → s ≢ q → IsTrue (live front s) → owner front s ≡ Some c → Joinable front q s → Marked front c → Fits is_answer front (Join q s)
fits_Join_own is_answer front c q s received theirs other lives mine h m = record {
  allowed = lawful-Join front q s received lives (not_server front c s mine) other h.knows;
  apart = joins_apart_of front q s h;
  placed_well = ap (λ (o : Option ℕ). is_at_or_above below_server o (owner front s)) theirs ∙ ap (is_at_or_above below_server (Some c)) mine ∙ or_left (c == c) false (eq-eqb c c refl);
  at_mark = ap (has_marked below_server front) mine ∙ m;
  is_right = tt;
  in_line = λ d. refl;
}
