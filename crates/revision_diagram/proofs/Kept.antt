-- What a further step leaves as it was, and what holds of every list of steps.
use Rattle.std.proofs.Common.{◌≡◌, ℕ, ◌+◌, ◌<◌, ◌≤◌, Bool, true, false, cond, List, [], ◌∷◌, ◌++◌, length, drop, take, refl, sym, ap, subst, ◌∙◌, arith, Some, None, inl, inr}
use Rattle.std.specs.Prelude.{IsTrue, ◌&&◌, not, ◌==◌, ◌≢◌, MatchOption}
use Rattle.std.specs.List.{list_all, AllByRecursion}
use Rattle.std.proofs.lemmas.Bool.{and_from, false≢true, cases_lt, cases_eq, cases_Bool, eqb-true}
use Rattle.std.proofs.lemmas.List.{take-append-drop}
use Rattle.revision_diagram.specs.declared.step.Step.{Step}
use Rattle.revision_diagram.specs.declared.step.Step.TheVariants.{Fork, Join, Do, Ask, Say, Mark}
use Rattle.revision_diagram.specs.Diagram.{Diagram, diagram, after, revisions, live, owner, past, path, fork, fork_length}
use Rattle.revision_diagram.specs.Lawful.{is_lawful}
use Rattle.revision_diagram.specs.Once.{times_on, stands_on, is_do, joins_apart, StandsOnce}
use Rattle.revision_diagram.specs.Meeting.{Tree, FlushLaw, flushes, client_at, Flushed}
use Rattle.revision_diagram.proofs.Steps.{by_steps, diagram-step, diagram-places}
use Rattle.revision_diagram.proofs.Range.{InRange, in_range, times_on-append}
use Rattle.revision_diagram.proofs.Marks.{stands-times, all_from, all_at}
use Rattle.revision_diagram.proofs.Logs.{paths_do}
use Rattle.revision_diagram.proofs.KeepsOnce.{put-here, put-else}

-- a revision that is there keeps its owner and its fork
pub record Keeps (d e : Diagram) (x : ℕ) : Type 0 where
  pub owner : e.owner x ≡ d.owner x
  pub fork : e.fork x ≡ d.fork x
  pub fork_length : e.fork_length x ≡ d.fork_length x

keeps : (d : Diagram) (s : Step) (x : ℕ) → x < d.revisions → Keeps d (after d s) x
keeps d (Fork r c) x l = record {
  owner = put-else d.revisions x (Some c) d.owner (λ e. omega arith);
  fork = put-else d.revisions x d.places d.fork (λ e. omega arith);
  fork_length = put-else d.revisions x (length (d.path r)) d.fork_length (λ e. omega arith);
}
keeps d (Join r s) x l = record { owner = refl; fork = refl; fork_length = refl }
keeps d (Do r u) x l = record { owner = refl; fork = refl; fork_length = refl }
keeps d (Ask r q a) x l = record { owner = refl; fork = refl; fork_length = refl }
keeps d (Say r v) x l = record { owner = refl; fork = refl; fork_length = refl }
keeps d (Mark r flush) x l = record { owner = refl; fork = refl; fork_length = refl }

kept : (steps : List Step) (s : Step) (x : ℕ) → x < revisions steps → Keeps (diagram steps) (diagram (steps ++ s ∷ [])) x
kept steps s x l = subst (λ (e : Diagram). Keeps (diagram steps) e x) (sym (diagram-step steps s)) (keeps (diagram steps) s x l)

pub owner-kept : (steps : List Step) (s : Step) (x : ℕ) → x < revisions steps → owner (steps ++ s ∷ []) x ≡ owner steps x
owner-kept steps s x l = (kept steps s x l).owner

pub fork-kept : (steps : List Step) (s : Step) (x : ℕ) → x < revisions steps → fork (steps ++ s ∷ []) x ≡ fork steps x
fork-kept steps s x l = (kept steps s x l).fork

pub fork_length-kept : (steps : List Step) (s : Step) (x : ℕ) → x < revisions steps → fork_length (steps ++ s ∷ []) x ≡ fork_length steps x
fork_length-kept steps s x l = (kept steps s x l).fork_length

more_revisions : (d : Diagram) (s : Step) → d.revisions ≤ (after d s).revisions
more_revisions d (Fork r c) = omega arith
more_revisions d (Join r s) = omega arith
more_revisions d (Do r u) = omega arith
more_revisions d (Ask r q a) = omega arith
more_revisions d (Say r v) = omega arith
more_revisions d (Mark r flush) = omega arith

pub revisions-grow : (steps : List Step) (s : Step) → revisions steps ≤ revisions (steps ++ s ∷ [])
revisions-grow steps s = subst (λ (e : Diagram). revisions steps ≤ e.revisions) (sym (diagram-step steps s)) (more_revisions (diagram steps) s)

-- the server is there, and only it is nobody's
pub record Served (d : Diagram) : Type 0 where
  pub there : 0 < d.revisions
  pub nobodys : d.owner 0 ≡ None
  pub owned : (x : ℕ) → 0 < x → x < d.revisions → d.owner x ≡ None → ⊥

served_kept : (d e : Diagram) → e.revisions ≡ d.revisions → ((x : ℕ) → e.owner x ≡ d.owner x) → Served d → Served e
served_kept d e same o h = record {
  there = let t : 0 < d.revisions = h.there in omega arith;
  nobodys = o 0 ∙ h.nobodys;
  owned = λ x l m n. h.owned x l (omega arith) (sym (o x) ∙ n);
}

served_more : (d : Diagram) (s : Step) → Served d → Served (after d s)
served_more d (Fork r c) h =
    let t : 0 < d.revisions = h.there in
    record {
      there = omega arith;
      nobodys = put-else d.revisions 0 (Some c) d.owner (λ e. omega arith) ∙ h.nobodys;
      owned = λ x l m n. elim (cases_eq x d.revisions) [
        | inl new ↦ let e : Some c ≡ None = sym (put-here d.revisions x (Some c) d.owner new) ∙ n in cc
        | inr old ↦ h.owned x l (omega arith) (sym (put-else d.revisions x (Some c) d.owner old) ∙ n)
      ];
    }
served_more d (Join r s) h = served_kept d (after d (Join r s)) refl (λ x. refl) h
served_more d (Do r u) h = served_kept d (after d (Do r u)) refl (λ x. refl) h
served_more d (Ask r q a) h = served_kept d (after d (Ask r q a)) refl (λ x. refl) h
served_more d (Say r v) h = served_kept d (after d (Say r v)) refl (λ x. refl) h
served_more d (Mark r flush) h = served_kept d (after d (Mark r flush)) refl (λ x. refl) h

pub served : (steps : List Step) → Served (diagram steps)
served steps = by_steps (λ (t : List Step). Served (diagram t))
    (record { there = omega arith; nobodys = refl; owned = λ x l m n. omega arith })
    (λ front s h. subst Served (sym (diagram-step front s)) (served_more (diagram front) s h)) steps

-- only a revision that is there is live
pub live-there : (steps : List Step) (x : ℕ) → IsTrue (live steps x) → x < revisions steps
live-there steps x h =
    let range : InRange (diagram steps) = in_range steps in
    elim (cases_lt x (revisions steps)) [ inl below ↦ below | inr above ↦ absurd (false≢true (sym (range.live x above) ∙ h)) ]

pub past-there : (steps : List Step) (x i : ℕ) → IsTrue (past steps x i) → i < length steps
past-there steps x i h =
    let range : InRange (diagram steps) = in_range steps in
    elim (cases_lt i (length steps)) [ inl below ↦ below | inr above ↦ absurd (false≢true (sym (range.past x i (let l : (diagram steps).places ≤ i = omega (arith, diagram-places steps) in l)) ∙ h)) ]

-- A path has no place twice, where it has each once that it has.
pub at_most_once : (steps : List Step) (r i : ℕ) → StandsOnce steps r → times_on (path steps r) i ≤ 1
at_most_once steps r i h = elim (cases_Bool (past steps r i && is_do steps i)) [
  | inl here ↦ let e : times_on (path steps r) i ≡ 1 = h i ∙ ap (λ (b : Bool). cond b 1 0) here in omega arith
  | inr none ↦ let e : times_on (path steps r) i ≡ 0 = h i ∙ ap (λ (b : Bool). cond b 1 0) none in omega arith
]

pub not_from : (b : Bool) → (b ≡ true → ⊥) → not b ≡ true
not_from true h = absurd (h refl)
not_from false h = refl

-- a join into a revision with the path that the joined one had at its fork
pub joins_apart-base : (steps : List Step) (r s : ℕ) → StandsOnce steps s → path steps r ≡ take (fork_length steps s) (path steps s) → IsTrue (joins_apart steps (Join r s))
joins_apart-base steps r s h e =
    let base : List ℕ = take (fork_length steps s) (path steps s) in
    let branch : List ℕ = drop (fork_length steps s) (path steps s) in
    and_from (list_all (stands_on (path steps r)) base) (list_all (λ i. not (stands_on (path steps r) i)) branch)
    (all_from (stands_on (path steps r)) base (λ i k. ap (λ (t : List ℕ). stands_on t i) e ∙ k))
    (all_from (λ i. not (stands_on (path steps r) i)) branch (λ i k. not_from (stands_on (path steps r) i) (λ there.
    let in_base : 0 < times_on (take (fork_length steps s) (path steps s)) i = stands-times base i (sym (ap (λ (t : List ℕ). stands_on t i) e) ∙ there) in
    let in_branch : 0 < times_on (drop (fork_length steps s) (path steps s)) i = stands-times branch i k in
    let both : times_on (take (fork_length steps s) (path steps s)) i + times_on (drop (fork_length steps s) (path steps s)) i ≡ times_on (path steps s) i = sym (times_on-append base branch i) ∙ ap (λ (t : List ℕ). times_on t i) (take-append-drop (fork_length steps s) (path steps s)) in
    let most : times_on (path steps s) i ≤ 1 = at_most_once steps s i h in
    omega arith)))

pub FlushLaw-none : (tree : Tree) (steps : List Step) → flushes steps ≡ [] → FlushLaw tree steps
FlushLaw-none tree steps e = subst (λ (t : List ℕ). AllByRecursion (λ i. MatchOption (client_at steps i) (Unit {0}) (λ c. Flushed tree steps i c)) t) (sym e) tt

-- each place on a path is one of a Do step
pub path-there : (steps : List Step) (r i : ℕ) → IsTrue (stands_on (path steps r) i) → IsTrue (is_do steps i)
path-there steps r i h = all_at (is_do steps) (path steps r) i (paths_do steps r) h

pub owner-some : (steps : List Step) (x : ℕ) → 0 < x → x < revisions steps → owner steps x ≢ None
owner-some steps x l m e = let h : Served (diagram steps) = served steps in h.owned x l m e

-- a join that may come
pub lawful-Join : (steps : List Step) (r s : ℕ) → IsTrue (live steps r) → IsTrue (live steps s) → s ≢ 0 → s ≢ r → IsTrue (past steps r (fork steps s)) → IsTrue (is_lawful steps (Join r s))
lawful-Join steps r s r_lives s_lives not_server not_joiner seen =
    and_from (live steps r && live steps s && not (s == 0) && not (s == r)) (past steps r (fork steps s))
    (and_from (live steps r && live steps s && not (s == 0)) (not (s == r))
    (and_from (live steps r && live steps s) (not (s == 0)) (and_from (live steps r) (live steps s) r_lives s_lives) (not_from (s == 0) (λ e. not_server (eqb-true s 0 e))))
    (not_from (s == r) (λ e. not_joiner (eqb-true s r e))))
    seen
