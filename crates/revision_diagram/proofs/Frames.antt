-- What a step leaves of a revision that it does not touch, and what a fork makes.
use Rattle.std.proofs.Common.{◌≡◌, ℕ, suc, ◌≤◌, ◌<◌, Bool, true, false, cond, List, [], ◌∷◌, ◌++◌, length, drop, take, refl, sym, ap, ◌∙◌, subst, arith, Option, Some, None, inl, inr, length-append}
use Rattle.std.specs.Prelude.{◌≢◌, ◌==◌, IsTrue, slice_get}
use Rattle.std.specs.List.{list_all}
use Rattle.std.proofs.lemmas.Bool.{and_parts, cases_Bool, cases_lt, cases_eq, eq-eqb, false≢true, or_left, or_right}
use Rattle.std.proofs.lemmas.List.{take-append-le}
use Rattle.std.proofs.Math.Seq.{take-append_seam}
use Rattle.cloud_base.specs.declared.update.Update.{Update}
use Rattle.cloud_base.specs.declared.update.Query.{Query}
use Rattle.cloud_base.specs.declared.update.Answer.{Answer}
use Rattle.revision_diagram.specs.declared.step.Step.{Step}
use Rattle.revision_diagram.specs.declared.step.Step.TheVariants.{Fork, Join, Do, Ask, Say, Mark}
use Rattle.revision_diagram.specs.Diagram.{Diagram, diagram, after, put, with_place, acts_on, revisions, live, owner, past, path, fork, fork_length}
use Rattle.revision_diagram.specs.Right.{update_of, updates_at, log}
use Rattle.revision_diagram.specs.Once.{stands_on, does_on, is_some_revision, is_do}
use Rattle.revision_diagram.specs.Meeting.{client_at, acts_at, owner_of}
use Rattle.revision_diagram.specs.Untouched.{Untouched, JustForked}
use Rattle.revision_diagram.proofs.Steps.{by_steps, diagram-step}
use Rattle.revision_diagram.proofs.Draws.{live-Fork, owner-Fork, past-Fork, path-Fork, fork-Fork, fork_length-Fork, live-Join, path-Join, live-act, path-Do, path-Ask, path-Say, path-Mark, past-grows}
use Rattle.revision_diagram.proofs.Logs.{log-Fork, log-Join, log-Do, log-Ask, log-Say, log-Mark, slice_get-front, slice_get-last, slice_get-none, paths_do}
use Rattle.revision_diagram.proofs.Kept.{live-there, owner-kept, fork-kept, fork_length-kept, path-there}
use Rattle.revision_diagram.proofs.KeepsOnce.{put-here, put-else}

-- a step that is no Do leaves each revision that is there
pub untouched_act : (front : List Step) (t : Step) (r x : ℕ) → acts_on t ≡ Some r → IsTrue (live front x) → path (front ++ t ∷ []) x ≡ path front x → log (front ++ t ∷ []) x ≡ log front x → Untouched front (front ++ t ∷ []) x
untouched_act front t r x acts is_live same_path same_log =
    let there : x < revisions front = live-there front x is_live in
    record {
      live = λ h. live-act front t r x acts ∙ h;
      owner = owner-kept front t x there;
      path = same_path;
      log = same_log;
      fork = fork-kept front t x there;
      fork_length = fork_length-kept front t x there;
      past = λ i h. past-grows front t x i there h;
    }

pub untouched_Ask : (front : List Step) (r : ℕ) (q : Query) (a : Answer) (x : ℕ) → IsTrue (live front x) → Untouched front (front ++ Ask r q a ∷ []) x
untouched_Ask front r q a x is_live = untouched_act front (Ask r q a) r x refl is_live (path-Ask front r q a x) (log-Ask front r q a x)

pub untouched_Say : (front : List Step) (r : ℕ) (v : Answer) (x : ℕ) → IsTrue (live front x) → Untouched front (front ++ Say r v ∷ []) x
untouched_Say front r v x is_live = untouched_act front (Say r v) r x refl is_live (path-Say front r v x) (log-Say front r v x)

pub untouched_Mark : (front : List Step) (r : ℕ) (flush : Bool) (x : ℕ) → IsTrue (live front x) → Untouched front (front ++ Mark r flush ∷ []) x
untouched_Mark front r flush x is_live = untouched_act front (Mark r flush) r x refl is_live (path-Mark front r flush x) (log-Mark front r flush x)

pub untouched_Do : (front : List Step) (r : ℕ) (u : Update) (x : ℕ) → IsTrue (live front x) → x ≢ r → Untouched front (front ++ Do r u ∷ []) x
untouched_Do front r u x is_live other = untouched_act front (Do r u) r x refl is_live
    (path-Do front r u x ∙ put-else r x (path front r ++ length front ∷ []) (path front) other)
    (log-Do front r u x ∙ put-else r x (log front r ++ u ∷ []) (log front) other)

pub untouched_Fork : (front : List Step) (r c x : ℕ) → IsTrue (live front x) → Untouched front (front ++ Fork r c ∷ []) x
untouched_Fork front r c x is_live =
    let there : x < revisions front = live-there front x is_live in
    let old : x ≢ revisions front = λ e. omega arith in
    record {
      live = λ h. live-Fork front r c x ∙ put-else (revisions front) x true (live front) old ∙ h;
      owner = owner-kept front (Fork r c) x there;
      path = path-Fork front r c x ∙ put-else (revisions front) x (path front r) (path front) old;
      log = log-Fork front r c x ∙ put-else (revisions front) x (log front r) (log front) old;
      fork = fork-kept front (Fork r c) x there;
      fork_length = fork_length-kept front (Fork r c) x there;
      past = λ i h. past-grows front (Fork r c) x i there h;
    }

pub untouched_Join : (front : List Step) (r s x : ℕ) → IsTrue (live front x) → x ≢ r → x ≢ s → Untouched front (front ++ Join r s ∷ []) x
untouched_Join front r s x is_live other lives =
    let there : x < revisions front = live-there front x is_live in
    record {
      live = λ h. live-Join front r s x ∙ put-else s x false (live front) lives ∙ h;
      owner = owner-kept front (Join r s) x there;
      path = path-Join front r s x ∙ put-else r x (path front r ++ drop (fork_length front s) (path front s)) (path front) other;
      log = log-Join front r s x ∙ put-else r x (log front r ++ drop (fork_length front s) (log front s)) (log front) other;
      fork = fork-kept front (Join r s) x there;
      fork_length = fork_length-kept front (Join r s) x there;
      past = λ i h. past-grows front (Join r s) x i there h;
    }

pub just_forked : (front : List Step) (r c : ℕ) → IsTrue (live front r) → JustForked front (front ++ Fork r c ∷ []) r c (revisions front)
just_forked front r c lives =
    let n : ℕ = revisions front in
    let there : r < revisions front = live-there front r lives in
    let old : r ≢ revisions front = λ e. omega arith in
    let more : ℕ → Bool = with_place (past front r) (length front) in
    let pathed : path (front ++ Fork r c ∷ []) (revisions front) ≡ path front r = path-Fork front r c n ∙ put-here n n (path front r) (path front) refl in
    record {
      is_live = live-Fork front r c n ∙ put-here n n true (live front) refl;
      owned = owner-Fork front r c n ∙ put-here n n (Some c) (owner front) refl;
      has_path = pathed;
      has_log = log-Fork front r c n ∙ put-here n n (log front r) (log front) refl;
      whole = fork_length-Fork front r c n ∙ put-here n n (length (path front r)) (fork_length front) refl ∙ ap (λ (p : List ℕ). length p) (sym pathed);
      forked_at = fork-Fork front r c n ∙ put-here n n (length front) (fork front) refl;
      knows = past-Fork front r c r (length front) ∙ ap (λ (p : ℕ → Bool). p (length front)) (put-else n r more (put r more (past front)) old ∙ put-here r r more (past front) refl)
          ∙ or_right (past front r (length front)) (length front == length front) (eq-eqb (length front) (length front) refl);
      keeps = λ i h. past-Fork front r c n i ∙ ap (λ (p : ℕ → Bool). p i) (put-here n n more (put r more (past front)) refl) ∙ or_left (past front r i) (i == length front) h;
    }

-- who did what stays
pub client_at-kept : (front : List Step) (t : Step) (i c : ℕ) → client_at front i ≡ Some c → client_at (front ++ t ∷ []) i ≡ Some c
client_at-kept front t i c h = elim (cases_lt i (length front)) [
  | inl within ↦ ap (λ (f : List Step). owner_of f (acts_at (slice_get (front ++ t ∷ []) i))) (take-append-le i front (t ∷ []) (omega arith))
      ∙ ap (λ (o : Option Step). owner_of (take i front) (acts_at o)) (slice_get-front front (t ∷ []) i within) ∙ h
  | inr past_end ↦ let e : None ≡ Some c = sym (ap (λ (o : Option Step). owner_of (take i front) (acts_at o)) (slice_get-none front i past_end)) ∙ h in cc
]

pub client_at-last : (front : List Step) (t : Step) (r : ℕ) → acts_on t ≡ Some r → client_at (front ++ t ∷ []) (length front) ≡ owner front r
client_at-last front t r acts = ap (λ (f : List Step). owner_of f (acts_at (slice_get (front ++ t ∷ []) (length front)))) (take-append_seam front (t ∷ []))
    ∙ ap (λ (o : Option Step). owner_of front (acts_at o)) (slice_get-last front t) ∙ ap (owner_of front) acts

-- a path is as long as at its fork, or longer
pub record Longer (d : Diagram) : Type 0 where
  pub at : (x : ℕ) → d.fork_length x ≤ length (d.path x)

put_at : {A B : Type 0} (P : A → B → Type 0) (r x : ℕ) (a : A) (b : B) (f : ℕ → A) (g : ℕ → B) → P a b → (x ≢ r → P (f x) (g x)) → P (put r a f x) (put r b g x)
put_at P r x a b f g h k = elim (x == r) as (λ t. (x == r) ≡ t → P (cond t a (f x)) (cond t b (g x))) [ true ↦ λ e. h | false ↦ λ e. k (λ same. false≢true (sym e ∙ eq-eqb x r same)) ] refl

longer_by : (d : Diagram) (r x : ℕ) (more : List ℕ) → Longer d → d.fork_length x ≤ length (put r (d.path r ++ more) d.path x)
longer_by d r x more h = elim (cases_eq x r) [
  | inl same ↦ let e : length (put r (d.path r ++ more) d.path x) ≡ length (d.path r ++ more) = ap (λ (t : List ℕ). length t) (put-here r x (d.path r ++ more) d.path same) in
      let l : d.fork_length x ≤ length (d.path x) = h.at x in
      let m : length (d.path x) ≡ length (d.path r) = ap (λ (y : ℕ). length (d.path y)) same in omega (arith, length-append (d.path r) more)
  | inr other ↦ let e : length (put r (d.path r ++ more) d.path x) ≡ length (d.path x) = ap (λ (t : List ℕ). length t) (put-else r x (d.path r ++ more) d.path other) in
      let l : d.fork_length x ≤ length (d.path x) = h.at x in omega arith
]

longer_after : (d : Diagram) (s : Step) → Longer d → Longer (after d s)
longer_after d (Fork r c) h = record { at = λ x. put_at (λ (n : ℕ) (p : List ℕ). n ≤ length p) d.revisions x (length (d.path r)) (d.path r) d.fork_length d.path (omega arith) (λ n. h.at x) }
longer_after d (Join r s) h = record { at = λ x. longer_by d r x (drop (d.fork_length s) (d.path s)) h }
longer_after d (Do r u) h = record { at = λ x. longer_by d r x (d.places ∷ []) h }
longer_after d (Ask r q a) h = record { at = h.at }
longer_after d (Say r v) h = record { at = h.at }
longer_after d (Mark r flush) h = record { at = h.at }

longer : (steps : List Step) → Longer (diagram steps)
longer steps = by_steps (λ (t : List Step). Longer (diagram t)) (record { at = λ x. omega arith }) (λ front s h. subst Longer (sym (diagram-step front s)) (longer_after (diagram front) s h)) steps

pub fork_length-within : (steps : List Step) (x : ℕ) → fork_length steps x ≤ length (path steps x)
fork_length-within steps x = let l : Longer (diagram steps) = longer steps in l.at x

update_there : (o : Option Step) → is_some_revision (does_on o) ≡ true → (u : Update) × (update_of o ≡ Some u)
update_there None e = absurd (false≢true e)
update_there (Some (Fork r c)) e = absurd (false≢true e)
update_there (Some (Join r s)) e = absurd (false≢true e)
update_there (Some (Do r u)) e = (u, refl)
update_there (Some (Ask r q a)) e = absurd (false≢true e)
update_there (Some (Say r v)) e = absurd (false≢true e)
update_there (Some (Mark r flush)) e = absurd (false≢true e)

updates_at-length : (steps : List Step) (places : List ℕ) → list_all (is_do steps) places ≡ true → length (updates_at steps places) ≡ length places
updates_at-length steps [] h = refl
updates_at-length steps (i ∷ places) h =
    let both = and_parts (is_do steps i) (list_all (is_do steps) places) h in
    let here = update_there (slice_get steps i) both.0 in
    rw here.1 (ap suc (updates_at-length steps places both.1))

-- a log has an update for each place of its path
pub log-length : (steps : List Step) (x : ℕ) → length (log steps x) ≡ length (path steps x)
log-length steps x = updates_at-length steps (path steps x) (paths_do steps x)

-- the next place stands on no path yet
pub stands-next : (steps : List Step) (x : ℕ) → stands_on (path steps x) (length steps) ≡ false
stands-next steps x = elim (cases_Bool (stands_on (path steps x) (length steps))) [
  | inl there ↦ absurd (false≢true (sym (ap (λ (o : Option Step). is_some_revision (does_on o)) (slice_get-none steps (length steps) (omega arith))) ∙ path-there steps x (length steps) there))
  | inr none ↦ none
]
