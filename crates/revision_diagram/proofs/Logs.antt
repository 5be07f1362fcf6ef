-- Paths hold places of Do steps alone, so a log grows with its path.
use Rattle.std.proofs.Common.{◌≡◌, ℕ, zero, suc, ◌<◌, ◌≤◌, Bool, true, false, cond, List, [], ◌∷◌, ◌++◌, length, drop, take, refl, sym, ap, ◌∙◌, arith, Option, Some, None}
use Rattle.std.specs.Prelude.{◌==◌, slice_get}
use Rattle.std.specs.List.{list_all}
use Rattle.std.proofs.lemmas.Bool.{and_parts, and_from, false≢true}
use Rattle.std.proofs.lemmas.List.{take-append-drop}
use Rattle.std.proofs.lemmas.List.Folds.{list_all-append}
use Rattle.std.proofs.lemmas.List.Elements.{filter_map-append}
use Rattle.cloud_base.specs.declared.update.Update.{Update}
use Rattle.cloud_base.specs.declared.update.Query.{Query}
use Rattle.cloud_base.specs.declared.update.Answer.{Answer}
use Rattle.revision_diagram.specs.declared.step.Step.{Step}
use Rattle.revision_diagram.specs.declared.step.Step.TheVariants.{Fork, Join, Do, Ask, Say, Mark}
use Rattle.revision_diagram.specs.Diagram.{put, revisions, path, fork_length}
use Rattle.revision_diagram.specs.Right.{update_of, updates_at, log}
use Rattle.revision_diagram.specs.Once.{does_on, is_some_revision, is_do}
use Rattle.revision_diagram.proofs.Steps.{by_steps}
use Rattle.revision_diagram.proofs.Range.{put-cases}
use Rattle.revision_diagram.proofs.Draws.{path-Fork, path-Join, path-Do, path-Ask, path-Say, path-Mark}

pub slice_get-front : (xs ys : List Step) (i : ℕ) → i < length xs → slice_get (xs ++ ys) i ≡ slice_get xs i
slice_get-front [] ys i l = absurd (omega arith)
slice_get-front (x ∷ xs) ys zero l = refl
slice_get-front (x ∷ xs) ys (suc i) l = slice_get-front xs ys i (omega arith)

pub slice_get-last : (xs : List Step) (s : Step) → slice_get (xs ++ s ∷ []) (length xs) ≡ Some s
slice_get-last [] s = refl
slice_get-last (x ∷ xs) s = slice_get-last xs s

pub slice_get-none : (xs : List Step) (i : ℕ) → length xs ≤ i → slice_get xs i ≡ None
slice_get-none [] i l = refl
slice_get-none (x ∷ xs) zero l = absurd (omega arith)
slice_get-none (x ∷ xs) (suc i) l = slice_get-none xs i (omega arith)

-- a step that is there stays
pub slice_get-kept : (xs ys : List Step) (i : ℕ) (s : Step) → slice_get xs i ≡ Some s → slice_get (xs ++ ys) i ≡ Some s
slice_get-kept [] ys i s e = cc
slice_get-kept (x ∷ xs) ys zero s e = e
slice_get-kept (x ∷ xs) ys (suc i) s e = slice_get-kept xs ys i s e

does_kept : (xs ys : List Step) (i : ℕ) → is_do xs i ≡ true → slice_get (xs ++ ys) i ≡ slice_get xs i
does_kept [] ys i e = absurd (false≢true e)
does_kept (x ∷ xs) ys zero e = refl
does_kept (x ∷ xs) ys (suc i) e = does_kept xs ys i e

pub is_do-kept : (xs ys : List Step) (i : ℕ) → is_do xs i ≡ true → is_do (xs ++ ys) i ≡ true
is_do-kept xs ys i e = ap (λ (o : Option Step). is_some_revision (does_on o)) (does_kept xs ys i e) ∙ e

pub all_do-kept : (xs ys : List Step) (places : List ℕ) → list_all (is_do xs) places ≡ true → list_all (is_do (xs ++ ys)) places ≡ true
all_do-kept xs ys [] h = refl
all_do-kept xs ys (i ∷ places) h =
    let both = and_parts (is_do xs i) (list_all (is_do xs) places) h in
    and_from (is_do (xs ++ ys) i) (list_all (is_do (xs ++ ys)) places) (is_do-kept xs ys i both.0) (all_do-kept xs ys places both.1)

pub all-append : (p : ℕ → Bool) (xs ys : List ℕ) → list_all p xs ≡ true → list_all p ys ≡ true → list_all p (xs ++ ys) ≡ true
all-append p xs ys h k = list_all-append p xs ys ∙ and_from (list_all p xs) (list_all p ys) h k

pub all-drop : (p : ℕ → Bool) (n : ℕ) (xs : List ℕ) → list_all p xs ≡ true → list_all p (drop n xs) ≡ true
all-drop p n xs h =
    let whole = sym (list_all-append p (take n xs) (drop n xs)) ∙ ap (list_all p) (take-append-drop n xs) ∙ h in
    (and_parts (list_all p (take n xs)) (list_all p (drop n xs)) whole).1

-- each place on a path is one of a Do step
abbrev pub PathsDo : List Step → Type 0
PathsDo steps = (r : ℕ) → list_all (is_do steps) (path steps r) ≡ true

all_do_at : (steps : List Step) (s : Step) (r x : ℕ) (more : List ℕ) → PathsDo steps → list_all (is_do (steps ++ s ∷ [])) more ≡ true → list_all (is_do (steps ++ s ∷ [])) (put r more (path steps) x) ≡ true
all_do_at steps s r x more h k = put-cases (λ (p : List ℕ). list_all (is_do (steps ++ s ∷ [])) p ≡ true) r more (path steps) x k (all_do-kept steps (s ∷ []) (path steps x) (h x))

is_do-last : (steps : List Step) (r : ℕ) (u : Update) → is_do (steps ++ Do r u ∷ []) (length steps) ≡ true
is_do-last steps r u = ap (λ (o : Option Step). is_some_revision (does_on o)) (slice_get-last steps (Do r u))

paths_do_more : (steps : List Step) (s : Step) → PathsDo steps → PathsDo (steps ++ s ∷ [])
paths_do_more steps (Fork r c) h x = rw (path-Fork steps r c x) (all_do_at steps (Fork r c) (revisions steps) x (path steps r) h (all_do-kept steps (Fork r c ∷ []) (path steps r) (h r)))
paths_do_more steps (Join r s) h x = rw (path-Join steps r s x) (all_do_at steps (Join r s) r x (path steps r ++ drop (fork_length steps s) (path steps s)) h
    (all-append (is_do (steps ++ Join r s ∷ [])) (path steps r) (drop (fork_length steps s) (path steps s))
    (all_do-kept steps (Join r s ∷ []) (path steps r) (h r))
    (all-drop (is_do (steps ++ Join r s ∷ [])) (fork_length steps s) (path steps s) (all_do-kept steps (Join r s ∷ []) (path steps s) (h s)))))
paths_do_more steps (Do r u) h x = rw (path-Do steps r u x) (all_do_at steps (Do r u) r x (path steps r ++ length steps ∷ []) h
    (all-append (is_do (steps ++ Do r u ∷ [])) (path steps r) (length steps ∷ [])
    (all_do-kept steps (Do r u ∷ []) (path steps r) (h r))
    (and_from (is_do (steps ++ Do r u ∷ []) (length steps)) true (is_do-last steps r u) refl)))
paths_do_more steps (Ask r q a) h x = rw (path-Ask steps r q a x) (all_do-kept steps (Ask r q a ∷ []) (path steps x) (h x))
paths_do_more steps (Say r v) h x = rw (path-Say steps r v x) (all_do-kept steps (Say r v ∷ []) (path steps x) (h x))
paths_do_more steps (Mark r flush) h x = rw (path-Mark steps r flush x) (all_do-kept steps (Mark r flush ∷ []) (path steps x) (h x))

pub paths_do : (steps : List Step) → PathsDo steps
paths_do steps = by_steps PathsDo (λ r. refl) paths_do_more steps

-- their updates do not change as steps are added
pub updates_at-kept : (xs ys : List Step) (places : List ℕ) → list_all (is_do xs) places ≡ true → updates_at (xs ++ ys) places ≡ updates_at xs places
updates_at-kept xs ys [] h = refl
updates_at-kept xs ys (i ∷ places) h =
    let both = and_parts (is_do xs i) (list_all (is_do xs) places) h in
    rw (does_kept xs ys i both.0, updates_at-kept xs ys places both.1) refl

-- what a path had before the step, it still logs
pub log-kept : (steps : List Step) (s : Step) (x : ℕ) → updates_at (steps ++ s ∷ []) (path steps x) ≡ log steps x
log-kept steps s x = updates_at-kept steps (s ∷ []) (path steps x) (paths_do steps x)

updates_at-append : (steps : List Step) (xs ys : List ℕ) → updates_at steps (xs ++ ys) ≡ updates_at steps xs ++ updates_at steps ys
updates_at-append steps xs ys = filter_map-append (λ i. update_of (slice_get steps i)) xs ys

update_there : (o : Option Step) → is_some_revision (does_on o) ≡ true → (u : Update) × (update_of o ≡ Some u)
update_there None e = absurd (false≢true e)
update_there (Some (Fork r c)) e = absurd (false≢true e)
update_there (Some (Join r s)) e = absurd (false≢true e)
update_there (Some (Do r u)) e = (u, refl)
update_there (Some (Ask r q a)) e = absurd (false≢true e)
update_there (Some (Say r v)) e = absurd (false≢true e)
update_there (Some (Mark r flush)) e = absurd (false≢true e)

-- each of these places has an update, so to leave some out is to leave their updates out
pub updates_at-drop : (steps : List Step) (n : ℕ) (places : List ℕ) → list_all (is_do steps) places ≡ true → updates_at steps (drop n places) ≡ drop n (updates_at steps places)
updates_at-drop steps zero places h = refl
updates_at-drop steps (suc n) [] h = refl
updates_at-drop steps (suc n) (i ∷ places) h =
    let both = and_parts (is_do steps i) (list_all (is_do steps) places) h in
    let here = update_there (slice_get steps i) both.0 in
    rw here.1 (updates_at-drop steps n places both.1)

logged : (steps : List Step) (s : Step) (x : ℕ) (places : List ℕ) → path (steps ++ s ∷ []) x ≡ places → log (steps ++ s ∷ []) x ≡ updates_at (steps ++ s ∷ []) places
logged steps s x places e = ap (updates_at (steps ++ s ∷ [])) e

put_log : (f : List ℕ → List Update) (r x : ℕ) (v : List ℕ) (g : ℕ → List ℕ) (w : List Update) (k : ℕ → List Update) → f v ≡ w → f (g x) ≡ k x → f (put r v g x) ≡ put r w k x
put_log f r x v g w k e h = elim (x == r) as (λ b. f (cond b v (g x)) ≡ cond b w (k x)) [ true ↦ e | false ↦ h ]

pub log-Fork : (steps : List Step) (r c x : ℕ) → log (steps ++ Fork r c ∷ []) x ≡ put (revisions steps) (log steps r) (log steps) x
log-Fork steps r c x =
    logged steps (Fork r c) x (put (revisions steps) (path steps r) (path steps) x) (path-Fork steps r c x)
    ∙ put_log (updates_at (steps ++ Fork r c ∷ [])) (revisions steps) x (path steps r) (path steps) (log steps r) (log steps) (log-kept steps (Fork r c) r) (log-kept steps (Fork r c) x)

pub log-Join : (steps : List Step) (r s x : ℕ) → log (steps ++ Join r s ∷ []) x ≡ put r (log steps r ++ drop (fork_length steps s) (log steps s)) (log steps) x
log-Join steps r s x =
    let longer : List Step = steps ++ Join r s ∷ [] in
    let tail : updates_at longer (drop (fork_length steps s) (path steps s)) ≡ drop (fork_length steps s) (log steps s) =
    updates_at-drop longer (fork_length steps s) (path steps s) (all_do-kept steps (Join r s ∷ []) (path steps s) (paths_do steps s)) ∙ ap (drop (fork_length steps s)) (log-kept steps (Join r s) s) in
    let whole : updates_at longer (path steps r ++ drop (fork_length steps s) (path steps s)) ≡ log steps r ++ drop (fork_length steps s) (log steps s) =
    updates_at-append longer (path steps r) (drop (fork_length steps s) (path steps s)) ∙ ap (λ (t : List Update). t ++ updates_at longer (drop (fork_length steps s) (path steps s))) (log-kept steps (Join r s) r) ∙ ap (λ (t : List Update). log steps r ++ t) tail in
    logged steps (Join r s) x (put r (path steps r ++ drop (fork_length steps s) (path steps s)) (path steps) x) (path-Join steps r s x)
    ∙ put_log (updates_at longer) r x (path steps r ++ drop (fork_length steps s) (path steps s)) (path steps) (log steps r ++ drop (fork_length steps s) (log steps s)) (log steps) whole (log-kept steps (Join r s) x)

pub log-Do : (steps : List Step) (r : ℕ) (u : Update) (x : ℕ) → log (steps ++ Do r u ∷ []) x ≡ put r (log steps r ++ u ∷ []) (log steps) x
log-Do steps r u x =
    let longer : List Step = steps ++ Do r u ∷ [] in
    let whole : updates_at longer (path steps r ++ length steps ∷ []) ≡ log steps r ++ u ∷ [] =
    updates_at-append longer (path steps r) (length steps ∷ []) ∙ ap (λ (t : List Update). t ++ updates_at longer (length steps ∷ [])) (log-kept steps (Do r u) r) ∙ rw (slice_get-last steps (Do r u)) refl in
    logged steps (Do r u) x (put r (path steps r ++ length steps ∷ []) (path steps) x) (path-Do steps r u x)
    ∙ put_log (updates_at longer) r x (path steps r ++ length steps ∷ []) (path steps) (log steps r ++ u ∷ []) (log steps) whole (log-kept steps (Do r u) x)

pub log-Ask : (steps : List Step) (r : ℕ) (q : Query) (a : Answer) (x : ℕ) → log (steps ++ Ask r q a ∷ []) x ≡ log steps x
log-Ask steps r q a x = logged steps (Ask r q a) x (path steps x) (path-Ask steps r q a x) ∙ log-kept steps (Ask r q a) x

pub log-Say : (steps : List Step) (r : ℕ) (v : Answer) (x : ℕ) → log (steps ++ Say r v ∷ []) x ≡ log steps x
log-Say steps r v x = logged steps (Say r v) x (path steps x) (path-Say steps r v x) ∙ log-kept steps (Say r v) x

pub log-Mark : (steps : List Step) (r : ℕ) (flush : Bool) (x : ℕ) → log (steps ++ Mark r flush ∷ []) x ≡ log steps x
log-Mark steps r flush x = logged steps (Mark r flush) x (path steps x) (path-Mark steps r flush x) ∙ log-kept steps (Mark r flush) x
