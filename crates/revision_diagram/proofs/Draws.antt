-- What each kind of step draws.
use Rattle.std.proofs.Common.{◌≡◌, ℕ, ◌+◌, ◌<◌, Bool, true, false, cond, List, [], ◌∷◌, ◌++◌, length, drop, refl, sym, ap, subst, ◌∙◌, arith, Some, inl, inr}
use Rattle.std.specs.Prelude.{◌==◌, IsTrue}
use Rattle.std.proofs.lemmas.Bool.{or_left, ne_eqb, eq-eqb, cases_eq}
use Rattle.cloud_base.specs.declared.update.Update.{Update}
use Rattle.cloud_base.specs.declared.update.Query.{Query}
use Rattle.cloud_base.specs.declared.update.Answer.{Answer}
use Rattle.revision_diagram.specs.declared.step.Step.{Step}
use Rattle.revision_diagram.specs.declared.step.Step.TheVariants.{Fork, Join, Do, Ask, Say, Mark}
use Rattle.revision_diagram.specs.Diagram.{Diagram, diagram, after, put, with_place, with_past, acts_on, revisions, live, owner, past, path, fork, fork_length}
use Rattle.revision_diagram.proofs.Steps.{diagram-step, diagram-places}

-- a field of the longer diagram
drawn : {A : Type 0} (field : Diagram → A) (steps : List Step) (s : Step) → field (diagram (steps ++ s ∷ [])) ≡ field (after (diagram steps) s)
drawn field steps s = ap field (diagram-step steps s)

-- a fork
pub revisions-Fork : (steps : List Step) (r c : ℕ) → revisions (steps ++ Fork r c ∷ []) ≡ revisions steps + 1
revisions-Fork steps r c = drawn (λ d. d.revisions) steps (Fork r c)

pub live-Fork : (steps : List Step) (r c x : ℕ) → live (steps ++ Fork r c ∷ []) x ≡ put (revisions steps) true (live steps) x
live-Fork steps r c x = drawn (λ d. d.live x) steps (Fork r c)

pub owner-Fork : (steps : List Step) (r c x : ℕ) → owner (steps ++ Fork r c ∷ []) x ≡ put (revisions steps) (Some c) (owner steps) x
owner-Fork steps r c x = drawn (λ d. d.owner x) steps (Fork r c)

pub past-Fork : (steps : List Step) (r c x i : ℕ) → past (steps ++ Fork r c ∷ []) x i ≡ put (revisions steps) (with_place (past steps r) (length steps)) (put r (with_place (past steps r) (length steps)) (past steps)) x i
past-Fork steps r c x i =
    let p : ℕ → ℕ → Bool = λ n. put (revisions steps) (with_place (past steps r) n) (put r (with_place (past steps r) n) (past steps)) x in
    drawn (λ d. d.past x i) steps (Fork r c) ∙ ap (λ (n : ℕ). p n i) (diagram-places steps)

pub path-Fork : (steps : List Step) (r c x : ℕ) → path (steps ++ Fork r c ∷ []) x ≡ put (revisions steps) (path steps r) (path steps) x
path-Fork steps r c x = drawn (λ d. d.path x) steps (Fork r c)

pub fork-Fork : (steps : List Step) (r c x : ℕ) → fork (steps ++ Fork r c ∷ []) x ≡ put (revisions steps) (length steps) (fork steps) x
fork-Fork steps r c x = drawn (λ d. d.fork x) steps (Fork r c) ∙ ap (λ (n : ℕ). put (revisions steps) n (fork steps) x) (diagram-places steps)

pub fork_length-Fork : (steps : List Step) (r c x : ℕ) → fork_length (steps ++ Fork r c ∷ []) x ≡ put (revisions steps) (length (path steps r)) (fork_length steps) x
fork_length-Fork steps r c x = drawn (λ d. d.fork_length x) steps (Fork r c)

-- a join
pub live-Join : (steps : List Step) (r s x : ℕ) → live (steps ++ Join r s ∷ []) x ≡ put s false (live steps) x
live-Join steps r s x = drawn (λ d. d.live x) steps (Join r s)

pub past-Join : (steps : List Step) (r s x i : ℕ) → past (steps ++ Join r s ∷ []) x i ≡ put r (with_place (with_past (past steps r) (past steps s)) (length steps)) (past steps) x i
past-Join steps r s x i =
    let p : ℕ → ℕ → Bool = λ n. put r (with_place (with_past (past steps r) (past steps s)) n) (past steps) x in
    drawn (λ d. d.past x i) steps (Join r s) ∙ ap (λ (n : ℕ). p n i) (diagram-places steps)

pub path-Join : (steps : List Step) (r s x : ℕ) → path (steps ++ Join r s ∷ []) x ≡ put r (path steps r ++ drop (fork_length steps s) (path steps s)) (path steps) x
path-Join steps r s x = drawn (λ d. d.path x) steps (Join r s)

pub revisions-Join : (steps : List Step) (r s : ℕ) → revisions (steps ++ Join r s ∷ []) ≡ revisions steps
revisions-Join steps r s = drawn (λ d. d.revisions) steps (Join r s)

pub owner-Join : (steps : List Step) (r s x : ℕ) → owner (steps ++ Join r s ∷ []) x ≡ owner steps x
owner-Join steps r s x = drawn (λ d. d.owner x) steps (Join r s)

-- a Do, Ask, Say or Mark
revisions_acted : (d : Diagram) (r : ℕ) (s : Step) → acts_on s ≡ Some r → (after d s).revisions ≡ d.revisions
revisions_acted d r (Fork x c) e = cc
revisions_acted d r (Join x y) e = cc
revisions_acted d r (Do x u) e = refl
revisions_acted d r (Ask x q a) e = refl
revisions_acted d r (Say x v) e = refl
revisions_acted d r (Mark x flush) e = refl

live_acted : (x : ℕ) (d : Diagram) (r : ℕ) (s : Step) → acts_on s ≡ Some r → (after d s).live x ≡ d.live x
live_acted y d r (Fork x c) e = cc
live_acted y d r (Join x z) e = cc
live_acted y d r (Do x u) e = refl
live_acted y d r (Ask x q a) e = refl
live_acted y d r (Say x v) e = refl
live_acted y d r (Mark x flush) e = refl

owner_acted : (x : ℕ) (d : Diagram) (r : ℕ) (s : Step) → acts_on s ≡ Some r → (after d s).owner x ≡ d.owner x
owner_acted y d r (Fork x c) e = cc
owner_acted y d r (Join x z) e = cc
owner_acted y d r (Do x u) e = refl
owner_acted y d r (Ask x q a) e = refl
owner_acted y d r (Say x v) e = refl
owner_acted y d r (Mark x flush) e = refl

-- the past of a step on r
abbrev pub stepped_past : ℕ → Diagram → ℕ → ℕ → Bool
stepped_past r d x i = put r (with_place (d.past r) d.places) d.past x i

past_acted : (x i : ℕ) (d : Diagram) (r : ℕ) (s : Step) → acts_on s ≡ Some r → (after d s).past x i ≡ stepped_past r d x i
past_acted y i d r (Fork x c) e = cc
past_acted y i d r (Join x z) e = cc
past_acted y i d r (Do x u) e = let same : x ≡ r = cc in ap (λ (z : ℕ). stepped_past z d y i) same
past_acted y i d r (Ask x q a) e = let same : x ≡ r = cc in ap (λ (z : ℕ). stepped_past z d y i) same
past_acted y i d r (Say x v) e = let same : x ≡ r = cc in ap (λ (z : ℕ). stepped_past z d y i) same
past_acted y i d r (Mark x flush) e = let same : x ≡ r = cc in ap (λ (z : ℕ). stepped_past z d y i) same

pub revisions-act : (steps : List Step) (s : Step) (r : ℕ) → acts_on s ≡ Some r → revisions (steps ++ s ∷ []) ≡ revisions steps
revisions-act steps s r e = drawn (λ d. d.revisions) steps s ∙ revisions_acted (diagram steps) r s e

pub live-act : (steps : List Step) (s : Step) (r x : ℕ) → acts_on s ≡ Some r → live (steps ++ s ∷ []) x ≡ live steps x
live-act steps s r x e = drawn (λ d. d.live x) steps s ∙ live_acted x (diagram steps) r s e

pub owner-act : (steps : List Step) (s : Step) (r x : ℕ) → acts_on s ≡ Some r → owner (steps ++ s ∷ []) x ≡ owner steps x
owner-act steps s r x e = drawn (λ d. d.owner x) steps s ∙ owner_acted x (diagram steps) r s e

pub past-act : (steps : List Step) (s : Step) (r x i : ℕ) → acts_on s ≡ Some r → past (steps ++ s ∷ []) x i ≡ put r (with_place (past steps r) (length steps)) (past steps) x i
past-act steps s r x i e = drawn (λ d. d.past x i) steps s ∙ past_acted x i (diagram steps) r s e ∙ ap (λ (n : ℕ). put r (with_place (past steps r) n) (past steps) x i) (diagram-places steps)

pub path-Do : (steps : List Step) (r : ℕ) (u : Update) (x : ℕ) → path (steps ++ Do r u ∷ []) x ≡ put r (path steps r ++ length steps ∷ []) (path steps) x
path-Do steps r u x = drawn (λ d. d.path x) steps (Do r u) ∙ ap (λ (n : ℕ). put r (path steps r ++ n ∷ []) (path steps) x) (diagram-places steps)

pub path-Ask : (steps : List Step) (r : ℕ) (q : Query) (a : Answer) (x : ℕ) → path (steps ++ Ask r q a ∷ []) x ≡ path steps x
path-Ask steps r q a x = drawn (λ d. d.path x) steps (Ask r q a)

pub path-Say : (steps : List Step) (r : ℕ) (v : Answer) (x : ℕ) → path (steps ++ Say r v ∷ []) x ≡ path steps x
path-Say steps r v x = drawn (λ d. d.path x) steps (Say r v)

pub path-Mark : (steps : List Step) (r : ℕ) (flush : Bool) (x : ℕ) → path (steps ++ Mark r flush ∷ []) x ≡ path steps x
path-Mark steps r flush x = drawn (λ d. d.path x) steps (Mark r flush)

-- what is in a past stays there
kept_place : (past : ℕ → Bool) (n i : ℕ) → past i ≡ true → with_place past n i ≡ true
kept_place past n i h = or_left (past i) (i == n) h

grows_by : (r n : ℕ) (more : ℕ → Bool) (past : ℕ → ℕ → Bool) (x i : ℕ) → past x i ≡ true → (past r i ≡ true → more i ≡ true) → put r (with_place more n) past x i ≡ true
grows_by r n more past x i h k = elim (cases_eq x r) [
  | inl same ↦ subst (λ (b : Bool). cond b (with_place more n) (past x) i ≡ true) (sym (eq-eqb x r same)) (kept_place more n i (k (subst (λ (z : ℕ). past z i ≡ true) same h)))
  | inr other ↦ subst (λ (b : Bool). cond b (with_place more n) (past x) i ≡ true) (sym (ne_eqb x r other)) h
]

grows : (d : Diagram) (s : Step) (x i : ℕ) → x < d.revisions → d.past x i ≡ true → (after d s).past x i ≡ true
grows d (Fork r c) x i l h = subst (λ (b : Bool). cond b (with_place (d.past r) d.places) (put r (with_place (d.past r) d.places) d.past x) i ≡ true) (sym (ne_eqb x d.revisions (λ e. omega arith))) (grows_by r d.places (d.past r) d.past x i h (λ k. k))
grows d (Join r s) x i l h = grows_by r d.places (with_past (d.past r) (d.past s)) d.past x i h (λ k. or_left (d.past r i) (d.past s i) k)
grows d (Do r u) x i l h = grows_by r d.places (d.past r) d.past x i h (λ k. k)
grows d (Ask r q a) x i l h = grows_by r d.places (d.past r) d.past x i h (λ k. k)
grows d (Say r v) x i l h = grows_by r d.places (d.past r) d.past x i h (λ k. k)
grows d (Mark r flush) x i l h = grows_by r d.places (d.past r) d.past x i h (λ k. k)

pub past-grows : (steps : List Step) (s : Step) (x i : ℕ) → x < revisions steps → IsTrue (past steps x i) → IsTrue (past (steps ++ s ∷ []) x i)
past-grows steps s x i l h = drawn (λ d. d.past x i) steps s ∙ grows (diagram steps) s x i l h
