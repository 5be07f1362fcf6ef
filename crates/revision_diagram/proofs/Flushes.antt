-- When a flush is met, and that it stays so.
use Rattle.std.proofs.Common.{◌≡◌, ℕ, zero, suc, ◌+◌, ◌<◌, ◌≤◌, Bool, true, false, cond, List, [], ◌∷◌, ◌++◌, length, take, refl, sym, ap, subst, ◌∙◌, arith, Option, Some, None, inl, inr, length-append, nat_lt}
use Rattle.std.specs.Prelude.{◌↔◌, ◌≢◌, ◌||◌, ◌==◌, IsTrue, slice_get, MatchOption, ⊤}
use Rattle.std.specs.List.{AllByRecursion}
use Rattle.std.proofs.lemmas.Bool.{cases_Bool, cases_lt, cases_eq, eq-eqb, ne_eqb, or_cases, or_left, or_right, eqb-true, false≢true}
use Rattle.std.proofs.lemmas.Bool.Decides.{nat_tests}
use Rattle.std.proofs.lemmas.List.{take-append-le}
use Rattle.std.proofs.lemmas.List.Folds.{list_any-append}
use Rattle.std.proofs.Math.Seq.{take-append_seam}
use Rattle.revision_diagram.specs.declared.step.Step.{Step}
use Rattle.revision_diagram.specs.declared.step.Step.TheVariants.{Fork, Join, Do, Ask, Say, Mark}
use Rattle.revision_diagram.specs.Diagram.{places_of, acts_on, is_of, revisions, owner, past}
use Rattle.revision_diagram.specs.Once.{stands_on}
use Rattle.revision_diagram.specs.Story.{is_told, is_act_of, story}
use Rattle.revision_diagram.specs.Meeting.{Tree, acts_at, owner_of, client_at, is_flush, flushes, first_above, newest_below, newest, past_of, sees_by, is_join_up, joins_up, is_fork_down, forks_down, Flushed, FlushLaw}
use Rattle.revision_diagram.proofs.Steps.{by_steps, onwards, places_of-step}
use Rattle.revision_diagram.proofs.Draws.{revisions-Fork, owner-Fork, revisions-Join, owner-Join, revisions-act, owner-act}
use Rattle.revision_diagram.proofs.Logs.{slice_get-front, slice_get-last, slice_get-none}
use Rattle.revision_diagram.proofs.Stories.{all_under, places_of-under, story-step, story-told, story-untold}
use Rattle.revision_diagram.proofs.KeepsOnce.{put-here, put-else}

-- ---- the places of the steps that pass
abbrev pub passes_at : (List Step → Step → Bool) → List Step → Option Step → Bool
passes_at test front (Some s) = test front s
passes_at test front None = false

last_stands : (b : Bool) (n i : ℕ) → (n ≡ i → ⊥) → stands_on (cond b (n ∷ []) []) i ≡ false
last_stands true n i other = ap (λ (t : Bool). t || false) (ne_eqb n i other)
last_stands false n i other = refl

stands_last : (b : Bool) (n : ℕ) → stands_on (cond b (n ∷ []) []) n ≡ b
stands_last true n = ap (λ (t : Bool). t || false) (eq-eqb n n refl)
stands_last false n = refl

or_false : (b : Bool) → (b || false) ≡ b
or_false true = refl
or_false false = refl

-- a place stands among them where its step passes
abbrev pub PassesAt : (List Step → Step → Bool) → List Step → Type 0
PassesAt test steps = (i : ℕ) → stands_on (places_of test steps) i ≡ passes_at test (take i steps) (slice_get steps i)

passes_more : (test : List Step → Step → Bool) (front : List Step) (s : Step) → PassesAt test front → PassesAt test (front ++ s ∷ [])
passes_more test front s h i =
    let n : ℕ = length front in
    let added : List ℕ = cond (test front s) (length front ∷ []) [] in
    let parts : stands_on (places_of test (front ++ s ∷ [])) i ≡ (stands_on (places_of test front) i || stands_on (cond (test front s) (length front ∷ []) []) i) = ap (λ (t : List ℕ). stands_on t i) (places_of-step test front s) ∙ list_any-append (λ j. j == i) (places_of test front) added in
    elim (cases_lt i (length front)) [
      | inl within ↦ parts ∙ ap (λ (b : Bool). stands_on (places_of test front) i || b) (last_stands (test front s) (length front) i (λ e. omega arith)) ∙ or_false (stands_on (places_of test front) i) ∙ h i
          ∙ ap (passes_at test (take i front)) (sym (slice_get-front front (s ∷ []) i within))
          ∙ ap (λ (f : List Step). passes_at test f (slice_get (front ++ s ∷ []) i)) (sym (take-append-le i front (s ∷ []) (omega arith)))
      | inr past_end ↦
          let none : stands_on (places_of test front) i ≡ false = h i ∙ ap (passes_at test (take i front)) (slice_get-none front i past_end) in
          elim (cases_eq i (length front)) [
            | inl last ↦ subst (λ (k : ℕ). stands_on (places_of test (front ++ s ∷ [])) k ≡ passes_at test (take k (front ++ s ∷ [])) (slice_get (front ++ s ∷ []) k)) (sym last)
                (let here : stands_on (places_of test front) (length front) ≡ false = subst (λ (k : ℕ). stands_on (places_of test front) k ≡ false) last none in
                ap (λ (t : List ℕ). stands_on t (length front)) (places_of-step test front s) ∙ list_any-append (λ j. j == length front) (places_of test front) added
                ∙ ap (λ (b : Bool). b || stands_on added (length front)) here ∙ stands_last (test front s) (length front)
                ∙ sym (ap (λ (f : List Step). passes_at test f (slice_get (front ++ s ∷ []) (length front))) (take-append_seam front (s ∷ [])) ∙ ap (passes_at test front) (slice_get-last front s)))
            | inr beyond ↦ parts ∙ ap (λ (b : Bool). b || stands_on added i) none ∙ last_stands (test front s) (length front) i (λ e. beyond (sym e))
                ∙ sym (ap (passes_at test (take i (front ++ s ∷ []))) (slice_get-none (front ++ s ∷ []) i (omega (arith, length-append front (s ∷ [])))))
          ]
    ]

pub places_of-at : (test : List Step → Step → Bool) (steps : List Step) → PassesAt test steps
places_of-at test steps = by_steps (PassesAt test) (λ i. refl) (passes_more test) steps

-- ---- the flush law, place by place
all_at_place : (P : ℕ → Type 0) (xs : List ℕ) (i : ℕ) → AllByRecursion P xs → stands_on xs i ≡ true → P i
all_at_place P [] i h k = absurd (false≢true k)
all_at_place P (j ∷ xs) i h k = elim (or_cases (j == i) (stands_on xs i) k) [
  | inl here ↦ subst P (eqb-true j i here) h.0
  | inr there ↦ all_at_place P xs i h.1 there
]

all_by_place : (P : ℕ → Type 0) (xs : List ℕ) → ((i : ℕ) → stands_on xs i ≡ true → P i) → AllByRecursion P xs
all_by_place P [] h = tt
all_by_place P (j ∷ xs) h = (h j (or_left (j == j) (stands_on xs j) (eq-eqb j j refl)), all_by_place P xs (λ i k. h i (or_right (j == i) (stands_on xs i) k)))

abbrev flush_test : List Step → Step → Bool
flush_test front s = is_flush s

flush_there : (o : Option Step) (front : List Step) → passes_at flush_test front o ≡ true → (r : ℕ) × (o ≡ Some (Mark r true))
flush_there None front h = absurd (false≢true h)
flush_there (Some (Fork r c)) front h = absurd (false≢true h)
flush_there (Some (Join r s)) front h = absurd (false≢true h)
flush_there (Some (Do r u)) front h = absurd (false≢true h)
flush_there (Some (Ask r q a)) front h = absurd (false≢true h)
flush_there (Some (Say r v)) front h = absurd (false≢true h)
flush_there (Some (Mark r true)) front h = (r, refl)
flush_there (Some (Mark r false)) front h = absurd (false≢true h)

-- what is said of a flush of a client
abbrev MetBy : Tree → List Step → ℕ → Option ℕ → Type 0
MetBy tree steps i o = MatchOption o ⊤ (λ c. Flushed tree steps i c)

met_for : (tree : Tree) (steps : List Step) (i : ℕ) (o : Option ℕ) → ((c : ℕ) → o ≡ Some c → Flushed tree steps i c) → MetBy tree steps i o
met_for tree steps i None h = tt
met_for tree steps i (Some c) h = h c refl

pub FlushLaw-by_place : (tree : Tree) (steps : List Step) → FlushLaw tree steps ↔ ((i r c : ℕ) → slice_get steps i ≡ Some (Mark r true) → owner (take i steps) r ≡ Some c → Flushed tree steps i c)
FlushLaw-by_place tree steps = (
  λ h i r c e o.
      let stands : stands_on (flushes steps) i ≡ true = places_of-at flush_test steps i ∙ ap (passes_at flush_test (take i steps)) e in
      let whose : client_at steps i ≡ Some c = ap (λ (s : Option Step). owner_of (take i steps) (acts_at s)) e ∙ o in
      subst (MetBy tree steps i) whose (all_at_place (λ j. MetBy tree steps j (client_at steps j)) (flushes steps) i h stands),
  λ h. all_by_place (λ j. MetBy tree steps j (client_at steps j)) (flushes steps) (λ i k.
      let mark = flush_there (slice_get steps i) (take i steps) (sym (places_of-at flush_test steps i) ∙ k) in
      let whose : client_at steps i ≡ owner (take i steps) mark.0 = ap (λ (s : Option Step). owner_of (take i steps) (acts_at s)) mark.1 in
      met_for tree steps i (client_at steps i) (λ c e. h i mark.0 c mark.1 (sym whose ∙ e))),
)

-- ---- the client's next story step
above_by : (b : Bool) (x n : ℕ) (o p : Option ℕ) → (o ≡ Some n → p ≡ Some n) → cond b (Some x) o ≡ Some n → cond b (Some x) p ≡ Some n
above_by true x n o p h e = e
above_by false x n o p h e = h e

first_above-kept : (i n : ℕ) (xs ys : List ℕ) → first_above i xs ≡ Some n → first_above i (xs ++ ys) ≡ Some n
first_above-kept i n [] ys e = cc
first_above-kept i n (x ∷ xs) ys e = above_by (nat_lt i x) x n (first_above i xs) (first_above i (xs ++ ys)) (first_above-kept i n xs ys) e

within_by : (b : Bool) (m x n : ℕ) (o : Option ℕ) → x < m → (o ≡ Some n → n < m) → cond b (Some x) o ≡ Some n → n < m
within_by true m x n o l h e = let same : x ≡ n = cc in omega arith
within_by false m x n o l h e = h e

first_above-within : (m i n : ℕ) (xs : List ℕ) → all_under m xs → first_above i xs ≡ Some n → n < m
first_above-within m i n [] u e = let no : None ≡ Some n = e in absurd (cc no)
first_above-within m i n (x ∷ xs) u e = within_by (nat_lt i x) m x n (first_above i xs) u.0 (first_above-within m i n xs u.1) e

lt_false : (i x : ℕ) → x ≤ i → nat_lt i x ≡ false
lt_false i x l = grind (arith, nat_tests)

lt_true : (i x : ℕ) → i < x → nat_lt i x ≡ true
lt_true i x l = grind (arith, nat_tests)

-- none is above all of them
first_above-none : (i : ℕ) (xs : List ℕ) → all_under i xs → first_above i xs ≡ None
first_above-none i [] u = refl
first_above-none i (x ∷ xs) u = let l : x < i = u.0 in ap (λ (b : Bool). cond b (Some x) (first_above i xs)) (lt_false i x (omega arith)) ∙ first_above-none i xs u.1

last_by : (b : Bool) (x : ℕ) (o p q : Option ℕ) → cond b (Some x) o ≡ None → (o ≡ None → p ≡ q) → cond b (Some x) p ≡ q
last_by true x o p q e h = let no : Some x ≡ None = e in absurd (cc no)
last_by false x o p q e h = h e

first_above-last : (i n : ℕ) (xs : List ℕ) → first_above i xs ≡ None → i < n → first_above i (xs ++ n ∷ []) ≡ Some n
first_above-last i n [] e l = ap (λ (b : Bool). cond b (Some n) None) (lt_true i n l)
first_above-last i n (x ∷ xs) e l = last_by (nat_lt i x) x (first_above i xs) (first_above i (xs ++ n ∷ [])) (Some n) e (λ k. first_above-last i n xs k l)

none_last : (n : ℕ) (xs : List ℕ) → all_under n xs → first_above n (xs ++ n ∷ []) ≡ None
none_last n [] u = ap (λ (b : Bool). cond b (Some n) None) (lt_false n n (omega arith))
none_last n (x ∷ xs) u = let l : x < n = u.0 in ap (λ (b : Bool). cond b (Some x) (first_above n (xs ++ n ∷ []))) (lt_false n x (omega arith)) ∙ none_last n xs u.1

-- a client has no story step behind the last step
pub first_above-next : (steps : List Step) (s : Step) (c : ℕ) → first_above (length steps) (story (steps ++ s ∷ []) c) ≡ None
first_above-next steps s c = elim (cases_Bool (is_told c steps s)) [
  | inl told ↦ ap (first_above (length steps)) (story-told steps s c told) ∙ none_last (length steps) (story steps c) (places_of-under (is_told c) steps)
  | inr untold ↦ ap (first_above (length steps)) (story-untold steps s c untold) ∙ first_above-none (length steps) (story steps c) (places_of-under (is_told c) steps)
]

pub first_above-untold : (steps : List Step) (s : Step) (i c : ℕ) → is_told c steps s ≡ false → first_above i (story (steps ++ s ∷ []) c) ≡ first_above i (story steps c)
first_above-untold steps s i c e = ap (first_above i) (story-untold steps s c e)

first_above-more : (steps : List Step) (s : Step) (i c n : ℕ) → first_above i (story steps c) ≡ Some n → first_above i (story (steps ++ s ∷ []) c) ≡ Some n
first_above-more steps s i c n e = ap (first_above i) (story-step steps s c) ∙ first_above-kept i n (story steps c) (cond (is_told c steps s) (length steps ∷ []) []) e

-- ---- what was joined and forked
there_by : (steps : List Step) (i : ℕ) (test : Option Step → Bool) → test None ≡ false → test (slice_get steps i) ≡ true → i < length steps
there_by steps i test none h = elim (cases_lt i (length steps)) [
  | inl within ↦ within
  | inr past_end ↦ absurd (false≢true (sym none ∙ ap test (sym (slice_get-none steps i past_end)) ∙ h))
]

-- a test of a place and of the steps before it stays
test_kept : (test : List Step → Option Step → Bool) (steps more : List Step) (i : ℕ) → i < length steps → test (take i (steps ++ more)) (slice_get (steps ++ more) i) ≡ test (take i steps) (slice_get steps i)
test_kept test steps more i l =
    ap (λ (t : List Step). test t (slice_get (steps ++ more) i)) (take-append-le i steps more (omega arith)) ∙ ap (test (take i steps)) (slice_get-front steps more i l)

pub joins_up-kept : (tree : Tree) (steps more : List Step) (c i j : ℕ) → IsTrue (joins_up tree steps c i j) → IsTrue (joins_up tree (steps ++ more) c i j)
joins_up-kept tree steps more c i j h = test_kept (λ front o. is_join_up tree front c i o) steps more j (there_by steps j (is_join_up tree (take j steps) c i) refl h) ∙ h

pub forks_down-kept : (tree : Tree) (steps more : List Step) (c k : ℕ) → IsTrue (forks_down tree steps c k) → IsTrue (forks_down tree (steps ++ more) c k)
forks_down-kept tree steps more c k h = test_kept (λ front o. is_fork_down tree front c o) steps more k (there_by steps k (is_fork_down tree (take k steps) c) refl h) ∙ h

-- what a step saw stays
sees_kept : (steps : List Step) (s : Step) (c n k : ℕ) → n < length steps → sees_by (steps ++ s ∷ []) c (Some n) k ≡ sees_by steps c (Some n) k
sees_kept steps s c n k l = test_kept (λ front o. past_of front (acts_at o) k) steps (s ∷ []) n l

-- ---- a flush that is met
-- and its client went on at place n
record MetAt (tree : Tree) (steps : List Step) (i c n : ℕ) : Type 0 where
  next : first_above i (story steps c) ≡ Some n
  met : Flushed tree steps i c

met_more : (tree : Tree) (i c n : ℕ) (steps : List Step) (s : Step) → MetAt tree steps i c n → MetAt tree (steps ++ s ∷ []) i c n
met_more tree i c n steps s h =
    let longer : List Step = steps ++ s ∷ [] in
    let next : first_above i (story (steps ++ s ∷ []) c) ≡ Some n = first_above-more steps s i c n h.next in
    let within : n < length steps = first_above-within (length steps) i n (story steps c) (places_of-under (is_told c) steps) h.next in
    let seen : IsTrue (sees_by steps c (Some n) h.met.fork) = subst (λ (o : Option ℕ). IsTrue (sees_by steps c o h.met.fork)) h.next h.met.seen in
    record {
      next = next;
      met = record {
        join = h.met.join;
        fork = h.met.fork;
        joined = joins_up-kept tree steps (s ∷ []) c i h.met.join h.met.joined;
        forked = forks_down-kept tree steps (s ∷ []) c h.met.fork h.met.forked;
        later = h.met.later;
        seen = subst (λ (o : Option ℕ). IsTrue (sees_by longer c o h.met.fork)) (sym next) (sees_kept steps s c n h.met.fork within ∙ seen);
      };
    }

pub Flushed-kept : (tree : Tree) (steps more : List Step) (i c n : ℕ) → first_above i (story steps c) ≡ Some n → Flushed tree steps i c → Flushed tree (steps ++ more) i c
Flushed-kept tree steps more i c n e h =
    let last : MetAt tree (steps ++ more) i c n = onwards (λ (t : List Step). MetAt tree t i c n) (λ front s k. met_more tree i c n front s k) steps more (record { next = e; met = h }) in last.met

-- its client goes on, and has seen the fork
pub Flushed-next : (tree : Tree) (steps : List Step) (s : Step) (r c i join fork : ℕ) → acts_on s ≡ Some r → owner steps r ≡ Some c → i < length steps → first_above i (story steps c) ≡ None
    → IsTrue (joins_up tree steps c i join) → IsTrue (forks_down tree steps c fork) → join < fork → IsTrue (past steps r fork) → Flushed tree (steps ++ s ∷ []) i c
Flushed-next tree steps s r c i join fork acts mine l none joined forked later seen =
    let longer : List Step = steps ++ s ∷ [] in
    let told : is_told c steps s ≡ true = ap (is_act_of c steps) acts ∙ ap (is_of c) mine ∙ eq-eqb c c refl in
    let next : first_above i (story (steps ++ s ∷ []) c) ≡ Some (length steps) = ap (first_above i) (story-told steps s c told) ∙ first_above-last i (length steps) (story steps c) none l in
    let here : past_of (take (length steps) longer) (acts_at (slice_get longer (length steps))) fork ≡ true =
    ap (λ (t : List Step). past_of t (acts_at (slice_get (steps ++ s ∷ []) (length steps))) fork) (take-append_seam steps (s ∷ [])) ∙ ap (λ (o : Option Step). past_of steps (acts_at o) fork) (slice_get-last steps s)
    ∙ ap (λ (o : Option ℕ). past_of steps o fork) acts ∙ seen in
    record {
      join = join;
      fork = fork;
      joined = joins_up-kept tree steps (s ∷ []) c i join joined;
      forked = forks_down-kept tree steps (s ∷ []) c fork forked;
      later = later;
      seen = subst (λ (o : Option ℕ). IsTrue (sees_by longer c o fork)) (sym next) here;
    }

-- its client does no more, and its newest revision has seen the fork
pub Flushed-last : (tree : Tree) (steps : List Step) (r c i join fork : ℕ) → first_above i (story steps c) ≡ None → newest steps c ≡ Some r
    → IsTrue (joins_up tree steps c i join) → IsTrue (forks_down tree steps c fork) → join < fork → IsTrue (past steps r fork) → Flushed tree steps i c
Flushed-last tree steps r c i join fork none is_newest joined forked later seen = record {
  join = join;
  fork = fork;
  joined = joined;
  forked = forked;
  later = later;
  seen = subst (λ (o : Option ℕ). IsTrue (sees_by steps c o fork)) (sym none) (ap (λ (o : Option ℕ). past_of steps o fork) is_newest ∙ seen);
}

-- ---- the newest revision of a client
newest_same : (front longer : List Step) (c n : ℕ) → ((x : ℕ) → x < n → owner longer x ≡ owner front x) → newest_below longer c n ≡ newest_below front c n
newest_same front longer c zero same = refl
newest_same front longer c (suc n) same =
    ap (λ (o : Option ℕ). cond (is_of c o) (Some n) (newest_below longer c n)) (same n (omega arith))
    ∙ ap (λ (o : Option ℕ). cond (is_of c (owner front n)) (Some n) o) (newest_same front longer c n (λ x l. same x (omega arith)))

-- a step that makes no revision
newest_still : (front : List Step) (s : Step) (c : ℕ) → ((x : ℕ) → owner (front ++ s ∷ []) x ≡ owner front x) → revisions (front ++ s ∷ []) ≡ revisions front → newest (front ++ s ∷ []) c ≡ newest front c
newest_still front s c same count = ap (newest_below (front ++ s ∷ []) c) count ∙ newest_same front (front ++ s ∷ []) c (revisions front) (λ x l. same x)

pub newest-Join : (front : List Step) (r s c : ℕ) → newest (front ++ Join r s ∷ []) c ≡ newest front c
newest-Join front r s c = newest_still front (Join r s) c (owner-Join front r s) (revisions-Join front r s)

pub newest-act : (front : List Step) (s : Step) (r c : ℕ) → acts_on s ≡ Some r → newest (front ++ s ∷ []) c ≡ newest front c
newest-act front s r c acts = newest_still front s c (λ x. owner-act front s r x acts) (revisions-act front s r acts)

-- the revision that a fork makes
newest_made : (front : List Step) (r d c : ℕ) → newest (front ++ Fork r d ∷ []) c ≡ cond (d == c) (Some (revisions front)) (newest_below (front ++ Fork r d ∷ []) c (revisions front))
newest_made front r d c =
    let longer : List Step = front ++ Fork r d ∷ [] in
    let n : ℕ = revisions front in
    let made : owner (front ++ Fork r d ∷ []) (revisions front) ≡ Some d = owner-Fork front r d n ∙ put-here n n (Some d) (owner front) refl in
    ap (newest_below longer c) (revisions-Fork front r d ∙ (let e : revisions front + 1 ≡ suc (revisions front) = omega arith in e))
    ∙ ap (λ (o : Option ℕ). cond (is_of c o) (Some n) (newest_below longer c n)) made

pub newest-Fork : (front : List Step) (r c : ℕ) → newest (front ++ Fork r c ∷ []) c ≡ Some (revisions front)
newest-Fork front r c = newest_made front r c c ∙ ap (λ (b : Bool). cond b (Some (revisions front)) (newest_below (front ++ Fork r c ∷ []) c (revisions front))) (eq-eqb c c refl)

pub newest-other : (front : List Step) (r d c : ℕ) → d ≢ c → newest (front ++ Fork r d ∷ []) c ≡ newest front c
newest-other front r d c other =
    newest_made front r d c ∙ ap (λ (b : Bool). cond b (Some (revisions front)) (newest_below (front ++ Fork r d ∷ []) c (revisions front))) (ne_eqb d c other)
    ∙ newest_same front (front ++ Fork r d ∷ []) c (revisions front) (λ x l. owner-Fork front r d x ∙ put-else (revisions front) x (Some d) (owner front) (λ e. omega arith))
