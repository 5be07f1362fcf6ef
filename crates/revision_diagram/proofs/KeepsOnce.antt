-- A further step keeps each place once on each path, where a join's paths are apart.
use Rattle.std.proofs.Common.{◌≡◌, ℕ, Bool, true, false, cond, List, [], ◌∷◌, ◌++◌, length, drop, take, refl, sym, ap, subst, ◌∙◌, arith, Option, Some, inl, inr}
use Rattle.std.specs.Prelude.{◌&&◌, not, ◌==◌, IsTrue}
use Rattle.std.specs.List.{list_all}
use Rattle.std.proofs.lemmas.Bool.{and_parts, and_from, false≢true, cases_eq, eq-eqb, ne_eqb}
use Rattle.cloud_base.specs.declared.update.Update.{Update}
use Rattle.revision_diagram.specs.declared.step.Step.{Step}
use Rattle.revision_diagram.specs.declared.step.Step.TheVariants.{Fork, Join, Do, Ask, Say, Mark}
use Rattle.revision_diagram.specs.Diagram.{diagram, put, with_place, with_past, acts_on, revisions, live, past, path, fork, fork_length}
use Rattle.revision_diagram.specs.Lawful.{is_lawful}
use Rattle.revision_diagram.specs.Once.{stands_on, does_on, is_some_revision, is_do, seen_at, times_on, follows_seen, joins_apart, StandsOnce, AfterSeen, AllStandOnce, Once}
use Rattle.revision_diagram.proofs.Steps.{diagram-places, EachPrefix-step, PrefixesFrom-whole}
use Rattle.revision_diagram.proofs.Range.{InRange, in_range}
use Rattle.revision_diagram.proofs.Draws.{live-Fork, path-Fork, past-Fork, live-Join, path-Join, past-Join, live-act, past-act, path-Do, path-Ask, path-Say, path-Mark}
use Rattle.revision_diagram.proofs.Logs.{slice_get-last, paths_do}
use Rattle.revision_diagram.proofs.Marks.{Marks, Below, marks_longer, marks_placed, marks_done, marks_joined, all_from}
use Rattle.revision_diagram.proofs.Order.{follows-kept, follows-append, follows-joined, seen_at-last}

pub put-here : {A : Type 0} (r x : ℕ) (v : A) (f : ℕ → A) → x ≡ r → put r v f x ≡ v
put-here r x v f e = ap (λ (b : Bool). cond b v (f x)) (eq-eqb x r e)

pub put-else : {A : Type 0} (r x : ℕ) (v : A) (f : ℕ → A) → (x ≡ r → ⊥) → put r v f x ≡ f x
put-else r x v f e = ap (λ (b : Bool). cond b v (f x)) (ne_eqb x r e)

-- a path that has each Do place of the past p once, after all that it had seen
pub record Good (steps : List Step) (places : List ℕ) (p : ℕ → Bool) : Type 0 where
  pub marks : Marks steps places p
  pub follows : follows_seen steps [] places ≡ true

good_by : (steps : List Step) (xs ys : List ℕ) (p q : ℕ → Bool) → xs ≡ ys → ((i : ℕ) → p i ≡ q i) → Good steps ys q → Good steps xs p
good_by steps xs ys p q e f g = record {
  marks = λ i. ap (λ (t : List ℕ). times_on t i) e ∙ g.marks i ∙ ap (λ (b : Bool). cond (b && is_do steps i) 1 0) (sym (f i));
  follows = ap (follows_seen steps []) e ∙ g.follows;
}

below : (steps : List Step) (r : ℕ) → Below (past steps r) (length steps)
below steps r i l = let range : InRange (diagram steps) = in_range steps in range.past r i (omega (arith, diagram-places steps))

good_longer : (steps : List Step) (s : Step) (r : ℕ) → Good steps (path steps r) (past steps r) → Good (steps ++ s ∷ []) (path steps r) (past steps r)
good_longer steps s r g = record {
  marks = marks_longer steps (s ∷ []) (path steps r) (past steps r) (below steps r) g.marks;
  follows = follows-kept steps (s ∷ []) [] (path steps r) (paths_do steps r) ∙ g.follows;
}

good_placed : (steps : List Step) (places : List ℕ) (p : ℕ → Bool) (n : ℕ) → is_do steps n ≡ false → Good steps places p → Good steps places (with_place p n)
good_placed steps places p n other g = record { marks = marks_placed steps places p n other g.marks; follows = g.follows }

good_joined : (steps : List Step) (xs ys : List ℕ) (n : ℕ) (p q : ℕ → Bool) → list_all (stands_on xs) (take n ys) ≡ true → list_all (λ i. not (stands_on xs i)) (drop n ys) ≡ true → Good steps xs p → Good steps ys q → Good steps (xs ++ drop n ys) (with_past p q)
good_joined steps xs ys n p q had fresh g h = record {
  marks = marks_joined steps xs ys n p q had fresh g.marks h.marks;
  follows = follows-joined steps xs ys n had g.follows h.follows;
}

good_done : (steps : List Step) (r : ℕ) (u : Update) → Good (steps ++ Do r u ∷ []) (path steps r) (past steps r) → Good (steps ++ Do r u ∷ []) (path steps r ++ length steps ∷ []) (with_place (past steps r) (length steps))
good_done steps r u g =
    let longer : List Step = steps ++ Do r u ∷ [] in
    let seen : list_all (stands_on (path steps r)) (seen_at longer (length steps)) ≡ true =
    all_from (stands_on (path steps r)) (seen_at longer (length steps)) (λ i k. subst (λ (t : List ℕ). stands_on t i ≡ true) (seen_at-last steps r u) k) in
    record {
      marks = marks_done longer (path steps r) (past steps r) (length steps) (ap (λ (o : Option Step). is_some_revision (does_on o)) (slice_get-last steps (Do r u))) (below steps r (length steps) (omega arith)) g.marks;
      follows = follows-append longer [] (path steps r) (length steps ∷ []) g.follows (and_from (list_all (stands_on (path steps r)) (seen_at longer (length steps))) true seen refl);
    }

good_of : (steps : List Step) (r : ℕ) → AllStandOnce steps → live steps r ≡ true → Good steps (path steps r) (past steps r)
good_of steps r h l = let both = h r l in record { marks = both.0; follows = both.1 }

stands_by : (steps : List Step) (r : ℕ) → Good steps (path steps r) (past steps r) → StandsOnce steps r × AfterSeen steps r
stands_by steps r g = (g.marks, g.follows)

not_do-last : (steps : List Step) (s : Step) → is_some_revision (does_on (Some s)) ≡ false → is_do (steps ++ s ∷ []) (length steps) ≡ false
not_do-last steps s e = ap (λ (o : Option Step). is_some_revision (does_on o)) (slice_get-last steps s) ∙ e

-- a revision with the path and the past that it had
untouched : (steps : List Step) (s : Step) (x : ℕ) → AllStandOnce steps → live steps x ≡ true → path (steps ++ s ∷ []) x ≡ path steps x → ((i : ℕ) → past (steps ++ s ∷ []) x i ≡ past steps x i) → Good (steps ++ s ∷ []) (path (steps ++ s ∷ []) x) (past (steps ++ s ∷ []) x)
untouched steps s x h l e f = good_by (steps ++ s ∷ []) (path (steps ++ s ∷ []) x) (path steps x) (past (steps ++ s ∷ []) x) (past steps x) e f (good_longer steps s x (good_of steps x h l))

once_Fork : (steps : List Step) (r c : ℕ) → AllStandOnce steps → live steps r ≡ true → AllStandOnce (steps ++ Fork r c ∷ [])
once_Fork steps r c h is_live x l =
    let step : Step = Fork r c in
    let longer : List Step = steps ++ Fork r c ∷ [] in
    let n : ℕ = revisions steps in
    let forked : ℕ → Bool = with_place (past steps r) (length steps) in
    let g : Good (steps ++ Fork r c ∷ []) (path steps r) (with_place (past steps r) (length steps)) = good_placed longer (path steps r) (past steps r) (length steps) (not_do-last steps step refl) (good_longer steps step r (good_of steps r h is_live)) in
    let was : put (revisions steps) true (live steps) x ≡ true = sym (live-Fork steps r c x) ∙ l in
    stands_by longer x (elim (cases_eq x (revisions steps)) [
      | inl new ↦ good_by longer (path longer x) (path steps r) (past longer x) forked
          (path-Fork steps r c x ∙ put-here n x (path steps r) (path steps) new)
          (λ i. past-Fork steps r c x i ∙ ap (λ (p : ℕ → Bool). p i) (put-here n x forked (put r forked (past steps)) new))
          g
      | inr old ↦
          let l_old : live steps x ≡ true = sym (put-else n x true (live steps) old) ∙ was in
          let e : path (steps ++ Fork r c ∷ []) x ≡ path steps x = path-Fork steps r c x ∙ put-else n x (path steps r) (path steps) old in
          let f : (i : ℕ) → past (steps ++ Fork r c ∷ []) x i ≡ put r (with_place (past steps r) (length steps)) (past steps) x i = λ i. past-Fork steps r c x i ∙ ap (λ (p : ℕ → Bool). p i) (put-else n x forked (put r forked (past steps)) old) in
          elim (cases_eq x r) [
            | inl same ↦ good_by longer (path longer x) (path steps r) (past longer x) forked
                (e ∙ ap (path steps) same)
                (λ i. f i ∙ ap (λ (p : ℕ → Bool). p i) (put-here r x forked (past steps) same))
                g
            | inr other ↦ untouched steps step x h l_old e (λ i. f i ∙ ap (λ (p : ℕ → Bool). p i) (put-else r x forked (past steps) other))
          ]
    ])

once_act : (steps : List Step) (s : Step) (r : ℕ) → acts_on s ≡ Some r → is_some_revision (does_on (Some s)) ≡ false → ((x : ℕ) → path (steps ++ s ∷ []) x ≡ path steps x) → AllStandOnce steps → AllStandOnce (steps ++ s ∷ [])
once_act steps s r acts other_kind e h x l =
    let longer : List Step = steps ++ s ∷ [] in
    let stepped : ℕ → Bool = with_place (past steps r) (length steps) in
    let was : live steps x ≡ true = sym (live-act steps s r x acts) ∙ l in
    stands_by longer x (elim (cases_eq x r) [
      | inl same ↦ good_by longer (path longer x) (path steps x) (past longer x) (with_place (past steps x) (length steps)) (e x)
          (λ i. past-act steps s r x i acts ∙ ap (λ (p : ℕ → Bool). p i) (put-here r x stepped (past steps) same) ∙ ap (λ (y : ℕ). with_place (past steps y) (length steps) i) (sym same))
          (good_placed longer (path steps x) (past steps x) (length steps) (not_do-last steps s other_kind) (good_longer steps s x (good_of steps x h was)))
      | inr other ↦ untouched steps s x h was (e x) (λ i. past-act steps s r x i acts ∙ ap (λ (p : ℕ → Bool). p i) (put-else r x stepped (past steps) other))
    ])

once_Do : (steps : List Step) (r : ℕ) (u : Update) → AllStandOnce steps → AllStandOnce (steps ++ Do r u ∷ [])
once_Do steps r u h x l =
    let step : Step = Do r u in
    let longer : List Step = steps ++ Do r u ∷ [] in
    let done : List ℕ = path steps r ++ length steps ∷ [] in
    let stepped : ℕ → Bool = with_place (past steps r) (length steps) in
    let was : live steps x ≡ true = sym (live-act steps step r x refl) ∙ l in
    stands_by longer x (elim (cases_eq x r) [
      | inl same ↦ good_by longer (path longer x) done (past longer x) stepped
          (path-Do steps r u x ∙ put-here r x done (path steps) same)
          (λ i. past-act steps step r x i refl ∙ ap (λ (p : ℕ → Bool). p i) (put-here r x stepped (past steps) same))
          (good_done steps r u (good_longer steps step r (good_of steps r h (subst (λ (y : ℕ). live steps y ≡ true) same was))))
      | inr other ↦ untouched steps step x h was
          (path-Do steps r u x ∙ put-else r x done (path steps) other)
          (λ i. past-act steps step r x i refl ∙ ap (λ (p : ℕ → Bool). p i) (put-else r x stepped (past steps) other))
    ])

once_Join : (steps : List Step) (r s : ℕ) → AllStandOnce steps → live steps s ≡ true → joins_apart steps (Join r s) ≡ true → AllStandOnce (steps ++ Join r s ∷ [])
once_Join steps r s h is_live apart x l =
    let step : Step = Join r s in
    let longer : List Step = steps ++ Join r s ∷ [] in
    let k : ℕ = fork_length steps s in
    let joined : List ℕ = path steps r ++ drop k (path steps s) in
    let both : ℕ → Bool = with_past (past steps r) (past steps s) in
    let stepped : ℕ → Bool = with_place both (length steps) in
    let was : put s false (live steps) x ≡ true = sym (live-Join steps r s x) ∙ l in
    let parts = and_parts (list_all (stands_on (path steps r)) (take k (path steps s))) (list_all (λ i. not (stands_on (path steps r) i)) (drop k (path steps s))) apart in
    elim (cases_eq x s) [
      | inl ended ↦ absurd (false≢true (sym (put-here s x false (live steps) ended) ∙ was))
      | inr lives ↦
          let l_old : live steps x ≡ true = sym (put-else s x false (live steps) lives) ∙ was in
          stands_by longer x (elim (cases_eq x r) [
            | inl same ↦ good_by longer (path longer x) joined (past longer x) stepped
                (path-Join steps r s x ∙ put-here r x joined (path steps) same)
                (λ i. past-Join steps r s x i ∙ ap (λ (p : ℕ → Bool). p i) (put-here r x stepped (past steps) same))
                (good_placed longer joined both (length steps) (not_do-last steps step refl)
                (good_joined longer (path steps r) (path steps s) k (past steps r) (past steps s) parts.0 parts.1
                (good_longer steps step r (good_of steps r h (subst (λ (y : ℕ). live steps y ≡ true) same l_old)))
                (good_longer steps step s (good_of steps s h is_live))))
            | inr other ↦ untouched steps step x h l_old
                (path-Join steps r s x ∙ put-else r x joined (path steps) other)
                (λ i. past-Join steps r s x i ∙ ap (λ (p : ℕ → Bool). p i) (put-else r x stepped (past steps) other))
          ])
    ]

pub AllStandOnce-step : (steps : List Step) (s : Step) → AllStandOnce steps → IsTrue (is_lawful steps s) → IsTrue (joins_apart steps s) → AllStandOnce (steps ++ s ∷ [])
AllStandOnce-step steps (Fork r c) h ok apart = once_Fork steps r c h ok
AllStandOnce-step steps (Join r s) h ok apart =
    let names : (live steps r ≡ true) × (live steps s ≡ true) = and_parts (live steps r) (live steps s) (and_parts (live steps r && live steps s) (not (s == 0)) (and_parts (live steps r && live steps s && not (s == 0)) (not (s == r)) (and_parts (live steps r && live steps s && not (s == 0) && not (s == r)) (past steps r (fork steps s)) ok).0).0).0 in
    once_Join steps r s h names.1 apart
AllStandOnce-step steps (Do r u) h ok apart = once_Do steps r u h
AllStandOnce-step steps (Ask r q a) h ok apart = once_act steps (Ask r q a) r refl refl (path-Ask steps r q a) h
AllStandOnce-step steps (Say r v) h ok apart = once_act steps (Say r v) r refl refl (path-Say steps r v) h
AllStandOnce-step steps (Mark r flush) h ok apart = once_act steps (Mark r flush) r refl refl (path-Mark steps r flush) h

pub Once-whole : (steps : List Step) → Once steps → AllStandOnce steps
Once-whole steps h = PrefixesFrom-whole AllStandOnce [] steps h

pub Once-step : (steps : List Step) (s : Step) → Once steps → IsTrue (is_lawful steps s) → IsTrue (joins_apart steps s) → Once (steps ++ s ∷ [])
Once-step steps s h ok apart = EachPrefix-step AllStandOnce steps s h (AllStandOnce-step steps s (Once-whole steps h) ok apart)
