-- What is drawn, one step after another.
use Rattle.std.proofs.Common.{◌≡◌, ◌∙◌, refl, sym, ap, subst, arith, ℕ, zero, suc, ◌+◌, ◌<◌, ◌≢◌, Bool, true, false, not, Some, List, [], ◌∷◌, ◌++◌, length, take, append-nil, append_assoc, inl, inr, get_or, set, get_or-set_same, get_or-set_other}
use Rattle.std.specs.Prelude.{map, ◌==◌, slice_index_or, slice_set}
use Rattle.std.proofs.lemmas.Bool.{cases_eq, ne_eqb}
use Rattle.std.proofs.lemmas.List.{map-append}
use Rattle.cloud_base.specs.declared.update.Event.{Event}
use Rattle.cloud_base.specs.declared.update.Event.TheVariants as event
use Rattle.record_diagram.specs.Steps.{Drawing, Draws, event_step, events_on, fork_for, idle, is_zero, not_opening, pull, push, send, ◌then◌}
use Rattle.revision_diagram.specs.Diagram.{put}
use Rattle.revision_diagram.proofs.KeepsOnce.{put-here, put-else}
use Rattle.revision_diagram.specs.declared.step.Step.{Step}
use Rattle.revision_diagram.specs.declared.step.Step.TheVariants.{Fork, Join, Do, Ask, Say, Mark}
use Rattle.step_text.specs.Text.{next_after, step_line, steps_text}
use Rattle.cloud_base.specs.declared.schema.Schema.{Schema}
use Rattle.diagram_text.specs.Taken.{free_after, Took, Drew}

pub free_after-append : (n : ℕ) (xs ys : List Step) → free_after n (xs ++ ys) ≡ free_after (free_after n xs) ys
free_after-append n [] ys = refl
free_after-append n (x ∷ xs) ys = free_after-append (next_after n x) xs ys

pub steps_text-append : (schema : Schema) (names : List (List ℕ)) (n : ℕ) (xs ys : List Step) → steps_text schema names n (xs ++ ys) ≡ steps_text schema names n xs ++ steps_text schema names (free_after n xs) ys
steps_text-append schema names n [] ys = refl
steps_text-append schema names n (x ∷ xs) ys = ap (λ (t : List ℕ). step_line schema names n x ++ t) (steps_text-append schema names (next_after n x) xs ys) ∙ sym (append_assoc (step_line schema names n x) (steps_text schema names (next_after n x) xs) (steps_text schema names (free_after n (x ∷ xs)) ys))

-- one line more
pub line_more : (schema : Schema) (names : List (List ℕ)) (next : ℕ) (before so_far : List ℕ) (steps : List Step) (step : Step) → so_far ≡ before ++ steps_text schema names 1 steps → next ≡ free_after 1 steps → so_far ++ step_line schema names next step ≡ before ++ steps_text schema names 1 (steps ++ step ∷ [])
line_more schema names next before so_far steps step h e =
    ap (λ (t : List ℕ). t ++ step_line schema names next step) h
    ∙ append_assoc before (steps_text schema names 1 steps) (step_line schema names next step)
    ∙ ap (λ (n : ℕ). before ++ (steps_text schema names 1 steps ++ step_line schema names n step)) e
    ∙ ap (λ (t : List ℕ). before ++ (steps_text schema names 1 steps ++ t)) (sym (append-nil (step_line schema names (free_after 1 steps) step)))
    ∙ ap (λ (t : List ℕ). before ++ t) (sym (steps_text-append schema names 1 steps (step ∷ [])))

-- what a sink promises of one step
abbrev pub Takes : {S : Type 0} → (S → List Step → S → Type 0) → S → ℕ → Step → S → Type 0
Takes {S = S} took sink next step later = (first : S) (steps : List Step) → took first steps sink → next ≡ free_after 1 steps → took first (steps ++ step ∷ []) later

pub drew_one : {S : Type 0} (took : S → List Step → S → Type 0) (draws : Draws) (sink : S) (d : Drawing) (step : Step) (later : S) (after : Drawing)
    → (draws d).0 ≡ step ∷ [] → after ≡ (draws d).1 → after.next ≡ next_after d.next step → Takes took sink d.next step later → Drew took draws sink d later after
drew_one took draws sink d step later after drawn ends next takes = record {
  ends = ends;
  takes = λ first steps t. record {
    has = subst (λ (l : List Step). took first (steps ++ l) later) (sym drawn) (takes first steps t.has t.next);
    next = next ∙ ap (λ (n : ℕ). next_after n step) t.next ∙ sym (free_after-append 1 steps (step ∷ [])) ∙ ap (λ (l : List Step). free_after 1 (steps ++ l)) (sym drawn);
  };
}

pub drew_idle : {S : Type 0} (took : S → List Step → S → Type 0) (sink : S) (d : Drawing) → Drew took idle sink d sink d
drew_idle took sink d = record {
  ends = refl;
  takes = λ first steps t. record {
    has = subst (λ (l : List Step). took first l sink) (sym (append-nil steps)) t.has;
    next = t.next ∙ ap (free_after 1) (sym (append-nil steps));
  };
}

pub drew_then : {S : Type 0} (took : S → List Step → S → Type 0) (f g : Draws) (sink : S) (d : Drawing) (later : S) (after : Drawing) (last : S) (end : Drawing) → Drew took f sink d later after → Drew took g later after last end → Drew took (f then g) sink d last end
drew_then took f g sink d later after last end h k = record {
  ends = k.ends ∙ ap (λ (x : Drawing). (g x).1) h.ends;
  takes = λ first steps t.
      let all : (steps ++ (f d).0) ++ (g after).0 ≡ steps ++ ((f d).0 ++ (g (f d).1).0) = append_assoc steps (f d).0 (g after).0 ∙ ap (λ (x : Drawing). steps ++ ((f d).0 ++ (g x).0)) h.ends in
      subst (λ (l : List Step). Took took first last end l) all (k.takes first (steps ++ (f d).0) (h.takes first steps t));
}

abbrev pub slots : List ℕ → ℕ → ℕ
slots l c = slice_index_or l c 0

abbrev pub drawing : ℕ → (ℕ → ℕ) → (ℕ → ℕ) → Drawing
drawing next standing received = record { next = next; standing = standing; received = received }

-- an array with one entry set
pub slot_set : (l : List ℕ) (c v : ℕ) → c < length l → (λ (x : ℕ). slice_index_or (slice_set l c v) x 0) ≡ put c v (λ x. slice_index_or l x 0)
slot_set l c v within = λ i x. at x i
  where
    at : (x : ℕ) → slice_index_or (slice_set l c v) x 0 ≡ put c v (λ y. slice_index_or l y 0) x
    at x = elim (cases_eq x c) [
      | inl same ↦ ap (λ (y : ℕ). slice_index_or (slice_set l c v) y 0) same ∙ get_or-set_same l c v 0 within ∙ sym (put-here c x v (λ y. slice_index_or l y 0) same)
      | inr other ↦ get_or-set_other l c x v 0 other ∙ sym (put-else c x v (λ y. slice_index_or l y 0) other)
    ]

-- a drawing by its parts
pub same_drawing : {n m : ℕ} {f g h k : ℕ → ℕ} → n ≡ m → f ≡ g → h ≡ k → drawing n f h ≡ drawing m g k
same_drawing e p q = λ i. record { next = e i; standing = p i; received = q i }

pub drew_as : {S : Type 0} (took : S → List Step → S → Type 0) (f g : Draws) (sink : S) (d : Drawing) (later : S) (after : Drawing) → f d ≡ g d → Drew took f sink d later after → Drew took g sink d later after
drew_as took f g sink d later after same h = record {
  ends = h.ends ∙ ap (λ (r : List Step × Drawing). r.1) same;
  takes = λ first steps t. subst (λ (r : List Step × Drawing). Took took first later after (steps ++ r.0)) same (h.takes first steps t);
}

-- one more event
pub drew_event : {S : Type 0} (took : S → List Step → S → Type 0) (c : ℕ) (before : List Event) (e : Event) (s : ℕ) (sink mid later : S) (d : Drawing) → s ≡ d.standing c → Drew took (events_on c before) sink d mid d → Takes took mid d.next (event_step s e) later → Drew took (events_on c (before ++ e ∷ [])) sink d later d
drew_event took c before e s sink mid later d same h takes =
    drew_as took (events_on c before then events_on c (e ∷ [])) (events_on c (before ++ e ∷ [])) sink d later d
    (ap (λ (l : List Step). (l, d)) (sym (map-append (event_step (d.standing c)) before (e ∷ []))))
    (drew_then took (events_on c before) (events_on c (e ∷ [])) sink d mid d later d h
    (drew_one took (events_on c (e ∷ [])) mid d (event_step (d.standing c) e) later d refl refl (no_fork (d.standing c) e d.next) (subst (λ (x : ℕ). Takes took mid d.next (event_step x e) later) same takes)))
  where
    no_fork : (x : ℕ) (e : Event) (n : ℕ) → n ≡ next_after n (event_step x e)
    no_fork x (event.Do u) n = refl
    no_fork x (event.Ask q a) n = refl
    no_fork x (event.Say v) n = refl
    no_fork x event.Yield n = refl
    no_fork x event.Flush n = refl

-- a pull, with the pen's parts
pub drew_pull : {S : Type 0} (took : S → List Step → S → Type 0) (sink later : S) (next c place : ℕ) (standing received : List ℕ) → place ≡ c → place < length standing
    → Takes took sink next (Join (slice_index_or received place 0) (slice_index_or standing place 0)) later
    → Drew took (pull c) sink (drawing next (slots standing) (slots received)) later (drawing next (slots (slice_set standing place (slice_index_or received place 0))) (slots received))
drew_pull took sink later next c place standing received at within takes =
    let d : Drawing = drawing next (slots standing) (slots received) in
    let after : Drawing = drawing next (slots (slice_set standing place (slice_index_or received place 0))) (slots received) in
    subst (λ (x : ℕ). Drew took (pull x) sink d later after) at
    (drew_one took (pull place) sink d (Join (slots received place) (slots standing place)) later after refl (same_drawing refl (slot_set standing place (slice_index_or received place 0) within) refl) refl takes)

-- a fork of r for c, by which some revision of c changes
pub drew_send : {S : Type 0} (took : S → List Step → S → Type 0) (sink later : S) (next c place number moved : ℕ) (standing received same_standing same_received : List ℕ) → place ≡ c → place < length standing
    → number ≡ next → moved ≡ next + 1 → same_standing ≡ standing → same_received ≡ received
    → Takes took sink next (Fork (slice_index_or standing place 0) c) later
    → Drew took (send c) sink (drawing next (slots standing) (slots received)) later (drawing moved (slots (slice_set same_standing place number)) (slots same_received))
drew_send took sink later next c place number moved standing received same_standing same_received at within numbered moves stays keeps takes =
    let d : Drawing = drawing next (slots standing) (slots received) in
    let after : Drawing = drawing moved (slots (slice_set same_standing place number)) (slots same_received) in
    let set : slots (slice_set same_standing place number) ≡ put c next (slots standing) =
    ap (λ (l : List ℕ). slots (slice_set l place number)) stays ∙ slot_set standing place number within ∙ ap (λ (x : ℕ). put x number (slots standing)) at ∙ ap (λ (n : ℕ). put c n (slots standing)) numbered in
    drew_one took (send c) sink d (Fork (slots standing c) c) later after refl (same_drawing moves set (ap slots keeps)) (moves ∙ omega arith) (subst (λ (x : ℕ). Takes took sink next (Fork (slots standing x) c) later) at takes)

pub drew_push : {S : Type 0} (took : S → List Step → S → Type 0) (sink mid later : S) (d after : Drawing) (c pushed : ℕ) → pushed ≡ d.standing c → Drew took (send c) sink d mid after → Takes took mid after.next (Join 0 pushed) later → Drew took (push c) sink d later after
drew_push took sink mid later d after c pushed is sent takes =
    let join : Draws = λ x. (Join 0 (d.standing c) ∷ [], x) in
    drew_as took (send c then join) (push c) sink d later after refl
    (drew_then took (send c) join sink d mid after later after sent (drew_one took join mid after (Join 0 (d.standing c)) later after refl refl refl (subst (λ (x : ℕ). Takes took mid after.next (Join 0 x) later) is takes)))

pub drew_opening : {S : Type 0} (took : S → List Step → S → Type 0) (sink later : S) (next c place number moved : ℕ) (standing received same_standing same_received : List ℕ) → place ≡ c → place < length standing
    → number ≡ next → moved ≡ next + 1 → same_standing ≡ standing → same_received ≡ received
    → Takes took sink next (Fork 0 c) later
    → Drew took (fork_for c true) sink (drawing next (slots standing) (slots received)) later (drawing moved (slots (slice_set same_standing place number)) (slots same_received))
drew_opening took sink later next c place number moved standing received same_standing same_received at within numbered moves stays keeps takes =
    let d : Drawing = drawing next (slots standing) (slots received) in
    let after : Drawing = drawing moved (slots (slice_set same_standing place number)) (slots same_received) in
    let set : slots (slice_set same_standing place number) ≡ put c next (slots standing) =
    ap (λ (l : List ℕ). slots (slice_set l place number)) stays ∙ slot_set standing place number within ∙ ap (λ (x : ℕ). put x number (slots standing)) at ∙ ap (λ (n : ℕ). put c n (slots standing)) numbered in
    drew_one took (fork_for c true) sink d (Fork 0 c) later after refl (same_drawing moves set (ap slots keeps)) (moves ∙ omega arith) takes

pub drew_received : {S : Type 0} (took : S → List Step → S → Type 0) (sink later : S) (next c place number moved : ℕ) (standing received same_standing same_received : List ℕ) → place ≡ c → place < length received
    → number ≡ next → moved ≡ next + 1 → same_standing ≡ standing → same_received ≡ received
    → Takes took sink next (Fork 0 c) later
    → Drew took (fork_for c false) sink (drawing next (slots standing) (slots received)) later (drawing moved (slots same_standing) (slots (slice_set same_received place number)))
drew_received took sink later next c place number moved standing received same_standing same_received at within numbered moves stays keeps takes =
    let d : Drawing = drawing next (slots standing) (slots received) in
    let after : Drawing = drawing moved (slots same_standing) (slots (slice_set same_received place number)) in
    let set : slots (slice_set same_received place number) ≡ put c next (slots received) =
    ap (λ (l : List ℕ). slots (slice_set l place number)) keeps ∙ slot_set received place number within ∙ ap (λ (x : ℕ). put x number (slots received)) at ∙ ap (λ (n : ℕ). put c n (slots received)) numbered in
    drew_one took (fork_for c false) sink d (Fork 0 c) later after refl (same_drawing moves (ap slots stays) set) (moves ∙ omega arith) takes

-- whether a batch's stretch pulls
pub pulls_unless : (opening : Bool) (base : ℕ) → not opening ≡ not_opening opening (Some base)
pulls_unless true base = refl
pulls_unless false base = refl

pub zero_test : (n : ℕ) → (n == 0) ≡ is_zero n
zero_test zero = refl
zero_test (suc n) = ne_eqb (suc n) 0 (λ e. omega arith)
