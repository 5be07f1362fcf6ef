-- A Do, Ask, Say or Mark on the standing revision.
use Rattle.revision_diagram.proofs.Frames.{stands-next}
use Rattle.cloud_base.specs.declared.update.Update.{Update}
use Rattle.record_diagram.proofs.Invariant.{AwaitsIf, Joinable, MarkedIf, Remembers, Standing, Stands, own_part, shared_part}
use Rattle.record_diagram.proofs.Lists.{stands-append}
use Rattle.record_diagram.proofs.Others.{joinable_kept, on_by, received_kept, remembers_act, stands_kept}
use Rattle.record_diagram.proofs.Whose.{not_server}
use Rattle.revision_diagram.proofs.Draws.{live-act, path-Do}
use Rattle.revision_diagram.proofs.Frames.{client_at-kept, client_at-last, fork_length-within, log-length, untouched_Do}
use Rattle.revision_diagram.proofs.KeepsOnce.{put-here}
use Rattle.revision_diagram.proofs.Kept.{fork-kept, fork_length-kept, live-there, owner-kept}
use Rattle.revision_diagram.proofs.Logs.{log-Do}
use Rattle.revision_diagram.specs.Diagram.{fork, fork_length, live, owner, past, path}
use Rattle.revision_diagram.specs.Meeting.{client_at}
use Rattle.revision_diagram.specs.Once.{stands_on}
use Rattle.revision_diagram.specs.Right.{log}
use Rattle.revision_diagram.specs.Untouched.{Untouched}
use Rattle.revision_diagram.specs.declared.step.Step.{Step}
use Rattle.revision_diagram.specs.declared.step.Step.TheVariants.{Do}
use Rattle.std.proofs.Common.{Bool, List, None, Option, Some, [], ap, arith, drop, false, inl, inr, length, refl, subst, sym, take, ℕ, ◌++◌, ◌∙◌, ◌∷◌, ◌≡◌, ◌≤◌}
use Rattle.std.proofs.lemmas.Bool.{eqb-true, false≢true, or_cases}
use Rattle.std.proofs.lemmas.List.{drop-append-le, take-append-le}
use Rattle.std.specs.Prelude.{IsTrue, ◌==◌, ◌≢◌}

-- an Ask, Say or Mark leaves all but the mark
awaits_silent : (front : List Step) (t : Step) (c s q : ℕ) (base : Option (List Update)) → ((x : ℕ) → IsTrue (live front x) → Untouched front (front ++ t ∷ []) x) → IsTrue (live front 0) → IsTrue (live front s) → AwaitsIf front c s q base → AwaitsIf (front ++ t ∷ []) c s q base
awaits_silent front t c s q None u server lives h = tt
awaits_silent front t c s q (Some base) u server lives h =
    let longer : List Step = front ++ t ∷ [] in
    let v : Untouched front (front ++ t ∷ []) q = u q h.received.live in
    let w : Untouched front (front ++ t ∷ []) 0 = u 0 server in
    record {
      received = received_kept front longer c q base v w.past (λ i k. on_by (path front 0) (path longer 0) i (sym w.path) k) h.received;
      joins = joinable_kept front longer q s (u s lives) v.past (λ i k. on_by (path front q) (path longer q) i (sym v.path) k) (λ i k e. ap (λ (p : List ℕ). stands_on p i) v.path ∙ e) h.joins;
      other = h.other;
    }

pub standing_silent : (front : List Step) (t : Step) (c s q : ℕ) (seen own : List Update) (base : Option (List Update)) (marked later : Bool) → ((x : ℕ) → IsTrue (live front x) → Untouched front (front ++ t ∷ []) x) → IsTrue (live front 0) → Remembers (front ++ t ∷ []) c s → MarkedIf later (front ++ t ∷ []) c → Standing front c s q seen own base marked → Standing (front ++ t ∷ []) c s q seen own base later
standing_silent front t c s q seen own base marked later u server r m h =
    let longer : List Step = front ++ t ∷ [] in
    let w : Untouched front (front ++ t ∷ []) 0 = u 0 server in
    record {
      stands = stands_kept front t c s seen own (u s h.stands.live) r h.stands;
      joins = joinable_kept front longer 0 s (u s h.stands.live) w.past (λ i k. on_by (path front 0) (path longer 0) i (sym w.path) k) (λ i k e. ap (λ (p : List ℕ). stands_on p i) w.path ∙ e) h.joins;
      awaits = awaits_silent front t c s q base u server h.stands.live h.awaits;
      at_mark = m;
    }

-- a Do
done_path : (front : List Step) (s : ℕ) (u : Update) → path (front ++ Do s u ∷ []) s ≡ path front s ++ length front ∷ []
done_path front s u = path-Do front s u s ∙ put-here s s (path front s ++ length front ∷ []) (path front) refl

same_length : (front : List Step) (s : ℕ) (u : Update) → IsTrue (live front s) → fork_length (front ++ Do s u ∷ []) s ≡ fork_length front s
same_length front s u h = fork_length-kept front (Do s u) s (live-there front s h)

done_shared : (front : List Step) (s : ℕ) (u : Update) → IsTrue (live front s) → shared_part (front ++ Do s u ∷ []) s ≡ shared_part front s
done_shared front s u h =
    let longer : List Step = front ++ Do s u ∷ [] in
    ap (λ (n : ℕ). take n (path longer s)) (same_length front s u h) ∙ ap (take (fork_length front s)) (done_path front s u)
    ∙ take-append-le (fork_length front s) (path front s) (length front ∷ []) (fork_length-within front s)

done_own : (front : List Step) (s : ℕ) (u : Update) → IsTrue (live front s) → own_part (front ++ Do s u ∷ []) s ≡ own_part front s ++ length front ∷ []
done_own front s u h =
    let longer : List Step = front ++ Do s u ∷ [] in
    ap (λ (n : ℕ). drop n (path longer s)) (same_length front s u h) ∙ ap (drop (fork_length front s)) (done_path front s u)
    ∙ drop-append-le (fork_length front s) (path front s) (length front ∷ []) (fork_length-within front s)

-- what holds of the own places and of the new one
by_own : (front : List Step) (s : ℕ) (u : Update) (P : ℕ → Type 0) → IsTrue (live front s) → ((i : ℕ) → IsTrue (stands_on (own_part front s) i) → P i) → P (length front) → (i : ℕ) → IsTrue (stands_on (own_part (front ++ Do s u ∷ []) s) i) → P i
by_own front s u P is_live old new i k =
    let longer : List Step = front ++ Do s u ∷ [] in
    elim (or_cases (stands_on (own_part front s) i) (stands_on (length front ∷ []) i) (sym (stands-append (own_part front s) (length front ∷ []) i) ∙ on_by (own_part longer s) (own_part front s ++ length front ∷ []) i (done_own front s u is_live) k)) [
      | inl was ↦ old i was
      | inr here ↦ elim (or_cases (length front == i) false here) [
        | inl same ↦ subst P (eqb-true (length front) i same) new
        | inr none ↦ absurd (false≢true none)
      ]
    ]

pub stands_Do : (front : List Step) (c s : ℕ) (u : Update) (seen own : List Update) → Stands front c s seen own → Stands (front ++ Do s u ∷ []) c s (seen ++ u ∷ []) (own ++ u ∷ [])
stands_Do front c s u seen own h =
    let t : Step = Do s u in
    let longer : List Step = front ++ Do s u ∷ [] in
    let logged : log (front ++ Do s u ∷ []) s ≡ log front s ++ u ∷ [] = log-Do front s u s ∙ put-here s s (log front s ++ u ∷ []) (log front) refl in
    let l : fork_length front s ≤ length (path front s) = fork_length-within front s in
    let few : fork_length front s ≤ length (log front s) = omega (arith, log-length front s) in
    record {
      live = live-act front t s s refl ∙ h.live;
      owner = owner-kept front t s (live-there front s h.live) ∙ h.owner;
      sees = logged ∙ ap (λ (l : List Update). l ++ u ∷ []) h.sees;
      owns = ap (λ (n : ℕ). drop n (log longer s)) (same_length front s u h.live) ∙ ap (drop (fork_length front s)) logged
          ∙ drop-append-le (fork_length front s) (log front s) (u ∷ []) few ∙ ap (λ (l : List Update). l ++ u ∷ []) h.owns;
      remembers = remembers_act front t c s refl h.owner;
      mine = by_own front s u (λ i. client_at longer i ≡ Some c) h.live (λ i k. client_at-kept front t i c (h.mine i k)) (client_at-last front t s refl ∙ h.owner);
    }

pub joinable_Do : (front : List Step) (r s : ℕ) (u : Update) → IsTrue (live front r) → IsTrue (live front s) → r ≢ s → Joinable front r s → Joinable (front ++ Do s u ∷ []) r s
joinable_Do front r s u r_lives s_lives other h =
    let longer : List Step = front ++ Do s u ∷ [] in
    let v : Untouched front (front ++ Do s u ∷ []) r = untouched_Do front s u r r_lives other in
    record {
      knows = subst (λ (i : ℕ). IsTrue (past longer r i)) (sym (fork-kept front (Do s u) s (live-there front s s_lives))) (v.past (fork front s) h.knows);
      shared = λ i k. on_by (path front r) (path longer r) i (sym v.path) (h.shared i (on_by (shared_part longer s) (shared_part front s) i (done_shared front s u s_lives) k));
      fresh = by_own front s u (λ i. stands_on (path longer r) i ≡ false) s_lives
          (λ i k. ap (λ (p : List ℕ). stands_on p i) v.path ∙ h.fresh i k)
          (ap (λ (p : List ℕ). stands_on p (length front)) v.path ∙ stands-next front r);
    }

awaits_Do : (front : List Step) (c s q : ℕ) (u : Update) (base : Option (List Update)) → IsTrue (live front 0) → owner front s ≡ Some c → IsTrue (live front s) → AwaitsIf front c s q base → AwaitsIf (front ++ Do s u ∷ []) c s q base
awaits_Do front c s q u None server mine lives h = tt
awaits_Do front c s q u (Some base) server mine lives h =
    let longer : List Step = front ++ Do s u ∷ [] in
    let other : q ≢ s = λ e. h.other (sym e) in
    let v : Untouched front (front ++ Do s u ∷ []) q = untouched_Do front s u q h.received.live other in
    let w : Untouched front (front ++ Do s u ∷ []) 0 = untouched_Do front s u 0 server (λ e. not_server front c s mine (sym e)) in
    record {
      received = received_kept front longer c q base v w.past (λ i k. on_by (path front 0) (path longer 0) i (sym w.path) k) h.received;
      joins = joinable_Do front q s u h.received.live lives other h.joins;
      other = h.other;
    }

pub standing_Do : (front : List Step) (c s q : ℕ) (u : Update) (seen own : List Update) (base : Option (List Update)) (marked : Bool) → IsTrue (live front 0) → Standing front c s q seen own base marked → Standing (front ++ Do s u ∷ []) c s q (seen ++ u ∷ []) (own ++ u ∷ []) base false
standing_Do front c s q u seen own base marked server h = record {
  stands = stands_Do front c s u seen own h.stands;
  joins = joinable_Do front 0 s u server h.stands.live (λ e. not_server front c s h.stands.owner (sym e)) h.joins;
  awaits = awaits_Do front c s q u base server h.stands.owner h.stands.live h.awaits;
  at_mark = tt;
}
