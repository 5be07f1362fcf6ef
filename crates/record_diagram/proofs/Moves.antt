-- Forks and joins: what a pull, a push and a fork of the server make of a client.
use Rattle.revision_diagram.proofs.Frames.{just_forked}
use Rattle.revision_diagram.specs.Untouched.{JustForked}
use Rattle.cloud_base.specs.declared.update.Update.{Update}
use Rattle.record_diagram.proofs.Invariant.{Joinable, Received, Remembers, Stands, own_part, shared_part}
use Rattle.record_diagram.proofs.Lists.{stands-append}
use Rattle.record_diagram.proofs.Others.{on_by, remembers_in}
use Rattle.record_diagram.proofs.Whose.{not_server}
use Rattle.revision_diagram.proofs.Draws.{live-Join, past-Join, path-Join}
use Rattle.revision_diagram.proofs.Frames.{client_at-kept, log-length, untouched_Fork, untouched_Join}
use Rattle.revision_diagram.proofs.KeepsOnce.{put-else, put-here}
use Rattle.revision_diagram.proofs.Kept.{fork-kept, fork_length-kept, live-there, owner-kept}
use Rattle.revision_diagram.proofs.Logs.{log-Join}
use Rattle.revision_diagram.specs.Diagram.{fork, fork_length, live, owner, past, path, revisions, with_past, with_place}
use Rattle.revision_diagram.specs.Once.{stands_on}
use Rattle.revision_diagram.specs.Right.{log}
use Rattle.revision_diagram.specs.Untouched.{Untouched}
use Rattle.revision_diagram.specs.declared.step.Step.{Step}
use Rattle.revision_diagram.specs.declared.step.Step.TheVariants.{Fork, Join}
use Rattle.std.proofs.Common.{Bool, List, Some, [], ap, drop, false, inl, inr, length, refl, subst, sym, take, ℕ, ◌++◌, ◌<◌, ◌∙◌, ◌∷◌, ◌≡◌}
use Rattle.std.proofs.Math.Seq.{drop-append_seam, drop-length, take-append_seam, take-length}
use Rattle.std.proofs.lemmas.Bool.{false≢true, or_cases, or_left, or_right}
use Rattle.std.proofs.lemmas.List.{take-append-drop}
use Rattle.std.specs.Prelude.{IsTrue, ◌==◌, ◌||◌, ◌≢◌}

-- where a path is as long as at its fork, all of it is shared
pub whole_shared : (front : List Step) (x : ℕ) → fork_length front x ≡ length (path front x) → shared_part front x ≡ path front x
whole_shared front x e = ap (λ (n : ℕ). take n (path front x)) e ∙ take-length (path front x)

pub whole_own : (front : List Step) (x : ℕ) → fork_length front x ≡ length (path front x) → own_part front x ≡ []
whole_own front x e = ap (λ (n : ℕ). drop n (path front x)) e ∙ drop-length (path front x)

no_own : (front : List Step) (x i : ℕ) → fork_length front x ≡ length (path front x) → IsTrue (stands_on (own_part front x) i) → ⊥
no_own front x i e k = false≢true (on_by (own_part front x) [] i (whole_own front x e) k)

pub stands_Fork : (front : List Step) (r c : ℕ) (seen : List Update) → IsTrue (live front r) → log front r ≡ seen → Remembers front c r → Stands (front ++ Fork r c ∷ []) c (revisions front) seen []
stands_Fork front r c seen lives e knew =
    let n : ℕ = revisions front in
    let longer : List Step = front ++ Fork r c ∷ [] in
    let f : JustForked front (front ++ Fork r c ∷ []) r c (revisions front) = just_forked front r c lives in
    record {
      live = f.is_live;
      owner = f.owned;
      sees = f.has_log ∙ e;
      owns = ap (λ (k : ℕ). drop k (log longer n)) (f.whole ∙ sym (log-length longer n)) ∙ drop-length (log longer n);
      remembers = remembers_in front (Fork r c) c r n refl f.keeps knew;
      mine = λ i k. absurd (no_own longer n i f.whole k);
    }

-- a fork of the server, that stands
pub joinable_opened : (front : List Step) (c : ℕ) → IsTrue (live front 0) → Joinable (front ++ Fork 0 c ∷ []) 0 (revisions front)
joinable_opened front c server =
    let n : ℕ = revisions front in
    let longer : List Step = front ++ Fork 0 c ∷ [] in
    let f : JustForked front (front ++ Fork 0 c ∷ []) 0 c (revisions front) = just_forked front 0 c server in
    let u : Untouched front (front ++ Fork 0 c ∷ []) 0 = untouched_Fork front 0 c 0 server in
    record {
      knows = subst (λ (i : ℕ). IsTrue (past longer 0 i)) (sym f.forked_at) f.knows;
      shared = λ i k. on_by (shared_part longer n) (path longer 0) i (whole_shared longer n f.whole ∙ f.has_path ∙ sym u.path) k;
      fresh = λ i k. absurd (no_own longer n i f.whole k);
    }

-- a fork of the server, that is received
pub received_Fork : (front : List Step) (c : ℕ) (base : List Update) → IsTrue (live front 0) → log front 0 ≡ base → Received (front ++ Fork 0 c ∷ []) c (revisions front) base
received_Fork front c base server e =
    let n : ℕ = revisions front in
    let longer : List Step = front ++ Fork 0 c ∷ [] in
    let f : JustForked front (front ++ Fork 0 c ∷ []) 0 c (revisions front) = just_forked front 0 c server in
    let u : Untouched front (front ++ Fork 0 c ∷ []) 0 = untouched_Fork front 0 c 0 server in
    record {
      live = f.is_live;
      owner = f.owned;
      logs = f.has_log ∙ e;
      whole = f.whole;
      knows = subst (λ (i : ℕ). IsTrue (past longer 0 i)) (sym f.forked_at) f.knows;
      within = λ i k. on_by (path longer n) (path longer 0) i (f.has_path ∙ sym u.path) k;
    }

-- what may be joined into the server may be joined into a fork of it
pub joinable_Fork : (front : List Step) (c s : ℕ) → IsTrue (live front 0) → IsTrue (live front s) → Joinable front 0 s → Joinable (front ++ Fork 0 c ∷ []) (revisions front) s
joinable_Fork front c s server lives h =
    let n : ℕ = revisions front in
    let longer : List Step = front ++ Fork 0 c ∷ [] in
    let f : JustForked front (front ++ Fork 0 c ∷ []) 0 c (revisions front) = just_forked front 0 c server in
    let u : Untouched front (front ++ Fork 0 c ∷ []) s = untouched_Fork front 0 c s lives in
    record {
      knows = f.keeps (fork longer s) (subst (λ (i : ℕ). IsTrue (past front 0 i)) (sym u.fork) h.knows);
      shared = λ i k. on_by (path front 0) (path longer n) i (sym f.has_path) (h.shared i (on_by (shared_part longer s) (shared_part front s) i (ap (λ (m : ℕ). take m (path longer s)) u.fork_length ∙ ap (take (fork_length front s)) u.path) k));
      fresh = λ i k. ap (λ (p : List ℕ). stands_on p i) f.has_path ∙ h.fresh i (on_by (own_part longer s) (own_part front s) i (ap (λ (m : ℕ). drop m (path longer s)) u.fork_length ∙ ap (drop (fork_length front s)) u.path) k);
    }

-- a pull
pub pulled_own : (front : List Step) (q s : ℕ) → IsTrue (live front q) → fork_length front q ≡ length (path front q) → own_part (front ++ Join q s ∷ []) q ≡ own_part front s
pulled_own front q s lives whole =
    let longer : List Step = front ++ Join q s ∷ [] in
    ap (λ (n : ℕ). drop n (path longer q)) (fork_length-kept front (Join q s) q (live-there front q lives) ∙ whole)
    ∙ ap (drop (length (path front q))) (path-Join front q s q ∙ put-here q q (path front q ++ own_part front s) (path front) refl)
    ∙ drop-append_seam (path front q) (own_part front s)

pub pulled_shared : (front : List Step) (q s : ℕ) → IsTrue (live front q) → fork_length front q ≡ length (path front q) → shared_part (front ++ Join q s ∷ []) q ≡ path front q
pulled_shared front q s lives whole =
    let longer : List Step = front ++ Join q s ∷ [] in
    ap (λ (n : ℕ). take n (path longer q)) (fork_length-kept front (Join q s) q (live-there front q lives) ∙ whole)
    ∙ ap (take (length (path front q))) (path-Join front q s q ∙ put-here q q (path front q ++ own_part front s) (path front) refl)
    ∙ take-append_seam (path front q) (own_part front s)

pub stands_pulled : (front : List Step) (c q s : ℕ) (seen own base : List Update) → q ≢ s → Stands front c s seen own → Received front c q base → Stands (front ++ Join q s ∷ []) c q (base ++ own) own
stands_pulled front c q s seen own base other h r =
    let t : Step = Join q s in
    let longer : List Step = front ++ Join q s ∷ [] in
    let there : q < revisions front = live-there front q r.live in
    let logged : log (front ++ Join q s ∷ []) q ≡ log front q ++ own = log-Join front q s q ∙ put-here q q (log front q ++ drop (fork_length front s) (log front s)) (log front) refl ∙ ap (λ (l : List Update). log front q ++ l) h.owns in
    record {
      live = live-Join front q s q ∙ put-else s q false (live front) other ∙ r.live;
      owner = owner-kept front t q there ∙ r.owner;
      sees = logged ∙ ap (λ (l : List Update). l ++ own) r.logs;
      owns = ap (λ (n : ℕ). drop n (log longer q)) (fork_length-kept front t q there ∙ r.whole ∙ sym (log-length front q)) ∙ ap (drop (length (log front q))) logged ∙ drop-append_seam (log front q) own;
      remembers = remembers_in front t c s q refl (λ i k. past-Join front q s q i ∙ ap (λ (p : ℕ → Bool). p i) (put-here q q (with_place (with_past (past front q) (past front s)) (length front)) (past front) refl) ∙ or_left (past front q i || past front s i) (i == length front) (or_right (past front q i) (past front s i) k)) h.remembers;
      mine = λ i k. client_at-kept front t i c (h.mine i (on_by (own_part longer q) (own_part front s) i (pulled_own front q s r.live r.whole) k));
    }

pub joinable_pulled : (front : List Step) (c q s : ℕ) (base : List Update) → IsTrue (live front 0) → owner front s ≡ Some c → Joinable front 0 s → Received front c q base → Joinable (front ++ Join q s ∷ []) 0 q
joinable_pulled front c q s base server mine h r =
    let longer : List Step = front ++ Join q s ∷ [] in
    let u : Untouched front (front ++ Join q s ∷ []) 0 = untouched_Join front q s 0 server (λ e. not_server front c q r.owner (sym e)) (λ e. not_server front c s mine (sym e)) in
    record {
      knows = subst (λ (i : ℕ). IsTrue (past longer 0 i)) (sym (fork-kept front (Join q s) q (live-there front q r.live))) (u.past (fork front q) r.knows);
      shared = λ i k. on_by (path front 0) (path longer 0) i (sym u.path) (r.within i (on_by (shared_part longer q) (path front q) i (pulled_shared front q s r.live r.whole) k));
      fresh = λ i k. ap (λ (p : List ℕ). stands_on p i) u.path ∙ h.fresh i (on_by (own_part longer q) (own_part front s) i (pulled_own front q s r.live r.whole) k);
    }

-- a push: n was just forked from s, which is joined into the server
pub joinable_pushed : (front : List Step) (n s : ℕ) → n ≢ 0 → n ≢ s → IsTrue (live front n) → IsTrue (live front 0) → path front n ≡ path front s → fork_length front n ≡ length (path front n) → IsTrue (past front s (fork front n)) → Joinable front 0 s → Joinable (front ++ Join 0 s ∷ []) 0 n
joinable_pushed front n s not_zero other lives server same whole knows h =
    let longer : List Step = front ++ Join 0 s ∷ [] in
    let u : Untouched front (front ++ Join 0 s ∷ []) n = untouched_Join front 0 s n lives not_zero other in
    let longer_whole : fork_length (front ++ Join 0 s ∷ []) n ≡ length (path (front ++ Join 0 s ∷ []) n) = u.fork_length ∙ whole ∙ ap (λ (p : List ℕ). length p) (sym u.path) in
    let joined : path (front ++ Join 0 s ∷ []) 0 ≡ path front 0 ++ own_part front s = path-Join front 0 s 0 in
    let split : path (front ++ Join 0 s ∷ []) n ≡ shared_part front s ++ own_part front s = u.path ∙ same ∙ sym (take-append-drop (fork_length front s) (path front s)) in
    record {
      knows = past-Join front 0 s 0 (fork longer n) ∙ or_left (past front 0 (fork longer n) || past front s (fork longer n)) (fork longer n == length front) (or_right (past front 0 (fork longer n)) (past front s (fork longer n)) (subst (λ (i : ℕ). IsTrue (past front s i)) (sym u.fork) knows));
      shared = λ i k. on_by (path front 0 ++ own_part front s) (path longer 0) i (sym joined) (stands-append (path front 0) (own_part front s) i
          ∙ elim (or_cases (stands_on (shared_part front s) i) (stands_on (own_part front s) i) (sym (stands-append (shared_part front s) (own_part front s) i) ∙ on_by (shared_part longer n) (shared_part front s ++ own_part front s) i (whole_shared longer n longer_whole ∙ split) k)) [
            | inl was ↦ or_left (stands_on (path front 0) i) (stands_on (own_part front s) i) (h.shared i was)
            | inr mine ↦ or_right (stands_on (path front 0) i) (stands_on (own_part front s) i) mine
          ]);
      fresh = λ i k. absurd (no_own longer n i longer_whole k);
    }
