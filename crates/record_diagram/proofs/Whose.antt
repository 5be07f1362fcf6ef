-- The kinds of steps that are of a client.
use Rattle.cloud_base.specs.declared.update.Update.{Update}
use Rattle.record_diagram.proofs.Invariant.{Stands, own_part}
use Rattle.record_diagram.proofs.Lists.{stands-append}
use Rattle.record_diagram.proofs.Others.{IsOf, on_by}
use Rattle.revision_diagram.proofs.Draws.{past-grows, path-Join}
use Rattle.revision_diagram.proofs.Frames.{untouched_Do, untouched_Fork, untouched_Join, untouched_act}
use Rattle.revision_diagram.proofs.Kept.{served}
use Rattle.revision_diagram.specs.Diagram.{acts_on, is_of, live, owner, path}
use Rattle.revision_diagram.specs.Once.{stands_on}
use Rattle.revision_diagram.specs.Right.{log}
use Rattle.revision_diagram.specs.Story.{is_act_of, is_told}
use Rattle.revision_diagram.specs.Untouched.{Untouched}
use Rattle.revision_diagram.specs.declared.step.Step.{Step}
use Rattle.revision_diagram.specs.declared.step.Step.TheVariants.{Do, Fork, Join}
use Rattle.std.proofs.Common.{List, None, Some, [], ap, false, inl, inr, refl, sym, ℕ, ◌++◌, ◌∙◌, ◌∷◌, ◌≡◌}
use Rattle.std.proofs.lemmas.Bool.{ne_eqb, or_cases, or_left}
use Rattle.std.specs.Prelude.{IsTrue, ◌≢◌}

-- whose a revision is tells it apart
pub owners_apart : (front : List Step) (c d x y : ℕ) → owner front x ≡ Some d → owner front y ≡ Some c → d ≢ c → x ≢ y
owners_apart front c d x y h k other same = let e : Some d ≡ Some c = sym h ∙ ap (owner front) same ∙ k in other cc

pub not_server : (front : List Step) (c x : ℕ) → owner front x ≡ Some c → x ≢ 0
not_server front c x h same = let none : owner front 0 ≡ None = (served front).nobodys in let e : Some c ≡ None = sym h ∙ ap (owner front) same ∙ none in cc

untold_act : (front : List Step) (t : Step) (c d s : ℕ) → acts_on t ≡ Some s → owner front s ≡ Some c → d ≢ c → is_told d front t ≡ false
untold_act front t c d s acts mine other = ap (is_act_of d front) acts ∙ ap (is_of d) mine ∙ ne_eqb c d (λ e. other (sym e))

-- the server is left alone
of_else : (front : List Step) (t : Step) (c : ℕ) → ((d x : ℕ) → d ≢ c → IsTrue (live front x) → owner front x ≡ Some d → Untouched front (front ++ t ∷ []) x) → Untouched front (front ++ t ∷ []) 0 → ((d : ℕ) → d ≢ c → is_told d front t ≡ false) → IsOf front t c
of_else front t c others u untold = record {
  others = others;
  pasts = u.past;
  paths = λ i k. on_by (path front 0) (path (front ++ t ∷ []) 0) i (sym u.path) k;
  new = λ i k. inl (on_by (path (front ++ t ∷ []) 0) (path front 0) i u.path k);
  untold = untold;
}

pub of_act : (front : List Step) (t : Step) (c s : ℕ) → acts_on t ≡ Some s → owner front s ≡ Some c → IsTrue (live front 0) → ((x : ℕ) → path (front ++ t ∷ []) x ≡ path front x) → ((x : ℕ) → log (front ++ t ∷ []) x ≡ log front x) → IsOf front t c
of_act front t c s acts mine server paths logs = of_else front t c
    (λ d x other is_live theirs. untouched_act front t s x acts is_live (paths x) (logs x))
    (untouched_act front t s 0 acts server (paths 0) (logs 0))
    (λ d other. untold_act front t c d s acts mine other)

pub of_Do : (front : List Step) (u : Update) (c s : ℕ) → owner front s ≡ Some c → IsTrue (live front 0) → IsOf front (Do s u) c
of_Do front u c s mine server = of_else front (Do s u) c
    (λ d x other is_live theirs. untouched_Do front s u x is_live (owners_apart front c d x s theirs mine other))
    (untouched_Do front s u 0 server (λ e. not_server front c s mine (sym e)))
    (λ d other. untold_act front (Do s u) c d s refl mine other)

pub of_Fork : (front : List Step) (r c : ℕ) → IsTrue (live front 0) → IsOf front (Fork r c) c
of_Fork front r c server = of_else front (Fork r c) c
    (λ d x other is_live theirs. untouched_Fork front r c x is_live)
    (untouched_Fork front r c 0 server)
    (λ d other. refl)

pub of_Join : (front : List Step) (c q s : ℕ) → owner front q ≡ Some c → owner front s ≡ Some c → IsTrue (live front 0) → IsOf front (Join q s) c
of_Join front c q s received mine server = of_else front (Join q s) c
    (λ d x other is_live theirs. untouched_Join front q s x is_live (owners_apart front c d x q theirs received other) (owners_apart front c d x s theirs mine other))
    (untouched_Join front q s 0 server (λ e. not_server front c q received (sym e)) (λ e. not_server front c s mine (sym e)))
    (λ d other. refl)

-- a join of c's revision into the server
server_path : (front : List Step) (s : ℕ) → path (front ++ Join 0 s ∷ []) 0 ≡ path front 0 ++ own_part front s
server_path front s = path-Join front 0 s 0

pub of_push : (front : List Step) (c s : ℕ) (seen own : List Update) → Stands front c s seen own → IsTrue (live front 0) → IsOf front (Join 0 s) c
of_push front c s seen own h server =
    let longer : List Step = front ++ Join 0 s ∷ [] in
    record {
      others = λ d x other is_live theirs. untouched_Join front 0 s x is_live (not_server front d x theirs) (owners_apart front c d x s theirs h.owner other);
      pasts = λ i k. past-grows front (Join 0 s) 0 i ((served front).there) k;
      paths = λ i k. on_by (path front 0 ++ own_part front s) (path longer 0) i (sym (server_path front s)) (stands-append (path front 0) (own_part front s) i ∙ or_left (stands_on (path front 0) i) (stands_on (own_part front s) i) k);
      new = λ i k. elim (or_cases (stands_on (path front 0) i) (stands_on (own_part front s) i) (sym (stands-append (path front 0) (own_part front s) i) ∙ on_by (path longer 0) (path front 0 ++ own_part front s) i (server_path front s) k)) [ inl was ↦ inl was | inr mine ↦ inr (h.mine i mine) ];
      untold = λ d other. refl;
    }
