-- Parts of a code, and what they do.
use Rattle.std.proofs.Common.{◌≡◌, refl, sym, subst, arith}
use Rattle.std.proofs.lemmas.List.{length-append}
use Rattle.std.specs.Prelude.{ℕ, suc, ◌+◌, ⊤, Bool, true, false, List, [], ◌∷◌, ◌++◌, length, Some, if◌then◌else◌}
use Rattle.cloud_base.specs.declared.schema.Schema.{Schema}
use Rattle.cloud_base.specs.declared.update.Answer.{Answer}
use Rattle.typed_program.specs.Does.{Does, done, begin, ◌>>=◌}
use Rattle.typed_program.specs.Trace.{truth_of}
use Rattle.typed_program.proofs.Orderly.{Orderly, orderly_bind, orderly_begin, orderly_done}
use Rattle.plain_vm.specs.declared.instruction.Instruction.{Instruction}
use Rattle.plain_vm.specs.declared.instruction.Instruction.TheVariants as i
use Rattle.plain_vm.specs.Exec.{Next, act, push_all}
use Rattle.code_gen.proofs.Parts.{Has, has_front, has_back, has_moved}
use Rattle.code_gen.proofs.Performs.{Performs, at_place, performs_assoc, performs_moved, performs_weaker, silently, acts, begins, forks}

abbrev pub Anything : {A : Type 0} → A → Type 0
Anything a = ⊤

pub if_orderly : {A : Type 0} (b : Bool) {m n : Does A} → Orderly m → Orderly n → Orderly (if b then m else n)
if_orderly true om on = om
if_orderly false om on = on

-- a part of a code at a place does m, and then stands behind the part with the stack after it
pub record Renders (schema : Schema) (code : List Instruction) (place : ℕ) (part : List Instruction) (stack : List Answer) {A : Type 0} (m : Does A) (Known : A → Type 0) (after : A → List Answer) : Type 0 where
  pub orderly : Orderly m
  pub by : Has code place part → (turns to : ℕ) → place + length part ≡ to → (listings : List Answer) (k : A → Next) → ((a : A) → Orderly (k a))
      → ((a : A) → Known a → Performs schema code turns to (after a) listings (k a)) → Performs schema code turns place stack listings (m >>= k)

pub renders_same : {schema : Schema} {code : List Instruction} {place : ℕ} {stack : List Answer} {A : Type 0} {Known : A → Type 0} {after : A → List Answer} {part other : List Instruction} {m n : Does A}
    → part ≡ other → m ≡ n → Renders schema code place other stack n Known after → Renders schema code place part stack m Known after
renders_same {schema = schema} {code = code} {place = place} {stack = stack} {Known = Known} {after = after} {other = other} {m = m} p e r =
    subst (λ x. Renders schema code place x stack m Known after) (sym p) (subst (λ x. Renders schema code place other stack x Known after) (sym e) r)

-- nothing
pub renders_done : {schema : Schema} {code : List Instruction} {place : ℕ} {stack : List Answer} {A : Type 0} (a : A) → Renders schema code place [] stack (done a) Anything (λ x. stack)
renders_done {place = place} a = record {
  orderly = orderly_done a;
  by = λ h turns to e ls k o on. performs_moved to place (omega (arith, e)) (on a tt);
}

-- no values
pub renders_none : {schema : Schema} {code : List Instruction} {place : ℕ} {stack : List Answer} → Renders schema code place [] stack (done []) (λ (values : List Answer). length values ≡ 0) (λ values. push_all values stack)
renders_none {place = place} = record {
  orderly = orderly_done [];
  by = λ h turns to e ls k o on. performs_moved to place (omega (arith, e)) (on [] refl);
}

-- the same, with another value
pub renders_map : {schema : Schema} {code : List Instruction} {place : ℕ} {part : List Instruction} {stack : List Answer} {A B : Type 0} {Known : A → Type 0} {Then : B → Type 0} {mid : A → List Answer} {after : B → List Answer}
    (m : Does A) (g : A → B) → Renders schema code place part stack m Known mid → ((a : A) → Known a → Then (g a)) → ((a : A) → after (g a) ≡ mid a) → Renders schema code place part stack (m >>= λ a. done (g a)) Then after
renders_map {schema = schema} {code = code} m g r so is = record {
  orderly = orderly_bind m (λ a. done (g a)) r.orderly (λ a. orderly_done (g a));
  by = λ h turns to e ls k ok next. performs_assoc m (λ a. done (g a)) k (r.by h turns to e ls (λ a. k (g a)) (λ a. ok (g a))
      (λ a known. subst (λ s. Performs schema code turns to s ls (k (g a))) (is a) (next (g a) (so a known))));
}

-- one instruction
pub renders_one : {schema : Schema} {code : List Instruction} {place : ℕ} {stack : List Answer} {A : Type 0} (instruction : Instruction) (m : Does A) (after : A → List Answer) → Orderly m
    → ((listings : List Answer) → act instruction place stack listings ≡ (m >>= λ a. done (Some (at_place (suc place) (after a) listings))))
    → Renders schema code place (instruction ∷ []) stack m Anything after
renders_one {place = place} instruction m after om is = record {
  orderly = om;
  by = λ h turns to e ls k o on. acts instruction m (λ a. at_place (suc place) (after a) ls) k h.0 (is ls) om (λ a. performs_moved to (suc place) (omega (arith, e)) (on a tt));
}

-- one part and then another
pub renders_known : {schema : Schema} {code : List Instruction} {place : ℕ} {stack : List Answer} {A B : Type 0} {Known : A → Type 0} {Then : B → Type 0} {mid : A → List Answer} {after : B → List Answer}
    (front back : List Instruction) (m : Does A) (f : A → Does B) → ((a : A) → Orderly (f a)) → Renders schema code place front stack m Known mid
    → ((a : A) → Known a → Renders schema code (place + length front) back (mid a) (f a) Then after) → Renders schema code place (front ++ back) stack (m >>= f) Then after
renders_known {code = code} {place = place} front back m f of r on = record {
  orderly = orderly_bind m f r.orderly of;
  by = λ h turns to e ls k ok next. performs_assoc m f k (r.by (has_front code place front back h) turns (place + length front) refl ls (λ a. f a >>= k) (λ a. orderly_bind (f a) k (of a) ok)
      (λ a known. (on a known).by (has_back code place front back h) turns to (omega (arith, e, length-append front back)) ls k ok next));
}

pub renders_then : {schema : Schema} {code : List Instruction} {place : ℕ} {stack : List Answer} {A B : Type 0} {Then : B → Type 0} {mid : A → List Answer} {after : B → List Answer}
    (front back : List Instruction) (m : Does A) (f : A → Does B) → Renders schema code place front stack m Anything mid
    → ((a : A) → Renders schema code (place + length front) back (mid a) (f a) Then after) → Renders schema code place (front ++ back) stack (m >>= f) Then after
renders_then front back m f r on = renders_known front back m f (λ a. (on a).orderly) r (λ a known. on a)

pub renders_moved : {schema : Schema} {code : List Instruction} {part : List Instruction} {stack : List Answer} {A : Type 0} {m : Does A} {Known : A → Type 0} {after : A → List Answer} (place to : ℕ)
    → place ≡ to → Renders schema code place part stack m Known after → Renders schema code to part stack m Known after
renders_moved {schema = schema} {code = code} {part = part} {stack = stack} {m = m} {Known = Known} {after = after} place to e r = subst (λ x. Renders schema code x part stack m Known after) e r

-- `begin`, and what a statement does
pub renders_begun : {schema : Schema} {code : List Instruction} {place : ℕ} {stack : List Answer} {A : Type 0} {Known : A → Type 0} {after : A → List Answer} (rest : List Instruction) (m : Does A)
    → Renders schema code (place + 1) rest stack m Known after → Renders schema code place (i.Begin ∷ rest) stack (begin >>= λ u. m) Known after
renders_begun {code = code} {place = place} rest m r = record {
  orderly = orderly_bind begin (λ u. m) orderly_begin (λ u. r.orderly);
  by = λ h turns to e ls k ok next. performs_assoc begin (λ u. m) k (begins (m >>= k) h.0 (λ t less. performs_moved (place + 1) (suc place) (omega arith)
      (r.by (has_moved code (suc place) (place + 1) rest (omega arith) h.1) t to (omega (arith, e)) ls k ok (λ a known. performs_weaker t turns (omega (arith, less)) (next a known)))));
}

-- jumpf F, B, jump X, F: R, X:
pub renders_either : {schema : Schema} {code : List Instruction} {place : ℕ} {stack : List Answer} {A : Type 0} {Known : A → Type 0} {after : A → List Answer} (b : Answer) (first second : List Instruction)
    (so other : Does A) (to behind : ℕ) → to ≡ place + (length first + 2) → behind ≡ place + (length first + (length second + 2))
    → Renders schema code (place + 1) first stack so Known after → Renders schema code to second stack other Known after
    → Renders schema code place (i.JumpIfFalse to ∷ (first ++ i.Jump behind ∷ second)) (b ∷ stack) (if truth_of b then so else other) Known after
renders_either {schema = schema} {code = code} {place = place} {stack = stack} {A = A} b first second so other to behind e f r s = record {
  orderly = if_orderly (truth_of b) r.orderly s.orderly;
  by = λ h turns after_it g ls k ok next.
      let here : Has code (suc place) (first ++ i.Jump behind ∷ second) = h.1 in
      let jump : Has code (suc place + length first) (i.Jump behind ∷ second) = has_back code (suc place) first (i.Jump behind ∷ second) here in
      let at_end : after_it ≡ behind = omega (arith, f, g, length-append first (i.Jump behind ∷ second)) in
      forks to b so other k h.0
      (performs_moved (place + 1) (suc place) (omega arith) (r.by (has_moved code (suc place) (place + 1) first (omega arith) (has_front code (suc place) first (i.Jump behind ∷ second) here))
      turns (suc place + length first) (omega arith) ls k ok
      (λ a known. silently (i.Jump behind) (at_place behind _ ls) (k a) jump.0 refl (performs_moved after_it behind at_end (next a known)))))
      (s.by (has_moved code (suc (suc place + length first)) to second (omega (arith, e)) jump.1) turns after_it (omega (arith, e, f, at_end)) ls k ok next);
}

-- jumpf X, S, X:
pub renders_only : {schema : Schema} {code : List Instruction} {place : ℕ} {stack : List Answer} (b : Answer) (first : List Instruction) (so : Does (Unit {0})) (to : ℕ) → to ≡ place + (length first + 1)
    → Renders schema code (place + 1) first stack so Anything (λ u. stack)
    → Renders schema code place (i.JumpIfFalse to ∷ first) (b ∷ stack) (if truth_of b then so else done tt) Anything (λ u. stack)
renders_only {code = code} {place = place} b first so to e r = record {
  orderly = if_orderly (truth_of b) r.orderly (orderly_done tt);
  by = λ h turns after_it g ls k ok next. forks to b so (done tt) k h.0
      (performs_moved (place + 1) (suc place) (omega arith) (r.by (has_moved code (suc place) (place + 1) first (omega arith) h.1) turns after_it (omega (arith, g)) ls k ok next))
      (performs_moved after_it to (omega (arith, e, g)) (next tt tt));
}
