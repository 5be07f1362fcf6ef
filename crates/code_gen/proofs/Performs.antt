-- What a code does from a place on.
use Rattle.std.proofs.Common.{◌≡◌, refl, sym, ap, ◌∙◌, subst, arith}
use Rattle.std.specs.Prelude.{ℕ, zero, suc, ◌≤◌, ◌<◌, Bool, true, false, List, ◌∷◌, All, Some, slice_get, if◌then◌else◌}
use Rattle.cloud_base.specs.declared.end.End.TheVariants.{Done}
use Rattle.cloud_base.specs.declared.schema.Schema.{Schema}
use Rattle.cloud_base.specs.declared.update.Answer.{Answer}
use Rattle.typed_program.specs.Does.{World, Run, goes, ends, Does, done, stop, begin, begin_with, ◌>>=◌, then_by}
use Rattle.typed_program.specs.Laws.{events_of}
use Rattle.typed_program.specs.Shapes.{IsAnswered}
use Rattle.typed_program.specs.Trace.{truth_of}
use Rattle.typed_program.proofs.Orderly.{Orderly, Falls}
use Rattle.plain_vm.specs.declared.instruction.Instruction.{Instruction}
use Rattle.plain_vm.specs.declared.instruction.Instruction.TheVariants as i
use Rattle.plain_vm.specs.Exec.{Standing, Next, act, act_at, step, exec, from_there, go_to}

abbrev pub at_place : ℕ → List Answer → List Answer → Standing
at_place place stack listings = record { place = place; stack = stack; listings = listings }

-- in a world with at most so many turns, where its queries are answered in shape, a code from a place on
-- comes to what is next
pub record Performs (schema : Schema) (code : List Instruction) (turns place : ℕ) (stack listings : List Answer) (next : Next) : Type 0 where
  pub by : (w : World) → w.turns ≤ turns → All (IsAnswered schema) (events_of (next w)) → (n : ℕ) × (exec code n (at_place place stack listings) w ≡ next w)

pub performs_same : {schema : Schema} {code : List Instruction} {turns place : ℕ} {stack listings : List Answer} (next other : Next) → ((w : World) → next w ≡ other w)
    → Performs schema code turns place stack listings next → Performs schema code turns place stack listings other
performs_same {schema = schema} next other e p = record {
  by = λ w le h. let r = p.by w le (subst (λ r. All (IsAnswered schema) (events_of r)) (sym (e w)) h) in (r.0, r.1 ∙ e w);
}

-- the one and then both others is the first two and then the last
then_assoc : {A B : Type 0} (r : Run A) (f : A → Does B) (k : B → Next) → then_by r (λ a. f a >>= k) ≡ then_by (then_by r f) k
then_assoc (goes a w) f k = refl
then_assoc (ends o es) f k = refl

pub performs_assoc : {schema : Schema} {code : List Instruction} {turns place : ℕ} {stack listings : List Answer} {A B : Type 0} (m : Does A) (f : A → Does B) (k : B → Next)
    → Performs schema code turns place stack listings (m >>= λ a. f a >>= k) → Performs schema code turns place stack listings ((m >>= f) >>= k)
performs_assoc m f k p = performs_same (m >>= λ a. f a >>= k) ((m >>= f) >>= k) (λ w. then_assoc (m w) f k) p

pub performs_moved : {schema : Schema} {code : List Instruction} {turns : ℕ} {stack listings : List Answer} {next : Next} (place to : ℕ) → place ≡ to
    → Performs schema code turns place stack listings next → Performs schema code turns to stack listings next
performs_moved {schema = schema} {code = code} {turns = turns} {stack = stack} {listings = listings} {next = next} place to e p =
    subst (λ x. Performs schema code turns x stack listings next) e p

pub performs_weaker : {schema : Schema} {code : List Instruction} {place : ℕ} {stack listings : List Answer} {next : Next} (fewer turns : ℕ) → fewer ≤ turns
    → Performs schema code turns place stack listings next → Performs schema code fewer place stack listings next
performs_weaker fewer turns few p = record { by = λ w le h. p.by w (omega (arith, le, few)) h }

-- an instruction that goes on somewhere
pub silently : {schema : Schema} {code : List Instruction} {turns place : ℕ} {stack listings : List Answer} (instruction : Instruction) (to : Standing) (next : Next)
    → slice_get code place ≡ Some instruction → act instruction place stack listings ≡ done (Some to)
    → Performs schema code turns to.place to.stack to.listings next → Performs schema code turns place stack listings next
silently {code = code} {place = place} {stack = stack} {listings = listings} instruction to next there is p = record { by = λ w le h. went w (p.by w le h) }
  where
    went : (w : World) → (n : ℕ) × (exec code n to w ≡ next w) → (n : ℕ) × (exec code n (at_place place stack listings) w ≡ next w)
    went w r =
        let e : step code (at_place place stack listings) w ≡ goes (Some to) w = ap (λ o. act_at o (at_place place stack listings) w) there ∙ ap (λ f. f w) is in
        (suc r.0, ap (λ x. then_by x (from_there (exec code r.0))) e ∙ r.1)

-- an instruction that does something, and goes on somewhere
pub acts : {schema : Schema} {code : List Instruction} {turns place : ℕ} {stack listings : List Answer} {A : Type 0} (instruction : Instruction) (m : Does A) (to : A → Standing) (k : A → Next)
    → slice_get code place ≡ Some instruction → act instruction place stack listings ≡ (m >>= λ a. done (Some (to a))) → Orderly m
    → ((a : A) → Performs schema code turns (to a).place (to a).stack (to a).listings (k a)) → Performs schema code turns place stack listings (m >>= k)
acts {schema = schema} {code = code} {turns = turns} {place = place} {stack = stack} {listings = listings} {A = A} instruction m to k there is o on = record {
  by = λ w le h. went w (m w) (ap (λ x. act_at x here w) there ∙ ap (λ f. f w) is) (o.falls w) le h;
}
  where
    here : Standing
    here = at_place place stack listings

    went : (w : World) (r : Run A) → step code here w ≡ then_by r (λ a. done (Some (to a))) → Falls w.turns r → w.turns ≤ turns → All (IsAnswered schema) (events_of (then_by r k))
        → (n : ℕ) × (exec code n here w ≡ then_by r k)
    went w (goes a v) e f le h =
        let more = (on a).by v (omega (arith, f, le)) h in
        (suc more.0, ap (λ x. then_by x (from_there (exec code more.0))) e ∙ more.1)
    went w (ends outcome events) e f le h = (1, ap (λ x. then_by x (from_there (exec code 0))) e)

-- `begin` takes a turn
pub begins : {schema : Schema} {code : List Instruction} {turns place : ℕ} {stack listings : List Answer} (next : Next) → slice_get code place ≡ Some i.Begin
    → ((t : ℕ) → t < turns → Performs schema code t (suc place) stack listings next) → Performs schema code turns place stack listings (begin >>= λ u. next)
begins {schema = schema} {code = code} {turns = turns} {place = place} {stack = stack} {listings = listings} next there on = record {
  by = λ w le h. went w w.turns (ap (λ x. act_at x here w) there) le h;
}
  where
    here : Standing
    here = at_place place stack listings

    went : (w : World) (t : ℕ) → step code here w ≡ then_by (begin_with t w) (λ u. go_to (suc place) stack listings) → t ≤ turns
        → All (IsAnswered schema) (events_of (then_by {A = Unit {0}} (begin_with t w) (λ u. next))) → (n : ℕ) × (exec code n here w ≡ then_by (begin_with t w) (λ u. next))
    went w zero e le h = (1, ap (λ x. then_by x (from_there (exec code 0))) e)
    went w (suc t) e le h =
        let more = (on t (omega (arith, le))).by (record w { turns = t }) (omega arith) h in
        (suc more.0, ap (λ x. then_by x (from_there (exec code more.0))) e ∙ more.1)

-- a jump where the value is false
pub forks : {schema : Schema} {code : List Instruction} {turns place : ℕ} {stack listings : List Answer} {A : Type 0} (to : ℕ) (b : Answer) (so other : Does A) (k : A → Next)
    → slice_get code place ≡ Some (i.JumpIfFalse to) → Performs schema code turns (suc place) stack listings (so >>= k) → Performs schema code turns to stack listings (other >>= k)
    → Performs schema code turns place (b ∷ stack) listings ((if truth_of b then so else other) >>= k)
forks {schema = schema} {code = code} {turns = turns} {place = place} {stack = stack} {listings = listings} {A = A} to b so other k there first second = forked (truth_of b) refl
  where
    forked : (t : Bool) → truth_of b ≡ t → Performs schema code turns place (b ∷ stack) listings ((if t then so else other) >>= k)
    forked true e = silently (i.JumpIfFalse to) (at_place (suc place) stack listings) (so >>= k) there (ap (λ x. if x then go_to (suc place) stack listings else go_to to stack listings) e) first
    forked false e = silently (i.JumpIfFalse to) (at_place to stack listings) (other >>= k) there (ap (λ x. if x then go_to (suc place) stack listings else go_to to stack listings) e) second

-- `end`
pub ends_here : {schema : Schema} {code : List Instruction} {turns place : ℕ} {stack listings : List Answer} → slice_get code place ≡ Some i.End
    → Performs schema code turns place stack listings (stop Done)
ends_here {code = code} {place = place} {stack = stack} {listings = listings} there = record {
  by = λ w le h. (1, ap (λ x. then_by (act_at x (at_place place stack listings) w) (from_there (exec code 0))) there);
}
