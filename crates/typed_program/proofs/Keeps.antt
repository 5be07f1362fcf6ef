-- What the steps of a well-kinded body keep.
use Rattle.std.proofs.Common.{◌≡◌, refl, sym, ap, ◌∙◌, subst, arith}
use Rattle.std.proofs.lemmas.Int.{SFits-int_wrap}
use Rattle.std.proofs.lemmas.List.{append-nil, length-set}
use Rattle.std.proofs.lemmas.List.Elements.{All-nil, All-cons, All-head, All-tail, All-append}
use Rattle.std.specs.Int.{w64}
use Rattle.std.specs.Prelude.{ℕ, zero, suc, ◌+◌, ◌≤◌, ◌<◌, Bool, true, false, List, [], ◌∷◌, ◌++◌, length, All, Some, slice_get, slice_set, IsTrue, if◌then◌else◌}
use mathlib.Core.List.{IsPrefix}
use Rattle.cloud_base.specs.Values.{Id as Uid}
use Rattle.cloud_base.specs.Log.{created}
use Rattle.cloud_base.specs.Events.{Outcome, ended, asks, updates_of}
use Rattle.cloud_base.specs.Shaped.{IsSchema, IsShaped, IsShapedQuery, IsShapedAnswer, IsShapedEvent, IsId}
use Rattle.cloud_base.proofs.LogLemmas.{created_parts}
use Rattle.cloud_base.specs.declared.end.End.{End}
use Rattle.cloud_base.specs.declared.end.End.TheVariants.{Spent, Trap}
use Rattle.cloud_base.specs.declared.key.Key.{Key}
use Rattle.cloud_base.specs.declared.schema.Schema.{Schema}
use Rattle.cloud_base.specs.declared.update.Answer.{Answer}
use Rattle.cloud_base.specs.declared.update.Event.{Event}
use Rattle.cloud_base.specs.declared.update.Event.TheVariants as event
use Rattle.cloud_base.specs.declared.update.Query.{Query}
use Rattle.cloud_base.specs.declared.update.Update.TheVariants as update
use Rattle.typed_program.specs.declared.expression.Kind.{Kind}
use Rattle.typed_program.specs.declared.expression.Operator.{Operator}
use Rattle.typed_program.specs.declared.expression.Operator.TheVariants as op
use Rattle.typed_program.specs.Does.{World, Run, goes, ends, Does, done, stop, tell, ask, ask_next, begin, begin_with, load, store, next_id, ◌>>=◌, then_by}
use Rattle.typed_program.specs.Kinds.{IsLine, takes, result_kind}
use Rattle.typed_program.specs.Laws.{events_of}
use Rattle.typed_program.specs.Shapes.{IsOf, IsAnswered, IsShapedOutcome, IsShapedTrace, first_ids}
use Rattle.typed_program.specs.Trace.{text_of, is_zero, combine}
use Rattle.typed_program.proofs.Orderly.{prefix_trans, orderly_done, orderly_load, orderly_store, orderly_stop, orderly_begin, orderly_tell, orderly_ask, orderly_id, AsksNothing}
use Rattle.typed_program.proofs.Slots.{Hold, held, hold_set, hold_more, hold_fewer}
use Rattle.typed_program.proofs.Values.{text_is, cat_is_text}

-- a client of a schema
pub record Setting (schema : Schema) : Type 0 where
  pub client : ℕ
  pub sane : IsSchema schema
  pub below : client < 8

-- a world in which the visible variables have values of their kinds and what was done is of the schema's
-- shape; `spare` is 1 between the start of a statement and its creation
pub record Stands {schema : Schema} (c : Setting schema) (seen : List Kind) (spare : ℕ) (w : World) : Type 0 where
  pub client_is : w.client ≡ c.client
  pub slots : length w.slots ≡ 64
  pub values : Hold seen w.slots
  pub events : All (IsShapedEvent schema) w.events
  pub serials : w.serial + w.turns + spare ≤ 16384
  pub creations : created (updates_of w.events) ≡ first_ids c.client w.serial

abbrev pub Answered : {schema : Schema} → Setting schema → List Event → Type 0
Answered {schema = schema} c events = All (IsAnswered schema) events

-- where it goes on this holds, and where it ends its trace is of the schema's shape
abbrev pub Comes : {schema : Schema} {A : Type 0} → Setting schema → (A → World → Type 0) → Run A → Type 0
Comes c Q (goes a v) = Q a v
Comes {schema = schema} c Q (ends o es) = IsShapedTrace schema c.client (es, o)

-- from a world with P it comes to Q, where its queries are answered in shape
pub record Keeps {schema : Schema} (c : Setting schema) {A : Type 0} (P : World → Type 0) (m : Does A) (Q : A → World → Type 0) : Type 0 where
  pub grows : (w : World) → IsPrefix w.events (events_of (m w))
  pub by : (w : World) → P w → Answered c (events_of (m w)) → Comes c Q (m w)

pub all_front : {A : Type 0} (P : A → Type 0) (xs ys : List A) → All P (xs ++ ys) → All P xs
all_front P [] ys h = All-nil P
all_front P (x ∷ xs) ys h = All-cons P x xs (All-head P x (xs ++ ys) h) (all_front P xs ys (All-tail P x (xs ++ ys) h))

pub all_last : {A : Type 0} (P : A → Type 0) (xs : List A) (y : A) → All P (xs ++ y ∷ []) → P y
all_last P [] y h = All-head P y [] h
all_last P (x ∷ xs) y h = all_last P xs y (All-tail P x (xs ++ y ∷ []) h)

front_of : {schema : Schema} (c : Setting schema) (xs ys : List Event) → IsPrefix xs ys → Answered c ys → Answered c xs
front_of {schema = schema} c xs ys p h = all_front (IsAnswered schema) xs p.0 (subst (λ l. Answered c l) (sym p.1) h)

pub keeps_bind : {schema : Schema} {c : Setting schema} {A B : Type 0} {P : World → Type 0} {Q : A → World → Type 0} {R : B → World → Type 0} {m : Does A} {f : A → Does B}
    → Keeps c P m Q → ((a : A) → Keeps c (Q a) (f a) R) → Keeps c P (m >>= f) R
keeps_bind {schema = schema} {c = c} {A = A} {B = B} {P = P} {Q = Q} {R = R} {m = m} {f = f} km kf = record {
  grows = λ w. grown w (m w) (km.grows w);
  by = λ w p h. come (m w) (km.by w p) h;
}
  where
    next : Run A → Run B
    next r = then_by {A = A} {B = B} r f

    grown : (w : World) (r : Run A) → IsPrefix w.events (events_of r) → IsPrefix w.events (events_of (next r))
    grown w (goes a v) p = prefix_trans w.events v.events (events_of (f a v)) p ((kf a).grows v)
    grown w (ends s es) p = p

    come : (r : Run A) → (Answered c (events_of r) → Comes c Q r) → Answered c (events_of (next r)) → Comes c R (next r)
    come (goes a v) q h = (kf a).by v (q (front_of c v.events (events_of (f a v)) ((kf a).grows v) h)) h
    come (ends s es) q h = q h

-- a stronger start and a weaker end
pub keeps_from : {schema : Schema} {c : Setting schema} {A : Type 0} {P P' : World → Type 0} {Q Q' : A → World → Type 0} {m : Does A}
    → ((w : World) → P' w → P w) → ((a : A) (w : World) → Q a w → Q' a w) → Keeps c P m Q → Keeps c P' m Q'
keeps_from {schema = schema} {c = c} {A = A} {Q = Q} {Q' = Q'} {m = m} start end k = record { grows = k.grows; by = λ w p h. come (m w) (k.by w (start w p) h) }
  where
    come : (r : Run A) → Comes c Q r → Comes c Q' r
    come (goes a v) q = end a v q
    come (ends s es) q = q

-- what holds of no world in particular stays
pub keeps_beside : {schema : Schema} {c : Setting schema} {A : Type 0} {P : World → Type 0} {Q : A → World → Type 0} {m : Does A} (F : Type 0)
    → Keeps c P m Q → Keeps c (λ w. P w × F) m (λ a w. Q a w × F)
keeps_beside {schema = schema} {c = c} {A = A} {Q = Q} {m = m} F k = record { grows = k.grows; by = λ w p h. come p.1 (m w) (k.by w p.0 h) }
  where
    come : F → (r : Run A) → Comes c Q r → Comes c (λ a w. Q a w × F) r
    come f (goes a v) q = (q, f)
    come f (ends s es) q = q

pub keeps_done : {schema : Schema} {c : Setting schema} {A : Type 0} {P : World → Type 0} {Q : A → World → Type 0} (a : A) → ((w : World) → P w → Q a w) → Keeps c P (done a) Q
keeps_done a q = record { grows = (orderly_done a).grows; by = λ w p h. q w p }

pub keeps_if : {schema : Schema} {c : Setting schema} {A : Type 0} {P : World → Type 0} {Q : A → World → Type 0} (b : Bool) {m n : Does A} → Keeps c P m Q → Keeps c P n Q → Keeps c P (if b then m else n) Q
keeps_if true km kn = km
keeps_if false km kn = kn

-- what goes by the turns that are left
pub keeps_turns : {schema : Schema} {c : Setting schema} {A : Type 0} {P : World → Type 0} {Q : A → World → Type 0} {f : ℕ → Does A} → ((n : ℕ) → Keeps c P (f n) Q) → Keeps c P (λ w. f w.turns w) Q
keeps_turns k = record { grows = λ w. (k w.turns).grows w; by = λ w p h. (k w.turns).by w p h }

-- a run that ends in such a world
pub ended_at : {schema : Schema} (c : Setting schema) (seen : List Kind) (spare : ℕ) (o : Outcome) (w : World) → Stands c seen spare w → IsShapedOutcome schema o → IsShapedTrace schema c.client (w.events, o)
ended_at c seen spare o w s shaped = record { events = s.events; outcome = shaped; creations = (w.serial, omega (arith, s.serials), s.creations) }

pub keeps_stop : {schema : Schema} {c : Setting schema} {A : Type 0} {P : World → Type 0} {Q : A → World → Type 0} (seen : List Kind) (spare : ℕ) (e : End) → ((w : World) → P w → Stands c seen spare w) → IsShapedOutcome schema (ended e) → Keeps c P (stop {A = A} e) Q
keeps_stop {schema = schema} {c = c} {A = A} seen spare e s shaped = record { grows = (orderly_stop {A = A} e).grows; by = λ w p h. ended_at c seen spare (ended e) w (s w p) shaped }

pub keeps_load : {schema : Schema} {c : Setting schema} (seen : List Kind) (spare n : ℕ) (kind : Kind) → slice_get seen n ≡ Some kind → Keeps c (Stands c seen spare) (load n) (λ v w. Stands c seen spare w × IsOf kind v)
keeps_load seen spare n kind is = record { grows = (orderly_load n).grows; by = λ w s h. (s, held seen w.slots n kind _ s.values is) }

-- a variable that is there gets a value of its kind
pub keeps_assign : {schema : Schema} {c : Setting schema} (seen : List Kind) (spare n : ℕ) (kind : Kind) (v : Answer) → slice_get seen n ≡ Some kind
    → Keeps c (λ w. Stands c seen spare w × IsOf kind v) (store n v) (λ u w. Stands c seen spare w)
keeps_assign {schema = schema} {c = c} seen spare n kind v is = record { grows = (orderly_store n v).grows; by = λ w p h. after w p.0 p.1 }
  where
    after : (w : World) → Stands c seen spare w → IsOf kind v → Stands c seen spare (record w { slots = slice_set w.slots n v })
    after w s k = record {
      client_is = s.client_is;
      slots = length-set w.slots n v ∙ s.slots;
      values = hold_set seen w.slots n kind v s.values is k;
      events = s.events;
      serials = s.serials;
      creations = s.creations;
    }

-- the next variable
pub keeps_declare : {schema : Schema} {c : Setting schema} (seen : List Kind) (spare n : ℕ) (kind : Kind) (v : Answer) → n ≡ length seen → n < 64
    → Keeps c (λ w. Stands c seen spare w × IsOf kind v) (store n v) (λ u w. Stands c (seen ++ kind ∷ []) spare w)
keeps_declare {schema = schema} {c = c} seen spare n kind v is few = record { grows = (orderly_store n v).grows; by = λ w p h. after w p.0 p.1 }
  where
    after : (w : World) → Stands c seen spare w → IsOf kind v → Stands c (seen ++ kind ∷ []) spare (record w { slots = slice_set w.slots n v })
    after w s k = record {
      client_is = s.client_is;
      slots = length-set w.slots n v ∙ s.slots;
      values = subst (λ m. Hold (seen ++ kind ∷ []) (slice_set w.slots m v)) (sym is) (hold_more seen w.slots kind v s.values (omega (arith, is, few, s.slots)) k);
      events = s.events;
      serials = s.serials;
      creations = s.creations;
    }

pub fewer : {schema : Schema} {c : Setting schema} (seen more : List Kind) (spare : ℕ) (w : World) → Stands c (seen ++ more) spare w → Stands c seen spare w
fewer seen more spare w s = record {
  client_is = s.client_is;
  slots = s.slots;
  values = hold_fewer seen more w.slots s.values;
  events = s.events;
  serials = s.serials;
  creations = s.creations;
}

-- the turn that a creation didn't need
pub spared : {schema : Schema} {c : Setting schema} (seen : List Kind) (w : World) → Stands c seen 1 w → Stands c seen 0 w
spared seen w s = record {
  client_is = s.client_is;
  slots = s.slots;
  values = s.values;
  events = s.events;
  serials = omega (arith, s.serials);
  creations = s.creations;
}

pub keeps_begin : {schema : Schema} {c : Setting schema} (seen : List Kind) → Keeps c (Stands c seen 0) begin (λ u w. Stands c seen 1 w)
keeps_begin {schema = schema} {c = c} seen = record { grows = orderly_begin.grows; by = λ w s h. begun w w.turns refl s }
  where
    begun : (w : World) (turns : ℕ) → w.turns ≡ turns → Stands c seen 0 w → Comes c (λ (u : Unit {0}) v. Stands c seen 1 v) (begin_with turns w)
    begun w zero e s = ended_at c seen 0 (ended Spent) w s tt
    begun w (suc n) e s = record {
      client_is = s.client_is;
      slots = s.slots;
      values = s.values;
      events = s.events;
      serials = omega (arith, e, s.serials);
      creations = s.creations;
    }

-- what is created by two lists of events
pub updates-append : (xs ys : List Event) → updates_of (xs ++ ys) ≡ updates_of xs ++ updates_of ys
updates-append [] ys = refl
updates-append (event.Do u ∷ xs) ys = ap (λ l. u ∷ l) (updates-append xs ys)
updates-append (event.Ask q a ∷ xs) ys = updates-append xs ys
updates-append (event.Say a ∷ xs) ys = updates-append xs ys
updates-append (event.Yield ∷ xs) ys = updates-append xs ys
updates-append (event.Flush ∷ xs) ys = updates-append xs ys

pub created_by : (xs : List Event) (e : Event) → created (updates_of (xs ++ e ∷ [])) ≡ created (updates_of xs) ++ created (updates_of (e ∷ []))
created_by xs e = ap created (updates-append xs (e ∷ [])) ∙ created_parts (updates_of xs) (updates_of (e ∷ []))

-- an event that creates nothing
creates_none : (xs : List Event) (e : Event) → created (updates_of (e ∷ [])) ≡ [] → created (updates_of (xs ++ e ∷ [])) ≡ created (updates_of xs)
creates_none xs e none = created_by xs e ∙ ap (λ l. created (updates_of xs) ++ l) none ∙ append-nil (created (updates_of xs))

pub all_and : {A : Type 0} (P : A → Type 0) (xs : List A) (y : A) → All P xs → P y → All P (xs ++ y ∷ [])
all_and P xs y h p = All-append P xs (y ∷ []) h (All-cons P y [] p (All-nil P))

pub keeps_tell : {schema : Schema} {c : Setting schema} {P : World → Type 0} (seen : List Kind) (e : Event) → AsksNothing e → created (updates_of (e ∷ [])) ≡ []
    → ((w : World) → P w → Stands c seen 1 w × IsShapedEvent schema e) → Keeps c P (tell e) (λ u w. Stands c seen 0 w)
keeps_tell {schema = schema} {c = c} seen e asks_none none s = record { grows = (orderly_tell e asks_none).grows; by = λ w p h. after w (s w p).0 (s w p).1 }
  where
    after : (w : World) → Stands c seen 1 w → IsShapedEvent schema e → Stands c seen 0 (record w { events = w.events ++ e ∷ [] })
    after w s shaped = record {
      client_is = s.client_is;
      slots = s.slots;
      values = s.values;
      events = all_and (IsShapedEvent schema) w.events e s.events shaped;
      serials = omega (arith, s.serials);
      creations = creates_none w.events e none ∙ s.creations;
    }

pub keeps_ask : {schema : Schema} {c : Setting schema} {P : World → Type 0} (seen : List Kind) (spare : ℕ) (q : Query) → ((w : World) → P w → Stands c seen spare w × IsShapedQuery schema q)
    → Keeps c P (ask q) (λ a w. Stands c seen spare w × IsShapedAnswer schema q a)
keeps_ask {schema = schema} {c = c} seen spare q s = record { grows = (orderly_ask q).grows; by = λ w p h. asked w w.answers (s w p).0 (s w p).1 h }
  where
    asked : (w : World) (answers : List Answer) → Stands c seen spare w → IsShapedQuery schema q → Answered c (events_of (ask_next q answers w))
        → Comes c (λ a v. Stands c seen spare v × IsShapedAnswer schema q a) (ask_next q answers w)
    asked w [] s shaped h = ended_at c seen spare (asks q) w s shaped
    asked w (a ∷ rest) s shaped h = let fits : IsShapedAnswer schema q a = all_last (IsAnswered schema) w.events (event.Ask q a) h in (
      record {
        client_is = s.client_is;
        slots = s.slots;
        values = s.values;
        events = all_and (IsShapedEvent schema) w.events (event.Ask q a) s.events (shaped, fits);
        serials = omega (arith, s.serials);
        creations = creates_none w.events (event.Ask q a) refl ∙ s.creations;
      },
      fits,
    )

-- between the choice of an id and its creation
pub record Chosen {schema : Schema} (c : Setting schema) (seen : List Kind) (id : Uid) (w : World) : Type 0 where
  pub client_is : w.client ≡ c.client
  pub slots : length w.slots ≡ 64
  pub values : Hold seen w.slots
  pub events : All (IsShapedEvent schema) w.events
  pub serials : w.serial + w.turns ≤ 16384
  pub creations : created (updates_of w.events) ++ id ∷ [] ≡ first_ids c.client w.serial
  pub is_id : IsId id

pub keeps_id : {schema : Schema} {c : Setting schema} (seen : List Kind) → Keeps c (Stands c seen 1) next_id (λ id w. Chosen c seen id w)
keeps_id {schema = schema} {c = c} seen = record { grows = orderly_id.grows; by = λ w s h. chosen w s }
  where
    chosen : (w : World) → Stands c seen 1 w → Chosen c seen (record { client = w.client; serial = w.serial }) (record w { serial = suc w.serial })
    chosen w s = record {
      client_is = s.client_is;
      slots = s.slots;
      values = s.values;
      events = s.events;
      serials = omega (arith, s.serials);
      creations = ap (λ l. l ++ record { client = w.client; serial = w.serial } ∷ []) s.creations ∙ ap (λ n. first_ids c.client w.serial ++ record { client = n; serial = w.serial } ∷ []) s.client_is;
      is_id = (omega (arith, s.client_is, c.below), omega (arith, s.serials));
    }

pub keeps_create : {schema : Schema} {c : Setting schema} {P : World → Type 0} (seen : List Kind) (id : Uid) (entity : ℕ) (keys : List Key) → ((w : World) → P w → Chosen c seen id w × (IsId id → IsShaped schema (update.Create id entity keys)))
    → Keeps c P (tell (event.Do (update.Create id entity keys))) (λ u w. Stands c seen 0 w × IsId id)
keeps_create {schema = schema} {c = c} seen id entity keys s = record { grows = (orderly_tell (event.Do (update.Create id entity keys)) refl).grows; by = λ w p h. after w (s w p).0 (s w p).1 }
  where
    after : (w : World) → Chosen c seen id w → (IsId id → IsShaped schema (update.Create id entity keys)) → Stands c seen 0 (record w { events = w.events ++ event.Do (update.Create id entity keys) ∷ [] }) × IsId id
    after w s shaped = (
      record {
        client_is = s.client_is;
        slots = s.slots;
        values = s.values;
        events = all_and (IsShapedEvent schema) w.events (event.Do (update.Create id entity keys)) s.events (shaped s.is_id);
        serials = omega (arith, s.serials);
        creations = created_by w.events (event.Do (update.Create id entity keys)) ∙ s.creations;
      },
      s.is_id,
    )

-- an operator on two values of its kind
pub keeps_combine : {schema : Schema} {c : Setting schema} (seen : List Kind) (spare line : ℕ) (operator : Operator) (kind : Kind) (a b : Answer) → IsLine line → IsTrue (takes operator kind)
    → Keeps c (λ w. (Stands c seen spare w × IsOf kind b) × IsOf kind a) (combine line operator a b) (λ v w. Stands c seen spare w × IsOf (result_kind operator) v)
keeps_combine seen spare line op.Add kind a b l t = keeps_done _ (λ w p. (p.0.0, SFits-int_wrap w64 _))
keeps_combine seen spare line op.Subtract kind a b l t = keeps_done _ (λ w p. (p.0.0, SFits-int_wrap w64 _))
keeps_combine seen spare line op.Multiply kind a b l t = keeps_done _ (λ w p. (p.0.0, SFits-int_wrap w64 _))
keeps_combine seen spare line op.Divide kind a b l t = keeps_if (is_zero b) (keeps_stop seen spare (Trap line) (λ w p. p.0.0) l) (keeps_done _ (λ w p. (p.0.0, SFits-int_wrap w64 _)))
keeps_combine seen spare line op.Remainder kind a b l t = keeps_if (is_zero b) (keeps_stop seen spare (Trap line) (λ w p. p.0.0) l) (keeps_done _ (λ w p. (p.0.0, SFits-int_wrap w64 _)))
keeps_combine seen spare line op.Concat kind a b l t = keeps_done _ (λ w p. (p.0.0, cat_is_text (text_of a) (text_of b) (text_is kind a p.1) (text_is kind b p.0.1)))
keeps_combine seen spare line op.Equal kind a b l t = keeps_done _ (λ w p. (p.0.0, tt))
keeps_combine seen spare line op.NotEqual kind a b l t = keeps_done _ (λ w p. (p.0.0, tt))
keeps_combine seen spare line op.Less kind a b l t = keeps_done _ (λ w p. (p.0.0, tt))
keeps_combine seen spare line op.LessOrEqual kind a b l t = keeps_done _ (λ w p. (p.0.0, tt))
keeps_combine seen spare line op.Greater kind a b l t = keeps_done _ (λ w p. (p.0.0, tt))
keeps_combine seen spare line op.GreaterOrEqual kind a b l t = keeps_done _ (λ w p. (p.0.0, tt))
