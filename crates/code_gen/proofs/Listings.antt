-- Loops over listings.
use Rattle.std.proofs.Common.{◌≡◌, refl, sym, ap, ◌∙◌, subst, arith}
use Rattle.std.proofs.Math.Nat.{not-suc-le-zero}
use Rattle.std.proofs.lemmas.List.{length-append}
use Rattle.std.proofs.lemmas.List.Elements.{All-head, All-tail, All-weaker}
use Rattle.std.specs.Prelude.{ℕ, zero, suc, ◌+◌, ◌-◌, ◌≤◌, ◌<◌, List, [], ◌∷◌, ◌++◌, length, map, All, Option, None, Some, MatchOption, slice_get, slice_set}
use mathlib.Core.List.{IsPrefix}
use Rattle.cloud_base.specs.Values.{Id}
use Rattle.cloud_base.specs.Shaped.{IsShapedAnswer, IsCell, AreKeys, MatchTypes, property_at}
use Rattle.cloud_base.specs.declared.key.Key.{Key}
use Rattle.cloud_base.specs.declared.schema.KeyType.{KeyType}
use Rattle.cloud_base.specs.declared.schema.Property.{Property}
use Rattle.cloud_base.specs.declared.schema.Schema.{Schema}
use Rattle.cloud_base.specs.declared.update.Answer.{Answer}
use Rattle.cloud_base.specs.declared.update.Answer.TheVariants as answer
use Rattle.cloud_base.specs.declared.update.Event.TheVariants as event
use Rattle.cloud_base.specs.declared.update.Query.{Query}
use Rattle.cloud_base.specs.declared.update.Query.TheVariants as query
use Rattle.typed_program.specs.Does.{World, Does, done, ask, ask_next, listed, store, ◌>>=◌, then_by}
use Rattle.typed_program.specs.Laws.{events_of}
use Rattle.typed_program.specs.Shapes.{IsAnswered}
use Rattle.typed_program.specs.Trace.{value_of, ids_of, tuples_of, for_ids, store_keys, for_tuples}
use Rattle.typed_program.proofs.Orderly.{Orderly, orderly_bind, orderly_done, orderly_ask, orderly_store, orderly_for_tuples}
use Rattle.plain_vm.specs.declared.instruction.Instruction.{Instruction}
use Rattle.plain_vm.specs.declared.instruction.Instruction.TheVariants as i
use Rattle.plain_vm.specs.Exec.{Standing, Next, act, act_at, step, exec, from_there, go_to, push_all}
use Rattle.code_gen.specs.Compile.{stores, loop_code, key_count}
use Rattle.code_gen.proofs.Parts.{Has, has_front, has_back, has_moved}
use Rattle.code_gen.proofs.Performs.{Performs, at_place, performs_assoc, performs_same, performs_moved, silently, acts}
use Rattle.code_gen.proofs.Renders.{Renders, Anything, renders_moved}

all_amid : {A : Type 0} (P : A → Type 0) (xs : List A) (x : A) (more : List A) → All P ((xs ++ x ∷ []) ++ more) → P x
all_amid P [] x more h = All-head P x more h
all_amid P (y ∷ xs) x more h = all_amid P xs x more (All-tail P y ((xs ++ x ∷ []) ++ more) h)

-- a query that is answered in shape
pub asks_in_shape : {schema : Schema} {code : List Instruction} {turns place : ℕ} {stack listings : List Answer} (instruction : Instruction) (q : Query) (to : Answer → Standing) (k : Answer → Next)
    → slice_get code place ≡ Some instruction → act instruction place stack listings ≡ (ask q >>= λ a. done (Some (to a))) → ((a : Answer) → Orderly (k a))
    → ((a : Answer) → IsShapedAnswer schema q a → Performs schema code turns (to a).place (to a).stack (to a).listings (k a)) → Performs schema code turns place stack listings (ask q >>= k)
asks_in_shape {schema = schema} {code = code} {turns = turns} {place = place} {stack = stack} {listings = listings} instruction q to k there is ok on = record {
  by = λ w le h. went w w.answers (ap (λ x. act_at x here w) there ∙ ap (λ f. f w) is) le h;
}
  where
    here : Standing
    here = at_place place stack listings

    went : (w : World) (answers : List Answer) → step code here w ≡ then_by (ask_next q answers w) (λ a. done (Some (to a))) → w.turns ≤ turns
        → All (IsAnswered schema) (events_of (then_by (ask_next q answers w) k)) → (n : ℕ) × (exec code n here w ≡ then_by (ask_next q answers w) k)
    went w [] e le h = (1, ap (λ x. then_by x (from_there (exec code 0))) e)
    went w (a ∷ rest) e le h =
        let v : World = record w { turns = w.turns - (1 + listed a); answers = rest; events = w.events ++ event.Ask q a ∷ [] } in
        let grown : IsPrefix v.events (events_of (k a v)) = (ok a).grows v in
        let shaped : IsShapedAnswer schema q a = all_amid (IsAnswered schema) w.events (event.Ask q a) grown.0 (subst (λ l. All (IsAnswered schema) l) (sym grown.1) h) in
        let more = (on a shaped).by v (omega (arith, le)) h in
        (suc more.0, ap (λ x. then_by x (from_there (exec code more.0))) e ∙ more.1)

orderly_ids : (n : ℕ) (ids : List Id) (block : Does (Unit {0})) → Orderly block → Orderly (for_ids n ids block)
orderly_ids n [] block ob = orderly_done tt
orderly_ids n (id ∷ ids) block ob = orderly_bind (store n (answer.Id id)) _ (orderly_store n (answer.Id id)) (λ u. orderly_bind block _ ob (λ u. orderly_ids n ids block ob))

-- a block for each of the ids
ids_perform : {schema : Schema} {code : List Instruction} {turns place : ℕ} {stack listings : List Answer} (n : ℕ) (part : List Instruction) (block : Does (Unit {0})) (to : ℕ) (k : Unit {0} → Next)
    → Has code place (loop_code place n 1 part) → place + (length part + 3) ≡ to → Renders schema code (place + 2) part stack block Anything (λ u. stack) → ((u : Unit {0}) → Orderly (k u))
    → Performs schema code turns to stack listings (k tt) → (ids : List Id) → Performs schema code turns place stack (answer.Ids ids ∷ listings) (for_ids n ids block >>= k)
ids_perform {place = place} {stack = stack} {listings = listings} n part block to k h e r ok next [] =
    silently (i.Next (place + (1 + (length part + 2))) 1) (at_place (place + (1 + (length part + 2))) stack listings) (k tt) h.0 refl (performs_moved to (place + (1 + (length part + 2))) (omega (arith, e)) next)
ids_perform {schema = schema} {code = code} {turns = turns} {place = place} {stack = stack} {listings = listings} n part block to k h e r ok next (id ∷ ids) =
    let rest : Does (Unit {0}) = for_ids n ids block in
    let here : Has code (suc (suc place)) (part ++ i.Jump place ∷ []) = h.1.1 in
    let back : Has code (suc (suc place) + length part) (i.Jump place ∷ []) = has_back code (suc (suc place)) part (i.Jump place ∷ []) here in
    let slot : n + 0 ≡ n = omega arith in
    silently (i.Next (place + (1 + (length part + 2))) 1) (at_place (suc place) (answer.Id id ∷ stack) (answer.Ids ids ∷ listings)) (for_ids n (id ∷ ids) block >>= k) h.0 refl
    (performs_assoc (store n (answer.Id id)) (λ u. block >>= λ u. rest) k
    (acts (i.Store (n + 0)) (store n (answer.Id id)) (λ u. at_place (suc (suc place)) stack (answer.Ids ids ∷ listings)) (λ u. (block >>= λ u. rest) >>= k) h.1.0
    (ap (λ m. store m (answer.Id id) >>= λ u. go_to (suc (suc place)) stack (answer.Ids ids ∷ listings)) slot) (orderly_store n (answer.Id id)) (λ u.
    performs_assoc block (λ u. rest) k
    (performs_moved (place + 2) (suc (suc place)) (omega arith) (r.by (has_moved code (suc (suc place)) (place + 2) part (omega arith) (has_front code (suc (suc place)) part (i.Jump place ∷ []) here))
    turns (suc (suc place) + length part) (omega arith) (answer.Ids ids ∷ listings) (λ u. rest >>= k) (λ u. orderly_bind rest k (orderly_ids n ids block r.orderly) ok) (λ u known.
    silently (i.Jump place) (at_place place stack (answer.Ids ids ∷ listings)) (rest >>= k) back.0 refl (ids_perform n part block to k h e r ok next ids)))))))

-- all of an entity
pub ids_render : {schema : Schema} {code : List Instruction} {place : ℕ} {stack : List Answer} (n entity : ℕ) (part : List Instruction) (block : Does (Unit {0}))
    → Renders schema code (place + 3) part stack block Anything (λ u. stack)
    → Renders schema code place (i.All entity ∷ loop_code (place + 1) n 1 part) stack (ask (query.All entity) >>= λ v. for_ids n (ids_of v) block) Anything (λ u. stack)
ids_render {schema = schema} {code = code} {place = place} {stack = stack} n entity part block r = record {
  orderly = orderly_bind (ask (query.All entity)) (λ v. for_ids n (ids_of v) block) (orderly_ask _) (λ v. orderly_ids n (ids_of v) block r.orderly);
  by = λ h turns to e ls k ok next. performs_assoc (ask (query.All entity)) (λ v. for_ids n (ids_of v) block) k
      (asks_in_shape (i.All entity) (query.All entity) (λ v. at_place (suc place) stack (v ∷ ls)) (λ v. for_ids n (ids_of v) block >>= k) h.0 refl
      (λ v. orderly_bind (for_ids n (ids_of v) block) k (orderly_ids n (ids_of v) block r.orderly) ok)
      (λ v shaped. performs_moved (place + 1) (suc place) (omega arith) (listed_ids turns to ls k (has_moved code (suc place) (place + 1) (loop_code (place + 1) n 1 part) (omega arith) h.1)
      (omega (arith, e, length-append part (i.Jump (place + 1) ∷ []))) ok (next tt tt) v shaped)));
}
  where
    listed_ids : (turns to : ℕ) (ls : List Answer) (k : Unit {0} → Next) → Has code (place + 1) (loop_code (place + 1) n 1 part) → place + 1 + (length part + 3) ≡ to → ((u : Unit {0}) → Orderly (k u))
        → Performs schema code turns to stack ls (k tt) → (v : Answer) → IsShapedAnswer schema (query.All entity) v → Performs schema code turns (place + 1) stack (v ∷ ls) (for_ids n (ids_of v) block >>= k)
    listed_ids turns to ls k h e ok next (answer.Int x) shaped = absurd shaped
    listed_ids turns to ls k h e ok next (answer.Text x) shaped = absurd shaped
    listed_ids turns to ls k h e ok next (answer.Truth x) shaped = absurd shaped
    listed_ids turns to ls k h e ok next (answer.Id x) shaped = absurd shaped
    listed_ids turns to ls k h e ok next (answer.Ids ids) shaped = ids_perform n part block to k h e
        (renders_moved (place + 3) (place + 1 + 2) (omega arith) r)
        ok next ids
    listed_ids turns to ls k h e ok next (answer.Tuples x) shaped = absurd shaped

-- what was stored first may be stored last, where another place is stored to
set_swap : (slots : List Answer) (m n : ℕ) (a b : Answer) → m < n → slice_set (slice_set slots n a) m b ≡ slice_set (slice_set slots m b) n a
set_swap [] m n a b less = refl
set_swap (x ∷ slots) m zero a b less = absurd (not-suc-le-zero less)
set_swap (x ∷ slots) zero (suc n) a b less = refl
set_swap (x ∷ slots) (suc m) (suc n) a b less = ap (λ l. x ∷ l) (set_swap slots m n a b (omega (arith, less)))

store_swap : (keys : List Key) (m n : ℕ) (v : Answer) (k : Unit {0} → Next) (w : World) → m < n → (store_keys n keys >>= λ u. store m v >>= k) w ≡ ((store m v >>= λ u. store_keys n keys) >>= k) w
store_swap [] m n v k w less = refl
store_swap (key ∷ keys) m n v k w less = store_swap keys m (suc n) v k (record w { slots = slice_set w.slots n (value_of key) }) (omega (arith, less))
    ∙ ap (λ l. (store_keys (suc n) keys >>= k) (record w { slots = l })) (set_swap w.slots m n (value_of key) v less)

pub stores_last : (n count : ℕ) → stores n (suc count) ≡ stores (suc n) count ++ i.Store n ∷ []
stores_last n zero =
    let e : n + zero ≡ n = omega arith in
    ap (λ m. i.Store m ∷ []) e
stores_last n (suc count) =
    let e : n + suc count ≡ suc n + count = omega arith in
    ap (λ m. i.Store m ∷ stores n (suc count)) e ∙ ap (λ l. i.Store (suc n + count) ∷ l) (stores_last n count)

pub length_stores : (n count : ℕ) → length (stores n count) ≡ count
length_stores n zero = refl
length_stores n (suc count) = ap suc (length_stores n count)

-- the parts of an item are stored
keys_perform : {schema : Schema} {code : List Instruction} {turns : ℕ} {listings : List Answer} (keys : List Key) (n place : ℕ) (stack : List Answer) (k : Unit {0} → Next) → Has code place (stores n (length keys))
    → Performs schema code turns (place + length keys) stack listings (k tt) → Performs schema code turns place (push_all (map value_of keys) stack) listings (store_keys n keys >>= k)
keys_perform [] n place stack k h next = performs_moved (place + 0) place (omega arith) next
keys_perform {code = code} {listings = listings} (key ∷ keys) n place stack k h next =
    let both : Has code place (stores (suc n) (length keys) ++ i.Store n ∷ []) = subst (λ l. Has code place l) (stores_last n (length keys)) h in
    let last : Has code (place + length (stores (suc n) (length keys))) (i.Store n ∷ []) = has_back code place (stores (suc n) (length keys)) (i.Store n ∷ []) both in
    let there : Has code (place + length keys) (i.Store n ∷ []) = has_moved code _ (place + length keys) (i.Store n ∷ []) (ap (λ m. place + m) (length_stores (suc n) (length keys))) last in
    performs_same (store_keys (suc n) keys >>= λ u. store n (value_of key) >>= k) (store_keys n (key ∷ keys) >>= k) (λ w. store_swap keys n (suc n) (value_of key) k w (omega arith))
    (keys_perform keys (suc n) place (value_of key ∷ stack) (λ u. store n (value_of key) >>= k) (has_front code place (stores (suc n) (length keys)) (i.Store n ∷ []) both)
    (acts (i.Store n) (store n (value_of key)) (λ u. at_place (suc (place + length keys)) stack listings) k there.0 refl (orderly_store n (value_of key)) (λ u.
    performs_moved (place + suc (length keys)) (suc (place + length keys)) (omega arith) next)))

-- a block for each of the key lists
tuples_perform : {schema : Schema} {code : List Instruction} {turns place : ℕ} {stack listings : List Answer} (n count : ℕ) (part : List Instruction) (block : Does (Unit {0})) (to : ℕ) (k : Unit {0} → Next)
    → Has code place (loop_code place n count part) → place + (count + (length part + 2)) ≡ to → Renders schema code (place + (count + 1)) part stack block Anything (λ u. stack) → ((u : Unit {0}) → Orderly (k u))
    → Performs schema code turns to stack listings (k tt) → (tuples : List (List Key)) → All (λ keys. length keys ≡ count) tuples
    → Performs schema code turns place stack (answer.Tuples tuples ∷ listings) (for_tuples n tuples block >>= k)
tuples_perform {place = place} {stack = stack} {listings = listings} n count part block to k h e r ok next [] many =
    silently (i.Next (place + (count + (length part + 2))) count) (at_place (place + (count + (length part + 2))) stack listings) (k tt) h.0 refl (performs_moved to (place + (count + (length part + 2))) (sym e) next)
tuples_perform {schema = schema} {code = code} {turns = turns} {place = place} {stack = stack} {listings = listings} n count part block to k h e r ok next (keys ∷ tuples) many =
    let rest : Does (Unit {0}) = for_tuples n tuples block in
    let as_many : length keys ≡ count = All-head (λ (ks : List Key). length ks ≡ count) keys tuples many in
    let stored : Has code (suc place) (stores n (length keys)) = subst (λ c. Has code (suc place) (stores n c)) (sym as_many) (has_front code (suc place) (stores n count) (part ++ i.Jump place ∷ []) h.1) in
    let here : Has code (suc place + length keys) (part ++ i.Jump place ∷ []) =
    has_moved code (suc place + length (stores n count)) (suc place + length keys) (part ++ i.Jump place ∷ []) (ap (λ c. suc place + c) (length_stores n count ∙ sym as_many)) (has_back code (suc place) (stores n count) (part ++ i.Jump place ∷ []) h.1) in
    let back : Has code (suc place + length keys + length part) (i.Jump place ∷ []) = has_back code (suc place + length keys) part (i.Jump place ∷ []) here in
    silently (i.Next (place + (count + (length part + 2))) count) (at_place (suc place) (push_all (map value_of keys) stack) (answer.Tuples tuples ∷ listings)) (for_tuples n (keys ∷ tuples) block >>= k) h.0 refl
    (performs_assoc (store_keys n keys) (λ u. block >>= λ u. rest) k
    (keys_perform keys n (suc place) stack (λ u. (block >>= λ u. rest) >>= k) stored
    (performs_assoc block (λ u. rest) k
    (performs_moved (place + (count + 1)) (suc place + length keys) (omega (arith, as_many)) (r.by (has_moved code (suc place + length keys) (place + (count + 1)) part (omega (arith, as_many)) (has_front code (suc place + length keys) part (i.Jump place ∷ []) here))
    turns (suc place + length keys + length part) (omega (arith, as_many)) (answer.Tuples tuples ∷ listings) (λ u. rest >>= k) (λ u. orderly_bind rest k (orderly_for_tuples n tuples block r.orderly) ok) (λ u known.
    silently (i.Jump place) (at_place place stack (answer.Tuples tuples ∷ listings)) (rest >>= k) back.0 refl
    (tuples_perform n count part block to k h e r ok next tuples (All-tail (λ (ks : List Key). length ks ≡ count) keys tuples many))))))))

-- the keys of a cell are as many as its property has
matched_many : (types : List KeyType) (keys : List Key) → MatchTypes types keys → length keys ≡ length types
matched_many [] [] h = refl
matched_many [] (key ∷ keys) h = absurd h
matched_many (type ∷ types) [] h = absurd h
matched_many (type ∷ types) (key ∷ keys) h = ap suc (matched_many types keys h.1)

counted : (o : Option Property) (keys : List Key) → MatchOption o ⊥ (λ p. AreKeys p.keys keys) → length keys ≡ key_count o
counted None keys h = absurd h
counted (Some property) keys h = matched_many property.keys keys h.1

-- the entries of a property
pub tuples_render : {schema : Schema} {code : List Instruction} {place : ℕ} {stack : List Answer} (n property : ℕ) (part : List Instruction) (block : Does (Unit {0}))
    → Renders schema code (place + (key_count (property_at schema property) + 2)) part stack block Anything (λ u. stack)
    → Renders schema code place (i.Entries property ∷ loop_code (place + 1) n (key_count (property_at schema property)) part) stack (ask (query.Entries property) >>= λ v. for_tuples n (tuples_of v) block) Anything (λ u. stack)
tuples_render {schema = schema} {code = code} {place = place} {stack = stack} n property part block r = record {
  orderly = orderly_bind (ask (query.Entries property)) (λ v. for_tuples n (tuples_of v) block) (orderly_ask _) (λ v. orderly_for_tuples n (tuples_of v) block r.orderly);
  by = λ h turns to e ls k ok next. performs_assoc (ask (query.Entries property)) (λ v. for_tuples n (tuples_of v) block) k
      (asks_in_shape (i.Entries property) (query.Entries property) (λ v. at_place (suc place) stack (v ∷ ls)) (λ v. for_tuples n (tuples_of v) block >>= k) h.0 refl
      (λ v. orderly_bind (for_tuples n (tuples_of v) block) k (orderly_for_tuples n (tuples_of v) block r.orderly) ok)
      (λ v shaped. performs_moved (place + 1) (suc place) (omega arith) (listed_tuples turns to ls k (has_moved code (suc place) (place + 1) (loop_code (place + 1) n count part) (omega arith) h.1)
      (omega (arith, e, length-append (stores n count) (part ++ i.Jump (place + 1) ∷ []), length_stores n count, length-append part (i.Jump (place + 1) ∷ []))) ok (next tt tt) v shaped)));
}
  where
    count : ℕ
    count = key_count (property_at schema property)

    listed_tuples : (turns to : ℕ) (ls : List Answer) (k : Unit {0} → Next) → Has code (place + 1) (loop_code (place + 1) n count part) → place + 1 + (count + (length part + 2)) ≡ to → ((u : Unit {0}) → Orderly (k u))
        → Performs schema code turns to stack ls (k tt) → (v : Answer) → IsShapedAnswer schema (query.Entries property) v → Performs schema code turns (place + 1) stack (v ∷ ls) (for_tuples n (tuples_of v) block >>= k)
    listed_tuples turns to ls k h e ok next (answer.Int x) shaped = absurd shaped
    listed_tuples turns to ls k h e ok next (answer.Text x) shaped = absurd shaped
    listed_tuples turns to ls k h e ok next (answer.Truth x) shaped = absurd shaped
    listed_tuples turns to ls k h e ok next (answer.Id x) shaped = absurd shaped
    listed_tuples turns to ls k h e ok next (answer.Ids x) shaped = absurd shaped
    listed_tuples turns to ls k h e ok next (answer.Tuples tuples) shaped = tuples_perform n count part block to k h e
        (renders_moved (place + (count + 2)) (place + 1 + (count + 1)) (omega arith) r)
        ok next tuples (All-weaker (IsCell schema property) (λ keys. length keys ≡ count) (λ keys cell. counted (property_at schema property) keys cell.1) tuples shaped)
