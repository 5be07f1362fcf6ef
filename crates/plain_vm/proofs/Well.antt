-- A valid code is never stuck, and does only what is of the schema's shape.
use Rattle.std.proofs.Common.{◌≡◌, refl, sym, ap, ◌∙◌, subst, arith}
use Rattle.std.proofs.lemmas.Int.{SFits-int_wrap}
use Rattle.std.proofs.lemmas.Bool.{eqb-true, eqb-false}
use Rattle.std.proofs.lemmas.List.{length-set, length-map, get_or-set_same, get_or-set_other}
use Rattle.std.proofs.lemmas.List.Elements.{All-nil, All-cons, All-head, All-tail, All-append}
use Rattle.std.proofs.lemmas.Option.{slice_get_within}
use Rattle.std.specs.Int.{w64}
use Rattle.std.specs.Prelude.{◌≢◌, ℕ, zero, suc, ◌+◌, ◌-◌, not, neg_ℤ, ◌<◌, ◌^◌, pos, Bool, true, false, List, [], ◌∷◌, ◌++◌, length, map, All, Option, None, Some, slice_get, slice_index_or, slice_set, MatchOption, IsTrue, FitsSigned, replicate, if◌then◌else◌, ◌==◌}
use Rattle.cloud_base.specs.Values.{Id as Uid, most_clients}
use Rattle.cloud_base.specs.PlainCell.{ValueKind, Number, Words, value_kind}
use Rattle.cloud_base.specs.Shaped.{IsSchema, IsShaped, IsShapedQuery, IsShapedAnswer, IsShapedEvent, IsId, IsCell, IsChange, AreKeys, AreKeyTypes, MatchTypes, IsOfKind, property_at, entity_at}
use Rattle.cloud_base.specs.declared.key.Key.{Key}
use Rattle.cloud_base.specs.declared.schema.KeyType.{KeyType}
use Rattle.cloud_base.specs.declared.schema.Entity.{Entity}
use Rattle.cloud_base.specs.declared.schema.Property.{Property}
use Rattle.cloud_base.specs.declared.schema.Schema.{Schema}
use Rattle.cloud_base.specs.declared.update.Answer.{Answer}
use Rattle.cloud_base.specs.declared.update.Answer.TheVariants as answer
use Rattle.cloud_base.specs.declared.update.Event.{Event}
use Rattle.cloud_base.specs.declared.update.Event.TheVariants as event
use Rattle.cloud_base.specs.declared.update.Query.{Query}
use Rattle.cloud_base.specs.declared.update.Query.TheVariants as query
use Rattle.cloud_base.specs.declared.update.Update.TheVariants as update
use Rattle.typed_program.specs.declared.expression.Kind.{Kind}
use Rattle.typed_program.specs.declared.expression.Kind.TheVariants.{Int, Truth, Id}
use Rattle.typed_program.specs.declared.expression.Operator.{Operator}
use Rattle.typed_program.specs.declared.expression.Operator.TheVariants as op
use Rattle.typed_program.specs.Does.{World, Run, goes, Does, ◌>>=◌, tell, ask, ask_next, begin_with, next_id, listed, then_by}
use Rattle.typed_program.specs.Kinds.{most_slots, key_kind, cell_kind, kind_of_value, takes, result_kind, IsLine}
use Rattle.typed_program.specs.Laws.{events_of}
use Rattle.typed_program.specs.Shapes.{IsOf, IsAnswered}
use Rattle.typed_program.specs.Trace.{int_of, text_of, truth_of, id_of, key_of, value_of, is_zero, combine, change_of, wrapped, start}
use Rattle.typed_program.proofs.Keeps.{all_last}
use Rattle.typed_program.proofs.Shaped.{all_at, type_at}
use Rattle.typed_program.proofs.Slots.{AreOf, keys_match, as_many, value_is}
use Rattle.typed_program.proofs.Values.{zero_fits, id_is, said, changes, text_is, cat_is_text}
use Rattle.plain_vm.specs.declared.instruction.Literal.{Literal}
use Rattle.plain_vm.specs.declared.instruction.Instruction.{Instruction}
use Rattle.plain_vm.specs.Exec.{Standing, Next, go_to, pops, push_all, literal_value, operator_of, line_of, first_item, take_item, act, act_at, step, first}
use Rattle.plain_vm.specs.Fits.{IsListing, AreListings, Fits, ComesWell}
use Rattle.plain_vm.specs.Valid.{Shape, Serves, Leads, IsFine, LandsWell, AreFine, IsLiteral, IsValid, first_shape, jump_of, literal_kind, with_slot, with_stack, with_listings}
use Rattle.plain_vm.proofs.Pops.{pops_all, pushed, as_many_of, push_are}

-- what is there of the schema
small_property : (schema : Schema) (number : ℕ) (property : Property) → IsSchema schema → property_at schema number ≡ Some property → (number < 2 ^ 16) × (number < length schema.properties)
small_property schema number property sane there = let h : number < length schema.properties = slice_get_within schema.properties number property there in (omega (arith, h, sane.few_properties), h)

small_entity : (schema : Schema) (number : ℕ) (entity : Entity) → IsSchema schema → entity_at schema number ≡ Some entity → (number < 2 ^ 16) × (number < length schema.entities)
small_entity schema number entity sane there = let h : number < length schema.entities = slice_get_within schema.entities number entity there in (omega (arith, h, sane.few_entities), h)

are_keys : (schema : Schema) (types : List KeyType) (values : List Answer) → AreKeyTypes schema types → AreOf (map key_kind types) values → AreKeys types (map key_of values)
are_keys schema types values few h = (omega (arith, as_many types values h, few.0), keys_match types values h)

is_cell : (schema : Schema) (number : ℕ) (property : Property) (values : List Answer) → IsSchema schema → property_at schema number ≡ Some property → AreOf (map key_kind property.keys) values → IsCell schema number (map key_of values)
is_cell schema number property values sane there h = (
  (small_property schema number property sane there).0,
  subst (λ o. MatchOption o ⊥ (λ p. AreKeys p.keys (map key_of values))) (sym there)
      (are_keys schema property.keys values (all_at (λ (p : Property). AreKeyTypes schema p.keys) schema.properties number property sane.property_keys there) h),
)

is_creation : (schema : Schema) (id : Uid) (number : ℕ) (entity : Entity) (values : List Answer) → IsSchema schema → entity_at schema number ≡ Some entity → AreOf (map key_kind entity.keys) values
    → IsId id → IsShaped schema (update.Create id number (map key_of values))
is_creation schema id number entity values sane there h is = (
  is,
  (small_entity schema number entity sane there).0,
  subst (λ o. MatchOption o ⊥ (λ (x : Entity). AreKeys x.keys (map key_of values))) (sym there)
      (are_keys schema entity.keys values (all_at (λ (x : Entity). AreKeyTypes schema x.keys) schema.entities number entity sane.entity_keys there) h),
)

of_kind : (kind : ValueKind) (v : Answer) → IsOfKind kind v → IsOf (kind_of_value kind) v
of_kind Number (answer.Int n) h = h
of_kind Number (answer.Text bytes) h = absurd h
of_kind Number (answer.Truth b) h = absurd h
of_kind Number (answer.Id id) h = absurd h
of_kind Number (answer.Ids ids) h = absurd h
of_kind Number (answer.Tuples tuples) h = absurd h
of_kind Words (answer.Int n) h = absurd h
of_kind Words (answer.Text bytes) h = h
of_kind Words (answer.Truth b) h = absurd h
of_kind Words (answer.Id id) h = absurd h
of_kind Words (answer.Ids ids) h = absurd h
of_kind Words (answer.Tuples tuples) h = absurd h

got : (schema : Schema) (number : ℕ) (property : Property) (keys : List Key) (v : Answer) → property_at schema number ≡ Some property → IsShapedAnswer schema (query.Get number keys) v → IsOf (cell_kind property.cell) v
got schema number property keys v there h = of_kind (value_kind property.cell) v (subst (λ t. IsOfKind (value_kind t) v) (type_at schema number property there) h)

told_alive : (schema : Schema) (id : Uid) (v : Answer) → IsShapedAnswer schema (query.Alive id) v → IsOf Truth v
told_alive schema id (answer.Int n) h = absurd h
told_alive schema id (answer.Text bytes) h = absurd h
told_alive schema id (answer.Truth b) h = tt
told_alive schema id (answer.Id x) h = absurd h
told_alive schema id (answer.Ids ids) h = absurd h
told_alive schema id (answer.Tuples tuples) h = absurd h

told_ids : (schema : Schema) (number : ℕ) (v : Answer) → IsShapedAnswer schema (query.All number) v → IsListing (Id number ∷ []) v
told_ids schema number (answer.Int n) h = absurd h
told_ids schema number (answer.Text bytes) h = absurd h
told_ids schema number (answer.Truth b) h = absurd h
told_ids schema number (answer.Id x) h = absurd h
told_ids schema number (answer.Ids ids) h = (number, refl, h)
told_ids schema number (answer.Tuples tuples) h = absurd h

are_of : (types : List KeyType) (keys : List Key) → MatchTypes types keys → AreOf (map key_kind types) (map value_of keys)
are_of [] [] h = tt
are_of [] (k ∷ keys) h = absurd h
are_of (t ∷ types) [] h = absurd h
are_of (t ∷ types) (k ∷ keys) h = (value_is t k h.0, are_of types keys h.1)

cells_of : (schema : Schema) (number : ℕ) (property : Property) → property_at schema number ≡ Some property → (tuples : List (List Key)) → All (IsCell schema number) tuples
    → All (λ keys. AreOf (map key_kind property.keys) (map value_of keys)) tuples
cells_of schema number property there [] h = All-nil (λ keys. AreOf (map key_kind property.keys) (map value_of keys))
cells_of schema number property there (keys ∷ tuples) h = All-cons (λ keys. AreOf (map key_kind property.keys) (map value_of keys)) keys tuples
    (are_of property.keys keys (subst (λ o. MatchOption o ⊥ (λ (p : Property). AreKeys p.keys keys)) there (All-head (IsCell schema number) keys tuples h).1).1)
    (cells_of schema number property there tuples (All-tail (IsCell schema number) keys tuples h))

told_tuples : (schema : Schema) (number : ℕ) (property : Property) (v : Answer) → property_at schema number ≡ Some property → IsShapedAnswer schema (query.Entries number) v → IsListing (map key_kind property.keys) v
told_tuples schema number property (answer.Int n) there h = absurd h
told_tuples schema number property (answer.Text bytes) there h = absurd h
told_tuples schema number property (answer.Truth b) there h = absurd h
told_tuples schema number property (answer.Id x) there h = absurd h
told_tuples schema number property (answer.Ids ids) there h = absurd h
told_tuples schema number property (answer.Tuples tuples) there h = cells_of schema number property there tuples h

all_and : {A : Type 0} (P : A → Type 0) (xs : List A) (y : A) → All P xs → P y → All P (xs ++ y ∷ [])
all_and P xs y h k = All-append P xs (y ∷ []) h (All-cons P y [] k (All-nil P))

-- the slots after one of them has a value of a kind
stored_after : (slots : ℕ → Option Kind) (values : List Answer) (n : ℕ) (kind : Kind) (v : Answer) → n < length values → IsOf kind v
    → ((m : ℕ) (k : Kind) → slots m ≡ Some k → m < most_slots → IsOf k (slice_index_or values m (answer.Int (pos 0))))
    → (m : ℕ) (k : Kind) → with_slot slots n kind m ≡ Some k → m < most_slots → IsOf k (slice_index_or (slice_set values n v) m (answer.Int (pos 0)))
stored_after slots values n kind v within is held m k e few = by (m == n) refl
  where
    by : (b : Bool) → (m == n) ≡ b → IsOf k (slice_index_or (slice_set values n v) m (answer.Int (pos 0)))
    by true same =
        let at : m ≡ n = eqb-true m n same in
        let kinds : Some kind ≡ Some k = ap (λ b. if b then Some kind else slots m) (sym same) ∙ e in
        let here : slice_index_or (slice_set values n v) m (answer.Int (pos 0)) ≡ v = ap (λ i. slice_index_or (slice_set values n v) i (answer.Int (pos 0))) at ∙ get_or-set_same values n v (answer.Int (pos 0)) within in
        let kind_is : kind ≡ k = cc in
        subst (IsOf k) (sym here) (subst (λ q. IsOf q v) kind_is is)
    by false other =
        let apart : m ≢ n = eqb-false m n other in
        let there : slots m ≡ Some k = ap (λ b. if b then Some kind else slots m) (sym other) ∙ e in
        subst (IsOf k) (sym (get_or-set_other values n m v (answer.Int (pos 0)) apart)) (held m k there few)

literal_is : (literal : Literal) → IsLiteral literal → IsOf (literal_kind literal) (literal_value literal)
literal_is (Literal.Int n) h = h
literal_is (Literal.Text bytes) h = h
literal_is (Literal.Truth b) h = tt

served : (schema : Schema) (shape wanted : Shape) (stack listings : List Answer) (w : World) → Serves shape wanted → Fits schema shape stack listings w → Fits schema wanted stack listings w
served schema shape wanted stack listings w s f = record {
  stacked = subst (λ k. AreOf k stack) s.stack f.stacked;
  stored = λ n kind e few. f.stored n kind (s.slots n kind e) few;
  listed = subst (λ k. AreListings k listings) s.listings f.listed;
  many = f.many;
  client_below = f.client_below;
  events = f.events;
}

module _ (schema : Schema) (shapes : List Shape) (sane : IsSchema schema) where
  -- where its queries are answered in shape, it comes well
  abbrev Well : Run (Option Standing) → Type 0
  Well r = All (IsAnswered schema) (events_of r) → ComesWell schema shapes r

  lands : (to : ℕ) (shape : Shape) (stack listings : List Answer) (w : World) → Leads shapes to shape → Fits schema shape stack listings w → Well (go_to to stack listings w)
  lands to shape stack listings w l f h = (l.0, l.1, served schema shape l.0 stack listings w l.2 f)

  -- another stack
  restacked : (shape : Shape) (kinds : List Kind) (stack stack' listings : List Answer) (w : World) → Fits schema shape stack listings w → AreOf kinds stack' → Fits schema (with_stack shape kinds) stack' listings w
  restacked shape kinds stack stack' listings w f k = record { stacked = k; stored = f.stored; listed = f.listed; many = f.many; client_below = f.client_below; events = f.events }

  relisted : (shape : Shape) (kinds : List (List Kind)) (stack listings listings' : List Answer) (w : World) → Fits schema shape stack listings w → AreListings kinds listings' → Fits schema (with_listings shape kinds) stack listings' w
  relisted shape kinds stack listings listings' w f k = record { stacked = f.stacked; stored = f.stored; listed = k; many = f.many; client_below = f.client_below; events = f.events }

  retold : (shape : Shape) (stack listings : List Answer) (w : World) (e : Event) → Fits schema shape stack listings w → IsShapedEvent schema e → Fits schema shape stack listings (record w { events = w.events ++ e ∷ [] })
  retold shape stack listings w e f s = record { stacked = f.stacked; stored = f.stored; listed = f.listed; many = f.many; client_below = f.client_below; events = all_and (IsShapedEvent schema) w.events e f.events s }

  if_well : (b : Bool) (m n : Does Answer) (next : Answer → Next) (w : World) → Well ((m >>= next) w) → Well ((n >>= next) w) → Well (((if b then m else n) >>= next) w)
  if_well true m n next w p q = p
  if_well false m n next w p q = q

  combined : (line : ℕ) (operator : Operator) (kind : Kind) (a b : Answer) (next : Answer → Next) (w : World) → IsLine line → IsTrue (takes operator kind) → IsOf kind a → IsOf kind b → All (IsShapedEvent schema) w.events
      → ((v : Answer) → IsOf (result_kind operator) v → Well (next v w)) → Well ((combine line operator a b >>= next) w)
  combined line op.Add kind a b next w l t x y e k = k _ (SFits-int_wrap w64 _)
  combined line op.Subtract kind a b next w l t x y e k = k _ (SFits-int_wrap w64 _)
  combined line op.Multiply kind a b next w l t x y e k = k _ (SFits-int_wrap w64 _)
  combined line op.Divide kind a b next w l t x y e k = if_well (is_zero b) _ _ next w (λ h. (l, e)) (k _ (SFits-int_wrap w64 _))
  combined line op.Remainder kind a b next w l t x y e k = if_well (is_zero b) _ _ next w (λ h. (l, e)) (k _ (SFits-int_wrap w64 _))
  combined line op.Concat kind a b next w l t x y e k = k _ (cat_is_text (text_of a) (text_of b) (text_is kind a x) (text_is kind b y))
  combined line op.Equal kind a b next w l t x y e k = k _ tt
  combined line op.NotEqual kind a b next w l t x y e k = k _ tt
  combined line op.Less kind a b next w l t x y e k = k _ tt
  combined line op.LessOrEqual kind a b next w l t x y e k = k _ tt
  combined line op.Greater kind a b next w l t x y e k = k _ tt
  combined line op.GreaterOrEqual kind a b next w l t x y e k = k _ tt

  -- what isn't seen by a shape may change
  refit : (shape : Shape) (stack listings : List Answer) (w : World) (turns serial : ℕ) (answers : List Answer) → Fits schema shape stack listings w → Fits schema shape stack listings (record w { turns = turns; serial = serial; answers = answers })
  refit shape stack listings w turns serial answers f = record { stacked = f.stacked; stored = f.stored; listed = f.listed; many = f.many; client_below = f.client_below; events = f.events }

  asked : (q : Query) (to : ℕ) (shape : Shape) (stack listings : Answer → List Answer) (w : World) (answers : List Answer) → IsShapedQuery schema q → Leads shapes to shape → All (IsShapedEvent schema) w.events
      → ((a : Answer) → IsShapedAnswer schema q a → Fits schema shape (stack a) (listings a) w)
      → Well (then_by (ask_next q answers w) (λ a. go_to to (stack a) (listings a)))
  asked q to shape stack listings w [] s l e f h = (s, e)
  asked q to shape stack listings w (a ∷ rest) s l e f h =
      let fits : IsShapedAnswer schema q a = all_last (IsAnswered schema) w.events (event.Ask q a) h in
      let after = retold shape (stack a) (listings a) (record w { turns = w.turns - (1 + listed a); answers = rest }) (event.Ask q a) (refit shape (stack a) (listings a) w (w.turns - (1 + listed a)) w.serial rest (f a fits)) (s, fits) in
      lands to shape (stack a) (listings a) (record w { turns = w.turns - (1 + listed a); answers = rest; events = w.events ++ event.Ask q a ∷ [] }) l after h

  begun : (turns to : ℕ) (shape : Shape) (stack listings : List Answer) (w : World) → Leads shapes to shape → Fits schema shape stack listings w → Well (then_by (begin_with turns w) (λ u. go_to to stack listings))
  begun zero to shape stack listings w l f h = (tt, f.events)
  begun (suc turns) to shape stack listings w l f h = lands to shape stack listings (record w { turns = turns }) l (refit shape stack listings w turns w.serial w.answers f) h

  either : (b : Bool) (m n : Next) (w : World) → Well (m w) → Well (n w) → Well ((if b then m else n) w)
  either true m n w p q = p
  either false m n w p q = q

  popped : (n : ℕ) (kinds rest : List Kind) (stack : List Answer) (next : List Answer → List Answer → Next) (w : World) → n ≡ length kinds → AreOf (push_all kinds rest) stack
      → ((values below : List Answer) → AreOf kinds values → AreOf rest below → Well (next values below w)) → Well (pops n [] stack next w)
  popped n kinds rest stack next w count h k =
      let p = pushed kinds rest stack h in
      let many : n ≡ length p.values = count ∙ sym (as_many_of kinds p.values p.these) in
      let same : pops n [] stack next ≡ next p.values p.below = ap (λ m. pops m [] stack next) many ∙ ap (λ s. pops (length p.values) [] s next) p.is ∙ pops_all p.values p.below next in
      subst (λ (m : Next). Well (m w)) (sym same) (k p.values p.below p.these p.others)

  taken : (listing : Answer) (to place : ℕ) (shape : Shape) (kinds : List Kind) (rest : List (List Kind)) (stack listings : List Answer) (w : World) → shape.listings ≡ kinds ∷ rest
      → Leads shapes to (with_listings shape rest) → Leads shapes (suc place) (with_stack shape (push_all kinds shape.stack)) → IsListing kinds listing → AreListings rest listings → Fits schema shape stack (listing ∷ listings) w
      → Well (take_item (first_item listing) to place stack listings w)
  taken (answer.Int n) to place shape kinds rest stack listings w e away on is others f = absurd is
  taken (answer.Text bytes) to place shape kinds rest stack listings w e away on is others f = absurd is
  taken (answer.Truth b) to place shape kinds rest stack listings w e away on is others f = absurd is
  taken (answer.Id id) to place shape kinds rest stack listings w e away on is others f = absurd is
  taken (answer.Ids []) to place shape kinds rest stack listings w e away on is others f = lands to (with_listings shape rest) stack listings w away (relisted shape rest stack (answer.Ids [] ∷ listings) listings w f others)
  taken (answer.Ids (id ∷ ids)) to place shape kinds rest stack listings w e away on is others f =
      let part : AreOf kinds (answer.Id id ∷ []) = subst (λ k. AreOf k (answer.Id id ∷ [])) (sym is.1) (All-head IsId id ids is.2, tt) in
      let left : AreListings shape.listings (answer.Ids ids ∷ listings) = subst (λ k. AreListings k (answer.Ids ids ∷ listings)) (sym e) ((is.0, is.1, All-tail IsId id ids is.2), others) in
      lands (suc place) (with_stack shape (push_all kinds shape.stack)) (answer.Id id ∷ stack) (answer.Ids ids ∷ listings) w on
      (restacked shape (push_all kinds shape.stack) stack (answer.Id id ∷ stack) (answer.Ids ids ∷ listings) w (relisted shape shape.listings stack (answer.Ids (id ∷ ids) ∷ listings) (answer.Ids ids ∷ listings) w f left) (push_are kinds shape.stack (answer.Id id ∷ []) stack part f.stacked))
  taken (answer.Tuples []) to place shape kinds rest stack listings w e away on is others f = lands to (with_listings shape rest) stack listings w away (relisted shape rest stack (answer.Tuples [] ∷ listings) listings w f others)
  taken (answer.Tuples (keys ∷ tuples)) to place shape kinds rest stack listings w e away on is others f =
      let part : AreOf kinds (map value_of keys) = All-head (λ keys. AreOf kinds (map value_of keys)) keys tuples is in
      let left : AreListings shape.listings (answer.Tuples tuples ∷ listings) = subst (λ k. AreListings k (answer.Tuples tuples ∷ listings)) (sym e) (All-tail (λ keys. AreOf kinds (map value_of keys)) keys tuples is, others) in
      lands (suc place) (with_stack shape (push_all kinds shape.stack)) (push_all (map value_of keys) stack) (answer.Tuples tuples ∷ listings) w on
      (restacked shape (push_all kinds shape.stack) stack (push_all (map value_of keys) stack) (answer.Tuples tuples ∷ listings) w (relisted shape shape.listings stack (answer.Tuples (keys ∷ tuples) ∷ listings) (answer.Tuples tuples ∷ listings) w f left) (push_are kinds shape.stack (map value_of keys) stack part f.stacked))

  topped : {A : Type 0} (kind : Kind) (rest kinds : List Kind) → kinds ≡ kind ∷ rest → AreOf kinds [] → A
  topped kind rest kinds e h = absurd (subst (λ k. AreOf k []) e h)

  acts : (i : Instruction) (place : ℕ) (shape : Shape) (stack listings : List Answer) (w : World) → IsFine schema shapes place i shape → Fits schema shape stack listings w → w.serial < 2 ^ 32 → Well (act i place stack listings w)
  acts Instruction.Begin place s st ls w fine f few = begun w.turns (suc place) s st ls w fine f
  acts (Instruction.Push literal) place s st ls w fine f few = lands (suc place) (with_stack s (literal_kind literal ∷ s.stack)) (literal_value literal ∷ st) ls w fine.1 (restacked s (literal_kind literal ∷ s.stack) st (literal_value literal ∷ st) ls w f (literal_is literal fine.0, f.stacked))
  acts (Instruction.Load n) place s st ls w fine f few =
      let v = slice_index_or w.slots n (answer.Int (pos 0)) in
      lands (suc place) (with_stack s (fine.1 ∷ s.stack)) (v ∷ st) ls w fine.3 (restacked s (fine.1 ∷ s.stack) st (v ∷ st) ls w f (f.stored n fine.1 fine.2 fine.0, f.stacked))
  acts (Instruction.Store n) place s [] ls w fine f few = topped fine.1 fine.2 s.stack fine.3 f.stacked
  acts (Instruction.Store n) place s (v ∷ st) ls w fine f few =
      let h = subst (λ k. AreOf k (v ∷ st)) fine.3 f.stacked in
      lands (suc place) (record s { stack = fine.2; slots = with_slot s.slots n fine.1 }) st ls (record w { slots = slice_set w.slots n v }) fine.4
      (record { stacked = h.1; stored = stored_after s.slots w.slots n fine.1 v (subst (λ m. n < m) (sym f.many) fine.0) h.0 f.stored; listed = f.listed; many = length-set w.slots n v ∙ f.many; client_below = f.client_below; events = f.events })
  acts Instruction.Negate place s [] ls w fine f few = topped Int fine.0 s.stack fine.1 f.stacked
  acts Instruction.Negate place s (v ∷ st) ls w fine f few =
      let h = subst (λ k. AreOf k (v ∷ st)) fine.1 f.stacked in
      let v' = wrapped (neg_ℤ (int_of v)) in
      lands (suc place) s (v' ∷ st) ls w fine.2 (restacked s s.stack (v ∷ st) (v' ∷ st) ls w f (subst (λ k. AreOf k (v' ∷ st)) (sym fine.1) (SFits-int_wrap w64 _, h.1)))
  acts Instruction.Not place s [] ls w fine f few = topped Truth fine.0 s.stack fine.1 f.stacked
  acts Instruction.Not place s (v ∷ st) ls w fine f few =
      let h = subst (λ k. AreOf k (v ∷ st)) fine.1 f.stacked in
      let v' = answer.Truth (not (truth_of v)) in
      lands (suc place) s (v' ∷ st) ls w fine.2 (restacked s s.stack (v ∷ st) (v' ∷ st) ls w f (subst (λ k. AreOf k (v' ∷ st)) (sym fine.1) (tt, h.1)))
  acts (Instruction.Binary binary) place s [] ls w fine f few = topped fine.1 (fine.1 ∷ fine.2) s.stack fine.3 f.stacked
  acts (Instruction.Binary binary) place s (b ∷ []) ls w fine f few = absurd (subst (λ k. AreOf k (b ∷ [])) fine.3 f.stacked).1
  acts (Instruction.Binary binary) place s (b ∷ a ∷ st) ls w fine f few =
      let h = subst (λ k. AreOf k (b ∷ a ∷ st)) fine.3 f.stacked in
      let kinds = result_kind (operator_of binary) ∷ fine.2 in
      combined (line_of binary) (operator_of binary) fine.1 a b (λ v. go_to (suc place) (v ∷ st) ls) w fine.0 fine.4 h.1.0 h.0 f.events
      (λ v is. lands (suc place) (with_stack s kinds) (v ∷ st) ls w fine.5 (restacked s kinds (b ∷ a ∷ st) (v ∷ st) ls w f (is, h.1.1)))
  acts (Instruction.Jump to) place s st ls w fine f few = lands to s st ls w fine f
  acts (Instruction.JumpIfFalse to) place s [] ls w fine f few = topped Truth fine.0 s.stack fine.1 f.stacked
  acts (Instruction.JumpIfFalse to) place s (v ∷ st) ls w fine f few =
      let h = subst (λ k. AreOf k (v ∷ st)) fine.1 f.stacked in
      let left = restacked s fine.0 (v ∷ st) st ls w f h.1 in
      either (truth_of v) (go_to (suc place) st ls) (go_to to st ls) w (lands (suc place) (with_stack s fine.0) st ls w fine.2 left) (lands to (with_stack s fine.0) st ls w fine.3 left)
  acts (Instruction.Get number n) place s st ls w fine f few =
      let property = fine.0 in
      let kinds = map key_kind property.keys in
      let count : n ≡ length kinds = fine.3 ∙ sym (length-map property.keys key_kind) in
      popped n kinds fine.1 st (λ keys rest. ask (query.Get number (map key_of keys)) >>= λ v. go_to (suc place) (v ∷ rest) ls) w count (subst (λ k. AreOf k st) fine.4 f.stacked)
      (λ values below these others. asked (query.Get number (map key_of values)) (suc place) (with_stack s (cell_kind property.cell ∷ fine.1)) (λ v. v ∷ below) (λ v. ls) w w.answers (is_cell schema number property values sane fine.2 these) fine.5 f.events
      (λ v is. restacked s (cell_kind property.cell ∷ fine.1) st (v ∷ below) ls w f (got schema number property (map key_of values) v fine.2 is, others)))
  acts Instruction.Alive place s [] ls w fine f few = topped (Id fine.0) fine.1 s.stack fine.2 f.stacked
  acts Instruction.Alive place s (v ∷ st) ls w fine f few =
      let h = subst (λ k. AreOf k (v ∷ st)) fine.2 f.stacked in
      asked (query.Alive (id_of v)) (suc place) (with_stack s (Truth ∷ fine.1)) (λ b. b ∷ st) (λ b. ls) w w.answers (id_is fine.0 v h.0) fine.3 f.events
      (λ b is. restacked s (Truth ∷ fine.1) (v ∷ st) (b ∷ st) ls w f (told_alive schema (id_of v) b is, h.1))
  acts (Instruction.All number) place s st ls w fine f few =
      asked (query.All number) (suc place) (with_listings s ((Id number ∷ []) ∷ s.listings)) (λ listing. st) (λ listing. listing ∷ ls) w w.answers (small_entity schema number fine.0 sane fine.1) fine.2 f.events
      (λ listing is. relisted s ((Id number ∷ []) ∷ s.listings) st ls (listing ∷ ls) w f (told_ids schema number listing is, f.listed))
  acts (Instruction.Entries number) place s st ls w fine f few =
      let kinds = map key_kind (fine.0).keys in
      asked (query.Entries number) (suc place) (with_listings s (kinds ∷ s.listings)) (λ listing. st) (λ listing. listing ∷ ls) w w.answers (small_property schema number fine.0 sane fine.1) fine.2 f.events
      (λ listing is. relisted s (kinds ∷ s.listings) st ls (listing ∷ ls) w f (told_tuples schema number fine.0 listing fine.1 is, f.listed))
  acts (Instruction.Next to n) place s st [] w fine f few = absurd (subst (λ k. AreListings k []) fine.2 f.listed)
  acts (Instruction.Next to n) place s st (listing ∷ ls) w fine f few =
      let h = subst (λ k. AreListings k (listing ∷ ls)) fine.2 f.listed in
      taken listing to place s fine.0 fine.1 st ls w fine.2 fine.4 fine.5 h.0 h.1 f
  acts (Instruction.Put operation number n) place s [] ls w fine f few = topped fine.1 (push_all (map key_kind (fine.0).keys) fine.2) s.stack fine.5 f.stacked
  acts (Instruction.Put operation number n) place s (v ∷ st) ls w fine f few =
      let property = fine.0 in
      let kinds = map key_kind property.keys in
      let count : n ≡ length kinds = fine.4 ∙ sym (length-map property.keys key_kind) in
      let h = subst (λ k. AreOf k (v ∷ st)) fine.5 f.stacked in
      let change = subst (λ c. IsChange c (change_of operation v)) (sym (type_at schema number property fine.3)) (changes property.cell operation fine.1 v fine.6 h.0) in
      popped n kinds fine.2 st (λ keys below. tell (event.Do (update.Cell number (map key_of keys) (change_of operation v))) >>= λ u. go_to (suc place) below ls) w count h.1
      (λ values below these others. let told = event.Do (update.Cell number (map key_of values) (change_of operation v)) in
      lands (suc place) (with_stack s fine.2) below ls (record w { events = w.events ++ told ∷ [] }) fine.7
      (retold (with_stack s fine.2) below ls w told (restacked s fine.2 (v ∷ st) below ls w f others) (is_cell schema number property values sane fine.3 these, change)))
  acts (Instruction.New number n) place s st ls w fine f few =
      let entity = fine.0 in
      let kinds = map key_kind entity.keys in
      let count : n ≡ length kinds = fine.3 ∙ sym (length-map entity.keys key_kind) in
      let id : Uid = record { client = w.client; serial = w.serial } in
      let is : IsId id = (f.client_below, few) in
      popped n kinds fine.1 st (λ keys rest. next_id >>= λ id. tell (event.Do (update.Create id number (map key_of keys))) >>= λ u. go_to (suc place) (answer.Id id ∷ rest) ls) w count (subst (λ k. AreOf k st) fine.4 f.stacked)
      (λ values below these others. let told = event.Do (update.Create id number (map key_of values)) in
      lands (suc place) (with_stack s (Id number ∷ fine.1)) (answer.Id id ∷ below) ls (record w { serial = suc w.serial; events = w.events ++ told ∷ [] }) fine.5
      (retold (with_stack s (Id number ∷ fine.1)) (answer.Id id ∷ below) ls (record w { serial = suc w.serial }) told
      (refit (with_stack s (Id number ∷ fine.1)) (answer.Id id ∷ below) ls w w.turns (suc w.serial) w.answers (restacked s (Id number ∷ fine.1) st (answer.Id id ∷ below) ls w f (is, others)))
      (is_creation schema id number entity values sane fine.2 these is)))
  acts Instruction.Delete place s [] ls w fine f few = topped (Id fine.0) fine.1 s.stack fine.2 f.stacked
  acts Instruction.Delete place s (v ∷ st) ls w fine f few =
      let h = subst (λ k. AreOf k (v ∷ st)) fine.2 f.stacked in
      let told = event.Do (update.Delete (id_of v)) in
      lands (suc place) (with_stack s fine.1) st ls (record w { events = w.events ++ told ∷ [] }) fine.3 (retold (with_stack s fine.1) st ls w told (restacked s fine.1 (v ∷ st) st ls w f h.1) (id_is fine.0 v h.0))
  acts Instruction.Say place s [] ls w fine f few = topped fine.0 fine.1 s.stack fine.2 f.stacked
  acts Instruction.Say place s (v ∷ st) ls w fine f few =
      let h = subst (λ k. AreOf k (v ∷ st)) fine.2 f.stacked in
      lands (suc place) (with_stack s fine.1) st ls (record w { events = w.events ++ event.Say v ∷ [] }) fine.3 (retold (with_stack s fine.1) st ls w (event.Say v) (restacked s fine.1 (v ∷ st) st ls w f h.1) (said fine.0 v h.0))
  acts Instruction.Yield place s st ls w fine f few = lands (suc place) s st ls (record w { events = w.events ++ event.Yield ∷ [] }) fine (retold s st ls w event.Yield f tt)
  acts Instruction.Flush place s st ls w fine f few = lands (suc place) s st ls (record w { events = w.events ++ event.Flush ∷ [] }) fine (retold s st ls w event.Flush f tt)
  acts Instruction.End place s st ls w fine f few = λ h. (tt, f.events)

-- the instruction at a place with a shape
pub record FineAt (schema : Schema) (code : List Instruction) (shapes : List Shape) (place : ℕ) (found : Option Instruction) (shape : Shape) : Type 0 where
  pub instruction : Instruction
  pub is : found ≡ Some instruction
  pub fine : IsFine schema shapes place instruction shape
  pub lands_well : LandsWell code place (jump_of instruction)

found_at : (schema : Schema) (code : List Instruction) (shapes : List Shape) (from : ℕ) (rest : List Instruction) (ss : List Shape) (n : ℕ) (shape : Shape) → AreFine schema code shapes from rest ss → slice_get ss n ≡ Some shape
    → FineAt schema code shapes (from + n) (slice_get rest n) shape
found_at schema code shapes from [] [] n shape h e = let k : None ≡ Some shape = e in cc
found_at schema code shapes from [] (s ∷ ss) n shape h e = absurd h
found_at schema code shapes from (i ∷ rest) [] n shape h e = absurd h
found_at schema code shapes from (i ∷ rest) (s ∷ ss) zero shape h e =
    let same : s ≡ shape = cc in
    let k : from ≡ from + zero = omega arith in
    subst (λ m. FineAt schema code shapes m (Some i) shape) k (subst (FineAt schema code shapes from (Some i)) same (record { instruction = i; is = refl; fine = h.0; lands_well = h.1 }))
found_at schema code shapes from (i ∷ rest) (s ∷ ss) (suc n) shape h e =
    let k : suc from + n ≡ from + suc n = omega arith in
    subst (λ m. FineAt schema code shapes m (slice_get rest n) shape) k (found_at schema code shapes (suc from) rest ss n shape h.2 e)

pub fine_at : (schema : Schema) (code : List Instruction) (shapes : List Shape) (place : ℕ) (shape : Shape) → IsValid schema code shapes → slice_get shapes place ≡ Some shape → FineAt schema code shapes place (slice_get code place) shape
fine_at schema code shapes place shape v e =
    let k : 0 + place ≡ place = omega arith in
    subst (λ m. FineAt schema code shapes m (slice_get code place) shape) k (found_at schema code shapes 0 code shapes place shape v.fine e)

pub steps_well : (schema : Schema) (code : List Instruction) (shapes : List Shape) (shape : Shape) (standing : Standing) (w : World) → IsSchema schema → IsValid schema code shapes
    → slice_get shapes standing.place ≡ Some shape → Fits schema shape standing.stack standing.listings w → w.serial < 2 ^ 32 → All (IsAnswered schema) (events_of (step code standing w)) → ComesWell schema shapes (step code standing w)
steps_well schema code shapes shape standing w sane valid e f few =
    let at = fine_at schema code shapes standing.place shape valid e in
    subst (λ o. All (IsAnswered schema) (events_of (act_at o standing w)) → ComesWell schema shapes (act_at o standing w)) (sym at.is)
    (acts schema shapes sane at.instruction standing.place shape standing.stack standing.listings w at.fine f few)

int_there : (n m : ℕ) → FitsSigned w64 (pos 0) → IsOf Int (slice_index_or (replicate n (answer.Int (pos 0))) m (answer.Int (pos 0)))
int_there zero m z = z
int_there (suc n) zero z = z
int_there (suc n) (suc m) z = int_there n m z

pub begins_well : (schema : Schema) (code : List Instruction) (shapes : List Shape) (client : ℕ) (answers : List Answer) → IsValid schema code shapes → client < most_clients
    → ComesWell schema shapes (goes (Some first) (start client answers))
begins_well schema code shapes client answers valid below =
    let f : Fits schema first_shape [] [] (start client answers) = record {
      stacked = tt;
      stored = λ n kind e few. let same : Int ≡ kind = cc in subst (λ k. IsOf k (slice_index_or (replicate 64 (answer.Int (pos 0))) n (answer.Int (pos 0)))) same (int_there 64 n zero_fits);
      listed = tt;
      many = refl;
      client_below = below;
      events = All-nil (IsShapedEvent schema);
    } in
    (valid.begins.0, valid.begins.1, served schema first_shape valid.begins.0 [] [] (start client answers) valid.begins.2 f)
