-- A well-kinded body does only what is of the schema's shape.
use Rattle.std.proofs.Common.{◌≡◌, refl, sym, ap, subst, arith, lit≤}
use Rattle.std.proofs.lemmas.List.{append_assoc, append-nil, length-append}
use Rattle.std.proofs.lemmas.List.Elements.{All-nil, All-head, All-tail, All-weaker}
use Rattle.std.proofs.lemmas.Option.{slice_get_within}
use Rattle.std.specs.Prelude.{ℕ, zero, suc, ◌+◌, ◌≤◌, ◌<◌, ◌^◌, ⊤, List, [], ◌∷◌, ◌++◌, length, map, All, Option, Some, None, slice_get, MatchOption}
use Rattle.std.specs.Option.{option_map_or}
use Rattle.std.specs.Int.{w64}
use Rattle.std.proofs.lemmas.Int.{SFits-int_wrap}
use Rattle.cloud_base.specs.Values.{Id as Uid}
use Rattle.cloud_base.specs.Events.{ended}
use Rattle.cloud_base.specs.PlainCell.{ValueKind, Number, Words, value_kind}
use Rattle.cloud_base.specs.Shaped.{IsSchema, IsShaped, IsShapedAnswer, IsShapedEvent, IsId, IsCell, IsChange, AreKeys, AreKeyTypes, MatchTypes, IsOfKind, property_at, entity_at, cell_type}
use Rattle.cloud_base.specs.declared.end.End.TheVariants.{Done, Spent}
use Rattle.cloud_base.specs.declared.key.Key.{Key}
use Rattle.cloud_base.specs.declared.schema.CellType.TheVariants as cell
use Rattle.cloud_base.specs.declared.schema.KeyType.{KeyType}
use Rattle.cloud_base.specs.declared.schema.Entity.{Entity}
use Rattle.cloud_base.specs.declared.schema.Property.{Property}
use Rattle.cloud_base.specs.declared.schema.Schema.{Schema}
use Rattle.cloud_base.specs.declared.update.Answer.{Answer}
use Rattle.cloud_base.specs.declared.update.Answer.TheVariants as answer
use Rattle.cloud_base.specs.declared.update.Event.TheVariants as event
use Rattle.cloud_base.specs.declared.update.Query.TheVariants as query
use Rattle.cloud_base.specs.declared.update.Update.TheVariants as update
use Rattle.typed_program.specs.declared.expression.Expression.{Expression}
use Rattle.typed_program.specs.declared.expression.Kind.{Kind}
use Rattle.typed_program.specs.declared.expression.Kind.TheVariants.{Int, Truth, Id}
use Rattle.typed_program.specs.declared.statement.Statement.{Statement}
use Rattle.typed_program.specs.Does.{World, Run, goes, ends, Does, done, each, ◌>>=◌}
use Rattle.typed_program.specs.Kinds as kinds
use Rattle.typed_program.specs.Kinds.{HasKind, HaveKinds, IsStatement, IsBlock, IsBody, IsLine, key_kind, cell_kind, kind_of_value, fits_cell, result_kind}
use Rattle.typed_program.specs.Laws.{events_of}
use Rattle.typed_program.specs.Programs.{IsProgram}
use Rattle.typed_program.specs.declared.program.Parts.{Parts}
use Rattle.typed_program.specs.Shapes.{IsOf, IsAnswered, IsShapedTrace}
use Rattle.typed_program.specs.Trace.{value, key_of, value_of, id_of, ids_of, tuples_of, truth_of, change_of, loop, for_ids, store_keys, for_tuples, does, does_body, start, come_out, trace}
use Rattle.typed_program.proofs.Equations as eq
use Rattle.typed_program.proofs.Keeps.{Setting, Stands, Keeps, Comes, Answered, keeps_bind, keeps_from, keeps_beside, keeps_done, keeps_if, keeps_turns, keeps_stop, keeps_load, keeps_assign, keeps_declare, fewer, spared, keeps_begin, keeps_tell, keeps_ask, keeps_id, keeps_create, keeps_combine, ended_at}
use Rattle.typed_program.proofs.Orderly.{Orderly, body_orderly, orderly_for_tuples}
use Rattle.typed_program.proofs.Slots.{AreOf, keys_match, as_many, value_is}
use Rattle.typed_program.proofs.Values.{id_is, said, changes}

keeps_same : {schema : Schema} {c : Setting schema} {A : Type 0} {P : World → Type 0} {Q : A → World → Type 0} {m n : Does A} → m ≡ n → Keeps c P n Q → Keeps c P m Q
keeps_same {c = c} {P = P} {Q = Q} e k = subst (λ x. Keeps c P x Q) (sym e) k

-- what is there of the schema
pub all_at : {A : Type 0} (P : A → Type 0) (xs : List A) (n : ℕ) (x : A) → All P xs → slice_get xs n ≡ Some x → P x
all_at {A = A} P [] n x h e = absurd (subst IsThere (sym e) tt)
  where
    IsThere : Option A → Type 0
    IsThere None = ⊥
    IsThere (Some y) = ⊤
all_at {A = A} P (y ∷ xs) zero x h e = subst P (ap from e) (All-head P y xs h)
  where
    from : Option A → A
    from None = y
    from (Some z) = z
all_at P (y ∷ xs) (suc n) x h e = all_at P xs n x (All-tail P y xs h) e

small_property : (schema : Schema) (number : ℕ) (property : Property) → IsSchema schema → property_at schema number ≡ Some property → (number < 2 ^ 16) × (number < length schema.properties)
small_property schema number property sane there = let h : number < length schema.properties = slice_get_within schema.properties number property there in (omega (arith, h, sane.few_properties), h)

small_entity : (schema : Schema) (number : ℕ) (entity : Entity) → IsSchema schema → entity_at schema number ≡ Some entity → (number < 2 ^ 16) × (number < length schema.entities)
small_entity schema number entity sane there = let h : number < length schema.entities = slice_get_within schema.entities number entity there in (omega (arith, h, sane.few_entities), h)

are_keys : (schema : Schema) (types : List KeyType) (values : List Answer) → AreKeyTypes schema types → AreOf (map key_kind types) values → AreKeys types (map key_of values)
are_keys schema types values few h = (omega (arith, as_many types values h, few.0), keys_match types values h)

is_cell : (schema : Schema) (number : ℕ) (property : Property) (values : List Answer) → IsSchema schema → property_at schema number ≡ Some property → AreOf (map key_kind property.keys) values → IsCell schema number (map key_of values)
is_cell schema number property values sane there h = (
  (small_property schema number property sane there).0,
  subst (λ o. MatchOption o ⊥ (λ p. AreKeys p.keys (map key_of values))) (sym there)
      (are_keys schema property.keys values (all_at (λ (p : Property). AreKeyTypes schema p.keys) schema.properties number property sane.property_keys there) h),
)

is_creation : (schema : Schema) (id : Uid) (number : ℕ) (entity : Entity) (values : List Answer) → IsSchema schema → entity_at schema number ≡ Some entity → AreOf (map key_kind entity.keys) values
    → IsId id → IsShaped schema (update.Create id number (map key_of values))
is_creation schema id number entity values sane there h is = (
  is,
  (small_entity schema number entity sane there).0,
  subst (λ o. MatchOption o ⊥ (λ (x : Entity). AreKeys x.keys (map key_of values))) (sym there)
      (are_keys schema entity.keys values (all_at (λ (x : Entity). AreKeyTypes schema x.keys) schema.entities number entity sane.entity_keys there) h),
)

pub type_at : (schema : Schema) (number : ℕ) (property : Property) → property_at schema number ≡ Some property → cell_type schema number ≡ property.cell
type_at schema number property there = ap (λ o. option_map_or (λ (p : Property). p.cell) o cell.Int) there

of_kind : (kind : ValueKind) (v : Answer) → IsOfKind kind v → IsOf (kind_of_value kind) v
of_kind Number (answer.Int n) h = h
of_kind Number (answer.Text bytes) h = absurd h
of_kind Number (answer.Truth b) h = absurd h
of_kind Number (answer.Id id) h = absurd h
of_kind Number (answer.Ids ids) h = absurd h
of_kind Number (answer.Tuples tuples) h = absurd h
of_kind Words (answer.Int n) h = absurd h
of_kind Words (answer.Text bytes) h = h
of_kind Words (answer.Truth b) h = absurd h
of_kind Words (answer.Id id) h = absurd h
of_kind Words (answer.Ids ids) h = absurd h
of_kind Words (answer.Tuples tuples) h = absurd h

got : (schema : Schema) (number : ℕ) (property : Property) (keys : List Key) (v : Answer) → property_at schema number ≡ Some property → IsShapedAnswer schema (query.Get number keys) v → IsOf (cell_kind property.cell) v
got schema number property keys v there h = of_kind (value_kind property.cell) v (subst (λ t. IsOfKind (value_kind t) v) (type_at schema number property there) h)

told_alive : (schema : Schema) (id : Uid) (v : Answer) → IsShapedAnswer schema (query.Alive id) v → IsOf Truth v
told_alive schema id (answer.Int n) h = absurd h
told_alive schema id (answer.Text bytes) h = absurd h
told_alive schema id (answer.Truth b) h = tt
told_alive schema id (answer.Id x) h = absurd h
told_alive schema id (answer.Ids ids) h = absurd h
told_alive schema id (answer.Tuples tuples) h = absurd h

told_ids : (schema : Schema) (number : ℕ) (v : Answer) → IsShapedAnswer schema (query.All number) v → All IsId (ids_of v)
told_ids schema number (answer.Int n) h = absurd h
told_ids schema number (answer.Text bytes) h = absurd h
told_ids schema number (answer.Truth b) h = absurd h
told_ids schema number (answer.Id x) h = absurd h
told_ids schema number (answer.Ids ids) h = h
told_ids schema number (answer.Tuples tuples) h = absurd h

told_tuples : (schema : Schema) (number : ℕ) (v : Answer) → IsShapedAnswer schema (query.Entries number) v → All (IsCell schema number) (tuples_of v)
told_tuples schema number (answer.Int n) h = absurd h
told_tuples schema number (answer.Text bytes) h = absurd h
told_tuples schema number (answer.Truth b) h = absurd h
told_tuples schema number (answer.Id x) h = absurd h
told_tuples schema number (answer.Ids ids) h = absurd h
told_tuples schema number (answer.Tuples tuples) h = h

-- the keys of a cell are of the property's types
cell_keys : (schema : Schema) (number : ℕ) (property : Property) → property_at schema number ≡ Some property → (keys : List Key) → IsCell schema number keys → MatchTypes property.keys keys
cell_keys schema number property there keys h = (subst (λ o. MatchOption o ⊥ (λ p. AreKeys p.keys keys)) there h.1).1

mutual
  keeps_value : (schema : Schema) (c : Setting schema) (line : ℕ) → IsLine line → (seen : List Kind) (spare : ℕ) (a : Expression) (kind : Kind) → HasKind schema seen a kind
      → Keeps c (Stands c seen spare) (value line a) (λ v w. Stands c seen spare w × IsOf kind v)
  keeps_value schema c line l seen spare a kind (kinds.int n fits) = keeps_same (eq.value_int line n) (keeps_done _ (λ w s. (s, fits)))
  keeps_value schema c line l seen spare a kind (kinds.text bytes fits) = keeps_same (eq.value_text line bytes) (keeps_done _ (λ w s. (s, fits)))
  keeps_value schema c line l seen spare a kind (kinds.truth b) = keeps_same (eq.value_truth line b) (keeps_done _ (λ w s. (s, tt)))
  keeps_value schema c line l seen spare a kind (kinds.slot n k there) = keeps_same (eq.value_slot line n k) (keeps_load seen spare n k there)
  keeps_value schema c line l seen spare a kind (kinds.get number property keys there hs) = keeps_same (eq.value_get line number keys) (keeps_bind (keeps_values schema c line l seen spare keys (map key_kind property.keys) hs) (λ values.
      keeps_from (λ w p. p) (λ v w p. (p.0, got schema number property (map key_of values) v there p.1))
      (keeps_ask seen spare (query.Get number (map key_of values)) (λ w p. (p.0, is_cell schema number property values c.sane there p.1)))))
  keeps_value schema c line l seen spare a kind (kinds.alive n entity there) = keeps_same (eq.value_alive line n entity) (keeps_bind (keeps_load seen spare n (Id entity) there) (λ v.
      keeps_from (λ w p. p) (λ b w p. (p.0, told_alive schema (id_of v) b p.1)) (keeps_ask seen spare (query.Alive (id_of v)) (λ w p. (p.0, id_is entity v p.1)))))
  keeps_value schema c line l seen spare a kind (kinds.minus b h) = keeps_same (eq.value_minus line b) (keeps_bind (keeps_value schema c line l seen spare b Int h) (λ v. keeps_done _ (λ w p. (p.0, SFits-int_wrap w64 _))))
  keeps_value schema c line l seen spare a kind (kinds.not b h) = keeps_same (eq.value_not line b) (keeps_bind (keeps_value schema c line l seen spare b Truth h) (λ v. keeps_done _ (λ w p. (p.0, tt))))
  keeps_value schema c line l seen spare a kind (kinds.binary operator k x y t hx hy) = keeps_same (eq.value_binary line operator x y) (keeps_bind (keeps_value schema c line l seen spare x k hx) (λ v.
      keeps_bind (keeps_beside (IsOf k v) (keeps_value schema c line l seen spare y k hy)) (λ u. keeps_combine seen spare line operator k v u l t)))
  keeps_value schema c line l seen spare a kind (kinds.and x y hx hy) = keeps_same (eq.value_and line x y) (keeps_bind (keeps_value schema c line l seen spare x Truth hx) (λ v.
      keeps_if (truth_of v) (keeps_from (λ w p. p.0) (λ b w p. p) (keeps_value schema c line l seen spare y Truth hy)) (keeps_done _ (λ w p. (p.0, tt)))))
  keeps_value schema c line l seen spare a kind (kinds.or x y hx hy) = keeps_same (eq.value_or line x y) (keeps_bind (keeps_value schema c line l seen spare x Truth hx) (λ v.
      keeps_if (truth_of v) (keeps_done _ (λ w p. (p.0, tt))) (keeps_from (λ w p. p.0) (λ b w p. p) (keeps_value schema c line l seen spare y Truth hy))))

  keeps_values : (schema : Schema) (c : Setting schema) (line : ℕ) → IsLine line → (seen : List Kind) (spare : ℕ) (es : List Expression) (ks : List Kind) → HaveKinds schema seen es ks
      → Keeps c (Stands c seen spare) (each (map (value line) es)) (λ vs w. Stands c seen spare w × AreOf ks vs)
  keeps_values schema c line l seen spare es ks kinds.no_more = keeps_done _ (λ w s. (s, tt))
  keeps_values schema c line l seen spare es ks (kinds.one_more a k rest more h hs) = keeps_bind (keeps_value schema c line l seen spare a k h) (λ v.
      keeps_bind (keeps_beside (IsOf k v) (keeps_values schema c line l seen spare rest more hs)) (λ vs. keeps_done _ (λ w p. (p.0.0, (p.1, p.0.1)))))

-- loops over blocks
keeps_loop : {schema : Schema} {c : Setting schema} (seen : List Kind) (n : ℕ) (test : Does Answer) (block : Does (Unit {0})) → Keeps c (Stands c seen 1) test (λ v w. Stands c seen 1 w × IsOf Truth v)
    → Keeps c (Stands c seen 0) block (λ u w. Stands c seen 0 w) → Keeps c (Stands c seen 0) (loop n test block) (λ u w. Stands c seen 0 w)
keeps_loop seen zero test block kt kb = keeps_stop seen 0 Spent (λ w s. s) tt
keeps_loop {schema = schema} {c = c} seen (suc n) test block kt kb = keeps_bind (keeps_begin seen) (λ u. keeps_bind kt (λ v. keeps_if (truth_of v) {m = block >>= λ u. loop n test block} {n = done tt}
    (keeps_bind (keeps_from (λ w p. spared seen w p.0) (λ u w p. p) kb) (λ u. keeps_loop {schema = schema} {c = c} seen n test block kt kb))
    (keeps_done tt (λ w p. spared seen w p.0))))

keeps_for_ids : {schema : Schema} {c : Setting schema} (seen : List Kind) (n number : ℕ) (block : Does (Unit {0})) → n ≡ length seen → n < 64
    → Keeps c (Stands c (seen ++ Id number ∷ []) 0) block (λ u w. Stands c (seen ++ Id number ∷ []) 0 w)
    → (ids : List Uid) → Keeps c (λ w. Stands c seen 0 w × All IsId ids) (for_ids n ids block) (λ u w. Stands c seen 0 w)
keeps_for_ids seen n number block at few kb [] = keeps_done tt (λ w p. p.0)
keeps_for_ids {schema = schema} {c = c} seen n number block at few kb (id ∷ ids) =
    keeps_from {m = for_ids n (id ∷ ids) block} (λ w p. ((p.0, All-head IsId id ids p.1), All-tail IsId id ids p.1)) (λ u w p. p)
    (keeps_bind (keeps_beside (All IsId ids) (keeps_declare seen 0 n (Id number) (answer.Id id) at few)) (λ u.
    keeps_bind (keeps_beside (All IsId ids) kb) (λ u.
    keeps_from (λ w p. (fewer seen (Id number ∷ []) 0 w p.0, p.1)) (λ u w p. p) (keeps_for_ids {schema = schema} {c = c} seen n number block at few kb ids))))

-- keys in the next slots
keeps_keys : {schema : Schema} {c : Setting schema} (seen : List Kind) (n : ℕ) (types : List KeyType) (keys : List Key) → MatchTypes types keys → n ≡ length seen → n + length types ≤ 64
    → Keeps c (Stands c seen 0) (store_keys n keys) (λ u w. Stands c (seen ++ map key_kind types) 0 w)
keeps_keys {c = c} seen n [] [] h at few = keeps_done tt (λ w p. subst (λ l. Stands c l 0 w) (sym (append-nil seen)) p)
keeps_keys seen n [] (k ∷ keys) h at few = absurd h
keeps_keys seen n (t ∷ types) [] h at few = absurd h
keeps_keys {schema = schema} {c = c} seen n (t ∷ types) (k ∷ keys) h at few =
    keeps_bind (keeps_from (λ w p. (p, value_is t k h.0)) (λ u w p. p) (keeps_declare seen 0 n (key_kind t) (value_of k) at (omega (arith, few)))) (λ u.
    keeps_from (λ w p. p) (λ u w p. subst (λ l. Stands c l 0 w) (append_assoc seen (key_kind t ∷ []) (map key_kind types)) p)
    (keeps_keys {schema = schema} {c = c} (seen ++ key_kind t ∷ []) (suc n) types keys h.1 (omega (arith, at, length-append seen (key_kind t ∷ []))) (omega (arith, few))))

keeps_for_tuples : {schema : Schema} {c : Setting schema} (seen : List Kind) (n : ℕ) (types : List KeyType) (block : Does (Unit {0})) → n ≡ length seen → n + length types ≤ 64
    → Keeps c (Stands c (seen ++ map key_kind types) 0) block (λ u w. Stands c (seen ++ map key_kind types) 0 w)
    → (tuples : List (List Key)) → All (MatchTypes types) tuples → Keeps c (Stands c seen 0) (for_tuples n tuples block) (λ u w. Stands c seen 0 w)
keeps_for_tuples seen n types block at few kb [] h = keeps_done tt (λ w p. p)
keeps_for_tuples {schema = schema} {c = c} seen n types block at few kb (keys ∷ tuples) h =
    keeps_bind (keeps_keys seen n types keys (All-head (MatchTypes types) keys tuples h) at few) (λ u.
    keeps_bind kb (λ u. keeps_from (λ w p. fewer seen (map key_kind types) 0 w p) (λ u w p. p) (keeps_for_tuples {schema = schema} {c = c} seen n types block at few kb tuples (All-tail (MatchTypes types) keys tuples h))))

-- what is known of no world may be known while it is proved that it keeps, where it grows anyway
keeps_given : {schema : Schema} {c : Setting schema} {A : Type 0} {P : World → Type 0} {Q : A → World → Type 0} {m : Does A} {F : Type 0} → Orderly m → (F → Keeps c P m Q) → Keeps c (λ w. P w × F) m Q
keeps_given o k = record { grows = o.grows; by = λ w p h. (k p.1).by w p.0 h }

-- the variables that were visible stay so
behind : (schema : Schema) (seen : List Kind) (statement : Statement) (after : List Kind) → IsStatement schema seen statement after → (more : List Kind) × (after ≡ seen ++ more)
behind schema seen statement after (kinds.declare n line slot a kind l at few h) = (kind ∷ [], refl)
behind schema seen statement after (kinds.assign n line slot a kind l there h) = ([], sym (append-nil seen))
behind schema seen statement after (kinds.create n line slot number entity keys l at few there hs) = (Id number ∷ [], refl)
behind schema seen statement after (kinds.update n line number property keys operator a kind l there hs t h) = ([], sym (append-nil seen))
behind schema seen statement after (kinds.delete n line slot entity l there) = ([], sym (append-nil seen))
behind schema seen statement after (kinds.if_only n line a first l h b) = ([], sym (append-nil seen))
behind schema seen statement after (kinds.if_else n line a first second l h b d) = ([], sym (append-nil seen))
behind schema seen statement after (kinds.while n line a block l h b) = ([], sym (append-nil seen))
behind schema seen statement after (kinds.for_all n line slot number entity block l at few there b) = ([], sym (append-nil seen))
behind schema seen statement after (kinds.for_entries n line slot number property block l at few there b) = ([], sym (append-nil seen))
behind schema seen statement after (kinds.print n line a kind l h) = ([], sym (append-nil seen))
behind schema seen statement after (kinds.yield n line l) = ([], sym (append-nil seen))
behind schema seen statement after (kinds.flush n line l) = ([], sym (append-nil seen))

back : {schema : Schema} {c : Setting schema} (seen after : List Kind) (w : World) → (more : List Kind) × (after ≡ seen ++ more) → Stands c after 0 w → Stands c seen 0 w
back {c = c} seen after w m s = fewer seen m.0 0 w (subst (λ l. Stands c l 0 w) m.1 s)

mutual
  keeps_statement : (schema : Schema) (c : Setting schema) (seen : List Kind) (statement : Statement) (after : List Kind) → IsStatement schema seen statement after
      → Keeps c (Stands c seen 0) (does statement) (λ u w. Stands c after 0 w)
  keeps_statement schema c seen statement after (kinds.declare vs line n a kind l at few h) = keeps_same (eq.does_store line n a) (keeps_bind (keeps_begin vs) (λ u.
      keeps_bind (keeps_value schema c line l vs 1 a kind h) (λ v. keeps_from (λ w p. p) (λ u w p. spared (vs ++ kind ∷ []) w p) (keeps_declare vs 1 n kind v at few))))
  keeps_statement schema c seen statement after (kinds.assign vs line n a kind l there h) = keeps_same (eq.does_store line n a) (keeps_bind (keeps_begin vs) (λ u.
      keeps_bind (keeps_value schema c line l vs 1 a kind h) (λ v. keeps_from (λ w p. p) (λ u w p. spared vs w p) (keeps_assign vs 1 n kind v there))))
  keeps_statement schema c seen statement after (kinds.create vs line n number entity keys l at few there hs) = keeps_same (eq.does_create line n number keys) (keeps_bind (keeps_begin vs) (λ u.
      keeps_bind (keeps_values schema c line l vs 1 keys (map key_kind entity.keys) hs) (λ values.
      keeps_bind (keeps_beside (AreOf (map key_kind entity.keys) values) (keeps_id vs)) (λ id.
      keeps_bind (keeps_create vs id number (map key_of values) (λ w p. (p.0, is_creation schema id number entity values c.sane there p.1))) (λ u.
      keeps_declare vs 0 n (Id number) (answer.Id id) at few)))))
  keeps_statement schema c seen statement after (kinds.update vs line number property keys operator a kind l there hs t h) = keeps_same (eq.does_update line number keys operator a) (keeps_bind (keeps_begin vs) (λ u.
      keeps_bind (keeps_values schema c line l vs 1 keys (map key_kind property.keys) hs) (λ values.
      keeps_bind (keeps_beside (AreOf (map key_kind property.keys) values) (keeps_value schema c line l vs 1 a kind h)) (λ v.
      keeps_tell vs (event.Do (update.Cell number (map key_of values) (change_of operator v))) refl refl (λ w p. (
        p.0.0,
        (is_cell schema number property values c.sane there p.1, subst (λ x. IsChange x (change_of operator v)) (sym (type_at schema number property there)) (changes property.cell operator kind v t p.0.1)),
      ))))))
  keeps_statement schema c seen statement after (kinds.delete vs line n entity l there) = keeps_same (eq.does_delete line n entity) (keeps_bind (keeps_begin vs) (λ u.
      keeps_bind (keeps_load vs 1 n (Id entity) there) (λ v. keeps_tell vs (event.Do (update.Delete (id_of v))) refl refl (λ w p. (p.0, id_is entity v p.1)))))
  keeps_statement schema c seen statement after (kinds.if_only vs line a first l h b) = keeps_same (eq.does_if_only line a first) (keeps_bind (keeps_begin vs) (λ u.
      keeps_bind (keeps_value schema c line l vs 1 a Truth h) (λ v. keeps_if (truth_of v) (keeps_from (λ w p. spared vs w p.0) (λ u w p. p) (keeps_block schema c vs first b)) (keeps_done tt (λ w p. spared vs w p.0)))))
  keeps_statement schema c seen statement after (kinds.if_else vs line a first second l h b d) = keeps_same (eq.does_if_else line a first second) (keeps_bind (keeps_begin vs) (λ u.
      keeps_bind (keeps_value schema c line l vs 1 a Truth h) (λ v. keeps_if (truth_of v) (keeps_from (λ w p. spared vs w p.0) (λ u w p. p) (keeps_block schema c vs first b)) (keeps_from (λ w p. spared vs w p.0) (λ u w p. p) (keeps_block schema c vs second d)))))
  keeps_statement schema c seen statement after (kinds.while vs line a block l h b) = keeps_same (eq.does_while line a block)
      (keeps_turns {f = λ n. loop (suc n) (value line a) (does_body block)} (λ n. keeps_loop vs (suc n) (value line a) (does_body block) (keeps_value schema c line l vs 1 a Truth h) (keeps_block schema c vs block b)))
  keeps_statement schema c seen statement after (kinds.for_all vs line n number entity block l at few there b) = keeps_same (eq.does_for_all line n number block) (keeps_bind (keeps_begin vs) (λ u.
      keeps_bind (keeps_ask vs 1 (query.All number) (λ w p. (p, small_entity schema number entity c.sane there))) (λ v.
      keeps_from (λ w p. (spared vs w p.0, told_ids schema number v p.1)) (λ u w p. p) (keeps_for_ids vs n number (does_body block) at few (keeps_block schema c (vs ++ Id number ∷ []) block b) (ids_of v)))))
  keeps_statement schema c seen statement after (kinds.for_entries vs line n number property block l at few there b) = keeps_same (eq.does_for_entries line n number block) (keeps_bind (keeps_begin vs) (λ u.
      keeps_bind (keeps_ask vs 1 (query.Entries number) (λ w p. (p, small_property schema number property c.sane there))) (λ v.
      keeps_from (λ w p. (spared vs w p.0, All-weaker (IsCell schema number) (MatchTypes property.keys) (cell_keys schema number property there) (tuples_of v) (told_tuples schema number v p.1))) (λ u w p. p)
      (keeps_given (orderly_for_tuples n (tuples_of v) (does_body block) (body_orderly block)) (λ h. keeps_for_tuples vs n property.keys (does_body block) at few (keeps_block schema c (vs ++ map key_kind property.keys) block b) (tuples_of v) h)))))
  keeps_statement schema c seen statement after (kinds.print vs line a kind l h) = keeps_same (eq.does_print line a) (keeps_bind (keeps_begin vs) (λ u.
      keeps_bind (keeps_value schema c line l vs 1 a kind h) (λ v. keeps_tell vs (event.Say v) refl refl (λ w p. (p.0, said kind v p.1)))))
  keeps_statement schema c seen statement after (kinds.yield vs line l) = keeps_same (eq.does_yield line) (keeps_bind (keeps_begin vs) (λ u. keeps_tell vs event.Yield refl refl (λ w p. (p, tt))))
  keeps_statement schema c seen statement after (kinds.flush vs line l) = keeps_same (eq.does_flush line) (keeps_bind (keeps_begin vs) (λ u. keeps_tell vs event.Flush refl refl (λ w p. (p, tt))))

  keeps_block : (schema : Schema) (c : Setting schema) (seen : List Kind) (block : List Statement) → IsBlock schema seen block → Keeps c (Stands c seen 0) (does_body block) (λ u w. Stands c seen 0 w)
  keeps_block schema c seen block (kinds.end vs) = keeps_done tt (λ w p. p)
  keeps_block schema c seen block (kinds.next vs after statement rest h hs) = keeps_bind (keeps_statement schema c vs statement after h) (λ u.
      keeps_from (λ w p. p) (λ u w p. back vs after w (behind schema vs statement after h) p) (keeps_block schema c after rest hs))

-- the whole trace
abbrev Done_at : {schema : Schema} → Setting schema → Unit {0} → World → Type 0
Done_at c u w = Stands c [] 0 w

come_shaped : (schema : Schema) (c : Setting schema) (r : Run (Unit {0})) → (Answered c (events_of r) → Comes c (Done_at c) r) → Answered c (come_out r).0 → IsShapedTrace schema c.client (come_out r)
come_shaped schema c (goes u w) k h = ended_at c [] 0 (ended Done) w (k h) tt
come_shaped schema c (ends o es) k h = k h

pub trace_shaped : (schema : Schema) (client : ℕ) (body : List Statement) (answers : List Answer) → IsSchema schema → client < 8 → IsBody schema body
    → All (IsAnswered schema) (trace client body answers).0 → IsShapedTrace schema client (trace client body answers)
trace_shaped schema client body answers sane below kinded h = come_shaped schema c (does_body body (start client answers)) ((keeps_block schema c [] body kinded).by (start client answers) at_start) h
  where
    c : Setting schema
    c = record { client = client; sane = sane; below = below }

    at_start : Stands c [] 0 (start client answers)
    at_start = record { client_is = refl; slots = refl; values = tt; events = All-nil (IsShapedEvent schema); serials = lit≤ tt; creations = refl }

-- a client of a program
pub program_shaped : (p : Parts) (client : ℕ) (body : List Statement) (answers : List Answer) → IsProgram p → slice_get p.bodies client ≡ Some body
    → All (IsAnswered p.schema) (trace client body answers).0 → IsShapedTrace p.schema client (trace client body answers)
program_shaped p client body answers is there h =
    let below : client < 8 = omega (arith, slice_get_within p.bodies client body there, is.as_many_bodies, is.few_clients) in
    trace_shaped p.schema client body answers is.schema below (all_at (IsBody p.schema) p.bodies client body is.bodies there) h
