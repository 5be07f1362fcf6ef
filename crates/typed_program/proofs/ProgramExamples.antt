-- Worked examples of programs, of shapes and of the most events.
use Rattle.std.proofs.Common.{◌≡◌, refl, ap, sym, ◌∙◌, subst, lit<, lit≤}
use Rattle.std.proofs.Math.Nat.{suc-ne-zero}
use Rattle.std.proofs.lemmas.List.Elements.{All-nil, All-cons, All-head}
use Rattle.std.specs.Prelude.{ℕ, zero, suc, ◌+◌, ◌*◌, ◌<◌, max, ⊤, Bool, true, List, [], ◌∷◌, map, Option, Some, None, slice_get, codes, All, if◌then◌else◌, ◌==◌}
use Rattle.cloud_base.specs.Values.{IsName}
use Rattle.cloud_base.specs.Events.{ended}
use Rattle.cloud_base.specs.Shaped.{IsSchema, IsShapedEvent, IsKeyType, AreKeyTypes, AreOwnersKeys, property_at, entity_at}
use Rattle.cloud_base.specs.declared.end.End.TheVariants.{Done}
use Rattle.cloud_base.specs.declared.schedule.Fate.TheVariants.{Pass}
use Rattle.cloud_base.specs.declared.schedule.ScheduleItem.TheVariants.{Steps, Serve}
use Rattle.cloud_base.specs.declared.schema.KeyType.TheVariants as type
use Rattle.cloud_base.specs.declared.schema.Property.{Property}
use Rattle.cloud_base.specs.declared.schema.Entity.{Entity}
use Rattle.cloud_base.specs.declared.schema.Schema.{Schema}
use Rattle.cloud_base.specs.declared.update.Answer.TheVariants as answer
use Rattle.cloud_base.specs.declared.update.Event.TheVariants.{Say}
use Rattle.typed_program.specs.declared.expression.Expression.{Expression}
use Rattle.typed_program.specs.declared.expression.Expression.TheFolds.{fold-roll-Expression}
use Rattle.typed_program.specs.declared.expression.Expression.TheOpen.{Expression-F}
use Rattle.typed_program.specs.declared.expression.Expression.TheVariants as e
use Rattle.typed_program.specs.declared.expression.Operator.{Operator}
use Rattle.typed_program.specs.declared.expression.Operator.TheVariants as op
use Rattle.typed_program.specs.declared.program.Parts.{Parts}
use Rattle.typed_program.specs.declared.statement.Statement.{Statement}
use Rattle.typed_program.specs.declared.statement.Statement.TheFolds.{fold-roll-Statement}
use Rattle.typed_program.specs.declared.statement.Statement.TheOpen.{Statement-F}
use Rattle.typed_program.specs.declared.statement.Statement.TheVariants as s
use Rattle.typed_program.specs.Kinds as kinds
use Rattle.typed_program.specs.Kinds.{IsBody}
use Rattle.typed_program.specs.Programs.{IsTold, IsProgram, HasName, owner_name, item_client}
use Rattle.typed_program.specs.Shapes.{IsShapedTrace, first_ids}
use Rattle.typed_program.specs.Widths.{total, queries_step, queries, greatest, width_step, width, most_events}
use Rattle.typed_program.proofs.KindExamples.{shop, global, body, example_body}

all_of : {A : Type 0} (P : A → Type 0) (x y z : A) → P x → P y → P z → All P (x ∷ y ∷ z ∷ [])
all_of P x y z a b c = All-cons P x (y ∷ z ∷ []) a (All-cons P y (z ∷ []) b (All-cons P z [] c (All-nil P)))

just : {A : Type 0} (P : A → Type 0) (x : A) → P x → All P (x ∷ [])
just P x h = All-cons P x [] h (All-nil P)

shop_is_schema : IsSchema shop
shop_is_schema = record {
  few_properties = lit≤ tt;
  few_entities = lit≤ tt;
  property_keys = all_of (λ (p : Property). AreKeyTypes shop p.keys) _ _ _ (lit≤ tt, All-nil (IsKeyType shop)) (lit≤ tt, just (IsKeyType shop) type.Text tt) (lit≤ tt, just (IsKeyType shop) (type.Id 0) (lit< tt));
  owners_keys = all_of (λ (p : Property). AreOwnersKeys p.owner p.keys) _ _ _ refl tt refl;
  entity_keys = just (λ (x : Entity). AreKeyTypes shop x.keys) _ (lit≤ tt, All-nil (IsKeyType shop));
}

-- the number of the property with an owner's name
abbrev number_of : Option (List ℕ) → ℕ
number_of None = 0
number_of (Some []) = 0
number_of (Some (n ∷ name)) = if n == 65 then 1 else 2

abbrev number_in : Option Property → ℕ
number_in None = 0
number_in (Some p) = number_of (owner_name shop p.owner)

abbrev IsThere : {A : Type 0} → Option A → Type 0
IsThere None = ⊥
IsThere (Some x) = ⊤

numbered : (a : ℕ) (p : Property) → property_at shop a ≡ Some p → a ≡ number_of (owner_name shop p.owner)
numbered zero p h = ap number_in h
numbered (suc zero) p h = ap number_in h
numbered (suc (suc zero)) p h = ap number_in h
numbered (suc (suc (suc n))) p h = absurd (subst IsThere (sym h) tt)

first_alone : {A : Type 0} (x y : A) (a b : ℕ) → slice_get (x ∷ []) a ≡ Some y → slice_get (x ∷ []) b ≡ Some y → a ≡ b
first_alone x y zero zero h k = refl
first_alone x y zero (suc b) h k = absurd (subst IsThere (sym k) tt)
first_alone x y (suc a) b h k = absurd (subst IsThere (sym h) tt)

only_entity : (a b : ℕ) (e f : Entity) → entity_at shop a ≡ Some e → entity_at shop b ≡ Some f → e.name ≡ f.name → a ≡ b
only_entity zero zero e f h k n = refl
only_entity zero (suc b) e f h k n = absurd (subst IsThere (sym k) tt)
only_entity (suc a) b e f h k n = absurd (subst IsThere (sym h) tt)

shop_is_told : IsTold shop
shop_is_told = record {
  properties = all_of (λ (p : Property). IsName p.name × HasName p.owner) _ _ _ (refl, tt) (refl, refl) (refl, tt);
  entities = just (λ (x : Entity). IsName x.name) _ refl;
  properties_differ = λ a b p q h k o n. numbered a p h ∙ ap number_of o ∙ sym (numbered b q k);
  entities_differ = only_entity;
}

-- two clients, of which the second one does nothing
abbrev market : Parts
market = record { schema = shop; names = codes "a" ∷ codes "b" ∷ []; bodies = body ∷ [] ∷ []; schedule = Steps 0 3 ∷ Serve 1 Pass ∷ [] }

abbrev place_of : Option (List ℕ) → ℕ
place_of None = 0
place_of (Some []) = 0
place_of (Some (n ∷ name)) = if n == 97 then 0 else 1

placed : (a : ℕ) (name : List ℕ) → slice_get market.names a ≡ Some name → a ≡ place_of (Some name)
placed zero name h = ap place_of h
placed (suc zero) name h = ap place_of h
placed (suc (suc n)) name h = absurd (subst IsThere (sym h) tt)

pub example_program : IsProgram market
example_program = record {
  schema = shop_is_schema;
  told = shop_is_told;
  some_client = lit≤ tt;
  few_clients = lit≤ tt;
  names = All-cons IsName (codes "a") (codes "b" ∷ []) refl (just IsName (codes "b") refl);
  names_differ = λ a b name h k. placed a name h ∙ sym (placed b name k);
  as_many_bodies = refl;
  bodies = All-cons (IsBody shop) body ([] ∷ []) example_body (just (IsBody shop) [] (kinds.end []));
  schedule = All-cons (λ i. item_client i < 2) (Steps 0 3) (Serve 1 Pass ∷ []) (lit< tt) (just (λ i. item_client i < 2) (Serve 1 Pass) (lit< tt));
}

-- two globals of one name aren't told apart
abbrev twins : Schema
twins = record { properties = global (codes "g") ∷ global (codes "g") ∷ []; entities = [] }

pub example_twins : ¬ IsTold twins
example_twins h = suc-ne-zero 0 (h.properties_differ 1 0 (global (codes "g")) (global (codes "g")) refl refl refl refl)

-- no list is said, and a client's ids are its first ones
pub example_no_list_said : ¬ IsShapedTrace shop 0 (Say (answer.Ids []) ∷ [], ended Done)
example_no_list_said h = All-head (IsShapedEvent shop) (Say (answer.Ids [])) [] h.events

pub example_first_ids : first_ids 3 2 ≡ record { client = 3; serial = 0 } ∷ record { client = 3; serial = 1 } ∷ []
example_first_ids = refl

-- `print g + g; while true { yield; }`: no statement has more than three events by itself
example_widths : map width (s.Print 1 (e.Binary op.Add (e.Get 0 []) (e.Get 0 [])) ∷ s.While 2 (e.Truth true) (s.Yield 3 ∷ []) ∷ []) ≡ 3 ∷ 1 ∷ []
example_widths = simp (width_print, width_while, width_yield, queries_binary, queries_get, queries_truth)
  where
    queries_get : (p : ℕ) (keys : List Expression) → queries (e.Get p keys) ≡ total (map queries keys) + 1
    queries_get p keys = ap queries (sym (e.rolls-Get p keys)) ∙ fold-roll-Expression ℕ queries_step (Expression-F.Get p keys)

    queries_binary : (operator : Operator) (a b : Expression) → queries (e.Binary operator a b) ≡ queries a + queries b
    queries_binary operator a b = ap queries (sym (e.rolls-Binary operator a b)) ∙ fold-roll-Expression ℕ queries_step (Expression-F.Binary operator a b)

    queries_truth : (b : Bool) → queries (e.Truth b) ≡ 0
    queries_truth b = ap queries (sym (e.rolls-Truth b)) ∙ fold-roll-Expression ℕ queries_step (Expression-F.Truth b)

    width_print : (line : ℕ) (a : Expression) → width (s.Print line a) ≡ queries a + 1
    width_print line a = ap width (sym (s.rolls-Print line a)) ∙ fold-roll-Statement ℕ width_step (Statement-F.Print line a)

    width_while : (line : ℕ) (a : Expression) (block : List Statement) → width (s.While line a block) ≡ max (queries a) (greatest (map width block))
    width_while line a block = ap width (sym (s.rolls-While line a block)) ∙ fold-roll-Statement ℕ width_step (Statement-F.While line a block)

    width_yield : (line : ℕ) → width (s.Yield line) ≡ 1
    width_yield line = ap width (sym (s.rolls-Yield line)) ∙ fold-roll-Statement ℕ width_step (Statement-F.Yield line)

pub example_most_events : most_events (s.Print 1 (e.Binary op.Add (e.Get 0 []) (e.Get 0 [])) ∷ s.While 2 (e.Truth true) (s.Yield 3 ∷ []) ∷ []) ≡ 49152
example_most_events = ap (λ ns. 16384 * greatest ns) example_widths
