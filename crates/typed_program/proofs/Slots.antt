-- Values of the visible variables, and keys of their types.
use Rattle.std.proofs.Common.{◌≡◌, refl, sym, ap, subst, arith}
use Rattle.std.proofs.Math.Nat.{not-suc-le-zero}
use Rattle.std.specs.Prelude.{ℕ, zero, suc, ◌<◌, ⊤, List, [], ◌∷◌, ◌++◌, length, map, Option, Some, None, slice_get, slice_index_or, slice_set}
use Rattle.cloud_base.specs.Shaped.{IsKey, MatchTypes}
use Rattle.cloud_base.specs.declared.key.Key.{Key}
use Rattle.cloud_base.specs.declared.key.Key.TheVariants as key
use Rattle.cloud_base.specs.declared.schema.KeyType.{KeyType}
use Rattle.cloud_base.specs.declared.schema.KeyType.TheVariants as type
use Rattle.cloud_base.specs.declared.update.Answer.{Answer}
use Rattle.cloud_base.specs.declared.update.Answer.TheVariants as answer
use Rattle.typed_program.specs.declared.expression.Kind.{Kind}
use Rattle.typed_program.specs.Kinds.{key_kind}
use Rattle.typed_program.specs.Shapes.{IsOf}
use Rattle.typed_program.specs.Trace.{key_of, value_of}

-- the first slots have values of these kinds
abbrev pub Hold : List Kind → List Answer → Type 0
Hold [] slots = ⊤
Hold (kind ∷ kinds) [] = ⊥
Hold (kind ∷ kinds) (value ∷ slots) = IsOf kind value × Hold kinds slots

-- values of these kinds, one for each
abbrev pub AreOf : List Kind → List Answer → Type 0
AreOf [] [] = ⊤
AreOf [] (value ∷ values) = ⊥
AreOf (kind ∷ kinds) [] = ⊥
AreOf (kind ∷ kinds) (value ∷ values) = IsOf kind value × AreOf kinds values

some_same : (a b : Kind) → Some a ≡ Some b → a ≡ b
some_same a b e = ap (from a) e
  where
    from : Kind → Option Kind → Kind
    from d None = d
    from d (Some k) = k

not_there : {A : Type 0} (a : Kind) → None ≡ Some a → A
not_there a e = absurd (subst IsThere (sym e) tt)
  where
    IsThere : Option Kind → Type 0
    IsThere None = ⊥
    IsThere (Some k) = ⊤

pub held : (kinds : List Kind) (slots : List Answer) (n : ℕ) (kind : Kind) (d : Answer) → Hold kinds slots → slice_get kinds n ≡ Some kind → IsOf kind (slice_index_or slots n d)
held [] slots n kind d h e = not_there kind e
held (k ∷ kinds) [] n kind d h e = absurd h
held (k ∷ kinds) (v ∷ slots) zero kind d h e = subst (λ k. IsOf k v) (some_same k kind e) h.0
held (k ∷ kinds) (v ∷ slots) (suc n) kind d h e = held kinds slots n kind d h.1 e

pub hold_set : (kinds : List Kind) (slots : List Answer) (n : ℕ) (kind : Kind) (v : Answer) → Hold kinds slots → slice_get kinds n ≡ Some kind → IsOf kind v → Hold kinds (slice_set slots n v)
hold_set [] slots n kind v h e is = tt
hold_set (k ∷ kinds) [] n kind v h e is = absurd h
hold_set (k ∷ kinds) (w ∷ slots) zero kind v h e is = (subst (λ k. IsOf k v) (sym (some_same k kind e)) is, h.1)
hold_set (k ∷ kinds) (w ∷ slots) (suc n) kind v h e is = (h.0, hold_set kinds slots n kind v h.1 e is)

pub hold_more : (kinds : List Kind) (slots : List Answer) (kind : Kind) (v : Answer) → Hold kinds slots → length kinds < length slots → IsOf kind v → Hold (kinds ++ kind ∷ []) (slice_set slots (length kinds) v)
hold_more [] [] kind v h l is = absurd (not-suc-le-zero l)
hold_more [] (w ∷ slots) kind v h l is = (is, tt)
hold_more (k ∷ kinds) [] kind v h l is = absurd h
hold_more (k ∷ kinds) (w ∷ slots) kind v h l is = (h.0, hold_more kinds slots kind v h.1 (omega (arith, l)) is)

pub hold_fewer : (kinds more : List Kind) (slots : List Answer) → Hold (kinds ++ more) slots → Hold kinds slots
hold_fewer [] more slots h = tt
hold_fewer (k ∷ kinds) more [] h = absurd h
hold_fewer (k ∷ kinds) more (v ∷ slots) h = (h.0, hold_fewer kinds more slots h.1)

-- a value is the key that it gives, and a key's value is of its kind
key_is : (t : KeyType) (v : Answer) → IsOf (key_kind t) v → IsKey t (key_of v)
key_is type.Int (answer.Int n) h = h
key_is type.Int (answer.Text bytes) h = absurd h
key_is type.Int (answer.Truth b) h = absurd h
key_is type.Int (answer.Id id) h = absurd h
key_is type.Int (answer.Ids ids) h = absurd h
key_is type.Int (answer.Tuples tuples) h = absurd h
key_is type.Text (answer.Int n) h = absurd h
key_is type.Text (answer.Text bytes) h = h
key_is type.Text (answer.Truth b) h = absurd h
key_is type.Text (answer.Id id) h = absurd h
key_is type.Text (answer.Ids ids) h = absurd h
key_is type.Text (answer.Tuples tuples) h = absurd h
key_is (type.Id entity) (answer.Int n) h = absurd h
key_is (type.Id entity) (answer.Text bytes) h = absurd h
key_is (type.Id entity) (answer.Truth b) h = absurd h
key_is (type.Id entity) (answer.Id id) h = h
key_is (type.Id entity) (answer.Ids ids) h = absurd h
key_is (type.Id entity) (answer.Tuples tuples) h = absurd h

pub value_is : (t : KeyType) (k : Key) → IsKey t k → IsOf (key_kind t) (value_of k)
value_is type.Int (key.Int n) h = h
value_is type.Int (key.Text bytes) h = absurd h
value_is type.Int (key.Ref id) h = absurd h
value_is type.Text (key.Int n) h = absurd h
value_is type.Text (key.Text bytes) h = h
value_is type.Text (key.Ref id) h = absurd h
value_is (type.Id entity) (key.Int n) h = absurd h
value_is (type.Id entity) (key.Text bytes) h = absurd h
value_is (type.Id entity) (key.Ref id) h = h

pub keys_match : (types : List KeyType) (values : List Answer) → AreOf (map key_kind types) values → MatchTypes types (map key_of values)
keys_match [] [] h = tt
keys_match [] (v ∷ values) h = absurd h
keys_match (t ∷ types) [] h = absurd h
keys_match (t ∷ types) (v ∷ values) h = (key_is t v h.0, keys_match types values h.1)

pub as_many : (types : List KeyType) (values : List Answer) → AreOf (map key_kind types) values → length (map key_of values) ≡ length types
as_many [] [] h = refl
as_many [] (v ∷ values) h = absurd h
as_many (t ∷ types) [] h = absurd h
as_many (t ∷ types) (v ∷ values) h = ap suc (as_many types values h.1)
