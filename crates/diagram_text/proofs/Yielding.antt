-- A program of one client that yields, for the test.
use Rattle.std.proofs.Common.{◌≡◌, refl, sym, ap, ◌∙◌, subst, lit<, lit≤}
use Rattle.std.proofs.lemmas.List.Elements.{All-nil, All-cons}
use Rattle.std.specs.Prelude.{ℕ, zero, suc, ◌<◌, List, [], ◌∷◌, Some, slice_get}
use Rattle.cloud_base.specs.Values.{IsName}
use Rattle.cloud_base.specs.Shaped.{AreKeyTypes, AreOwnersKeys}
use Rattle.cloud_base.specs.declared.schema.Property.{Property}
use Rattle.cloud_base.specs.declared.schema.Entity.{Entity}
use Rattle.cloud_base.specs.declared.schema.Schema.{Schema}
use Rattle.typed_program.specs.declared.program.Parts.{Parts}
use Rattle.typed_program.specs.declared.statement.Statement.{Statement}
use Rattle.typed_program.specs.declared.statement.Statement.TheVariants as s
use Rattle.typed_program.specs.Kinds as kinds
use Rattle.typed_program.specs.Kinds.{IsBody}
use Rattle.typed_program.specs.Programs.{IsProgram, HasName, item_client}

abbrev nothing : Schema
nothing = record { properties = []; entities = [] }

abbrev body : List Statement
body = s.Yield 1 ∷ []

abbrev yielding : Parts
yielding = record { schema = nothing; names = (97 ∷ []) ∷ []; bodies = body ∷ []; schedule = [] }

body_kinded : IsBody nothing body
body_kinded = kinds.next [] [] _ [] (kinds.yield [] 1 (lit< tt)) (kinds.end [])

one_alone : (x y : List ℕ) (a b : ℕ) → slice_get (x ∷ []) a ≡ Some y → slice_get (x ∷ []) b ≡ Some y → a ≡ b
one_alone x y zero zero h k = refl
one_alone x y zero (suc b) h k = absurd (cc k)
one_alone x y (suc a) b h k = absurd (cc h)

is_yielding : IsProgram yielding
is_yielding = record {
  schema = record {
    few_properties = lit≤ tt;
    few_entities = lit≤ tt;
    property_keys = All-nil (λ (p : Property). AreKeyTypes nothing p.keys);
    owners_keys = All-nil (λ (p : Property). AreOwnersKeys p.owner p.keys);
    entity_keys = All-nil (λ (x : Entity). AreKeyTypes nothing x.keys);
  };
  told = record {
    properties = All-nil (λ (p : Property). IsName p.name × HasName p.owner);
    entities = All-nil (λ (x : Entity). IsName x.name);
    properties_differ = λ a b p q h k o n. absurd (cc h);
    entities_differ = λ a b p q h k n. absurd (cc h);
  };
  some_client = lit≤ tt;
  few_clients = lit≤ tt;
  names = All-cons IsName (97 ∷ []) [] refl (All-nil IsName);
  names_differ = λ a b name h k. one_alone (97 ∷ []) name a b h k;
  as_many_bodies = refl;
  bodies = All-cons (IsBody nothing) body [] body_kinded (All-nil (IsBody nothing));
  schedule = All-nil (λ i. item_client i < 1);
}

pub is_program : (p : Parts) → p.schema.properties ≡ [] → p.schema.entities ≡ [] → p.names ≡ (97 ∷ []) ∷ [] → p.bodies ≡ (s.Yield 1 ∷ []) ∷ [] → p.schedule ≡ [] → IsProgram p
is_program p a b c d f =
    let whole : p ≡ yielding = λ i. record { schema = record { properties = a i; entities = b i }; names = c i; bodies = d i; schedule = f i } in
    subst (λ x. IsProgram x) (sym whole) is_yielding
