-- What an answer depends on, and which lists it has.
use Rattle.std.proofs.Common.{◌≡◌, refl, sym, ◌∙◌, ap, subst, ℕ, Bool, true, false, not, ◌&&◌, cond, List, [], ◌∷◌, inl, inr, Option, Some, None}
use Rattle.std.specs.Prelude.{Contains, IsTrue, ◌==◌, is_some}
use Rattle.std.specs.List.{list_any}
use Rattle.std.proofs.lemmas.Bool.{cases_Bool, and_parts, false≢true}
use Rattle.cloud_base.specs.Values.{Id}
use Rattle.cloud_base.specs.Order.{id_order, keys_order, same_keys}
use Rattle.cloud_base.specs.PlainCell.{plain_value, default_of, is_default}
use Rattle.cloud_base.specs.Log.{Creation, creation, created, is_of, of_cell, touched, ids_of}
use Rattle.cloud_base.specs.Dead.{is_dead, has_dead}
use Rattle.cloud_base.specs.Shaped.{cell_type}
use Rattle.cloud_base.specs.Sorted.{Lists}
use Rattle.cloud_base.specs.Alike.{Alike}
use Rattle.cloud_base.specs.Answer.{answer, all_ids, entries, cell_value, is_listed, is_entry}
use Rattle.cloud_base.specs.declared.key.Key.{Key}
use Rattle.cloud_base.specs.declared.schema.Schema.{Schema}
use Rattle.cloud_base.specs.declared.schema.CellType.{CellType}
use Rattle.cloud_base.specs.declared.schema.CellType.TheVariants.{Int as IntCell, Text as TextCell}
use Rattle.cloud_base.specs.declared.update.Update.{Update}
use Rattle.cloud_base.specs.declared.update.Update.TheVariants.{Cell, Create, Delete}
use Rattle.cloud_base.specs.declared.update.Query.{Query}
use Rattle.cloud_base.specs.declared.update.Query.TheVariants.{Get, All, Entries, Alive}
use Rattle.cloud_base.specs.declared.update.Answer.TheVariants.{Ids, Tuples, Truth}
use Rattle.cloud_base.proofs.OrderLemmas.{id_order_total, id_same, keys_order_total, keys_same, same_keys_decides}
use Rattle.cloud_base.proofs.SortedLemmas.{here, there, ascending_kept, lists_one}
use Rattle.cloud_base.proofs.LogLemmas.{created_member, created_contains}
use Rattle.cloud_base.proofs.PlainLemmas.{nothing_is_default}
use Rattle.cloud_base.proofs.DeadLemmas.{dead_alike, has_dead_same, some_member, member_some}

-- ---- values

pub default_is_default : (type : CellType) → is_default (default_of type) ≡ true
default_is_default IntCell = refl
default_is_default TextCell = refl

pub get_same : (schema : Schema) (log other : List Update) (property : ℕ) (keys : List Key) → of_cell property keys log ≡ of_cell property keys other → has_dead log keys ≡ has_dead other keys → cell_value schema log property keys ≡ cell_value schema other property keys
get_same schema log other property keys e d = λ i. cond (d i) (default_of (cell_type schema property)) (plain_value (cell_type schema property) (e i))

pub value_alike : (schema : Schema) (log other : List Update) (property : ℕ) (keys : List Key) → Alike log other → cell_value schema log property keys ≡ cell_value schema other property keys
value_alike schema log other property keys a = get_same schema log other property keys (a.changes property keys) (has_dead_same log other keys (λ id m. dead_alike log other id a))

-- ---- the ids of an entity

pub listed_created : (log : List Update) (entity : ℕ) (id : Id) → is_listed log entity id ≡ true → Contains (created log) id
listed_created log entity id h = at (creation id log) refl
  where
    at : (o : Option Creation) → creation id log ≡ o → Contains (created log) id
    at (Some c) e = created_contains id c.entity c.keys log (created_member id log c e)
    at None e = absurd (false≢true (ap (λ d. is_of entity d && not (is_dead log id)) (sym e) ∙ h))

pub all_lists : (log : List Update) (entity : ℕ) → Lists id_order (all_ids log entity) (λ id. IsTrue (is_listed log entity id))
unfolding all_ids
all_lists log entity =
    let l = ascending_kept id_order_total id_same (is_listed log entity) (created log) in
    record { ascends = l.ascends; only = λ id m. (l.only id m).1; every = λ id h. l.every id (listed_created log entity id h, h) }

listed_alike : (log other : List Update) (entity : ℕ) (id : Id) → Alike log other → is_listed log entity id ≡ is_listed other entity id
listed_alike log other entity id a = λ i. is_of entity (a.creations id i) && not (dead_alike log other id a i)

pub all_alike : (log other : List Update) (entity : ℕ) → Alike log other → all_ids log entity ≡ all_ids other entity
all_alike log other entity a =
    let l = all_lists log entity in
    let r = all_lists other entity in
    let l' : Lists id_order (all_ids log entity) (λ id. IsTrue (is_listed other entity id)) = record {
      ascends = l.ascends;
      only = λ id m. sym (listed_alike log other entity id a) ∙ l.only id m;
      every = λ id h. l.every id (listed_alike log other entity id a ∙ h);
    } in
    lists_one id_order_total id_same (all_ids log entity) (all_ids other entity) (λ id. IsTrue (is_listed other entity id)) l' r

-- ---- the entries of a property

-- a cell that the log doesn't change has no changes
untouched : (property : ℕ) (keys : List Key) (log : List Update) → (Contains (touched property log) keys → ⊥) → of_cell property keys log ≡ []
untouched property keys [] n = refl
untouched property keys (Create id e ks ∷ log) n = untouched property keys log n
untouched property keys (Delete id ∷ log) n = untouched property keys log n
untouched property keys (Cell p ks c ∷ log) n =
    let P : Bool → Type 0 = λ b. (Contains (cond b (ks ∷ touched property log) (touched property log)) keys → ⊥) → cond (b && same_keys ks keys) (c ∷ of_cell property keys log) (of_cell property keys log) ≡ [] in
    let Q : Bool → Type 0 = λ b. cond b (c ∷ of_cell property keys log) (of_cell property keys log) ≡ [] in
    let at : P (p == property) = elim (p == property) as P [
      | true ↦ λ m. elim (cases_Bool (same_keys ks keys)) [
        | inl t ↦ absurd (m (subst (Contains (ks ∷ touched property log)) ((same_keys_decides ks keys).0 t) (here ks (touched property log))))
        | inr f ↦ subst Q (sym f) (untouched property keys log (λ k. m (there ks keys (touched property log) k)))
      ]
      | false ↦ λ m. untouched property keys log m
    ] in
    at n

still_default : (schema : Schema) (log : List Update) (property : ℕ) (keys : List Key) → of_cell property keys log ≡ [] → is_default (cell_value schema log property keys) ≡ true
still_default schema log property keys e =
    let type = cell_type schema property in
    let P : Bool → Type 0 = λ b. is_default (cond b (default_of type) (plain_value type (of_cell property keys log))) ≡ true in
    elim (has_dead log keys) as P [
      | true ↦ default_is_default type
      | false ↦ ap (λ c. is_default (plain_value type c)) e ∙ ap is_default (nothing_is_default type) ∙ default_is_default type
    ]

pub entry_touched : (schema : Schema) (log : List Update) (property : ℕ) (keys : List Key) → is_entry schema log property keys ≡ true → Contains (touched property log) keys
entry_touched schema log property keys h =
    let test : List Key → Bool = λ ks. same_keys ks keys in
    elim (cases_Bool (list_any test (touched property log))) [
      | inl t ↦ let w = some_member test (touched property log) t in subst (Contains (touched property log)) ((same_keys_decides w.0 keys).0 w.2) w.1
      | inr f ↦
          let absent : Contains (touched property log) keys → ⊥ = λ m. false≢true (sym f ∙ member_some test (touched property log) keys m ((same_keys_decides keys keys).1 refl)) in
          let default = still_default schema log property keys (untouched property keys log absent) in
          let parts = and_parts (not (has_dead log keys)) (not (is_default (cell_value schema log property keys))) h in
          absurd (false≢true (ap not (sym default) ∙ parts.1))
    ]

pub entries_lists : (schema : Schema) (log : List Update) (property : ℕ) → Lists keys_order (entries schema log property) (λ keys. IsTrue (is_entry schema log property keys))
unfolding entries
entries_lists schema log property =
    let l = ascending_kept keys_order_total keys_same (is_entry schema log property) (touched property log) in
    record { ascends = l.ascends; only = λ keys m. (l.only keys m).1; every = λ keys h. l.every keys (entry_touched schema log property keys h, h) }

entry_alike : (schema : Schema) (log other : List Update) (property : ℕ) (keys : List Key) → Alike log other → is_entry schema log property keys ≡ is_entry schema other property keys
entry_alike schema log other property keys a =
    let d = has_dead_same log other keys (λ id m. dead_alike log other id a) in
    let v = value_alike schema log other property keys a in
    λ i. not (d i) && not (is_default (v i))

pub entries_alike : (schema : Schema) (log other : List Update) (property : ℕ) → Alike log other → entries schema log property ≡ entries schema other property
entries_alike schema log other property a =
    let l = entries_lists schema log property in
    let r = entries_lists schema other property in
    let l' : Lists keys_order (entries schema log property) (λ keys. IsTrue (is_entry schema other property keys)) = record {
      ascends = l.ascends;
      only = λ keys m. sym (entry_alike schema log other property keys a) ∙ l.only keys m;
      every = λ keys h. l.every keys (entry_alike schema log other property keys a ∙ h);
    } in
    lists_one keys_order_total keys_same (entries schema log property) (entries schema other property) (λ keys. IsTrue (is_entry schema other property keys)) l' r

-- ---- answers

pub get_depends : (schema : Schema) (log other : List Update) (property : ℕ) (keys : List Key) → of_cell property keys log ≡ of_cell property keys other → ((id : Id) → Contains (ids_of keys) id → is_dead log id ≡ is_dead other id) → answer schema log (Get property keys) ≡ answer schema other (Get property keys)
unfolding answer
get_depends schema log other property keys e d = get_same schema log other property keys e (has_dead_same log other keys d)

pub answer_alike : (schema : Schema) (log other : List Update) (query : Query) → Alike log other → answer schema log query ≡ answer schema other query
unfolding answer
answer_alike schema log other (Get property keys) a = value_alike schema log other property keys a
answer_alike schema log other (All entity) a = ap Ids (all_alike log other entity a)
answer_alike schema log other (Entries property) a = ap Tuples (entries_alike schema log other property a)
answer_alike schema log other (Alive id) a = λ i. Truth (is_some (a.creations id i) && not (dead_alike log other id a i))
