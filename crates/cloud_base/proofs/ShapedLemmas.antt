-- What a log of the schema's shape answers is of the schema's shape.
use Rattle.std.proofs.Common.{◌≡◌, refl, ◌∙◌, ap, subst, ℕ, Bool, true, false, ◌&&◌, List, [], ◌∷◌, arith, lit<, lit≤}
use Rattle.std.specs.Prelude.{All, Contains, ◌==◌, if◌then◌else◌, pos, negsuc}
use Rattle.std.specs.Bool.{Decides}
use Rattle.std.proofs.lemmas.Bool.{and_parts, false≢true}
use Rattle.std.proofs.lemmas.Bool.Decides.{nat_tests}
use Rattle.std.proofs.lemmas.List.Elements.{All-nil, All-cons, All-head, All-tail, All-contains, All-contains_itself, All-weaker}
use Rattle.cloud_base.specs.Values.{IsText, IsPrintable}
use Rattle.cloud_base.specs.Order.{same_keys}
use Rattle.cloud_base.specs.Log.{of_cell, touched, created}
use Rattle.cloud_base.specs.Dead.{has_dead}
use Rattle.cloud_base.specs.PlainCell.{ValueKind, Number, Words, value_kind, plain_value, walk_text, if_empty, plain_text, default_of, is_default}
use Rattle.cloud_base.specs.Shaped.{IsId, IsCell, IsChange, IsOfKind, IsSaid, IsValue, IsShaped, IsShapedQuery, IsShapedAnswer, cell_type}
use Rattle.cloud_base.specs.Answer.{answer, cell_value, all_ids, entries}
use Rattle.cloud_base.specs.declared.key.Key.{Key}
use Rattle.cloud_base.specs.declared.schema.CellType.{CellType}
use Rattle.cloud_base.specs.declared.schema.CellType.TheVariants.{Int as IntCell, Text as TextCell}
use Rattle.cloud_base.specs.declared.schema.Schema.{Schema}
use Rattle.cloud_base.specs.declared.update.Answer.{Answer}
use Rattle.cloud_base.specs.declared.update.Answer.TheVariants.{Int, Text}
use Rattle.cloud_base.specs.declared.update.CellChange.{CellChange}
use Rattle.cloud_base.specs.declared.update.CellChange.TheVariants.{Add, SetInt, SetText, SetIfEmpty}
use Rattle.cloud_base.specs.declared.update.Query.{Query}
use Rattle.cloud_base.specs.declared.update.Query.TheVariants.{Get, All as AllOf, Entries, Alive}
use Rattle.cloud_base.specs.declared.update.Update.{Update}
use Rattle.cloud_base.specs.declared.update.Update.TheVariants.{Cell, Create, Delete}
use Rattle.cloud_base.proofs.PlainLemmas.{int_fits}
use Rattle.cloud_base.proofs.AnswerLemmas.{default_is_default, all_lists, entries_lists, listed_created, entry_touched}

-- ---- values

pub default_is_value : (type : CellType) → IsValue type (default_of type)
default_is_value IntCell = record { sfits = lit< tt }
default_is_value TextCell = (lit≤ tt, All-nil IsPrintable)

only_default : (type : CellType) (value : Answer) → IsValue type value → is_default value ≡ true → value ≡ default_of type
only_default IntCell (Int (pos n)) h t = let z : n ≡ 0 = grind (arith, nat_tests, t) in ap (λ m. Int (pos m)) z
only_default IntCell (Int (negsuc n)) h t = absurd (false≢true t)
only_default IntCell value h t = absurd h
only_default TextCell (Text []) h t = refl
only_default TextCell (Text (b ∷ text)) h t = absurd (false≢true t)
only_default TextCell value h t = absurd h

-- the test finds the default among the values of a type
pub default_decides : (type : CellType) (value : Answer) → IsValue type value → Decides (is_default value) (value ≡ default_of type)
default_decides type value h = (only_default type value h, λ e. ap is_default e ∙ default_is_default type)

if_empty_is_text : (now text : List ℕ) → IsText now → IsText text → IsText (if_empty now text)
if_empty_is_text [] text a b = b
if_empty_is_text (c ∷ now) text a b = a

walk_is_text : (now : List ℕ) (changes : List CellChange) → IsText now → All (IsChange TextCell) changes → IsText (walk_text now changes)
walk_is_text now [] t a = t
walk_is_text now (Add n ∷ changes) t a = absurd (All-head (IsChange TextCell) (Add n) changes a)
walk_is_text now (SetInt n ∷ changes) t a = absurd (All-head (IsChange TextCell) (SetInt n) changes a)
walk_is_text now (SetText text ∷ changes) t a =
    walk_is_text text changes (All-head (IsChange TextCell) (SetText text) changes a) (All-tail (IsChange TextCell) (SetText text) changes a)
walk_is_text now (SetIfEmpty text ∷ changes) t a =
    walk_is_text (if_empty now text) changes (if_empty_is_text now text t (All-head (IsChange TextCell) (SetIfEmpty text) changes a)) (All-tail (IsChange TextCell) (SetIfEmpty text) changes a)

-- the plain value over changes of a type is a value of that type
pub plain_is_value : (type : CellType) (changes : List CellChange) → All (IsChange type) changes → IsValue type (plain_value type changes)
unfolding plain_value plain_text
plain_is_value IntCell changes a = int_fits changes
plain_is_value TextCell changes a = walk_is_text [] changes (default_is_value TextCell) a

kind_is_said : (kind : ValueKind) (value : Answer) → IsOfKind kind value → IsSaid value
kind_is_said Number (Int n) h = h
kind_is_said Number value h = absurd h
kind_is_said Words (Text text) h = h
kind_is_said Words value h = absurd h

-- a cell's value may be printed
pub value_is_said : (type : CellType) (value : Answer) → IsValue type value → IsSaid value
value_is_said type value h = kind_is_said (value_kind type) value h

-- ---- what a shaped log holds

same_number : (p q : ℕ) → (p == q) ≡ true → p ≡ q
same_number p q t = grind (arith, nat_tests, t)

pub changes_fit : (schema : Schema) (property : ℕ) (keys : List Key) (log : List Update) → All (IsShaped schema) log → All (IsChange (cell_type schema property)) (of_cell property keys log)
changes_fit schema property keys [] a = All-nil (IsChange (cell_type schema property))
changes_fit schema property keys (Create id e ks ∷ log) a = changes_fit schema property keys log (All-tail (IsShaped schema) (Create id e ks) log a)
changes_fit schema property keys (Delete id ∷ log) a = changes_fit schema property keys log (All-tail (IsShaped schema) (Delete id) log a)
changes_fit schema property keys (Cell p ks c ∷ log) a =
    let Fits : CellChange → Type 0 = IsChange (cell_type schema property) in
    let rest : All Fits (of_cell property keys log) = changes_fit schema property keys log (All-tail (IsShaped schema) (Cell p ks c) log a) in
    let P : Bool → Type 0 = λ b. ((p == property) && same_keys ks keys) ≡ b → All Fits (if b then c ∷ of_cell property keys log else of_cell property keys log) in
    let at : P ((p == property) && same_keys ks keys) = elim ((p == property) && same_keys ks keys) as P [
      | true ↦ λ t.
          let same : p ≡ property = same_number p property (and_parts (p == property) (same_keys ks keys) t).0 in
          All-cons Fits c (of_cell property keys log) (subst (λ q. IsChange (cell_type schema q) c) same (All-head (IsShaped schema) (Cell p ks c) log a).1) rest
      | false ↦ λ t. rest
    ] in
    at refl

pub touched_fits : (schema : Schema) (property : ℕ) (log : List Update) → All (IsShaped schema) log → All (IsCell schema property) (touched property log)
touched_fits schema property [] a = All-nil (IsCell schema property)
touched_fits schema property (Create id e ks ∷ log) a = touched_fits schema property log (All-tail (IsShaped schema) (Create id e ks) log a)
touched_fits schema property (Delete id ∷ log) a = touched_fits schema property log (All-tail (IsShaped schema) (Delete id) log a)
touched_fits schema property (Cell p ks c ∷ log) a =
    let rest = touched_fits schema property log (All-tail (IsShaped schema) (Cell p ks c) log a) in
    let P : Bool → Type 0 = λ b. (p == property) ≡ b → All (IsCell schema property) (if b then ks ∷ touched property log else touched property log) in
    let at : P (p == property) = elim (p == property) as P [
      | true ↦ λ t. All-cons (IsCell schema property) ks (touched property log) (subst (λ q. IsCell schema q ks) (same_number p property t) (All-head (IsShaped schema) (Cell p ks c) log a).0) rest
      | false ↦ λ t. rest
    ] in
    at refl

pub created_fits : (schema : Schema) (log : List Update) → All (IsShaped schema) log → All IsId (created log)
created_fits schema [] a = All-nil IsId
created_fits schema (Cell p ks c ∷ log) a = created_fits schema log (All-tail (IsShaped schema) (Cell p ks c) log a)
created_fits schema (Delete id ∷ log) a = created_fits schema log (All-tail (IsShaped schema) (Delete id) log a)
created_fits schema (Create id e ks ∷ log) a =
    All-cons IsId id (created log) (All-head (IsShaped schema) (Create id e ks) log a).0 (created_fits schema log (All-tail (IsShaped schema) (Create id e ks) log a))

-- ---- answers

all_members : {A : Type 0} (P : A → Type 0) (xs : List A) → ((x : A) → Contains xs x → P x) → All P xs
all_members P xs f = All-weaker (Contains xs) P f xs (All-contains_itself xs)

pub value_fits : (schema : Schema) (log : List Update) (property : ℕ) (keys : List Key) → All (IsShaped schema) log → IsValue (cell_type schema property) (cell_value schema log property keys)
value_fits schema log property keys a =
    let type = cell_type schema property in
    let P : Bool → Type 0 = λ b. IsValue type (if b then default_of type else plain_value type (of_cell property keys log)) in
    elim (has_dead log keys) as P [
      | true ↦ default_is_value type
      | false ↦ plain_is_value type (of_cell property keys log) (changes_fit schema property keys log a)
    ]

pub answer_fits : (schema : Schema) (log : List Update) (query : Query) → All (IsShaped schema) log → IsShapedQuery schema query → IsShapedAnswer schema query (answer schema log query)
unfolding answer
answer_fits schema log (Get property keys) a q = value_fits schema log property keys a
answer_fits schema log (AllOf entity) a q =
    all_members IsId (all_ids log entity) (λ id m. All-contains IsId (created log) id (created_fits schema log a) (listed_created log entity id ((all_lists log entity).only id m)))
answer_fits schema log (Entries property) a q =
    all_members (IsCell schema property) (entries schema log property) (λ keys m. All-contains (IsCell schema property) (touched property log) keys (touched_fits schema property log a) (entry_touched schema log property keys ((entries_lists schema log property).only keys m)))
answer_fits schema log (Alive id) a q = tt
