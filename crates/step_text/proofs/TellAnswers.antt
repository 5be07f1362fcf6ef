-- The texts of answers tell the answers, by their queries.
use Rattle.std.proofs.Common.{◌≡◌, ◌≢◌, ◌∙◌, refl, sym, ap, subst, arith, ℕ, ◌<◌, Bool, true, false, List, [], ◌∷◌, ◌++◌, length, drop, codes, ℤ, pos, negsuc, FitsSigned}
use Rattle.std.specs.Prelude.{All, decimal, ◌==◌}
use Rattle.std.proofs.lemmas.Bool.{false≢true}
use Rattle.std.specs.Fmt.{signed_decimal}
use Rattle.std.specs.Int.{w64}
use Rattle.std.specs.Str.Parse.{AllDigits}
use Rattle.std.specs.List.{join_by}
use Rattle.std.proofs.lemmas.Fmt.{decimal_is_IsNumeral}
use Rattle.std.proofs.lemmas.List.{append_assoc}
use Rattle.std.proofs.lemmas.Str.Parse.{digit_from_value}
use Rattle.cloud_base.specs.Values.{Id}
use Rattle.cloud_base.specs.Shaped.{IsId, IsShapedAnswer, cell_type, IsSaid}
use Rattle.cloud_base.specs.declared.key.Key.{Key}
use Rattle.cloud_base.specs.declared.schema.Schema.{Schema}
use Rattle.cloud_base.specs.declared.update.Answer.{Answer}
use Rattle.cloud_base.specs.declared.update.Answer.TheVariants.{Int, Text, Truth, Id as IdAnswer, Ids, Tuples}
use Rattle.cloud_base.specs.declared.update.Query.{Query}
use Rattle.cloud_base.specs.declared.update.Query.TheVariants.{Get, All as AllOf, Entries, Alive}
use Rattle.step_text.specs.Values.{id_text, tuple_text, truth_text, answer_text}
use Rattle.cloud_base.proofs.ShapedLemmas.{value_is_said}
use Rattle.step_text.proofs.TellPlaces.{cell_written}
use Rattle.step_text.proofs.TellValues.{Stops, IsWritten, differ, integer_begins, integers_tell, quoted_tell, ids_tell, joined_tell, tuples_tell}

digits_begin : (digits r s : List ℕ) (b : ℕ) → 0 < length digits → AllDigits 10 digits → 57 < b → digits ++ r ≢ b ∷ s
digits_begin [] r s b some h late e = omega arith
digits_begin (c ∷ digits) r s b some h late e = let range = digit_from_value c h.0 in let first : c ≡ b = cc e in omega arith

-- an integer begins with a digit or a minus, and so with no letter
integer_is_no_word : (z : ℤ) (r s : List ℕ) (b : ℕ) → FitsSigned w64 z → 57 < b → signed_decimal z ++ r ≢ b ∷ s
integer_is_no_word (pos n) r s b fits late e = digits_begin (decimal n) r s b (decimal_is_IsNumeral n (omega arith)).0.0 (decimal_is_IsNumeral n (omega arith)).0.1 late e
integer_is_no_word (negsuc n) r s b fits late e = let first : 45 ≡ b = cc e in omega arith

-- the first byte of a truth value is another one
truth_begins : (t : Bool) (r s : List ℕ) (b : ℕ) → (116 == b) ≡ false → (102 == b) ≡ false → truth_text t ++ r ≢ b ∷ s
truth_begins true r s b first second e = let is : 116 ≡ b = cc e in false≢true (sym first ∙ subst (λ c. (116 == c) ≡ true) is refl)
truth_begins false r s b first second e = let is : 102 ≡ b = cc e in false≢true (sym second ∙ subst (λ c. (102 == c) ≡ true) is refl)

truths_tell : (a b : Bool) (r s : List ℕ) → truth_text a ++ r ≡ truth_text b ++ s → (a ≡ b) × (r ≡ s)
truths_tell true true r s e = (refl, ap (drop 4) e)
truths_tell false false r s e = (refl, ap (drop 5) e)
truths_tell true false r s e = absurd (differ 0 _ _ e refl)
truths_tell false true r s e = absurd (differ 0 _ _ e refl)

-- an integer and a truth value differ in their first byte
integer_is_no_truth : (z : ℤ) (t : Bool) (r s : List ℕ) → FitsSigned w64 z → signed_decimal z ++ r ≢ truth_text t ++ s
integer_is_no_truth z true r s fits e = integer_is_no_word z r (codes "rue" ++ s) 116 fits (omega arith) e
integer_is_no_truth z false r s fits e = integer_is_no_word z r (codes "alse" ++ s) 102 fits (omega arith) e

pub said_tell : (a b : Answer) (r s : List ℕ) → IsSaid a → IsSaid b → Stops r → Stops s → answer_text a ++ r ≡ answer_text b ++ s → (a ≡ b) × (r ≡ s)
said_tell (Int n) (Int m) r s fa fb h k e = let both = integers_tell n m r s fa fb h k e in (ap Int both.0, both.1)
said_tell (Int n) (Text v) r s fa fb h k e = absurd (integer_begins n r _ 34 fa refl (λ e. omega arith) e)
said_tell (Int n) (Truth v) r s fa fb h k e = absurd (integer_is_no_truth n v r s fa e)
said_tell (Int n) (IdAnswer j) r s fa fb h k e = absurd (integer_begins n r _ 64 fa refl (λ e. omega arith) e)
said_tell (Int n) (Ids ids) r s fa fb h k e = absurd fb
said_tell (Int n) (Tuples tuples) r s fa fb h k e = absurd fb
said_tell (Text t) (Int m) r s fa fb h k e = absurd (integer_begins m s _ 34 fb refl (λ e. omega arith) (sym e))
said_tell (Text t) (Text v) r s fa fb h k e = let both = quoted_tell t v r s e in (ap Text both.0, both.1)
said_tell (Text t) (Truth v) r s fa fb h k e = absurd (truth_begins v s _ 34 refl refl (sym e))
said_tell (Text t) (IdAnswer j) r s fa fb h k e = absurd (differ 0 _ _ e refl)
said_tell (Text t) (Ids ids) r s fa fb h k e = absurd fb
said_tell (Text t) (Tuples tuples) r s fa fb h k e = absurd fb
said_tell (Truth t) (Int m) r s fa fb h k e = absurd (integer_is_no_truth m t s r fb (sym e))
said_tell (Truth t) (Text v) r s fa fb h k e = absurd (truth_begins t r _ 34 refl refl e)
said_tell (Truth t) (Truth v) r s fa fb h k e = let both = truths_tell t v r s e in (ap Truth both.0, both.1)
said_tell (Truth t) (IdAnswer j) r s fa fb h k e = absurd (truth_begins t r _ 64 refl refl e)
said_tell (Truth t) (Ids ids) r s fa fb h k e = absurd fb
said_tell (Truth t) (Tuples tuples) r s fa fb h k e = absurd fb
said_tell (IdAnswer i) (Int m) r s fa fb h k e = absurd (integer_begins m s _ 64 fb refl (λ e. omega arith) (sym e))
said_tell (IdAnswer i) (Text v) r s fa fb h k e = absurd (differ 0 _ _ e refl)
said_tell (IdAnswer i) (Truth v) r s fa fb h k e = absurd (truth_begins v s _ 64 refl refl (sym e))
said_tell (IdAnswer i) (IdAnswer j) r s fa fb h k e = let both = ids_tell i j r s fa fb h k e in (ap IdAnswer both.0, both.1)
said_tell (IdAnswer i) (Ids ids) r s fa fb h k e = absurd fb
said_tell (IdAnswer i) (Tuples tuples) r s fa fb h k e = absurd fb
said_tell (Ids ids) b r s fa fb h k e = absurd fa
said_tell (Tuples tuples) b r s fa fb h k e = absurd fa

-- a list in brackets
lists_tell : {X : Type 0} (text : X → List ℕ) (Fits : X → Type 0)
    → ((a b : X) (r s : List ℕ) → Fits a → Fits b → Stops r → Stops s → text a ++ r ≡ text b ++ s → (a ≡ b) × (r ≡ s))
    → ((a : X) (r s : List ℕ) → Fits a → text a ++ r ≡ 93 ∷ s → ⊥)
    → (a b : List X) (r s : List ℕ) → All Fits a → All Fits b → codes "[" ++ join_by text (codes ", ") a ++ codes "]" ++ r ≡ codes "[" ++ join_by text (codes ", ") b ++ codes "]" ++ s → (a ≡ b) × (r ≡ s)
lists_tell text Fits tells apart a b r s fa fb e =
    joined_tell text Fits 93 tells apart refl (λ e. omega arith) a b r s fa fb (sym (append_assoc (join_by text (codes ", ") a) (codes "]") r) ∙ ap (drop 1) e ∙ append_assoc (join_by text (codes ", ") b) (codes "]") s)

ids_of_all : (schema : Schema) (entity : ℕ) (a : Answer) → IsShapedAnswer schema (AllOf entity) a → (ids : List Id) × (a ≡ Ids ids) × All IsId ids
ids_of_all schema entity (Int n) h = absurd h
ids_of_all schema entity (Text t) h = absurd h
ids_of_all schema entity (Truth t) h = absurd h
ids_of_all schema entity (IdAnswer i) h = absurd h
ids_of_all schema entity (Ids ids) h = (ids, refl, h)
ids_of_all schema entity (Tuples tuples) h = absurd h

tuples_of_entries : (schema : Schema) (property : ℕ) (a : Answer) → IsShapedAnswer schema (Entries property) a → (tuples : List (List Key)) × (a ≡ Tuples tuples) × All (All IsWritten) tuples
tuples_of_entries schema property (Int n) h = absurd h
tuples_of_entries schema property (Text t) h = absurd h
tuples_of_entries schema property (Truth t) h = absurd h
tuples_of_entries schema property (IdAnswer i) h = absurd h
tuples_of_entries schema property (Ids ids) h = absurd h
tuples_of_entries schema property (Tuples tuples) h = (tuples, refl, λ n d lt. cell_written schema property _ (h n d lt))

truth_of_alive : (schema : Schema) (id : Id) (a : Answer) → IsShapedAnswer schema (Alive id) a → (t : Bool) × (a ≡ Truth t)
truth_of_alive schema id (Int n) h = absurd h
truth_of_alive schema id (Text t) h = absurd h
truth_of_alive schema id (Truth t) h = (t, refl)
truth_of_alive schema id (IdAnswer i) h = absurd h
truth_of_alive schema id (Ids ids) h = absurd h
truth_of_alive schema id (Tuples tuples) h = absurd h

pub answers_tell : (schema : Schema) (query : Query) (a b : Answer) (r s : List ℕ) → IsShapedAnswer schema query a → IsShapedAnswer schema query b → Stops r → Stops s → answer_text a ++ r ≡ answer_text b ++ s → (a ≡ b) × (r ≡ s)
answers_tell schema (Get property keys) a b r s fa fb h k e = said_tell a b r s (value_is_said (cell_type schema property) a fa) (value_is_said (cell_type schema property) b fb) h k e
answers_tell schema (AllOf entity) a b r s fa fb h k e =
    let x = ids_of_all schema entity a fa in
    let y = ids_of_all schema entity b fb in
    let both = lists_tell id_text IsId ids_tell (λ id r s fits e. differ 0 _ _ e refl) x.0 y.0 r s x.2 y.2 (ap (λ c. answer_text c ++ r) (sym x.1) ∙ e ∙ ap (λ c. answer_text c ++ s) y.1) in
    (x.1 ∙ ap Ids both.0 ∙ sym y.1, both.1)
answers_tell schema (Entries property) a b r s fa fb h k e =
    let x = tuples_of_entries schema property a fa in
    let y = tuples_of_entries schema property b fb in
    let both = lists_tell tuple_text (All IsWritten) (λ v w r s fv fw stop end e. tuples_tell v w r s fv fw e) (λ tuple r s fits e. differ 0 _ _ e refl) x.0 y.0 r s x.2 y.2 (ap (λ c. answer_text c ++ r) (sym x.1) ∙ e ∙ ap (λ c. answer_text c ++ s) y.1) in
    (x.1 ∙ ap Tuples both.0 ∙ sym y.1, both.1)
answers_tell schema (Alive id) a b r s fa fb h k e =
    let x = truth_of_alive schema id a fa in
    let y = truth_of_alive schema id b fb in
    let both = truths_tell x.0 y.0 r s (ap (λ c. answer_text c ++ r) (sym x.1) ∙ e ∙ ap (λ c. answer_text c ++ s) y.1) in
    (x.1 ∙ ap Truth both.0 ∙ sym y.1, both.1)
