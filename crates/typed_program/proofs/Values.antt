-- Operators and updates keep kinds.
use Rattle.std.proofs.Common.{sym, subst, arith, lit<, lit≤, T}
use Rattle.std.proofs.lemmas.List.{length-take}
use Rattle.std.proofs.lemmas.List.Elements.{All-nil, All-append, All-take}
use Rattle.std.specs.Prelude.{ℕ, pos, false, List, [], ◌++◌, IsTrue, FitsSigned}
use Rattle.std.specs.Int.{w64}
use Rattle.cloud_base.specs.Values.{IsText, IsPrintable}
use Rattle.cloud_base.specs.Texts.{cat_text}
use Rattle.cloud_base.specs.PlainCell.{value_kind}
use Rattle.cloud_base.specs.Shaped.{IsChange, IsSaid, IsId}
use Rattle.cloud_base.specs.declared.schema.CellType.{CellType}
use Rattle.cloud_base.specs.declared.schema.CellType.TheVariants as cell
use Rattle.cloud_base.specs.declared.update.Answer.{Answer}
use Rattle.cloud_base.specs.declared.update.Answer.TheVariants as answer
use Rattle.typed_program.specs.declared.expression.Kind.{Kind}
use Rattle.typed_program.specs.declared.expression.Kind.TheVariants.{Int, Text, Truth, Id}
use Rattle.typed_program.specs.declared.statement.Operation.{Operation}
use Rattle.typed_program.specs.declared.statement.Operation.TheVariants as operation
use Rattle.typed_program.specs.Kinds.{fits_cell}
use Rattle.typed_program.specs.Shapes.{IsOf}
use Rattle.typed_program.specs.Trace.{int_of, text_of, id_of, change_of}

pub zero_fits : FitsSigned w64 (pos 0)
zero_fits = record { sfits = lit< tt }

-- what is taken of a value of a kind
pub int_is : (v : Answer) → IsOf Int v → FitsSigned w64 (int_of v)
int_is (answer.Int n) h = h
int_is (answer.Text bytes) h = absurd h
int_is (answer.Truth b) h = absurd h
int_is (answer.Id id) h = absurd h
int_is (answer.Ids ids) h = absurd h
int_is (answer.Tuples tuples) h = absurd h

no_text : IsText []
no_text = (lit≤ tt, All-nil IsPrintable)

pub text_is : (kind : Kind) (v : Answer) → IsOf kind v → IsText (text_of v)
text_is kind (answer.Int n) h = no_text
text_is Int (answer.Text bytes) h = absurd h
text_is Text (answer.Text bytes) h = h
text_is Truth (answer.Text bytes) h = absurd h
text_is (Id entity) (answer.Text bytes) h = absurd h
text_is kind (answer.Truth b) h = no_text
text_is kind (answer.Id id) h = no_text
text_is kind (answer.Ids ids) h = no_text
text_is kind (answer.Tuples tuples) h = no_text

pub id_is : (entity : ℕ) (v : Answer) → IsOf (Id entity) v → IsId (id_of v)
id_is entity (answer.Int n) h = absurd h
id_is entity (answer.Text bytes) h = absurd h
id_is entity (answer.Truth b) h = absurd h
id_is entity (answer.Id id) h = h
id_is entity (answer.Ids ids) h = absurd h
id_is entity (answer.Tuples tuples) h = absurd h

pub cat_is_text : (xs ys : List ℕ) → IsText xs → IsText ys → IsText (cat_text xs ys)
unfolding cat_text
cat_is_text xs ys a b = (omega (arith, length-take 128 (xs ++ ys)), All-take IsPrintable 128 (xs ++ ys) (All-append IsPrintable xs ys a.1 b.1))

-- a value of a kind may be said
pub said : (kind : Kind) (v : Answer) → IsOf kind v → IsSaid v
said Int (answer.Int n) h = h
said Int (answer.Text bytes) h = absurd h
said Int (answer.Truth b) h = absurd h
said Int (answer.Id id) h = absurd h
said Int (answer.Ids ids) h = absurd h
said Int (answer.Tuples tuples) h = absurd h
said Text (answer.Int n) h = absurd h
said Text (answer.Text bytes) h = h
said Text (answer.Truth b) h = absurd h
said Text (answer.Id id) h = absurd h
said Text (answer.Ids ids) h = absurd h
said Text (answer.Tuples tuples) h = absurd h
said Truth (answer.Int n) h = absurd h
said Truth (answer.Text bytes) h = absurd h
said Truth (answer.Truth b) h = tt
said Truth (answer.Id id) h = absurd h
said Truth (answer.Ids ids) h = absurd h
said Truth (answer.Tuples tuples) h = absurd h
said (Id entity) (answer.Int n) h = absurd h
said (Id entity) (answer.Text bytes) h = absurd h
said (Id entity) (answer.Truth b) h = absurd h
said (Id entity) (answer.Id id) h = h
said (Id entity) (answer.Ids ids) h = absurd h
said (Id entity) (answer.Tuples tuples) h = absurd h

set_int : (v : Answer) → IsOf Int v → IsChange cell.Int (change_of operation.Set v)
set_int (answer.Int n) h = h
set_int (answer.Text bytes) h = absurd h
set_int (answer.Truth b) h = absurd h
set_int (answer.Id id) h = absurd h
set_int (answer.Ids ids) h = absurd h
set_int (answer.Tuples tuples) h = absurd h

set_text : (v : Answer) → IsOf Text v → IsChange cell.Text (change_of operation.Set v)
set_text (answer.Int n) h = absurd h
set_text (answer.Text bytes) h = h
set_text (answer.Truth b) h = absurd h
set_text (answer.Id id) h = absurd h
set_text (answer.Ids ids) h = absurd h
set_text (answer.Tuples tuples) h = absurd h

pub never : {A : Type 0} → IsTrue false → A
never t = absurd (subst T (sym t) tt)

-- an update's argument is a change of the cell
pub changes : (type : CellType) (operator : Operation) (kind : Kind) (v : Answer) → IsTrue (fits_cell operator (value_kind type) kind) → IsOf kind v → IsChange type (change_of operator v)
changes cell.Int operation.Add Int v t h = int_is v h
changes cell.Int operation.Add Text v t h = never t
changes cell.Int operation.Add Truth v t h = never t
changes cell.Int operation.Add (Id entity) v t h = never t
changes cell.Int operation.Set Int v t h = set_int v h
changes cell.Int operation.Set Text v t h = never t
changes cell.Int operation.Set Truth v t h = never t
changes cell.Int operation.Set (Id entity) v t h = never t
changes cell.Int operation.SetIfEmpty kind v t h = never t
changes cell.Text operation.Add kind v t h = never t
changes cell.Text operation.Set Int v t h = never t
changes cell.Text operation.Set Text v t h = set_text v h
changes cell.Text operation.Set Truth v t h = never t
changes cell.Text operation.Set (Id entity) v t h = never t
changes cell.Text operation.SetIfEmpty Int v t h = never t
changes cell.Text operation.SetIfEmpty Text v t h = text_is Text v h
changes cell.Text operation.SetIfEmpty Truth v t h = never t
changes cell.Text operation.SetIfEmpty (Id entity) v t h = never t
