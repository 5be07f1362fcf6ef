-- Which expressions have a kind, and which bodies are well-kinded.
use Rattle.std.specs.Prelude.{◌≡◌, ℕ, ◌+◌, ◌≤◌, ◌<◌, ◌^◌, ℤ, Bool, true, false, List, [], ◌∷◌, ◌++◌, length, map, Some, None, slice_get, IsTrue, FitsSigned}
use Rattle.std.specs.Int.{w64}
use Rattle.cloud_base.specs.Values.{IsText}
use Rattle.cloud_base.specs.PlainCell.{ValueKind, Number, Words, value_kind}
use Rattle.cloud_base.specs.Shaped.{property_at, entity_at, cell_type}
use Rattle.cloud_base.specs.declared.schema.CellType.{CellType}
use Rattle.cloud_base.specs.declared.schema.KeyType.{KeyType}
use Rattle.cloud_base.specs.declared.schema.KeyType.TheVariants as type
use Rattle.cloud_base.specs.declared.schema.Property.{Property}
use Rattle.cloud_base.specs.declared.schema.Entity.{Entity}
use Rattle.cloud_base.specs.declared.schema.Schema.{Schema}
use Rattle.typed_program.specs.declared.expression.Kind.{Kind}
use Rattle.typed_program.specs.declared.expression.Kind.TheVariants.{Int, Text, Truth, Id}
use Rattle.typed_program.specs.declared.expression.Operator.{Operator}
use Rattle.typed_program.specs.declared.expression.Operator.TheVariants as op
use Rattle.typed_program.specs.declared.expression.Expression.{Expression}
use Rattle.typed_program.specs.declared.expression.Expression.TheFolds.{fold-Expression}
use Rattle.typed_program.specs.declared.expression.Expression.TheOpen.{Expression-F}
use Rattle.typed_program.specs.declared.expression.Expression.TheVariants as e
use Rattle.typed_program.specs.declared.statement.Operation.{Operation}
use Rattle.typed_program.specs.declared.statement.Operation.TheVariants as operation
use Rattle.typed_program.specs.declared.statement.Statement.{Statement}
use Rattle.typed_program.specs.declared.statement.Statement.TheVariants as s

-- the most variables that are visible at once
abbrev pub most_slots : ℕ
most_slots = 64

-- the kind of a key of a type
abbrev pub key_kind : KeyType → Kind
key_kind type.Int = Int
key_kind type.Text = Text
key_kind (type.Id entity) = Id entity

abbrev pub kind_of_value : ValueKind → Kind
kind_of_value Number = Int
kind_of_value Words = Text

-- the kind of a cell's value
abbrev pub cell_kind : CellType → Kind
cell_kind cell = kind_of_value (value_kind cell)

-- whether an operator takes two operands of a kind
abbrev pub takes : Operator → Kind → Bool
takes op.Equal kind = true
takes op.NotEqual kind = true
takes op.Concat Text = true
takes op.Concat kind = false
takes op.Less Text = true
takes op.LessOrEqual Text = true
takes op.Greater Text = true
takes op.GreaterOrEqual Text = true
takes operator Int = true
takes operator kind = false

-- the kind of what an operator gives
abbrev pub result_kind : Operator → Kind
result_kind op.Add = Int
result_kind op.Subtract = Int
result_kind op.Multiply = Int
result_kind op.Divide = Int
result_kind op.Remainder = Int
result_kind op.Concat = Text
result_kind comparison = Truth

-- whether an update of a cell takes an argument of a kind
abbrev pub fits_cell : Operation → ValueKind → Kind → Bool
fits_cell operation.Add Number Int = true
fits_cell operation.Set Number Int = true
fits_cell operation.Set Words Text = true
fits_cell operation.SetIfEmpty Words Text = true
fits_cell operation cell kind = false

-- from the kinds of the parts of an expression; a property that isn't there counts as one of integers
abbrev pub kind_step : Schema → Expression-F Kind → Kind
kind_step schema (Expression-F.Int n) = Int
kind_step schema (Expression-F.Text bytes) = Text
kind_step schema (Expression-F.Truth b) = Truth
kind_step schema (Expression-F.Slot n kind) = kind
kind_step schema (Expression-F.Get number keys) = cell_kind (cell_type schema number)
kind_step schema (Expression-F.Alive n entity) = Truth
kind_step schema (Expression-F.Minus a) = Int
kind_step schema (Expression-F.Not a) = Truth
kind_step schema (Expression-F.Binary operator a b) = result_kind operator
kind_step schema (Expression-F.And a b) = Truth
kind_step schema (Expression-F.Or a b) = Truth

-- the kind of an expression, where it has one
abbrev pub kind_of : Schema → Expression → Kind
kind_of schema = fold-Expression Kind (kind_step schema)

-- an expression has a kind, where the visible variables have these kinds, slot by slot
mutual
  pub data HasKind (schema : Schema) (seen : List Kind) : Expression → Kind → Type 0 where
    int : (n : ℤ) → FitsSigned w64 n → HasKind schema seen (e.Int n) Int
    text : (bytes : List ℕ) → IsText bytes → HasKind schema seen (e.Text bytes) Text
    truth : (b : Bool) → HasKind schema seen (e.Truth b) Truth
    slot : (n : ℕ) (kind : Kind) → slice_get seen n ≡ Some kind → HasKind schema seen (e.Slot n kind) kind
    get : (number : ℕ) (property : Property) (keys : List Expression) → property_at schema number ≡ Some property → HaveKinds schema seen keys (map key_kind property.keys)
        → HasKind schema seen (e.Get number keys) (cell_kind property.cell)
    alive : (n entity : ℕ) → slice_get seen n ≡ Some (Id entity) → HasKind schema seen (e.Alive n entity) Truth
    minus : (a : Expression) → HasKind schema seen a Int → HasKind schema seen (e.Minus a) Int
    not : (a : Expression) → HasKind schema seen a Truth → HasKind schema seen (e.Not a) Truth
    binary : (operator : Operator) (kind : Kind) (a b : Expression) → IsTrue (takes operator kind) → HasKind schema seen a kind → HasKind schema seen b kind
        → HasKind schema seen (e.Binary operator a b) (result_kind operator)
    and : (a b : Expression) → HasKind schema seen a Truth → HasKind schema seen b Truth → HasKind schema seen (e.And a b) Truth
    or : (a b : Expression) → HasKind schema seen a Truth → HasKind schema seen b Truth → HasKind schema seen (e.Or a b) Truth

  -- each has its kind, in order
  pub data HaveKinds (schema : Schema) (seen : List Kind) : List Expression → List Kind → Type 0 where
    no_more : HaveKinds schema seen [] []
    one_more : (a : Expression) (kind : Kind) (rest : List Expression) (kinds : List Kind) → HasKind schema seen a kind → HaveKinds schema seen rest kinds
        → HaveKinds schema seen (a ∷ rest) (kind ∷ kinds)

-- a line of a source
abbrev pub IsLine : ℕ → Type 0
IsLine line = line < 2 ^ 32

-- a statement is well-kinded where the first variables are visible, and the second ones are behind it
mutual
  pub data IsStatement (schema : Schema) : List Kind → Statement → List Kind → Type 0 where
    -- `var x = a`: the next slot
    declare : (seen : List Kind) (line n : ℕ) (a : Expression) (kind : Kind) → IsLine line → n ≡ length seen → n < most_slots → HasKind schema seen a kind
        → IsStatement schema seen (s.Store line n a) (seen ++ kind ∷ [])
    -- `x = a`: a slot of the same kind
    assign : (seen : List Kind) (line n : ℕ) (a : Expression) (kind : Kind) → IsLine line → slice_get seen n ≡ Some kind → HasKind schema seen a kind
        → IsStatement schema seen (s.Store line n a) seen
    create : (seen : List Kind) (line n number : ℕ) (entity : Entity) (keys : List Expression) → IsLine line → n ≡ length seen → n < most_slots
        → entity_at schema number ≡ Some entity → HaveKinds schema seen keys (map key_kind entity.keys)
        → IsStatement schema seen (s.Create line n number keys) (seen ++ Id number ∷ [])
    update : (seen : List Kind) (line number : ℕ) (property : Property) (keys : List Expression) (operator : Operation) (a : Expression) (kind : Kind) → IsLine line
        → property_at schema number ≡ Some property → HaveKinds schema seen keys (map key_kind property.keys)
        → IsTrue (fits_cell operator (value_kind property.cell) kind) → HasKind schema seen a kind
        → IsStatement schema seen (s.Update line number keys operator a) seen
    delete : (seen : List Kind) (line n entity : ℕ) → IsLine line → slice_get seen n ≡ Some (Id entity) → IsStatement schema seen (s.Delete line n entity) seen
    if_only : (seen : List Kind) (line : ℕ) (a : Expression) (first : List Statement) → IsLine line → HasKind schema seen a Truth → IsBlock schema seen first
        → IsStatement schema seen (s.If line a first None) seen
    if_else : (seen : List Kind) (line : ℕ) (a : Expression) (first second : List Statement) → IsLine line → HasKind schema seen a Truth → IsBlock schema seen first → IsBlock schema seen second
        → IsStatement schema seen (s.If line a first (Some second)) seen
    while : (seen : List Kind) (line : ℕ) (a : Expression) (block : List Statement) → IsLine line → HasKind schema seen a Truth → IsBlock schema seen block
        → IsStatement schema seen (s.While line a block) seen
    -- `foreach x in all E`: the next slot, in the block alone
    for_all : (seen : List Kind) (line n number : ℕ) (entity : Entity) (block : List Statement) → IsLine line → n ≡ length seen → n < most_slots
        → entity_at schema number ≡ Some entity → IsBlock schema (seen ++ Id number ∷ []) block
        → IsStatement schema seen (s.ForAll line n number block) seen
    -- `foreach k1, k2 in entries A.p`: the next slots, one for each key, in the block alone
    for_entries : (seen : List Kind) (line n number : ℕ) (property : Property) (block : List Statement) → IsLine line → n ≡ length seen → n + length property.keys ≤ most_slots
        → property_at schema number ≡ Some property → IsBlock schema (seen ++ map key_kind property.keys) block
        → IsStatement schema seen (s.ForEntries line n number block) seen
    print : (seen : List Kind) (line : ℕ) (a : Expression) (kind : Kind) → IsLine line → HasKind schema seen a kind → IsStatement schema seen (s.Print line a) seen
    yield : (seen : List Kind) (line : ℕ) → IsLine line → IsStatement schema seen (s.Yield line) seen
    flush : (seen : List Kind) (line : ℕ) → IsLine line → IsStatement schema seen (s.Flush line) seen

  -- the statements of a block, each where those before it declared their variables
  pub data IsBlock (schema : Schema) : List Kind → List Statement → Type 0 where
    end : (seen : List Kind) → IsBlock schema seen []
    next : (seen after : List Kind) (statement : Statement) (rest : List Statement) → IsStatement schema seen statement after → IsBlock schema after rest
        → IsBlock schema seen (statement ∷ rest)

-- a client's body: no variable is visible at its start
abbrev pub IsBody : Schema → List Statement → Type 0
IsBody schema body = IsBlock schema [] body
