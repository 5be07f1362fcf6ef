-- Which codes are valid.
use Rattle.std.specs.Prelude.{◌≡◌, ℕ, suc, ◌<◌, ◌⊎◌, ⊤, List, [], ◌∷◌, length, map, Option, None, Some, if◌then◌else◌, ◌==◌, slice_get, IsTrue, FitsSigned}
use Rattle.std.specs.List.{last_or}
use Rattle.std.specs.Int.{w64}
use Rattle.cloud_base.specs.Values.{IsText}
use Rattle.cloud_base.specs.PlainCell.{value_kind}
use Rattle.cloud_base.specs.Shaped.{IsSchema, property_at, entity_at}
use Rattle.cloud_base.specs.declared.schema.Property.{Property}
use Rattle.cloud_base.specs.declared.schema.Entity.{Entity}
use Rattle.cloud_base.specs.declared.schema.Schema.{Schema}
use Rattle.typed_program.specs.Kinds.{most_slots, key_kind, cell_kind, takes, result_kind, fits_cell, IsLine}
use Rattle.typed_program.specs.declared.expression.Kind.{Kind}
use Rattle.typed_program.specs.declared.expression.Kind.TheVariants.{Int, Text, Truth, Id}
use Rattle.plain_vm.specs.declared.instruction.Literal.{Literal}
use Rattle.plain_vm.specs.declared.instruction.Instruction.{Instruction}
use Rattle.plain_vm.specs.Exec.{push_all, operator_of, line_of}

-- what is known at a place: the kinds of the values on the stack, the topmost first, the kinds of
-- slots, and of each open listing the kinds of an item's parts, the newest first
pub record Shape : Type 0 where
  pub stack : List Kind
  pub slots : ℕ → Option Kind
  pub listings : List (List Kind)

-- a shape serves where another one is wanted: it knows all that the other knows
pub record Serves (shape wanted : Shape) : Type 0 where
  pub stack : shape.stack ≡ wanted.stack
  pub slots : (n : ℕ) (kind : Kind) → wanted.slots n ≡ Some kind → shape.slots n ≡ Some kind
  pub listings : shape.listings ≡ wanted.listings

-- the place is there, and the shape serves for it
abbrev pub Leads : List Shape → ℕ → Shape → Type 0
Leads shapes to shape = (wanted : Shape) × (slice_get shapes to ≡ Some wanted) × Serves shape wanted

-- slots with a value of a kind in one of them
abbrev pub with_slot : (ℕ → Option Kind) → ℕ → Kind → ℕ → Option Kind
with_slot slots n kind m = if m == n then Some kind else slots m

abbrev pub with_stack : Shape → List Kind → Shape
with_stack shape stack = record shape { stack = stack }

abbrev pub with_listings : Shape → List (List Kind) → Shape
with_listings shape listings = record shape { listings = listings }

abbrev pub literal_kind : Literal → Kind
literal_kind (Literal.Int n) = Int
literal_kind (Literal.Text bytes) = Text
literal_kind (Literal.Truth b) = Truth

abbrev pub IsLiteral : Literal → Type 0
IsLiteral (Literal.Int n) = FitsSigned w64 n
IsLiteral (Literal.Text bytes) = IsText bytes
IsLiteral (Literal.Truth b) = ⊤

-- an instruction at a place finds its operands, each of its kind, and its shape leads to each place
-- that may come next
abbrev pub IsFine : Schema → List Shape → ℕ → Instruction → Shape → Type 0
IsFine schema shapes at Instruction.Begin s = Leads shapes (suc at) s
IsFine schema shapes at (Instruction.Push literal) s = IsLiteral literal × Leads shapes (suc at) (with_stack s (literal_kind literal ∷ s.stack))
IsFine schema shapes at (Instruction.Load n) s = (n < most_slots) × (kind : Kind) × (s.slots n ≡ Some kind) × Leads shapes (suc at) (with_stack s (kind ∷ s.stack))
IsFine schema shapes at (Instruction.Store n) s = (n < most_slots) × (kind : Kind) × (rest : List Kind) × (s.stack ≡ kind ∷ rest)
    × Leads shapes (suc at) (record s { stack = rest; slots = with_slot s.slots n kind })
IsFine schema shapes at Instruction.Negate s = (rest : List Kind) × (s.stack ≡ Int ∷ rest) × Leads shapes (suc at) s
IsFine schema shapes at Instruction.Not s = (rest : List Kind) × (s.stack ≡ Truth ∷ rest) × Leads shapes (suc at) s
IsFine schema shapes at (Instruction.Binary binary) s = IsLine (line_of binary) × (kind : Kind) × (rest : List Kind) × (s.stack ≡ kind ∷ kind ∷ rest) × IsTrue (takes (operator_of binary) kind)
    × Leads shapes (suc at) (with_stack s (result_kind (operator_of binary) ∷ rest))
IsFine schema shapes at (Instruction.Jump to) s = Leads shapes to s
IsFine schema shapes at (Instruction.JumpIfFalse to) s = (rest : List Kind) × (s.stack ≡ Truth ∷ rest) × Leads shapes (suc at) (with_stack s rest) × Leads shapes to (with_stack s rest)
IsFine schema shapes at (Instruction.Get number n) s = (property : Property) × (rest : List Kind) × (property_at schema number ≡ Some property) × (n ≡ length property.keys)
    × (s.stack ≡ push_all (map key_kind property.keys) rest) × Leads shapes (suc at) (with_stack s (cell_kind property.cell ∷ rest))
IsFine schema shapes at Instruction.Alive s = (entity : ℕ) × (rest : List Kind) × (s.stack ≡ Id entity ∷ rest) × Leads shapes (suc at) (with_stack s (Truth ∷ rest))
IsFine schema shapes at (Instruction.All number) s = (entity : Entity) × (entity_at schema number ≡ Some entity) × Leads shapes (suc at) (with_listings s ((Id number ∷ []) ∷ s.listings))
IsFine schema shapes at (Instruction.Entries number) s = (property : Property) × (property_at schema number ≡ Some property)
    × Leads shapes (suc at) (with_listings s (map key_kind property.keys ∷ s.listings))
IsFine schema shapes at (Instruction.Next to n) s = (kinds : List Kind) × (rest : List (List Kind)) × (s.listings ≡ kinds ∷ rest) × (n ≡ length kinds)
    × Leads shapes to (with_listings s rest) × Leads shapes (suc at) (with_stack s (push_all kinds s.stack))
IsFine schema shapes at (Instruction.Put operation number n) s = (property : Property) × (kind : Kind) × (rest : List Kind) × (property_at schema number ≡ Some property) × (n ≡ length property.keys)
    × (s.stack ≡ kind ∷ push_all (map key_kind property.keys) rest) × IsTrue (fits_cell operation (value_kind property.cell) kind) × Leads shapes (suc at) (with_stack s rest)
IsFine schema shapes at (Instruction.New number n) s = (entity : Entity) × (rest : List Kind) × (entity_at schema number ≡ Some entity) × (n ≡ length entity.keys)
    × (s.stack ≡ push_all (map key_kind entity.keys) rest) × Leads shapes (suc at) (with_stack s (Id number ∷ rest))
IsFine schema shapes at Instruction.Delete s = (entity : ℕ) × (rest : List Kind) × (s.stack ≡ Id entity ∷ rest) × Leads shapes (suc at) (with_stack s rest)
IsFine schema shapes at Instruction.Say s = (kind : Kind) × (rest : List Kind) × (s.stack ≡ kind ∷ rest) × Leads shapes (suc at) (with_stack s rest)
IsFine schema shapes at Instruction.Yield s = Leads shapes (suc at) s
IsFine schema shapes at Instruction.Flush s = Leads shapes (suc at) s
IsFine schema shapes at Instruction.End s = ⊤

-- where an instruction may jump to
abbrev pub jump_of : Instruction → Option ℕ
jump_of (Instruction.Jump to) = Some to
jump_of (Instruction.JumpIfFalse to) = Some to
jump_of (Instruction.Next to n) = Some to
jump_of other = None

-- the head of a loop: a turn or an item is taken there, so no loop goes on for ever
abbrev pub IsHead : Option Instruction → Type 0
IsHead (Some Instruction.Begin) = ⊤
IsHead (Some (Instruction.Next to n)) = ⊤
IsHead other = ⊥

-- a jump from a place lands behind it or at the head of a loop
abbrev pub LandsWell : List Instruction → ℕ → Option ℕ → Type 0
LandsWell code place None = ⊤
LandsWell code place (Some to) = (place < to) ⊎ IsHead (slice_get code to)

-- of a whole code and its shapes the instructions and shapes from a place on: each is fine, and lands well
abbrev pub AreFine : Schema → List Instruction → List Shape → ℕ → List Instruction → List Shape → Type 0
AreFine schema code shapes place [] [] = ⊤
AreFine schema code shapes place [] (shape ∷ shape_rest) = ⊥
AreFine schema code shapes place (instruction ∷ rest) [] = ⊥
AreFine schema code shapes place (instruction ∷ rest) (shape ∷ shape_rest) = IsFine schema shapes place instruction shape × LandsWell code place (jump_of instruction)
    × AreFine schema code shapes (suc place) rest shape_rest

-- at the start the stack is empty, no listing is open, and the slots hold integers
abbrev pub first_shape : Shape
first_shape = record { stack = []; slots = λ n. Some Int; listings = [] }

-- a code is valid with a shape for each of its places
pub record IsValid (schema : Schema) (code : List Instruction) (shapes : List Shape) : Type 0 where
  pub begins : Leads shapes 0 first_shape
  pub fine : AreFine schema code shapes 0 code shapes
  pub last : last_or None code ≡ Some Instruction.End

-- a valid code for a schema
abbrev pub IsCode : Schema → List Instruction → Type 0
IsCode schema code = IsSchema schema × (shapes : List Shape) × IsValid schema code shapes
