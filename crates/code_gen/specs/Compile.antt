-- The code of a body. Where the code of a part begins, its jumps are known, so it is told for each place.
use Rattle.std.specs.Prelude.{ℕ, zero, suc, ◌+◌, List, [], ◌∷◌, ◌++◌, length, map, Option, Some, None, true, false}
use Rattle.cloud_base.specs.Shaped.{property_at}
use Rattle.cloud_base.specs.declared.schema.Property.{Property}
use Rattle.cloud_base.specs.declared.schema.Schema.{Schema}
use Rattle.plain_vm.specs.declared.instruction.Binary.{Binary}
use Rattle.plain_vm.specs.declared.instruction.Instruction.{Instruction}
use Rattle.plain_vm.specs.declared.instruction.Instruction.TheVariants as i
use Rattle.plain_vm.specs.declared.instruction.Literal.TheVariants as literal
use Rattle.typed_program.specs.declared.expression.Expression.{Expression}
use Rattle.typed_program.specs.declared.expression.Expression.TheFolds.{fold-Expression}
use Rattle.typed_program.specs.declared.expression.Expression.TheOpen.{Expression-F}
use Rattle.typed_program.specs.declared.expression.Operator.{Operator}
use Rattle.typed_program.specs.declared.expression.Operator.TheVariants as op
use Rattle.typed_program.specs.declared.statement.Statement.{Statement}
use Rattle.typed_program.specs.declared.statement.Statement.TheFolds.{fold-Statement}
use Rattle.typed_program.specs.declared.statement.Statement.TheOpen.{Statement-F}

-- the instructions of a part, by the place of the first one
abbrev pub Part : Type 0
Part = ℕ → List Instruction

abbrev pub one : Instruction → Part
one instruction at = instruction ∷ []

-- parts one behind the other
abbrev pub behind : List Instruction → Part → Part
behind front next at = front ++ next (at + length front)

abbrev pub in_turn : List Part → Part
in_turn [] at = []
in_turn (part ∷ parts) at = behind (part at) (in_turn parts) at

abbrev pub binary_of : ℕ → Operator → Binary
binary_of line op.Add = Binary.Add
binary_of line op.Subtract = Binary.Subtract
binary_of line op.Multiply = Binary.Multiply
binary_of line op.Divide = Binary.Divide line
binary_of line op.Remainder = Binary.Remainder line
binary_of line op.Concat = Binary.Concat
binary_of line op.Equal = Binary.Equal
binary_of line op.NotEqual = Binary.NotEqual
binary_of line op.Less = Binary.Less
binary_of line op.LessOrEqual = Binary.LessOrEqual
binary_of line op.Greater = Binary.Greater
binary_of line op.GreaterOrEqual = Binary.GreaterOrEqual

-- [a], jumpf F, [b], jump X, F: push false, X:
abbrev pub and_code : ℕ → List Instruction → List Instruction → List Instruction
and_code at a b = a ++ i.JumpIfFalse (at + (length a + (length b + 2))) ∷ (b ++ i.Jump (at + (length a + (length b + 3))) ∷ i.Push (literal.Truth false) ∷ [])

-- [a], jumpf F, push true, jump X, F: [b], X:
abbrev pub or_code : ℕ → List Instruction → List Instruction → List Instruction
or_code at a b = a ++ i.JumpIfFalse (at + (length a + 3)) ∷ i.Push (literal.Truth true) ∷ i.Jump (at + (length a + (length b + 3))) ∷ b

-- of an expression in a statement of a line, from the code of its parts
abbrev pub expression_step : ℕ → Expression-F Part → Part
expression_step line (Expression-F.Int n) at = one (i.Push (literal.Int n)) at
expression_step line (Expression-F.Text bytes) at = one (i.Push (literal.Text bytes)) at
expression_step line (Expression-F.Truth b) at = one (i.Push (literal.Truth b)) at
expression_step line (Expression-F.Slot n kind) at = one (i.Load n) at
expression_step line (Expression-F.Get property keys) at = in_turn keys at ++ i.Get property (length keys) ∷ []
expression_step line (Expression-F.Alive n entity) at = i.Load n ∷ i.Alive ∷ []
expression_step line (Expression-F.Minus a) at = a at ++ i.Negate ∷ []
expression_step line (Expression-F.Not a) at = a at ++ i.Not ∷ []
expression_step line (Expression-F.Binary operator a b) at = behind (a at) b at ++ i.Binary (binary_of line operator) ∷ []
expression_step line (Expression-F.And a b) at = and_code at (a at) (b (at + (length (a at) + 1)))
expression_step line (Expression-F.Or a b) at = or_code at (a at) (b (at + (length (a at) + 3)))

abbrev pub expression_code : ℕ → Expression → Part
expression_code line = fold-Expression Part (expression_step line)

abbrev pub keys_code : ℕ → List Expression → Part
keys_code line keys = in_turn (map (expression_code line) keys)

-- `begin`, and what a statement does
abbrev pub begun : Part → Part
begun rest at = i.Begin ∷ rest (at + 1)

-- [a], jumpf X, S, X:
abbrev pub if_code : ℕ → List Instruction → List Instruction → List Instruction
if_code at a s = a ++ i.JumpIfFalse (at + (length a + (length s + 1))) ∷ s

-- [a], jumpf F, S, jump X, F: R, X:
abbrev pub if_else_code : ℕ → List Instruction → List Instruction → List Instruction → List Instruction
if_else_code at a s r = a ++ i.JumpIfFalse (at + (length a + (length s + 2))) ∷ (s ++ i.Jump (at + (length a + (length s + (length r + 2)))) ∷ r)

abbrev pub branch_code : ℕ → List Instruction → List Part → Option (List Part) → List Instruction
branch_code at a first None = if_code at a (in_turn first (at + (length a + 1)))
branch_code at a first (Some second) = if_else_code at a (in_turn first (at + (length a + 1))) (in_turn second (at + (length a + (length (in_turn first (at + (length a + 1))) + 2))))

-- B: begin, [a], jumpf X, S, jump B, X:
abbrev pub while_code : ℕ → List Instruction → List Instruction → List Instruction
while_code at a s = i.Begin ∷ (a ++ i.JumpIfFalse (at + (length a + (length s + 3))) ∷ (s ++ i.Jump at ∷ []))

-- stores into slots, the last one first
abbrev pub stores : ℕ → ℕ → List Instruction
stores n zero = []
stores n (suc count) = i.Store (n + count) ∷ stores n count

-- B: next X K, a store for each part from the last to the first, S, jump B, X:
abbrev pub loop_code : ℕ → ℕ → ℕ → List Instruction → List Instruction
loop_code at n count s = i.Next (at + (count + (length s + 2))) count ∷ (stores n count ++ (s ++ i.Jump at ∷ []))

-- how many keys a property has
abbrev pub key_count : Option Property → ℕ
key_count None = 0
key_count (Some property) = length property.keys

-- of a statement, from the code of the statements in its blocks
abbrev pub statement_step : Schema → Statement-F Part → Part
statement_step schema (Statement-F.Store line n a) at = begun (λ start. expression_code line a start ++ i.Store n ∷ []) at
statement_step schema (Statement-F.Create line n entity keys) at = begun (λ start. keys_code line keys start ++ i.New entity (length keys) ∷ i.Store n ∷ []) at
statement_step schema (Statement-F.Update line property keys operation a) at = begun (λ start. behind (keys_code line keys start) (expression_code line a) start ++ i.Put operation property (length keys) ∷ []) at
statement_step schema (Statement-F.Delete line n entity) at = begun (λ start. i.Load n ∷ i.Delete ∷ []) at
statement_step schema (Statement-F.If line a first second) at = begun (λ start. branch_code start (expression_code line a start) first second) at
statement_step schema (Statement-F.While line a block) at = while_code at (expression_code line a (at + 1)) (in_turn block (at + (length (expression_code line a (at + 1)) + 2)))
statement_step schema (Statement-F.ForAll line n entity block) at = begun (λ start. i.All entity ∷ loop_code (start + 1) n 1 (in_turn block (start + 3))) at
statement_step schema (Statement-F.ForEntries line n property block) at = begun (λ start. i.Entries property ∷ loop_code (start + 1) n (key_count (property_at schema property)) (in_turn block (start + (key_count (property_at schema property) + 2)))) at
statement_step schema (Statement-F.Print line a) at = begun (λ start. expression_code line a start ++ i.Say ∷ []) at
statement_step schema (Statement-F.Yield line) at = begun (one i.Yield) at
statement_step schema (Statement-F.Flush line) at = begun (one i.Flush) at

abbrev pub statement_code : Schema → Statement → Part
statement_code schema = fold-Statement Part (statement_step schema)

abbrev pub block_code : Schema → List Statement → Part
block_code schema block = in_turn (map (statement_code schema) block)

-- the code of a body, from place 0
abbrev pub code_of : Schema → List Statement → List Instruction
code_of schema body = block_code schema body 0 ++ i.End ∷ []
