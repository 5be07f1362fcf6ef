-- How instructions are printed.
use Rattle.std.specs.Prelude.{ℕ, suc, ◌==◌, ◌||◌, Bool, true, false, List, [], ◌∷◌, ◌++◌, if◌then◌else◌, codes, decimal}
use Rattle.std.specs.Fmt.{signed_decimal}
use Rattle.std.specs.List.{flat_map}
use Rattle.typed_program.specs.declared.statement.Operation.{Operation}
use Rattle.plain_vm.specs.declared.instruction.Literal.{Literal}
use Rattle.plain_vm.specs.declared.instruction.Binary.{Binary}
use Rattle.plain_vm.specs.declared.instruction.Instruction.{Instruction}

-- a byte of a text: a backslash stands before a quote and before a backslash
abbrev pub escaped : ℕ → List ℕ
escaped byte = if (byte == 34) || (byte == 92) then 92 ∷ byte ∷ [] else byte ∷ []

-- a text, in quotes
abbrev pub quoted : List ℕ → List ℕ
quoted bytes = codes "\"" ++ flat_map escaped bytes ++ codes "\""

abbrev pub truth_text : Bool → List ℕ
truth_text true = codes "true"
truth_text false = codes "false"

abbrev pub literal_text : Literal → List ℕ
literal_text (Literal.Int n) = signed_decimal n
literal_text (Literal.Text bytes) = quoted bytes
literal_text (Literal.Truth b) = truth_text b

-- a number behind a space
abbrev pub operand : ℕ → List ℕ
operand n = codes " " ++ decimal n

abbrev pub binary_text : Binary → List ℕ
binary_text Binary.Add = codes "add"
binary_text Binary.Subtract = codes "sub"
binary_text Binary.Multiply = codes "mul"
binary_text Binary.Concat = codes "cat"
binary_text (Binary.Divide line) = codes "div" ++ operand line
binary_text (Binary.Remainder line) = codes "rem" ++ operand line
binary_text Binary.Equal = codes "eq"
binary_text Binary.NotEqual = codes "ne"
binary_text Binary.Less = codes "lt"
binary_text Binary.LessOrEqual = codes "le"
binary_text Binary.Greater = codes "gt"
binary_text Binary.GreaterOrEqual = codes "ge"

abbrev pub put_text : Operation → List ℕ
put_text Operation.Add = codes "put.add"
put_text Operation.Set = codes "put.set"
put_text Operation.SetIfEmpty = codes "put.empty"

abbrev pub instruction_text : Instruction → List ℕ
instruction_text Instruction.Begin = codes "begin"
instruction_text (Instruction.Push literal) = codes "push " ++ literal_text literal
instruction_text (Instruction.Load slot) = codes "load" ++ operand slot
instruction_text (Instruction.Store slot) = codes "store" ++ operand slot
instruction_text Instruction.Negate = codes "neg"
instruction_text Instruction.Not = codes "not"
instruction_text (Instruction.Binary binary) = binary_text binary
instruction_text (Instruction.Jump to) = codes "jump" ++ operand to
instruction_text (Instruction.JumpIfFalse to) = codes "jumpf" ++ operand to
instruction_text (Instruction.Get property keys) = codes "get" ++ operand property ++ operand keys
instruction_text Instruction.Alive = codes "alive"
instruction_text (Instruction.All entity) = codes "all" ++ operand entity
instruction_text (Instruction.Entries property) = codes "entries" ++ operand property
instruction_text (Instruction.Next to parts) = codes "next" ++ operand to ++ operand parts
instruction_text (Instruction.Put operation property keys) = put_text operation ++ operand property ++ operand keys
instruction_text (Instruction.New entity keys) = codes "new" ++ operand entity ++ operand keys
instruction_text Instruction.Delete = codes "delete"
instruction_text Instruction.Say = codes "say"
instruction_text Instruction.Yield = codes "yield"
instruction_text Instruction.Flush = codes "flush"
instruction_text Instruction.End = codes "end"

-- the line of an instruction: its place, and the instruction
abbrev pub line_text : ℕ → Instruction → List ℕ
line_text place instruction = decimal place ++ codes " " ++ instruction_text instruction ++ codes "\n"

-- the lines of instructions from a place on
abbrev pub lines_from : ℕ → List Instruction → List ℕ
lines_from place [] = []
lines_from place (instruction ∷ rest) = line_text place instruction ++ lines_from (suc place) rest

-- places count from 0
abbrev pub listing : List Instruction → List ℕ
listing instructions = lines_from 0 instructions
