-- What the instructions of a code do.
use Rattle.std.specs.Prelude.{ℕ, zero, suc, not, List, [], ◌∷◌, map, Option, None, Some, if◌then◌else◌, slice_get, neg_ℤ}
use Rattle.cloud_base.specs.declared.end.End.TheVariants.{Done}
use Rattle.cloud_base.specs.declared.update.Answer.{Answer}
use Rattle.cloud_base.specs.declared.update.Answer.TheVariants as answer
use Rattle.cloud_base.specs.declared.update.Event.TheVariants as event
use Rattle.cloud_base.specs.declared.update.Query.TheVariants as query
use Rattle.cloud_base.specs.declared.update.Update.TheVariants as update
use Rattle.typed_program.specs.declared.expression.Operator.{Operator}
use Rattle.typed_program.specs.declared.expression.Operator.TheVariants as op
use Rattle.typed_program.specs.Does.{Run, Does, ◌>>=◌, done, stop, tell, ask, begin, load, store, next_id}
use Rattle.typed_program.specs.Trace.{truth_of, int_of, id_of, key_of, value_of, wrapped, combine, change_of, start}
use Rattle.plain_vm.specs.declared.instruction.Literal.{Literal}
use Rattle.plain_vm.specs.declared.instruction.Binary.{Binary}
use Rattle.plain_vm.specs.declared.instruction.Instruction.{Instruction}

-- where a machine stands: the place of its next instruction, the values on its stack, the topmost
-- first, and of each open listing what is left, the newest first
pub record Standing : Type 0 where
  pub place : ℕ
  pub stack : List Answer
  pub listings : List Answer

-- it goes on from somewhere, or nowhere: it is stuck
abbrev pub Next : Type 0
Next = Does (Option Standing)

abbrev pub stuck : Next
stuck = done None

abbrev pub go_to : ℕ → List Answer → List Answer → Next
go_to place stack listings = done (Some (record { place = place; stack = stack; listings = listings }))

-- pops the topmost
abbrev pub pop : List Answer → (Answer → List Answer → Next) → Next
pop [] next = stuck
pop (a ∷ rest) next = next a rest

-- pops so many, which come before those that are popped already
abbrev pub pops : ℕ → List Answer → List Answer → (List Answer → List Answer → Next) → Next
pops zero popped stack next = next popped stack
pops (suc n) popped [] next = stuck
pops (suc n) popped (a ∷ rest) next = pops n (a ∷ popped) rest next

-- pushes each in order
abbrev pub push_all : {A : Type 0} → List A → List A → List A
push_all [] stack = stack
push_all (a ∷ rest) stack = push_all rest (a ∷ stack)

abbrev pub literal_value : Literal → Answer
literal_value (Literal.Int n) = answer.Int n
literal_value (Literal.Text bytes) = answer.Text bytes
literal_value (Literal.Truth b) = answer.Truth b

abbrev pub operator_of : Binary → Operator
operator_of Binary.Add = op.Add
operator_of Binary.Subtract = op.Subtract
operator_of Binary.Multiply = op.Multiply
operator_of Binary.Concat = op.Concat
operator_of (Binary.Divide line) = op.Divide
operator_of (Binary.Remainder line) = op.Remainder
operator_of Binary.Equal = op.Equal
operator_of Binary.NotEqual = op.NotEqual
operator_of Binary.Less = op.Less
operator_of Binary.LessOrEqual = op.LessOrEqual
operator_of Binary.Greater = op.Greater
operator_of Binary.GreaterOrEqual = op.GreaterOrEqual

-- the line at which it may end the run
abbrev pub line_of : Binary → ℕ
line_of (Binary.Divide line) = line
line_of (Binary.Remainder line) = line
line_of other = 0

-- the parts of the first item of a listing, and what is left of it
abbrev pub first_item : Answer → Option (List Answer × Answer)
first_item (answer.Ids (id ∷ ids)) = Some (answer.Id id ∷ [], answer.Ids ids)
first_item (answer.Tuples (keys ∷ tuples)) = Some (map value_of keys, answer.Tuples tuples)
first_item other = None

-- where the listing has an item, takes it and pushes its parts; else closes the listing and jumps
abbrev pub take_item : Option (List Answer × Answer) → ℕ → ℕ → List Answer → List Answer → Next
take_item None to place stack rest = go_to to stack rest
take_item (Some item) to place stack rest = go_to (suc place) (push_all item.0 stack) (item.1 ∷ rest)

-- what an instruction does at a place, with a stack and open listings. Keys are pushed in order
abbrev pub act : Instruction → ℕ → List Answer → List Answer → Next
act Instruction.Begin at st ls = begin >>= λ u. go_to (suc at) st ls
act (Instruction.Push literal) at st ls = go_to (suc at) (literal_value literal ∷ st) ls
act (Instruction.Load n) at st ls = load n >>= λ v. go_to (suc at) (v ∷ st) ls
act (Instruction.Store n) at st ls = pop st (λ v rest. store n v >>= λ u. go_to (suc at) rest ls)
act Instruction.Negate at st ls = pop st (λ v rest. go_to (suc at) (wrapped (neg_ℤ (int_of v)) ∷ rest) ls)
act Instruction.Not at st ls = pop st (λ v rest. go_to (suc at) (answer.Truth (not (truth_of v)) ∷ rest) ls)
act (Instruction.Binary binary) at st ls = pop st (λ b rest. pop rest (λ a below. combine (line_of binary) (operator_of binary) a b >>= λ v. go_to (suc at) (v ∷ below) ls))
act (Instruction.Jump to) at st ls = go_to to st ls
act (Instruction.JumpIfFalse to) at st ls = pop st (λ v rest. if truth_of v then go_to (suc at) rest ls else go_to to rest ls)
act (Instruction.Get property n) at st ls = pops n [] st (λ keys rest. ask (query.Get property (map key_of keys)) >>= λ v. go_to (suc at) (v ∷ rest) ls)
act Instruction.Alive at st ls = pop st (λ v rest. ask (query.Alive (id_of v)) >>= λ b. go_to (suc at) (b ∷ rest) ls)
act (Instruction.All entity) at st ls = ask (query.All entity) >>= λ listing. go_to (suc at) st (listing ∷ ls)
act (Instruction.Entries property) at st ls = ask (query.Entries property) >>= λ listing. go_to (suc at) st (listing ∷ ls)
act (Instruction.Next to n) at st ls = pop ls (λ listing rest. take_item (first_item listing) to at st rest)
act (Instruction.Put operation property n) at st ls = pop st (λ v rest. pops n [] rest (λ keys below. tell (event.Do (update.Cell property (map key_of keys) (change_of operation v))) >>= λ u. go_to (suc at) below ls))
act (Instruction.New entity n) at st ls = pops n [] st (λ keys rest. next_id >>= λ id. tell (event.Do (update.Create id entity (map key_of keys))) >>= λ u. go_to (suc at) (answer.Id id ∷ rest) ls)
act Instruction.Delete at st ls = pop st (λ v rest. tell (event.Do (update.Delete (id_of v))) >>= λ u. go_to (suc at) rest ls)
act Instruction.Say at st ls = pop st (λ v rest. tell (event.Say v) >>= λ u. go_to (suc at) rest ls)
act Instruction.Yield at st ls = tell event.Yield >>= λ u. go_to (suc at) st ls
act Instruction.Flush at st ls = tell event.Flush >>= λ u. go_to (suc at) st ls
act Instruction.End at st ls = stop Done

-- the instruction at a place, where there is one
abbrev pub act_at : Option Instruction → Standing → Next
act_at None standing = stuck
act_at (Some instruction) standing = act instruction standing.place standing.stack standing.listings

-- one instruction
abbrev pub step : List Instruction → Standing → Next
step code standing = act_at (slice_get code standing.place) standing

abbrev pub from_there : (Standing → Next) → Option Standing → Next
from_there next None = stuck
from_there next (Some standing) = next standing

-- so many instructions
abbrev pub exec : List Instruction → ℕ → Standing → Next
exec code zero standing = done (Some standing)
exec code (suc n) standing = step code standing >>= from_there (exec code n)

-- a machine begins at the first place
abbrev pub first : Standing
first = record { place = 0; stack = []; listings = [] }

-- so many instructions of a client's code, for the answers that it gets
abbrev pub run : List Instruction → ℕ → ℕ → List Answer → Run (Option Standing)
run code n client answers = exec code n first (start client answers)
