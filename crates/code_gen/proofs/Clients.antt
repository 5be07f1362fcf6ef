-- The clients of a program.
use Rattle.std.proofs.Common.{◌≡◌, sym, ap, ◌∙◌, append_assoc, drop, subst, arith}
use Rattle.std.proofs.lemmas.Option.{same_Some}
use Rattle.std.specs.Prelude.{ℕ, zero, suc, ◌+◌, ◌≤◌, List, [], ◌∷◌, ◌++◌, Some, slice_get}
use Rattle.cloud_base.specs.declared.schema.Schema.{Schema}
use Rattle.typed_program.specs.Kinds.{IsBody, most_slots}
use Rattle.typed_program.specs.Programs.{IsProgram}
use Rattle.typed_program.specs.declared.program.Parts.{Parts}
use Rattle.typed_program.specs.declared.statement.Statement.{Statement}
use Rattle.typed_program.proofs.Bounds.{trace_bounded}
use Rattle.typed_program.proofs.Shaped.{all_at}
use Rattle.plain_vm.specs.Code.{CodeOf}
use Rattle.plain_vm.specs.Valid.{IsCode}
use Rattle.plain_vm.specs.declared.instruction.Instruction.{Instruction}
use Rattle.code_gen.specs.Compile.{code_of}
use Rattle.code_gen.specs.Compiled.{Compiled}
use Rattle.code_gen.specs.Listings.{IsListed, clients_text, client_text}
use Rattle.code_gen.specs.Meaning.{Means}
use Rattle.code_gen.specs.Reach.{block_reach}
use Rattle.code_gen.proofs.Bodies.{body_means}
use Rattle.code_gen.proofs.Reaches.{block_within}
use Rattle.code_gen.proofs.Slots.{none_some}
use Rattle.code_gen.proofs.ValidBodies.{body_valid}

body_kinded : (p : Parts) (client : ℕ) (body : List Statement) → IsProgram p → slice_get p.bodies client ≡ Some body → IsBody p.schema body
body_kinded p client body is there = all_at (IsBody p.schema) p.bodies client body is.bodies there

pub reach_within : (p : Parts) (client : ℕ) (body block : List Statement) (schema : Schema) → IsProgram p → slice_get p.bodies client ≡ Some body → schema ≡ p.schema → block ≡ body → block_reach schema block ≤ most_slots
reach_within p client body block schema is there s e =
    subst (λ x. block_reach x block ≤ most_slots) (sym s) (subst (λ b. block_reach p.schema b ≤ most_slots) (sym e) (block_within p.schema [] body (body_kinded p client body is there)))

pub code_valid : (p : Parts) (client : ℕ) (body : List Statement) (schema : Schema) (code : List Instruction) → IsProgram p → slice_get p.bodies client ≡ Some body → schema ≡ p.schema → code ≡ code_of p.schema body → IsCode schema code
code_valid p client body schema code is there s e =
    subst (λ x. IsCode x code) (sym s) (subst (λ c. IsCode p.schema c) (sym e) (body_valid p.schema body is.schema (body_kinded p client body is there)))

pub is_compiled : (p : Parts) (client : ℕ) (body : List Statement) (code : CodeOf) → IsProgram p → slice_get p.bodies client ≡ Some body → code.schema ≡ p.schema → code.instructions ≡ code_of p.schema body → Compiled p client code
is_compiled p client body code is there s e = record {
  body = body;
  of_client = there;
  schema = s;
  instructions = e;
  means = subst (λ c. Means p.schema c body) (sym e) (body_means p.schema body (body_kinded p client body is there));
  bounded = λ number answers. trace_bounded number body answers;
}

drop_at : {A : Type 0} (xs : List A) (at : ℕ) (x : A) → slice_get xs at ≡ Some x → drop at xs ≡ x ∷ drop (at + 1) xs
drop_at [] at x there = none_some x there
drop_at (y ∷ xs) zero x there = ap (λ z. z ∷ xs) (same_Some _ _ there)
drop_at (y ∷ xs) (suc at) x there =
    let next : suc at + 1 ≡ suc (at + 1) = omega arith in
    drop_at xs at x there ∙ ap (λ n. x ∷ drop n (y ∷ xs)) (sym next)

-- a client, and those behind it
pub client_listed : (p : Parts) (client : ℕ) (old new all : List ℕ) → IsListed p client old new → old ++ clients_text p.schema (drop client p.names) (drop client p.bodies) ≡ all
    → new ++ clients_text p.schema (drop (client + 1) p.names) (drop (client + 1) p.bodies) ≡ all
client_listed p client old new all h e =
    let rest : List ℕ = clients_text p.schema (drop (client + 1) p.names) (drop (client + 1) p.bodies) in
    let names : drop client p.names ≡ h.name ∷ drop (client + 1) p.names = drop_at p.names client h.name h.named in
    let bodies : drop client p.bodies ≡ h.body ∷ drop (client + 1) p.bodies = drop_at p.bodies client h.body h.of_client in
    ap (λ l. l ++ rest) h.text ∙ append_assoc old (client_text p.schema h.name h.body) rest
    ∙ sym (ap (λ ns. old ++ clients_text p.schema ns (drop client p.bodies)) names ∙ ap (λ bs. old ++ clients_text p.schema (h.name ∷ drop (client + 1) p.names) bs) bodies) ∙ e
