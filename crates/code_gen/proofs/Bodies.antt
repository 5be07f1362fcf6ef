-- The code of a body does what the body does.
use Rattle.std.proofs.Common.{◌≡◌, refl, sym, subst, ◌∙◌, lit≤}
use Rattle.std.specs.Prelude.{◌+◌, List, [], ◌∷◌, length, All, Option}
use Rattle.cloud_base.specs.declared.end.End.TheVariants.{Done}
use Rattle.cloud_base.specs.declared.schema.Schema.{Schema}
use Rattle.typed_program.specs.declared.statement.Statement.{Statement}
use Rattle.typed_program.specs.Does.{Run, goes, ends, stop, ◌>>=◌, then_by}
use Rattle.typed_program.specs.Kinds.{IsBody}
use Rattle.typed_program.specs.Laws.{events_of}
use Rattle.typed_program.specs.Shapes.{IsAnswered}
use Rattle.typed_program.specs.Trace.{does_body, start, come_out, budget}
use Rattle.typed_program.proofs.Orderly.{orderly_stop}
use Rattle.plain_vm.specs.declared.instruction.Instruction.{Instruction}
use Rattle.plain_vm.specs.declared.instruction.Instruction.TheVariants as i
use Rattle.plain_vm.specs.Exec.{Standing, Next}
use Rattle.code_gen.specs.Compile.{block_code, code_of}
use Rattle.code_gen.specs.Meaning.{Means}
use Rattle.code_gen.proofs.Parts.{Has, has_all, has_front, has_back}
use Rattle.code_gen.proofs.Performs.{Performs, ends_here}
use Rattle.code_gen.proofs.Statements.{block_renders}

abbrev ending : Next
ending = stop Done

-- behind the body comes the end
done_behind : (r : Run (Unit {0})) → then_by {A = Unit {0}} {B = Option Standing} r (λ u. ending) ≡ ends (come_out r).1 (come_out r).0
done_behind (goes u w) = refl
done_behind (ends outcome events) = refl

pub body_means : (schema : Schema) (body : List Statement) → IsBody schema body → Means schema (code_of schema body) body
body_means schema body kinded client answers h =
    let part : List Instruction = block_code schema body 0 in
    let code : List Instruction = code_of schema body in
    let has : Has code 0 code = has_all code in
    let finish : Has code (0 + length part) (i.End ∷ []) = has_back code 0 part (i.End ∷ []) has in
    let performs : Performs schema code budget 0 [] [] (does_body body >>= λ u. ending) =
    (block_renders schema code [] body kinded 0 []).by (has_front code 0 part (i.End ∷ []) has) budget (0 + length part) refl [] (λ u. ending) (λ u. orderly_stop Done) (λ u known. ends_here finish.0) in
    let e : then_by (does_body body (start client answers)) (λ u. ending) ≡ ends (come_out (does_body body (start client answers))).1 (come_out (does_body body (start client answers))).0 =
    done_behind (does_body body (start client answers)) in
    let r = performs.by (start client answers) (lit≤ tt) (subst (λ x. All (IsAnswered schema) (events_of x)) (sym e) h) in
    (r.0, r.1 ∙ e)
