-- The code of a body is valid.
use Rattle.std.proofs.Common.{◌≡◌, refl, ap, lit≤}
use Rattle.std.specs.Prelude.{◌+◌, List, [], ◌∷◌, ◌++◌, length, Option, Some, None}
use Rattle.std.specs.List.{last_or}
use Rattle.cloud_base.specs.Shaped.{IsSchema}
use Rattle.cloud_base.specs.declared.schema.Schema.{Schema}
use Rattle.typed_program.specs.declared.statement.Statement.{Statement}
use Rattle.typed_program.specs.Kinds.{IsBody}
use Rattle.plain_vm.specs.declared.instruction.Instruction.{Instruction}
use Rattle.plain_vm.specs.declared.instruction.Instruction.TheVariants as i
use Rattle.plain_vm.specs.Valid.{Shape, Serves, Leads, IsCode, first_shape}
use Rattle.code_gen.specs.Compile.{block_code, code_of}
use Rattle.code_gen.proofs.Parts.{Has, has_all, has_front, has_back, has_moved}
use Rattle.code_gen.proofs.Slots.{none_some}
use Rattle.code_gen.proofs.Sound.{Sound, leads_served, serves_same, fine_append}
use Rattle.code_gen.proofs.ValidExpressions.{sees}
use Rattle.code_gen.proofs.ValidStatements.{block_sound}

last_of : (o : Option Instruction) (code : List Instruction) → last_or o (code ++ i.End ∷ []) ≡ Some i.End
last_of o [] = refl
last_of o (x ∷ code) = last_of (Some x) code

-- nothing is visible
abbrev nothing : Shape
nothing = sees [] [] []

-- at the start more is known
first_serves : Serves first_shape nothing
first_serves = record { stack = refl; slots = λ n kind e. none_some kind e; listings = refl }

pub body_valid : (schema : Schema) (body : List Statement) → IsSchema schema → IsBody schema body → IsCode schema (code_of schema body)
body_valid schema body sane kinded =
    let part : List Instruction = block_code schema body 0 in
    let s : Sound schema 0 part nothing nothing = block_sound schema [] (lit≤ tt) body kinded 0 [] [] in
    let all : List Shape = s.shapes ++ nothing ∷ [] in
    let has : Has all 0 all = has_all all in
    let first_has : Has all 0 s.shapes = has_front all 0 s.shapes (nothing ∷ []) has in
    let last_has : Has all (0 + length part) (nothing ∷ []) = has_moved all (0 + length s.shapes) (0 + length part) (nothing ∷ []) (ap (λ n. 0 + n) s.as_many) (has_back all 0 s.shapes (nothing ∷ []) has) in
    let finish : Leads all (0 + length part) nothing = (nothing, last_has.0, serves_same nothing) in (
      sane,
      all,
      record {
        begins = leads_served all 0 first_shape nothing first_serves (s.leads all first_has finish);
        fine = fine_append schema (code_of schema body) all 0 part (i.End ∷ []) s.shapes (nothing ∷ []) (s.fine (code_of schema body) all (has_front (code_of schema body) 0 part (i.End ∷ []) (has_all (code_of schema body))) first_has finish) (tt, tt, tt);
        last = last_of None part;
      },
    )
