use Rattle.std.proofs.Common.{◌∙◌, ap}
use Rattle.code_gen.specs.Compile.{code_of}
use Rattle.code_gen.proofs.Clients.{reach_within, code_valid, is_compiled}
use Rattle.code_gen.proofs.compiler.compile.Goals as goal

pub instructions-requires : goal.instructions-requires
instructions-requires c = reach_within c.args.program.now c.args.client _ _ _ c.schema-schema.ensures.program c.body-body.ensures c.schema-schema.ensures.schema c.as_slice.ensures

pub new-requires : goal.new-requires
new-requires c =
    let code = c.in_ok-instructions.ensures ∙ ap (λ s. code_of s c.as_slice.result.now) c.schema-schema.ensures.schema ∙ ap (λ b. code_of c.args.program.now.schema b) c.as_slice.ensures in
    code_valid c.args.program.now c.args.client _ _ _ c.schema-schema.ensures.program c.body-body.ensures (c.in_ok-copy.ensures ∙ c.schema-schema.ensures.schema) code

pub returns : goal.returns
returns c =
    let code = c.in_ok-instructions.ensures ∙ ap (λ s. code_of s c.as_slice.result.now) c.schema-schema.ensures.schema ∙ ap (λ b. code_of c.args.program.now.schema b) c.as_slice.ensures in
    is_compiled c.args.program.now c.args.client _ c.new.result c.schema-schema.ensures.program c.body-body.ensures (c.new.ensures.schema ∙ c.in_ok-copy.ensures ∙ c.schema-schema.ensures.schema) (c.new.ensures.instructions ∙ code)
