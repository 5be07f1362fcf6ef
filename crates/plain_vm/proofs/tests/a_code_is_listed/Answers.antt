use Rattle.std.proofs.Common.{◌∙◌, ap, ◌++◌, ◌∷◌, [], pos}
use Rattle.plain_vm.specs.declared.instruction.Instruction.TheVariants.{Push, Say, End}
use Rattle.plain_vm.specs.declared.instruction.Literal.TheVariants.{Int}
use Rattle.plain_vm.proofs.ValidExamples.{says_is_code}
use Rattle.plain_vm.proofs.tests.a_code_is_listed.Goals as goal

pub new-code-requires : goal.new-code-requires
new-code-requires g c =
    says_is_code _ _ c.new.ensures c.new-2.ensures ((c.in_ok-push-3.ensures {u = tt}).ok ∙ ap (λ l. l ++ End ∷ []) ((c.in_ok-push-2.ensures {u = tt}).ok ∙ ap (λ l. l ++ Say ∷ []) ((c.in_ok-push.ensures {u = tt}).ok ∙ ap (λ l. l ++ Push (Int (pos 7)) ∷ []) c.new-instructions.ensures)))
