use Rattle.code_machine.proofs.Examples.{lists_is_code}
use Rattle.code_machine.proofs.tests.code.Goals as goal

pub new-requires : goal.new-requires
new-requires c = lists_is_code _ _ c.in_ok-schema.ensures.properties c.in_ok-schema.ensures.entities c.in_ok-instructions.ensures
