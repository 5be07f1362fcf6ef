use Rattle.code_machine.proofs.state.+pop_keys.Given as goal

abbrev pub decreases-pop_keys : goal.decreases-pop_keys
decreases-pop_keys l = l.count
