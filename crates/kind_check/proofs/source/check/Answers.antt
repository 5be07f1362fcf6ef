use Rattle.std.proofs.Common.{◌≡◌, None, rules, subst, ◌∙◌}
use Rattle.kind_rules.specs.Answers.{first_fault}
use Rattle.kind_rules.specs.Programs.{items_of, typed}
use Rattle.kind_check.specs.Faults.{TellsFault}
use Rattle.kind_check.proofs.source.check.Goals as goal

pub returns-in_err-parts : goal.returns-in_err-parts
returns-in_err-parts c =
    let tells : TellsFault (items_of c.args.source.tree c.args.source.lines) c.in_err-parts.field-0.0 =
    subst (λ lines. TellsFault (items_of c.args.source.tree lines) c.in_err-parts.field-0.0) c.as_slice.ensures
    (subst (λ p. TellsFault (items_of p c.as_slice.result.now) c.in_err-parts.field-0.0) c.into_program-program.ensures.program c.in_err-parts.ensures) in
    search rules

pub returns : goal.returns
returns c =
    let parts = subst (λ lines. (first_fault (items_of c.args.source.tree lines) ≡ None) × (c.in_ok-parts.parts ≡ typed c.args.source.tree lines)) c.as_slice.ensures
    (subst (λ p. (first_fault (items_of p c.as_slice.result.now) ≡ None) × (c.in_ok-parts.parts ≡ typed p c.as_slice.result.now)) c.into_program-program.ensures.program c.in_ok-parts.ensures) in
    (parts.0, c.new.ensures ∙ parts.1)
