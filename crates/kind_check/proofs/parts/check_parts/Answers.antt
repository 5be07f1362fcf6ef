use Rattle.std.proofs.Common.{[], map, rules, subst, sym, ap, ◌∙◌}
use Rattle.std.specs.List.{AllByRecursion, flat_map}
use Rattle.source_tree.specs.Words.{client_words}
use Rattle.kind_declarations.specs.Checks.{Refuses}
use Rattle.kind_rules.specs.Programs.{at_lines, client_names, items_of, settle_clients, turn_rules}
use Rattle.kind_rules.specs.Words.{IsFitWord}
use Rattle.kind_check.specs.Faults.{TellsFault}
use Rattle.kind_check.proofs.Together.{are_declared, are_settled, are_turns, refused, client_told, turn_told, no_fault, same_parts, client_words_fit}
use Rattle.kind_check.proofs.parts.check_parts.Goals as goal

pub returns-in_err-declared : goal.returns-in_err-declared
returns-in_err-declared c =
    let tells : TellsFault (items_of c.args.program.now c.args.lines.now) c.in_err-declared.field-0.0 =
    refused c.args.program.now c.args.lines.now c.in_err-declared.field-0.0 (subst (λ ds. Refuses ds c.args.lines.now c.in_err-declared.field-0.0) c.as_slice.ensures c.in_err-declared.ensures) in
    search rules

pub check_clients-requires : goal.check_clients-requires
check_clients-requires c =
    subst (λ cs. AllByRecursion IsFitWord (flat_map client_words cs)) (sym c.as_slice-clients.ensures) (client_words_fit c.args.program.now (c.words_are_fit.ensures c.args.program.now c.requires))

pub returns-in_err-bodies : goal.returns-in_err-bodies
returns-in_err-bodies c =
    let d = are_declared c.args.program.now c.args.lines.now c.in_ok-declared.declared c.in_ok-declared.rest.now c.as_slice.result.now c.as_slice.ensures c.in_ok-declared.ensures in
    let tells : TellsFault (items_of c.args.program.now c.args.lines.now) c.in_err-bodies.field-0.0 =
    client_told c.args.program.now c.args.lines.now c.in_ok-declared.declared c.in_ok-declared.rest.now c.in_err-bodies.field-0.0 d
    (subst (λ cs. TellsFault (settle_clients c.in_ok-declared.declared [] cs c.in_ok-declared.rest.now).items c.in_err-bodies.field-0.0) c.as_slice-clients.ensures c.in_err-bodies.ensures) in
    search rules

pub returns-in_err-schedule : goal.returns-in_err-schedule
returns-in_err-schedule c =
    let d = are_declared c.args.program.now c.args.lines.now c.in_ok-declared.declared c.in_ok-declared.rest.now c.as_slice.result.now c.as_slice.ensures c.in_ok-declared.ensures in
    let s = are_settled c.args.program.now c.args.lines.now c.in_ok-declared.declared c.in_ok-declared.rest.now c.in_ok-bodies.bodies c.in_ok-bodies.rest.now c.as_slice-clients.result.now d c.as_slice-clients.ensures c.in_ok-bodies.ensures in
    let tells : TellsFault (items_of c.args.program.now c.args.lines.now) c.in_err-schedule.field-0.0 =
    turn_told c.args.program.now c.args.lines.now c.in_ok-bodies.bodies c.in_ok-bodies.rest.now c.in_err-schedule.field-0.0 s
    (subst (λ items. TellsFault (at_lines c.in_ok-bodies.rest.now (map (turn_rules (client_names c.args.program.now.clients)) items)) c.in_err-schedule.field-0.0) c.items_in.ensures
    (subst (λ cs. TellsFault (at_lines c.in_ok-bodies.rest.now (map (turn_rules (client_names cs)) c.items_in.result.now)) c.in_err-schedule.field-0.0) c.as_slice-clients.ensures c.in_err-schedule.ensures)) in
    search rules

pub returns : goal.returns
returns c =
    let d = are_declared c.args.program.now c.args.lines.now c.in_ok-declared.declared c.in_ok-declared.rest.now c.as_slice.result.now c.as_slice.ensures c.in_ok-declared.ensures in
    let s = are_settled c.args.program.now c.args.lines.now c.in_ok-declared.declared c.in_ok-declared.rest.now c.in_ok-bodies.bodies c.in_ok-bodies.rest.now c.as_slice-clients.result.now d c.as_slice-clients.ensures c.in_ok-bodies.ensures in
    let turns = are_turns c.args.program.now c.in_ok-bodies.rest.now c.in_ok-schedule.schedule c.as_slice-clients.result.now c.items_in.result.now c.as_slice-clients.ensures c.items_in.ensures c.in_ok-schedule.ensures in (
      no_fault c.args.program.now c.args.lines.now c.in_ok-bodies.bodies c.in_ok-bodies.rest.now s turns.0,
      same_parts c.args.program.now c.args.lines.now c.in_ok-declared.declared c.in_ok-declared.rest.now c.into_schema.result c.in_ok-client_names.field-0 c.in_ok-bodies.bodies c.in_ok-schedule.schedule d c.into_schema.ensures (c.in_ok-client_names.ensures ∙ ap client_names c.as_slice-clients.ensures) s.typed turns.1,
    )
