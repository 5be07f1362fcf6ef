use Rattle.std.proofs.Common.{◌≡◌, refl, sym, ap, ◌∙◌, subst}
use Rattle.std.specs.Prelude.{All, List}
use Rattle.std.specs.List.{insert}
use Rattle.cloud_base.specs.Answer.{answer}
use Rattle.cloud_base.specs.declared.schema.Schema.{Schema}
use Rattle.typed_program.specs.Shapes.{IsAnswered}
use Rattle.slot_hub.specs.Plain.{seen_of}
use Rattle.client_runner.specs.Steps.{Ran, did}
use Rattle.played_record.specs.Plays.{step}
use Rattle.played_record.specs.Programs.{trace_of}
use Rattle.played_moments.specs.Moments.{GoesOnAt}
use Rattle.cloud_play.specs.Playings.{Plays}
use Rattle.cloud_play.proofs.Answered.{answered_on}
use Rattle.cloud_play.proofs.Little.{few_rounds, few_updates}
use Rattle.cloud_play.proofs.Lists.{put_back, taken_out}
use Rattle.cloud_play.proofs.Moving.{plays_on, runs_now}
use Rattle.cloud_play.proofs.player.Player.step.Goals as goal

pub step-requires-clause-of : goal.step-requires-clause-of
step-requires-clause-of g c =
    let old = c.remove-runner.result in
    let is = taken_out c.args.self.now.runners.items c.args.client old c.requires.client c.remove-runner.ensures.value in
    c.requires.playing.plays.of_run c.args.client old is

pub step-requires-clause-few : goal.step-requires-clause-few
step-requires-clause-few g c =
    let old = c.remove-runner.result in
    let is = taken_out c.args.self.now.runners.items c.args.client old c.requires.client c.remove-runner.ensures.value in
    let h = c.requires.playing.plays in
    few_updates c.args.client old _ c.requires.playing.world (h.at.clients c.args.client old is)
    (c.clients_do_little.ensures.moments c.requires.playing.program c.requires.playing.world c.args.client h.moment) c.clients_do_little.ensures.updates

pub step-requires-clause-rounds : goal.step-requires-clause-rounds
step-requires-clause-rounds g c =
    let old = c.remove-runner.result in
    let is = taken_out c.args.self.now.runners.items c.args.client old c.requires.client c.remove-runner.ensures.value in
    let h = c.requires.playing.plays in
    few_rounds c.args.client old _ c.requires.playing.world (h.at.clients c.args.client old is) h.few
    (c.clients_do_little.ensures.moments c.requires.playing.program c.requires.playing.world c.args.client h.moment)

pub returns : goal.returns
returns g c = λ p w h.
    let runs = c.args.self.now.runners.items in
    let k = c.args.client in
    let old = c.remove-runner.result in
    let new = c.in_ok-runner.runner in
    let its = c.in_ok-runner.ensures in
    let holding = c.args.self.now.station.holding in
    let hub = seen_of g.N.Run.name c.args.self.now.hub in
    let hub' = seen_of g.N.Run.name c.step.new.hub in
    let trace = trace_of p in
    let is = taken_out runs k old c.requires.client c.remove-runner.ensures.value in
    let ran = h.ran k old is in
    let at = h.at.clients k old is in
    let compiled = h.each k old is in
    let goes_on = c.programs_are_traced.ensures.goes_on p in
    let by = runs_now c.needs_come_in_order.ensures p k old _ w compiled at h.moment goes_on (h.answered k old is) in
    let schema : old.stands.schema ≡ p.schema = sym ran.schema ∙ compiled.schema in
    let goes = subst (λ (s : Schema). GoesOnAt k new h.at.boxes holding holding hub hub' (step (answer s) trace k w)) schema
    (c.steps_are_played.ensures.own trace k w holding old new c.in_ok-runner.field-0-1 h.at.boxes hub hub' h.moment ran by h.at.told at its.steps its.code its.ended) in
    let w' = step (answer p.schema) trace k w in
    let told = subst (λ (s : Schema). All (IsAnswered s) (did new.stands)) compiled.schema
    (answered_on hub hub' old new c.in_ok-runner.field-0-1 ran its.steps (subst (λ (s : Schema). All (IsAnswered s) (did old.stands)) (sym compiled.schema) (h.answered k old is))) in
    let same : c.insert.new.self.items ≡ _ = c.in_ok-insert.ensures.items ∙ ap (λ (l : List Ran). insert l k new) c.remove-runner.ensures.items ∙ put_back runs k new c.requires.client in
    subst (λ (l : List Ran). Plays p l holding hub' w') (sym same)
    (plays_on p k old new runs holding holding hub hub' w w' h is goes h.at.batches (λ j run mail other a. c.steps_are_played.ensures.others (answer p.schema) trace k j run mail w other a)
    (c.moments_of_played_runs.ensures.step (answer p.schema) trace k w goes_on h.moment) (c.rounds_stay_few.ensures.step (answer p.schema) trace k w goes_on h.moment h.few)
    its.code told c.keeps.ensures its.of refl h.server h.serving h.holds)
