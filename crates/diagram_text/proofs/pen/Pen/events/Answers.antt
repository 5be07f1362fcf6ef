-- Events, one after another.
use Rattle.std.proofs.Common.{◌≡◌, ◌∙◌, ◌+◌, ◌++◌, ◌∷◌, [], ap, sym, subst, refl, List, ℕ, take, get_or}
use Rattle.std.proofs.lemmas.List.{take_all, take_more}
use Rattle.cloud_base.specs.declared.update.Event.{Event}
use Rattle.record_diagram.specs.Steps.{Drawing, event_step, events_on, idle}
use Rattle.revision_diagram.specs.declared.step.Step.{Step}
use Rattle.diagram_text.specs.Pens.{drawing_of}
use Rattle.diagram_text.specs.Taken.{Drew}
use Rattle.diagram_text.proofs.Drawings.{Takes, drew_as, drew_event, drew_idle, slots}
use Rattle.diagram_text.proofs.pen.Pen.events.Goals as goal

pub loop-event-init : goal.loop-event-init
loop-event-init g c =
    let d : Drawing = drawing_of c.args.self.now in
    drew_as g.S.StepSink.took idle (events_on c.args.client []) c.args.sink.now d c.args.sink.now d refl (drew_idle g.S.StepSink.took c.args.sink.now d)

pub loop-event-preserved : goal.loop-event-preserved
loop-event-preserved g c =
    let took = g.S.StepSink.took in
    let d : Drawing = drawing_of c.args.self.now in
    let items : List Event = c.as_slice-event-items.result.now in
    let e : Event = c.event-item.result in
    let i : ℕ = c.loop-event.event-index in
    let s : ℕ = slots c.args.self.now.standing c.from.result in
    let longer : take (i + 1) items ≡ take i items ++ e ∷ [] = take_more items i e c.loop-event-test.true ∙ ap (λ (x : Event). take i items ++ x ∷ []) (sym c.event-item.is) in
    subst (λ (l : List Event). Drew took (events_on c.args.client l) c.args.sink.now d c.take.new.self d) (sym longer)
    (drew_event took c.args.client (take i items) e s c.args.sink.now c.loop-event.sink c.take.new.self d (ap (slots c.args.self.now.standing) c.from.ensures) c.loop-event.invariant
    (subst (λ (x : Step). Takes took c.loop-event.sink c.args.self.now.next x c.take.new.self) c.in_ok-event_step.ensures (λ first steps. c.in_ok-take.ensures first steps)))

pub returns : goal.returns
returns g c =
    let took = g.S.StepSink.took in
    let d : Drawing = drawing_of c.args.self.now in
    let items : List Event = c.as_slice-event-items.result.now in
    let all : take c.loop-event.event-index items ≡ c.args.events.now = take_all c.loop-event.event-index items c.loop-event-test.false ∙ c.as_slice-event-items.ensures in
    subst (λ (l : List Event). Drew took (events_on c.args.client l) c.args.sink.now d c.loop-event.sink d) all c.loop-event.invariant
