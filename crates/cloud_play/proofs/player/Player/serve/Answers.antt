use Rattle.std.proofs.Common.{refl, subst}
use Rattle.std.specs.Prelude.{List}
use Rattle.slot_hub.specs.Plain.{seen_of}
use Rattle.client_runner.specs.Steps.{Ran}
use Rattle.played_record.specs.Programs.{trace_of}
use Rattle.played_record.specs.Worlds.{served}
use Rattle.cloud_play.specs.Playings.{Plays}
use Rattle.cloud_play.proofs.Lists.{as_it_was, is_there}
use Rattle.cloud_play.proofs.Moving.{plays_on}
use Rattle.cloud_play.proofs.player.Player.serve.Goals as goal

pub returns : goal.returns
returns g c = λ p w h.
    let runs = c.args.self.now.runners.items in
    let k = c.args.client in
    let fate = c.args.fate in
    let found = is_there runs k c.requires.client in
    let run = found.0 in
    let is = found.1 in
    let old = c.args.self.now.station.holding in
    let new = c.serve.new.self.holding in
    let hub = seen_of g.N.Run.name c.args.self.now.hub in
    let hub' = seen_of g.N.Run.name c.serve.new.hub in
    let trace = trace_of p in
    let both = c.serves_are_played.ensures.own trace k fate c.in_ok-serve.field-0 w run old new h.at.boxes hub hub' h.moment (h.ran k run is) h.holds h.at.told h.at.batches (h.at.clients k run is)
    c.serve.ensures.others c.in_ok-serve.ensures.ok in
    subst (λ (l : List Ran). Plays p l new hub' (served k fate w)) (as_it_was runs k run is)
    (plays_on p k run run runs old new hub hub' w (served k fate w) h is both.0 both.1 (λ j a mail other at. c.serves_are_played.ensures.others trace k j fate a mail w h.moment other at)
    (c.moments_of_played_runs.ensures.serve trace k fate w h.moment) (c.rounds_stay_few.ensures.serve trace k fate w h.moment h.few)
    refl (h.answered k run is) (h.ran k run is) (h.of_run k run is) refl c.serve.ensures.of c.keeps.ensures.serving c.keeps.ensures.holding)
