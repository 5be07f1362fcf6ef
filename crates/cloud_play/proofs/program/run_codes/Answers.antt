use Rattle.std.proofs.Common.{◌≡◌, ◌∙◌, refl, sym, ap, subst, ℕ, ◌<◌, ◌≤◌, List}
use Rattle.std.specs.Prelude.{Option, Some, None, replicate, slice_get}
use Rattle.cloud_base.specs.Values.{most_clients}
use Rattle.cloud_base.specs.declared.batch.Batch.{Batch}
use Rattle.front_table.specs.TokenView.{TokenView}
use Rattle.plain_vm.specs.Code.{CodeOf}
use Rattle.server_core.specs.Servers.{Serving}
use Rattle.client_runner.specs.Steps.{IsRan, Ran}
use Rattle.cloud_play.specs.Openings.{AreOpened}
use Rattle.cloud_play.proofs.Lists.{in_range, is_there}
use Rattle.cloud_play.proofs.program.run_codes.Goals as goal

all_ran : (codes : List CodeOf) (front : TokenView Batch) (runs : List Ran) → AreOpened codes front runs → (c : ℕ) (run : Ran) → slice_get runs c ≡ Some run → IsRan run
all_ran codes front runs h c run is =
    let found = is_there codes c (subst (λ (n : ℕ). c < n) h.count (in_range runs c run is)) in
    (h.each c found.0 run found.1 is).ran

pub open_all-requires-clause-schema : goal.open_all-requires-clause-schema
open_all-requires-clause-schema c = λ k code is. (c.requires.each k code is).schema ∙ sym c.schema-schema.ensures.schema

pub open_all-requires-clause-few : goal.open_all-requires-clause-few
open_all-requires-clause-few c = subst (λ (n : ℕ). n ≤ most_clients) (sym c.requires.count) c.schema-schema.ensures.program.few_clients

pub play-requires-clause-name : goal.play-requires-clause-name
play-requires-clause-name c = refl

pub play-requires-clause-begun : goal.play-requires-clause-begun
play-requires-clause-begun c =
    let same = c.open_all.ensures.same in
    let codes = c.args.codes.now in
    let opened = c.in_ok-runners.ensures.opened in
    let runs = c.in_ok-runners.runners.items in
    let its = c.in_ok-server.ensures in
    record {
      program = c.schema-schema.ensures.program;
      codes = codes;
      of_program = c.requires;
      runners = subst (λ (s : Serving). AreOpened codes s.joined runs) (sym same) opened;
      ran = all_ran codes c.in_ok-server.server.joined runs opened;
      schema = ap (λ (s : Serving). s.schema) same ∙ its.schema ∙ c.schema-schema.ensures.schema;
      none_joined = ap (λ (s : Serving). s.joined.list) same ∙ its.joined;
      owns = ap (λ (s : Serving). s.owns) same ∙ its.owns ∙ ap (λ (n : ℕ). replicate {A = Option (TokenView Batch)} n None) c.clients.ensures.clients;
      serving = c.keeps.ensures;
    }
