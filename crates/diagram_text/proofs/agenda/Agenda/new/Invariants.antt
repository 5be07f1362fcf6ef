use Rattle.std.proofs.Common.{◌≡◌, ◌<◌, ℕ, [], length, Some}
use Rattle.std.specs.Prelude.{slice_get}
use Rattle.cloud_base.specs.declared.batch.Tail.{Tail}
use Rattle.record_diagram.specs.Steps.{next_base}
use Rattle.diagram_text.specs.Agendas.{base_at, count_at}
use Rattle.diagram_text.proofs.agenda.Agenda.new.Given as goal

abbrev pub invariant-loop-client : goal.invariant-loop-client
invariant-loop-client l = record {
  eight : length l.agenda.bases ≡ 8;
  counts : (k : ℕ) → count_at l.agenda k ≡ 0;
  bases : (k : ℕ) (tail : Tail) → k < l.client → slice_get l.history.tails k ≡ Some tail → base_at l.agenda k ≡ next_base l.history.batches [] tail k;
}
