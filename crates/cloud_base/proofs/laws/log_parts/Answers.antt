use Rattle.cloud_base.proofs.LogLemmas.{of_cell_parts, touched_parts, created_parts, creation_parts, deleted_parts}
use Rattle.cloud_base.proofs.laws.log_parts.Goals as goal

pub returns : goal.returns
returns c = record { changes = of_cell_parts; touched = touched_parts; created = created_parts; creation = creation_parts; deleted = deleted_parts }
