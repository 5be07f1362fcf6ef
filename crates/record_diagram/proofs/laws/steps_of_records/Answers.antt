-- The laws, from the theorem.
use Rattle.std.proofs.Common.{◌∙◌}
use Rattle.record_diagram.specs.SeenAt.{Passes}
use Rattle.record_diagram.proofs.Theorem.{laws_of_record, laws_of_any, answered_right}
use Rattle.record_diagram.proofs.ToldAll.{events_of_record}
use Rattle.record_diagram.proofs.Sounds.{fitting_record}
use Rattle.record_diagram.proofs.DidAll.{told_did, program_of}
use Rattle.record_diagram.proofs.FlushEnd.{flush_law_of_record}
use Rattle.record_diagram.proofs.Owned.{owned_record}
use Rattle.record_diagram.proofs.laws.steps_of_records.Goals as goal

pub returns-clause-lawful : goal.returns-clause-lawful
returns-clause-lawful c = λ batches tails ends sound. (laws_of_any batches tails (fitting_record batches tails ends sound)).lawful

pub returns-clause-once : goal.returns-clause-once
returns-clause-once c = λ batches tails ends sound. (laws_of_any batches tails (fitting_record batches tails ends sound)).once

pub returns-clause-placed : goal.returns-clause-placed
returns-clause-placed c = λ batches tails ends sound. (laws_of_any batches tails (fitting_record batches tails ends sound)).placed

pub returns-clause-at_marks : goal.returns-clause-at_marks
returns-clause-at_marks c = λ batches tails ends sound. (laws_of_any batches tails (fitting_record batches tails ends sound)).at_marks

pub returns-clause-line : goal.returns-clause-line
returns-clause-line c = λ batches tails ends sound k. (laws_of_any batches tails (fitting_record batches tails ends sound)).line k

pub returns-clause-told : goal.returns-clause-told
returns-clause-told c = λ batches tails ends sound k. events_of_record batches tails (fitting_record batches tails ends sound) k ∙ told_did batches tails (fitting_record batches tails ends sound) k

pub returns-clause-right : goal.returns-clause-right
returns-clause-right c = λ answers batches tails ends sound right. answered_right answers batches tails (fitting_record batches tails ends sound) right

pub returns-clause-seen : goal.returns-clause-seen
returns-clause-seen c = λ test batches tails ends sound right. (laws_of_record (Passes test) batches tails (fitting_record batches tails ends sound) right).right

pub returns-clause-owners : goal.returns-clause-owners
returns-clause-owners c = λ batches tails ends sound. owned_record batches tails (fitting_record batches tails ends sound)

pub returns-clause-program : goal.returns-clause-program
returns-clause-program c = λ trace batches tails ends sound traced. program_of trace batches tails ends (fitting_record batches tails ends sound) traced

pub returns-clause-flushed : goal.returns-clause-flushed
returns-clause-flushed c = λ batches tails ends sound flushed. flush_law_of_record batches tails (fitting_record batches tails ends sound) flushed
