-- The whole law of a record's steps.
use Rattle.std.proofs.Common.{◌≡◌, ℕ, List, length, sym, subst, ◌∙◌, Some}
use Rattle.std.specs.Prelude.{slice_get}
use Rattle.cloud_base.specs.Answer.{answer}
use Rattle.cloud_base.specs.Events.{Outcome, ended}
use Rattle.cloud_base.specs.declared.batch.Batch.{Batch}
use Rattle.cloud_base.specs.declared.batch.Tail.{Tail}
use Rattle.cloud_base.specs.declared.end.End.{End}
use Rattle.cloud_base.specs.declared.schema.Schema.{Schema}
use Rattle.cloud_base.specs.declared.update.Answer.{Answer}
use Rattle.cloud_base.specs.declared.update.Event.{Event}
use Rattle.revision_diagram.specs.Headline.{AllOwned, Headline}
use Rattle.revision_diagram.specs.Meeting.{below_server}
use Rattle.revision_diagram.specs.Story.{ProgramLaw}
use Rattle.batch_history.specs.Flushed.{Flushed, Traced}
use Rattle.batch_history.specs.Right.{AnsweredRight}
use Rattle.batch_history.specs.Sound.{SoundRecord}
use Rattle.record_diagram.specs.Steps.{steps_of}
use Rattle.record_diagram.proofs.DidAll.{program_of}
use Rattle.record_diagram.proofs.Fitting.{FittingRecord}
use Rattle.record_diagram.proofs.FlushEnd.{flush_law_of_record}
use Rattle.record_diagram.proofs.Invariant.{Laws}
use Rattle.record_diagram.proofs.Owned.{owned_record}
use Rattle.record_diagram.proofs.Sounds.{fitting_record}
use Rattle.record_diagram.proofs.Theorem.{Any, laws_of_any, answered_right}

pub headline_of_record : (schema : Schema) (traces : List (List Answer → List Event × Outcome)) (trace : ℕ → List Answer → List Event × Outcome) (batches : List Batch) (tails : List Tail) (ends : List End) → SoundRecord batches tails ends → AnsweredRight (answer schema) batches tails → Flushed batches tails → Traced trace batches tails ends → length traces ≡ length tails
    → ((c : ℕ) (its : List Answer → List Event × Outcome) → slice_get traces c ≡ Some its → trace c ≡ its) → Headline schema below_server traces ends (steps_of batches tails)
headline_of_record schema traces trace batches tails ends sound right flushed traced count same =
    let fits : FittingRecord batches tails = fitting_record batches tails ends sound in
    let laws : Laws Any (steps_of batches tails) = laws_of_any batches tails fits in
    record {
      lawful = laws.lawful;
      right = answered_right (answer schema) batches tails fits right;
      once = laws.once;
      meeting = record { placed = laws.placed; at_marks = laws.at_marks; flushed = flush_law_of_record batches tails fits flushed };
      count = sound.count ∙ sym count;
      program = λ c its end there ends_there. subst (λ (t : List Answer → List Event × Outcome). ProgramLaw t (ended end) (steps_of batches tails) c) (same c its there) (program_of trace batches tails ends fits traced c end ends_there);
      line = laws.line;
      owners = subst (λ (n : ℕ). AllOwned below_server n (steps_of batches tails)) (sym count) (owned_record batches tails fits);
    }
