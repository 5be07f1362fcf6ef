-- What a client does in a sweep, and what the items of a schedule do one after another.
use Rattle.std.proofs.Common.{◌≡◌, refl}
use Rattle.std.specs.Prelude.{ℕ, List, [], ◌∷◌, ◌++◌, Option, Some, None, is_some, false}
use Rattle.cloud_base.specs.Events.{Outcome}
use Rattle.cloud_base.specs.declared.end.End.{End}
use Rattle.cloud_base.specs.declared.schedule.Fate.TheVariants.{Pass}
use Rattle.cloud_base.specs.declared.schedule.ScheduleItem.{ScheduleItem}
use Rattle.cloud_base.specs.declared.update.Answer.{Answer}
use Rattle.cloud_base.specs.declared.update.Event.{Event}
use Rattle.cloud_base.specs.declared.update.Query.{Query}
use Rattle.cloud_base.specs.declared.update.Update.{Update}
use Rattle.played_record.specs.Plays.{item_done, scheduled, step, swept_at}
use Rattle.played_record.specs.Worlds.{World, served}

-- one that hasn't ended steps and is served
pub swept_none : (answers : List Update → Query → Answer) (trace : ℕ → List Answer → List Event × Outcome) (end : Option End) (c : ℕ) (w : World) → is_some end ≡ false
    → swept_at answers trace end c w ≡ served c Pass (step answers trace c w)
swept_none answers trace None c w e = refl
swept_none answers trace (Some end) c w e = absurd (cc e)

-- a last item is done behind those before it
pub scheduled_more : (answers : List Update → Query → Answer) (trace : ℕ → List Answer → List Event × Outcome) (items : List ScheduleItem) (item : ScheduleItem) (w : World)
    → scheduled answers trace (items ++ item ∷ []) w ≡ item_done answers trace item (scheduled answers trace items w)
scheduled_more answers trace [] item w = refl
scheduled_more answers trace (x ∷ items) item w = scheduled_more answers trace items item (item_done answers trace x w)
