-- That there is a record of each played run.
use Rattle.std.proofs.Common.{◌≡◌, refl, ap, sym, ◌∙◌, ℕ, zero, suc, ◌+◌, ◌*◌, ◌<◌, ◌≤◌, Bool, true, false, List, [], ◌∷◌, length, Option, Some, None, inl, inr, arith}
use Rattle.std.specs.Prelude.{map, is_some, slice_get, ◌⊎◌, ◌&&◌}
use Rattle.std.specs.List.{list_all}
use Rattle.std.proofs.lemmas.Bool.{cases_lt, true≢false}
use Rattle.cloud_base.specs.Events.{Outcome}
use Rattle.cloud_base.specs.declared.end.End.{End}
use Rattle.cloud_base.specs.declared.schedule.ScheduleItem.{ScheduleItem}
use Rattle.cloud_base.specs.declared.update.Answer.{Answer}
use Rattle.cloud_base.specs.declared.update.Event.{Event}
use Rattle.cloud_base.specs.declared.update.Query.{Query}
use Rattle.cloud_base.specs.declared.update.Update.{Update}
use Rattle.typed_program.specs.Widths.{most_events, greatest}
use Rattle.typed_program.specs.declared.program.Parts.{Parts}
use Rattle.typed_program.specs.declared.statement.Statement.{Statement}
use Rattle.typed_program.proofs.Bounds.{trace_bounded}
use Rattle.played_record.specs.Plays.{tails_of, ends_of, all_ended, after_sweeps}
use Rattle.played_record.specs.Programs.{trace_by, trace_of, most_of}
use Rattle.played_record.specs.Laws.{GoesOn, HasRecord}
use Rattle.played_record.proofs.Ending.{sweeps_end}

-- the least number that passes
record Least (test : ℕ → Bool) (most : ℕ) : Type 0 where
  number : ℕ
  within : number ≤ most
  passes : test number ≡ true
  first : (fewer : ℕ) → fewer < number → test fewer ≡ false

tested : (test : ℕ → Bool) (n : ℕ) (t : Bool) → test n ≡ t → ((k : ℕ) → k < n → test k ≡ false) → ((k : ℕ) → k < suc n → test k ≡ false) ⊎ Least test n
tested test n true e below = inr (record { number = n; within = omega arith; passes = e; first = below })
tested test n false e below = inl (λ k l. elim (cases_lt k n) [
  | inl less ↦ below k less
  | inr more ↦ let same : k ≡ n = omega arith in ap test same ∙ e
])

find_least : (test : ℕ → Bool) (n : ℕ) → ((k : ℕ) → k < n → test k ≡ false) ⊎ Least test n
find_least test zero = inl (λ k l. absurd (omega arith))
find_least test (suc n) = elim (find_least test n) [
  | inl below ↦ elim (tested test n (test n) refl below) [
    | inl all ↦ inl all
    | inr least ↦ inr (record { number = least.number; within = let l = least.within in omega arith; passes = least.passes; first = least.first })
  ]
  | inr least ↦ inr (record { number = least.number; within = let l = least.within in omega arith; passes = least.passes; first = least.first })
]

least_of : (test : ℕ → Bool) (n : ℕ) → test n ≡ true → Least test n
least_of test n e = elim (find_least test n) [
  | inl below ↦ record { number = n; within = omega arith; passes = e; first = below }
  | inr least ↦ least
]

-- ends that are all there
the_end : (end : Option End) → is_some end ≡ true → (e : End) × (end ≡ Some e)
the_end (Some e) h = (e, refl)
the_end None h = absurd (true≢false (sym h))

both : (a b : Bool) → a && b ≡ true → (a ≡ true) × (b ≡ true)
both true b e = (refl, e)
both false b e = absurd (true≢false (sym e))

the_ends : (ends : List (Option End)) → list_all is_some ends ≡ true → (es : List End) × (map Some es ≡ ends)
the_ends [] h = ([], refl)
the_ends (end ∷ ends) h =
    let parts = both (is_some end) (list_all is_some ends) h in
    let e = the_end end parts.0 in
    let es = the_ends ends parts.1 in
    (e.0 ∷ es.0, cc (e.1, es.1))

pub has_record : (answers : List Update → Query → Answer) (trace : ℕ → List Answer → List Event × Outcome) (schedule : List ScheduleItem) (n most : ℕ)
    → GoesOn trace → ((c : ℕ) (given : List Answer) → length (trace c given).0 ≤ most) → HasRecord answers trace schedule n (4 * most + 4)
has_record answers trace schedule n most g few =
    let least = least_of (λ count. all_ended n (after_sweeps answers trace schedule n count)) (4 * most + 4) (sweeps_end answers trace most schedule n g few) in
    let w = after_sweeps answers trace schedule n least.number in
    let ends = the_ends (ends_of n w) least.passes in
    record {
      batches = w.batches;
      tails = tails_of n w;
      ends = ends.0;
      played = record { count = least.number; least = least.first; batches_are = refl; tails_are = refl; ends_are = ends.1 };
      within = least.within;
    }

-- ---- programs

within_greatest : (bodies : List (List Statement)) (c : ℕ) (body : List Statement) → slice_get bodies c ≡ Some body → most_events body ≤ greatest (map most_events bodies)
within_greatest [] c body e = absurd (cc (e))
within_greatest (first ∷ bodies) zero body e = let same : first ≡ body = cc (e) in let m = ap most_events same in omega arith
within_greatest (first ∷ bodies) (suc c) body e = let l = within_greatest bodies c body e in omega arith

bounded_by : (bodies : List (List Statement)) (c : ℕ) (body : Option (List Statement)) → slice_get bodies c ≡ body → (given : List Answer)
    → length (trace_by c body given).0 ≤ greatest (map most_events bodies)
bounded_by bodies c None e given = omega arith
bounded_by bodies c (Some body) e given = let l = trace_bounded c body given in let m = within_greatest bodies c body e in omega arith

pub program_bounded : (p : Parts) (c : ℕ) (given : List Answer) → length (trace_of p c given).0 ≤ most_of p
program_bounded p c given = bounded_by p.bodies c (slice_get p.bodies c) refl given
