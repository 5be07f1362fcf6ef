-- What the clients of a record did is of the schema's shape, one batch after another.
use Rattle.std.proofs.Common.{◌≡◌, ◌∙◌, refl, sym, ap, subst, arith, ℕ, zero, suc, ◌<◌, List, [], ◌∷◌, ◌++◌, length, Option, Some, None, append_assoc, inl, inr}
use Rattle.std.specs.Prelude.{All, map, slice_get}
use Rattle.std.specs.List.{AllByRecursion}
use Rattle.std.proofs.lemmas.Bool.{cases_eq}
use Rattle.std.proofs.lemmas.List.{map-append}
use Rattle.std.proofs.lemmas.List.Elements.{All-from_recursion}
use Rattle.std.proofs.lemmas.Option.{slice_get_cases}
use Rattle.cloud_base.specs.Answer.{answer}
use Rattle.cloud_base.specs.Events.{updates_of}
use Rattle.cloud_base.specs.Shaped.{IsShaped, IsShapedAnswer, IsShapedEvent, IsShapedQuery}
use Rattle.cloud_base.specs.declared.batch.Batch.{Batch}
use Rattle.cloud_base.specs.declared.batch.Tail.{Tail}
use Rattle.cloud_base.specs.declared.end.End.{End}
use Rattle.cloud_base.specs.declared.schema.Schema.{Schema}
use Rattle.cloud_base.specs.declared.update.Event.{Event}
use Rattle.cloud_base.specs.declared.update.Event.TheVariants.{Do, Ask, Say, Yield, Flush}
use Rattle.cloud_base.specs.declared.update.Query.{Query}
use Rattle.cloud_base.specs.declared.update.Update.{Update}
use Rattle.batch_history.specs.Batches.{all_events, did, did_by, events_in, flat, last_seen, of_client, seen_after, stretch_of, unjoined, updates_in}
use Rattle.batch_history.specs.Right.{IsThatOf, RightBehind, RightEvents, RightRecord, RightTail}
use Rattle.batch_history.specs.Sound.{EachFrom, SoundRecord}
use Rattle.batch_history.proofs.Clients.{of_client-append, of_client-here, of_client-else}
use Rattle.record_diagram.proofs.Tails.{none_left, open_one, sent_cases}
use Rattle.diagram_text.proofs.Cuts.{Follows, Shaped}
use Rattle.diagram_text.proofs.Fits.{ShapedBatch, all_events-append, both_parts, did_is, first_part, second_part, left_of, own_of}

-- a log of the schema's shape answers in shape
abbrev pub Answering : Type 0
Answering = (schema : Schema) (log : List Update) (query : Query) → All (IsShaped schema) log → IsShapedQuery schema query → IsShapedAnswer schema query (answer schema log query)

module _ (answering : Answering) (schema : Schema) where
  abbrev Log : List Update → Type 0
  Log = AllByRecursion (IsShaped schema)

  abbrev Is : List Update → List Event → Type 0
  Is = RightEvents (IsThatOf (answer schema))

  -- a cut one event later
  later : (whole before : List Event) (e : Event) (events rest : List Event) → whole ≡ before ++ (e ∷ events ++ rest) → whole ≡ (before ++ e ∷ []) ++ (events ++ rest)
  later whole before e events rest split = split ∙ sym (append_assoc before (e ∷ []) (events ++ rest))

  one_more : (before : List Event) (e : Event) → Shaped schema before → IsShapedEvent schema e → Shaped schema (before ++ e ∷ [])
  one_more before e is now = both_parts (IsShapedEvent schema) before (e ∷ []) is (now, tt)

  -- events that are answered right over a shaped log
  walk : (whole before events rest : List Event) (seen : List Update) → Follows schema whole → whole ≡ before ++ (events ++ rest) → Shaped schema before → Log seen → Is seen events → Shaped schema events
  walk whole before [] rest seen follows split is log right = tt
  walk whole before (Do u ∷ events) rest seen follows split is log right =
      let now : IsShaped schema u = follows before (Do u) (events ++ rest) split is in
      (now, walk whole (before ++ Do u ∷ []) events rest (seen ++ u ∷ []) follows (later whole before (Do u) events rest split) (one_more before (Do u) is now) (both_parts (IsShaped schema) seen (u ∷ []) log (now, tt)) right)
  walk whole before (Ask q a ∷ events) rest seen follows split is log right =
      let query : IsShapedQuery schema q = follows before (Ask q a) (events ++ rest) split is in
      let got : IsShapedAnswer schema q a = subst (IsShapedAnswer schema q) (sym right.0) (answering schema seen q (All-from_recursion (IsShaped schema) seen log) query) in
      ((query, got), walk whole (before ++ Ask q a ∷ []) events rest seen follows (later whole before (Ask q a) events rest split) (one_more before (Ask q a) is (query, got)) log right.1)
  walk whole before (Say v ∷ events) rest seen follows split is log right =
      let now : IsShapedEvent schema (Say v) = follows before (Say v) (events ++ rest) split is in
      (now, walk whole (before ++ Say v ∷ []) events rest seen follows (later whole before (Say v) events rest split) (one_more before (Say v) is now) log right)
  walk whole before (Yield ∷ events) rest seen follows split is log right = (tt, walk whole (before ++ Yield ∷ []) events rest seen follows (later whole before Yield events rest split) (one_more before Yield is tt) log right)
  walk whole before (Flush ∷ events) rest seen follows split is log right = (tt, walk whole (before ++ Flush ∷ []) events rest seen follows (later whole before Flush events rest split) (one_more before Flush is tt) log right)

  -- ---- logs
  updates_shaped : (events : List Event) → Shaped schema events → Log (updates_of events)
  updates_shaped [] is = tt
  updates_shaped (Do u ∷ events) is = (is.0, updates_shaped events is.1)
  updates_shaped (Ask q a ∷ events) is = updates_shaped events is.1
  updates_shaped (Say v ∷ events) is = updates_shaped events is.1
  updates_shaped (Yield ∷ events) is = updates_shaped events is.1
  updates_shaped (Flush ∷ events) is = updates_shaped events is.1

  in_shaped : (b : Batch) → ShapedBatch schema b → Log (updates_in b)
  in_shaped b is = both_parts (IsShaped schema) (updates_of b.before) (updates_of b.rest) (updates_shaped b.before (first_part (IsShapedEvent schema) b.before b.rest is)) (updates_shaped b.rest (second_part (IsShapedEvent schema) b.before b.rest is))

  abbrev Batches : List Batch → Type 0
  Batches = AllByRecursion (ShapedBatch schema)

  flat_shaped : (batches : List Batch) (n : ℕ) → Batches batches → Log (flat batches n)
  flat_shaped [] n is = tt
  flat_shaped (b ∷ batches) zero is = tt
  flat_shaped (b ∷ batches) (suc n) is = both_parts (IsShaped schema) (updates_in b) (flat batches n) (in_shaped b is.0) (flat_shaped batches n is.1)

  last_shaped : (batches : List Batch) (seen : List Update) (own : List Batch) → Batches batches → Log seen → Batches own → Log (last_seen batches seen own)
  last_shaped batches seen [] are log is = log
  last_shaped batches seen (b ∷ own) are log is =
      last_shaped batches (seen_after batches b) own are (both_parts (IsShaped schema) (flat batches b.base) (updates_in b) (flat_shaped batches b.base are) (in_shaped b is.0)) is.1

  of_client_shaped : (c : ℕ) (batches : List Batch) → Batches batches → Batches (of_client c batches)
  of_client_shaped c [] is = tt
  of_client_shaped c (b ∷ batches) is = elim (cases_eq b.client c) [
    | inl mine ↦ subst Batches (sym (of_client-here c b batches mine)) (is.0, of_client_shaped c batches is.1)
    | inr other ↦ subst Batches (sym (of_client-else c b batches other)) (of_client_shaped c batches is.1)
  ]

  events_shaped : (own : List Batch) → Batches own → Shaped schema (all_events (map stretch_of own))
  events_shaped [] is = tt
  events_shaped (b ∷ own) is = both_parts (IsShapedEvent schema) (b.before ++ b.rest) (all_events (map stretch_of own)) is.0 (events_shaped own is.1)

  -- ---- a stretch: what ran before the pull, and since
  stretch_shaped : (whole earlier before since rest : List Event) (seen pulled : List Update) → Follows schema whole → whole ≡ earlier ++ ((before ++ since) ++ rest) → Shaped schema earlier → Log seen → Is seen before
      → (Shaped schema before → Log pulled) → Is pulled since → Shaped schema (before ++ since)
  stretch_shaped whole earlier before since rest seen pulled follows split is log right then_ since_right =
      let split_first : whole ≡ earlier ++ (before ++ (since ++ rest)) = split ∙ ap (λ (l : List Event). earlier ++ l) (append_assoc before since rest) in
      let first : Shaped schema before = walk whole earlier before (since ++ rest) seen follows split_first is log right in
      let split_second : whole ≡ (earlier ++ before) ++ (since ++ rest) = split_first ∙ sym (append_assoc earlier before (since ++ rest)) in
      let second : Shaped schema since = walk whole (earlier ++ before) since rest pulled follows split_second (both_parts (IsShapedEvent schema) earlier before is first) (then_ first) since_right in
      both_parts (IsShapedEvent schema) before since first second

  -- a batch behind shaped ones
  batch_shaped : (whole earlier rest : List Event) (front : List Batch) (b : Batch) → Follows schema whole → whole ≡ earlier ++ ((b.before ++ b.rest) ++ rest) → Shaped schema earlier → Batches front → RightBehind (IsThatOf (answer schema)) front b → ShapedBatch schema b
  batch_shaped whole earlier rest front b follows split is are right =
      stretch_shaped whole earlier b.before b.rest rest (last_seen front [] (of_client b.client front)) (flat front b.base ++ updates_of b.before) follows split is
      (last_shaped front [] (of_client b.client front) are tt (of_client_shaped b.client front are)) right.before
      (λ first. both_parts (IsShaped schema) (flat front b.base) (updates_of b.before) (flat_shaped front b.base are) (updates_shaped b.before first)) right.rest

  -- where a batch stands in what its client did
  batch_at : (batches front rest : List Batch) (b : Batch) (more : List Event) → batches ≡ front ++ b ∷ rest → own_of batches b.client ++ more ≡ own_of front b.client ++ ((b.before ++ b.rest) ++ (own_of rest b.client ++ more))
  batch_at batches front rest b more cut =
      let c : ℕ = b.client in
      let own : of_client c batches ≡ of_client c front ++ b ∷ of_client c rest = ap (of_client c) cut ∙ of_client-append c front (b ∷ rest) ∙ ap (λ (l : List Batch). of_client c front ++ l) (of_client-here c b rest refl) in
      let told : own_of batches c ≡ own_of front c ++ ((b.before ++ b.rest) ++ own_of rest c) =
      ap (λ (l : List Batch). all_events (map stretch_of l)) own
      ∙ ap all_events (map-append stretch_of (of_client c front) (b ∷ of_client c rest))
      ∙ all_events-append (map stretch_of (of_client c front)) (map stretch_of (b ∷ of_client c rest)) in
      ap (λ (l : List Event). l ++ more) told
      ∙ append_assoc (own_of front c) ((b.before ++ b.rest) ++ own_of rest c) more
      ∙ ap (λ (l : List Event). own_of front c ++ l) (append_assoc (b.before ++ b.rest) (own_of rest c) more)

  -- all batches
  batches_shaped : (batches : List Batch) (tails : List Tail) (front rest : List Batch) → ((c : ℕ) → c < length tails → Follows schema (did batches tails c)) → batches ≡ front ++ rest → AllByRecursion (λ (b : Batch). b.client < length tails) rest → Batches front → EachFrom (RightBehind (IsThatOf (answer schema))) front rest → Batches rest
  batches_shaped batches tails front [] follows cut mine are right = tt
  batches_shaped batches tails front (b ∷ rest) follows cut mine are right = elim (slice_get_cases tails b.client).1 [
    | inl there ↦
        let left : List Event = left_of batches there.0 b.client in
        let split : did batches tails b.client ≡ own_of front b.client ++ ((b.before ++ b.rest) ++ (own_of rest b.client ++ left)) = did_is batches tails b.client there.0 there.2 ∙ batch_at batches front rest b left cut in
        let now : ShapedBatch schema b = batch_shaped (did batches tails b.client) (own_of front b.client) (own_of rest b.client ++ left) front b (follows b.client mine.0) split (events_shaped (of_client b.client front) (of_client_shaped b.client front are)) are right.0 in
        (now, batches_shaped batches tails (front ++ b ∷ []) rest follows (cut ∙ sym (append_assoc front (b ∷ []) rest)) mine.1 (both_parts (ShapedBatch schema) front (b ∷ []) are (now, tt)) right.1)
    | inr past ↦ let less : b.client < length tails = mine.0 in absurd (omega (arith, past.0))
  ]

  -- what ran since the last push
  now_by : (whole earlier : List Event) (batches : List Batch) (tail : Tail) (seen : List Update) (base : Option ℕ) → tail.now.base ≡ base → Follows schema whole → whole ≡ earlier ++ (events_in tail.now ++ []) → Shaped schema earlier → Batches batches → Log seen → Is seen tail.now.before
      → ((n : ℕ) → tail.now.base ≡ Some n → Is (flat batches n ++ updates_of tail.now.before) tail.now.rest) → (tail.now.base ≡ None → tail.now.rest ≡ []) → Shaped schema (events_in tail.now)
  now_by whole earlier batches tail seen None at follows split is are log before rest unpulled =
      stretch_shaped whole earlier tail.now.before tail.now.rest [] seen [] follows split is log before (λ first. tt) (subst (Is []) (sym (unpulled at)) tt)
  now_by whole earlier batches tail seen (Some n) at follows split is are log before rest unpulled =
      stretch_shaped whole earlier tail.now.before tail.now.rest [] seen (flat batches n ++ updates_of tail.now.before) follows split is log before
      (λ first. both_parts (IsShaped schema) (flat batches n) (updates_of tail.now.before) (flat_shaped batches n are) (updates_shaped tail.now.before first)) (rest n at)

  -- what was sent and isn't joined
  sent_shaped : (whole : List Event) (batches : List Batch) (c : ℕ) (tail : Tail) → Follows schema whole → whole ≡ own_of batches c ++ left_of batches tail c → Batches batches → RightTail (IsThatOf (answer schema)) batches c tail → Batches (unjoined (of_client c batches) tail.sent)
  sent_shaped whole batches c tail follows split are right = elim (sent_cases (of_client c batches) tail.sent) [
    | none_left none ↦ subst Batches (sym none) tt
    | open_one b is_sent next opened ↦
        let cut : whole ≡ own_of batches c ++ ((b.before ++ b.rest) ++ all_events (tail.now ∷ [])) = split ∙ ap (λ (l : List Batch). own_of batches c ++ all_events (map stretch_of l ++ tail.now ∷ [])) opened in
        subst Batches (sym opened) (batch_shaped whole (own_of batches c) (all_events (tail.now ∷ [])) batches b follows cut (events_shaped (of_client c batches) (of_client_shaped c batches are)) are (right.sent b opened), tt)
  ]

  -- a client's tail behind its batches
  tail_shaped : (whole : List Event) (batches : List Batch) (c : ℕ) (tail : Tail) → Follows schema whole → whole ≡ own_of batches c ++ left_of batches tail c → Batches batches → RightTail (IsThatOf (answer schema)) batches c tail → (tail.now.base ≡ None → tail.now.rest ≡ []) → Shaped schema whole
  tail_shaped whole batches c tail follows split are right unpulled =
      let own : List Batch = of_client c batches in
      let sent : List Batch = unjoined own tail.sent in
      let sent_are : Batches sent = sent_shaped whole batches c tail follows split are right in
      let own_are : Shaped schema (own_of batches c) = events_shaped own (of_client_shaped c batches are) in
      let parts : left_of batches tail c ≡ all_events (map stretch_of sent) ++ all_events (tail.now ∷ []) = all_events-append (map stretch_of sent) (tail.now ∷ []) in
      let earlier : List Event = own_of batches c ++ all_events (map stretch_of sent) in
      let earlier_are : Shaped schema earlier = both_parts (IsShapedEvent schema) (own_of batches c) (all_events (map stretch_of sent)) own_are (events_shaped sent sent_are) in
      let cut : whole ≡ earlier ++ all_events (tail.now ∷ []) = split ∙ ap (λ (l : List Event). own_of batches c ++ l) parts ∙ sym (append_assoc (own_of batches c) (all_events (map stretch_of sent)) (all_events (tail.now ∷ []))) in
      let log : Log (last_seen batches [] (own ++ sent)) = last_shaped batches [] (own ++ sent) are tt (both_parts (ShapedBatch schema) own sent (of_client_shaped c batches are) sent_are) in
      let now : Shaped schema (events_in tail.now) = now_by whole earlier batches tail (last_seen batches [] (own ++ sent)) tail.now.base refl follows cut earlier_are are log right.before right.rest unpulled in
      subst (Shaped schema) (sym cut) (both_parts (IsShapedEvent schema) earlier (all_events (tail.now ∷ [])) earlier_are (both_parts (IsShapedEvent schema) (events_in tail.now) [] now tt))

  -- THE WHOLE
  pub did_shaped : (batches : List Batch) (tails : List Tail) (ends : List End) → ((c : ℕ) → c < length tails → Follows schema (did batches tails c)) → SoundRecord batches tails ends → RightRecord (IsThatOf (answer schema)) batches tails → (c : ℕ) → Shaped schema (did batches tails c)
  did_shaped batches tails ends follows sound right c = elim (slice_get_cases tails c).1 [
    | inl there ↦
        tail_shaped (did batches tails c) batches c there.0 (follows c there.1) (did_is batches tails c there.0 there.2)
        (batches_shaped batches tails [] batches follows refl sound.clients tt right.each) (right.tail c there.0 there.2) (sound.tail c there.0 there.2).unpulled
    | inr past ↦ subst (Shaped schema) (sym (ap (did_by batches c) past.1)) tt
  ]
