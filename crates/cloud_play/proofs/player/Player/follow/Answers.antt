use Rattle.std.proofs.Common.{◌≡◌, refl, sym, ap, ◌∙◌, subst, ◌<◌, ◌+◌, ◌++◌, ◌∷◌, [], ℕ, List, take}
use Rattle.std.specs.Prelude.{Contains, get_or}
use Rattle.std.proofs.lemmas.List.{take_all, take_more}
use Rattle.std.proofs.lemmas.List.Elements.{Contains-get_or}
use Rattle.cloud_base.specs.Answer.{answer}
use Rattle.cloud_base.specs.declared.schedule.ScheduleItem.{ScheduleItem}
use Rattle.cloud_base.specs.declared.schedule.ScheduleItem.TheVariants.{Steps}
use Rattle.typed_program.specs.Programs.{item_client}
use Rattle.slot_hub.specs.Plain.{seen_of}
use Rattle.played_record.specs.Plays.{scheduled}
use Rattle.played_record.specs.Programs.{trace_of}
use Rattle.played_record.specs.Worlds.{World}
use Rattle.cloud_play.specs.Playings.{Plays}
use Rattle.cloud_play.proofs.Sweeping.{scheduled_more}
use Rattle.cloud_play.proofs.player.Player.follow.Goals as goal

-- what a list has that it doesn't have
abbrev none : ScheduleItem
none = Steps 0 0

pub loop-item-init : goal.loop-item-init
loop-item-init g c = record { as_many = refl; plays = λ p w h. h }

pub item-requires-clause-client : goal.item-requires-clause-client
item-requires-clause-client g c =
    let items = c.as_slice-item-items.result.now in
    let item = get_or items c.loop-item.item-index none in
    let among : Contains c.args.schedule.now item = subst (λ (l : List ScheduleItem). Contains l item) c.as_slice-item-items.ensures (Contains-get_or items c.loop-item.item-index none c.loop-item-test.true) in
    subst (λ (n : ℕ). item_client item < n) (sym c.loop-item.invariant.as_many) (c.requires.clients item among)

pub item-requires-clause-playing : goal.item-requires-clause-playing
item-requires-clause-playing g c =
    let p = c.requires.playing.program in
    let w = c.requires.playing.world in
    record {
      program = p;
      world = scheduled (answer p.schema) (trace_of p) (take c.loop-item.item-index c.as_slice-item-items.result.now) w;
      plays = c.loop-item.invariant.plays p w c.requires.playing.plays;
    }

pub loop-item-preserved : goal.loop-item-preserved
loop-item-preserved g c =
    let now = c.item.new.self in
    let i = c.loop-item.item-index in
    let items = c.as_slice-item-items.result.now in
    let it = get_or items i none in
    let q = c.requires.playing.program in
    let v = c.requires.playing.world in
    let more : take (i + 1) items ≡ take i items ++ it ∷ [] = take_more items i none c.loop-item-test.true in
    record {
      as_many = (c.in_ok-item.ensures q (scheduled (answer q.schema) (trace_of q) (take i items) v) (c.loop-item.invariant.plays q v c.requires.playing.plays)).count
          ∙ sym c.requires.playing.plays.count;
      plays = λ p w h. subst (λ (x : World). Plays p now.runners.items now.station.holding (seen_of g.N.Run.name now.hub) x)
          (sym (ap (λ (l : List ScheduleItem). scheduled (answer p.schema) (trace_of p) l w) more ∙ scheduled_more (answer p.schema) (trace_of p) (take i items) it w))
          (c.in_ok-item.ensures p (scheduled (answer p.schema) (trace_of p) (take i items) w) (c.loop-item.invariant.plays p w h));
    }

pub returns : goal.returns
returns g c = λ p w h.
    let now = c.loop-item.self in
    let items = c.as_slice-item-items.result.now in
    let all : take c.loop-item.item-index items ≡ c.args.schedule.now = take_all c.loop-item.item-index items c.loop-item-test.false ∙ c.as_slice-item-items.ensures in
    subst (λ (l : List ScheduleItem). Plays p now.runners.items now.station.holding (seen_of g.N.Run.name now.hub) (scheduled (answer p.schema) (trace_of p) l w)) all
    (c.loop-item.invariant.plays p w h)
