use Rattle.std.proofs.Common.{arith, inl, ◌∙◌, ◌-◌, length, drop, length-drop}
use Rattle.std.proofs.lemmas.List.{length-take}
use Rattle.cloud_base.specs.declared.streams.Failed.{Failed}
use Rattle.cloud_run.proofs.Pieces.{got_more, rest_of}
use Rattle.cloud_run.proofs.flows.write_all.Goals as goal

pub loop-at-preserved : goal.loop-at-preserved
loop-at-preserved g c =
    let e = c.in-Ok.ensures in
    record {
      within = omega (arith, e.bound, length-take (length c.args.text.now - c.loop-at.at) (drop c.loop-at.at c.args.text.now), length-drop c.loop-at.at c.args.text.now);
      got = got_more Failed _ _ _ c.in-Ok.count c.loop-at.at c.args.text.now _ c.loop-at.invariant.got (rest_of c.loop-at.at c.args.text.now) e.bytes;
      faults = e.cause.2 (inl (omega arith)) ∙ c.loop-at.invariant.faults;
    }
