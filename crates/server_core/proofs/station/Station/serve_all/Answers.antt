use Rattle.std.proofs.Common.{◌+◌, ℕ, sym, subst, arith}
use Rattle.std.specs.Prelude.{Bool}
use Rattle.slot_hub.specs.Runs.{Named}
use Rattle.server_core.specs.Stations.{IsHoldingOf, ServesOne, ServesWith}
use Rattle.server_core.proofs.Drawn.{serves_taken, serves_untaken}
use Rattle.server_core.proofs.Touching.{leaves_both, looked_more, prefix_both}
use Rattle.server_core.proofs.station.Station.serve_all.Goals as goal
use Rattle.server_core.proofs.station.Station.serve_all.Goals.{then-branch, else-branch}

pub loop-client-preserved : goal.loop-client-preserved
loop-client-preserved g c =
    let fates = g.W.Weather.fates in
    let n = c.loop-client.client in
    let old = c.args.self.now in
    let mid = c.loop-client.self in
    let new = c.serve_next.new.self in
    let before = g.H.Hub.seen c.args.hub.now in
    let between = g.H.Hub.seen c.loop-client.hub in
    let after = g.H.Hub.seen c.serve_next.new.hub in
    let so = c.loop-client.invariant in
    let one = c.in_ok-serve_next.ensures.ok in
    record {
      serves = elim c.if-branch.branch [
        | then-branch w ↦
            subst (λ (m : ℕ). ServesWith fates (n + 1) m old new before after) (sym w.count-is)
            (serves_taken fates n c.loop-client.count old mid new before between after so.serves
            (subst (λ (t : Bool). ServesOne fates t n mid new between after) w.if-branch.true one))
        | else-branch w ↦
            subst (λ (m : ℕ). ServesWith fates (n + 1) m old new before after) (sym w.count-is)
            (serves_untaken fates n c.loop-client.count old mid new before between after so.serves
            (subst (λ (t : Bool). ServesOne fates t n mid new between after) w.if-branch.false one))
      ];
      few = let few = so.few in elim c.if-branch.branch [ then-branch w ↦ let same = w.count-is in omega arith | else-branch w ↦ let same = w.count-is in omega arith ];
      of = subst (λ (run : Named). IsHoldingOf new.holding run) so.leaves.keeps.run c.serve_next.ensures.of;
      grows = prefix_both old.holding.server.joined.list mid.holding.server.joined.list new.holding.server.joined.list so.grows c.serve_next.ensures.grows;
      leaves = leaves_both before between after so.leaves c.serve_next.ensures.leaves;
      looked = looked_more n before between after so.leaves.keeps c.serve_next.ensures.leaves.keeps so.looked c.in_ok-serve_next.ensures.looked;
    }
