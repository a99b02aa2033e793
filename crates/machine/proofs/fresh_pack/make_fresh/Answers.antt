use Rattle.std.proofs.Common.{◌≤◌, vec_items, sym, arith}
use Rattle.pack.specs.Plain.{plain_disk}
use Rattle.machine.proofs.AllTracks.{fresh_none, fresh_step}
use Rattle.machine.proofs.fresh_pack.make_fresh.Goals as goal

pub loop-number-init : goal.loop-number-init
loop-number-init c = (c.heads-heads.ensures, sym (fresh_none _))

pub loop-number-preserved : goal.loop-number-preserved
loop-number-preserved c =
    let d = plain_disk c.args.pack.now.heads (vec_items c.args.pack.now.bytes) in
    let e = plain_disk c.loop-number.pack.heads (vec_items c.loop-number.pack.bytes) in
    let f = plain_disk c.fresh_track.new.self.heads (vec_items c.fresh_track.new.self.bytes) in
    let k : 1 ≤ c.heads-heads.result = omega (arith, c.loop-number.invariant.0, c.args.pack.now.low) in (
      c.loop-number.invariant.0,
      fresh_step d e f c.heads-heads.result c.loop-number.number c.track_at.result c.loop-number.invariant.0 k c.loop-number-test.true c.track_at.ensures c.loop-number.invariant.1 c.fresh_track.ensures.after,
    )
