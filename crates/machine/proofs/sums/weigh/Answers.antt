use Rattle.std.proofs.Common.{◌+◌, ◌<◌, ◌≤◌, length, mod-lt, arith, lit<}
use Rattle.machine.proofs.Weighing.{weighed_more, weighed_all}
use Rattle.machine.proofs.sums.weigh.Goals as goal

pub loop-index-preserved : goal.loop-index-preserved
loop-index-preserved c =
    let k : c.loop-index.index < length c.args.bytes.now = omega arith in
    (mod-lt _ (lit< tt), weighed_more c.args.first c.loop-index.index c.loop-index.sum _ c.args.bytes.now k c.loop-index.invariant.1)

pub returns : goal.returns
returns c =
    let k : length c.args.bytes.now ≤ c.loop-index.index = omega arith in
    weighed_all (c.args.first + c.loop-index.index) c.loop-index.index c.loop-index.sum _ c.args.bytes.now k c.loop-index.invariant.0 c.loop-index.invariant.1
