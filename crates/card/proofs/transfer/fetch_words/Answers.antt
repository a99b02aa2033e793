use Rattle.std.proofs.Common.{length, arith}
use Rattle.card.specs.Acts.{world}
use Rattle.card.proofs.Transfers.{fetching_more, fetching_stops, fetching_all}
use Rattle.card.proofs.transfer.fetch_words.Goals as goal

pub returns-in-Err : goal.returns-in-Err
returns-in-Err g c v d =
    fetching_stops (world v d (g.S.Storage.meaning c.args.storage.now)) (length c.args.words.now) c.args.address c.args.key
    c.args.residual.now c.loop-i.words c.loop-i.i c.loop-i.residual (c.loop-i.invariant v d) c.loop-i-test.true
    c.in-Err.fault c.in-Err.ensures

pub loop-i-preserved : goal.loop-i-preserved
loop-i-preserved g c v d =
    fetching_more (world v d (g.S.Storage.meaning c.args.storage.now)) (length c.args.words.now) c.args.address c.args.key
    c.args.residual.now c.loop-i.words c.loop-i.i c.loop-i.residual (c.loop-i.invariant v d) c.loop-i-test.true
    c.in-Ok.loaded (omega arith) c.in-Ok.ensures

pub returns : goal.returns
returns g c v d =
    fetching_all (world v d (g.S.Storage.meaning c.args.storage.now)) (length c.args.words.now) c.args.address c.args.key
    c.args.residual.now c.loop-i.words c.loop-i.i c.loop-i.residual (c.loop-i.invariant v d) (omega arith) (omega arith)
