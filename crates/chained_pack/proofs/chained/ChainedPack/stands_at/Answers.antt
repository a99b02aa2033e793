use Rattle.std.proofs.Common.{◌+◌, sym, arith}
use Rattle.chained_pack.proofs.ChainedDisk.{stands_for}
use Rattle.chained_pack.proofs.chained.ChainedPack.stands_at.Goals as goal

pub returns : goal.returns
returns c =
    let bytes = c.args.self.now.bytes in
    let i = c.in_ok-index_of in
    let at = c.start-at.result in
    let long = bytes.ok.0 in
    stands_for bytes.items c.args.track c.args.place i.field-0 record { front = at + 5; body = at + 12 } (sym i.ensures.found)
    (omega (arith, c.start-at.ensures)) (omega (arith, c.start-at.ensures)) (omega (arith, i.ensures.within.1))
