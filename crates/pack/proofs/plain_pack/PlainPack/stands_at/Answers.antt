use Rattle.std.proofs.Common.{◌+◌, ◌≤◌, length, arith}
use Rattle.pack.proofs.PlainDisk.{stands_for}
use Rattle.pack.proofs.plain_pack.PlainPack.stands_at.Goals as goal

pub returns : goal.returns
returns c =
    let pack = c.args.self.now in
    let at = c.in_ok-front.ensures in
    let long = pack.bytes.ok.0 in
    let room : c.in_ok-front.front + 264 ≤ length pack.bytes.items = omega (arith, at.2) in
    stands_for pack.heads pack.bytes.items c.args.track c.args.place c.in_ok-front.front at.0 at.1 room
