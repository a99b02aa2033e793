use Rattle.std.proofs.Common.{◌+◌, ◌-◌, ◌∙◌, arith}
use Rattle.chained_pack.proofs.ChainedReads.{id_read}
use Rattle.chained_pack.proofs.chained.access.ChainedPackDrive.id.Goals as goal

pub returns-in-Some : goal.returns-in-Some
returns-in-Some c =
    let at = c.start-at.result in
    c.id_field.ensures
    ∙ rw c.deref.ensures.value
    (id_read c.args.self.now.bytes.items c.args.track c.args.place c.in-Some.index at c.in-Some.ensures.found c.start-at.ensures (at + 268 - at) (omega arith))
