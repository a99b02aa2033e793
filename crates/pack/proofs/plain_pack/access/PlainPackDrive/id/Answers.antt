use Rattle.std.proofs.Common.{◌+◌, ◌-◌, ◌∙◌, arith}
use Rattle.pack.proofs.PlainReads.{id_read}
use Rattle.pack.proofs.plain_pack.access.PlainPackDrive.id.Goals as goal

pub returns-in-Some : goal.returns-in-Some
returns-in-Some c =
    let pack = c.args.self.now in
    let at = c.in-Some.ensures in
    c.id_field.ensures
    ∙ rw c.deref.ensures.value
    (id_read pack.heads pack.bytes.items c.args.track c.args.place c.in-Some.at at.0 at.1 (c.in-Some.at + 264 - c.in-Some.at) (omega arith))
