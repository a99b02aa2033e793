use Rattle.std.proofs.Common.{sym, refl}
use Rattle.pack.proofs.Numbers.{on_parts, place_within}
use Rattle.pack.proofs.plain_pack.PlainPack.start.Goals as goal

pub returns : goal.returns
returns c =
    let t = c.args.track in
    let on = sym c.if-not-has_place.ensures in
    let parts = on_parts c.args.self.now.heads t c.args.place on in (
      on,
      refl,
      rw c.args.self.now.long (place_within c.args.self.now.heads t.cylinder t.head c.args.place parts.cylinder parts.head parts.place),
    )
