use Rattle.std.proofs.Common.{sym, ◌∙◌}
use Rattle.chained_pack.proofs.Parts.{room_for_used}
use Rattle.chained_pack.proofs.image.Image.of.Goals as goal

pub invariant_of-result : goal.invariant_of-result
invariant_of-result c = record { used = room_for_used c.args.bytes.now (sym c.length_clear.ensures ∙ c.if-not-length_clear.false) }
