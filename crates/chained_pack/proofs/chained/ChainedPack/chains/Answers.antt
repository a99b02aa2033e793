use Rattle.std.proofs.Common.{ap, ◌∙◌}
use Rattle.chained_pack.specs.Chains.{chains_clear}
use Rattle.chained_pack.specs.Format.{directory}
use Rattle.chained_pack.specs.Lawful.{length_clear}
use Rattle.chained_pack.proofs.Parts.{clear_parts, room_for_used}
use Rattle.chained_pack.proofs.chained.ChainedPack.chains.Goals as goal

pub invariant_of-image : goal.invariant_of-image
invariant_of-image c =
    let p = clear_parts c.args.self.now.bytes.items c.args.self.now.lawful in
    record { used = room_for_used c.as_slice.result.now (ap length_clear c.as_slice.ensures.value ∙ p.long) }

pub invariant_of-result : goal.invariant_of-result
invariant_of-result c =
    let p = clear_parts c.args.self.now.bytes.items c.args.self.now.lawful in
    record { clear = ap (λ l. chains_clear (directory l)) c.as_slice.ensures.value ∙ p.chains }
