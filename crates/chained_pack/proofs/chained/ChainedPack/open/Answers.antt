use Rattle.std.proofs.Common.{sym, ap, ◌∙◌}
use Rattle.chained_pack.specs.Format.{directory}
use Rattle.chained_pack.specs.Lawful.{chained_fault}
use Rattle.chained_pack.proofs.ChainedDisk.{chained_lawful}
use Rattle.chained_pack.proofs.Lookups.{orderly}
use Rattle.chained_pack.proofs.Loops.{loopless}
use Rattle.chained_pack.proofs.Parts.{no_fault, clear_from_lem}
use Rattle.chained_pack.proofs.chained.ChainedPack.open.Goals as goal

pub invariant_of-result : goal.invariant_of-result
invariant_of-result c =
    let b = c.args.bytes.items in
    let lawful = clear_from_lem b (no_fault b (ap chained_fault (sym c.deref.ensures.value) ∙ c.in-Ok.ensures)) in
    record { lawful = lawful; drive = chained_lawful b lawful }

pub returns-in-Ok-clause-loops : goal.returns-in-Ok-clause-loops
returns-in-Ok-clause-loops c = loopless

pub returns-in-Ok-clause-orderly : goal.returns-in-Ok-clause-orderly
returns-in-Ok-clause-orderly c =
    let b = c.args.bytes.items in
    let p = no_fault b (ap chained_fault (sym c.deref.ensures.value) ∙ c.in-Ok.ensures) in
    orderly (directory b) p.chains p.once

pub returns-in-Err-clause-loops : goal.returns-in-Err-clause-loops
returns-in-Err-clause-loops c = loopless
