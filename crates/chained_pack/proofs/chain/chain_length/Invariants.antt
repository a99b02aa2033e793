use Rattle.chained_pack.specs.Format.{directory}
use Rattle.chained_pack.proofs.Lengths.{Measured}
use Rattle.chained_pack.proofs.chain.chain_length.Given as goal

abbrev pub invariant-loop-records : goal.invariant-loop-records
invariant-loop-records l = Measured (directory l.image.bytes.now) l.chain l.records l.index
