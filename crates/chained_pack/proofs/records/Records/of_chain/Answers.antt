use Rattle.std.proofs.Common.{arith}
use Rattle.chained_pack.specs.Format.{directory}
use Rattle.chained_pack.proofs.Lookups.{first_in_use}
use Rattle.chained_pack.proofs.records.Records.of_chain.Goals as goal

pub invariant_of-result : goal.invariant_of-result
invariant_of-result c = record {
  within = omega (arith, c.first.ensures, first_in_use (directory c.args.chains.image.bytes.now) c.args.chains.clear c.args.chain c.requires);
}
