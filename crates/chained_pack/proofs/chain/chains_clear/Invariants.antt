use Rattle.std.proofs.Common.{◌≡◌, ◌*◌, ◌≤◌, true}
use Rattle.pack.specs.Layout.{every_below}
use Rattle.chained_pack.specs.Chains.{chain_clear}
use Rattle.chained_pack.specs.Format.{directory}
use Rattle.chained_pack.proofs.Sound.{lengths_below}
use Rattle.chained_pack.proofs.chain.chains_clear.Given as goal

abbrev pub invariant-loop-chain : goal.invariant-loop-chain
invariant-loop-chain l =
    (every_below (chain_clear (directory l.image.bytes.now)) l.chain ≡ true) × (l.records ≡ lengths_below (directory l.image.bytes.now) l.chain) × (l.records ≤ l.chain * 65535)
