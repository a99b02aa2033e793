use Rattle.std.proofs.Common.{◌≡◌, ◌+◌, ◌%◌, ◌^◌, ◌<◌, drop}
use Rattle.machine.specs.Sums.{weighed}
use Rattle.machine.proofs.sums.weigh.Given as goal

abbrev pub invariant-loop-index : goal.invariant-loop-index
invariant-loop-index l = (l.sum < 2 ^ 32) × ((l.sum + weighed (l.first + l.index) (drop l.index l.bytes)) % 2 ^ 32 ≡ weighed l.first l.bytes % 2 ^ 32)
