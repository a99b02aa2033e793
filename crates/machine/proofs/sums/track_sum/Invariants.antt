use Rattle.std.proofs.Common.{◌≡◌, ◌+◌, ◌*◌, ◌%◌, ◌^◌}
use Rattle.machine.specs.Sums.{weighed, place_bytes, summed}
use Rattle.machine.proofs.sums.track_sum.Given as goal

abbrev pub invariant-loop-place : goal.invariant-loop-place
invariant-loop-place g l = l.sum ≡ summed (λ p. weighed 1 (place_bytes (g.D.Drive.meaning l.drive) l.track p) * (l.before + p + 1)) l.place % 2 ^ 32
