use Rattle.std.proofs.Common.{◌≡◌, ◌*◌, ◌%◌, ◌^◌}
use Rattle.machine.specs.Sums.{track_sum, summed}
use Rattle.machine.specs.Tracks.{track_at}
use Rattle.machine.proofs.sums.places_sum.Given as goal

abbrev pub invariant-loop-number : goal.invariant-loop-number
invariant-loop-number g l = (l.heads ≡ (g.D.Drive.meaning l.drive).heads) × (l.sum ≡ summed (λ n. track_sum (g.D.Drive.meaning l.drive) (track_at l.heads n) (n * 60)) l.number % 2 ^ 32)
