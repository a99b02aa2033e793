use Rattle.std.proofs.Common.{◌≡◌, ℕ, ◌*◌, ◌<◌, length, get_or}
use Rattle.card.specs.Acts.{bytes_of}
use Rattle.card.proofs.sectors.sector_bytes.Given as goal

abbrev pub invariant-loop-i : goal.invariant-loop-i
invariant-loop-i l = (length l.bytes ≡ 256) × ((k : ℕ) → k < 2 * l.i → get_or l.bytes k 0 ≡ get_or (bytes_of l.words) k 0)
