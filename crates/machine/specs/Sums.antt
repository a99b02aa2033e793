-- The sums by which the data of a place and a whole drive are shown.
--   weighed          each byte of a list times its index, which is counted from a number on, summed
--   data_sum         the sum of the data of a place; none where the ID is spoiled
--   place_bytes      what a drive tells of a place, as 264 bytes: both conditions, the ID, a zero, the data or zeros
--   summed           what a function gives at each number below a bound, summed
--   front            the eight bytes in front of the data
--   track_sum        the sums of a track's places, each times its number; some places come before the track
--   places_sum       the same over the whole drive, modulo 2^32
use Rattle.std.specs.Prelude.{ℕ, zero, suc, ◌+◌, ◌*◌, ◌/◌, ◌%◌, ◌^◌, cond, List, [], ◌∷◌, ◌++◌, Some, None, Option}
use Rattle.drive.specs.Disk.{Disk, Sector, is_good, condition_byte, no_bytes}
use Rattle.drive.specs.declared.geometry.Track.{Track}
use Rattle.machine.specs.Tracks.{track_at}

unfoldable pub weighed : ℕ → List ℕ → ℕ
weighed i [] = 0
weighed i (b ∷ bs) = b * i + weighed (i + 1) bs

abbrev pub data_sum : Disk → Track → ℕ → Option ℕ
data_sum d t p = cond (is_good (d.sector t p).id.condition) (Some (weighed 1 (d.sector t p).datum.bytes % 2 ^ 32)) None

-- both conditions, the ID's five bytes, a zero
abbrev pub front : Sector → List ℕ
front s =
    condition_byte s.id.condition ∷ condition_byte s.datum.condition
    ∷ s.id.id.flag ∷ s.id.id.cylinder / 256 ∷ s.id.id.cylinder % 256 ∷ s.id.id.head ∷ s.id.id.sector
    ∷ 0 ∷ []

abbrev pub place_bytes : Disk → Track → ℕ → List ℕ
place_bytes d t p = front (d.sector t p) ++ cond (is_good (d.sector t p).id.condition) (d.sector t p).datum.bytes no_bytes

unfoldable pub summed : (ℕ → ℕ) → ℕ → ℕ
summed f zero = 0
summed f (suc n) = summed f n + f n

unfoldable pub track_sum : Disk → Track → ℕ → ℕ
track_sum d t before = summed (λ p. weighed 1 (place_bytes d t p) * (before + p + 1)) 60

unfoldable pub places_sum : Disk → ℕ
places_sum d = summed (λ n. track_sum d (track_at d.heads n) (n * 60)) (303 * d.heads) % 2 ^ 32
