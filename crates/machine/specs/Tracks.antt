-- The tracks of a drive by number.
--   track_at   the track with a number, counted from 0 by cylinder, then by head
use Rattle.std.specs.Prelude.{ℕ, ◌/◌, ◌%◌}
use Rattle.drive.specs.declared.geometry.Track.{Track}

abbrev pub track_at : ℕ → ℕ → Track
track_at heads n = record { cylinder = n / heads; head = n % heads }
