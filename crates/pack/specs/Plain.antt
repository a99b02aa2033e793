-- The plain pack: 264 bytes a place, in order of cylinder, head, place.
--   place_number   the number of a place on a drive, from 0
--   sector_at      the sector of place n: ID condition, data condition, the ID's five bytes, a zero, 256 bytes of data
--   plain_disk     what a plain pack means
--   StandsFor      where the sector of a place on the drive stands among the bytes
--   heads_of       the heads by the length: two or three, or none where the length is not lawful
--   zero_clear, conditions_clear   what is tested of a place: its zero byte, its two conditions
--   places_fault   what the places are refused by, if by anything
--   in_places      the same behind the test of the length
--   plain_fault    why bytes are no plain pack, if they are none: first the length, then any zero byte, then any condition
use Rattle.std.specs.Prelude.{◌≡◌, ℕ, ◌+◌, ◌*◌, Bool, true, cond, ◌&&◌, List, length, take, drop, Some, None, Option, ◌==◌, nat_le, slice_index}
use Rattle.basics.specs.declared.refusal.Refusal.{Refusal}
use Rattle.basics.specs.declared.refusal.Refusal.TheVariants.{Length, Header, Record}
use Rattle.drive.specs.Disk.{Sector, Disk, condition_of, on_drive, blank}
use Rattle.drive.specs.declared.geometry.Track.{Track}
use Rattle.pack.specs.Layout.{id_of, sector_in, IsWithin, every_below}
use Rattle.pack.specs.declared.sector_at.SectorAt.{SectorAt}

abbrev pub place_number : ℕ → Track → ℕ → ℕ
place_number heads t p = (t.cylinder * heads + t.head) * 60 + p

abbrev pub sector_at : List ℕ → ℕ → Sector
sector_at bytes n = record {
  id = record { id = id_of bytes (n * 264 + 2); condition = condition_of (slice_index bytes (n * 264)) };
  datum = record { bytes = take 256 (drop (n * 264 + 8) bytes); condition = condition_of (slice_index bytes (n * 264 + 1)) };
}

abbrev pub plain_disk : ℕ → List ℕ → Disk
plain_disk heads bytes = record {
  heads = heads;
  sector = λ t p. cond (on_drive heads t p) (sector_at bytes (place_number heads t p)) blank;
}

pub record StandsFor (heads : ℕ) (bytes : List ℕ) (t : Track) (p : ℕ) (at : SectorAt) : Type 0 where
  pub on : on_drive heads t p ≡ true
  pub front : at.front ≡ place_number heads t p * 264
  pub body : at.body ≡ place_number heads t p * 264 + 8
  pub within : IsWithin at (length bytes)
  pub sector : sector_in bytes at ≡ (plain_disk heads bytes).sector t p

abbrev pub heads_of : ℕ → Option ℕ
heads_of n = cond (n == 9599040) (Some 2) (cond (n == 14398560) (Some 3) None)

-- the byte between the ID and the data
abbrev pub zero_clear : List ℕ → ℕ → Bool
zero_clear bytes n = slice_index bytes (n * 264 + 7) == 0

abbrev pub conditions_clear : List ℕ → ℕ → Bool
conditions_clear bytes n = nat_le (slice_index bytes (n * 264)) 1 && nat_le (slice_index bytes (n * 264 + 1)) 1

-- a zero byte of any place comes before a condition of any place
abbrev pub places_fault : List ℕ → ℕ → Option Refusal
places_fault bytes n =
    cond (every_below (zero_clear bytes) n)
    (cond (every_below (conditions_clear bytes) n) None (Some Record))
    (Some Header)

abbrev pub in_places : List ℕ → Option ℕ → Option Refusal
in_places bytes (Some heads) = places_fault bytes (heads * 18180)
in_places bytes None = Some Length

abbrev pub plain_fault : List ℕ → Option Refusal
plain_fault bytes = in_places bytes (heads_of (length bytes))
