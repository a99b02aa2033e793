-- The bytes of a chained pack: a header of 136 bytes and records of 268, numbered from 1.
--   word_at        two bytes, high byte first
--   heads_of       the heads, byte 4 of the header
--   start_of       where a record begins
--   head_of        the front of a record: next index (2), track (2), place, ID condition, data condition
--   directory      the count of records in use (bytes 6 and 7), the 64 first indexes (from byte 8), and what each record says of its chain
--   records_from   the records of a chain from an index on, so many at most, each with its front
--   HasUsed        there is room for the records in use
--   sector_at      what a record that begins at an index holds: behind the front the ID (5) and the data (256)
--   record_for     the record of a place on the drive; its track is cylinder × heads + head
--   chained_disk   what a chained pack means: a place with no record is blank
--   StandsFor      where the sector of a place that has a record stands among the bytes
--   data_put       a record's data replaced and made good: its data condition and its data alone
--   bytes_after    the bytes after a write, which is accepted exactly where the ID is good
use Rattle.std.specs.Prelude.{◌≡◌, ℕ, ◌+◌, ◌-◌, ◌*◌, ◌%◌, ◌≤◌, cond, List, map, length, take, drop, Some, None, Option, slice_index, slice_set}
use Rattle.std.proofs.Math.Seq.{paste}
use Rattle.drive.specs.Disk.{Sector, Disk, condition_of, is_good, on_drive, blank}
use Rattle.drive.specs.declared.geometry.Track.{Track}
use Rattle.pack.specs.Layout.{id_of, sector_in, IsWithin}
use Rattle.pack.specs.declared.sector_at.SectorAt.{SectorAt}
use Rattle.chained_pack.specs.Chains.{Directory, chain_from, record_of}
use Rattle.chained_pack.specs.declared.layout.RecordHead.{RecordHead}

abbrev pub word_at : List ℕ → ℕ → ℕ
word_at bytes i = slice_index bytes i * 256 + slice_index bytes (i + 1)

abbrev pub heads_of : List ℕ → ℕ
heads_of bytes = slice_index bytes 4

abbrev pub start_of : ℕ → ℕ
start_of i = 136 + (i - 1) * 268

-- the front of the record that begins at an index
abbrev pub head_at : List ℕ → ℕ → RecordHead
head_at bytes at = record {
  next = word_at bytes at;
  track = word_at bytes (at + 2);
  place = slice_index bytes (at + 4);
  id_condition = slice_index bytes (at + 5);
  data_condition = slice_index bytes (at + 6);
}

abbrev pub head_of : List ℕ → ℕ → RecordHead
head_of bytes i = head_at bytes (start_of i)

-- chains are counted mod 64, so that every number has its first index in the header
abbrev pub directory : List ℕ → Directory
directory bytes = record {
  count = word_at bytes 6;
  first = λ k. word_at bytes (8 + k % 64 * 2);
  next = λ i. (head_of bytes i).next;
  track = λ i. (head_of bytes i).track;
  place = λ i. (head_of bytes i).place;
}

abbrev pub records_from : List ℕ → ℕ → ℕ → List (ℕ × RecordHead)
records_from bytes most i = map (λ j. (j, head_of bytes j)) (chain_from (directory bytes).next most i)

abbrev pub HasUsed : List ℕ → Type 0
HasUsed bytes = 136 + (directory bytes).count * 268 ≤ length bytes

abbrev pub sector_at : List ℕ → ℕ → Sector
sector_at bytes at = record {
  id = record { id = id_of bytes (at + 7); condition = condition_of (slice_index bytes (at + 5)) };
  datum = record { bytes = take 256 (drop (at + 12) bytes); condition = condition_of (slice_index bytes (at + 6)) };
}

abbrev pub sector_of : List ℕ → Option ℕ → Sector
sector_of bytes (Some i) = sector_at bytes (start_of i)
sector_of bytes None = blank

abbrev pub track_number : ℕ → Track → ℕ
track_number heads t = t.cylinder * heads + t.head

abbrev pub record_for : List ℕ → Track → ℕ → Option ℕ
record_for bytes t p =
    cond (on_drive (heads_of bytes) t p) (record_of (directory bytes) (track_number (heads_of bytes) t) p) None

abbrev pub chained_disk : List ℕ → Disk
chained_disk bytes = record { heads = heads_of bytes; sector = λ t p. sector_of bytes (record_for bytes t p) }

pub record StandsFor (bytes : List ℕ) (t : Track) (p : ℕ) (at : SectorAt) : Type 0 where
  pub index : ℕ
  pub found : record_for bytes t p ≡ Some index
  pub front : at.front ≡ start_of index + 5
  pub body : at.body ≡ start_of index + 12
  pub within : IsWithin at (length bytes)
  pub sector : sector_in bytes at ≡ (chained_disk bytes).sector t p

abbrev pub data_put : List ℕ → ℕ → List ℕ → List ℕ
data_put bytes at new = paste (slice_set bytes (at + 6) 0) (at + 12) new 256

abbrev pub record_put : List ℕ → Option ℕ → List ℕ → List ℕ
record_put bytes (Some i) new = data_put bytes (start_of i) new
record_put bytes None new = bytes

abbrev pub bytes_after : List ℕ → Track → ℕ → List ℕ → List ℕ
bytes_after bytes t p new =
    cond (is_good ((chained_disk bytes).sector t p).id.condition) (record_put bytes (record_for bytes t p) new) bytes
