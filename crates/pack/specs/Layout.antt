-- What all packs share.
--   id_of          an ID by its five bytes: flag, cylinder (two bytes, high first), head, sector
--   sector_in      the sector that stands at a place: ID condition, data condition and the ID's five bytes, and elsewhere its data
--   IsWithin       a sector that ends within so many bytes, its data behind its ID
--   IsRecorded     a sector by its ID, and its data with their condition
--   data_put_in    a sector's data replaced and made good: its data condition and its data alone
--   every_below    whether a test passes at each number below a bound
use Rattle.std.specs.Prelude.{◌≡◌, ℕ, zero, suc, ◌+◌, ◌*◌, ◌≤◌, Bool, true, ◌&&◌, List, take, drop, slice_index, slice_set}
use Rattle.std.proofs.Math.Seq.{paste}
use Rattle.drive.specs.Disk.{Sector, condition_of}
use Rattle.drive.specs.declared.sector.Condition.{Condition}
use Rattle.drive.specs.declared.sector.IdField.{IdField}
use Rattle.drive.specs.declared.sector.SectorId.{SectorId}
use Rattle.pack.specs.declared.sector_at.SectorAt.{SectorAt}

-- the ID whose bytes begin at an index
abbrev pub id_of : List ℕ → ℕ → SectorId
id_of bytes i = record {
  flag = slice_index bytes i;
  cylinder = slice_index bytes (i + 1) * 256 + slice_index bytes (i + 2);
  head = slice_index bytes (i + 3);
  sector = slice_index bytes (i + 4);
}

abbrev pub sector_in : List ℕ → SectorAt → Sector
sector_in bytes at = record {
  id = record { id = id_of bytes (at.front + 2); condition = condition_of (slice_index bytes at.front) };
  datum = record { bytes = take 256 (drop at.body bytes); condition = condition_of (slice_index bytes (at.front + 1)) };
}

pub record IsWithin (at : SectorAt) (n : ℕ) : Type 0 where
  pub order : at.front + 7 ≤ at.body
  pub room : at.body + 256 ≤ n

pub record IsRecorded (s : Sector) (i : IdField) (c : Condition) (b : List ℕ) : Type 0 where
  pub id : i ≡ s.id
  pub condition : c ≡ s.datum.condition
  pub bytes : b ≡ s.datum.bytes

abbrev pub data_put_in : List ℕ → SectorAt → List ℕ → List ℕ
data_put_in bytes at new = paste (slice_set bytes (at.front + 1) 0) at.body new 256

unfoldable pub every_below : (ℕ → Bool) → ℕ → Bool
every_below test zero = true
every_below test (suc n) = every_below test n && test n
