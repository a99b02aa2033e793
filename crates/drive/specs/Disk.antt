-- What a drive means.
--   is_good, same_id, same_track   tests on conditions, IDs and tracks
--   condition_word      a condition as it is printed
--   condition_of        a condition by its byte: 0 is good, every other spoiled
--   condition_byte      a condition as a byte: 0 good, 1 spoiled
--   DataField, Sector   the data of a place with its condition; a place's ID and data
--   Disk                the heads, and the sector at each place of each track
--   on_drive            whether a place of a track is on a drive: cylinders 0 to 302, its heads, places 0 to 59
--   blank               what is off the drive: ID and data spoiled, all zero
--   no_id, no_bytes     the ID and the data of what is blank
--   Lawful              what every make of drive owes
--   accepts             what a data call answers: data can be read and written exactly where the ID is good
--   Reads               what an accepted read gives
--   with_data, replaced   a sector with new data, which are good; a drive with the data of one place replaced
--   written             the drive after a write: the data of that place alone is replaced, and good
use Rattle.std.specs.Prelude.{◌≡◌, ℕ, ◌≤◌, Bool, true, false, cond, ◌&&◌, List, length, replicate, Ok, Err, Result, ◌==◌, nat_lt, codes}
use Rattle.basics.specs.declared.refusal.Refusal.{Refusal}
use Rattle.basics.specs.declared.refusal.Refusal.TheVariants.{NoSuchPlace}
use Rattle.drive.specs.declared.geometry.Track.{Track}
use Rattle.drive.specs.declared.sector.Condition.{Condition}
use Rattle.drive.specs.declared.sector.Condition.TheVariants.{Good, Spoiled}
use Rattle.drive.specs.declared.sector.IdField.{IdField}
use Rattle.drive.specs.declared.sector.SectorId.{SectorId}

abbrev pub is_good : Condition → Bool
is_good Good = true
is_good Spoiled = false

abbrev pub condition_word : Condition → List ℕ
condition_word Good = codes "good"
condition_word Spoiled = codes "spoiled"

abbrev pub condition_of : ℕ → Condition
condition_of b = cond (b == 0) Good Spoiled

abbrev pub condition_byte : Condition → ℕ
condition_byte Good = 0
condition_byte Spoiled = 1

abbrev pub same_id : SectorId → SectorId → Bool
same_id x y = x.flag == y.flag && (x.cylinder == y.cylinder && (x.head == y.head && x.sector == y.sector))

abbrev pub same_track : Track → Track → Bool
same_track t u = t.cylinder == u.cylinder && t.head == u.head

pub record DataField : Type 0 where
  pub bytes : List ℕ
  pub condition : Condition

pub record Sector : Type 0 where
  pub id : IdField
  pub datum : DataField

pub record Disk : Type 0 where
  pub heads : ℕ
  pub sector : Track → ℕ → Sector

abbrev pub on_drive : ℕ → Track → ℕ → Bool
on_drive heads t p = nat_lt t.cylinder 303 && nat_lt t.head heads && nat_lt p 60

abbrev pub no_id : SectorId
no_id = record { flag = 0; cylinder = 0; head = 0; sector = 0 }

-- the data of a place off the drive
unfoldable pub no_bytes : List ℕ
no_bytes = replicate 256 0

abbrev pub blank : Sector
blank = record { id = record { id = no_id; condition = Spoiled }; datum = record { bytes = no_bytes; condition = Spoiled } }

pub record Lawful (d : Disk) : Type 0 where
  pub low : 2 ≤ d.heads
  pub high : d.heads ≤ 3
  pub long : (t : Track) (p : ℕ) → length (d.sector t p).datum.bytes ≡ 256
  pub off : (t : Track) (p : ℕ) → on_drive d.heads t p ≡ false → d.sector t p ≡ blank

abbrev pub accepts : Disk → Track → ℕ → Result (Unit {0}) Refusal
accepts d t p = cond (is_good (d.sector t p).id.condition) (Ok tt) (Err NoSuchPlace)

pub record Reads (d : Disk) (t : Track) (p : ℕ) (bytes : List ℕ) : Type 0 where
  pub accepted : Ok tt ≡ accepts d t p
  pub given : bytes ≡ (d.sector t p).datum.bytes

abbrev pub with_data : List ℕ → Sector → Sector
with_data bytes s = record { id = s.id; datum = record { bytes = bytes; condition = Good } }

abbrev pub replaced : Disk → Track → ℕ → List ℕ → Disk
replaced d t p bytes = record {
  heads = d.heads;
  sector = λ u q. cond (same_track u t && q == p) (with_data bytes (d.sector u q)) (d.sector u q);
}

abbrev pub written : Disk → Track → ℕ → List ℕ → Disk
written d t p bytes = cond (is_good (d.sector t p).id.condition) (replaced d t p bytes) d
