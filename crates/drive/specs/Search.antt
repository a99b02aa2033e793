-- The search along a track.
--   ids          the sixty IDs of a track with their conditions, in order from index
--   is_spoiled   a spoiled ID
--   matches      a good ID that equals the argument
--   first_from   the place of the first of a list that passes a test, counted from a number on
--   some_of      whether one of a list passes a test
--   told         what is answered: the place, or that there is none
--   searched     the first place that matches; where there is none, whether a spoiled ID was passed
--   Holds        a place's ID is good and equals the argument
--   Found        what a place found is: it holds the argument, and none before it does
--   MissingBelow   what is known where none of the first places has the argument, with what is told of spoiled IDs
--   Missing      the same of all sixty
use Rattle.std.specs.Prelude.{◌≡◌, ℕ, ◌<◌, Bool, true, false, not, ◌&&◌, List, map, Some, None, Ok, Err, Decides, Option, Result}
use Rattle.std.specs.List.{range_with_len, list_any, position_from}
use Rattle.drive.specs.Disk.{Disk, is_good, same_id}
use Rattle.drive.specs.declared.geometry.Track.{Track}
use Rattle.drive.specs.declared.search.NoRecord.{NoRecord}
use Rattle.drive.specs.declared.sector.IdField.{IdField}
use Rattle.drive.specs.declared.sector.SectorId.{SectorId}

unfoldable pub ids : Disk → Track → List IdField
ids d t = map (λ p. (d.sector t p).id) (range_with_len 0 60)

abbrev pub matches : SectorId → IdField → Bool
matches argument f = is_good f.condition && same_id f.id argument

abbrev pub is_spoiled : IdField → Bool
is_spoiled f = not (is_good f.condition)

abbrev pub first_from : {X : Type 0} → (X → Bool) → ℕ → List X → Option ℕ
first_from = position_from

abbrev pub some_of : {X : Type 0} → (X → Bool) → List X → Bool
some_of = list_any

abbrev pub told : Bool → Option ℕ → Result ℕ NoRecord
told spoiled (Some p) = Ok p
told spoiled None = Err record { passed_spoiled = spoiled }

abbrev pub searched : SectorId → List IdField → Result ℕ NoRecord
searched argument fields = told (some_of is_spoiled fields) (first_from (matches argument) 0 fields)

pub record Holds (d : Disk) (t : Track) (argument : SectorId) (p : ℕ) : Type 0 where
  pub good : is_good (d.sector t p).id.condition ≡ true
  pub same : (d.sector t p).id.id ≡ argument

pub record Found (d : Disk) (t : Track) (argument : SectorId) (p : ℕ) : Type 0 where
  pub place : p < 60
  pub here : Holds d t argument p
  pub first : (q : ℕ) → q < p → Holds d t argument q → ⊥

pub record MissingBelow (n : ℕ) (d : Disk) (t : Track) (argument : SectorId) (passed : Bool) : Type 0 where
  pub none : (q : ℕ) → q < n → Holds d t argument q → ⊥
  -- one of the IDs is spoiled
  pub spoiled : Decides passed ((q : ℕ) × (q < n) × (is_good (d.sector t q).id.condition ≡ false))

abbrev pub Missing : Disk → Track → SectorId → Bool → Type 0
Missing = MissingBelow 60
