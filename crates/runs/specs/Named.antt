-- What may be changed: what the processor stored, and what an executed control block names for writing.
--   stores_to, processor_stored   whether a call is an accepted store to a place, and whether one of a list is
--   names_word   the words of a block's count, from its data address on
--   found_at, names_sector, some_below   a search finds a place; sector n of a block is at a place; one of the numbers below a bound passes a test
--   names_data   the data of the places that a block's argument finds under the heads, for its count, no sector above 59
--   names_by, names_for, names   what a block names: Read Data and status their words, Write Data its data, the others nothing
--   named        what one of the executed blocks names
--   Untouched    at the end of a run every place that is neither is as it was at the start, and so are IDs, heads, size, verdicts and device
use Rattle.std.specs.Prelude.{◌≡◌, ℕ, zero, suc, ◌+◌, ◌*◌, ◌%◌, Bool, false, ◌&&◌, ◌||◌, List, is_ok, Some, None, Ok, Err, Option, Result, ◌==◌, nat_le, nat_lt}
use Rattle.storage.specs.Memory.{Memory}
use Rattle.drive.specs.Disk.{Disk, same_track}
use Rattle.drive.specs.Search.{ids, searched, some_of}
use Rattle.drive.specs.declared.geometry.Track.{Track}
use Rattle.drive.specs.declared.search.NoRecord.{NoRecord}
use Rattle.card.specs.Acts.{World, Executed}
use Rattle.card.specs.Blocks.{modifier, sector, count, data_address, operation_of, argument}
use Rattle.runs.specs.Places.{Place, word_place, data_place, holds}
use Rattle.card.specs.Steps.{under_heads}
use Rattle.card.specs.declared.call.Call.{Call}
use Rattle.card.specs.declared.call.Call.TheVariants.{Command, Halt, Store, Readiness, Service, Step}
use Rattle.card.specs.declared.control_block.Block.{Block}
use Rattle.card.specs.declared.control_block.Operation.{Operation}
use Rattle.card.specs.declared.control_block.Operation.TheVariants.{Seek, Recalibrate, ReadData, WriteData, ReadVerify}
use Rattle.card.specs.declared.registers.Purpose.{Purpose}
use Rattle.card.specs.declared.registers.Purpose.TheVariants.{Operation as ForOperation, Status as ForStatus}

abbrev pub stores_to : Memory → Place → Call → Bool
stores_to m (word_place a) (Store b k x) = a == b && is_ok (m.stores b (k % 8))
stores_to m (word_place a) (Command f s p) = false
stores_to m (word_place a) Halt = false
stores_to m (word_place a) (Readiness r) = false
stores_to m (word_place a) Service = false
stores_to m (word_place a) Step = false
stores_to m (data_place t p) c = false

abbrev pub processor_stored : Memory → List Call → Place → Bool
processor_stored m calls pl = some_of (stores_to m pl) calls

abbrev pub names_word : Block → Place → Bool
names_word b (word_place a) = nat_le (data_address b) a && nat_lt a (data_address b + count b)
names_word b (data_place t p) = false

abbrev pub found_at : ℕ → Result ℕ NoRecord → Bool
found_at p (Ok q) = p == q
found_at p (Err e) = false

-- sector n of the block, if its count goes so far
abbrev pub names_sector : Disk → Block → Track → ℕ → ℕ → Bool
names_sector d b t p n = nat_lt (n * 256) (count b) && nat_le (sector b + n) 59 && found_at p (searched (argument b n) (ids d t))

-- whether one of the numbers below a bound passes a test
unfoldable pub some_below : (ℕ → Bool) → ℕ → Bool
some_below test zero = false
some_below test (suc n) = test n || some_below test n

abbrev pub names_data : Disk → Executed → Place → Bool
names_data d e (word_place a) = false
names_data d e (data_place t p) = same_track t (under_heads e.position) && some_below (names_sector d e.block t p) 60

abbrev pub names_by : Option Operation → Disk → Executed → Place → Bool
names_by (Some ReadData) d e pl = names_word e.block pl
names_by (Some WriteData) d e pl = names_data d e pl
names_by (Some ReadVerify) d e pl = false
names_by (Some Seek) d e pl = false
names_by (Some Recalibrate) d e pl = false
names_by None d e pl = false

abbrev pub names_for : Purpose → Disk → Executed → Place → Bool
names_for ForOperation d e pl = names_by (operation_of (modifier e.block)) d e pl
names_for ForStatus d e pl = names_word e.block pl

abbrev pub names : Disk → Place → Executed → Bool
names d pl e = names_for e.purpose d e pl

abbrev pub named : Disk → List Executed → Place → Bool
named d es pl = some_of (names d pl) es

pub record Untouched (w end : World) (calls : List Call) (es : List Executed) : Type 0 where
  pub places : (pl : Place) → processor_stored w.memory calls pl ≡ false → named w.disk es pl ≡ false → holds end pl ≡ holds w pl
  pub ids : (t : Track) (p : ℕ) → (end.disk.sector t p).id ≡ (w.disk.sector t p).id
  pub heads : end.disk.heads ≡ w.disk.heads
  pub size : end.memory.size ≡ w.memory.size
  pub reads : end.memory.reads ≡ w.memory.reads
  pub stores : end.memory.stores ≡ w.memory.stores
  pub device : end.device ≡ w.device
