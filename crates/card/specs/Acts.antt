-- The language in which the rules are written: what the card asks of the world, and what it sends to it, in order.
--   World              what a run is over: the device address, the drive and the storage, by their meanings
--   Query              what can be looked at; Reply says what comes back
--   Sent               what can be sent: a word to an address, words to the data of a sector
--   spares_storage, spares_drive   whether none of the things sent goes to the storage, or to the drive
--   Act                a rule: it is done, or asks and goes on, or sends and goes on, or executes a control block and goes on
--   Executed           a control block executed: for which command, and where the heads were
--   answer             what a world replies to a query
--   bytes_of, padded   the bytes of words, high byte first; a short sector padded with zeros
--   put                a world after something was sent
--   Ended, ended       a result with the world after it
--   ends               what an act comes to in a world, and the world after it
--   looked             the queries that it asks there, in order
--   sent               what it sends there, in order
--   executed           the control blocks that it executes there, in order
--   then               one act after another
use Rattle.std.specs.Prelude.{ℕ, ◌/◌, ◌%◌, Bool, true, false, List, [], ◌∷◌, ◌++◌, take, replicate}
use Rattle.storage.specs.Memory.{Verdict, Memory, with_word}
use Rattle.drive.specs.Disk.{Disk, replaced}
use Rattle.drive.specs.Search.{ids}
use Rattle.drive.specs.declared.geometry.Track.{Track}
use Rattle.drive.specs.declared.sector.Condition.{Condition}
use Rattle.drive.specs.declared.sector.IdField.{IdField}
use Rattle.card.specs.declared.control_block.Block.{Block}
use Rattle.card.specs.declared.registers.Position.{Position}
use Rattle.card.specs.declared.registers.Purpose.{Purpose}

pub record World : Type 0 where
  pub device : ℕ
  pub disk : Disk
  pub memory : Memory

pub data Query : Type 0 where
  device_address : Query
  head_count : Query
  -- the word at an address, and the verdicts of reading and storing it with a key
  word_at : ℕ → Query
  reading : ℕ → ℕ → Query
  storing : ℕ → ℕ → Query
  -- the sixty IDs of a track with their conditions
  ids_of : Track → Query
  -- the condition and the bytes of the data of a place
  condition_of : Track → ℕ → Query
  data_of : Track → ℕ → Query

abbrev pub Reply : Query → Type 0
Reply device_address = ℕ
Reply head_count = ℕ
Reply (word_at a) = ℕ
Reply (reading a k) = Verdict
Reply (storing a k) = Verdict
Reply (ids_of t) = List IdField
Reply (condition_of t p) = Condition
Reply (data_of t p) = List ℕ

pub data Sent : Type 0 where
  to_word : ℕ → ℕ → Sent
  to_sector : Track → ℕ → List ℕ → Sent

-- a control block executed: for which command, and at which position of the heads
pub record Executed : Type 0 where
  pub purpose : Purpose
  pub block : Block
  pub position : Position

pub data Act (A : Type 0) : Type 0 where
  done : A → Act A
  ask : (q : Query) → (Reply q → Act A) → Act A
  send : Sent → Act A → Act A
  execute : Executed → Act A → Act A

-- none of the things sent goes to the storage; to the drive
abbrev pub spares_storage : List Sent → Bool
spares_storage [] = true
spares_storage (to_word a x ∷ ss) = false
spares_storage (to_sector t p ws ∷ ss) = spares_storage ss

abbrev pub spares_drive : List Sent → Bool
spares_drive [] = true
spares_drive (to_word a x ∷ ss) = spares_drive ss
spares_drive (to_sector t p ws ∷ ss) = false

abbrev pub answer : (q : Query) → World → Reply q
answer device_address w = w.device
answer head_count w = w.disk.heads
answer (word_at a) w = w.memory.words a
answer (reading a k) w = w.memory.reads a k
answer (storing a k) w = w.memory.stores a k
answer (ids_of t) w = ids w.disk t
answer (condition_of t p) w = (w.disk.sector t p).datum.condition
answer (data_of t p) w = (w.disk.sector t p).datum.bytes

-- the bytes of words, high byte first
unfoldable pub bytes_of : List ℕ → List ℕ
bytes_of [] = []
bytes_of (w ∷ ws) = w / 256 ∷ w % 256 ∷ bytes_of ws

-- a short sector is padded with zeros to 256 bytes
unfoldable pub padded : List ℕ → List ℕ
padded bytes = take 256 (bytes ++ replicate 256 0)

abbrev pub put : Sent → World → World
put (to_word a x) w = record { device = w.device; disk = w.disk; memory = with_word w.memory a x }
put (to_sector t p ws) w = record { device = w.device; disk = replaced w.disk t p (padded (bytes_of ws)); memory = w.memory }

pub record Ended (A : Type 0) : Type 0 where
  pub result : A
  pub world : World

abbrev pub ended : {A : Type 0} → A → World → Ended A
ended x w = record { result = x; world = w }

-- the world of a device address, a drive and a storage
abbrev pub world : ℕ → Disk → Memory → World
world v d m = record { device = v; disk = d; memory = m }

abbrev pub ends : {A : Type 0} → Act A → World → Ended A
ends (done x) w = record { result = x; world = w }
ends (ask q k) w = ends (k (answer q w)) w
ends (send s a) w = ends a (put s w)
ends (execute e a) w = ends a w

unfoldable pub looked : {A : Type 0} → Act A → World → List Query
looked (done x) w = []
looked (ask q k) w = q ∷ looked (k (answer q w)) w
looked (send s a) w = looked a (put s w)
looked (execute e a) w = looked a w

abbrev pub sent : {A : Type 0} → Act A → World → List Sent
sent (done x) w = []
sent (ask q k) w = sent (k (answer q w)) w
sent (send s a) w = s ∷ sent a (put s w)
sent (execute e a) w = sent a w

unfoldable pub executed : {A : Type 0} → Act A → World → List Executed
executed (done x) w = []
executed (ask q k) w = executed (k (answer q w)) w
executed (send s a) w = executed a (put s w)
executed (execute e a) w = e ∷ executed a w

abbrev pub then : {A B : Type 0} → Act A → (A → Act B) → Act B
then (done x) f = f x
then (ask q k) f = ask q (λ r. then (k r) f)
then (send s a) f = send s (then a f)
then (execute e a) f = execute e (then a f)
