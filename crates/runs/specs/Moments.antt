-- The law's words said by themselves: of a moment of a run and the next call, what that call looks at, executes and sends.
--   Moment, moments    the card and the world that the calls so far made, with the next call; the moments of a run, in order
--   doing              what the next call has in hand: the card's state at a step while no interrupt waits (unless_waiting), and else nothing
--   words_asked, address_of, status_of, track_under   the words that a sector's count asks for and where they begin; the status words; the track under the heads
--   can_read, can_store   whether a word may be read or stored with a key
--   words_from, allowed_from, Tried   the words from an address on; whether each of them is allowed; one of them is tried: all before it were allowed
--   block_from         the block at an address
--   head_fits, passes_as, passes   whether a block passes the check, the head of a seek included
--   executes_in, executes_at   the block that the call executes: fetched whole and past the check
--   while_allowed      words sent to storage one after the other, until one is not allowed
--   searches, search_result   whether a search is made; the place that a sector's argument finds under the heads, if any
--   read_sends, write_sends, place_sends, found_sends   what a sector step sends: Read Data its words, until one is not allowed; Write Data all its words or nothing
--   sends_in, store_sends, sends_at   what the call sends: by the step in hand; an accepted store its word
--   Finds              an operation's search finds a place
--   TriesRead, TriesStore, ProcessorTries   which words' verdicts are asked for: by reads and stores of the step in hand, by the processor's store
--   OfSector           what is so of the sector in hand
--   LooksIn, MayLook   what the call may look at
--   AllOf, of_all      each element of a list is so; what the elements of a list give, in order
--   looks_at           what the call looks at: the questions of its rule
--   Audited            a call looks at nothing but what it may, and its rule executes and sends exactly this
--   looked_in, executed_in, sent_in   what a run of calls from a start looks at, executes and sends, in order
use Rattle.std.specs.Prelude.{◌≡◌, ℕ, zero, suc, ◌+◌, ◌-◌, ◌*◌, ◌/◌, ◌%◌, min, Bool, true, false, cond, not, ◌&&◌, ◌⊎◌, List, [], ◌∷◌, ◌++◌, take, is_ok, Some, None, Ok, Err, Option, Result, ◌==◌, nat_lt}
use Rattle.drive.specs.Disk.{is_good}
use Rattle.drive.specs.Search.{ids, searched}
use Rattle.drive.specs.declared.geometry.Track.{Track}
use Rattle.drive.specs.declared.search.NoRecord.{NoRecord}
use Rattle.card.specs.Acts.{World, Query, device_address, head_count, word_at, reading, storing, ids_of, condition_of, data_of, Sent, to_word, to_sector, Executed, ends, looked, sent, executed}
use Rattle.card.specs.Blocks.{even, key, modifier, head, count, data_address, operation_of, lawful, lawful_status, argument}
use Rattle.card.specs.Calls.{new_card}
use Rattle.card.specs.Rules.{call}
use Rattle.card.specs.Words.{words_of}
use Rattle.card.specs.declared.call.Call.{Call}
use Rattle.card.specs.declared.call.Call.TheVariants.{Command, Halt, Store, Readiness, Service, Step}
use Rattle.card.specs.declared.control_block.Block.{Block}
use Rattle.card.specs.declared.control_block.Operation.{Operation}
use Rattle.card.specs.declared.control_block.Operation.TheVariants.{Seek, Recalibrate, ReadData, WriteData, ReadVerify}
use Rattle.card.specs.declared.registers.Card.{Card}
use Rattle.card.specs.declared.registers.Position.{Position}
use Rattle.card.specs.declared.registers.Purpose.{Purpose}
use Rattle.card.specs.declared.registers.Purpose.TheVariants.{Operation as ForOperation, Status as ForStatus}
use Rattle.card.specs.declared.registers.State.{State}
use Rattle.card.specs.declared.registers.State.TheVariants.{Idle, Fetching, Moving, Sector, Status}
use Rattle.answers.specs.declared.waiting.Waiting.{Waiting}

pub record Moment : Type 0 where
  pub card : Card
  pub world : World
  pub next : Call

unfoldable pub moments : Card → World → List Call → List Moment
moments c w [] = []
moments c w (x ∷ xs) = record { card = c; world = w; next = x } ∷ moments (ends (call c x) w).result.card (ends (call c x) w).world xs

abbrev pub unless_waiting : Option Waiting → State → State
unless_waiting None s = s
unless_waiting (Some v) s = Idle

abbrev pub doing : Card → Call → State
doing c Step = unless_waiting c.waiting c.state
doing c (Command first second parity) = Idle
doing c Halt = Idle
doing c (Store a k x) = Idle
doing c (Readiness r) = Idle
doing c Service = Idle

-- words

-- how many words of sector n the count asks for, at most a sector's 128, and where in storage they begin
abbrev pub words_asked : Block → ℕ → ℕ
words_asked b n = min (count b - n * 256) 256 / 2

abbrev pub address_of : Block → ℕ → ℕ
address_of b n = data_address b + n * 256

-- status words 0 to 3
abbrev pub status_of : Card → List ℕ
status_of c = c.residual ∷ c.errors ∷ c.write_sector ∷ 0 ∷ []

-- the track under the heads
abbrev pub track_under : Position → Track
track_under p = record { cylinder = p.cylinder; head = p.head }

abbrev pub can_read : World → ℕ → ℕ → Bool
can_read w k a = is_ok (w.memory.reads a k)

abbrev pub can_store : World → ℕ → ℕ → Bool
can_store w k a = is_ok (w.memory.stores a k)

unfoldable pub words_from : (ℕ → ℕ) → ℕ → ℕ → List ℕ
words_from words a zero = []
words_from words a (suc n) = words a ∷ words_from words (a + 2) n

unfoldable pub allowed_from : (ℕ → Bool) → ℕ → ℕ → Bool
allowed_from can a zero = true
allowed_from can a (suc n) = can a && allowed_from can (a + 2) n

unfoldable pub Tried : (ℕ → Bool) → ℕ → ℕ → ℕ → Type 0
Tried can a zero x = ⊥
Tried can a (suc n) x = (x ≡ a) ⊎ ((can a ≡ true) × Tried can (a + 2) n x)

-- the block that is executed

abbrev pub block_from : World → ℕ → Block
block_from w a = record { address = a; words = words_from w.memory.words a 8 }

-- the head of a seek is on the drive
abbrev pub head_fits : ℕ → Operation → Block → Bool
head_fits heads Seek b = nat_lt (head b) heads
head_fits heads Recalibrate b = true
head_fits heads ReadData b = true
head_fits heads WriteData b = true
head_fits heads ReadVerify b = true

abbrev pub passes_as : ℕ → Option Operation → Block → Bool
passes_as heads (Some o) b = lawful o b && head_fits heads o b
passes_as heads None b = false

abbrev pub passes : ℕ → Purpose → Block → Bool
passes heads ForOperation b = passes_as heads (operation_of (modifier b)) b
passes heads ForStatus b = lawful_status b

abbrev pub executes_in : State → Position → World → List Executed
executes_in (Fetching p a) q w =
    cond (even a && allowed_from (can_read w 0) a 8 && passes w.disk.heads p (block_from w a))
    (record { purpose = p; block = block_from w a; position = q } ∷ []) []
executes_in Idle q w = []
executes_in (Moving b) q w = []
executes_in (Sector b n) q w = []
executes_in (Status b) q w = []

abbrev pub executes_at : Moment → List Executed
executes_at m = executes_in (doing m.card m.next) m.card.position m.world

-- what is sent

unfoldable pub while_allowed : (ℕ → Bool) → ℕ → List ℕ → List Sent
while_allowed can a [] = []
while_allowed can a (x ∷ xs) = cond (can a) (to_word a x ∷ while_allowed can (a + 2) xs) []

-- a search is made by a sector step of a ready unit, unless the count is zero
abbrev pub searches : Card → Block → Bool
searches c b = c.ready && not (count b == 0)

abbrev pub search_result : Card → World → Block → ℕ → Result ℕ NoRecord
search_result c w b n = searched (argument b n) (ids w.disk (track_under c.position))

abbrev pub read_sends : Card → World → Block → ℕ → ℕ → List Sent
read_sends c w b n p =
    cond (is_good (w.disk.sector (track_under c.position) p).datum.condition)
    (while_allowed (can_store w (key b % 8)) (address_of b n) (take (words_asked b n) (words_of (w.disk.sector (track_under c.position) p).datum.bytes))) []

abbrev pub write_sends : Card → World → Block → ℕ → ℕ → List Sent
write_sends c w b n p =
    cond (allowed_from (can_read w (key b % 8)) (address_of b n) (words_asked b n))
    (to_sector (track_under c.position) p (words_from w.memory.words (address_of b n) (words_asked b n)) ∷ []) []

abbrev pub place_sends : Option Operation → Card → World → Block → ℕ → ℕ → List Sent
place_sends (Some ReadData) c w b n p = read_sends c w b n p
place_sends (Some WriteData) c w b n p = write_sends c w b n p
place_sends (Some ReadVerify) c w b n p = []
place_sends (Some Seek) c w b n p = []
place_sends (Some Recalibrate) c w b n p = []
place_sends None c w b n p = []

abbrev pub found_sends : Option Operation → Card → World → Block → ℕ → Result ℕ NoRecord → List Sent
found_sends o c w b n (Ok p) = place_sends o c w b n p
found_sends o c w b n (Err e) = []

abbrev pub sends_in : State → Card → World → List Sent
sends_in (Sector b n) c w = cond (searches c b) (found_sends (operation_of (modifier b)) c w b n (search_result c w b n)) []
sends_in (Status b) c w = while_allowed (can_store w (key b % 8)) (data_address b) (take (count b / 2) (status_of c))
sends_in Idle c w = []
sends_in (Fetching p a) c w = []
sends_in (Moving b) c w = []

-- an accepted store sends its word
abbrev pub store_sends : Call → World → List Sent
store_sends (Store a k x) w = cond (can_store w (k % 8) a) (to_word a x ∷ []) []
store_sends (Command first second parity) w = []
store_sends Halt w = []
store_sends (Readiness r) w = []
store_sends Service w = []
store_sends Step w = []

abbrev pub sends_at : Moment → List Sent
sends_at m = store_sends m.next m.world ++ sends_in (doing m.card m.next) m.card m.world

-- what may be looked at

pub record Finds (c : Card) (w : World) (b : Block) (n : ℕ) (o : Operation) (p : ℕ) : Type 0 where
  pub made : searches c b ≡ true
  pub operation : operation_of (modifier b) ≡ Some o
  pub place : search_result c w b n ≡ Ok p

-- the verdict of a read: of a block's eight words with key 0, of the words that Write Data fetches
abbrev pub TriesRead : State → Card → World → ℕ → ℕ → Type 0
TriesRead (Fetching p s) c w k a = (even s ≡ true) × (k ≡ 0) × Tried (can_read w 0) s 8 a
TriesRead (Sector b n) c w k a = ((p : ℕ) × Finds c w b n WriteData p) × (k ≡ key b % 8) × Tried (can_read w (key b % 8)) (address_of b n) (words_asked b n) a
TriesRead Idle c w k a = ⊥
TriesRead (Moving b) c w k a = ⊥
TriesRead (Status b) c w k a = ⊥

-- the verdict of a store: of the words that Read Data stores from good data, of the status words
abbrev pub TriesStore : State → Card → World → ℕ → ℕ → Type 0
TriesStore (Sector b n) c w k a =
    ((p : ℕ) × Finds c w b n ReadData p × (is_good (w.disk.sector (track_under c.position) p).datum.condition ≡ true))
    × (k ≡ key b % 8) × Tried (can_store w (key b % 8)) (address_of b n) (words_asked b n) a
TriesStore (Status b) c w k a = (k ≡ key b % 8) × Tried (can_store w (key b % 8)) (data_address b) (count b / 2) a
TriesStore Idle c w k a = ⊥
TriesStore (Fetching p s) c w k a = ⊥
TriesStore (Moving b) c w k a = ⊥

-- the processor's own store
abbrev pub ProcessorTries : Call → ℕ → ℕ → Type 0
ProcessorTries (Store b l x) k a = (k ≡ l % 8) × (a ≡ b)
ProcessorTries (Command first second parity) k a = ⊥
ProcessorTries Halt k a = ⊥
ProcessorTries (Readiness r) k a = ⊥
ProcessorTries Service k a = ⊥
ProcessorTries Step k a = ⊥

-- what is so of the sector in hand, if one is
abbrev pub OfSector : State → (Block → ℕ → Type 0) → Type 0
OfSector (Sector b n) So = So b n
OfSector Idle So = ⊥
OfSector (Fetching p a) So = ⊥
OfSector (Moving b) So = ⊥
OfSector (Status b) So = ⊥

abbrev pub LooksIn : State → Call → Card → World → Query → Type 0
LooksIn s x c w device_address = Unit {0}
LooksIn s x c w head_count = Unit {0}
LooksIn s x c w (reading a k) = TriesRead s c w k a
-- a word is read where its read is tried and allowed
LooksIn s x c w (word_at a) = (k : ℕ) × TriesRead s c w k a × (can_read w k a ≡ true)
LooksIn s x c w (storing a k) = ProcessorTries x k a ⊎ TriesStore s c w k a
LooksIn s x c w (ids_of t) = OfSector s (λ b n. (searches c b ≡ true) × (t ≡ track_under c.position))
LooksIn s x c w (condition_of t p) = OfSector s (λ b n. (t ≡ track_under c.position) × (Finds c w b n ReadData p ⊎ Finds c w b n ReadVerify p))
LooksIn s x c w (data_of t p) = OfSector s (λ b n. (t ≡ track_under c.position) × Finds c w b n ReadData p × (is_good (w.disk.sector t p).datum.condition ≡ true))

abbrev pub MayLook : Moment → Query → Type 0
MayLook m q = LooksIn (doing m.card m.next) m.next m.card m.world q

-- the audit

unfoldable pub AllOf : {X : Type 0} → (X → Type 0) → List X → Type 0
AllOf P [] = Unit {0}
AllOf P (x ∷ xs) = P x × AllOf P xs

unfoldable pub of_all : {X Y : Type 0} → (X → List Y) → List X → List Y
of_all f [] = []
of_all f (x ∷ xs) = f x ++ of_all f xs

abbrev pub looks_at : Moment → List Query
looks_at m = looked (call m.card m.next) m.world

pub record Audited (m : Moment) : Type 0 where
  pub looks : AllOf (MayLook m) (looks_at m)
  pub executes : executed (call m.card m.next) m.world ≡ executes_at m
  pub sends : sent (call m.card m.next) m.world ≡ sends_at m

-- what a run of calls from a start looks at, executes and sends, in order

abbrev pub looked_in : World → List Call → List Query
looked_in w calls = of_all looks_at (moments new_card w calls)

abbrev pub executed_in : World → List Call → List Executed
executed_in w calls = of_all executes_at (moments new_card w calls)

abbrev pub sent_in : World → List Call → List Sent
sent_in w calls = of_all sends_at (moments new_card w calls)
