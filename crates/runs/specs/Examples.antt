-- Ten runs to remember, as one table: each is a list of calls over a card started new, with what is seen at its end.
--   Row           a run: the world it starts in, its calls, what of its end is looked at, and what that has to be
--   MarkedRuns    at the end of each run of the table one sees what one has to see
--   FurtherRuns   so one does with three of them again, on another track, with a key, and with the status words asked for
use Rattle.std.specs.Prelude.{◌≡◌, ℕ, ◌+◌, ◌*◌, ◌/◌, ◌%◌, true, cond, List, [], ◌∷◌, ◌++◌, map, replicate, Some, None, Ok, ◌==◌, slice_index_or}
use Rattle.storage.specs.Makes.{inside}
use Rattle.storage.specs.Memory.{Memory}
use Rattle.drive.specs.Disk.{Sector, Disk, on_drive, blank}
use Rattle.drive.specs.declared.geometry.Track.{Track}
use Rattle.drive.specs.declared.sector.Condition.TheVariants.{Good}
use Rattle.card.specs.Acts.{World, Ended, ends}
use Rattle.card.specs.Calls.{new_card}
use Rattle.answers.specs.Exceptions.{exception_number, answer_number}
use Rattle.runs.specs.Runs.{Ran, run}
use Rattle.answers.specs.declared.answer.Answer.{Answer}
use Rattle.answers.specs.declared.answer.Answer.TheVariants.{Accepted, CommandRefused, Done, StoreRefused, Interrupt, NothingWaits, Stepped, Ended as EndedBy, Idle}
use Rattle.card.specs.declared.call.Call.{Call}
use Rattle.card.specs.declared.call.Call.TheVariants.{Command, Store, Readiness, Service, Step}

-- plain storage of 65,536 bytes, all words zero
abbrev pub empty_memory : Memory
empty_memory = record {
  size = 65536;
  words = λ a. 0;
  reads = λ a k. inside 65536 a (Ok tt);
  stores = λ a k. inside 65536 a (Ok tt);
}

-- a sector of a fresh track: the even places carry 0 to 29, the odd ones 30 to 59
abbrev pub fresh_at : Track → ℕ → Sector
fresh_at t p = record {
  id = record { id = record { flag = 0; cylinder = t.cylinder; head = t.head; sector = cond (p % 2 == 0) (p / 2) (30 + p / 2) }; condition = Good };
  datum = record { bytes = replicate 256 0; condition = Good };
}

-- a drive of two heads, all its tracks fresh
abbrev pub fresh_disk : Disk
fresh_disk = record { heads = 2; sector = λ t p. cond (on_drive 2 t p) (fresh_at t p) blank }

abbrev pub fresh : ℕ → World
fresh device = record { device = device; disk = fresh_disk; memory = empty_memory }

-- a control block's words, stored from an address on
abbrev pub stores : ℕ → List ℕ → List Call
stores a [] = []
stores a (x ∷ xs) = Store a 0 x ∷ stores (a + 2) xs

-- the unit ready, then interrupts enabled
abbrev pub readied : List Call
readied = Readiness true ∷ Command 0x6000 0x0001 true ∷ []

-- a block at X0100 is started and stepped through
abbrev pub started : List ℕ → List Call → List Call
started words steps = stores 0x0100 words ++ Command 0x7000 0x0100 true ∷ steps

-- Seek with a seek control word and a head: a step fetches, a step moves
abbrev pub seek : ℕ → ℕ → List Call
seek control head = started (0x0005 ∷ control ∷ 0 ∷ 0 ∷ head * 256 ∷ 0 ∷ 0 ∷ 0 ∷ []) (Step ∷ Step ∷ Service ∷ [])

-- X0102 bytes from X0200, at a sector of cylinder 0, head 0
abbrev pub writing : ℕ → List Call
writing sector = Store 0x0200 0 0x1234 ∷ Store 0x0300 0 0xABCD
    ∷ started (0x0001 ∷ 0 ∷ 0 ∷ 0 ∷ sector ∷ 0 ∷ 0x0102 ∷ 0x0200 ∷ []) (Step ∷ Step ∷ Step ∷ [])

abbrev pub position : Ended Ran → List ℕ
position e = e.result.card.position.cylinder ∷ e.result.card.position.head ∷ []

-- the number of an exception, and zero for every other answer
abbrev pub number_of : Answer → ℕ
number_of (EndedBy x b) = exception_number x
number_of (Accepted w) = 0
number_of (CommandRefused r) = 0
number_of Done = 0
number_of (StoreRefused f) = 0
number_of (Interrupt w) = 0
number_of NothingWaits = 0
number_of Stepped = 0
number_of Idle = 0

-- the answer to the call with a number, counted from 0
abbrev pub answered : Ended Ran → ℕ → ℕ
answered e i = number_of (slice_index_or e.result.answers i Done)

-- the data of a place of cylinder 0, head 0
abbrev pub data_at : Ended Ran → ℕ → List ℕ
data_at e p = (e.world.disk.sector record { cylinder = 0; head = 0 } p).datum.bytes

abbrev pub waiting_words : Ended Ran → List ℕ
waiting_words e = elim e.result.card.waiting [ Some w ↦ w.code ∷ w.id_word ∷ [] | None ↦ [] ]

pub record Row : Type 0 where
  pub world : World
  pub calls : List Call
  pub seen : Ended Ran → List ℕ
  pub due : List ℕ

abbrev pub row : List Call → (Ended Ran → List ℕ) → List ℕ → Row
row calls seen due = record { world = fresh 0; calls = calls; seen = seen; due = due }

unfoldable pub marked_runs : List Row
marked_runs =
    -- Prepare X0007 enables level 3
    row (Command 0x6000 0x0007 true ∷ []) (λ e. e.result.card.level ∷ cond e.result.card.enabled 1 0 ∷ []) (3 ∷ 1 ∷ [])
    -- Seek X000A from cylinder 10 lands on 20
    ∷ row (readied ++ seek 0x000A 0 ++ seek 0x000A 0) position (20 ∷ 0 ∷ [])
    -- X080A from cylinder 10 lands on 0, with the named head
    ∷ row (readied ++ seek 0x000A 0 ++ seek 0x080A 1) position (0 ∷ 1 ∷ [])
    -- X080B from cylinder 10 lands on 0, with head 0
    ∷ row (readied ++ seek 0x000A 0 ++ seek 0x080B 1) position (0 ∷ 0 ∷ [])
    -- X0002 from cylinder 300 lands on 302
    ∷ row (readied ++ seek 0x012C 0 ++ seek 0x0002 1) position (302 ∷ 1 ∷ [])
    -- X0003 from cylinder 300 is a seek check, and nothing moves
    ∷ row (readied ++ seek 0x012C 0 ++ seek 0x0003 1) (λ e. answered e 24 ∷ position e) (18 ∷ 300 ∷ 0 ∷ [])
    -- Write Data of X0102 bytes at sector 5 writes two sectors, the second with 254 zeros; status word 2 is 7
    ∷ row (readied ++ writing 5) (λ e. e.result.card.write_sector ∷ answered e 15 ∷ data_at e 10 ++ data_at e 12)
    (7 ∷ 0 ∷ 0x12 ∷ 0x34 ∷ replicate 254 0 ++ 0xAB ∷ 0xCD ∷ replicate 254 0)
    -- at sector 59 it writes one, then the track ends; status word 2 is 59
    ∷ row (readied ++ writing 59) (λ e. e.result.card.write_sector ∷ answered e 14 ∷ data_at e 59) (59 ∷ 17 ∷ 0x12 ∷ 0x34 ∷ replicate 254 0)
    -- a specification check on device X03 gives the ID word X1003
    ∷ record { world = fresh 3; calls = Command 0x7003 0x0101 true ∷ Step ∷ []; seen = waiting_words; due = 2 ∷ 0x1003 ∷ [] }
    -- Read Data of 4 bytes to XFFFE stores one word, then the address is invalid
    ∷ row (Store 0xFFFE 0 0x5555 ∷ readied ++ started (0x2009 ∷ 0 ∷ 0 ∷ 0 ∷ 0 ∷ 0 ∷ 4 ∷ 0xFFFE ∷ []) (Step ∷ Step ∷ []))
    (λ e. e.world.memory.words 0xFFFE ∷ answered e 13 ∷ e.result.card.residual ∷ []) (0 ∷ 13 ∷ 0xFFFE ∷ [])
    ∷ []

abbrev pub seen_in : Row → List ℕ
seen_in r = r.seen (ends (run new_card r.calls) r.world)

abbrev pub MarkedRuns : Type 0
MarkedRuns = map seen_in marked_runs ≡ map (λ r. r.due) marked_runs

-- X0102 bytes from X0200 with key 5, at a sector of cylinder 3, head 1, after a seek to it; the word behind them is not theirs
abbrev pub writing_there : ℕ → List Call
writing_there sector = seek 0x0003 1 ++ Store 0x0200 0 0x1234 ∷ Store 0x02FE 0 0x5678 ∷ Store 0x0300 0 0xABCD ∷ Store 0x0302 0 0x9999
    ∷ started (0x0501 ∷ 0 ∷ 0 ∷ 3 ∷ (0x0100 + sector) ∷ 0 ∷ 0x0102 ∷ 0x0200 ∷ []) (Step ∷ Step ∷ Step ∷ [])

-- the status words, sent to X0400
abbrev pub asking_status : List Call
asking_status = Service ∷ stores 0x0180 (0x2000 ∷ 0 ∷ 0 ∷ 0 ∷ 0 ∷ 0 ∷ 8 ∷ 0x0400 ∷ []) ++ Command 0x7F00 0x0180 true ∷ Step ∷ Step ∷ []

-- a word of X1234 goes to sector 0 of cylinder 0, head 0
abbrev pub writing_one : List Call
writing_one = Store 0x0200 0 0x1234 ∷ started (0x0001 ∷ 0 ∷ 0 ∷ 0 ∷ 0 ∷ 0 ∷ 2 ∷ 0x0200 ∷ []) (Step ∷ Step ∷ Service ∷ [])

abbrev pub numbered : Ended Ran → ℕ → ℕ
numbered e i = answer_number (slice_index_or e.result.answers i Done)

-- the data of a place of cylinder 3, head 1
abbrev pub data_there : Ended Ran → ℕ → List ℕ
data_there e p = (e.world.disk.sector record { cylinder = 3; head = 1 } p).datum.bytes

abbrev pub word_at : Ended Ran → ℕ → ℕ
word_at e a = e.world.memory.words a

unfoldable pub further_runs : List Row
further_runs =
    -- Write Data of X0102 bytes at sector 5 writes two sectors, the second with 254 zeros; status word 2 is 7
    row (readied ++ writing_there 5) (λ e. e.result.card.write_sector ∷ numbered e 29 ∷ data_there e 10 ++ data_there e 12)
    (7 ∷ 0 ∷ 0x12 ∷ 0x34 ∷ replicate 252 0 ++ 0x56 ∷ 0x78 ∷ 0xAB ∷ 0xCD ∷ replicate 254 0)
    -- at sector 59 it writes one, then the track ends; the status words are asked for, and word 2 is 59
    ∷ row (readied ++ writing_there 59 ++ asking_status) (λ e. numbered e 28 ∷ word_at e 0x0400 ∷ word_at e 0x0402 ∷ word_at e 0x0404 ∷ word_at e 0x0406 ∷ data_there e 59)
    (17 ∷ 0x02FE ∷ 0x8000 ∷ 59 ∷ 0 ∷ 0x12 ∷ 0x34 ∷ replicate 252 0 ++ 0x56 ∷ 0x78 ∷ [])
    ∷ row (Store 0xFFFE 0 0x5555 ∷ readied ++ writing_one ++ started (0x2009 ∷ 0 ∷ 0 ∷ 0 ∷ 0 ∷ 0 ∷ 4 ∷ 0xFFFE ∷ []) (Step ∷ Step ∷ []))
    (λ e. word_at e 0xFFFE ∷ numbered e 26 ∷ e.result.card.residual ∷ []) (0x1234 ∷ 13 ∷ 0xFFFE ∷ [])
    ∷ []

abbrev pub FurtherRuns : Type 0
FurtherRuns = map seen_in further_runs ≡ map (λ r. r.due) further_runs
