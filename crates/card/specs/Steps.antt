-- What a step does: it fetches and checks a control block, moves the heads, does one sector, or sends status.
--   failed, finished    how a step ends a chain by an exception, and how it ends a block well
--   fetch               the fetch of a block and its check
--   destination, move   where a seek lands; the step that moves the heads
--   sector_step         one sector of a data operation
--   status_words, send_status   the status words, and the step that sends them
--   step                the step, by the card's state
use Rattle.std.specs.Prelude.{ℕ, ◌+◌, ◌-◌, ◌*◌, ◌/◌, min, Bool, true, false, cond, List, [], ◌∷◌, take, Some, None, Ok, Err, Option, Result, ◌==◌, bit_or, nat_le, nat_lt}
use Rattle.drive.specs.Disk.{is_good}
use Rattle.drive.specs.Search.{searched}
use Rattle.drive.specs.declared.geometry.Track.{Track}
use Rattle.drive.specs.declared.search.NoRecord.{NoRecord}
use Rattle.card.specs.Acts.{Act, done, ask, send, execute, then, device_address, head_count, ids_of, condition_of, data_of, to_sector}
use Rattle.card.specs.Blocks.{even, chaining, key, modifier, downward, difference, head, chain, count, data_address, operation_of, lawful, lawful_status, sector_now, argument, left}
use Rattle.card.specs.Calls.{Turn, turn, in_state, with_waiting, with_errors, with_residual, with_write_sector, at_position, interrupt}
use Rattle.answers.specs.Exceptions.{status_byte, reasons}
use Rattle.card.specs.Words.{Moved, Fetched, fetch_words, store_words, words_of}
use Rattle.answers.specs.declared.answer.Answer.TheVariants.{Stepped, Ended, Idle as NothingToDo}
use Rattle.answers.specs.declared.answer.Exception.{Exception}
use Rattle.answers.specs.declared.answer.Exception.TheVariants.{SpecificationCheck, Storage, NoRecordFound, FileDataCheck, EndOfTrack, SeekCheck, NotReady}
use Rattle.card.specs.declared.control_block.Block.{Block}
use Rattle.card.specs.declared.control_block.Operation.{Operation}
use Rattle.card.specs.declared.control_block.Operation.TheVariants.{Seek, Recalibrate, ReadData, WriteData, ReadVerify}
use Rattle.card.specs.declared.registers.Card.{Card}
use Rattle.card.specs.declared.registers.Position.{Position}
use Rattle.card.specs.declared.registers.Purpose.{Purpose}
use Rattle.card.specs.declared.registers.Purpose.TheVariants.{Operation as ForOperation, Status as ForStatus}
use Rattle.card.specs.declared.transfer.Stopped.{Stopped}
use Rattle.card.specs.declared.registers.State.{State}
use Rattle.card.specs.declared.registers.State.TheVariants.{Idle, Fetching, Moving, Sector, Status}

-- an exception ends the chain; what is already done stands
abbrev pub failed_turn : ℕ → Bool → Card → ℕ → Exception → Turn
failed_turn device spoiled c address e =
    turn (with_waiting (interrupt 2 (status_byte e) device) (with_errors (bit_or c.errors (reasons spoiled e)) (in_state Idle c))) (Ended e address)

abbrev pub failed_passing : Bool → Card → ℕ → Exception → Act Turn
failed_passing spoiled c address e = ask device_address (λ v. done (failed_turn v spoiled c address e))

abbrev pub failed : Card → ℕ → Exception → Act Turn
failed c address e = failed_passing false c address e

-- a block that ended well: the next one of the chain is to be fetched, or device end waits
abbrev pub chained_turn : Card → Block → Turn
chained_turn c b = turn (in_state (Fetching ForOperation (chain b)) c) Stepped

abbrev pub device_end : ℕ → Card → Turn
device_end device c = turn (with_waiting (interrupt 3 0 device) (in_state Idle c)) Stepped

abbrev pub finished : Card → Block → Act Turn
finished c b = cond (chaining b) (done (chained_turn c b)) (ask device_address (λ v. done (device_end v c)))

abbrev pub executes : Purpose → Card → Block → State → Act Turn
executes p c b s = execute record { purpose = p; block = b; position = c.position } (done (turn (in_state s c) Stepped))

-- the head of a seek has to be on the drive; no other operation looks at the head count
abbrev pub checked_head : Card → Block → Operation → Act Turn
checked_head c b Seek = ask head_count (λ h. cond (nat_lt (head b) h) (executes ForOperation c b (Moving b)) (failed c b.address SpecificationCheck))
checked_head c b Recalibrate = executes ForOperation c b (Moving b)
checked_head c b ReadData = executes ForOperation c b (Sector b 0)
checked_head c b WriteData = executes ForOperation c b (Sector b 0)
checked_head c b ReadVerify = executes ForOperation c b (Sector b 0)

abbrev pub checked_operation : Card → Block → Option Operation → Act Turn
checked_operation c b (Some o) = cond (lawful o b) (checked_head c b o) (failed c b.address SpecificationCheck)
checked_operation c b None = failed c b.address SpecificationCheck

abbrev pub checked : Purpose → Card → Block → Act Turn
checked ForOperation c b = checked_operation c b (operation_of (modifier b))
checked ForStatus c b = cond (lawful_status b) (executes ForStatus c b (Status b)) (failed c b.address SpecificationCheck)

-- what Start Cycle Steal Status fetches does not count for the residual address
abbrev pub residual_for : Purpose → Card → ℕ → Card
residual_for ForOperation c r = with_residual r c
residual_for ForStatus c r = c

abbrev pub fetched : Purpose → Card → ℕ → List ℕ → Option Stopped → Act Turn
fetched p c a words (Some s) = failed c a (Storage s.fault s.address)
fetched p c a words None = checked p c record { address = a; words = words }

-- eight words with key 0; an odd address is a specification check before any fetch
abbrev pub fetch : Purpose → Card → ℕ → Act Turn
fetch p c a =
    cond (even a)
    (then (fetch_words 8 a 0 c.residual) (λ f. fetched p (residual_for p c f.moved.residual) a f.words f.moved.stopped))
    (failed c a SpecificationCheck)

-- downward past cylinder 0 a seek ends at cylinder 0, head 0; upward past 302 it lands nowhere
abbrev pub sought : Position → Block → Option Position
sought p b =
    cond (downward b)
    (cond (nat_lt p.cylinder (difference b))
    (Some record { cylinder = 0; head = 0 })
    (Some record { cylinder = p.cylinder - difference b; head = head b }))
    (cond (nat_le (p.cylinder + difference b) 302)
    (Some record { cylinder = p.cylinder + difference b; head = head b })
    None)

abbrev pub destination : Position → Block → Option Operation → Option Position
destination p b (Some Seek) = sought p b
destination p b (Some Recalibrate) = Some record { cylinder = 0; head = 0 }
destination p b (Some ReadData) = Some p
destination p b (Some WriteData) = Some p
destination p b (Some ReadVerify) = Some p
destination p b None = Some p

abbrev pub landed : Card → Block → Option Position → Act Turn
landed c b (Some p) = finished (at_position p c) b
landed c b None = failed c b.address SeekCheck

abbrev pub move : Card → Block → Act Turn
move c b = cond c.ready (landed c b (destination c.position b (operation_of (modifier b)))) (failed c b.address NotReady)

-- the track under the heads
abbrev pub under_heads : Position → Track
under_heads p = record { cylinder = p.cylinder; head = p.head }

abbrev pub is_write : Option Operation → Bool
is_write (Some WriteData) = true
is_write (Some ReadData) = false
is_write (Some ReadVerify) = false
is_write (Some Seek) = false
is_write (Some Recalibrate) = false
is_write None = false

-- status word 2 of a write that ends at a sector; other operations leave it
abbrev pub write_ends : Block → ℕ → Card → Card
write_ends b s c = cond (is_write (operation_of (modifier b))) (with_write_sector s c) c

-- a sector step that fails
abbrev pub sector_failed_passing : Bool → Card → Block → ℕ → Exception → Act Turn
sector_failed_passing spoiled c b n e = failed_passing spoiled (write_ends b (sector_now b n) c) b.address e

abbrev pub sector_failed : Card → Block → ℕ → Exception → Act Turn
sector_failed c b n e = sector_failed_passing false c b n e

-- sector n of the block is done: the operation has ended, the track has, or a sector is next
abbrev pub sector_done : Card → Block → ℕ → Act Turn
sector_done c b n =
    cond (nat_le (left b n) 256) (finished (write_ends b (sector_now b n + 1) c) b)
    (cond (nat_le 59 (sector_now b n)) (sector_failed c b n (EndOfTrack (sector_now b n)))
    (done (turn (in_state (Sector b (n + 1)) c) Stepped)))

-- a transfer that went well is gone on with; one that stopped ends the step
abbrev pub or_stopped : Card → Block → ℕ → Option Stopped → Act Turn → Act Turn
or_stopped c b n None go_on = go_on
or_stopped c b n (Some s) go_on = sector_failed c b n (Storage s.fault s.address)

abbrev pub transferred : Card → Block → ℕ → Moved → Act Turn
transferred c b n m = or_stopped (with_residual m.residual c) b n m.stopped (sector_done (with_residual m.residual c) b n)

-- how many words of the sector the count still asks for
abbrev pub words_left : Block → ℕ → ℕ
words_left b n = min (left b n) 256 / 2

abbrev pub sector_address : Block → ℕ → ℕ
sector_address b n = data_address b + n * 256

-- the found data is tested, and what is good is gone on with
abbrev pub tested : Card → Block → ℕ → Track → ℕ → Act Turn → Act Turn
tested c b n t p go_on = ask (condition_of t p) (λ x. cond (is_good x) go_on (sector_failed c b n (FileDataCheck (sector_now b n))))

abbrev pub verify_sector : Card → Block → ℕ → Track → ℕ → Act Turn
verify_sector c b n t p = tested c b n t p (sector_done c b n)

abbrev pub read_sector : Card → Block → ℕ → Track → ℕ → Act Turn
read_sector c b n t p = tested c b n t p (ask (data_of t p) (λ bytes.
    then (store_words (take (words_left b n) (words_of bytes)) (sector_address b n) (key b) c.residual) (λ m. transferred c b n m)))

abbrev pub gathered : Card → Block → ℕ → Track → ℕ → Fetched → Act Turn
gathered c b n t p f =
    or_stopped (with_residual f.moved.residual c) b n f.moved.stopped
    (send (to_sector t p f.words) (sector_done (with_residual f.moved.residual c) b n))

abbrev pub write_data_sector : Card → Block → ℕ → Track → ℕ → Act Turn
write_data_sector c b n t p = then (fetch_words (words_left b n) (sector_address b n) (key b) c.residual) (λ f. gathered c b n t p f)

abbrev pub found : Card → Block → ℕ → Track → ℕ → Option Operation → Act Turn
found c b n t p (Some ReadData) = read_sector c b n t p
found c b n t p (Some WriteData) = write_data_sector c b n t p
found c b n t p (Some ReadVerify) = verify_sector c b n t p
found c b n t p (Some Seek) = done (turn c NothingToDo)
found c b n t p (Some Recalibrate) = done (turn c NothingToDo)
found c b n t p None = done (turn c NothingToDo)

abbrev pub placed : Card → Block → ℕ → Track → Result ℕ NoRecord → Act Turn
placed c b n t (Ok p) = found c b n t p (operation_of (modifier b))
placed c b n t (Err e) = sector_failed_passing e.passed_spoiled c b n (NoRecordFound (sector_now b n))

abbrev pub searched_sector : Card → Block → ℕ → Track → Act Turn
searched_sector c b n t = ask (ids_of t) (λ fields. placed c b n t (searched (argument b n) fields))

-- a count of zero ends the operation well in one step, without a search, and leaves status word 2
abbrev pub sector_step : Card → Block → ℕ → Act Turn
sector_step c b n =
    cond (count b == 0)
    (cond c.ready (finished c b) (failed c b.address NotReady))
    (cond c.ready (searched_sector c b n (under_heads c.position)) (sector_failed c b n NotReady))

abbrev pub status_sent : Card → Block → Option Stopped → Act Turn
status_sent c b None = finished c b
status_sent c b (Some s) = failed c b.address (Storage s.fault s.address)

-- status words 0 to 3
abbrev pub status_words : Card → List ℕ
status_words c = c.residual ∷ c.errors ∷ c.write_sector ∷ 0 ∷ []

-- as many status words as the count asks for; what they are stored at does not count for the residual address
abbrev pub send_status : Card → Block → Act Turn
send_status c b = then (store_words (take (count b / 2) (status_words c)) (data_address b) (key b) c.residual) (λ m. status_sent c b m.stopped)

abbrev pub in_hand : Card → State → Act Turn
in_hand c Idle = done (turn c NothingToDo)
in_hand c (Fetching p a) = fetch p c a
in_hand c (Moving b) = move c b
in_hand c (Sector b n) = sector_step c b n
in_hand c (Status b) = send_status c b

-- while an interrupt waits there is nothing to do
abbrev pub step : Card → Act Turn
step c = elim c.waiting [
  | None ↦ in_hand c c.state
  | Some w ↦ done (turn c NothingToDo)
]
