-- What the calls answer and leave, the step aside.
--   Turn        a call's turn: the card after it, and its answer
--   new_card    a card just started
--   is_busy     from an accepted Start or Start Cycle Steal Status, or a waiting attention, until service, reset or halt
--   in_state, with_waiting and their like   the card with one register changed
--   interrupt   an interrupt that waits: its condition code and its ID word
--   reset       what Device Reset and Halt leave
--   command, halt, store, readiness, service   the rules of these calls
use Rattle.std.specs.Prelude.{ℕ, ◌+◌, ◌*◌, ◌/◌, ◌%◌, Bool, true, false, cond, not, ◌&&◌, ◌||◌, is_some, Some, None, Ok, Err, Option, ◌==◌, bit_and}
use Rattle.card.specs.Acts.{Act, done, ask, send, device_address, head_count, storing, to_word}
use Rattle.answers.specs.declared.answer.Answer.{Answer}
use Rattle.answers.specs.declared.answer.Answer.TheVariants.{Accepted, CommandRefused, Done, StoreRefused, Interrupt, NothingWaits}
use Rattle.answers.specs.declared.answer.CommandRefusal.TheVariants.{NotAttached, InterfaceDataCheck, Busy, CommandReject}
use Rattle.card.specs.declared.call.Command.{Command}
use Rattle.card.specs.declared.call.Command.TheVariants.{ReadDeviceId, Prepare, DeviceReset, Start, StartCycleStealStatus}
use Rattle.card.specs.declared.registers.Card.{Card}
use Rattle.card.specs.declared.registers.Position.{Position}
use Rattle.card.specs.declared.registers.Purpose.TheVariants.{Operation, Status}
use Rattle.card.specs.declared.registers.State.{State}
use Rattle.card.specs.declared.registers.State.TheVariants.{Idle, Fetching, Moving, Sector, Status as SendingStatus}
use Rattle.answers.specs.declared.waiting.Waiting.{Waiting}

pub record Turn : Type 0 where
  pub card : Card
  pub answer : Answer

abbrev pub turn : Card → Answer → Turn
turn c a = record { card = c; answer = a }

-- heads at cylinder 0 and head 0, all registers zero, interrupts disabled, the unit not ready
abbrev pub new_card : Card
new_card = record {
  position = record { cylinder = 0; head = 0 };
  level = 0;
  enabled = false;
  ready = false;
  state = Idle;
  waiting = None;
  residual = 0;
  errors = 0;
  write_sector = 0;
}

-- the card with some registers changed
abbrev pub in_state : State → Card → Card
in_state s c = record { position = c.position; level = c.level; enabled = c.enabled; ready = c.ready; state = s; waiting = c.waiting; residual = c.residual; errors = c.errors; write_sector = c.write_sector }

abbrev pub with_waiting : Option Waiting → Card → Card
with_waiting w c = record { position = c.position; level = c.level; enabled = c.enabled; ready = c.ready; state = c.state; waiting = w; residual = c.residual; errors = c.errors; write_sector = c.write_sector }

abbrev pub prepared : ℕ → Bool → Card → Card
prepared l e c = record { position = c.position; level = l; enabled = e; ready = c.ready; state = c.state; waiting = c.waiting; residual = c.residual; errors = c.errors; write_sector = c.write_sector }

abbrev pub with_ready : Bool → Card → Card
with_ready r c = record { position = c.position; level = c.level; enabled = c.enabled; ready = r; state = c.state; waiting = c.waiting; residual = c.residual; errors = c.errors; write_sector = c.write_sector }

abbrev pub with_errors : ℕ → Card → Card
with_errors e c = record { position = c.position; level = c.level; enabled = c.enabled; ready = c.ready; state = c.state; waiting = c.waiting; residual = c.residual; errors = e; write_sector = c.write_sector }

abbrev pub with_residual : ℕ → Card → Card
with_residual r c = record { position = c.position; level = c.level; enabled = c.enabled; ready = c.ready; state = c.state; waiting = c.waiting; residual = r; errors = c.errors; write_sector = c.write_sector }

abbrev pub with_write_sector : ℕ → Card → Card
with_write_sector s c = record { position = c.position; level = c.level; enabled = c.enabled; ready = c.ready; state = c.state; waiting = c.waiting; residual = c.residual; errors = c.errors; write_sector = s }

abbrev pub at_position : Position → Card → Card
at_position p c = record { position = p; level = c.level; enabled = c.enabled; ready = c.ready; state = c.state; waiting = c.waiting; residual = c.residual; errors = c.errors; write_sector = c.write_sector }

abbrev pub is_idle : State → Bool
is_idle Idle = true
is_idle (Fetching p a) = false
is_idle (Moving b) = false
is_idle (Sector b n) = false
is_idle (SendingStatus b) = false

abbrev pub is_busy : Card → Bool
is_busy c = not (is_idle c.state) || is_some c.waiting

-- the ID word is the status byte, then the device address
abbrev pub interrupt : ℕ → ℕ → ℕ → Option Waiting
interrupt code byte device = Some record { code = code; id_word = byte * 256 + device }

-- the operation and the waiting interrupt are dropped; bit 15 of status word 1 stays while the unit is not ready
abbrev pub reset : Card → Card
reset c = with_errors (cond c.ready 0 (c.errors % 2)) (with_write_sector 0 (with_waiting None (in_state Idle c)))

abbrev pub command_of : ℕ → Option Command
command_of byte =
    cond (byte == 0x20) (Some ReadDeviceId)
    (cond (byte == 0x60) (Some Prepare)
    (cond (byte == 0x6F) (Some DeviceReset)
    (cond (byte == 0x70) (Some Start)
    (cond (byte == 0x7F) (Some StartCycleStealStatus) None))))

-- only Start, Start Cycle Steal Status and unknown commands meet a busy card
abbrev pub meets_busy : Option Command → Bool
meets_busy None = true
meets_busy (Some ReadDeviceId) = false
meets_busy (Some Prepare) = false
meets_busy (Some DeviceReset) = false
meets_busy (Some Start) = true
meets_busy (Some StartCycleStealStatus) = true

-- an accepted command; x is its second word
abbrev pub accepted : Card → Command → ℕ → Act Turn
accepted c ReadDeviceId x = ask head_count (λ h. done (turn c (Accepted (cond (h == 3) 0x00CA 0x00AA))))
accepted c Prepare x = done (turn (prepared (x / 2 % 16) (x % 2 == 1) c) (Accepted 0))
accepted c DeviceReset x = done (turn (reset c) (Accepted 0))
accepted c Start x = done (turn (in_state (Fetching Operation x) (with_errors (bit_and c.errors 0x013D) c)) (Accepted 0))
accepted c StartCycleStealStatus x = done (turn (in_state (Fetching Status x) c) (Accepted 0))

abbrev pub known : Card → Option Command → ℕ → Act Turn
known c (Some k) x = accepted c k x
known c None x = done (turn c (CommandRefused CommandReject))

-- the tests in their order: device address, parity, busy, unknown
abbrev pub command : Card → ℕ → ℕ → Bool → Act Turn
command c first second parity = ask device_address (λ d.
    cond (not (first % 256 == d)) (done (turn c (CommandRefused NotAttached)))
    (cond (not parity) (done (turn c (CommandRefused InterfaceDataCheck)))
    (cond (is_busy c && meets_busy (command_of (first / 256))) (done (turn c (CommandRefused Busy)))
    (known c (command_of (first / 256)) second))))

abbrev pub halt : Card → Act Turn
halt c = done (turn (reset c) Done)

abbrev pub store : Card → ℕ → ℕ → ℕ → Act Turn
store c a k x = ask (storing a (k % 8)) (λ v. elim v [
  | Ok _ ↦ send (to_word a x) (done (turn c Done))
  | Err f ↦ done (turn c (StoreRefused f))
])

-- attention waits when the unit turns ready, interrupts are enabled and the card is not busy
abbrev pub readiness : Card → Bool → Act Turn
readiness c r =
    cond (r && not c.ready && c.enabled && not (is_busy c))
    (ask device_address (λ d. done (turn (with_waiting (interrupt 4 0 d) (with_ready r c)) Done)))
    (done (turn (with_ready r c) Done))

-- the waiting interrupt is handed over, if interrupts are enabled
abbrev pub served : Card → Option Waiting → Turn
served c (Some w) = turn (with_waiting None c) (Interrupt w)
served c None = turn c NothingWaits

abbrev pub serviced : Card → Turn
serviced c = cond c.enabled (served c c.waiting) (turn c NothingWaits)

abbrev pub service : Card → Act Turn
service c = done (serviced c)
