-- What refusals and exceptions are told by.
--   command_number, command_word, command_code   of a refused command: its number, 1 to 4, its word and its condition code
--   exception_number, exception_word   of an exception: its number, 11 to 19, and its word
--   layer_of, layer_word   where an exception comes from: the channel, the storage or the drive
--   detail_of     what else it tells: the address of the word that failed, the sector, or nothing
--   detail_number   the address or the sector as a number
--   told_of       what else it tells as a number, zero where it is nothing
--   status_byte   the high byte of the interrupt ID word
--   reasons       the bits that it adds to status word 1; those of no record found say whether a spoiled ID was passed
--   number_of, word_of   of any answer: the number and the word of its refusal or exception; none where the call went well
--   answer_number, answer_word   the same, with zero and the empty word where the call went well
--   code_of       the condition code, where an answer has one
use Rattle.std.specs.Prelude.{ℕ, Bool, cond, List, [], Some, None, codes, Option, option_map, unwrap_or}
use Rattle.basics.specs.declared.fault.Fault.{Fault}
use Rattle.basics.specs.declared.fault.Fault.TheVariants.{StorageDataCheck, InvalidAddress, ProtectCheck}
use Rattle.basics.specs.Numbers.{fault_number, fault_word}
use Rattle.answers.specs.declared.answer.Answer.{Answer}
use Rattle.answers.specs.declared.answer.Answer.TheVariants.{Accepted, CommandRefused, Done, StoreRefused, Interrupt, NothingWaits, Stepped, Ended, Idle}
use Rattle.answers.specs.declared.answer.CommandRefusal.{CommandRefusal}
use Rattle.answers.specs.declared.answer.CommandRefusal.TheVariants.{NotAttached, InterfaceDataCheck, Busy, CommandReject}
use Rattle.answers.specs.declared.answer.Detail.{Detail}
use Rattle.answers.specs.declared.answer.Detail.TheVariants.{Word, Sector}
use Rattle.answers.specs.declared.answer.Layer.{Layer}
use Rattle.answers.specs.declared.answer.Layer.TheVariants.{Channel, Storage as InStorage, Drive as InDrive}
use Rattle.answers.specs.declared.answer.Exception.{Exception}
use Rattle.answers.specs.declared.answer.Exception.TheVariants.{SpecificationCheck, Storage, NoRecordFound, FileDataCheck, EndOfTrack, SeekCheck, NotReady}

abbrev pub command_number : CommandRefusal → ℕ
command_number NotAttached = 1
command_number InterfaceDataCheck = 2
command_number Busy = 3
command_number CommandReject = 4

abbrev pub command_word : CommandRefusal → List ℕ
command_word NotAttached = codes "not attached"
command_word InterfaceDataCheck = codes "interface data check"
command_word Busy = codes "busy"
command_word CommandReject = codes "command reject"

abbrev pub command_code : CommandRefusal → ℕ
command_code NotAttached = 0
command_code InterfaceDataCheck = 5
command_code Busy = 1
command_code CommandReject = 3

abbrev pub exception_number : Exception → ℕ
exception_number SpecificationCheck = 11
exception_number (Storage f a) = fault_number f
exception_number (NoRecordFound s) = 15
exception_number (FileDataCheck s) = 16
exception_number (EndOfTrack s) = 17
exception_number SeekCheck = 18
exception_number NotReady = 19

abbrev pub exception_word : Exception → List ℕ
exception_word SpecificationCheck = codes "specification check"
exception_word (Storage f a) = fault_word f
exception_word (NoRecordFound s) = codes "no record found"
exception_word (FileDataCheck s) = codes "file data check"
exception_word (EndOfTrack s) = codes "end of track"
exception_word SeekCheck = codes "seek check"
exception_word NotReady = codes "not ready"

abbrev pub layer_of : Exception → Layer
layer_of SpecificationCheck = Channel
layer_of (Storage f a) = InStorage
layer_of (NoRecordFound s) = InDrive
layer_of (FileDataCheck s) = InDrive
layer_of (EndOfTrack s) = InDrive
layer_of SeekCheck = InDrive
layer_of NotReady = InDrive

abbrev pub layer_word : Layer → List ℕ
layer_word Channel = codes "channel"
layer_word InStorage = codes "storage"
layer_word InDrive = codes "drive"

abbrev pub detail_of : Exception → Option Detail
detail_of SpecificationCheck = None
detail_of (Storage f a) = Some (Word a)
detail_of (NoRecordFound s) = Some (Sector s)
detail_of (FileDataCheck s) = Some (Sector s)
detail_of (EndOfTrack s) = Some (Sector s)
detail_of SeekCheck = None
detail_of NotReady = None

abbrev pub detail_number : Detail → ℕ
detail_number (Word a) = a
detail_number (Sector s) = s

abbrev pub told_of : Exception → ℕ
told_of e = unwrap_or (option_map detail_number (detail_of e)) 0

abbrev pub fault_byte : Fault → ℕ
fault_byte StorageDataCheck = 0x08
fault_byte InvalidAddress = 0x04
fault_byte ProtectCheck = 0x02

abbrev pub status_byte : Exception → ℕ
status_byte SpecificationCheck = 0x10
status_byte (Storage f a) = fault_byte f
status_byte (NoRecordFound s) = 0x80
status_byte (FileDataCheck s) = 0x80
status_byte (EndOfTrack s) = 0x80
status_byte SeekCheck = 0x80
status_byte NotReady = 0x80

abbrev pub reasons : Bool → Exception → ℕ
reasons spoiled SpecificationCheck = 0
reasons spoiled (Storage f a) = 0
reasons spoiled (NoRecordFound s) = cond spoiled 0x1080 0x1000
reasons spoiled (FileDataCheck s) = 0x0080
reasons spoiled (EndOfTrack s) = 0x8000
reasons spoiled SeekCheck = 0x0040
reasons spoiled NotReady = 0x0001

abbrev pub number_of : Answer → Option ℕ
number_of (Accepted w) = None
number_of (CommandRefused r) = Some (command_number r)
number_of Done = None
number_of (StoreRefused f) = Some (fault_number f)
number_of (Interrupt w) = None
number_of NothingWaits = Some 6
number_of Stepped = None
number_of (Ended e b) = Some (exception_number e)
number_of Idle = Some 5

abbrev pub answer_number : Answer → ℕ
answer_number a = unwrap_or (number_of a) 0

abbrev pub word_of : Answer → Option (List ℕ)
word_of (Accepted w) = None
word_of (CommandRefused r) = Some (command_word r)
word_of Done = None
word_of (StoreRefused f) = Some (fault_word f)
word_of (Interrupt w) = None
word_of NothingWaits = Some (codes "nothing waits")
word_of Stepped = None
word_of (Ended e b) = Some (exception_word e)
word_of Idle = Some (codes "idle")

abbrev pub answer_word : Answer → List ℕ
answer_word a = unwrap_or (word_of a) []

-- commands and service answer a condition code; that of an accepted command is 7
abbrev pub code_of : Answer → Option ℕ
code_of (Accepted w) = Some 7
code_of (CommandRefused r) = Some (command_code r)
code_of Done = None
code_of (StoreRefused f) = None
code_of (Interrupt w) = Some w.code
code_of NothingWaits = None
code_of Stepped = None
code_of (Ended e b) = None
code_of Idle = None
