-- The bits by which an exception is told, and that each of them is explained.
--   byte_mask, reason_mask   the bit of the interrupt status byte; the bit of status word 1
--   byte_bits, reason_bits   all bits of either that are explained
--   ByteExplained      no exception has a status byte with a bit that is not explained
--   ReasonsExplained   no exception adds a bit to status word 1 that is not explained
use Rattle.std.specs.Prelude.{◌≡◌, ℕ, ◌+◌, ◌-◌, Bool, bit_and}
use Rattle.answers.specs.Exceptions.{status_byte, reasons}
use Rattle.answers.specs.declared.answer.Exception.{Exception}
use Rattle.explain.specs.declared.reason.Reason.{Reason}
use Rattle.explain.specs.declared.reason.Reason.TheVariants.{EndOfTrack, NoRecordFound, DataCheck, SeekCheck, NotReady}
use Rattle.explain.specs.declared.status_bit.StatusBit.{StatusBit}
use Rattle.explain.specs.declared.status_bit.StatusBit.TheVariants.{StatusAvailable, SpecificationCheck, StorageDataCheck, InvalidAddress, ProtectCheck}

abbrev pub byte_mask : StatusBit → ℕ
byte_mask StatusAvailable = 0x80
byte_mask SpecificationCheck = 0x10
byte_mask StorageDataCheck = 0x08
byte_mask InvalidAddress = 0x04
byte_mask ProtectCheck = 0x02

abbrev pub reason_mask : Reason → ℕ
reason_mask EndOfTrack = 0x8000
reason_mask NoRecordFound = 0x1000
reason_mask DataCheck = 0x0080
reason_mask SeekCheck = 0x0040
reason_mask NotReady = 0x0001

abbrev pub byte_bits : ℕ
byte_bits = byte_mask StatusAvailable + byte_mask SpecificationCheck + byte_mask StorageDataCheck + byte_mask InvalidAddress + byte_mask ProtectCheck

abbrev pub reason_bits : ℕ
reason_bits = reason_mask EndOfTrack + reason_mask NoRecordFound + reason_mask DataCheck + reason_mask SeekCheck + reason_mask NotReady

abbrev pub ByteExplained : Type 0
ByteExplained = (e : Exception) → bit_and (status_byte e) (0xFF - byte_bits) ≡ 0

abbrev pub ReasonsExplained : Type 0
ReasonsExplained = (passed : Bool) (e : Exception) → bit_and (reasons passed e) (0xFFFF - reason_bits) ≡ 0
