-- The number and the word of each refusal and each fault.
--   refusal_number, refusal_word   of what a pack, a storage or a layer refuses: 21, 22, 24 to 26, 28, 29
--   fault_number, fault_word   of an access to storage that is not allowed: 12 to 14
use Rattle.std.specs.Prelude.{ℕ, List, codes}
use Rattle.basics.specs.declared.fault.Fault.{Fault}
use Rattle.basics.specs.declared.fault.Fault.TheVariants.{StorageDataCheck, InvalidAddress, ProtectCheck}
use Rattle.basics.specs.declared.refusal.Refusal.{Refusal}
use Rattle.basics.specs.declared.refusal.Refusal.TheVariants.{Length, Header, Record, Chain, Double, NoSuchPlace, MarksFull}

abbrev pub fault_number : Fault → ℕ
fault_number StorageDataCheck = 12
fault_number InvalidAddress = 13
fault_number ProtectCheck = 14

abbrev pub fault_word : Fault → List ℕ
fault_word StorageDataCheck = codes "storage data check"
fault_word InvalidAddress = codes "invalid address"
fault_word ProtectCheck = codes "protect check"

abbrev pub refusal_number : Refusal → ℕ
refusal_number Length = 21
refusal_number Header = 22
refusal_number Record = 24
refusal_number Chain = 25
refusal_number Double = 26
refusal_number NoSuchPlace = 28
refusal_number MarksFull = 29

abbrev pub refusal_word : Refusal → List ℕ
refusal_word Length = codes "length"
refusal_word Header = codes "header"
refusal_word Record = codes "record"
refusal_word Chain = codes "chain"
refusal_word Double = codes "double"
refusal_word NoSuchPlace = codes "no such place"
refusal_word MarksFull = codes "marks full"
