-- What set-up calls leave.
--   Tries         what a change that a verdict may refuse comes to: it is made, or the machine is handed back as it was
--   Begun         a run that has just begun: a new card, with this device address
--   world_of      what the run of a machine is over
--   HoldsPlain, HoldsKeyed   a storage of that make, with these bytes and keys
--   OpenedPlain, OpenedChained   a pack of that make, with these bytes
--   marking_word, lifting_word   what marking a word and lifting its mark answer
--   marking_place, lifting_place   the same of a field of a place
--   WithStorage   a new run after a change of the storage: of the make below, and these marks over it
--   WithPack      the same of the pack
use Rattle.std.specs.Prelude.{◌≡◌, ℕ, List, Ok, Err, MatchResult, Result, Vec, nat_eq}
use Rattle.std.specs.declared.alloc.Global.{Global}
use Rattle.basics.specs.Marks.{entering}
use Rattle.basics.specs.Table.{held}
use Rattle.basics.specs.declared.handed_back.HandedBack.{HandedBack}
use Rattle.basics.specs.declared.refusal.Refusal.{Refusal}
use Rattle.card.specs.Acts.{World}
use Rattle.card.specs.Calls.{new_card}
use Rattle.drive.specs.Defects.{same_defect, place_mark}
use Rattle.drive.specs.declared.defect.Defect.{Defect}
use Rattle.storage.specs.Makes.{word_mark}
use Rattle.machine.specs.Makes.{any_memory, any_disk, run_world}
use Rattle.machine.specs.declared.any_pack.AnyPack.{AnyPack}
use Rattle.machine.specs.declared.any_pack.AnyPack.TheVariants.{Plain, Chained}
use Rattle.machine.specs.declared.any_storage.AnyStorage.{AnyStorage}
use Rattle.machine.specs.declared.any_storage.AnyStorage.TheVariants.{Plain as PlainStorage, Keyed}
use Rattle.machine.specs.declared.machine.Machine.{Machine}

abbrev pub Tries : Machine → Result (Unit {0}) Refusal → (Machine → Type 0) → Result Machine (HandedBack Machine) → Type 0
Tries before verdict P result = MatchResult result (λ m. (verdict ≡ Ok tt) × P m) (λ e. (verdict ≡ Err e.refusal) × (e.given ≡ before))

abbrev pub Begun : ℕ → Machine → Type 0
Begun device m = (m.run.card ≡ new_card) × (m.run.around.device ≡ device)

abbrev pub world_of : Machine → World
world_of m = run_world m.run

abbrev pub HoldsPlain : Vec ℕ Global → AnyStorage → Type 0
HoldsPlain bytes (PlainStorage s) = s.bytes ≡ bytes
HoldsPlain bytes (Keyed s) = ⊥

abbrev pub HoldsKeyed : Vec ℕ Global → Vec ℕ Global → AnyStorage → Type 0
HoldsKeyed bytes keys (PlainStorage s) = ⊥
HoldsKeyed bytes keys (Keyed s) = (s.plain.bytes ≡ bytes) × (s.keys ≡ keys)

abbrev pub OpenedPlain : Vec ℕ Global → AnyPack → Type 0
OpenedPlain bytes (Plain p) = p.bytes ≡ bytes
OpenedPlain bytes (Chained p) = ⊥

abbrev pub OpenedChained : Vec ℕ Global → AnyPack → Type 0
OpenedChained bytes (Plain p) = ⊥
OpenedChained bytes (Chained p) = p.bytes ≡ bytes

abbrev pub marking_word : Machine → ℕ → Result (Unit {0}) Refusal
marking_word m a = word_mark (any_memory m.run.around.storage.below) a (entering nat_eq 16 a (held m.run.around.storage.marks))

abbrev pub lifting_word : Machine → ℕ → Result (Unit {0}) Refusal
lifting_word m a = word_mark (any_memory m.run.around.storage.below) a (Ok tt)

abbrev pub marking_place : Machine → Defect → Result (Unit {0}) Refusal
marking_place m x = place_mark (any_disk m.run.around.drive.below) x (entering same_defect 32 x (held m.run.around.drive.marks))

abbrev pub lifting_place : Machine → Defect → Result (Unit {0}) Refusal
lifting_place m x = place_mark (any_disk m.run.around.drive.below) x (Ok tt)

abbrev pub WithStorage : Machine → Machine → (AnyStorage → Type 0) → List ℕ → Type 0
WithStorage before m P marks =
    Begun before.run.around.device m
    × (m.run.around.drive ≡ before.run.around.drive)
    × P m.run.around.storage.below
    × (held m.run.around.storage.marks ≡ marks)

abbrev pub WithPack : Machine → Machine → (AnyPack → Type 0) → List Defect → Type 0
WithPack before m P marks =
    Begun before.run.around.device m
    × (m.run.around.storage ≡ before.run.around.storage)
    × P m.run.around.drive.below
    × (held m.run.around.drive.marks ≡ marks)
