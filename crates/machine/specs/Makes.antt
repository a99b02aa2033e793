-- A storage and a pack of any make, by what each make means.
--   any_memory   what a storage of any make means
--   any_disk     what a pack of any make means as a drive
--   is_plain     whether a pack is a plain one
--   pack_bytes   the bytes of a pack of any make
--   layered_disk, layered_memory   what they mean under their layers
--   LayeredRun, run_world   a run over a pack with its defect layer and a storage with its parity layer; what it is over
use Rattle.std.specs.Prelude.{ℕ, Bool, true, false, List, vec_items}
use Rattle.storage.specs.Makes.{plain_memory, keyed_memory}
use Rattle.storage.specs.Memory.{Memory}
use Rattle.drive.specs.Disk.{Disk}
use Rattle.pack.specs.Plain.{plain_disk}
use Rattle.chained_pack.specs.Format.{chained_disk}
use Rattle.drive.specs.Defects.{defect_disk}
use Rattle.drive.specs.Defects.{DefectLayer}
use Rattle.storage.specs.Makes.{parity_memory}
use Rattle.storage.specs.Makes.{Parity}
use Rattle.basics.specs.Table.{held}
use Rattle.card.specs.Acts.{World}
use Rattle.card.specs.Carrying.{world_around}
use Rattle.runs.specs.declared.so_far.RunSoFar.{RunSoFar}
use Rattle.machine.specs.declared.any_pack.AnyPack.{AnyPack}
use Rattle.machine.specs.declared.any_pack.AnyPack.TheVariants.{Plain, Chained}
use Rattle.machine.specs.declared.any_storage.AnyStorage.{AnyStorage}
use Rattle.machine.specs.declared.any_storage.AnyStorage.TheVariants.{Plain as PlainStorage, Keyed}

abbrev pub any_memory : AnyStorage → Memory
any_memory (PlainStorage s) = plain_memory (vec_items s.bytes)
any_memory (Keyed s) = keyed_memory (vec_items s.keys) (plain_memory (vec_items s.plain.bytes))

abbrev pub any_disk : AnyPack → Disk
any_disk (Plain p) = plain_disk p.heads (vec_items p.bytes)
any_disk (Chained p) = chained_disk (vec_items p.bytes)

abbrev pub is_plain : AnyPack → Bool
is_plain (Plain p) = true
is_plain (Chained p) = false

abbrev pub pack_bytes : AnyPack → List ℕ
pack_bytes (Plain p) = vec_items p.bytes
pack_bytes (Chained p) = vec_items p.bytes

abbrev pub LayeredRun : Type 0
LayeredRun = RunSoFar (DefectLayer AnyPack) (Parity AnyStorage)

abbrev pub layered_disk : DefectLayer AnyPack → Disk
layered_disk d = defect_disk (held d.marks) (any_disk d.below)

abbrev pub layered_memory : Parity AnyStorage → Memory
layered_memory s = parity_memory (held s.marks) (any_memory s.below)

abbrev pub run_world : LayeredRun → World
run_world r = world_around layered_disk layered_memory r.around
