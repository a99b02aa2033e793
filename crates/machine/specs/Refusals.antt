-- Why a track was not made fresh.
--   FreshRefused   the pack is no plain one, or the track is off the drive; the machine is as it was
use Rattle.std.specs.Prelude.{◌≡◌, true, false}
use Rattle.basics.specs.declared.refusal.Refusal.TheVariants.{NoSuchPlace}
use Rattle.drive.specs.Disk.{on_drive}
use Rattle.drive.specs.declared.geometry.Track.{Track}
use Rattle.machine.specs.Makes.{any_disk, is_plain}
use Rattle.machine.specs.declared.machine.Machine.{Machine}
use Rattle.machine.specs.declared.not_fresh.NotFresh.{NotFresh}
use Rattle.machine.specs.declared.not_fresh.NotFresh.TheVariants.{NotPlain, Refused}

abbrev pub FreshRefused : Machine → Track → NotFresh → Type 0
FreshRefused before t (NotPlain m) = (is_plain before.run.around.drive.below ≡ false) × (m ≡ before)
FreshRefused before t (Refused back) =
    (is_plain before.run.around.drive.below ≡ true)
    × (on_drive (any_disk before.run.around.drive.below).heads t 0 ≡ false)
    × (back.refusal ≡ NoSuchPlace)
    × (back.given ≡ before)
