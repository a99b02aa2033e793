-- Tracks made fresh, one and all.
--   fresh_up_to   a drive with its first tracks made fresh, counted by cylinder, then by head
--   AllFresh      every place on the drive is that of a fresh track
--   FreshPack     a plain pack of a number of bytes with every track fresh
--   MadeFresh     a pack after one of its tracks was made fresh, off the drive none; a chained pack stays as it is
use Rattle.std.specs.Prelude.{◌≡◌, ℕ, zero, suc, ◌*◌, true, cond, Some, vec_items}
use Rattle.std.proofs.Math.Seq.{paste}
use Rattle.drive.specs.Disk.{Disk, on_drive}
use Rattle.drive.specs.declared.geometry.Track.{Track}
use Rattle.pack.specs.Fresh.{fresh_sector, fresh_track, refreshed}
use Rattle.pack.specs.Plain.{place_number, heads_of, plain_disk}
use Rattle.machine.specs.Tracks.{track_at}
use Rattle.machine.specs.declared.any_pack.AnyPack.{AnyPack}
use Rattle.machine.specs.declared.any_pack.AnyPack.TheVariants.{Plain, Chained}

unfoldable pub fresh_up_to : Disk → ℕ → Disk
fresh_up_to d zero = d
fresh_up_to d (suc n) = refreshed (fresh_up_to d n) (track_at d.heads n)

abbrev pub AllFresh : Disk → Type 0
AllFresh d = (t : Track) (p : ℕ) → on_drive d.heads t p ≡ true → d.sector t p ≡ fresh_sector t p

abbrev pub FreshPack : ℕ → AnyPack → Type 0
FreshPack n (Plain p) = (heads_of n ≡ Some p.heads) × AllFresh (plain_disk p.heads (vec_items p.bytes))
FreshPack n (Chained p) = ⊥

abbrev pub MadeFresh : AnyPack → Track → AnyPack → Type 0
MadeFresh (Plain p) t (Plain q) =
    (vec_items q.bytes ≡ cond (on_drive p.heads t 0) (paste (vec_items p.bytes) (place_number p.heads t 0 * 264) (fresh_track t) 15840) (vec_items p.bytes))
    × (plain_disk q.heads (vec_items q.bytes) ≡ cond (on_drive p.heads t 0) (refreshed (plain_disk p.heads (vec_items p.bytes)) t) (plain_disk p.heads (vec_items p.bytes)))
MadeFresh (Plain p) t (Chained q) = ⊥
MadeFresh (Chained p) t (Plain q) = ⊥
MadeFresh (Chained p) t (Chained q) = q ≡ p
