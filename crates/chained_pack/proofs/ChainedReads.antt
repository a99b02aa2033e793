-- What is read of a chained pack's bytes at a place that has a record. Assumes nothing. Not all of it is cited here.
use Rattle.std.specs.Prelude.{◌≡◌, ℕ, ◌+◌, true, List, take, drop, Some, slice_index, slice_index_or}
use Rattle.std.proofs.Common.{sym, ◌∙◌}
use Rattle.std.proofs.Math.Path.{ap, ap₂}
use native.Mathlib.Omega.{arith}
use Rattle.drive.specs.Disk.{condition_of, is_good, Sector}
use Rattle.drive.specs.declared.geometry.Track.{Track}
use Rattle.drive.specs.declared.sector.IdField.{IdField}
use Rattle.drive.specs.declared.sector.SectorId.{SectorId}
use Rattle.pack.specs.Layout.{id_of}
use Rattle.pack.proofs.Bytes.{id_from, get_d_part}
use Rattle.chained_pack.specs.Format.{start_of, sector_at, sector_of, record_for, chained_disk}

-- what is read of a place that has a record, which begins at `at`
module _ (b : List ℕ) (t : Track) (p i at : ℕ) (found : Some i ≡ record_for b t p) (here : at ≡ start_of i) where
  sector_here : (chained_disk b).sector t p ≡ sector_at b at
  sector_here = ap (sector_of b) (sym found) ∙ ap (sector_at b) (sym here)

  pub id_read : (n : ℕ) → n ≡ 268 → ◌≡◌ {A = IdField} record { id = id_of (take n (drop at b)) 7; condition = condition_of (slice_index (take n (drop at b)) 5) } ((chained_disk b).sector t p).id
  id_read n size =
      ap₂ (λ (x : SectorId) (c : ℕ). record { id = x; condition = condition_of c })
      (id_from (take n (drop at b)) b 7 (at + 7)
      (λ k small. get_d_part b at n (7 + k) (omega arith) ∙ ap (λ (j : ℕ). slice_index b j) (omega arith)))
      (get_d_part b at n 5 (omega arith))
      ∙ sym (ap (λ (s : Sector). s.id) sector_here)

  pub good_here : slice_index_or b (at + 5) 0 ≡ 0 → is_good ((chained_disk b).sector t p).id.condition ≡ true
  good_here zero' =
      ap (λ (s : Sector). is_good s.id.condition) sector_here ∙ ap (λ (c : ℕ). is_good (condition_of c)) zero'

  pub data_read : (n : ℕ) → n ≡ 256 → take n (drop (at + 12) b) ≡ ((chained_disk b).sector t p).datum.bytes
  data_read n size = ap (λ (m : ℕ). take m (drop (at + 12) b)) size ∙ sym (ap (λ (s : Sector). s.datum.bytes) sector_here)
