-- What is read of a plain pack's bytes at a place. Assumes nothing. Not all of it is cited here.
use Rattle.std.specs.Prelude.{◌≡◌, ℕ, ◌+◌, ◌*◌, ◌<◌, true, List, length, get_or, take, drop, slice_index, slice_index_or}
use Rattle.std.proofs.Common.{◌∙◌, add-zero, arith, lit<}
use Rattle.std.proofs.Math.Path.{sym, ap, ap₂}
use Rattle.std.proofs.lemmas.List.{get_or_read}
use Rattle.std.proofs.lemmas.Bool.{cond-true}
use Rattle.drive.specs.Disk.{condition_of, is_good, Sector, on_drive, blank}
use Rattle.drive.specs.declared.geometry.Track.{Track}
use Rattle.drive.specs.declared.sector.IdField.{IdField}
use Rattle.drive.specs.declared.sector.SectorId.{SectorId}
use Rattle.pack.specs.Layout.{id_of}
use Rattle.pack.specs.Plain.{place_number, sector_at, plain_disk}
use Rattle.pack.proofs.Bytes.{id_from, get_d_part}

-- what is read at a place on the drive, where its bytes begin at `at`
module _ (h : ℕ) (b : List ℕ) (t : Track) (p at : ℕ) (on : on_drive h t p ≡ true) (here : at ≡ place_number h t p * 264) where
  on_sector : (plain_disk h b).sector t p ≡ sector_at b (place_number h t p)
  on_sector = cond-true (on_drive h t p) (sector_at b (place_number h t p)) blank on

  pub id_read : (n : ℕ) → n ≡ 264 → ◌≡◌ {A = IdField} record { id = id_of (take n (drop at b)) 2; condition = condition_of (slice_index (take n (drop at b)) 0) } ((plain_disk h b).sector t p).id
  id_read n size =
      rw (size, here)
      (ap₂ (λ (i : SectorId) (c : ℕ). record { id = i; condition = condition_of c })
      (id_from (take 264 (drop (place_number h t p * 264) b)) b 2 (place_number h t p * 264 + 2)
      (λ k small. get_d_part b (place_number h t p * 264) 264 (2 + k) (omega arith) ∙ ap (λ (j : ℕ). slice_index b j) (omega arith)))
      (get_d_part b (place_number h t p * 264) 264 0 (lit< tt) ∙ ap (λ (j : ℕ). slice_index b j) (add-zero (place_number h t p * 264)))
      ∙ sym (ap (λ (s : Sector). s.id) on_sector))

  pub good_here : (x : ℕ) → at < length b → x ≡ slice_index_or b at x → x ≡ 0 → is_good ((plain_disk h b).sector t p).id.condition ≡ true
  good_here x within read zero' =
      let byte : get_or b (place_number h t p * 264) 0 ≡ 0 = ap (λ (i : ℕ). slice_index b i) (sym here) ∙ sym (get_or_read b at x within read 0) ∙ zero' in
      ap (λ (s : Sector). is_good s.id.condition) on_sector
      ∙ ap (λ (c : ℕ). is_good (condition_of c)) byte

  pub data_read : (n : ℕ) → n ≡ 256 → take n (drop (at + 8) b) ≡ ((plain_disk h b).sector t p).datum.bytes
  data_read n size =
      ap₂ (λ (m i : ℕ). take m (drop (i + 8) b)) size here ∙ sym (ap (λ (s : Sector). s.datum.bytes) on_sector)
