-- What a plain pack's bytes mean, before and after a write. Assumes nothing.
use Rattle.std.specs.Prelude.{◌≡◌, ℕ, ◌+◌, ◌*◌, ◌<◌, ◌≤◌, Bool, true, false, cond, ◌&&◌, Result, Ok, Err, refl, ◌≢◌, List, length, get_or, take, drop, ◌==◌, nat_eq, slice_index, slice_set}
use Rattle.std.proofs.Common.{inl, inr, ◌∙◌, arith}
use Rattle.std.proofs.Math.Logic.{⊎_elim}
use Rattle.std.proofs.Math.Path.{sym, ap, ap₂, fun_ext}
use Rattle.std.proofs.Math.Seq.{paste}
use Rattle.std.proofs.lemmas.List.{length-replicate}
use Rattle.std.proofs.lemmas.Bool.{cond-true, cond-false, cases_Bool, both_ways, cases_lt}
use Rattle.basics.specs.declared.refusal.Refusal.{Refusal}
use Rattle.basics.specs.declared.refusal.Refusal.TheVariants.{NoSuchPlace}
use Rattle.drive.specs.Disk.{condition_of, is_good, Sector, Lawful, on_drive, same_track, no_bytes, blank, with_data, replaced, accepts, written}
use Rattle.drive.specs.declared.geometry.Track.{Track}
use Rattle.drive.specs.declared.sector.Condition.{Condition}
use Rattle.drive.specs.declared.sector.SectorId.{SectorId}
use Rattle.pack.specs.Layout.{id_of, sector_in, data_put_in}
use Rattle.pack.specs.declared.sector_at.SectorAt.{SectorAt}
use Rattle.pack.specs.Plain.{place_number, sector_at, plain_disk, StandsFor}
use Rattle.pack.proofs.Bytes.{id_from, length_part, part_same}
use Rattle.pack.proofs.DataPut.{length-put, kept_put, cleared_put, entered_put}
use Rattle.pack.proofs.Numbers.{on_parts, place_within, one_place, same_on, same_number}

made : SectorId → Condition → List ℕ → Condition → Sector
made i c d e = record { id = record { id = i; condition = c }; datum = record { bytes = d; condition = e } }

-- a place whose 264 bytes are the same holds the same sector
pub sector_from : (b c : List ℕ) (m : ℕ) → m * 264 + 264 ≤ length b → m * 264 + 264 ≤ length c → ((j : ℕ) → m * 264 ≤ j → j < m * 264 + 264 → slice_index c j ≡ slice_index b j) → sector_at c m ≡ sector_at b m
unfolding made
sector_from b c m wb wc same =
    ap₂ (λ (x : SectorId) (y : ℕ). made x (condition_of y) (take 256 (drop (m * 264 + 8) c)) (condition_of (slice_index c (m * 264 + 1))))
    (id_from c b (m * 264 + 2) (m * 264 + 2) (λ k h. same (m * 264 + 2 + k) (omega arith) (omega arith)))
    (same (m * 264) (omega arith) (omega arith))
    ∙ ap₂ (λ (x : List ℕ) (y : ℕ). made (id_of b (m * 264 + 2)) (condition_of (slice_index b (m * 264))) x (condition_of y))
    (part_same c b (m * 264 + 8) (m * 264 + 8) 256 (omega arith) (omega arith) (λ k h. same (m * 264 + 8 + k) (omega arith) (omega arith)))
    (same (m * 264 + 1) (omega arith) (omega arith))

pub blank_long : length no_bytes ≡ 256
unfolding no_bytes
blank_long = length-replicate {A = ℕ} 256 0

module _ (h : ℕ) (b : List ℕ) (low : 2 ≤ h) (high : h ≤ 3) (long : length b ≡ h * 4799520) where
  pub inside : (t : Track) (p : ℕ) → on_drive h t p ≡ true → place_number h t p * 264 + 264 ≤ length b
  inside t p on =
      let o = on_parts h t p on in
      rw long (place_within h t.cylinder t.head p o.cylinder o.head o.place)

  pub plain_lawful : Lawful (plain_disk h b)
  plain_lawful = record {
    low = low;
    high = high;
    long = λ t p. ⊎_elim
        (λ on. ap (λ (s : Sector). length s.datum.bytes) (cond-true (on_drive h t p) (sector_at b (place_number h t p)) blank on)
        ∙ length_part b (place_number h t p * 264 + 8) 256 (let w = inside t p on in omega arith))
        (λ off. ap (λ (s : Sector). length s.datum.bytes) (cond-false (on_drive h t p) (sector_at b (place_number h t p)) blank off) ∙ blank_long)
        (cases_Bool (on_drive h t p));
    off = λ t p off. cond-false (on_drive h t p) (sector_at b (place_number h t p)) blank off;
  }

-- the bytes after a write at a place
pub after_write : List ℕ → ℕ → List ℕ → List ℕ
after_write b at new = paste (slice_set b (at + 1) 0) (at + 8) new 256

module _ (b new : List ℕ) (at : ℕ) (size : length new ≡ 256) (within : at + 264 ≤ length b) where
  pub length-written : length (after_write b at new) ≡ length b
  unfolding after_write
  length-written = length-put b new (at + 1) (at + 8) size (omega arith) (omega arith)

  head_kept : (j : ℕ) → j < at + 8 → j ≢ at + 1 → slice_index (after_write b at new) j ≡ slice_index b j
  unfolding after_write
  head_kept j below ne = kept_put b new (at + 1) (at + 8) size (omega arith) (omega arith) j ne (inl below)

  pub kept_below : (j : ℕ) → j < at → slice_index (after_write b at new) j ≡ slice_index b j
  kept_below j below = head_kept j (omega arith) (omega arith)

  pub kept_above : (j : ℕ) → at + 264 ≤ j → slice_index (after_write b at new) j ≡ slice_index b j
  unfolding after_write
  kept_above j above = kept_put b new (at + 1) (at + 8) size (omega arith) (omega arith) j (omega arith) (inr (omega arith))

  cleared : get_or (after_write b at new) (at + 1) 0 ≡ 0
  unfolding after_write
  cleared = cleared_put b new (at + 1) (at + 8) size (omega arith) (omega arith)

  entered : take 256 (drop (at + 8) (after_write b at new)) ≡ new
  unfolding after_write
  entered = entered_put b new (at + 1) (at + 8) size (omega arith) (omega arith)

  pub sector-written : (n : ℕ) → n * 264 ≡ at → sector_at (after_write b at new) n ≡ with_data new (sector_at b n)
  unfolding made
  sector-written n here = rw here
      (ap₂ (λ (x : SectorId) (y : ℕ). made x (condition_of y) (take 256 (drop (at + 8) (after_write b at new))) (condition_of (slice_index (after_write b at new) (at + 1))))
      (id_from (after_write b at new) b (at + 2) (at + 2) (λ k h. head_kept (at + 2 + k) (omega arith) (omega arith)))
      (head_kept at (omega arith) (omega arith))
      ∙ ap₂ (λ (x : List ℕ) (y : ℕ). made (id_of b (at + 2)) (condition_of (slice_index b at)) x (condition_of y)) entered cleared)

-- an accepted write replaces the data of its place, and nothing else
module _ (h : ℕ) (b new : List ℕ) (low : 2 ≤ h) (high : h ≤ 3) (long : length b ≡ h * 4799520) (size : length new ≡ 256) (t : Track) (p : ℕ) (on : on_drive h t p ≡ true) where
  at : ℕ
  at = place_number h t p * 264

  b' : List ℕ
  b' = after_write b at new

  within : at + 264 ≤ length b
  unfolding at
  within = inside h b low high long t p on

  elsewhere : (u : Track) (q : ℕ) → on_drive h u q ≡ true → (same_track u t && q == p) ≡ false → sector_at b' (place_number h u q) ≡ sector_at b (place_number h u q)
  unfolding at b'
  elsewhere u q ou other =
      let n = place_number h t p in
      let m = place_number h u q in
      let w = inside h b low high long u q ou in
      let ne : m ≢ n = λ e. both_ways (same_track u t && q == p) other (one_place h t u p q (on_parts h t p on) (on_parts h u q ou) e) in
      sector_from b (after_write b (n * 264) new) m w (rw (length-written b new (n * 264) size within) w)
      (λ j lo hi. ⊎_elim
      (λ below. kept_below b new (n * 264) size within j (omega arith))
      (λ above. kept_above b new (n * 264) size within j (omega arith))
      (cases_lt m n))

  at_place : (u : Track) (q : ℕ) → (plain_disk h b').sector u q ≡ (replaced (plain_disk h b) t p new).sector u q
  unfolding at b'
  at_place u q =
      let same = same_track u t && nat_eq q p in
      let here = on_drive h u q in
      let old = (plain_disk h b).sector u q in
      let n = place_number h u q in
      ⊎_elim
      (λ yes'.
      let ou = same_on h t u p q yes' ∙ on in
      cond-true here (sector_at (after_write b (place_number h t p * 264) new) n) blank ou
      ∙ sector-written b new (place_number h t p * 264) size within n (ap (λ (x : ℕ). x * 264) (same_number h t u p q yes'))
      ∙ ap (with_data new) (sym (cond-true here (sector_at b n) blank ou))
      ∙ sym (cond-true same (with_data new old) old yes'))
      (λ other. ⊎_elim
      (λ ou. cond-true here _ blank ou ∙ elsewhere u q ou other ∙ sym (cond-true here (sector_at b n) blank ou) ∙ sym (cond-false same (with_data new old) old other))
      (λ off. cond-false here _ blank off ∙ sym (cond-false here (sector_at b n) blank off) ∙ sym (cond-false same (with_data new old) old other))
      (cases_Bool here))
      (cases_Bool same)

  pub plain_written : plain_disk h (paste (slice_set b (place_number h t p * 264 + 1) 0) (place_number h t p * 264 + 8) new 256) ≡ replaced (plain_disk h b) t p new
  unfolding after_write at b'
  plain_written = ap (λ (s : Track → ℕ → Sector). record { heads = h; sector = s }) (fun_ext (λ u. fun_ext (λ q. at_place u q)))

pub good_from : (good : Bool) → Ok tt ≡ cond {A = Result (Unit {0}) Refusal} good (Ok tt) (Err NoSuchPlace) → good ≡ true
good_from true accepted = refl
good_from false accepted = cc

-- where the sector of a place on the drive stands, whose bytes begin at `front`
pub stands_for : (h : ℕ) (b : List ℕ) (t : Track) (p front : ℕ) → on_drive h t p ≡ true → front ≡ place_number h t p * 264 → front + 264 ≤ length b
    → StandsFor h b t p record { front = front; body = front + 8 }
stands_for h b t p front on here room = record {
  on = on;
  front = here;
  body = omega arith;
  within = record { order = omega arith; room = omega arith };
  sector =
      ap (λ (i : ℕ). sector_in b record { front = i; body = i + 8 }) here
      ∙ sym (cond-true (on_drive h t p) (sector_at b (place_number h t p)) blank on);
}

-- what a write at the sector of a place leaves
pub plain_put : (h : ℕ) (b new : List ℕ) → 2 ≤ h → h ≤ 3 → length b ≡ h * 4799520 → length new ≡ 256 → (t : Track) (p : ℕ) (place : SectorAt) → StandsFor h b t p place
    → Ok tt ≡ accepts (plain_disk h b) t p → plain_disk h (data_put_in b place new) ≡ written (plain_disk h b) t p new
plain_put h b new low high long size t p place s accepted =
    ap₂ (λ (i j : ℕ). plain_disk h (paste (slice_set b (i + 1) 0) j new 256)) s.front s.body
    ∙ plain_written h b new low high long size t p s.on
    ∙ sym (cond-true _ _ (plain_disk h b) (good_from (is_good ((plain_disk h b).sector t p).id.condition) accepted))
