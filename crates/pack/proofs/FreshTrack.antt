-- The bytes of a fresh track, place by place, and what they mean. Assumes nothing.
use Rattle.std.proofs.Common.{◌≡◌, ℕ, zero, suc, ◌+◌, ◌*◌, ◌<◌, ◌≤◌, true, false, ◌&&◌, eqb, ltb, ◌≢◌, List, [], ◌∷◌, ◌++◌, length, get_or, take, drop, sym, refl, ap, ◌∙◌, ap₂, ⊎_elim, not-suc-le-zero, add-zero, div-add-mod', arith, lit<, lit≤}
use mathlib.Core.Path.{fun_ext}
use lib.ListN.{length-replicate}
use lib.Seq.{paste}
use Rattle.std.proofs.lemmas.List.Edits.{paste-paste}
use Rattle.std.proofs.lemmas.List.{length-append, length-take-le, take_more, take_all, flat_map_more, get_or_append_left, get_or-append_right, get_or-append-add, ext_get_or}
use Rattle.std.proofs.lemmas.Bool.{cond-true, cond-false, cases_Bool, cases_lt, and_parts, and_cases, both_ways, eqb-true, ltb-true, lt-ltb}
use Rattle.std.specs.List.{flat_map}
use Rattle.drive.specs.Disk.{condition_of, Sector, on_drive, same_track, blank}
use Rattle.drive.specs.declared.geometry.Track.{Track}
use Rattle.drive.specs.declared.sector.SectorId.{SectorId}
use Rattle.pack.specs.Layout.{id_of, every_below}
use Rattle.pack.specs.Plain.{place_number, sector_at, plain_disk}
use Rattle.pack.specs.Fresh.{order, order_rule, zero_data, fresh_head, fresh_record, fresh_track, fresh_sector, refreshed}
use Rattle.pack.proofs.Below.{every_at}
use Rattle.pack.proofs.Bytes.{id_from, get_d_part, length_part, get_or-paste_below, get_or-paste_in, get_or-paste_above, length_pasted}
use Rattle.pack.proofs.Numbers.{on_parts, place_within, one_track, same_track_on}
use Rattle.pack.proofs.PlainDisk.{sector_from, inside}

pub length_zeros : length zero_data ≡ 256
unfolding zero_data
length_zeros = length-replicate {A = ℕ} 256 0

pub length_record : (t : Track) (s : ℕ) → length (fresh_record t s) ≡ 264
unfolding fresh_record
length_record t s = length-append (fresh_head t s) zero_data ∙ ap (λ (n : ℕ). 8 + n) length_zeros

pub length-order : length order ≡ 60
unfolding order
length-order = refl

pub length_records : (t : Track) (xs : List ℕ) → length (flat_map (fresh_record t) xs) ≡ length xs * 264
length_records t [] = refl
length_records t (x ∷ xs) =
    length-append (fresh_record t x) (flat_map (fresh_record t) xs)
    ∙ rw (length_record t x, length_records t xs) (omega arith)

-- one place more
pub place_more : (b : List ℕ) (at : ℕ) (t : Track) (i : ℕ) → i < 60 → at ≤ length b
    → paste (paste b at (flat_map (fresh_record t) (take i order)) (i * 264)) (at + i * 264) (fresh_record t (get_or order i 0)) 264
    ≡ paste b at (flat_map (fresh_record t) (take (i + 1) order)) ((i + 1) * 264)
place_more b at t i small within =
    let records = flat_map (fresh_record t) in
    let in_order : i < length order = rw length-order small in
    let so_far : i * 264 ≡ length (records (take i order)) =
    sym (length_records t (take i order) ∙ ap (λ (n : ℕ). n * 264) (length-take-le i order (omega arith))) in
    let longer : records (take i order) ++ fresh_record t (get_or order i 0) ≡ records (take (i + 1) order) =
    flat_map_more (fresh_record t) [] (take i order) (get_or order i 0) ∙ ap records (sym (take_more order i 0 in_order)) in
    let count : i * 264 + 264 ≡ (i + 1) * 264 = omega arith in
    paste-paste b at (records (take i order)) (fresh_record t (get_or order i 0)) (i * 264) 264 so_far (sym (length_record t (get_or order i 0))) within
    ∙ ap₂ (λ (l : List ℕ) (n : ℕ). paste b at l n) longer count

pub all_places : (b : List ℕ) (at : ℕ) (t : Track) (i : ℕ) → i ≡ 60
    → paste b at (flat_map (fresh_record t) (take i order)) (i * 264) ≡ paste b at (fresh_track t) 15840
unfolding fresh_track
all_places b at t i end =
    ap (λ (n : ℕ). paste b at (flat_map (fresh_record t) (take n order)) (n * 264)) end
    ∙ ap (λ (l : List ℕ). paste b at (flat_map (fresh_record t) l) 15840) (take_all 60 order (rw length-order (lit≤ tt)))

-- the order's rule, by one test over the table
pub order_rule_lem : (p : ℕ) → p < 60 → get_or order p 0 ≡ order_rule p
unfolding order every_below
order_rule_lem p small = eqb-true (get_or order p 0) (order_rule p) (every_at (λ i. eqb (get_or order i 0) (order_rule i)) 60 p refl small)

-- byte k of place i
pub byte_of : (t : Track) (xs : List ℕ) (i k : ℕ) → i < length xs → k < 264 → get_or (flat_map (fresh_record t) xs) (i * 264 + k) 0 ≡ get_or (fresh_record t (get_or xs i 0)) k 0
byte_of t [] i k within small = absurd (not-suc-le-zero within)
byte_of t (x ∷ xs) zero k within small =
    ap (λ (n : ℕ). get_or (fresh_record t x ++ flat_map (fresh_record t) xs) n 0) (omega arith)
    ∙ get_or_append_left (fresh_record t x) (flat_map (fresh_record t) xs) 0 k (rw (length_record t x) small)
byte_of t (x ∷ xs) (suc i) k within small =
    get_or-append_right (fresh_record t x) (flat_map (fresh_record t) xs) 264 (suc i * 264 + k) 0 (length_record t x) (omega arith)
    ∙ ap (λ (n : ℕ). get_or (flat_map (fresh_record t) xs) n 0) (omega arith)
    ∙ byte_of t xs i k (omega arith) small

-- the 264 bytes of a fresh place are a fresh sector
pub sector-fresh : (b : List ℕ) (n : ℕ) (t : Track) (p : ℕ) → p < 60 → n * 264 + 264 ≤ length b
    → ((k : ℕ) → k < 264 → get_or b (n * 264 + k) 0 ≡ get_or (fresh_record t (get_or order p 0)) k 0) → sector_at b n ≡ fresh_sector t p
unfolding fresh_record
sector-fresh b n t p small within same =
    let s = get_or order p 0 in
    let made : SectorId → ℕ → List ℕ → ℕ → Sector =
    λ i c d e. record { id = record { id = i; condition = condition_of c }; datum = record { bytes = d; condition = condition_of e } } in
    let id : id_of b (n * 264 + 2) ≡ record { flag = 0; cylinder = t.cylinder; head = t.head; sector = order_rule p } =
    id_from b (fresh_record t s) (n * 264 + 2) 2 (λ k h. ap (λ (j : ℕ). get_or b j 0) (omega arith) ∙ same (2 + k) (omega arith))
    ∙ ap₂ (λ (c q : ℕ). record { flag = 0; cylinder = c; head = t.head; sector = q }) (div-add-mod' t.cylinder 256) (order_rule_lem p small) in
    let first : get_or b (n * 264) 0 ≡ 0 = ap (λ (j : ℕ). get_or b j 0) (sym (add-zero (n * 264))) ∙ same 0 (lit< tt) in
    let bytes : take 256 (drop (n * 264 + 8) b) ≡ zero_data =
    let part = length_part b (n * 264 + 8) 256 (omega arith) in
    ext_get_or 0 (take 256 (drop (n * 264 + 8) b)) zero_data (part ∙ sym length_zeros)
    (λ k h.
    let few : k < 256 = omega (arith, part) in
    get_d_part b (n * 264 + 8) 256 k few ∙ ap (λ (j : ℕ). get_or b j 0) (omega arith) ∙ same (8 + k) (omega arith)
    ∙ get_or-append-add (fresh_head t s) zero_data k 0) in
    ap₂ (λ (i : SectorId) (c : ℕ). made i c (take 256 (drop (n * 264 + 8) b)) (get_or b (n * 264 + 1) 0)) id first
    ∙ ap₂ (λ (d : List ℕ) (e : ℕ). made record { flag = 0; cylinder = t.cylinder; head = t.head; sector = order_rule p } 0 d e) bytes (same 1 (lit< tt))

-- the whole pack after a track was made fresh
module _ (h : ℕ) (b : List ℕ) (low : 2 ≤ h) (high : h ≤ 3) (long : length b ≡ h * 4799520) (t : Track) (on : on_drive h t 0 ≡ true) where
  at : ℕ
  at = place_number h t 0 * 264

  b' : List ℕ
  b' = paste b at (fresh_track t) 15840

  track_long : length (fresh_track t) ≡ 15840
  unfolding fresh_track
  track_long = length_records t order ∙ ap (λ (n : ℕ). n * 264) length-order

  room : at + 15840 ≤ length b
  unfolding at
  room =
      let o = on_parts h t 0 on in
      let last = place_within h t.cylinder t.head 59 o.cylinder o.head (lit< tt) in
      omega arith

  length-fresh : length b' ≡ length b
  unfolding b'
  length-fresh = length_pasted b (fresh_track t) at 15840 track_long room

  within_fresh : (u : Track) (q : ℕ) → on_drive h u q ≡ true → place_number h u q * 264 + 264 ≤ length b'
  within_fresh u q ou = rw length-fresh (inside h b low high long u q ou)

  here : (u : Track) (q : ℕ) → (ou : on_drive h u q ≡ true) → same_track u t ≡ true → q < 60 → sector_at b' (place_number h u q) ≡ fresh_sector t q
  unfolding b' at fresh_track
  here u q ou same small =
      let parts = and_parts (eqb u.cylinder t.cylinder) (eqb u.head t.head) same in
      let track : u.cylinder * h + u.head ≡ t.cylinder * h + t.head =
      ap₂ (λ (c d : ℕ). c * h + d) (eqb-true u.cylinder t.cylinder parts.0) (eqb-true u.head t.head parts.1) in
      let in_order : q < length order = rw length-order small in
      sector-fresh (paste b (place_number h t 0 * 264) (fresh_track t) 15840) (place_number h u q) t q small (within_fresh u q ou)
      (λ k few.
      ap (λ (j : ℕ). get_or (paste b (place_number h t 0 * 264) (fresh_track t) 15840) j 0) (omega arith)
      ∙ get_or-paste_in b (fresh_track t) (place_number h t 0 * 264) 15840 track_long room (q * 264 + k) (omega arith)
      ∙ byte_of t order q k in_order few)

  elsewhere : (u : Track) (q : ℕ) → (ou : on_drive h u q ≡ true) → same_track u t ≡ false → sector_at b' (place_number h u q) ≡ sector_at b (place_number h u q)
  unfolding b' at
  elsewhere u q ou other =
      let o = on_parts h t 0 on in
      let v = on_parts h u q ou in
      let ne : u.cylinder * h + u.head ≢ t.cylinder * h + t.head = λ e.
      both_ways (same_track u t) other (one_track h t u o.head v.head e) in
      let small = v.place in
      sector_from b (paste b (place_number h t 0 * 264) (fresh_track t) 15840) (place_number h u q) (inside h b low high long u q ou) (within_fresh u q ou)
      (λ j lo hi. ⊎_elim
      (λ below. get_or-paste_below b (fresh_track t) (place_number h t 0 * 264) 15840 track_long room j (omega arith))
      (λ above. get_or-paste_above b (fresh_track t) (place_number h t 0 * 264) 15840 track_long room j (omega arith))
      (cases_lt (u.cylinder * h + u.head) (t.cylinder * h + t.head)))

  at_place : (u : Track) (q : ℕ) → (plain_disk h b').sector u q ≡ (refreshed (plain_disk h b) t).sector u q
  at_place u q =
      let test = same_track u t && ltb q 60 in
      let on' = on_drive h u q in
      let old = (plain_disk h b).sector u q in
      let n = place_number h u q in
      ⊎_elim
      (λ hit.
      let parts = and_parts (same_track u t) (ltb q 60) hit in
      let small = ltb-true q 60 parts.1 in
      let ou = same_track_on h t u q parts.0 small on in
      cond-true on' (sector_at b' n) blank ou ∙ here u q ou parts.0 small ∙ sym (cond-true test (fresh_sector t q) old hit))
      (λ miss. ⊎_elim
      (λ ou.
      let small = (on_parts h u q ou).place in
      let other = ⊎_elim (λ e. e) (λ e. absurd (both_ways (ltb q 60) e (lt-ltb q 60 small))) (and_cases (same_track u t) (ltb q 60) miss) in
      cond-true on' (sector_at b' n) blank ou ∙ elsewhere u q ou other ∙ sym (cond-true on' (sector_at b n) blank ou) ∙ sym (cond-false test (fresh_sector t q) old miss))
      (λ off. cond-false on' (sector_at b' n) blank off ∙ sym (cond-false on' (sector_at b n) blank off) ∙ sym (cond-false test (fresh_sector t q) old miss))
      (cases_Bool on'))
      (cases_Bool test)

  pub plain_refreshed : plain_disk h (paste b (place_number h t 0 * 264) (fresh_track t) 15840) ≡ refreshed (plain_disk h b) t
  unfolding at b'
  plain_refreshed = ap (λ (s : Track → ℕ → Sector). record { heads = h; sector = s }) (fun_ext (λ u. fun_ext (λ q. at_place u q)))
