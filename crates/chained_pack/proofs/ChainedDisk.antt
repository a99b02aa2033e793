-- What a chained pack's bytes mean, before and after a write. Assumes nothing.
use Rattle.std.specs.Prelude.{◌≡◌, ℕ, ◌+◌, ◌-◌, ◌*◌, ◌/◌, ◌%◌, ◌<◌, ◌≤◌, Bool, true, cond, ◌&&◌, ltb, leb, ◌⊎◌, List, length, take, drop, IfSome, Ok, Some, None, Option, ◌==◌, ◌≢◌, nat_eq, nat_le, nat_lt, slice_index, slice_index_or, slice_set}
use Rattle.std.proofs.Common.{inl, inr, ⊎_elim, sym, ◌∙◌, lit<}
use Rattle.std.proofs.Math.Path.{ap, ap₂, fun_ext}
use Rattle.std.proofs.Math.Nat.{mod-lt}
use Rattle.std.proofs.Math.Seq.{paste}
use native.Mathlib.Omega.{arith}
use Rattle.std.proofs.lemmas.Bool.{cond-true, cond-false, cases_Bool, cases_eq, cases_order, both_ways, eq-eqb, eqb-true, and_parts, and_from}
use Rattle.drive.specs.Disk.{condition_of, is_good, Sector, Lawful, accepts, written, on_drive, same_track, with_data, replaced}
use Rattle.drive.specs.declared.geometry.Track.{Track}
use Rattle.drive.specs.declared.sector.Condition.{Condition}
use Rattle.drive.specs.declared.sector.SectorId.{SectorId}
use Rattle.pack.specs.Layout.{every_below, id_of, data_put_in}
use Rattle.pack.specs.declared.sector_at.SectorAt.{SectorAt}
use Rattle.pack.proofs.Below.{every_from}
use Rattle.pack.proofs.Bytes.{id_from, length_part, part_same}
use Rattle.pack.proofs.DataPut.{length-put, kept_put, cleared_put, entered_put}
use Rattle.pack.proofs.Numbers.{on_parts, one_track}
use Rattle.pack.proofs.PlainDisk.{blank_long, good_from}
use Rattle.chained_pack.specs.Chains.{Directory, chains_clear, places_once, record_of, is_at}
use Rattle.chained_pack.specs.Format.{word_at, heads_of, start_of, head_of, directory, sector_at, sector_of, track_number, record_for, chained_disk, StandsFor, data_put, record_put, bytes_after}
use Rattle.chained_pack.specs.Lawful.{length_clear, header_clear, record_clear, is_lawful}
use Rattle.chained_pack.proofs.Parts.{clear_parts, clear_from_lem, room_for_used, heads_low, heads_high}
use Rattle.chained_pack.proofs.Sound.{record_at}
use Rattle.chained_pack.proofs.Walks.{cases_option, record_some}

-- a place that has a record
module _ (b : List ℕ) (t : Track) (p i : ℕ) (found : record_for b t p ≡ Some i) where
  pub found_on_lem : on_drive (heads_of b) t p ≡ true
  found_on_lem = ⊎_elim
      (λ on. on)
      (λ off.
      let none : None ≡ Some i = sym (cond-false (on_drive (heads_of b) t p) (record_of (directory b) (track_number (heads_of b) t) p) None off) ∙ found in
      let z : ◌≡◌ {A = ℕ} 0 1 = cc in absurd (omega arith))
      (cases_Bool (on_drive (heads_of b) t p))

  found_in : (is_at (directory b) (track_number (heads_of b) t) p i ≡ true) × (1 ≤ i) × (i ≤ (directory b).count)
  found_in =
      record_some (is_at (directory b) (track_number (heads_of b) t) p) (directory b).count i
      (sym (cond-true (on_drive (heads_of b) t p) (record_of (directory b) (track_number (heads_of b) t) p) None found_on_lem) ∙ found)

  pub found_track : (directory b).track i ≡ track_number (heads_of b) t
  found_track =
      eqb-true ((directory b).track i) (track_number (heads_of b) t)
      (and_parts ((directory b).track i == track_number (heads_of b) t) ((directory b).place i == p) found_in.0).0

  pub found_place : (directory b).place i ≡ p
  found_place =
      eqb-true ((directory b).place i) p
      (and_parts ((directory b).track i == track_number (heads_of b) t) ((directory b).place i == p) found_in.0).1

  pub found_low : 1 ≤ i
  found_low = found_in.1

  pub found_within : length_clear b ≡ true → start_of i + 268 ≤ length b
  found_within long = let r = room_for_used b long in let h = found_in.2 in let l = found_in.1 in omega arith

pub chained_lawful : (b : List ℕ) → is_lawful b ≡ true → Lawful (chained_disk b)
chained_lawful b lawful =
    let c = clear_parts b lawful in
    record {
      low = heads_low b c.header;
      high = heads_high b c.header;
      long = λ t p. ⊎_elim
          (λ none. ap (λ (o : Option ℕ). length (sector_of b o).datum.bytes) none ∙ blank_long)
          (λ some.
          let w = found_within b t p some.0 some.1 c.long in
          ap (λ (o : Option ℕ). length (sector_of b o).datum.bytes) some.1 ∙ length_part b (start_of some.0 + 12) 256 (omega arith))
          (cases_option (record_for b t p));
      off = λ t p off. ap (sector_of b) (cond-false (on_drive (heads_of b) t p) (record_of (directory b) (track_number (heads_of b) t) p) None off);
    }

made : SectorId → Condition → List ℕ → Condition → Sector
made i c d e = record { id = record { id = i; condition = c }; datum = record { bytes = d; condition = e } }

made_directory : ℕ → (ℕ → ℕ) → (ℕ → ℕ) → (ℕ → ℕ) → (ℕ → ℕ) → Directory
made_directory n f g t p = record { count = n; first = f; next = g; track = t; place = p }

-- the bytes after a write to record i
module _ (b new : List ℕ) (i : ℕ) (size : length new ≡ 256) (low : 1 ≤ i) (within : start_of i + 268 ≤ length b) where
  put_long : length (data_put b (start_of i) new) ≡ length b
  put_long = length-put b new (start_of i + 6) (start_of i + 12) size (omega arith) (omega arith)

  put_kept : (x : ℕ) → (x ≢ start_of i + 6) → (x < start_of i + 12) ⊎ (start_of i + 268 ≤ x) → slice_index (data_put b (start_of i) new) x ≡ slice_index b x
  put_kept x ne outside =
      kept_put b new (start_of i + 6) (start_of i + 12) size (omega arith) (omega arith) x ne
      (⊎_elim (λ below. inl below) (λ above. inr (omega arith)) outside)

  header_kept : (x : ℕ) → x < 136 → slice_index (data_put b (start_of i) new) x ≡ slice_index b x
  header_kept x below = put_kept x (omega arith) (inl (omega arith))

  -- another record, and the front of any record
  other_kept : (j c : ℕ) → (j - 1 ≢ i - 1) → c < 268 → slice_index (data_put b (start_of i) new) (start_of j + c) ≡ slice_index b (start_of j + c)
  other_kept j c ne small =
      ⊎_elim (λ e. absurd (ne e)) (λ apart. ⊎_elim
      (λ lt. put_kept (start_of j + c) (omega arith) (inl (omega arith)))
      (λ gt. put_kept (start_of j + c) (omega arith) (inr (omega arith)))
      apart) (cases_order (j - 1) (i - 1))

  front_kept : (j c : ℕ) → c < 6 → slice_index (data_put b (start_of i) new) (start_of j + c) ≡ slice_index b (start_of j + c)
  front_kept j c small =
      ⊎_elim
      (λ e. put_kept (start_of j + c) (omega arith) (inl (omega arith)))
      (λ ne. other_kept j c ne (omega arith))
      (cases_eq (j - 1) (i - 1))

  word_kept : (x : ℕ) → x + 1 < 136 → word_at (data_put b (start_of i) new) x ≡ word_at b x
  word_kept x below = ap₂ (λ (m n : ℕ). m * 256 + n) (header_kept x (omega arith)) (header_kept (x + 1) below)

  -- the first bytes of a record's front: at c, and at the byte behind it
  front_word : (j c : ℕ) → c < 5 → word_at (data_put b (start_of i) new) (start_of j + c) ≡ word_at b (start_of j + c)
  front_word j c small =
      let next : start_of j + c + 1 ≡ start_of j + (c + 1) = omega arith in
      ap₂ (λ (m n : ℕ). m * 256 + n) (front_kept j c (omega arith))
      (ap (λ (x : ℕ). slice_index (data_put b (start_of i) new) x) next ∙ front_kept j (c + 1) (omega arith) ∙ ap (λ (x : ℕ). slice_index b x) (sym next))

  next_kept : (j : ℕ) → word_at (data_put b (start_of i) new) (start_of j) ≡ word_at b (start_of j)
  next_kept j =
      let here : start_of j ≡ start_of j + 0 = omega arith in
      ap (word_at (data_put b (start_of i) new)) here ∙ front_word j 0 (lit< tt) ∙ ap (word_at b) (sym here)

  pub directory_kept : directory (data_put b (start_of i) new) ≡ directory b
  unfolding made_directory
  directory_kept =
      let firsts : (k : ℕ) → (directory (data_put b (start_of i) new)).first k ≡ (directory b).first k =
      λ k. let small = mod-lt k {m = 64} (lit< tt) in word_kept (8 + k % 64 * 2) (omega arith) in
      ap₂ (λ (n : ℕ) (f : ℕ → ℕ). made_directory n f (directory (data_put b (start_of i) new)).next (directory (data_put b (start_of i) new)).track (directory (data_put b (start_of i) new)).place)
      (word_kept 6 (lit< tt)) (fun_ext firsts)
      ∙ ap₂ (λ (f g : ℕ → ℕ). made_directory (directory b).count (directory b).first f g (directory (data_put b (start_of i) new)).place)
      (fun_ext next_kept) (fun_ext (λ j. front_word j 2 (lit< tt)))
      ∙ ap (λ (f : ℕ → ℕ). made_directory (directory b).count (directory b).first (directory b).next (directory b).track f)
      (fun_ext (λ j. front_kept j 4 (lit< tt)))

  heads_kept : heads_of (data_put b (start_of i) new) ≡ heads_of b
  heads_kept = header_kept 4 (lit< tt)

  condition_kept : (j : ℕ) → nat_le (head_of b j).data_condition 1 ≡ true → nat_le (head_of (data_put b (start_of i) new) j).data_condition 1 ≡ true
  condition_kept j good =
      ⊎_elim
      (λ e.
      let here : start_of j + 6 ≡ start_of i + 6 = omega arith in
      ap (λ (x : ℕ). leb (slice_index (data_put b (start_of i) new) x) 1) here
      ∙ ap (λ (v : ℕ). leb v 1) (cleared_put b new (start_of i + 6) (start_of i + 12) size (omega arith) (omega arith)))
      (λ ne. ap (λ (v : ℕ). leb v 1) (other_kept j 6 ne (lit< tt)) ∙ good)
      (cases_eq (j - 1) (i - 1))

  record_kept : (j : ℕ) → record_clear b j ≡ true → record_clear (data_put b (start_of i) new) j ≡ true
  record_kept j clear =
      let h = head_of b j in
      let a = and_parts (nat_lt h.track (303 * heads_of b) && nat_lt h.place 60 && nat_le h.id_condition 1) (nat_le h.data_condition 1) clear in
      let front : (nat_lt (head_of (data_put b (start_of i) new) j).track (303 * heads_of (data_put b (start_of i) new)) && nat_lt (head_of (data_put b (start_of i) new) j).place 60 && nat_le (head_of (data_put b (start_of i) new) j).id_condition 1)
      ≡ (nat_lt h.track (303 * heads_of b) && nat_lt h.place 60 && nat_le h.id_condition 1) =
      ap₂ (λ (x y : Bool). x && y)
      (ap₂ (λ (x y : Bool). x && y) (ap₂ (λ (x y : ℕ). ltb x (303 * y)) (front_word j 2 (lit< tt)) heads_kept) (ap (λ (x : ℕ). ltb x 60) (front_kept j 4 (lit< tt))))
      (ap (λ (x : ℕ). leb x 1) (front_kept j 5 (lit< tt))) in
      and_from
      (nat_lt (head_of (data_put b (start_of i) new) j).track (303 * heads_of (data_put b (start_of i) new)) && nat_lt (head_of (data_put b (start_of i) new) j).place 60 && nat_le (head_of (data_put b (start_of i) new) j).id_condition 1)
      (nat_le (head_of (data_put b (start_of i) new) j).data_condition 1)
      (front ∙ a.0) (condition_kept j a.1)

  header_same : header_clear (data_put b (start_of i) new) ≡ header_clear b
  header_same =
      rw (header_kept 0 (lit< tt), header_kept 1 (lit< tt), header_kept 2 (lit< tt), header_kept 3 (lit< tt), header_kept 4 (lit< tt), header_kept 5 (lit< tt))

  pub lawful_kept : is_lawful b ≡ true → is_lawful (data_put b (start_of i) new) ≡ true
  lawful_kept lawful =
      let c = clear_parts b lawful in
      let n = ap (λ (d : Directory). d.count) directory_kept in
      clear_from_lem (data_put b (start_of i) new) record {
        long = ap₂ (λ (l k : ℕ). (l == 136 + (l - 136) / 268 * 268) && nat_le ((l - 136) / 268) 65535 && nat_le k ((l - 136) / 268)) put_long n ∙ c.long;
        header = header_same ∙ c.header;
        records =
            ap (every_below (λ j. record_clear (data_put b (start_of i) new) (j + 1))) n
            ∙ every_from (λ j. record_clear (data_put b (start_of i) new) (j + 1)) (directory b).count
            (λ j below. record_kept (j + 1) (record_at (directory b) (record_clear b) (j + 1) c.records (omega arith) (omega arith)));
        chains = ap chains_clear directory_kept ∙ c.chains;
        once = ap places_once directory_kept ∙ c.once;
      }

  pub record_for_kept : (u : Track) (q : ℕ) → record_for (data_put b (start_of i) new) u q ≡ record_for b u q
  record_for_kept u q =
      ap₂ (λ (h : ℕ) (d : Directory). cond (on_drive h u q) (record_of d (track_number h u) q) None) heads_kept directory_kept

  sector-put : sector_at (data_put b (start_of i) new) (start_of i) ≡ with_data new (sector_at b (start_of i))
  unfolding made
  sector-put =
      ap₂ (λ (x : SectorId) (y : ℕ). made x (condition_of y) (take 256 (drop (start_of i + 12) (data_put b (start_of i) new))) (condition_of (slice_index (data_put b (start_of i) new) (start_of i + 6))))
      (id_from (data_put b (start_of i) new) b (start_of i + 7) (start_of i + 7) (λ k small. put_kept (start_of i + 7 + k) (omega arith) (inl (omega arith))))
      (put_kept (start_of i + 5) (omega arith) (inl (omega arith)))
      ∙ ap₂ (λ (x : List ℕ) (y : ℕ). made (id_of b (start_of i + 7)) (condition_of (slice_index b (start_of i + 5))) x (condition_of y))
      (entered_put b new (start_of i + 6) (start_of i + 12) size (omega arith) (omega arith))
      (cleared_put b new (start_of i + 6) (start_of i + 12) size (omega arith) (omega arith))

  sector_kept : (j : ℕ) → (j - 1 ≢ i - 1) → start_of j + 268 ≤ length b → sector_at (data_put b (start_of i) new) (start_of j) ≡ sector_at b (start_of j)
  unfolding made
  sector_kept j ne inside =
      let same : (m k : ℕ) → m + k < 268 → slice_index (data_put b (start_of i) new) (start_of j + m + k) ≡ slice_index_or b (start_of j + m + k) 0 = λ m k small.
      let at : start_of j + m + k ≡ start_of j + (m + k) = omega arith in
      ap (λ (x : ℕ). slice_index (data_put b (start_of i) new) x) at ∙ other_kept j (m + k) ne small ∙ ap (λ (x : ℕ). slice_index b x) (sym at) in
      ap₂ (λ (x : SectorId) (y : ℕ). made x (condition_of y) (take 256 (drop (start_of j + 12) (data_put b (start_of i) new))) (condition_of (slice_index (data_put b (start_of i) new) (start_of j + 6))))
      (id_from (data_put b (start_of i) new) b (start_of j + 7) (start_of j + 7) (λ k small. same 7 k (omega arith)))
      (other_kept j 5 ne (lit< tt))
      ∙ ap₂ (λ (x : List ℕ) (y : ℕ). made (id_of b (start_of j + 7)) (condition_of (slice_index b (start_of j + 5))) x (condition_of y))
      (part_same (data_put b (start_of i) new) b (start_of j + 12) (start_of j + 12) 256 (rw put_long (omega arith)) (omega arith) (λ k small. same 12 k (omega arith)))
      (other_kept j 6 ne (lit< tt))

-- a place that is the same as another is the other
same_place_lem : (t u : Track) (p q : ℕ) → (same_track u t && q == p) ≡ true → (u ≡ t) × (q ≡ p)
same_place_lem t u p q same =
    let outer = and_parts (same_track u t) (q == p) same in
    let inner = and_parts (u.cylinder == t.cylinder) (u.head == t.head) outer.0 in
    (ap₂ (λ (c h : ℕ). record { cylinder = c; head = h }) (eqb-true u.cylinder t.cylinder inner.0) (eqb-true u.head t.head inner.1), eqb-true q p outer.1)

-- a write to the record of a place replaces its data, and nothing else
module _ (b new : List ℕ) (lawful : is_lawful b ≡ true) (size : length new ≡ 256) (t : Track) (p i : ℕ) (found : record_for b t p ≡ Some i) where
  inside : start_of i + 268 ≤ length b
  inside = found_within b t p i found (clear_parts b lawful).long

  at_place : (u : Track) (q : ℕ) → (chained_disk (data_put b (start_of i) new)).sector u q ≡ (replaced (chained_disk b) t p new).sector u q
  at_place u q =
      let b' = data_put b (start_of i) new in
      let same = same_track u t && nat_eq q p in
      let old = (chained_disk b).sector u q in
      let low = found_low b t p i found in
      ap (sector_of b') (record_for_kept b new i size low inside u q)
      ∙ ⊎_elim
      (λ yes'.
      let one = same_place_lem t u p q yes' in
      let here : record_for b u q ≡ Some i = ap₂ (record_for b) one.0 one.1 ∙ found in
      ap (sector_of b') here
      ∙ sector-put b new i size low inside
      ∙ ap (with_data new) (sym (ap (sector_of b) here))
      ∙ sym (cond-true same (with_data new old) old yes'))
      (λ other. ⊎_elim
      (λ none. ap (sector_of b') none ∙ sym (ap (sector_of b) none) ∙ sym (cond-false same (with_data new old) old other))
      (λ some.
      let j = some.0 in
      let found-j = some.1 in
      let low-j = found_low b u q j found-j in
      let ne : j - 1 ≡ i - 1 → ⊥ = λ e.
      let one : j ≡ i = omega arith in
      let on-t = on_parts (heads_of b) t p (found_on_lem b t p i found) in
      let on-u = on_parts (heads_of b) u q (found_on_lem b u q j found-j) in
      let track = sym (found_track b u q j found-j) ∙ ap (directory b).track one ∙ found_track b t p i found in
      let place = sym (found_place b u q j found-j) ∙ ap (directory b).place one ∙ found_place b t p i found in
      both_ways same other
      (and_from (same_track u t) (q == p) (one_track (heads_of b) t u on-t.head on-u.head track) (eq-eqb q p place)) in
      ap (sector_of b') found-j
      ∙ sector_kept b new i size low inside j ne (found_within b u q j found-j (clear_parts b lawful).long)
      ∙ sym (ap (sector_of b) found-j)
      ∙ sym (cond-false same (with_data new old) old other))
      (cases_option (record_for b u q)))
      (cases_Bool same)

  pub chained_written : chained_disk (data_put b (start_of i) new) ≡ replaced (chained_disk b) t p new
  chained_written =
      ap₂ (λ (h : ℕ) (s : Track → ℕ → Sector). record { heads = h; sector = s })
      (heads_kept b new i size (found_low b t p i found) inside) (fun_ext (λ u. fun_ext (λ q. at_place u q)))

-- where the sector of a place that has a record stands
pub stands_for : (b : List ℕ) (t : Track) (p i : ℕ) (at : SectorAt) → record_for b t p ≡ Some i → at.front ≡ start_of i + 5 → at.body ≡ start_of i + 12 → start_of i + 268 ≤ length b
    → StandsFor b t p at
unfolding made
stands_for b t p i at found front body within = record {
  index = i;
  found = found;
  front = front;
  body = body;
  within = record { order = omega arith; room = omega arith };
  sector =
      ap₂ (λ (x : SectorId) (y : ℕ). made x (condition_of y) (take 256 (drop at.body b)) (condition_of (slice_index b (at.front + 1))))
      (ap (id_of b) (omega arith)) (ap (slice_index b) front)
      ∙ ap₂ (λ (j k : ℕ). made (id_of b (start_of i + 7)) (condition_of (slice_index b (start_of i + 5))) (take 256 (drop j b)) (condition_of (slice_index b k)))
      body (omega arith)
      ∙ sym (ap (sector_of b) found);
}

-- an accepted write at the sector of a place
module _ (b new : List ℕ) (lawful : is_lawful b ≡ true) (size : length new ≡ 256) (t : Track) (p : ℕ) (at : SectorAt) (s : StandsFor b t p at) (accepted : Ok tt ≡ accepts (chained_disk b) t p) where
  good_here : is_good ((chained_disk b).sector t p).id.condition ≡ true
  good_here = good_from (is_good ((chained_disk b).sector t p).id.condition) accepted

  put_here : data_put_in b at new ≡ data_put b (start_of s.index) new
  put_here = ap₂ (λ (i j : ℕ). paste (slice_set b i 0) j new 256) (omega (arith, s.front)) s.body

  pub bytes_put : data_put_in b at new ≡ bytes_after b t p new
  bytes_put = put_here ∙ sym (cond-true _ _ b good_here ∙ ap (λ (o : Option ℕ). record_put b o new) s.found)

  pub lawful_put : is_lawful (data_put_in b at new) ≡ true
  lawful_put =
      ap is_lawful put_here
      ∙ lawful_kept b new s.index size (found_low b t p s.index s.found) (found_within b t p s.index s.found (clear_parts b lawful).long) lawful

  pub disk_put : chained_disk (data_put_in b at new) ≡ written (chained_disk b) t p new
  disk_put = ap chained_disk put_here ∙ chained_written b new lawful size t p s.index s.found ∙ sym (cond-true _ _ (chained_disk b) good_here)

-- where the record that was found lies
pub within_pack : (b : List ℕ) (t : Track) (p n : ℕ) → length_clear b ≡ true → n ≡ length b → (o : Option ℕ) → o ≡ record_for b t p → IfSome o (λ i. (1 ≤ i) × (start_of i + 268 ≤ n))
within_pack b t p n long size None found = tt
within_pack b t p n long size (Some i) found =
    let w = found_within b t p i (sym found) long in (found_low b t p i (sym found), omega arith)
