-- How the parts of a step come out. Assumes nothing.
use Rattle.std.specs.Borrow.{GName}
use Rattle.std.specs.Prelude.{Option}
use Rattle.std.proofs.Common.{◌≡◌, ℕ, zero, suc, ◌+◌, ◌*◌, ◌/◌, min, Bool, true, false, cond, List, [], ◌∷◌, length, take, map, w16, sym, refl, ap, ◌∙◌, subst, ap₂, ⊎_elim, arith}
use Rattle.std.specs.Int.{from_be_bytes}
use Rattle.std.specs.List.{take-map}
use Rattle.std.specs.Simd.{first_chunks}
use Rattle.std.proofs.lemmas.List.{take_all}
use Rattle.std.proofs.lemmas.Bool.{cond-true, cases_lt}
use Rattle.storage.specs.Memory.{Memory}
use Rattle.drive.specs.Disk.{Disk, is_good}
use Rattle.drive.specs.declared.geometry.Track.{Track}
use Rattle.card.specs.Acts.{World, Ended, Act, done, ask, device_address, condition_of, data_of, ends, ended, world, then}
use Rattle.card.specs.Blocks.{even, chaining, key, count, data_address}
use Rattle.card.specs.Calls.{Turn}
use Rattle.card.specs.Carrying.{Looks, Carries}
use Rattle.card.specs.Steps.{failed, chained_turn, device_end, finished, residual_for, fetched, fetch, transferred, gathered, words_left, sector_address, read_sector, write_data_sector, status_words, status_sent, send_status}
use Rattle.card.specs.Words.{Moved, Fetched, fetch_words, store_words, words_of}
use Rattle.answers.specs.declared.answer.Exception.TheVariants.{SpecificationCheck}
use Rattle.card.specs.declared.control_block.Block.{Block}
use Rattle.card.specs.declared.registers.Card.{Card}
use Rattle.card.specs.declared.registers.Purpose.{Purpose}
use Rattle.card.specs.declared.surroundings.Surroundings.{Surroundings}
use Rattle.card.proofs.Parts.{carries_ask, carries_cond, carries_first, carries_second}
use Rattle.card.proofs.Transfers.{ends-then}

-- a block that ended well, by the turn that it comes to
pub finished_is : (c : Card) (b : Block) (v : ℕ) (d : Disk) (m : Memory) (t : Turn) → t ≡ cond (chaining b) (chained_turn c b) (device_end v c) → ends (finished c b) (world v d m) ≡ ended t (world v d m)
finished_is c b v d m t is = go (chaining b) ∙ ap (λ (x : Turn). ended x (world v d m)) (sym is) where
  go : (x : Bool) → ends (cond x (done (chained_turn c b)) (ask device_address (λ u. done (device_end u c)))) (world v d m) ≡ ended (cond x (chained_turn c b) (device_end v c)) (world v d m)
  go true = refl
  go false = refl

-- a fetch that stopped, as all that it came to
pub stopped_is : (e : Ended Fetched) (m : Moved) (w : World) → (e.result.moved ≡ m) × (e.world ≡ w) → e ≡ ended record { words = e.result.words; moved = m } w
stopped_is e m w is = ap₂ (λ (n : Moved) (u : World). ended record { words = e.result.words; moved = n } u) is.0 is.1

-- the fetch of a block, by what the eight words came to
pub fetch_is : (p : Purpose) (c : Card) (a from : ℕ) (w : World) (f : Fetched) → even a ≡ true → from ≡ a → ends (fetch_words 8 from 0 c.residual) w ≡ ended f w
    → ends (fetch p c a) w ≡ ends (fetched p (residual_for p c f.moved.residual) a f.words f.moved.stopped) w
fetch_is p c a from w f ok is came =
    let go : Fetched → Act Turn = λ g. fetched p (residual_for p c g.moved.residual) a g.words g.moved.stopped in
    ap (λ (t : Act Turn). ends t w) (cond-true (even a) _ (failed c a SpecificationCheck) ok)
    ∙ ends-then (fetch_words 8 a 0 c.residual) go w ∙ ap (λ (e : Ended Fetched). ends (go e.result) e.world) (ap (λ (n : ℕ). ends (fetch_words 8 n 0 c.residual) w) (sym is) ∙ came)

-- the words of a sector's bytes, by pairs
pub pairs_are : (k : ℕ) (bytes : List ℕ) → length bytes ≡ 2 * k → map (from_be_bytes w16) (first_chunks 2 k bytes) ≡ words_of bytes
unfolding words_of
pairs_are zero [] e = refl
pairs_are zero (h ∷ bytes) e = absurd (omega arith)
pairs_are (suc k) [] e = absurd (omega arith)
pairs_are (suc k) (h ∷ []) e = absurd (omega arith)
pairs_are (suc k) (h ∷ l ∷ bytes) e = ap (λ (ws : List ℕ). (h * 256 + l) ∷ ws) (pairs_are k bytes (omega arith))

-- the words that are stored of a sector
pub sector_words : (b : Block) (n count : ℕ) (bytes found : List ℕ) (pairs : List (List ℕ)) → count ≡ words_left b n → length found ≡ 256 → bytes ≡ found
    → pairs ≡ first_chunks 2 (length bytes / 2) bytes → map (from_be_bytes w16) (take count pairs) ≡ take (words_left b n) (words_of found)
sector_words b n count bytes found pairs is_count long same by_pairs =
    sym (take-map (from_be_bytes w16) count pairs)
    ∙ ap₂ (λ (j : ℕ) (l : List ℕ). take j l) is_count
    (ap (map (from_be_bytes w16)) (by_pairs ∙ ap (λ (l : List ℕ). first_chunks 2 (length l / 2) l) same ∙ ap (λ (k : ℕ). first_chunks 2 (k / 2) found) long) ∙ pairs_are 128 found long)

-- status words that are sent, four at most
pub four_words : (c : Card) (b : Block) (words : List (List ℕ)) (n : ℕ) → map (from_be_bytes w16) words ≡ status_words c → n ≡ min (count b / 2) 4
    → map (from_be_bytes w16) (take n words) ≡ take (count b / 2) (status_words c)
four_words c b words n is is_count =
    sym (take-map (from_be_bytes w16) n words) ∙ ap₂ (λ (j : ℕ) (l : List ℕ). take j l) is_count is ∙ sym (take_four (status_words c) (count b / 2) refl)
  where
    take_four : (l : List ℕ) (j : ℕ) → length l ≡ 4 → take j l ≡ take (min j 4) l
    take_four l j len = ⊎_elim
        (λ low. ap (λ (i : ℕ). take i l) (omega arith))
        (λ high. take_all j l (omega arith) ∙ sym (take_all (min j 4) l (omega arith)))
        (cases_lt j 4)

module _ {D S : Type 0} (disk : D → Disk) (memory : S → Memory) (drive_loan : D → Option GName) (storage_loan : S → Option GName) (before after : Surroundings D S) (x : Turn) (c : Card) (b : Block) where
  -- a sector that was found is read: by what the stores came to
  pub read_carries : (n : ℕ) (t : Track) (p : ℕ) (m : Moved) (ws : List ℕ) (a k : ℕ)
      → is_good ((disk before.drive).sector t p).datum.condition ≡ true → ws ≡ take (words_left b n) (words_of ((disk before.drive).sector t p).datum.bytes)
      → a ≡ sector_address b n → k ≡ key b
      → Carries disk memory drive_loan storage_loan (store_words ws a k c.residual) before m after → Looks disk memory (transferred c b n m) after x → Carries disk memory drive_loan storage_loan (read_sector c b n t p) before x after
  read_carries n t p m ws a k good is_words is_address is_key stores rest =
      let go : Moved → Act Turn = λ m'. transferred c b n m' in
      let rule : List ℕ → ℕ → ℕ → Act Turn = λ l y z. then (store_words l y z c.residual) go in
      let same : rule ws a k ≡ rule (take (words_left b n) (words_of ((disk before.drive).sector t p).datum.bytes)) (sector_address b n) (key b) =
      ap (λ (l : List ℕ). rule l a k) is_words ∙ ap₂ (λ (y z : ℕ). rule (take (words_left b n) (words_of ((disk before.drive).sector t p).datum.bytes)) y z) is_address is_key in
      carries_ask disk memory drive_loan storage_loan before after x (condition_of t p) _
      (carries_cond disk memory drive_loan storage_loan before after x _ _ _ good
      (carries_ask disk memory drive_loan storage_loan before after x (data_of t p) _
      (subst (λ (r : Act Turn). Carries disk memory drive_loan storage_loan r before x after) same (carries_first disk memory drive_loan storage_loan before after x (store_words ws a k c.residual) go m stores rest))))

  -- a sector that was found is written: by what the fetches came to
  pub write_carries : (n : ℕ) (t : Track) (p count a k : ℕ) (f : Fetched) → count ≡ words_left b n → a ≡ sector_address b n → k ≡ key b
      → Looks disk memory (fetch_words count a k c.residual) before f → Carries disk memory drive_loan storage_loan (gathered c b n t p f) before x after → Carries disk memory drive_loan storage_loan (write_data_sector c b n t p) before x after
  write_carries n t p count a k f is_count is_address is_key fetches rest =
      let go : Fetched → Act Turn = λ g. gathered c b n t p g in
      let rule : ℕ → ℕ → ℕ → Act Turn = λ j y z. then (fetch_words j y z c.residual) go in
      let same : rule count a k ≡ rule (words_left b n) (sector_address b n) (key b) =
      ap (λ (j : ℕ). rule j a k) is_count ∙ ap₂ (λ (y z : ℕ). rule (words_left b n) y z) is_address is_key in
      subst (λ (r : Act Turn). Carries disk memory drive_loan storage_loan r before x after) same (carries_second disk memory drive_loan storage_loan before after x (fetch_words count a k c.residual) go f fetches rest)

  -- status is sent: by what the stores came to
  pub status_carries : (m : Moved) (ws : List ℕ) (a k : ℕ) → ws ≡ take (count b / 2) (status_words c) → a ≡ data_address b → k ≡ key b
      → Carries disk memory drive_loan storage_loan (store_words ws a k c.residual) before m after → Looks disk memory (status_sent c b m.stopped) after x → Carries disk memory drive_loan storage_loan (send_status c b) before x after
  status_carries m ws a k is_words is_address is_key stores rest =
      let go : Moved → Act Turn = λ m'. status_sent c b m'.stopped in
      let rule : List ℕ → ℕ → ℕ → Act Turn = λ l y z. then (store_words l y z c.residual) go in
      let same : rule ws a k ≡ rule (take (count b / 2) (status_words c)) (data_address b) (key b) =
      ap (λ (l : List ℕ). rule l a k) is_words ∙ ap₂ (λ (y z : ℕ). rule (take (count b / 2) (status_words c)) y z) is_address is_key in
      subst (λ (r : Act Turn). Carries disk memory drive_loan storage_loan r before x after) same (carries_first disk memory drive_loan storage_loan before after x (store_words ws a k c.residual) go m stores rest)
