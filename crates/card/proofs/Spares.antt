-- What spares the storage or the drive, part by part. Assumes nothing.
use Rattle.std.proofs.Common.{◌≡◌, ℕ, ◌+◌, ◌*◌, ◌%◌, ◌<◌, true, List, [], ◌∷◌, ◌++◌, length, Ok, Err, refl, ap, ◌∙◌, ap₂, not-suc-le-zero, arith}
use Rattle.std.proofs.lemmas.Bool.{false≢true}
use Rattle.storage.specs.Memory.{Verdict, Memory}
use Rattle.drive.specs.Disk.{Disk}
use Rattle.card.specs.Acts.{World, Sent, to_word, to_sector, spares_storage, spares_drive, Act, done, ask, send, execute, answer, put, ends, sent, world, then}
use Rattle.card.specs.Words.{Moved, store_words, residual_of, stopped_at}

pub sent-then : {A B : Type 0} (a : Act A) (f : A → Act B) (w : World) → sent (then a f) w ≡ sent a w ++ sent (f (ends a w).result) (ends a w).world
sent-then (done x) f w = refl
sent-then (ask q k) f w = sent-then (k (answer q w)) f w
sent-then (send s a) f w = ap (λ (ss : List Sent). s ∷ ss) (sent-then a f (put s w))
sent-then (execute e a) f w = sent-then a f w

pub storage_front : (xs ys : List Sent) → spares_storage (xs ++ ys) ≡ true → spares_storage xs ≡ true
storage_front [] ys e = refl
storage_front (to_word a x ∷ xs) ys e = e
storage_front (to_sector t p ws ∷ xs) ys e = storage_front xs ys e

pub storage_back : (xs ys : List Sent) → spares_storage (xs ++ ys) ≡ true → spares_storage ys ≡ true
storage_back [] ys e = e
storage_back (to_word a x ∷ xs) ys e = absurd (false≢true e)
storage_back (to_sector t p ws ∷ xs) ys e = storage_back xs ys e

pub drive_front : (xs ys : List Sent) → spares_drive (xs ++ ys) ≡ true → spares_drive xs ≡ true
drive_front [] ys e = refl
drive_front (to_word a x ∷ xs) ys e = drive_front xs ys e
drive_front (to_sector t p ws ∷ xs) ys e = e

pub drive_back : (xs ys : List Sent) → spares_drive (xs ++ ys) ≡ true → spares_drive ys ≡ true
drive_back [] ys e = e
drive_back (to_word a x ∷ xs) ys e = drive_back xs ys e
drive_back (to_sector t p ws ∷ xs) ys e = absurd (false≢true e)

-- a store that is allowed is sent
first_sent : (ws : List ℕ) (a k r : ℕ) (w : World) (u : Unit {0}) → 0 < length ws → Ok u ≡ w.memory.stores a (k % 8) → spares_storage (sent (store_words ws a k r) w) ≡ true → ⊥
unfolding store_words
first_sent [] a k r w u some ok spared = not-suc-le-zero some
first_sent (x ∷ xs) a k r w u some ok spared = false≢true (ap (λ (v : Verdict). spares_storage (sent (after v) w)) ok ∙ spared) where
  after : Verdict → Act Moved
  after (Ok _) = send (to_word a x) (store_words xs (a + 2) k (residual_of a))
  after (Err f) = done (stopped_at r f a)

pub not_spared : (ws : List ℕ) (a k r v : ℕ) (d : Disk) (m m₀ : Memory) (i : ℕ) (u : Unit {0}) → i ≡ 0 → m ≡ m₀ → 0 < length ws
    → Ok u ≡ m.stores (a + 2 * i) (k % 8) → spares_storage (sent (store_words ws a k r) (world v d m₀)) ≡ true → ⊥
not_spared ws a k r v d m m₀ i u none same some ok spared =
    let here : a + 2 * i ≡ a = omega arith in
    first_sent ws a k r (world v d m₀) u some (ok ∙ ap₂ (λ (n : Memory) (b : ℕ). n.stores b (k % 8)) same here) spared
