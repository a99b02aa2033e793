-- How a transfer of words goes on, word by word. Assumes nothing.
use Rattle.std.proofs.Common.{◌≡◌, ℕ, suc, ◌+◌, ◌-◌, ◌*◌, ◌%◌, ◌<◌, ◌≤◌, List, [], ◌∷◌, ◌++◌, length, get_or, take, drop, set, Ok, Err, sym, refl, ap, ◌∙◌, ap₂, append_assoc, arith}
use Rattle.std.proofs.lemmas.List.{take_all, take_more_set, append-nil, drop_more, drop_all}
use Rattle.basics.specs.declared.fault.Fault.{Fault}
use Rattle.storage.specs.Memory.{Verdict, Memory, loaded, allowed, with_word, where_allowed, stored}
use Rattle.drive.specs.Disk.{Disk}
use Rattle.card.specs.Acts.{Act, done, ask, send, execute, word_at, to_word, World, Ended, answer, put, ends, ended, world, then}
use Rattle.card.specs.Words.{Moved, Fetched, fetch_words, store_words, residual_of, well, stopped_at}

pub ends-then : {A B : Type 0} (a : Act A) (f : A → Act B) (w : World) → ends (then a f) w ≡ ends (f (ends a w).result) (ends a w).world
ends-then (done x) f w = refl
ends-then (ask q k) f w = ends-then (k (answer q w)) f w
ends-then (send s a) f w = ends-then a f (put s w)
ends-then (execute e a) f w = ends-then a f w

-- what a load that went well says of the storage
pub read_ok : (v : Verdict) (x y : ℕ) → Ok x ≡ allowed v y → (v ≡ Ok tt) × (x ≡ y)
read_ok (Ok u) x y e = (refl, cc)
read_ok (Err f) x y e = let z : ◌≡◌ {A = ℕ} 0 1 = cc in absurd (omega arith)

pub read_err : (v : Verdict) (f : Fault) (y : ℕ) → Err f ≡ allowed v y → v ≡ Err f
read_err (Ok u) f y e = let z : ◌≡◌ {A = ℕ} 0 1 = cc in absurd (omega arith)
read_err (Err g) f y e = cc

-- words already fetched, in front of what comes
abbrev pub fronted : List ℕ → Ended Fetched → Ended Fetched
fronted l e = ended record { words = l ++ e.result.words; moved = e.result.moved } e.world

module _ (w : World) (n a k r : ℕ) where
  pub fetch_ok : (x : ℕ) → Ok x ≡ loaded w.memory a (k % 8) → ends (fetch_words (suc n) a k r) w ≡ fronted (x ∷ []) (ends (fetch_words n (a + 2) k (residual_of a)) w)
  unfolding fetch_words
  fetch_ok x e =
      let parts = read_ok (w.memory.reads a (k % 8)) x (w.memory.words a) e in
      ap (λ (v : Verdict). ends (after v) w) parts.0
      ∙ ends-then (fetch_words n (a + 2) k (residual_of a)) (λ f. done record { words = w.memory.words a ∷ f.words; moved = f.moved }) w
      ∙ ap (λ (y : ℕ). fronted (y ∷ []) (ends (fetch_words n (a + 2) k (residual_of a)) w)) (sym parts.1)
    where
      after : Verdict → Act Fetched
      after (Ok _) = ask (word_at a) (λ y. then (fetch_words n (a + 2) k (residual_of a)) (λ f. done record { words = y ∷ f.words; moved = f.moved }))
      after (Err f) = done record { words = []; moved = stopped_at r f a }

  pub fetch_err : (f : Fault) → Err f ≡ loaded w.memory a (k % 8) → ends (fetch_words (suc n) a k r) w ≡ ended record { words = []; moved = stopped_at r f a } w
  unfolding fetch_words
  fetch_err f e = ap (λ (v : Verdict). ends (after v) w) (read_err (w.memory.reads a (k % 8)) f (w.memory.words a) e)
    where
      after : Verdict → Act Fetched
      after (Ok _) = ask (word_at a) (λ y. then (fetch_words n (a + 2) k (residual_of a)) (λ g. done record { words = y ∷ g.words; moved = g.moved }))
      after (Err g) = done record { words = []; moved = stopped_at r g a }

-- the first i words were fetched, and r is the residual address
pub record Fetching (w : World) (n a k from : ℕ) (ws : List ℕ) (i r : ℕ) : Type 0 where
  pub so_far : ends (fetch_words n a k from) w ≡ fronted (take i ws) (ends (fetch_words (n - i) (a + 2 * i) k r) w)

module _ (w : World) (n a k from : ℕ) (ws : List ℕ) where
  module _ (i r : ℕ) (f : Fetching w n a k from ws i r) (within : i < n) where
    next : n - i ≡ suc (n - (i + 1))
    next = omega arith

    at : ℕ
    at = a + 2 * i

    here : ends (fetch_words n a k from) w ≡ fronted (take i ws) (ends (fetch_words (suc (n - (i + 1))) at k r) w)
    unfolding at
    here = f.so_far ∙ ap (λ (m : ℕ). fronted (take i ws) (ends (fetch_words m (a + 2 * i) k r) w)) next

    pub fetching_more : (x : ℕ) → i < length ws → Ok x ≡ loaded w.memory (a + 2 * i) (k % 8) → Fetching w n a k from (set ws i x) (i + 1) (residual_of (a + 2 * i))
    unfolding at
    fetching_more x long e =
        let rest : ℕ → Ended Fetched = λ b. ends (fetch_words (n - (i + 1)) b k (residual_of (a + 2 * i))) w in
        let on : a + 2 * i + 2 ≡ a + 2 * (i + 1) = omega arith in
        record {
          so_far = here ∙ ap (fronted (take i ws)) (fetch_ok w (n - (i + 1)) (a + 2 * i) k r x e)
              ∙ ap (λ (l : List ℕ). ended record { words = l; moved = (rest (a + 2 * i + 2)).result.moved } (rest (a + 2 * i + 2)).world)
              (sym (append_assoc (take i ws) (x ∷ []) (rest (a + 2 * i + 2)).result.words))
              ∙ ap₂ (λ (l : List ℕ) (b : ℕ). fronted l (rest b)) (sym (take_more_set ws i x long)) on;
        }

    pub fetching_stops : (g : Fault) → Err g ≡ loaded w.memory (a + 2 * i) (k % 8)
        → ((ends (fetch_words n a k from) w).result.moved ≡ stopped_at r g (a + 2 * i)) × ((ends (fetch_words n a k from) w).world ≡ w)
    unfolding at
    fetching_stops g e =
        let all = here ∙ ap (fronted (take i ws)) (fetch_err w (n - (i + 1)) (a + 2 * i) k r g e) in
        (ap (λ (x : Ended Fetched). x.result.moved) all, ap (λ (x : Ended Fetched). x.world) all)

  pub fetching_all : (i r : ℕ) → Fetching w n a k from ws i r → i ≡ n → length ws ≡ n → ends (fetch_words n a k from) w ≡ ended record { words = ws; moved = well r } w
  unfolding fetch_words
  fetching_all i r f end long =
      let none : n - i ≡ 0 = omega arith in
      f.so_far ∙ ap (λ (m : ℕ). fronted (take i ws) (ends (fetch_words m (a + 2 * i) k r) w)) none
      ∙ ap (λ (l : List ℕ). ended record { words = l; moved = well r } w) (append-nil (take i ws) ∙ take_all i ws (omega arith))

module _ (w : World) (a k r x : ℕ) (xs : List ℕ) where
  pub store_ok : (u : Unit {0}) → Ok u ≡ w.memory.stores a (k % 8) → ends (store_words (x ∷ xs) a k r) w ≡ ends (store_words xs (a + 2) k (residual_of a)) (put (to_word a x) w)
  unfolding store_words
  store_ok u e = ap (λ (v : Verdict). ends (after v) w) (sym e) where
    after : Verdict → Act Moved
    after (Ok _) = send (to_word a x) (store_words xs (a + 2) k (residual_of a))
    after (Err f) = done (stopped_at r f a)

  pub store_err : (f : Fault) → Err f ≡ w.memory.stores a (k % 8) → ends (store_words (x ∷ xs) a k r) w ≡ ended (stopped_at r f a) w
  unfolding store_words
  store_err f e = ap (λ (v : Verdict). ends (after v) w) (sym e) where
    after : Verdict → Act Moved
    after (Ok _) = send (to_word a x) (store_words xs (a + 2) k (residual_of a))
    after (Err g) = done (stopped_at r g a)

-- the first i words were stored, the world is w', and r is the residual address
pub record Storing (ws : List ℕ) (a k from : ℕ) (w w' : World) (i r : ℕ) : Type 0 where
  pub so_far : ends (store_words ws a k from) w ≡ ends (store_words (drop i ws) (a + 2 * i) k r) w'

module _ (ws : List ℕ) (a k from : ℕ) (w : World) where
  module _ (v : ℕ) (d : Disk) (m : Memory) (i r : ℕ) (f : Storing ws a k from w (world v d m) i r) (within : i < length ws) (x : ℕ) (is : get_or ws i 0 ≡ x) where
    next_word : drop i ws ≡ x ∷ drop (i + 1) ws
    next_word = drop_more ws i 0 within ∙ ap (λ (y : ℕ). y ∷ drop (i + 1) ws) is

    store_here : ends (store_words ws a k from) w ≡ ends (store_words (x ∷ drop (i + 1) ws) (a + 2 * i) k r) (world v d m)
    store_here = f.so_far ∙ ap (λ (l : List ℕ). ends (store_words l (a + 2 * i) k r) (world v d m)) next_word

    pub storing_more : (u : Unit {0}) (m' : Memory) → Ok u ≡ m.stores (a + 2 * i) (k % 8) → m' ≡ stored m (a + 2 * i) (k % 8) x → Storing ws a k from w (world v d m') (i + 1) (residual_of (a + 2 * i))
    storing_more u m' ok after =
        let on : a + 2 * i + 2 ≡ a + 2 * (i + 1) = omega arith in
        let memory : with_word m (a + 2 * i) x ≡ m' = ap (λ (t : Verdict). where_allowed t (with_word m (a + 2 * i) x) m) ok ∙ sym after in
        record {
          so_far = store_here ∙ store_ok (world v d m) (a + 2 * i) k r x (drop (i + 1) ws) u ok
              ∙ ap₂ (λ (b : ℕ) (n : Memory). ends (store_words (drop (i + 1) ws) b k (residual_of (a + 2 * i))) (world v d n)) on memory;
        }

    pub storing_stops : (g : Fault) (m' : Memory) → Err g ≡ m.stores (a + 2 * i) (k % 8) → m' ≡ stored m (a + 2 * i) (k % 8) x → ends (store_words ws a k from) w ≡ ended (stopped_at r g (a + 2 * i)) (world v d m')
    storing_stops g m' bad after =
        let memory : m ≡ m' = ap (λ (t : Verdict). where_allowed t (with_word m (a + 2 * i) x) m) bad ∙ sym after in
        store_here ∙ store_err (world v d m) (a + 2 * i) k r x (drop (i + 1) ws) g bad
        ∙ ap (λ (n : Memory). ended (stopped_at r g (a + 2 * i)) (world v d n)) memory

  pub storing_all : (w' : World) (i r : ℕ) → Storing ws a k from w w' i r → length ws ≤ i → ends (store_words ws a k from) w ≡ ended (well r) w'
  unfolding store_words
  storing_all w' i r f past = f.so_far ∙ ap (λ (l : List ℕ). ends (store_words l (a + 2 * i) k r) w') (drop_all i ws past)
