-- Nothing is sent but to a place that the processor stored or an executed block named: carried through the rules. Assumes nothing.
use Rattle.std.proofs.Common.{◌≡◌, ℕ, zero, suc, ◌+◌, ◌*◌, ◌%◌, ◌<◌, Bool, true, false, cond, List, [], ◌∷◌, length, Ok, Err, refl, ◌∙◌, subst, arith}
use Rattle.storage.specs.Memory.{Verdict}
use Rattle.drive.specs.Search.{ids}
use Rattle.drive.specs.declared.geometry.Track.{Track}
use Rattle.card.specs.Acts.{World, Executed, Sent, to_word, to_sector, word_at, Act, done, ask, send, execute, answer, put, then, padded, bytes_of}
use Rattle.runs.specs.Places.{Place, word_place, place_of}
use Rattle.card.specs.Words.{Moved, Fetched, fetch_words, store_words, residual_of, well, stopped_at}
use Rattle.runs.proofs.Sending.{ids_kept}

-- where the world stays as it was: the IDs of every track, and what stores are allowed
pub record Kept (w₀ w : World) : Type 0 where
  pub tracks : (t : Track) → ids w.disk t ≡ ids w₀.disk t
  pub verdicts : w.memory.stores ≡ w₀.memory.stores

pub kept_put : (w₀ w : World) (s : Sent) → Kept w₀ w → Kept w₀ (put s w)
kept_put w₀ w (to_word a x) k = record { tracks = k.tracks; verdicts = k.verdicts }
kept_put w₀ w (to_sector t p ws) k = record {
  tracks = λ u. ids_kept w.disk t u p (padded (bytes_of ws)) ∙ k.tracks u;
  verdicts = k.verdicts;
}

-- a rule is safe if all that it sends is covered by the blocks executed until then, and what it comes to is as wished
unfoldable pub Safe : {A : Type 0} → (List Executed → Place → Type 0) → (A → World → List Executed → Type 0) → List Executed → Act A → World → Type 0
Safe cov Q E (done x) w = Q x w E
Safe cov Q E (ask q k) w = Safe cov Q E (k (answer q w)) w
Safe cov Q E (send s a) w = cov E (place_of s) × Safe cov Q E a (put s w)
Safe cov Q E (execute e a) w = Safe cov Q (e ∷ E) a w

module _ (cov : List Executed → Place → Type 0) where
  pub safe_then : {A B : Type 0} (R : B → World → List Executed → Type 0) (E : List Executed) (a : Act A) (f : A → Act B) (w : World)
      → Safe cov (λ x w' E'. Safe cov R E' (f x) w') E a w → Safe cov R E (then a f) w
  unfolding Safe
  safe_then R E (done x) f w safe = safe
  safe_then R E (ask q k) f w safe = safe_then R E (k (answer q w)) f w safe
  safe_then R E (send s a) f w safe = (safe.0, safe_then R E a f (put s w) safe.1)
  safe_then R E (execute e a) f w safe = safe_then R (e ∷ E) a f w safe

  pub safe_map : {A : Type 0} (Q R : A → World → List Executed → Type 0) → ((x : A) (w : World) (E : List Executed) → Q x w E → R x w E)
      → (E : List Executed) (a : Act A) (w : World) → Safe cov Q E a w → Safe cov R E a w
  unfolding Safe
  safe_map Q R weaker E (done x) w safe = weaker x w E safe
  safe_map Q R weaker E (ask q k) w safe = safe_map Q R weaker E (k (answer q w)) w safe
  safe_map Q R weaker E (send s a) w safe = (safe.0, safe_map Q R weaker E a (put s w) safe.1)
  safe_map Q R weaker E (execute e a) w safe = safe_map Q R weaker (e ∷ E) a w safe

  pub safe_cond : {A : Type 0} (Q : A → World → List Executed → Type 0) (E : List Executed) (w : World) (b : Bool) (x y : Act A)
      → (b ≡ true → Safe cov Q E x w) → (b ≡ false → Safe cov Q E y w) → Safe cov Q E (cond b x y) w
  safe_cond Q E w true x y yes' no' = yes' refl
  safe_cond Q E w false x y yes' no' = no' refl

  -- fetching sends nothing
  pub safe_fetch : (R : Fetched → World → List Executed → Type 0) (E : List Executed) (w : World) (n a k r : ℕ) → ((f : Fetched) → R f w E) → Safe cov R E (fetch_words n a k r) w
  unfolding Safe fetch_words
  safe_fetch R E w zero a k r all = all record { words = []; moved = well r }
  safe_fetch R E w (suc n) a k r all =
      go
      (safe_then R E (fetch_words n (a + 2) k (residual_of a)) (λ f. done record { words = w.memory.words a ∷ f.words; moved = f.moved }) w
      (safe_fetch (λ f w' E'. R record { words = w.memory.words a ∷ f.words; moved = f.moved } w' E') E w n (a + 2) k (residual_of a)
      (λ f. all record { words = w.memory.words a ∷ f.words; moved = f.moved })))
      (w.memory.reads a (k % 8))
    where
      go : Safe cov R E (then (fetch_words n (a + 2) k (residual_of a)) (λ f. done record { words = w.memory.words a ∷ f.words; moved = f.moved })) w
          → (v : Verdict) → Safe cov R E (elim v [
            | Ok _ ↦ ask (word_at a) (λ x. then (fetch_words n (a + 2) k (residual_of a)) (λ f. done record { words = x ∷ f.words; moved = f.moved }))
            | Err f ↦ done record { words = []; moved = stopped_at r f a }
          ]) w
      go rest (Ok _) = rest
      go rest (Err f) = all record { words = []; moved = stopped_at r f a }

  -- storing sends words to addresses that are covered
  pub safe_store : (w₀ : World) (R : Moved → World → List Executed → Type 0) (E : List Executed) (xs : List ℕ) (w : World) (a k r : ℕ) → Kept w₀ w
      → ((i : ℕ) → i < length xs → cov E (word_place (a + 2 * i))) → ((m : Moved) (w' : World) → Kept w₀ w' → R m w' E) → Safe cov R E (store_words xs a k r) w
  unfolding Safe store_words
  safe_store w₀ R E [] w a k r kept covered all = all (well r) w kept
  safe_store w₀ R E (x ∷ xs) w a k r kept covered all =
      go
      (safe_store w₀ R E xs (put (to_word a x) w) (a + 2) k (residual_of a) (kept_put w₀ w (to_word a x) kept)
      (λ i h. subst (λ (b : ℕ). cov E (word_place b)) (later i) (covered (suc i) (omega arith))) all)
      (w.memory.stores a (k % 8))
    where
      first : a + 2 * 0 ≡ a
      first = omega arith

      later : (i : ℕ) → a + 2 * suc i ≡ a + 2 + 2 * i
      later i = omega arith

      go : Safe cov R E (store_words xs (a + 2) k (residual_of a)) (put (to_word a x) w) → (v : Verdict) → Safe cov R E (elim v [
        | Ok _ ↦ send (to_word a x) (store_words xs (a + 2) k (residual_of a))
        | Err f ↦ done (stopped_at r f a)
      ]) w
      go rest (Ok _) = (subst (λ (b : ℕ). cov E (word_place b)) first (covered 0 (omega arith)), rest)
      go rest (Err f) = all (stopped_at r f a) w kept
