-- How words move between the card and storage: in order, at rising addresses that never wrap, until one is not allowed.
--   Moved         how a transfer ended: the residual address, and the word that was not allowed, if any
--   Fetched       the same, with the words
--   well, stopped_at, residual_of   the two ways to end, and the residual address of a word
--   fetch_words   words read with a key, one after the other
--   store_words   words stored with a key, one after the other
--   words_of      the words of a list of bytes
--   FetchEnds     how a fetch came out: with all its words, or stopped at one
use Rattle.std.specs.Prelude.{◌≡◌, ℕ, zero, suc, ◌+◌, ◌*◌, ◌%◌, List, [], ◌∷◌, Some, None, Ok, Err, Option, Result}
use Rattle.basics.specs.declared.fault.Fault.{Fault}
use Rattle.card.specs.declared.transfer.Stopped.{Stopped}
use Rattle.card.specs.Acts.{World, Ended, ended, Act, done, ask, send, then, word_at, reading, storing, to_word}

pub record Moved : Type 0 where
  pub residual : ℕ
  pub stopped : Option Stopped

pub record Fetched : Type 0 where
  pub words : List ℕ
  pub moved : Moved

abbrev pub well : ℕ → Moved
well residual = record { residual = residual; stopped = None }

abbrev pub stopped_at : ℕ → Fault → ℕ → Moved
stopped_at residual f a = record { residual = residual; stopped = Some record { fault = f; address = a } }

-- the address of a word that was moved, as a word itself: every good address is below X10000
abbrev pub residual_of : ℕ → ℕ
residual_of a = a % 65536

-- n words from an address on; the residual address is that of the last good one. A key is taken mod 8
unfoldable pub fetch_words : ℕ → ℕ → ℕ → ℕ → Act Fetched
fetch_words zero a k residual = done record { words = []; moved = well residual }
fetch_words (suc n) a k residual = ask (reading a (k % 8)) (λ v. elim v [
  | Ok _ ↦ ask (word_at a) (λ x. then (fetch_words n (a + 2) k (residual_of a)) (λ f. done record { words = x ∷ f.words; moved = f.moved }))
  | Err f ↦ done record { words = []; moved = stopped_at residual f a }
])

unfoldable pub store_words : List ℕ → ℕ → ℕ → ℕ → Act Moved
store_words [] a k residual = done (well residual)
store_words (x ∷ xs) a k residual = ask (storing a (k % 8)) (λ v. elim v [
  | Ok _ ↦ send (to_word a x) (store_words xs (a + 2) k (residual_of a))
  | Err f ↦ done (stopped_at residual f a)
])

unfoldable pub words_of : List ℕ → List ℕ
words_of [] = []
words_of (h ∷ []) = h * 256 ∷ []
words_of (h ∷ l ∷ bytes) = (h * 256 + l) ∷ words_of bytes

abbrev pub FetchEnds : Result (Unit {0}) Stopped → Ended Fetched → List ℕ → ℕ → World → Type 0
FetchEnds (Ok _) e words residual w = e ≡ ended record { words = words; moved = well residual } w
FetchEnds (Err s) e words residual w = (e.result.moved ≡ stopped_at residual s.fault s.address) × (e.world ≡ w)
