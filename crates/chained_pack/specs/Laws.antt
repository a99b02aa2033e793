-- What holds of the records of every chained pack that opens, and what a loop is.
--   InUse      a record in use
--   Apart      a list that has no record twice
--   Orderly    each record in use lies on the chain of its track and on no other, once, and is found there by its own track and place
--   Loopless   a chain whose indexes are of records in use comes to its end exactly if it passes no record twice
use Rattle.std.specs.Prelude.{◌≡◌, ℕ, ◌+◌, ◌%◌, ◌<◌, ◌≤◌, true, false, List, [], ◌∷◌, Some, ◌==◌, nat_eq}
use Rattle.drive.specs.Search.{some_of}
use Rattle.chained_pack.specs.Chains.{Directory, chain_from, chain_of, end_from, on_chain, record_of, found_on}

abbrev pub InUse : Directory → ℕ → Type 0
InUse d i = (1 ≤ i) × (i ≤ d.count)

abbrev pub Apart : List ℕ → Type 0
Apart [] = Unit {0}
Apart (i ∷ is) = (some_of (nat_eq i) is ≡ false) × Apart is

pub record Orderly (d : Directory) : Type 0 where
  -- a record in use lies on the chain of its track and on no other
  pub chained : (i k : ℕ) → InUse d i → k < 64 → on_chain d k i ≡ (d.track i % 64 == k)
  -- a chain has records in use only, and none twice
  pub used : (k i : ℕ) → k < 64 → on_chain d k i ≡ true → InUse d i
  pub apart : (k : ℕ) → k < 64 → Apart (chain_of d k)
  -- no two records in use have the same track and place
  pub once : (i j : ℕ) → InUse d i → InUse d j → d.track i ≡ d.track j → d.place i ≡ d.place j → i ≡ j
  -- a record in use is the one of its track and place
  pub own : (i : ℕ) → InUse d i → record_of d (d.track i) (d.place i) ≡ Some i
  -- the first record with a track and place on the chain of the track is the one that has them, or there is none
  pub found : (t p : ℕ) → found_on d t p ≡ record_of d t p

abbrev pub Loopless : Type 0
Loopless =
    (d : Directory) (k : ℕ) → d.first k ≤ d.count → ((i : ℕ) → InUse d i → d.next i ≤ d.count)
    → (end_from d.next d.count (d.first k) ≡ 0 → Apart (chain_from d.next (d.count + 1) (d.first k)))
    × (Apart (chain_from d.next (d.count + 1) (d.first k)) → end_from d.next d.count (d.first k) ≡ 0)
